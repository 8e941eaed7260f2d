-- Worked examples, on literals: a wrong rule in specs/ does not check here.
use Rattle.std.proofs.Common.{◌≡◌, ◌∷◌, [], Some, None, true, Ok, pos, codes, refl}
use Rattle.toml.specs.Data.{Members, no_members, member, array, string, integer, item, no_items}
use Rattle.toml.specs.Parse.{parse_document}
use Rattle.toml.proofs.OnLiterals.{toml_on_literals}
use Rattle.hex.specs.Hex.{decode_of}
use Rattle.hex.proofs.OnLiterals.{hex_on_literals}
use Rattle.xcp_base.specs.declared.ring_kind.RingKind.TheVariants.{Bytes, Samples}
use Rattle.xcp_base.specs.declared.id_kind.IdKind.TheVariants.{RelativeWord}
use Rattle.xcp_base.specs.declared.stamp_size.StampSize.TheVariants.{Two}
use Rattle.xcp_base.specs.Forms.{usual_form}
use Rattle.run_file.specs.Keys.{are_keys, caps_of, channels_of, drain_of, id_named, packet_form, ring_named, ring_of, setup_of, stamp_in}
use Rattle.run_file.specs.StepOf.{step_of}
use Rattle.run_file.specs.Steps.{trigger, start, pump}

step_of-a_trigger : step_of 0 (codes "trigger 0 0 aaBB") ≡ Some (trigger 0 0 (170 ∷ 187 ∷ []))
unfolding hex_on_literals
step_of-a_trigger = refl

step_of-pump : step_of 0 (codes "pump") ≡ Some pump
step_of-pump = refl

step_of-no_image : step_of 0 (codes "trigger 0 0") ≡ None
step_of-no_image = refl

step_of-no_such_channel : step_of 0 (codes "trigger 1 0 aabb") ≡ None
unfolding hex_on_literals
step_of-no_such_channel = refl

step_of-two_spaces : step_of 0 (codes "start 0  9") ≡ None
step_of-two_spaces = refl

step_of-zero_in_front : step_of 0 (codes "stop 0 09") ≡ None
step_of-zero_in_front = refl

step_of-a_start : step_of 7 (codes "start 7 255") ≡ Some (start 7 255)
step_of-a_start = refl

-- a key without a value
parse_document-key_without_value : parse_document (codes "channels =\nimage_len = 2\n") ≡ None
unfolding toml_on_literals
parse_document-key_without_value = refl

abbrev members : Members
members =
    member (codes "caps") (array (item (integer (pos 0)) no_items))
    (member (codes "channels") (integer (pos 1))
    (member (codes "image_len") (integer (pos 2))
    (member (codes "setup") (array (item (string (codes "d6")) (item (string (codes "d")) no_items)))
    (member (codes "steps") (array (item (string (codes "pump")) (item (string (codes "trigger 0 0")) no_items))) no_members))))

parse_document-members : parse_document (codes "channels = 1\nimage_len = 2\ncaps = [0]\nsetup = [\"d6\", \"d\"]\nsteps = [\"pump\", \"trigger 0 0\"]\n") ≡ Some members
unfolding toml_on_literals
parse_document-members = refl

are_keys-members : are_keys members ≡ true
are_keys-members = refl

channels_of-members : channels_of members ≡ Some 1
channels_of-members = refl

caps_of-members : caps_of Samples 1 members ≡ None
caps_of-members = refl

setup_of-members : setup_of members ≡ Some (codes "d6" ∷ codes "d" ∷ [])
setup_of-members = refl

drain_of-members : drain_of members ≡ Some true
drain_of-members = refl

decode_of-command : decode_of (codes "d6") ≡ Ok (214 ∷ [])
unfolding hex_on_literals
decode_of-command = refl

-- a ring of samples where the key is absent
ring_of-members : ring_of members ≡ Some Samples
ring_of-members = refl

ring_named-bytes : ring_named (codes "bytes") ≡ Some Bytes
ring_named-bytes = refl

ring_named-other : ring_named (codes "Bytes") ≡ None
ring_named-other = refl

-- an absolute ODT number and 4 bytes where the keys are absent
packet_form-members : packet_form members ≡ Some usual_form
packet_form-members = refl

id_named-word : id_named (codes "word") ≡ Some RelativeWord
id_named-word = refl

id_named-other : id_named (codes "Word") ≡ None
id_named-other = refl

stamp_in-two : stamp_in (integer (pos 2)) ≡ Some Two
stamp_in-two = refl

stamp_in-three : stamp_in (integer (pos 3)) ≡ None
stamp_in-three = refl
