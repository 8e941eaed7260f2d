-- Laws of how packets look: as the newest reply said that told it. They look at the places of
-- exchanges, with the newest in front.
use Rattle.std.specs.Prelude.{◌≡◌, ℕ, ◌/◌, ◌%◌, ◌==◌, ◌&&◌, Bool, true, false, All, List, ◌∷◌, ◌++◌}
use Rattle.std.specs.Prelude.{slice_index, Some}
use Rattle.measured_values.specs.declared.byte_order.ByteOrder.{ByteOrder}
use Rattle.captured_session.specs.Codes.{has_positive, is_of}
use Rattle.captured_session.specs.Commands.{word}
use Rattle.captured_session.specs.Exchanges.{Exchange}
use Rattle.captured_session.specs.SetUps.{field_of, form_after, order_of}
use Rattle.captured_session.specs.declared.form.Form.{Form}

-- a CONNECT whose positive reply has COMM_MODE_BASIC, its byte 2
abbrev pub tells_order : Exchange → Bool
tells_order (c, reply) = is_of 0xFF 1 c && has_positive 3 reply

-- a GET_DAQ_PROCESSOR_INFO whose positive reply has DAQ_PROPERTIES and DAQ_KEY_BYTE, its bytes 1
-- and 7
abbrev pub tells_field : Exchange → Bool
tells_field (c, reply) = is_of 0xDA 1 c && has_positive 8 reply

-- a GET_DAQ_RESOLUTION_INFO whose positive reply has TIMESTAMP_MODE and TIMESTAMP_TICKS, its byte 5
-- and its bytes 6 and 7
abbrev pub tells_stamp : Exchange → Bool
tells_stamp (c, reply) = is_of 0xD9 1 c && has_positive 8 reply

-- what these replies tell: the byte order and the granularity
abbrev pub HasOrder : Form → List ℕ → Type 0
HasOrder form reply =
    (form.has_order ≡ true) × (form.order ≡ order_of (slice_index reply 2))
    × (form.granularity ≡ slice_index reply 2 / 2 % 4)

-- the identification field, and whether a PID has the overload indication
abbrev pub HasField : Form → List ℕ → Type 0
HasField form reply =
    (form.has_field ≡ true) × (form.field ≡ field_of (slice_index reply 7 / 64 % 4))
    × (form.has_overload ≡ (slice_index reply 1 / 64 % 2 == 1))

-- how timestamps look; a tick is a number in the byte order that stood then
abbrev pub HasStamp : ByteOrder → Form → List ℕ → Type 0
HasStamp order form reply =
    (form.has_stamp ≡ true) × (form.stamp ≡ slice_index reply 5)
    × (form.ticks ≡ word order (slice_index reply 6) (slice_index reply 7))

abbrev pub SameOrder : Form → Form → Type 0
SameOrder a b =
    (a.has_order ≡ b.has_order) × (a.order ≡ b.order) × (a.granularity ≡ b.granularity)

abbrev pub SameField : Form → Form → Type 0
SameField a b =
    (a.has_field ≡ b.has_field) × (a.field ≡ b.field) × (a.has_overload ≡ b.has_overload)

abbrev pub SameStamp : Form → Form → Type 0
SameStamp a b = (a.has_stamp ≡ b.has_stamp) × (a.stamp ≡ b.stamp) × (a.ticks ≡ b.ticks)

-- byte order and granularity are those that the newest reply told which tells them
abbrev pub OrderIsNewest : Type 0
OrderIsNewest =
    (given : Form) (later before : List Exchange) (c reply : List ℕ)
    → tells_order (c, Some reply) ≡ true → All (λ x. tells_order x ≡ false) later
    → HasOrder (form_after given (later ++ (c, Some reply) ∷ before)) reply

-- and those that were given, if there is none
abbrev pub OrderIsGiven : Type 0
OrderIsGiven =
    (given : Form) (xs : List Exchange) → All (λ x. tells_order x ≡ false) xs
    → SameOrder (form_after given xs) given

-- the same of the identification field and the overload indication
abbrev pub FieldIsNewest : Type 0
FieldIsNewest =
    (given : Form) (later before : List Exchange) (c reply : List ℕ)
    → tells_field (c, Some reply) ≡ true → All (λ x. tells_field x ≡ false) later
    → HasField (form_after given (later ++ (c, Some reply) ∷ before)) reply

abbrev pub FieldIsGiven : Type 0
FieldIsGiven =
    (given : Form) (xs : List Exchange) → All (λ x. tells_field x ≡ false) xs
    → SameField (form_after given xs) given

-- and of timestamps
abbrev pub StampIsNewest : Type 0
StampIsNewest =
    (given : Form) (later before : List Exchange) (c reply : List ℕ)
    → tells_stamp (c, Some reply) ≡ true → All (λ x. tells_stamp x ≡ false) later
    → HasStamp (form_after given before).order
    (form_after given (later ++ (c, Some reply) ∷ before)) reply

abbrev pub StampIsGiven : Type 0
StampIsGiven =
    (given : Form) (xs : List Exchange) → All (λ x. tells_stamp x ≡ false) xs
    → SameStamp (form_after given xs) given
