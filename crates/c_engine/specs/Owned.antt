-- What a handle of the C library owns: the box that it points to, or nothing. Handles that hold
-- something else own it so too.
use Rattle.std.specs.Prelude.{Bool, true, false}
use Rattle.std.specs.declared.option.Option.{Option}
use Rattle.std.specs.declared.option.Option.TheVariants.{None, Some}
use Rattle.std.specs.Coded.{Coded, coded_option}
use base.Fml.{Fml, feq, fex, fsep}
use denote.RattleType.{RattleType}
use denote.RawPtr.{Ptr}
use mir.Syntax.{Ty}
use Rattle.std.specs.declared.alloc.Global.{Global}
use Rattle.std.specs.contracts.impls.GlobalAllocator.TheImpl.{ghosts}
use Rattle.std_alloc.specs.Box.Ownership.{box_owns}
use Rattle.c_engine.specs.contracts.content.Content as content

-- the code of what a handle holds
abbrev pub coded_held : Coded (Option content.the_row.Denot)
coded_held = coded_option content.the_row.coded

-- the one allocator there is, and the right to give a block back to it
abbrev pub the_heap : Global
the_heap = record { memory = record { seal = tt } }

abbrev pub token : Ty → Ptr → Fml
token = ghosts.dealloc_token the_heap

-- a full handle owns the box of what it holds, a value of this type; an empty one holds nothing
abbrev pub owns_box : (X : RattleType) → Bool → Ptr → Option X.Denot → Fml
owns_box X true at it =
    fex X.Denot (λ x. fsep (feq (Option X.Denot) it (Some x)) (box_owns token X at x))
owns_box X false at it = feq (Option X.Denot) it None

abbrev pub owns_held : Bool → Ptr → Option content.the_row.Denot → Fml
owns_held = owns_box content.the_row
