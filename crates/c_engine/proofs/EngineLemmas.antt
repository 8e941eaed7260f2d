-- What becomes of an engine that hands a sampler out, and where it takes it back.
use Rattle.std.proofs.Common.{◌≡◌, ◌∙◌, ◌<◌, List, [], Option, Some, None, ap, arith, inl, inr, length, subst, sym}
use Rattle.std.proofs.lemmas.List.{append-nil}
use Rattle.sampler.specs.State.{SamplerState}
use Rattle.c_engine.specs.Lendings.{LendingState}
use Rattle.c_engine.specs.Lends.{Lends}
use Rattle.c_engine.specs.States.{EngineState, samplers_in}
use Rattle.c_engine.specs.declared.content.Content.{Content}
use Rattle.c_engine.specs.declared.status.Status.{Status}
use Rattle.c_engine.specs.declared.status.Status.TheVariants as status
use Rattle.c_engine.specs.Engines.{HandsSampler, KeepsAll, LendsNone, LendsOut}

module _ {S T E : Type 0} where
  -- its samplers are those inside
  pub lends-inside : {s before now : EngineState S T E} {sampler : SamplerState S} → s ≡ now
      → LendsOut before now sampler → Lends before.lending s.lending sampler
  lends-inside {s} {before} {now} {sampler} is lends =
      subst (λ (e : EngineState S T E). Lends before.lending e.lending sampler) (sym is) lends.lends

  same-parts : {a b : EngineState S T E} → a.transmitter ≡ b.transmitter → a.lending ≡ b.lending → a.lines ≡ b.lines → a ≡ b
  same-parts {a} {b} one two three =
      ap (λ t. record a { transmitter = t }) one
      ∙ ap (λ l. record { transmitter = b.transmitter; lending = l; lines = a.lines }) two
      ∙ ap (λ r. record { transmitter = b.transmitter; lending = b.lending; lines = r }) three

  -- with the samplers of before it is the engine of before
  pub lent-before : {s before now : EngineState S T E} {sampler : SamplerState S} {lending : LendingState S E} → s ≡ now
      → LendsOut before now sampler → lending ≡ before.lending → record s { lending = lending } ≡ before
  lent-before {s} {before} {now} {sampler} {lending} is lends same =
      same-parts
      (ap (λ (e : EngineState S T E). e.transmitter) is ∙ lends.transmitter)
      same
      (ap (λ (e : EngineState S T E). e.lines) is ∙ lends.lines)

module _ {S T E : Type 0} where
  -- one that is as it was keeps all
  keeps : {s t : EngineState S T E} → t ≡ s → KeepsAll s t
  keeps is = record {
    samplers = ap (λ (e : EngineState S T E). samplers_in e) is;
    transmitter = ap (λ (e : EngineState S T E). e.transmitter) is;
    began = ap (λ (e : EngineState S T E). e.lending.began) is;
    ends = ([], append-nil _ ∙ ap (λ (e : EngineState S T E). e.lending.ends) (sym is));
  }

  module _ (holds : SamplerState S → Content) {s t : EngineState S T E} {given : Option Content} where
    -- a sampler goes out, none does, or it went out and came back
    pub hands-one : {sampler : SamplerState S} → given ≡ Some (holds sampler) → LendsOut s t sampler
        → HandsSampler holds s t given status.Ok
    hands-one {sampler} is lends = (
      sampler,
      is,
      record { first = lends.lends.first; transmitter = lends.transmitter; began = lends.lends.began; ends = lends.lends.ends },
    )

    pub hands-none : (result : Status) → given ≡ None → LendsNone s t result → HandsSampler holds s t given result
    hands-none result empty (is, inl (which, none)) =
        subst (λ r. HandsSampler holds s t given r) (sym which) (none, keeps is, empty)
    hands-none result empty (is, inr (which, some)) =
        subst (λ r. HandsSampler holds s t given r) (sym which) (some, keeps is, empty)

    pub hands-back : {m : EngineState S T E} {sampler : SamplerState S} → given ≡ None
        → LendsOut s m sampler → t ≡ s → HandsSampler holds s t given status.Memory
    hands-back {m} {sampler} empty lends is = (
      subst (λ (xs : List (SamplerState S)). 0 < length xs) (sym lends.lends.first) (omega arith),
      keeps is,
      empty,
    )
