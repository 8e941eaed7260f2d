-- What holds of what a handle holds holds of the handle.
use Rattle.std.proofs.Common.{◌≡◌, Some, ap, refl, sym, subst}
use Rattle.c_engine.specs.Engines.{OnEngine}
use Rattle.c_engine.specs.Samplers.{OnSampler}
use Rattle.c_engine.specs.States.{ByteEngine, ByteSampler, ItemEngine, ItemSampler}
use Rattle.c_engine.specs.States.{Bytes, Items}
use Rattle.c_engine.specs.contracts.held_ring.SampleRingHeldRing.TheImpl.{ghosts as of_items}
use Rattle.c_engine.specs.contracts.held_ring.ByteRingHeldRing.TheImpl.{ghosts as of_bytes}
use Rattle.c_engine.specs.declared.content.Content.{Content}
use Rattle.c_engine.specs.declared.content.Content.TheVariants as held
use Rattle.c_engine.specs.declared.status.Status.{Status}

-- the two kinds of rings
abbrev pub items : Items
items = of_items.rings

abbrev pub bytes : Bytes
bytes = of_bytes.rings

module _ {content : Content} (result : Status) (stays : Type 0)
    (items : ItemSampler → ItemSampler → Type 0) (bytes : ByteSampler → ByteSampler → Type 0) where
  pub on_sampler : {s t : ItemSampler} → content ≡ held.Sampler s → items s t
      → OnSampler (Some content) (Some (held.Sampler t)) result stays items bytes
  on_sampler {s} {t} is so =
      subst (λ (c : Content). OnSampler (Some c) (Some (held.Sampler t)) result stays items bytes) (sym is) (t, refl, so)

  pub on_byte_sampler : {s t : ByteSampler} → content ≡ held.ByteSampler s → bytes s t
      → OnSampler (Some content) (Some (held.ByteSampler t)) result stays items bytes
  on_byte_sampler {s} {t} is so =
      subst (λ (c : Content). OnSampler (Some c) (Some (held.ByteSampler t)) result stays items bytes) (sym is) (t, refl, so)

module _ {content : Content} (result : Status) (stays : Type 0)
    (items : ItemEngine → ItemEngine → Type 0) (bytes : ByteEngine → ByteEngine → Type 0) where
  pub on_engine : {s t : ItemEngine} → content ≡ held.Engine s → items s t
      → OnEngine (Some content) (Some (held.Engine t)) result stays items bytes
  on_engine {s} {t} is so =
      subst (λ (c : Content). OnEngine (Some c) (Some (held.Engine t)) result stays items bytes) (sym is) (t, refl, so)

  pub on_byte_engine : {s t : ByteEngine} → content ≡ held.ByteEngine s → bytes s t
      → OnEngine (Some content) (Some (held.ByteEngine t)) result stays items bytes
  on_byte_engine {s} {t} is so =
      subst (λ (c : Content). OnEngine (Some c) (Some (held.ByteEngine t)) result stays items bytes) (sym is) (t, refl, so)

-- what is held, where it is of that kind
abbrev sampler_or : ItemSampler → Content → ItemSampler
sampler_or other (held.Sampler s) = s
sampler_or other _ = other

abbrev byte_sampler_or : ByteSampler → Content → ByteSampler
byte_sampler_or other (held.ByteSampler s) = s
byte_sampler_or other _ = other

abbrev engine_or : ItemEngine → Content → ItemEngine
engine_or other (held.Engine e) = e
engine_or other _ = other

abbrev byte_engine_or : ByteEngine → Content → ByteEngine
byte_engine_or other (held.ByteEngine e) = e
byte_engine_or other _ = other

-- two that are held as the same are the same
pub same-sampler : {s t : ItemSampler} → held.Sampler s ≡ held.Sampler t → s ≡ t
same-sampler {s} {t} is = ap (sampler_or s) is

pub same-byte-sampler : {s t : ByteSampler} → held.ByteSampler s ≡ held.ByteSampler t → s ≡ t
same-byte-sampler {s} {t} is = ap (byte_sampler_or s) is

pub same-engine : {s t : ItemEngine} → held.Engine s ≡ held.Engine t → s ≡ t
same-engine {s} {t} is = ap (engine_or s) is

pub same-byte-engine : {s t : ByteEngine} → held.ByteEngine s ≡ held.ByteEngine t → s ≡ t
same-byte-engine {s} {t} is = ap (byte_engine_or s) is

-- an engine is of one kind
abbrev OfItems : Content → Type 0
OfItems (held.Engine e) = Unit {0}
OfItems _ = ⊥

pub one-kind : {s : ItemEngine} {t : ByteEngine} → held.Engine s ≡ held.ByteEngine t → ⊥
one-kind is = subst OfItems is tt
