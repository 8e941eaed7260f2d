-- How what holds of an engine that is to be closed comes to what the call says.
use Rattle.std.proofs.Common.{◌≡◌, ◌∙◌, ℕ, List, Option, Some, ap, length, refl, subst, sym}
use Rattle.std.specs.Prelude.{Result, Ok, Err, IfErr, OnOk}
use Rattle.byte_ring.specs.declared.byte_left.ByteLeft.{ByteLeft}
use Rattle.daq_engine.specs.declared.report.Report.{Report}
use Rattle.sampler.specs.State.{SamplerEndState}
use Rattle.c_engine.specs.Ends.{AccountRoom, ClosesHeld, IsAccountOf, MayClose, MayCloseHeld, StaysHeld, StaysOpen}
use Rattle.c_engine.specs.States.{ByteEngine, Bytes, ItemEngine, Items, Left}
use Rattle.c_engine.specs.declared.taken_back.TakenBack.TheVariants as taken
use Rattle.c_engine.specs.declared.content.Content.{Content}
use Rattle.c_engine.specs.declared.content.Content.TheVariants as held
use Rattle.c_engine.specs.declared.status.Status.{Status}
use Rattle.c_engine.proofs.OnLemmas.{one-kind, same-byte-engine, same-engine}

module _ {content : Content} (room : ℕ) where
  -- an engine that stays open stays held
  pub stays-held : {s : ItemEngine} (t : ItemEngine) → content ≡ held.Engine s → (result : Result (Unit {0}) Status)
      → IfErr result (StaysOpen s t room) → IfErr result (StaysHeld (Some content) (Some (held.Engine t)) room)
  stays-held t is (Ok u) so = tt
  stays-held {s} t is (Err status) so =
      subst (λ (c : Content). StaysHeld (Some c) (Some (held.Engine t)) room status) (sym is) (t, refl, so)

  pub stays-held-bytes : {s : ByteEngine} (t : ByteEngine) → content ≡ held.ByteEngine s → (result : Result (Unit {0}) Status)
      → IfErr result (StaysOpen s t room) → IfErr result (StaysHeld (Some content) (Some (held.ByteEngine t)) room)
  stays-held-bytes t is (Ok u) so = tt
  stays-held-bytes {s} t is (Err status) so =
      subst (λ (c : Content). StaysHeld (Some c) (Some (held.ByteEngine t)) room status) (sym is) (t, refl, so)

module _ (items : Items) (bytes : Bytes) where
  -- one that may be closed may be where it is held
  pub may-close : {content : Content} (room : ℕ) {s : ItemEngine} (t : ItemEngine) → content ≡ held.Engine s
      → (result : Result (Unit {0}) Status) → OnOk result (MayClose items.send items.ring s t room)
      → OnOk result (MayCloseHeld items bytes content (held.Engine t) room)
  may-close {content} room {s} t is (Ok u) so =
      subst (λ (c : Content). MayCloseHeld items bytes c (held.Engine t) room) (sym is) (t, refl, so)
  may-close room t is (Err status) so = tt

  pub may-close-bytes : {content : Content} (room : ℕ) {s : ByteEngine} (t : ByteEngine) → content ≡ held.ByteEngine s
      → (result : Result (Unit {0}) Status) → OnOk result (MayClose bytes.send bytes.ring s t room)
      → OnOk result (MayCloseHeld items bytes content (held.ByteEngine t) room)
  may-close-bytes {content} room {s} t is (Ok u) so =
      subst (λ (c : Content). MayCloseHeld items bytes c (held.ByteEngine t) room) (sym is) (t, refl, so)
  may-close-bytes room t is (Err status) so = tt

  -- the engine that is closed is the one that may be
  pub closes-items : {old : Option Content} (content : Content) {now : Content} {engine : ItemEngine} {before after : AccountRoom}
      (ends : List (SamplerEndState Left)) → old ≡ Some content → MayCloseHeld items bytes content now (length before.lines)
      → now ≡ held.Engine engine
      → ((told : Report) × IsAccountOf items.out items.give items.send items.ring engine before after told)
      → ends ≡ engine.lending.ends → ClosesHeld items bytes old (taken.Items ends) before after
  closes-items {old} (held.Engine s) {now} {engine} {before} {after} ends is (t, to, (keeps, back, room)) same (told, account) came =
      subst (λ (o : Option Content). ClosesHeld items bytes o (taken.Items ends) before after) (sym is) (
        t,
        keeps,
        came ∙ ap (λ (e : ItemEngine). e.lending.ends) (same-engine (sym same ∙ to)),
        (told, subst (λ e. IsAccountOf items.out items.give items.send items.ring e before after told) (same-engine (sym same ∙ to)) account),
      )
  closes-items (held.ByteEngine s) ends is (t, to, may) same account came = elim (one-kind (sym same ∙ to)) [ ]
  closes-items (held.Store s) ends is may same account came = elim may [ ]
  closes-items (held.Sampler s) ends is may same account came = elim may [ ]
  closes-items (held.ByteSampler s) ends is may same account came = elim may [ ]

  pub closes-bytes : {old : Option Content} (content : Content) {now : Content} {engine : ByteEngine} {before after : AccountRoom}
      (ends : List (SamplerEndState ByteLeft)) → old ≡ Some content → MayCloseHeld items bytes content now (length before.lines)
      → now ≡ held.ByteEngine engine
      → ((told : Report) × IsAccountOf bytes.out bytes.give bytes.send bytes.ring engine before after told)
      → ends ≡ engine.lending.ends → ClosesHeld items bytes old (taken.Bytes ends) before after
  closes-bytes {old} (held.ByteEngine s) {now} {engine} {before} {after} ends is (t, to, (keeps, back, room)) same (told, account) came =
      subst (λ (o : Option Content). ClosesHeld items bytes o (taken.Bytes ends) before after) (sym is) (
        t,
        keeps,
        came ∙ ap (λ (e : ByteEngine). e.lending.ends) (same-byte-engine (sym same ∙ to)),
        (told, subst (λ e. IsAccountOf bytes.out bytes.give bytes.send bytes.ring e before after told) (same-byte-engine (sym same ∙ to)) account),
      )
  closes-bytes (held.Engine s) ends is (t, to, may) same account came = elim (one-kind (sym to ∙ same)) [ ]
  closes-bytes (held.Store s) ends is may same account came = elim may [ ]
  closes-bytes (held.Sampler s) ends is may same account came = elim may [ ]
  closes-bytes (held.ByteSampler s) ends is may same account came = elim may [ ]
