use Rattle.std.proofs.Common.{◌≡◌, ℕ, refl, ap, sym, ◌∙◌, arith, rules}
use Rattle.std.specs.Prelude.{IfOk, Ok, Err, Result, Some}
use Rattle.std.proofs.lemmas.Option.{same_Some}
use Rattle.segments.specs.Image.{image_segments}
use Rattle.xcp_base.specs.Forms.{form_of, stamp_bytes}
use Rattle.xcp_base.specs.declared.id_kind.IdKind.{IdKind}
use Rattle.xcp_base.specs.declared.packet_form.PacketForm.{PacketForm}
use Rattle.xcp_base.specs.declared.stamp_size.StampSize.{StampSize}
use Rattle.xcp_base.specs.declared.stamp_size.StampSize.TheVariants.{One, Two, Four}
use Rattle.xcp_base.specs.declared.limits.TheConstants.{MAX_DTO, MAX_ODTS, RUN_ENTRIES}
use Rattle.daq_store.specs.Calls.{Profile}
use Rattle.daq_store.specs.Standing.{StoreState}
use Rattle.daq_store.specs.declared.refusal.BadLimits.{BadLimits}
use Rattle.daq_run.proofs.setting_up.store_of.Goals as goal

form_at : (id : IdKind) (size : StampSize) (most n : ℕ) → n ≡ stamp_bytes size → most ≡ MAX_DTO → form_of id n ≡ Some (record { id = id; stamp = size; max_dto = most })
form_at id One most n is max = rw (is, max) refl
form_at id Two most n is max = rw (is, max) refl
form_at id Four most n is max = rw (is, max) refl

-- a run's form is the one of its identification field and its timestamps
form_of_run : (form f : PacketForm) (n : ℕ) → f ≡ form → n ≡ stamp_bytes f.stamp → form.max_dto ≡ MAX_DTO → form_of f.id n ≡ Some form
form_of_run form f n same is most = rw same (form_at form.id form.stamp form.max_dto n (is ∙ ap (λ (x : PacketForm). stamp_bytes x.stamp) same) most)

-- a profile is known by its parts
same_profile : (p q : Profile) → p.channels ≡ q.channels → p.most_odts ≡ q.most_odts → p.most_entries ≡ q.most_entries → p.segments ≡ q.segments → p.form ≡ q.form → p ≡ q
same_profile p q c o e s f = λ i. record { channels = c i; most_odts = o i; most_entries = e i; segments = s i; form = f i }

-- the limits of a run are those of a store
pub returns-clause-succeeds : goal.returns-clause-succeeds
returns-clause-succeeds c =
    let h = c.channels.ensures.limits in
    let form = form_of_run c.args.run.now.form c.form-form.result c.bytes.result c.form-form.ensures.value c.bytes.ensures.value h.form in
    c.with_form.ensures.limits.1 (
      omega (arith, h.some_channel, c.channels.ensures.value),
      omega (arith, h.channels, c.channels.ensures.value),
      omega (arith, h.some_byte, c.image_len.ensures.value),
      omega (arith, h.image_len, c.image_len.ensures.value),
      rw form (search rules),
    )

profiled : (r : Result StoreState BadLimits) (channels image_len n : ℕ) (id : IdKind) (want : Profile) → IfOk r (λ s. (s.profile.channels ≡ channels) × (s.profile.most_odts ≡ MAX_ODTS) × (s.profile.most_entries ≡ RUN_ENTRIES) × (s.profile.segments ≡ image_segments image_len))
    → IfOk r (λ s. form_of id n ≡ Some s.profile.form) → channels ≡ want.channels → MAX_ODTS ≡ want.most_odts → RUN_ENTRIES ≡ want.most_entries → image_segments image_len ≡ want.segments → form_of id n ≡ Some want.form → IfOk r (λ s. s.profile ≡ want)
profiled (Ok s) channels image_len n id want is form c o e m f =
    same_profile s.profile want (is.0 ∙ c) (is.1 ∙ o) (is.2 ∙ e) (is.3 ∙ m) (same_Some s.profile.form want.form (sym form ∙ f))
profiled (Err fault) channels image_len n id want is form c o e m f = tt

-- and its profile is the store's
pub returns-clause-profile : goal.returns-clause-profile
returns-clause-profile c =
    let h = c.channels.ensures.limits in
    profiled c.with_form.result c.channels.result c.image_len.result c.bytes.result c.form-form.result.id _ c.with_form.ensures.profile c.with_form.ensures.form c.channels.ensures.value refl refl (ap image_segments c.image_len.ensures.value)
    (form_of_run c.args.run.now.form c.form-form.result c.bytes.result c.form-form.ensures.value c.bytes.ensures.value h.form)
