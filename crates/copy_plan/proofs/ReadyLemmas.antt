-- The configuration of a ready list makes a plan.
use Rattle.std.proofs.Common.{List, inl, inr, Bool, true, ◌&&◌, ◌≡◌, ℕ, ◌<◌, ◌≤◌, [], length, get_or, map, sym, ap, ◌∙◌, zero-add, true≢false, arith, nat_lt, nat_le}
use Rattle.std.specs.Prelude.{IsSome, is_some, sum_by}
use Rattle.std.specs.List.{list_all}
use Rattle.std.proofs.lemmas.Bool.{and_parts}
use Rattle.std.proofs.lemmas.Bool.Decides.{leb_tells}
use Rattle.std.proofs.lemmas.List.{get_or-map, get_or_default, length-map}
use Rattle.std.proofs.lemmas.List.Sums.{AllPass-from_list_all}
use Rattle.std.proofs.lemmas.List.FromFn.{get_or-range_with_len, length-range_with_len}
use Rattle.std.proofs.lemmas.Option.{unwrap_or-slice_get}
use Rattle.xcp_base.specs.declared.limits.TheConstants.{MAX_CHANNELS, MAX_LISTS, MAX_ODTS_IN_ALL}
use Rattle.xcp_base.specs.Forms.{FitsFirstPid}
use Rattle.xcp_base.specs.Packets.{packet_len}
use Rattle.xcp_base.proofs.FormLemmas.{fits_all}
use Rattle.daq_store.specs.Calls.{numbers_below}
use Rattle.daq_store.specs.Configuration.{Configuration, channel_of, prescaler_of, is_stamped, odt_entries, entries_len, is_within, is_filled, is_short, is_ready}
use Rattle.xcp_base.specs.Forms.{IsForm}
use Rattle.copy_plan.specs.Config.{OdtEntry, IsPlan, elements_len, plan_of, written_entries}
use Rattle.copy_plan.specs.Inner.Filled.{AreFilled}
use Rattle.copy_plan.proofs.WrittenLemmas.{IsSome-within, inside-within, lie-within, readable-within, some-written_entries, sum_by-written_entries}
use Rattle.segments.specs.declared.segment.Segment.{Segment}
use Rattle.segments.specs.Image.{HaveImage}

-- the ODTs of a configuration
odt_at : (conf : Configuration) (k : ℕ) → odt_entries conf k ≡ get_or conf.odts k []
odt_at conf k = unwrap_or-slice_get conf.odts k []

pub odt-written_entries : (c : ℕ) (segments : List Segment) (conf : Configuration) (k : ℕ) → k < length conf.odts → get_or (map (written_entries c segments) conf.odts) k [] ≡ written_entries c segments (odt_entries conf k)
odt-written_entries c segments conf k h = get_or-map (written_entries c segments) conf.odts k [] [] h ∙ ap (written_entries c segments) (sym (odt_at conf k))

-- what makes a configuration ready, ODT by ODT
pub record Ready (n : List Segment) (conf : Configuration) : Type 0 where
  pub mode : IsSome conf.mode
  pub some : 0 < length conf.odts
  pub entries : (k : ℕ) → k < length conf.odts → 0 < length (odt_entries conf k)
  pub within : (k : ℕ) → k < length conf.odts → list_all (is_within (channel_of conf.mode) n) (odt_entries conf k) ≡ true
  pub short : (k : ℕ) → k < length conf.odts → packet_len conf.form (is_stamped conf.mode) k (entries_len conf k) ≤ conf.form.max_dto

below : (a b : ℕ) → nat_le a b ≡ true → a ≤ b
below a b h = elim (leb_tells a b) [ inl t ↦ t.1 | inr t ↦ absurd (true≢false (sym h ∙ t.0)) ]

pub ready : (n : List Segment) (conf : Configuration) → is_ready n conf ≡ true → Ready n conf
ready n conf h =
    let test : ℕ → Bool = is_short conf in
    let short = and_parts (is_some conf.mode && nat_lt 0 (length conf.odts) && list_all (is_filled (channel_of conf.mode) n) conf.odts) (list_all test (numbers_below (length conf.odts))) h in
    let filled = and_parts (is_some conf.mode && nat_lt 0 (length conf.odts)) (list_all (is_filled (channel_of conf.mode) n) conf.odts) short.0 in
    let some = and_parts (is_some conf.mode) (nat_lt 0 (length conf.odts)) filled.0 in
    let at : (k : ℕ) → k < length conf.odts → is_filled (channel_of conf.mode) n (odt_entries conf k) ≡ true
    = λ k l. ap (is_filled (channel_of conf.mode) n) (odt_at conf k) ∙ AllPass-from_list_all (is_filled (channel_of conf.mode) n) conf.odts filled.1 k [] l in
    record {
      mode = some.0;
      some = below 1 (length conf.odts) some.1;
      entries = λ k l. below 1 (length (odt_entries conf k)) (and_parts (nat_lt 0 (length (odt_entries conf k))) (list_all (is_within (channel_of conf.mode) n) (odt_entries conf k)) (at k l)).0;
      within = λ k l. (and_parts (nat_lt 0 (length (odt_entries conf k))) (list_all (is_within (channel_of conf.mode) n) (odt_entries conf k)) (at k l)).1;
      short = λ k l.
          let place : get_or (numbers_below (length conf.odts)) k 0 ≡ k = get_or-range_with_len 0 (length conf.odts) k 0 l ∙ zero-add k in
          let inside : k < length (numbers_below (length conf.odts)) = rw (length-range_with_len 0 (length conf.odts)) l in
          below (packet_len conf.form (is_stamped conf.mode) k (entries_len conf k)) conf.form.max_dto (ap test (sym place) ∙ AllPass-from_list_all test (numbers_below (length conf.odts)) short.1 k 0 inside);
    }

pub filled : (n : List Segment) (conf : Configuration) → Ready n conf → AreFilled (channel_of conf.mode) n conf
filled n conf r = λ k d h.
    let same : odt_entries conf k ≡ get_or conf.odts k d = odt_at conf k ∙ get_or_default conf.odts k [] d h in
    rw (← same) (r.entries k h, r.within k h)

-- the entries of ODT k are as long as the store takes them to be
same_len : (l : ℕ) (conf : Configuration) (f : ℕ) (n : List Segment) (k : ℕ) → k < length conf.odts → elements_len (plan_of l conf f n) k ≡ entries_len conf k
same_len l conf f n k h = ap (sum_by (λ (e : OdtEntry). e.1)) (odt-written_entries (channel_of conf.mode) n conf k h) ∙ sum_by-written_entries (channel_of conf.mode) n (odt_entries conf k)

pub plan_is : (l : ℕ) (conf : Configuration) (f : ℕ) (n : List Segment) → HaveImage n → l < MAX_LISTS → channel_of conf.mode < MAX_CHANNELS → (IsSome conf.mode → 0 < prescaler_of conf.mode) → length conf.odts ≤ MAX_ODTS_IN_ALL → IsForm conf.form → FitsFirstPid conf.form.id (length conf.odts) f → Ready n conf → IsPlan (plan_of l conf f n)
plan_is l conf f n image list channel prescaler limit form pids r =
    let count : length (map (written_entries (channel_of conf.mode) n) conf.odts) ≡ length conf.odts = length-map conf.odts (written_entries (channel_of conf.mode) n) in
    record {
      list = list;
      channel = channel;
      prescaler = prescaler r.mode;
      some = omega (arith, r.some, count);
      form = form;
      limit = omega (arith, limit, count);
      pids = omega (arith, fits_all conf.form.id (length conf.odts) f limit pids, count);
      first = rw count pids;
      entries = λ k h.
          let here : k < length conf.odts = omega (arith, h, count) in
          rw (odt-written_entries (channel_of conf.mode) n conf k here) (some-written_entries (channel_of conf.mode) n (odt_entries conf k) (r.entries k here) (IsSome-within (channel_of conf.mode) n (odt_entries conf k) (r.within k here)));
      image = image;
      inside = λ k h.
          let here : k < length conf.odts = omega (arith, h, count) in
          rw (odt-written_entries (channel_of conf.mode) n conf k here) (inside-within (channel_of conf.mode) n (written_entries (channel_of conf.mode) n (odt_entries conf k)) (lie-within (channel_of conf.mode) n (odt_entries conf k) (r.within k here)));
      readable = λ k h.
          let here : k < length conf.odts = omega (arith, h, count) in
          rw (odt-written_entries (channel_of conf.mode) n conf k here) (readable-within (channel_of conf.mode) n (written_entries (channel_of conf.mode) n (odt_entries conf k)) (lie-within (channel_of conf.mode) n (odt_entries conf k) (r.within k here)));
      short = λ k h.
          let here : k < length conf.odts = omega (arith, h, count) in
          rw (same_len l conf f n k here) (r.short k here);
    }
