-- The store that the set-up of a run leaves, and the openings of its channels, are determined.
use Rattle.std.proofs.Common.{◌≡◌, ℕ, ◌<◌, ◌&&◌, List, [], map, sym, ap, ap₂, ◌∙◌, arith, nat_eq}
use Rattle.std.specs.Int.{bit_at}
use Rattle.std.proofs.lemmas.Bool.Decides.{nat_tests}
use Rattle.std.proofs.lemmas.Nat.Bits.{same_from_bits}
use Rattle.xcp_base.specs.Lists.{has_list}
use Rattle.daq_store.specs.Calls.{Profile, numbers_below}
use Rattle.daq_store.specs.Replies.{calls_after_packets}
use Rattle.daq_store.specs.Shape.{list_count}
use Rattle.daq_store.specs.Standing.{StoreState, list_after, shows_running}
use Rattle.run_file.specs.RunFile.{RunData}
use Rattle.sampler.specs.History.{Opening, is_list_of}
use Rattle.daq_engine.specs.Openings.{IsOpeningOf}
use Rattle.daq_run.specs.SetUps.{IsStoreAfter, profile_of}

-- the store after some packets is determined
pub store_same : (run : RunData) (packets : List (List ℕ)) (s t : StoreState) → IsStoreAfter run s packets → IsStoreAfter run t packets → s ≡ t
store_same run packets s t a b =
    let calls = calls_after_packets (profile_of run) [] packets in
    let profile : s.profile ≡ t.profile = a.profile ∙ sym b.profile in
    let lists : s.lists ≡ t.lists = a.stands.lists ∙ (ap (λ (p : Profile). map (list_after p.form calls) (numbers_below (list_count calls))) profile ∙ sym b.stands.lists) in
    ap₂ (λ (p : Profile) ls. record { profile = p; lists = ls; pointer = s.pointer; phase = s.phase }) profile lists
    ∙ ap₂ (λ at p. record { profile = t.profile; lists = t.lists; pointer = at; phase = p }) (a.stands.pointer ∙ sym b.stands.pointer) (a.stands.phase ∙ sym b.stands.phase)

one_bit : (x y : ℕ) → x < 2 → y < 2 → nat_eq x 1 ≡ nat_eq y 1 → x ≡ y
one_bit x y small few same = grind (arith, nat_tests)

-- and so is the opening of a channel
pub opening_same : (s : StoreState) (c : ℕ) (o p : Opening) → IsOpeningOf s c o → IsOpeningOf s c p → o ≡ p
opening_same s c o p a b =
    let channel : o.channel ≡ p.channel = a.channel ∙ sym b.channel in
    let plans : o.plans ≡ p.plans = a.plans ∙ sym b.plans in
    let lists : (l : ℕ) → has_list o.running l ≡ has_list p.running l = λ l.
    a.running l ∙ (ap (λ (q : Opening). is_list_of q l && shows_running s l) (ap (λ ps. record { channel = o.channel; plans = ps; running = o.running }) plans) ∙ sym (b.running l)) in
    let bits : (l : ℕ) → bit_at o.running l ≡ bit_at p.running l = λ l. one_bit (bit_at o.running l) (bit_at p.running l) (omega arith) (omega arith) (lists l) in
    ap₂ (λ n ps. record { channel = n; plans = ps; running = o.running }) channel plans
    ∙ ap (λ n. record { channel = p.channel; plans = p.plans; running = n }) (same_from_bits o.running p.running bits)
