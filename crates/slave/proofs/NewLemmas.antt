-- A slave that was just opened.
use Rattle.std.proofs.Common.{◌≡◌, ℕ, List, [], ◌∷◌, length, map, slice_get, refl, sym, ap, ◌∙◌, arith, false}
use Rattle.std.specs.Prelude.{Some, None}
use Rattle.std.proofs.lemmas.Bool.{false≢true}
use Rattle.std.proofs.lemmas.List.{length-map}
use Rattle.channel_ring.specs.Ends.{RingName}
use Rattle.frame_ring.specs.declared.frame_send.FrameSend.{FrameSend}
use Rattle.daq_store.specs.Configuration.{Configuration}
use Rattle.session.specs.Past.{new_past}
use Rattle.session.specs.Standing.{SessionStandsAfter, SessionState}
use Rattle.session.specs.declared.profile.Profile.{Profile}
use Rattle.slave_outbox.specs.Outboxes.{OutboxState}
use Rattle.slave_outbox.specs.Outboxes.{StandsAfter as OutboxStandsAfter}
use Rattle.tasks.specs.Links.{takes_orders}
use Rattle.slave_channels.specs.Channels.{ChannelState, no_measurement}
use Rattle.slave_channels.specs.Calls.{AreNew, rings_of}
use Rattle.slave_channels.proofs.NewLemmas.{at-map}
use Rattle.tasks.specs.Tasks.{TaskState, just_begun}
use Rattle.slave.specs.Log.{deeds_of}
use Rattle.slave_channels.specs.Accounts.{AccountStandsAfter, AccountState}
use Rattle.slave.specs.Standing.{logged, ChannelHas, IsOut, PartsStandAfter, SlaveStandsAfter, IsAsLogged}

none_some : {X : Type 0} (x : X) → None ≡ Some x → ⊥
none_some x e = cc

-- as many event channels, and the tasks on their lines
pub channels-many : (n : ℕ) (channels : List ChannelState) (tasks : List (TaskState FrameSend)) → AreNew n channels tasks → length channels ≡ n
channels-many n channels tasks new = ap length new.channels_are ∙ length-map new.rings no_measurement ∙ new.many

rings-back : (rings : List RingName) → rings_of (map no_measurement rings) ≡ rings
rings-back [] = refl
rings-back (r ∷ rings) = ap (λ rs. r ∷ rs) (rings-back rings)

pub tasks-are : (n : ℕ) (channels : List ChannelState) (tasks : List (TaskState FrameSend)) → AreNew n channels tasks → tasks ≡ map just_begun (rings_of channels)
tasks-are n channels tasks new =
    new.tasks_are ∙ ap (map just_begun) (sym (rings-back new.rings) ∙ ap rings_of (sym new.channels_are))

nothing-there : (d : Profile) (c : ℕ) (ring : RingName) → ChannelHas 0 (λ m. deeds_of d m c []) (no_measurement ring)
nothing-there d c ring = record {
  newer = λ p is. absurd (none_some p is);
  older = λ p is. absurd (none_some p is);
  order = λ p q is at. absurd (none_some p is);
  newest = λ on p is. absurd (none_some p is);
  running = λ l below. refl;
}

nothing-out : (ring : RingName) → IsOut (λ m. false) (no_measurement ring)
nothing-out ring = record { newer = λ m at. absurd (none_some m at); older = λ m at. absurd (none_some m at); kept = λ m there. absurd (false≢true there) }

nothing-opened : (d : Profile) (c : ℕ) (ring : RingName) → IsAsLogged d (logged d []) c (no_measurement ring)
nothing-opened d c ring = record { newer = λ p at. absurd (none_some p at); older = λ p at. absurd (none_some p at); came = refl }

-- it stands after nothing
pub new-stands : (d : Profile) (s : SessionState) (o : OutboxState) (channels : List ChannelState) (tasks : List (TaskState FrameSend)) (plan : List Configuration) (account : AccountState) (n : ℕ) → AccountStandsAfter account [] (λ m l. 0) → plan ≡ [] → s.profile ≡ d → SessionStandsAfter s new_past → OutboxStandsAfter o 0 [] []
    → AreNew n channels tasks → n ≡ length d.events.items
    → SlaveStandsAfter d (record { session = s; outbox = o; channels = channels; plan = plan; number = 0; account = account; acts = 0; next = 0 }) []
new-stands d s o channels tasks plan account n fresh none profile session outbox new many =
    let each : (P : ChannelState → Type 0) → ((ring : RingName) → P (no_measurement ring)) → (c : ℕ) (ch : ChannelState) → slice_get channels c ≡ Some ch → P ch =
    λ P all c ch at. at-map no_measurement P new.rings c ch all (ap (λ xs. slice_get xs c) (sym new.channels_are) ∙ at) in
    let parts : PartsStandAfter d (record { session = s; outbox = o; channels = channels; plan = plan; number = 0; account = account; acts = 0; next = 0 }) [] =
    record {
      has = record {
        few = omega arith;
        is_log = tt;
        profile = profile;
        session = session;
        outbox = outbox;
        channels = λ c ch at. each (ChannelHas 0 (λ m. deeds_of d m c [])) (nothing-there d c) c ch at;
        out = λ c ch at. each (IsOut (λ m. false)) nothing-out c ch at;
        as_logged = λ c ch at. each (IsAsLogged d (logged d []) c) (nothing-opened d c) c ch at;
        many = channels-many n channels tasks new ∙ many;
        plan = none;
        account = fresh;
        number = refl;
      };
      ended = λ none c ch at. each (λ x. takes_orders x.link.newer ≡ false) (λ ring. refl) c ch at;
    } in
    record { parts = parts; counted = omega arith }
