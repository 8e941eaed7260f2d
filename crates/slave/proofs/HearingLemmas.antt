-- What a slave stands after once a packet was heard.
use Rattle.std.proofs.Common.{◌≡◌, ℕ, ◌+◌, ◌<◌, List, [], ◌∷◌, ◌++◌, ◌&&◌, length, length-append, slice_get, refl, sym, ap, ◌∙◌, subst, arith, inl, inr, Err}
use Rattle.std.specs.Prelude.{Some}
use Rattle.xcp_base.specs.Lists.{has_list}
use Rattle.xcp_base.specs.declared.err_code.ErrCode.{ErrCode}
use Rattle.xcp_base.specs.declared.limits.TheConstants.{MAX_LISTS}
use Rattle.session.specs.Fields.{packet_of}
use Rattle.session.specs.Past.{Given, Past}
use Rattle.session.specs.Standing.{SessionStandsAfter, SessionState}
use Rattle.session.specs.Exchanges.{Exchange}
use Rattle.session.specs.Starts.{is_on, starts}
use Rattle.slave_channels.specs.Channels.{ChannelState}
use Rattle.slave_channels.specs.Calls.{CanStartAll, rings_of}
use Rattle.slave.specs.Hearing.{FindsNoPlaces, GoesBy, Hears, MayOpen, most_before, FindsPlaces, HasNoRoom, IsIdleRefusal, StartsTooLong}
use Rattle.session.specs.declared.profile.Profile.{Profile}
use Rattle.slave.specs.Inner.{Answers, PartsGoBy, counting, AreAsOpened, AreInRings, HasPlaces, HasTooLong, HasOther, HasParts, IsOfOne, LaysReply, Prepares, SlaveStarted, StartsInVain, WantsPlaces}
use Rattle.slave_channels.specs.Accounts.{AccountStandsAfter}
use Rattle.slave.specs.Pages.{page_at}
use Rattle.slave.specs.Log.{Act, Heard, Refused, entries_of, late_in, past_of, sent_laid, waits}
use Rattle.slave.specs.Standing.{PartsStandAfter, SlaveState, StartsOther, StartsWell}
use Rattle.slave.proofs.AnsweringLemmas.{reply-laid}
use Rattle.slave.proofs.StartLemmas.{starts-list}
use Rattle.slave.proofs.WeightLemmas.{cost, costs-before, counted, recounted}
use Rattle.slave.specs.declared.limits.TheConstants.{MOST_ACTS, PER_PACKET}

pub assoc : (a b c : List Act) → (a ++ b) ++ c ≡ a ++ (b ++ c)
assoc [] b c = refl
assoc (x ∷ a) b c = ap (λ xs. x ∷ xs) (assoc a b c)

-- lists that the packet starts, by their set
starts-well : (d : Profile) (log : List Act) (packet : List ℕ) (lists : ℕ) → ((l : ℕ) → l < MAX_LISTS → has_list lists l ≡ starts d (past_of d log) packet l)
    → IsOfOne d log lists → AreAsOpened d log lists → HasParts d log lists → AreInRings d (past_of d log) lists → StartsWell d log packet
starts-well d log packet lists are one opened parts rings = record {
  as_opened = λ l below is. opened l below (are l below ∙ is) (starts-list d (past_of d log) packet l is);
  has_parts = λ c l there below is on. parts c l there below (are l below ∙ is) on;
  in_rings = λ l below is. rings l below (are l below ∙ is);
  in_one = λ some none. one (some.0, some.1, are some.0 some.1 ∙ some.2) none;
}

other-starts : (d : Profile) (log : List Act) (packet : List ℕ) (lists : ℕ) → ((l : ℕ) → l < MAX_LISTS → has_list lists l ≡ starts d (past_of d log) packet l)
    → HasOther d log lists → StartsOther d log packet
other-starts d log packet lists are has = record { list = has.list; below = has.below; starts_it = sym (are has.list has.below) ∙ has.one; other = has.other; some = has.some }

starts-other : (d : Profile) (log : List Act) (packet : List ℕ) (lists : ℕ) → ((l : ℕ) → l < MAX_LISTS → has_list lists l ≡ starts d (past_of d log) packet l)
    → StartsOther d log packet → HasOther d log lists
starts-other d log packet lists are has = record { list = has.list; below = has.below; one = are has.list has.below ∙ has.starts_it; other = has.other; some = has.some }

-- one of the lists that the packet starts has a sample that is too long, by their set
long-starts : (d : Profile) (past : Past) (packet : List ℕ) (lists : ℕ) → ((l : ℕ) → l < MAX_LISTS → has_list lists l ≡ starts d past packet l) → HasTooLong d past lists → StartsTooLong d past packet
long-starts d past packet lists are has = record { list = has.list; below = has.below; starts_it = sym (are has.list has.below) ∙ has.one; long = has.long }

starts-long : (d : Profile) (past : Past) (packet : List ℕ) (lists : ℕ) → ((l : ℕ) → l < MAX_LISTS → has_list lists l ≡ starts d past packet l) → StartsTooLong d past packet → HasTooLong d past lists
starts-long d past packet lists are has = record { list = has.list; below = has.below; one = are has.list has.below ∙ has.starts_it; long = has.long }

not-refused : (x : Exchange) (packet : List ℕ) (code : ErrCode) → Heard x ≡ Refused packet code → ⊥
not-refused x packet code is = cc

code-of : (packet : List ℕ) (code named : ErrCode) → Refused packet code ≡ Refused packet named → code ≡ named
code-of packet code named is = cc

-- the lists that the packet starts find no places, by their set
finds : (a b : SlaveState) {now : List ChannelState} (lists : ℕ) (packet : List ℕ) (past : Past) → WantsPlaces a.session lists now → b.channels ≡ now → SessionStandsAfter a.session past
    → ((l : ℕ) → l < MAX_LISTS → has_list lists l ≡ starts a.session.profile past packet l) → FindsNoPlaces a.session.profile past packet b
finds a b lists packet past wants channels stands are =
    let none = wants.none in
    record {
      channel = none.channel;
      set = none.set;
      state = none.state;
      are = λ l below. (wants.are none.channel none.set none.lists_are).is past stands l below ∙ ap (λ x. x && is_on a.session.profile past none.channel l) (are l below);
      some = none.some;
      state_is = ap (λ xs. slice_get xs none.channel) channels ∙ none.state_is;
      cannot = none.cannot;
    }

-- they find places, by their set
finds-places : (a b : SlaveState) {now : List ChannelState} (lists : ℕ) (packet : List ℕ) (past : Past) → HasPlaces a.session lists now → b.channels ≡ now → SessionStandsAfter a.session past
    → ((l : ℕ) → l < MAX_LISTS → has_list lists l ≡ starts a.session.profile past packet l) → FindsPlaces a.session.profile past packet b
finds-places a b lists packet past has channels stands are = record {
  sets = has.sets;
  as_many = has.as_many ∙ ap length (sym channels);
  are = λ c set l at below. (has.are c set at).is past stands l below ∙ ap (λ x. x && is_on a.session.profile past c l) (are l below);
  can = subst (CanStartAll has.sets) (sym channels) has.can;
}

-- a refusal where no list runs speaks of the event channels alone
idle-refused : (d : Profile) (past : Past) (number : ℕ) (k b : SlaveState) (code : ErrCode) (opening : List Act) → b.channels ≡ k.channels
    → IsIdleRefusal d past number k code opening → IsIdleRefusal d past number b code opening
idle-refused d past number k b code opening channels is =
    let back : HasNoRoom d past b → HasNoRoom d past k =
    λ two. record { channel = two.channel; list = two.list; state = two.state; below = two.below; ready = two.ready; state_is = ap (λ xs. slice_get xs two.channel) (sym channels) ∙ two.state_is; two = two.two }
    in
    record {
      all_came = λ none c ch at. is.all_came none c ch (ap (λ xs. slice_get xs c) (sym channels) ∙ at);
      unopened = λ none. (
        λ busy.
            let two = (is.unopened none).0 busy in
            record { channel = two.channel; list = two.list; state = two.state; below = two.below; ready = two.ready; state_is = ap (λ xs. slice_get xs two.channel) channels ∙ two.state_is; two = two.two },
        λ two. (is.unopened none).1 (back two),
      );
      ended = λ some two. is.ended some (back two);
    }

goes-counted : (a b : SlaveState) (act : Act) (opening : List Act) → a.acts < MOST_ACTS + PER_PACKET → b.acts ≡ a.acts → cost act ≡ 3 → MayOpen most_before opening
    → PartsGoBy a b (act ∷ opening) → GoesBy a (counting b PER_PACKET) (act ∷ opening)
goes-counted a b act opening fits counts own may_open goes =
    let few = may_open.few in
    counted a (counting b PER_PACKET) (act ∷ opening) fits (omega (arith, few)) (omega (arith, counts, own, few, costs-before opening may_open.are)) (recounted a b (act ∷ opening) PER_PACKET goes)

-- a packet whose lists were started was answered
pub heard : (a k b : SlaveState) (lists : ℕ) (packet : List ℕ) (given : Given) → Prepares most_before a k lists → k.session ≡ a.session → b.acts ≡ a.acts → a.acts < MOST_ACTS + PER_PACKET
    → ((past : Past) → SessionStandsAfter a.session past → (l : ℕ) → l < MAX_LISTS → has_list lists l ≡ starts a.session.profile past packet l)
    → Answers k b packet given → Hears a (counting b PER_PACKET) packet given
heard a k b lists packet given prepares same counts fits are answers =
    let d = a.session.profile in
    let profile : k.session.profile ≡ d = ap (λ (s : SessionState). s.profile) same in
    record {
      act = Heard answers.exchange;
      opening = prepares.opening;
      is = inl (answers.exchange, refl, answers.packet_is, answers.given_is);
      may_open = prepares.may_open;
      for_a_start = λ log stands.
          elim prepares.for_some [
            | inl none ↦ inl none
            | inr some ↦ inr (some.0, some.1, sym (are (past_of d log) stands.parts.has.session some.0 some.1) ∙ some.2)
          ];
      places = λ log stands run code is other. absurd (not-refused answers.exchange packet code is);
      when_idle = λ log stands none code is. absurd (not-refused answers.exchange packet code is);
      too_long = λ log stands none code is long. absurd (not-refused answers.exchange packet code is);
      goes = goes-counted a b (Heard answers.exchange) prepares.opening fits counts refl prepares.may_open (
        answers.lines ∙ prepares.lines,
        λ log few stands.
            let before = prepares.opening ++ log in
            let has = prepares.goes log (omega (arith, few)) stands in
            subst (λ p. PartsStandAfter p b (Heard answers.exchange ∷ before)) profile
            (answers.goes before lists (omega (arith, few, length-append prepares.opening log))
            (λ l below.
            are (past_of d before) (subst (λ s. SessionStandsAfter s (past_of d before)) same has.session) l below
            ∙ ap (λ p. starts p (past_of p before) packet l) (sym profile))
            (subst (λ p. StartsWell p before packet) (sym profile)
            (starts-well d before packet lists (λ l below. are (past_of d before) (subst (λ s. SessionStandsAfter s (past_of d before)) same has.session) l below)
            (prepares.in_one log (omega (arith, few)) stands) (prepares.as_opened log (omega (arith, few)) stands) (prepares.has_parts log (omega (arith, few)) stands) (prepares.in_rings log (omega (arith, few)) stands)))
            (subst (λ p. SlaveStarted p k before lists) (sym profile) has)),
      );
    }

-- a start was refused
pub refused : (a k b : SlaveState) (lists : ℕ) (packet : List ℕ) (given : Given) (code : ErrCode) → StartsInVain most_before a k lists code → k.session ≡ a.session → k.acts ≡ a.acts → a.acts < MOST_ACTS + PER_PACKET
    → ((past : Past) → SessionStandsAfter a.session past → (l : ℕ) → l < MAX_LISTS → has_list lists l ≡ starts a.session.profile past packet l)
    → LaysReply k.outbox b.outbox (Some (packet_of (Err code))) → b ≡ record k { outbox = b.outbox } → Hears a (counting b PER_PACKET) packet given
refused a k b lists packet given code vain same counts fits are lays rest =
    let d = a.session.profile in
    let session : b.session ≡ k.session = ap (λ (s : SlaveState). s.session) rest in
    let channels : b.channels ≡ k.channels = ap (λ (s : SlaveState). s.channels) rest in
    record {
      act = Refused packet code;
      opening = vain.opening;
      is = inr (code, refl, vain.is);
      may_open = vain.may_open;
      for_a_start = λ log stands. inr (vain.some.0, vain.some.1, sym (are (past_of d log) stands.parts.has.session vain.some.0 vain.some.1) ∙ vain.some.2);
      places = λ log stands run named is other.
          let same-code = code-of packet code named is in
          let past = past_of d log in
          let found = vain.places past stands.parts.has.session run (λ e. other (sym same-code ∙ e)) in
          elim found [
            | inl busy ↦ inl (sym same-code ∙ busy.0, finds a (counting b PER_PACKET) lists packet past busy.1 channels stands.parts.has.session (λ l below. are past stands.parts.has.session l below))
            | inr long ↦ inr (
              sym same-code ∙ long.0,
              long-starts d past packet lists (λ l below. are past stands.parts.has.session l below) (long.1 past stands.parts.has.session),
              finds-places a (counting b PER_PACKET) lists packet past long.2 channels stands.parts.has.session (λ l below. are past stands.parts.has.session l below),
            )
          ];
      when_idle = λ log stands none named is.
          idle-refused a.session.profile (past_of d log) a.number k (counting b PER_PACKET) named vain.opening channels
          (subst (λ z. IsIdleRefusal d (past_of d log) a.number k z vain.opening) (code-of packet code named is) (vain.when_idle (past_of d log) stands.parts.has.session none));
      too_long = λ log stands none named is long.
          vain.unopened (past_of d log) stands.parts.has.session none (starts-long d (past_of d log) packet lists (λ l below. are (past_of d log) stands.parts.has.session l below) long);
      goes = goes-counted a b (Refused packet code) vain.opening fits (ap (λ (s : SlaveState). s.acts) rest ∙ counts) refl vain.may_open (
        ap rings_of channels ∙ vain.goes.0,
        λ log few stands.
            let before = vain.opening ++ log in
            let was = vain.goes.1 log (omega (arith, few)) stands in
            let has = was.has in
            let tie : (l : ℕ) → l < MAX_LISTS → has_list lists l ≡ starts d (past_of d before) packet l =
            λ l below. are (past_of d before) (subst (λ s. SessionStandsAfter s (past_of d before)) same has.session) l below in
            let reply = Some (packet_of (Err code)) in
            record {
              has = record {
                few = omega (arith, few, length-append vain.opening log);
                is_log = (
                  (vain.some.0, vain.some.1, sym (tie vain.some.0 vain.some.1) ∙ vain.some.2),
                  (
                    λ is. other-starts d before packet lists tie ((vain.sequence log (omega (arith, few)) stands).0 is),
                    λ other. (vain.sequence log (omega (arith, few)) stands).1 (starts-other d before packet lists tie other),
                  ),
                  has.is_log,
                );
                profile = ap (λ (s : SessionState). s.profile) (session ∙ same);
                session = subst (λ s. SessionStandsAfter s (past_of d before)) (sym session) has.session;
                outbox = reply-laid k.outbox b.outbox reply (page_at d before) (sent_laid d before) (waits d before) lays has.outbox;
                channels = λ c ch at. has.channels c ch (ap (λ xs. slice_get xs c) (sym channels) ∙ at);
                out = λ c ch at. has.out c ch (ap (λ xs. slice_get xs c) (sym channels) ∙ at);
                as_logged = λ c ch at. has.as_logged c ch (ap (λ xs. slice_get xs c) (sym channels) ∙ at);
                many = ap length channels ∙ has.many;
                plan = ap (λ (s : SlaveState). s.plan) rest ∙ has.plan;
                account = subst (λ x. AccountStandsAfter x (entries_of d before) (late_in d before)) (sym (ap (λ (s : SlaveState). s.account) rest)) has.account;
                number = ap (λ (s : SlaveState). s.number) rest ∙ has.number;
              };
              ended = λ none c ch at. was.ended none c ch (ap (λ xs. slice_get xs c) (sym channels) ∙ at);
            },
      );
    }
