-- What a slave stands after once a packet was heard, or the master was lost.
use Rattle.daq_store.specs.Running.{is_active}
use Rattle.std.proofs.Common.{◌≡◌, ℕ, ◌<◌, Bool, true, false, ◌&&◌, not, if◌then◌else◌, List, [], ◌∷◌, ◌++◌, append-nil, refl, sym, ap, ◌∙◌, subst, arith}
use Rattle.std.specs.Prelude.{Option, Some, None}
use Rattle.xcp_base.specs.Lists.{has_list}
use Rattle.xcp_base.specs.declared.limits.TheConstants.{MAX_LISTS}
use Rattle.daq_store.specs.Replies.{Allocates}
use Rattle.daq_store.specs.declared.command.Command.{Command}
use Rattle.daq_store.specs.declared.command.Command.TheVariants.{FreeDaq, AllocDaq, AllocOdt, AllocOdtEntry, SetDaqPtr, WriteDaq, SetDaqListMode, StartStopDaqList, StartStopSynch, ClearDaqList, ReadDaq}
use Rattle.session.proofs.ListSetLemmas.{empty_has_none}
use Rattle.session.proofs.StartLemmas.{StartsNoList, other_call, same_calls}
use Rattle.session.specs.Exchanges.{Exchange, MayBeOut, past_after_greeting, past_after_packet, past_after_read, past_behind}
use Rattle.session.specs.Past.{Given, Past, new_past, none_given}
use Rattle.session.specs.Profiles.{lists_of}
use Rattle.session.specs.Requests.{request}
use Rattle.session.specs.Standing.{Exchanges, SessionStandsAfter, SessionState}
use Rattle.session.specs.Starts.{is_on, runs, starts}
use Rattle.session.specs.declared.profile.Profile.{Profile}
use Rattle.slave_outbox.specs.Outboxes.{Laid, OutboxState}
use Rattle.slave.specs.Pages.{page_at}
use Rattle.slave_outbox.specs.Outboxes.{StandsAfter as OutboxStandsAfter}
use Rattle.slave.specs.Inner.{PartsGoBy}
use Rattle.slave.specs.Inner.{Answers, LaysReply, Settles}
use Rattle.slave_channels.specs.Accounts.{AccountStandsAfter}
use Rattle.slave.specs.Log.{Heard, HungUp, entries_of, is_out, late_in, past_of, reply_laid, sent_laid, waits}
use Rattle.slave.specs.Standing.{logged, SlaveState}
use Rattle.slave.proofs.SettlingLemmas.{settled, settled-lines, settled-many, settled-opens, settled-out}
use Rattle.slave.proofs.StandingLemmas.{starts-no-list}
use Rattle.slave.proofs.WaitsLemmas.{laid-behind}

-- an allocation starts no list
allocates-plain : (call : Command) → Allocates call → StartsNoList call
allocates-plain FreeDaq h = elim h [ ]
allocates-plain (AllocDaq n) h = tt
allocates-plain (AllocOdt m n) h = tt
allocates-plain (AllocOdtEntry m k n) h = tt
allocates-plain (SetDaqPtr m k e) h = elim h [ ]
allocates-plain (WriteDaq bit size ext addr) h = elim h [ ]
allocates-plain (SetDaqListMode mode m channel prescaler priority) h = elim h [ ]
allocates-plain (StartStopDaqList mode m) h = elim h [ ]
allocates-plain (StartStopSynch mode) h = elim h [ ]
allocates-plain (ClearDaqList m) h = elim h [ ]
allocates-plain ReadDaq h = elim h [ ]

out-starts-none : (d : Profile) (past : Past) (packet : List ℕ) (l : ℕ) → MayBeOut d past packet → starts d past packet l ≡ false
out-starts-none d past packet l out =
    ap (λ b. not (runs past l) && runs (if b then past_after_read d past none_given packet (request d.max_cto packet) else past_after_greeting past (request d.max_cto packet)) l) out.connected
    ∙ ap (λ r. not (runs past l) && runs (past_after_read d past none_given packet r) l) out.read
    ∙ other_call (lists_of d) past.calls out.call l (allocates-plain out.call out.allocates)

not-and : (a : Bool) → (not a && a) ≡ false
not-and true = refl
not-and false = refl

and_false : (b : Bool) → (b && false) ≡ false
and_false true = refl
and_false false = refl

-- an exchange starts what its packet starts
exchange-starts : (d : Profile) (past : Past) (x : Exchange) (b : Bool) → x.out_of_memory ≡ b → (b ≡ true → MayBeOut d past x.packet) → (l : ℕ)
    → (not (runs past l) && runs (past_behind d past x) l) ≡ starts d past x.packet l
exchange-starts d past x true is out l =
    ap (λ b. not (runs past l) && runs (if b then past else past_after_packet d past x.given x.packet) l) is ∙ not-and (runs past l) ∙ sym (out-starts-none d past x.packet l (out refl))
exchange-starts d past x false is out l =
    ap (λ b. not (runs past l) && runs (if b then past else past_after_packet d past x.given x.packet) l) is
    ∙ ap (λ calls. not (runs past l) && is_active calls l) (same_calls d past x.given none_given x.packet)

-- a reply stands behind all that waited
pub reply-laid : (o p : OutboxState) (reply : Option (List ℕ)) (page : ℕ) (sent wait : List Laid) → LaysReply o p reply
    → OutboxStandsAfter o page sent wait → OutboxStandsAfter p page sent (wait ++ reply_laid reply)
reply-laid o p None page sent wait lays stands =
    subst (λ ys. OutboxStandsAfter p page sent ys) (sym (append-nil wait)) (subst (λ z. OutboxStandsAfter z page sent wait) (sym lays) stands)
reply-laid o p (Some packet) page sent wait lays stands = laid-behind o p page (reply_laid (Some packet)) sent wait lays stands

-- a packet was answered
pub answered : (a b : SlaveState) (packet : List ℕ) (given : Given) (before now : ℕ) (reply : Option (List ℕ))
    → Exchanges a.session b.session packet given reply → b.session.profile ≡ a.session.profile
    → ((past : Past) → SessionStandsAfter a.session past → (l : ℕ) → l < MAX_LISTS → has_list before l ≡ runs past l)
    → ((past : Past) → SessionStandsAfter b.session past → (l : ℕ) → l < MAX_LISTS → has_list now l ≡ runs past l)
    → Settles a.channels b.channels before now → LaysReply a.outbox b.outbox reply → b.plan ≡ a.plan → b.account ≡ a.account → b.number ≡ a.number
    → Answers a b packet given
answered a b packet given before now reply exchanges profile was is settles lays plan account number =
    let x : Exchange = record { packet = packet; given = given; out_of_memory = exchanges.out_of_memory } in
    let d = a.session.profile in
    record {
      exchange = x;
      packet_is = refl;
      given_is = refl;
      lines = settled-lines a.channels b.channels before now settles;
      goes = λ log lists few tie well has.
          let past = past_of d log in
          let (said, behind) = exchanges.answers past has.session in
          let out = λ (h : exchanges.out_of_memory ≡ true). exchanges.only_where h past has.session in
          let both = settled d (Heard x) log lists before now a.channels b.channels few (record { deeds = λ m c. refl; none_opened = refl }) (out, well, has.is_log)
          (λ c l below. ap (λ b. b && is_on d past c l) (exchange-starts d past x exchanges.out_of_memory refl out l ∙ sym (tie l below)))
          (was past has.session) (is (past_behind d past x) behind) settles has.channels in
          record {
            has = record {
              few = omega (arith, few);
              is_log = (out, well, has.is_log);
              profile = profile;
              session = behind;
              outbox =
                  subst (λ r. OutboxStandsAfter b.outbox (page_at d log) (sent_laid d log) (waits d log ++ reply_laid r)) said
                  (reply-laid a.outbox b.outbox reply (page_at d log) (sent_laid d log) (waits d log) lays has.outbox);
              channels = λ c ch at. (both c ch at).0;
              out = settled-out a.channels b.channels before now (λ c m. is_out m c log) settles has.out;
              as_logged = settled-opens a.channels b.channels before now d (logged d log) settles has.as_logged;
              many = settled-many a.channels b.channels before now settles ∙ has.many;
              plan = plan ∙ has.plan;
              account = subst (λ z. AccountStandsAfter z (entries_of d log) (late_in d log)) (sym account) has.account;
              number = number ∙ has.number;
            };
            ended = λ none c ch at. (both c ch at).1 none;
          };
    }

-- the master was lost
pub hung-up : (a b : SlaveState) (before : ℕ) → SessionStandsAfter b.session new_past → b.session.profile ≡ a.session.profile
    → ((past : Past) → SessionStandsAfter a.session past → (l : ℕ) → l < MAX_LISTS → has_list before l ≡ runs past l)
    → Settles a.channels b.channels before 0 → b.outbox ≡ a.outbox → b.plan ≡ a.plan → b.account ≡ a.account → b.number ≡ a.number
    → PartsGoBy a b (HungUp ∷ [])
hung-up a b before fresh profile was settles outbox plan account number = (
  settled-lines a.channels b.channels before 0 settles,
  λ log few stands.
      let d = a.session.profile in
      let past = past_of d log in
      let has = starts-no-list d a log 0 (λ l below. empty_has_none l) stands.has in
      let none : (l : ℕ) → runs new_past l ≡ false = λ l. and_false _ in
      let both = settled d HungUp log 0 before 0 a.channels b.channels (omega (arith, few)) (record { deeds = λ m c. refl; none_opened = refl }) has.is_log
      (λ c l below. ap (λ b. (not (runs past l) && b) && is_on d past c l) (none l) ∙ ap (λ b. b && is_on d past c l) (and_false (not (runs past l))) ∙ sym (ap (λ b. b && is_on d past c l) (empty_has_none l)))
      (was past has.session) (λ l below. empty_has_none l ∙ sym (none l)) settles has.channels in
      record {
        has = record {
          few = omega (arith, few);
          is_log = has.is_log;
          profile = profile;
          session = fresh;
          outbox = subst (λ o. OutboxStandsAfter o (page_at d log) (sent_laid d log) (waits d log)) (sym outbox) has.outbox;
          channels = λ c ch at. (both c ch at).0;
          out = settled-out a.channels b.channels before 0 (λ c m. is_out m c log) settles stands.has.out;
          as_logged = settled-opens a.channels b.channels before 0 d (logged d log) settles stands.has.as_logged;
          many = settled-many a.channels b.channels before 0 settles ∙ stands.has.many;
          plan = plan ∙ has.plan;
          account = subst (λ z. AccountStandsAfter z (entries_of d log) (late_in d log)) (sym account) has.account;
          number = number ∙ has.number;
        };
        ended = λ quiet c ch at. (both c ch at).1 quiet;
      },
)

-- the same, step by step
pub answered-by : (v w t b : SlaveState) (s : SessionState) (packet : List ℕ) (given : Given) (before now : ℕ) (reply : Option (List ℕ)) → w ≡ v
    → Exchanges w.session s packet given reply → s.profile ≡ w.session.profile
    → ((past : Past) → SessionStandsAfter w.session past → (l : ℕ) → l < MAX_LISTS → has_list before l ≡ runs past l)
    → ((past : Past) → SessionStandsAfter s past → (l : ℕ) → l < MAX_LISTS → has_list now l ≡ runs past l)
    → Settles w.channels t.channels before now → t ≡ record w { session = s; channels = t.channels }
    → LaysReply t.outbox b.outbox reply → b ≡ record t { outbox = b.outbox } → Answers v b packet given
answered-by v w t b s packet given before now reply same exchanges profile was is settles rest lays last =
    let session : b.session ≡ s = ap (λ (x : SlaveState). x.session) last ∙ ap (λ (x : SlaveState). x.session) rest in
    let channels : b.channels ≡ t.channels = ap (λ (x : SlaveState). x.channels) last in
    let outbox : t.outbox ≡ w.outbox = ap (λ (x : SlaveState). x.outbox) rest in
    let plan : b.plan ≡ w.plan = ap (λ (x : SlaveState). x.plan) last ∙ ap (λ (x : SlaveState). x.plan) rest in
    let account : b.account ≡ w.account = ap (λ (x : SlaveState). x.account) last ∙ ap (λ (x : SlaveState). x.account) rest in
    let number : b.number ≡ w.number = ap (λ (x : SlaveState). x.number) last ∙ ap (λ (x : SlaveState). x.number) rest in
    subst (λ (x : SlaveState). Answers x b packet given) same
    (answered w b packet given before now reply (subst (λ x. Exchanges w.session x packet given reply) (sym session) exchanges)
    (ap (λ (x : SessionState). x.profile) session ∙ profile) was
    (subst (λ x. (past : Past) → SessionStandsAfter x past → (l : ℕ) → l < MAX_LISTS → has_list now l ≡ runs past l) (sym session) is)
    (subst (λ xs. Settles w.channels xs before now) (sym channels) settles) (subst (λ o. LaysReply o b.outbox reply) outbox lays) plan account number)

pub hung-up-by : (v w t : SlaveState) (s : SessionState) (before : ℕ) → w ≡ v → SessionStandsAfter s new_past → s.profile ≡ w.session.profile
    → ((past : Past) → SessionStandsAfter w.session past → (l : ℕ) → l < MAX_LISTS → has_list before l ≡ runs past l)
    → Settles w.channels t.channels before 0 → t ≡ record w { session = s; channels = t.channels } → PartsGoBy v t (HungUp ∷ [])
hung-up-by v w t s before same fresh profile was settles rest =
    let session : t.session ≡ s = ap (λ (x : SlaveState). x.session) rest in
    subst (λ (x : SlaveState). PartsGoBy x t (HungUp ∷ [])) same
    (hung-up w t before (subst (λ x. SessionStandsAfter x new_past) (sym session) fresh) (ap (λ (x : SessionState). x.profile) session ∙ profile) was settles
    (ap (λ (x : SlaveState). x.outbox) rest) (ap (λ (x : SlaveState). x.plan) rest) (ap (λ (x : SlaveState). x.account) rest) (ap (λ (x : SlaveState). x.number) rest))
