-- The most of some numbers.
use Rattle.std.proofs.Common.{◌≡◌, ◌∙◌, ℕ, Bool, true, false, List, [], ◌∷◌, ◌++◌, suc, take, drop, max, refl, sym, ap, subst, arith}
use Rattle.std.specs.Prelude.{if◌then◌else◌}
use Rattle.daq_store.specs.declared.command.Command.{Command}
use Rattle.daq_store.specs.declared.reply.Reply.{Reply}
use Rattle.daq_store.specs.declared.reply.Reply.TheVariants.{Positive}
use Rattle.daq_store.specs.Answer.{answer, calls_after}
use Rattle.daq_store.specs.Calls.{Profile as ListsProfile}
use Rattle.daq_store.specs.Replies.{reply_bytes}
use Rattle.session.specs.declared.profile.Profile.{Profile}
use Rattle.session.specs.Past.{Past}
use Rattle.session.specs.Profiles.{lists_of}
use Rattle.session.specs.Exchanges.{calls_after_writes, writes_reply}
use Rattle.session.specs.Replies.{is_error, most_of}
use Rattle.session.specs.Requests.{write_of, writes}
use Rattle.session.specs.Standing.{SessionStandsAfter, SessionState, WritesOne}

pub most_of-push : (xs : List ℕ) (n : ℕ) → most_of (xs ++ n ∷ []) ≡ max (most_of xs) n
most_of-push [] n = omega arith
most_of-push (x ∷ xs) n = omega (arith, most_of-push xs n)

-- WRITE_DAQ_MULTIPLE on its way: some writes are done, and those left answer for all
pub record OnTheWay (old now : SessionState) (past : Past) (all left : List Command) : Type 0 where
  pub mid : List Command
  pub stands : SessionStandsAfter now (record past { calls = mid })
  pub reply : writes_reply (lists_of old.profile) past.calls all ≡ writes_reply (lists_of old.profile) mid left
  pub calls : calls_after_writes (lists_of old.profile) past.calls all ≡ calls_after_writes (lists_of old.profile) mid left

pub way_begins : (s : SessionState) (past : Past) (all : List Command) → SessionStandsAfter s past → OnTheWay s s past all all
way_begins s past all h = record { mid = past.calls; stands = h; reply = refl; calls = refl }

passed : {X : Type 0} (b : Bool) (x y : X) → b ≡ false → (if b then x else y) ≡ y
passed true x y h = absurd (cc)
passed false x y h = refl

stopped : {X : Type 0} (b : Bool) (x y : X) → b ≡ true → (if b then x else y) ≡ x
stopped true x y h = refl
stopped false x y h = absurd (cc)

-- one write, on the lists of the session that began
one_write : (old now new : SessionState) (past : Past) (mid : List Command) (call : Command) (reply : Reply) → now.profile ≡ old.profile → WritesOne now new call reply
    → SessionStandsAfter now (record past { calls = mid })
    → (reply ≡ answer (lists_of old.profile) mid call) × SessionStandsAfter new (record past { calls = calls_after (lists_of old.profile) mid call })
one_write old now new past mid call reply profile write stands =
    let P : Profile → Type 0 = λ d. (reply ≡ answer (lists_of d) mid call) × SessionStandsAfter new (record past { calls = calls_after (lists_of d) mid call }) in
    subst P profile (write (record past { calls = mid }) stands)

pub way_on : (old now new : SessionState) (past : Past) (all more : List Command) (call : Command) (reply : Reply) → now.profile ≡ old.profile → WritesOne now new call reply
    → is_error reply ≡ false → OnTheWay old now past all (call ∷ more) → OnTheWay old new past all more
way_on old now new past all more call reply profile write fine way =
    let lists : ListsProfile = lists_of old.profile in
    let one = one_write old now new past way.mid call reply profile write way.stands in
    let accepted : is_error (answer lists way.mid call) ≡ false = ap is_error (sym one.0) ∙ fine in
    record {
      mid = calls_after lists way.mid call;
      stands = one.1;
      reply = way.reply ∙ passed (is_error (answer lists way.mid call)) (answer lists way.mid call) (writes_reply lists (calls_after lists way.mid call) more) accepted;
      calls = way.calls ∙ passed (is_error (answer lists way.mid call)) (calls_after lists way.mid call) (calls_after_writes lists (calls_after lists way.mid call) more) accepted;
    }

-- what is replied to all writes, and what they leave
abbrev pub Ends : SessionState → SessionState → Past → List Command → Reply → Type 0
Ends old new past all reply =
    (reply_bytes reply ≡ reply_bytes (writes_reply (lists_of old.profile) past.calls all)) × SessionStandsAfter new (record past { calls = calls_after_writes (lists_of old.profile) past.calls all })

pub way_stops : (old now new : SessionState) (past : Past) (all more : List Command) (call : Command) (reply : Reply) → now.profile ≡ old.profile → WritesOne now new call reply
    → is_error reply ≡ true → OnTheWay old now past all (call ∷ more) → Ends old new past all reply
way_stops old now new past all more call reply profile write bad way =
    let lists : ListsProfile = lists_of old.profile in
    let one = one_write old now new past way.mid call reply profile write way.stands in
    let refused : is_error (answer lists way.mid call) ≡ true = ap is_error (sym one.0) ∙ bad in
    let r = way.reply ∙ stopped (is_error (answer lists way.mid call)) (answer lists way.mid call) (writes_reply lists (calls_after lists way.mid call) more) refused in
    let k = way.calls ∙ stopped (is_error (answer lists way.mid call)) (calls_after lists way.mid call) (calls_after_writes lists (calls_after lists way.mid call) more) refused in
    let P : List Command → Type 0 = λ cs. SessionStandsAfter new (record past { calls = cs }) in
    (ap (reply_bytes) (one.0 ∙ sym r), subst P (sym k) one.1)

pub way_ends : (old now : SessionState) (past : Past) (all : List Command) → OnTheWay old now past all [] → Ends old now past all Positive
way_ends old now past all way =
    let P : List Command → Type 0 = λ cs. SessionStandsAfter now (record past { calls = cs }) in
    (ap (reply_bytes) (sym way.reply), subst P (sym way.calls) way.stands)

-- the next write
pub writes_next : (n k : ℕ) (bytes : List ℕ) → n ≡ suc k → writes n bytes ≡ write_of (take 8 bytes) ∷ writes k (drop 8 bytes)
writes_next n k bytes e = ap (λ m. writes m bytes) e
