use Rattle.std.proofs.Common.{◌≡◌, ◌<◌, ℕ, List, [], ◌∷◌, length, take, get_or, ◌+◌, Result, Ok, Err, sym, subst, arith}
use Rattle.std.specs.Prelude.{OnErr, Option}
use Rattle.std.proofs.lemmas.List.{take_more}
use Rattle.std.proofs.lemmas.Grind.{common_steps}
use Rattle.arrayvec.specs.ArrayVec.{ArrayVec}
use Rattle.frame_writer.specs.Reading.{ReaderState, Leads, packet_list, IsBadAfter}
use Rattle.frame_writer.proofs.ReadingLemmas.{leads_then}
use Rattle.frame_writer.proofs.frame_reader.FrameReader.feed.Goals as goal

-- one byte more behind those before it
on_with : (a b c : ReaderState) (bytes : List ℕ) (i : ℕ) (given : List (List ℕ)) → i < length bytes
    → Leads a b (take i bytes) [] → Leads b c (get_or bytes i 0 ∷ []) given → Leads a c (take (i + 1) bytes) given
on_with a b c bytes i given h first next =
    let P : List ℕ → Type 0 = λ bs. Leads a c bs given in
    subst P (sym (take_more bytes i 0 h)) (leads_then a b c (take i bytes) (get_or bytes i 0 ∷ []) [] given first next)

on_err : {T E : Type 0} (r : Result T E) (P : Type 0) → P → OnErr r P
on_err (Ok x) P p = tt
on_err (Err e) P p = p

-- this byte is the one at which a frame is bad
pub returns-in_err-packet-clause-bad : goal.returns-in_err-packet-clause-bad
returns-in_err-packet-clause-bad c =
    on_err c.from_residual.result (IsBadAfter c.args.self.now c.push.new.self c.args.bytes.now) (record {
      taken = c.loop-i.i + 1;
      within = omega (arith, c.loop-i-test.true);
      leads = on_with c.args.self.now c.loop-i.self c.push.new.self c.args.bytes.now c.loop-i.i [] c.loop-i-test.true c.loop-i.invariant.leads c.in_err-packet.ensures.bad;
      closed = c.in_err-packet.ensures.shut;
    })

-- this byte ends a frame
pub returns-in-Some-clause-ok : goal.returns-in-Some-clause-ok
returns-in-Some-clause-ok c =
    let P : Option (ArrayVec ℕ) → Type 0 = λ given. Leads c.loop-i.self c.push.new.self (get_or c.args.bytes.now c.loop-i.i 0 ∷ []) (packet_list given) in
    on_with c.args.self.now c.loop-i.self c.push.new.self c.args.bytes.now c.loop-i.i (c.in-Some.packet.items ∷ []) c.loop-i-test.true c.loop-i.invariant.leads (subst P c.in-Some.is c.in_ok-packet.ensures.ok)

-- this byte ends none
pub loop-i-preserved : goal.loop-i-preserved
loop-i-preserved c =
    let P : Option (ArrayVec ℕ) → Type 0 = λ given. Leads c.loop-i.self c.push.new.self (get_or c.args.bytes.now c.loop-i.i 0 ∷ []) (packet_list given) in
    record {
      still_open = c.in_ok-packet.ensures.stays_open;
      leads = on_with c.args.self.now c.loop-i.self c.push.new.self c.args.bytes.now c.loop-i.i [] c.loop-i-test.true c.loop-i.invariant.leads (subst P c.in_default.is c.in_ok-packet.ensures.ok);
    }

-- all bytes led here
pub returns-clause-ok : goal.returns-clause-ok
returns-clause-ok c =
    let i : ℕ = c.loop-i.i in
    let P : List ℕ → Type 0 = λ bs. Leads c.args.self.now c.loop-i.self bs [] in
    let all : take i c.args.bytes.now ≡ take (length c.args.bytes.now) c.args.bytes.now = grind (arith, common_steps) in
    subst P all c.loop-i.invariant.leads
