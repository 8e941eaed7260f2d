-- Records that stand in blocks, and those that wait.
use Rattle.std.proofs.Common.{◌≡◌, ◌∙◌, ℕ, ◌+◌, ◌%◌, ◌^◌, ◌≤◌, ◌<◌, List, [], ◌∷◌, ◌++◌, All}
use Rattle.std.proofs.Common.{Option, None, Some, IfSome, append-nil, append_assoc, ap, arith}
use Rattle.std.proofs.Common.{codes, get_or, length, length-append, map, refl, set, slice_get, subst}
use Rattle.std.proofs.Common.{string_bytes, suc, sym, take, take_all, zero}
use lib.ListN.{length-replicate}
use lib.Seq.{map-set, map-set_same, take-append-le}
use Rattle.std.proofs.lemmas.List.{take_more_set}
use Rattle.std.proofs.lemmas.List.Elements.{All-get_or, All-push, All-set}
use Rattle.std.proofs.lemmas.List.Folds.{concat-append}
use Rattle.std.specs.Io.KnownBytes.{append_known}
use Rattle.std.specs.List.{concat}
use Rattle.mdf_blocks.specs.Blocks.{IsBlockAt, fill_len, filled}
use Rattle.mdf_blocks.specs.Numbers.{zeros}
use Rattle.mdf_blocks.specs.Records.{dt_block}
use Rattle.mdf_blocks.specs.Tables.{id_block}
use Rattle.mdf_blocks.specs.Told.{AreListed}
use Rattle.mdf_blocks.specs.Fields.{SaysState}
use Rattle.mdf_blocks.specs.declared.listed_data.ListedData.{ListedData}
use Rattle.mdf_blocks.proofs.BlockLemmas.{length-block}
use Rattle.mdf_blocks.proofs.ReadLemmas.{fill_aligns}
use Rattle.mdf_blocks.proofs.SaysLemmas.{each_says}
use Rattle.mdf_file.specs.Adding.{Adds}
use Rattle.mdf_file.specs.Describing.{told_channel}
use Rattle.mdf_file.specs.Standing.{AllHold, HasBlock, IsBegun, IsEmpty, IsHandled, IsListedAt}
use Rattle.mdf_file.specs.Standing.{IsStanding, in_blocks, seen}
use Rattle.mdf_file.specs.Writing.{HasMore, StaysUnfinished, WrittenGroup, unfinished, with_record}
use Rattle.mdf_file.specs.declared.open_group.OpenGroup.{OpenGroup}
use Rattle.mdf_file.specs.declared.streamed_group.StreamedGroup.{StreamedGroup}
use Rattle.mdf_file.proofs.AddLemmas.{says_longer}
use Rattle.mdf_file.proofs.RecordLemmas.{adds_data, listed_more}

known_twice : (k : Option (List ℕ)) (xs ys : List ℕ)
    → append_known (append_known k xs) ys ≡ append_known k (xs ++ ys)
known_twice None xs ys = refl
known_twice (Some bytes) xs ys = ap (λ (bs : List ℕ). Some bs) (append_assoc bytes xs ys)

-- a block of records is its head, the records and the fill
pub data_known : (k a b e : Option (List ℕ)) (head records : List ℕ)
    → head ++ records ≡ dt_block records → a ≡ append_known k head
    → b ≡ append_known a records → e ≡ append_known b (zeros (fill_len (24 + length records)))
    → e ≡ append_known k (filled (dt_block records))
data_known k a b e head records whole a_is b_is e_is =
    let fill : List ℕ = zeros (fill_len (24 + length records)) in
    let long : 24 + length records ≡ length (dt_block records) =
    sym (length-block (codes "##DT") [] records refl) in
    e_is
    ∙ ap (λ (o : Option (List ℕ)). append_known o fill)
    (b_is ∙ ap (λ (o : Option (List ℕ)). append_known o records) a_is
    ∙ known_twice k head records ∙ ap (λ (bs : List ℕ). append_known k bs) whole)
    ∙ known_twice k (dt_block records) fill
    ∙ ap (λ (n : ℕ). append_known k (dt_block records ++ zeros (fill_len n))) long

-- its length
pub length-data : (records : List ℕ)
    → length (filled (dt_block records))
    ≡ 24 + length records + fill_len (24 + length records)
length-data records =
    let block : List ℕ = dt_block records in
    let long : length block ≡ 24 + length records =
    length-block (codes "##DT") [] records refl in
    length-append block (zeros (fill_len (length block)))
    ∙ ap (λ (n : ℕ). length block + n) (length-replicate (fill_len (length block)) 0)
    ∙ ap (λ (n : ℕ). n + fill_len n) long

-- what is in a group's blocks, once its buffer is listed too
in_blocks-listed : (g new : OpenGroup) (place : ℕ) → IsListedAt g new place → IsHandled g
    → in_blocks new ≡ in_blocks g ++ g.buffer.items
in_blocks-listed g new place l h =
    let all : List ℕ = concat g.log.records in
    let records : new.log.records ≡ g.log.records = ap (λ (w : WrittenGroup). w.records) l.same in
    let over : length all ≤ new.told.len =
    omega (
      arith,
      l.len,
      h.long,
      ap length h.joined,
      length-append (in_blocks g) g.buffer.items,
    ) in
    ap (λ (rs : List (List ℕ)). take new.told.len (concat rs)) records
    ∙ take_all new.told.len all over ∙ h.joined

handled-listed : (g new : OpenGroup) (place : ℕ) → IsListedAt g new place → IsHandled g
    → IsHandled new
handled-listed g new place l h =
    let records : g.log.records ≡ new.log.records =
    sym (ap (λ (w : WrittenGroup). w.records) l.same) in
    let size : g.told.record_bytes ≡ new.told.record_bytes =
    sym (ap (λ (w : WrittenGroup). w.record_bytes) l.same) in
    let here = in_blocks-listed g new place l h in
    record {
      some = subst (λ (n : ℕ). 0 < n) size h.some;
      joined = ap concat (sym records) ∙ h.joined ∙ sym here
          ∙ sym (append-nil (in_blocks new))
          ∙ ap (λ (bs : List ℕ). in_blocks new ++ bs) (sym l.empty);
      long = ap length here ∙ length-append (in_blocks g) g.buffer.items
          ∙ ap (λ (n : ℕ). n + length g.buffer.items) h.long ∙ sym l.len;
      none_empty = subst (λ (rs : List (List ℕ)). All (λ r. 0 < length r) rs) records
          h.none_empty;
    }

-- the block of a group holds what was in its buffer
hold-listed : (bytes : List ℕ) (g new : OpenGroup) (place : ℕ) → IsListedAt g new place
    → IsHandled g → IsBlockAt bytes place (codes "##DT") [] g.buffer.items
    → AreListed bytes 0 g.told.blocks.items (in_blocks g)
    → AreListed bytes 0 new.told.blocks.items (in_blocks new)
hold-listed bytes g new place l h block listed =
    let b : ListedData = record { place = place; offset = g.told.len } in
    let offset : g.told.len ≡ 0 + length (in_blocks g) = omega (arith, h.long) in
    subst (λ (bs : List ListedData). AreListed bytes 0 bs (in_blocks new)) (sym l.blocks)
    (subst (λ (rs : List ℕ). AreListed bytes 0 (g.told.blocks.items ++ b ∷ []) rs)
    (sym (in_blocks-listed g new place l h))
    (listed_more bytes 0 g.told.blocks.items (in_blocks g) g.buffer.items b offset listed block))

begun-more : (bytes : List ℕ) (place next number : ℕ) (gs : List OpenGroup) (g new : OpenGroup)
    → number < length gs → g ≡ get_or gs number g → place % 8 ≡ 0
    → length g.buffer.items < 2 ^ 63
    → next ≡ place + length (filled (dt_block g.buffer.items)) → IsListedAt g new place
    → All IsHandled gs → IsBegun bytes place gs
    → IsBegun (bytes ++ filled (dt_block g.buffer.items)) next (set gs number new)
begun-more bytes place next number gs g new within is aligned few ends l handled b =
    let own : List ℕ = filled (dt_block g.buffer.items) in
    let after : List ℕ = b.before ++ own in
    let at : 168 + length b.before ≡ place = b.reaches in
    let one : Adds 168 b.before after (λ bs. IsBlockAt bs place (codes "##DT") [] g.buffer.items) =
    adds_data 168 place b.before after g.buffer.items (sym at)
    (subst (λ (n : ℕ). n % 8 ≡ 0) (sym at) aligned) few refl in
    let h : IsHandled g =
    subst IsHandled (sym is) (All-get_or IsHandled gs number g within handled) in
    let kept = says_longer 168 b.before after (AllHold gs)
    (λ bs. IsBlockAt bs place (codes "##DT") [] g.buffer.items) b.held one in
    record {
      program = b.program;
      header = b.header;
      before = after;
      is = ap (λ (bs : List ℕ). bs ++ own) b.is
          ∙ append_assoc (id_block unfinished b.program ++ b.header) b.before own;
      program_long = b.program_long;
      front_long = b.front_long;
      reaches = omega (arith, at, ends, length-append b.before own);
      held = λ front back long.
          let bs : List ℕ = front ++ after ++ back in
          let Held : OpenGroup → Type 0 = λ x.
          AreListed bs 0 x.told.blocks.items (in_blocks x) in
          let all : All Held gs = kept front back long in
          All-set Held gs number new
          (hold-listed bs g new place l h (one.says front back long)
          (subst Held (sym is) (All-get_or Held gs number g within all)))
          all;
    }

begun-known : (known known2 : Option (List ℕ)) (own : List ℕ) (P Q : List ℕ → Type 0)
    → known2 ≡ append_known known own → ((bytes : List ℕ) → P bytes → Q (bytes ++ own))
    → IfSome known P → IfSome known2 Q
begun-known None known2 own P Q is f p =
    subst (λ (k : Option (List ℕ)). IfSome k Q) (sym is) tt
begun-known (Some bytes) known2 own P Q is f p =
    subst (λ (k : Option (List ℕ)). IfSome k Q) (sym is) (f bytes p)

-- what waited of a group was written
pub flush_stands : (known known2 : Option (List ℕ)) (place next number : ℕ)
    (gs : List OpenGroup) (g new : OpenGroup) → number < length gs → g ≡ get_or gs number g
    → HasBlock known known2 place next g.buffer.items → IsListedAt g new place
    → IsStanding known place gs → IsStanding known2 next (set gs number new)
flush_stands known known2 place next number gs g new within is b l s =
    let own : List ℕ = filled (dt_block g.buffer.items) in
    let whole : length own % 8 ≡ 0 = fill_aligns (dt_block g.buffer.items) in
    record {
      far = omega (arith, s.far, b.ends);
      aligned = omega (arith, s.aligned, whole, b.ends);
      handled = All-set IsHandled gs number new
          (handled-listed g new place l
          (subst IsHandled (sym is) (All-get_or IsHandled gs number g within s.handled)))
          s.handled;
      begun = begun-known known known2 own (λ bytes. IsBegun bytes place gs)
          (λ bytes. IsBegun bytes next (set gs number new)) b.known
          (λ bytes begun. begun-more bytes place next number gs g new within is s.aligned b.few
          b.ends l s.handled begun)
          s.begun;
    }

begun-says : (bytes : List ℕ) (place : ℕ) (gs : List OpenGroup) → IsBegun bytes place gs
    → SaysState bytes unfinished
begun-says bytes place gs b =
    subst (λ (bs : List ℕ). SaysState bs unfinished)
    (sym (b.is ∙ append_assoc (id_block unfinished b.program) b.header b.before))
    (each_says.state unfinished b.program (b.header ++ b.before) b.program_long)

-- what stands says that it isn't finished
pub stands_unfinished : (known known2 : Option (List ℕ)) (own : List ℕ) (place : ℕ)
    (gs : List OpenGroup) → known2 ≡ append_known known own → IsStanding known2 place gs
    → StaysUnfinished known known2
stands_unfinished None known2 own place gs is s = tt
stands_unfinished (Some bytes) known2 own place gs is s =
    let begun : IsBegun (bytes ++ own) place gs =
    subst (λ (k : Option (List ℕ)). IfSome k (λ bs. IsBegun bs place gs)) is s.begun in
    subst (λ (k : Option (List ℕ)). StaysUnfinished (Some bytes) k) (sym is)
    (begun-says (bytes ++ own) place gs begun)

pub same_unfinished : (known : Option (List ℕ)) (place : ℕ) (gs : List OpenGroup)
    → IsStanding known place gs → StaysUnfinished known known
same_unfinished None place gs s = tt
same_unfinished (Some bytes) place gs s = begun-says bytes place gs s.begun

pub unfinished-trans : (a b e : Option (List ℕ)) → StaysUnfinished a b → StaysUnfinished b e
    → StaysUnfinished a e
unfinished-trans None b e one two = tt
unfinished-trans (Some x) None e one two = absurd one
unfinished-trans (Some x) (Some y) None one two = absurd two
unfinished-trans (Some x) (Some y) (Some z) one two = two

-- a record that waits
handled-pushed : (g new : OpenGroup) (own : List ℕ) → 0 < length own → new.told ≡ g.told
    → new.buffer.items ≡ g.buffer.items ++ own → new.log.records ≡ g.log.records ++ own ∷ []
    → IsHandled g → (in_blocks new ≡ in_blocks g) × IsHandled new
handled-pushed g new own some told buffer records h =
    let all : List ℕ = concat g.log.records in
    let more : concat new.log.records ≡ all ++ own =
    ap concat records ∙ concat-append g.log.records (own ∷ [])
    ∙ ap (λ (bs : List ℕ). all ++ bs) (append-nil own) in
    let len : new.told.len ≡ g.told.len = ap (λ (t : StreamedGroup). t.len) told in
    let within : g.told.len ≤ length all =
    omega (
      arith,
      h.long,
      ap length h.joined,
      length-append (in_blocks g) g.buffer.items,
    ) in
    let here : in_blocks new ≡ in_blocks g =
    ap (λ (bs : List ℕ). take new.told.len bs) more
    ∙ ap (λ (n : ℕ). take n (all ++ own)) len
    ∙ take-append-le g.told.len all own within in (
      here,
      record {
        some = subst (λ (n : ℕ). 0 < n) (sym (ap (λ (t : StreamedGroup). t.record_bytes) told)) h.some;
        joined = more ∙ ap (λ (bs : List ℕ). bs ++ own) h.joined
            ∙ append_assoc (in_blocks g) g.buffer.items own
            ∙ ap (λ (bs : List ℕ). in_blocks g ++ bs) (sym buffer)
            ∙ ap (λ (bs : List ℕ). bs ++ new.buffer.items) (sym here);
        long = ap length here ∙ h.long ∙ sym len;
        none_empty = subst (λ (rs : List (List ℕ)). All (λ r. 0 < length r) rs) (sym records)
            (All-push (λ r. 0 < length r) g.log.records own h.none_empty some);
      },
    )

pub push_stands : (known : Option (List ℕ)) (place number : ℕ) (gs : List OpenGroup)
    (g new : OpenGroup) (own : List ℕ) → number < length gs → g ≡ get_or gs number g
    → 0 < length own → new.told ≡ g.told → new.buffer.items ≡ g.buffer.items ++ own
    → new.log.records ≡ g.log.records ++ own ∷ [] → IsStanding known place gs
    → IsStanding known place (set gs number new)
push_stands known place number gs g new own within is some told buffer records s =
    let h : IsHandled g =
    subst IsHandled (sym is) (All-get_or IsHandled gs number g within s.handled) in
    let pushed = handled-pushed g new own some told buffer records h in
    record {
      far = s.far;
      aligned = s.aligned;
      handled = All-set IsHandled gs number new pushed.1 s.handled;
      begun = same-begun known place number gs g new within is pushed.0
          (ap (λ (t : StreamedGroup). t.blocks.items) told) s.begun;
    }
  where
    same-begun : (known : Option (List ℕ)) (place number : ℕ) (gs : List OpenGroup)
        (g new : OpenGroup) → number < length gs → g ≡ get_or gs number g
        → in_blocks new ≡ in_blocks g → new.told.blocks.items ≡ g.told.blocks.items
        → IfSome known (λ bytes. IsBegun bytes place gs)
        → IfSome known (λ bytes. IsBegun bytes place (set gs number new))
    same-begun None place number gs g new within is here blocks begun = tt
    same-begun (Some bytes) place number gs g new within is here blocks b = record {
      program = b.program;
      header = b.header;
      before = b.before;
      is = b.is;
      program_long = b.program_long;
      front_long = b.front_long;
      reaches = b.reaches;
      held = λ front back long.
          let bs : List ℕ = front ++ b.before ++ back in
          let Held : OpenGroup → Type 0 = λ x.
          AreListed bs 0 x.told.blocks.items (in_blocks x) in
          let all : All Held gs = b.held front back long in
          All-set Held gs number new
          (subst (λ (xs : List ListedData). AreListed bs 0 xs (in_blocks new)) (sym blocks)
          (subst (λ (xs : List ℕ). AreListed bs 0 g.told.blocks.items xs) (sym here)
          (subst Held (sym is) (All-get_or Held gs number g within all))))
          all;
    }

-- and how that is seen
pub push_seen : (number : ℕ) (gs : List OpenGroup) (g new : OpenGroup) (own : List ℕ)
    → number < length gs → g ≡ get_or gs number g → new.told ≡ g.told
    → new.log.records ≡ g.log.records ++ own ∷ []
    → HasMore (map seen gs) (map seen (set gs number new)) number own
push_seen number gs g new own within is told records = record {
  to = seen g;
  there = there number gs g within is;
  gains = map-set seen gs number new
      ∙ ap (λ (w : WrittenGroup). set (map seen gs) number w)
      (same g new own told records);
}
  where
    there : (number : ℕ) (gs : List OpenGroup) (g : OpenGroup) → number < length gs
        → g ≡ get_or gs number g → slice_get (map seen gs) number ≡ Some (seen g)
    there number [] g within is = absurd (omega (arith, within))
    there zero (x ∷ gs) g within is = ap (λ (y : OpenGroup). Some (seen y)) (sym is)
    there (suc number) (x ∷ gs) g within is = there number gs g (omega (arith, within)) is

    same : (g new : OpenGroup) (own : List ℕ) → new.told ≡ g.told
        → new.log.records ≡ g.log.records ++ own ∷ [] → seen new ≡ with_record (seen g) own
    same g new own told records =
        ap (λ (t : StreamedGroup). record {
          name = string_bytes t.name;
          channels = map told_channel t.channels.items;
          record_bytes = t.record_bytes;
          records = new.log.records;
        }) told
        ∙ ap (λ (rs : List (List ℕ)). record {
          name = string_bytes g.told.name;
          channels = map told_channel g.told.channels.items;
          record_bytes = g.told.record_bytes;
          records = rs;
        }) records

-- a group in which nothing waits any more
pub emptied : (gs : List OpenGroup) (number : ℕ) (g : OpenGroup) → number < length gs → IsEmpty g
    → All IsEmpty (take number gs) → All IsEmpty (take (number + 1) (set gs number g))
emptied gs number g within empty all =
    subst (All IsEmpty) (sym (take_more_set gs number g within))
    (All-push IsEmpty (take number gs) g all empty)

-- a group that is seen as before
pub seen_same : (number : ℕ) (gs : List OpenGroup) (g new : OpenGroup) → g ≡ get_or gs number g
    → seen new ≡ seen g → map seen (set gs number new) ≡ map seen gs
seen_same number gs g new is same = map-set_same seen gs number new g (same ∙ ap seen is)

pub push_same : (number : ℕ) (gs : List OpenGroup) (g new : OpenGroup) → g ≡ get_or gs number g
    → new.told ≡ g.told → new.log.records ≡ g.log.records
    → map seen (set gs number new) ≡ map seen gs
push_same number gs g new is told records =
    seen_same number gs g new is
    (ap (λ (t : StreamedGroup). record {
      name = string_bytes t.name;
      channels = map told_channel t.channels.items;
      record_bytes = t.record_bytes;
      records = new.log.records;
    }) told
    ∙ ap (λ (rs : List (List ℕ)). record {
      name = string_bytes g.told.name;
      channels = map told_channel g.told.channels.items;
      record_bytes = g.told.record_bytes;
      records = rs;
    }) records)

pub stays : (known old new : Option (List ℕ)) → known ≡ old → new ≡ known
    → StaysUnfinished known known → StaysUnfinished old new
stays known old new is was it =
    subst (λ (k : Option (List ℕ)). StaysUnfinished old k) (sym was)
    (subst (λ (k : Option (List ℕ)). StaysUnfinished k known) is it)
