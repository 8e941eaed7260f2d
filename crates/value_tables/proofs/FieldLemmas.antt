-- The text of a row, field by field.
use Rattle.std.proofs.Common.{◌≡◌, ◌≢◌, ◌==◌, ◌||◌, ℕ, zero, suc, ◌+◌, ◌-◌, ◌^◌, ◌≤◌, min, Bool, true, false, if◌then◌else◌, List, [], ◌∷◌, ◌++◌, length, length-append, Option, refl, sym, ap, subst, ◌∙◌, arith, append-nil, append_assoc}
use Rattle.std.specs.Prelude.{Err, Ok, OnOk, Result}
use Rattle.std.specs.Io.KnownBytes.{Appends}
use Rattle.std.proofs.lemmas.Bool.Decides.{nat_tests}
use Rattle.std.proofs.KnownBytes.{Appends-nil, Appends-trans}
use Rattle.csv.specs.Writing.{end_text, field_text, fields_text, fields_written, is_blank, next_sep, row_body, row_text, tail_text, text_written, writer_setup}
use Rattle.csv.specs.declared.writer.QuoteStyle.TheVariants as style
use Rattle.csv.specs.declared.writer.Writer.{Writer}
use Rattle.csv.specs.declared.writer.WriterBuilder.{WriterBuilder}
use Rattle.sample_tables.specs.Rows.{IsBetweenRows, rfc_4180}
use Rattle.value_tables.specs.Fields.{HasFieldMore, HasFields}

-- the fields behind the first, and one more

fields_text-push : (cfg : WriterBuilder) (fields : List (List ℕ)) (field : List ℕ)
    → fields_text cfg (fields ++ field ∷ []) ≡ fields_text cfg fields ++ cfg.delimiter ∷ field_text cfg field
unfolding fields_text
fields_text-push cfg [] field = ap (λ t. cfg.delimiter ∷ t) (append-nil (field_text cfg field))
fields_text-push cfg (f ∷ fields) field =
    ap (λ t. cfg.delimiter ∷ t) (ap (λ t. field_text cfg f ++ t) (fields_text-push cfg fields field)
    ∙ sym (append_assoc (field_text cfg f) (fields_text cfg fields) (cfg.delimiter ∷ field_text cfg field)))

-- a number behind another one isn't 0, nor 1 behind two
not_zero : (n : ℕ) → (suc n == 0) ≡ false
not_zero n = grind (arith, nat_tests)

not_few : (n : ℕ) → ((suc (suc n) == 0) || (suc (suc n) == 1)) ≡ false
not_few n = grind (arith, nat_tests)

pub row_body-push : (cfg : WriterBuilder) (fields : List (List ℕ)) (field : List ℕ)
    → row_body cfg (fields ++ field ∷ []) ≡ row_body cfg fields ++ (next_sep cfg (length fields) ++ field_text cfg field)
unfolding fields_text
row_body-push cfg [] field = append-nil (field_text cfg field)
row_body-push cfg (f ∷ fields) field =
    ap (λ t. field_text cfg f ++ t) (fields_text-push cfg fields field)
    ∙ sym (append_assoc (field_text cfg f) (fields_text cfg fields) (cfg.delimiter ∷ field_text cfg field))
    ∙ ap (λ (b : Bool). row_body cfg (f ∷ fields) ++ ((if b then [] else cfg.delimiter ∷ []) ++ field_text cfg field)) (sym (not_zero (length fields)))

-- a row of two fields or more shows a byte

pub row_text-of_two : (cfg : WriterBuilder) (fields : List (List ℕ)) → 2 ≤ length fields
    → row_text cfg fields ≡ row_body cfg fields ++ end_text cfg.terminator
unfolding is_blank
row_text-of_two cfg [] h = absurd (omega (arith, h))
row_text-of_two cfg (f ∷ []) h = absurd (omega (arith, h))
row_text-of_two cfg (f ∷ g ∷ fields) h = refl

-- nor does its end show that it is blank
pub tail_text-of_two : (cfg : WriterBuilder) (wrote : Bool) (n : ℕ) → 2 ≤ n → tail_text cfg wrote n ≡ end_text cfg.terminator
tail_text-of_two cfg true n h = refl
tail_text-of_two cfg false zero h = absurd (omega (arith, h))
tail_text-of_two cfg false (suc zero) h = absurd (omega (arith, h))
tail_text-of_two cfg false (suc (suc n)) h = ap (λ (b : Bool). (if b then cfg.quote ∷ cfg.quote ∷ [] else []) ++ end_text cfg.terminator) (not_few n)

-- a field more was written
pub one_more : {W : Type 0} (contents : W → Option (List ℕ)) (old now : Writer W) (field : List ℕ)
    → ((writer_setup old).style ≢ style.NonNumeric → Appends (text_written contents old) (text_written contents now) (next_sep (writer_setup old) (fields_written old) ++ field_text (writer_setup old) field))
    → writer_setup now ≡ writer_setup old → fields_written now ≡ min (fields_written old + 1) (2 ^ 64 - 1) → HasFieldMore contents old now field
one_more contents old now field text same count before fields has room =
    let plain : (writer_setup old).style ≢ style.NonNumeric = subst (λ (s : WriterBuilder). s.style ≢ style.NonNumeric) (sym has.setup) (λ e. cc (e)) in
    let here = subst (λ (n : ℕ). Appends (text_written contents old) (text_written contents now) (next_sep (writer_setup old) n ++ field_text (writer_setup old) field)) has.count (text plain) in
    let there = subst (λ (s : WriterBuilder). Appends (text_written contents old) (text_written contents now) (next_sep s (length fields) ++ field_text s field)) has.setup here in
    record {
      setup = same ∙ has.setup;
      count = omega (arith, count, has.count, room, length-append fields (field ∷ []));
      text = subst (λ t. Appends before (text_written contents now) t) (sym (row_body-push rfc_4180 fields field)) (Appends-trans before (text_written contents old) (text_written contents now) _ _ has.text there);
    }

-- a row was ended
pub ended : {W : Type 0} (contents : W → Option (List ℕ)) (old now : Writer W) (wrote : Bool) (before : Option (List ℕ)) (fields : List (List ℕ)) → HasFields contents before fields old → 2 ≤ length fields
    → Appends (text_written contents old) (text_written contents now) (tail_text (writer_setup old) wrote (fields_written old))
    → Appends before (text_written contents now) (row_text rfc_4180 fields)
ended contents old now wrote before fields has two text =
    let here = subst (λ (n : ℕ). Appends (text_written contents old) (text_written contents now) (tail_text (writer_setup old) wrote n)) has.count text in
    let there = subst (λ (s : WriterBuilder). Appends (text_written contents old) (text_written contents now) (tail_text s wrote (length fields))) has.setup here in
    let end = subst (λ t. Appends (text_written contents old) (text_written contents now) t) (tail_text-of_two rfc_4180 wrote (length fields) two) there in
    subst (λ t. Appends before (text_written contents now) t) (sym (row_text-of_two rfc_4180 fields two)) (Appends-trans before (text_written contents old) (text_written contents now) _ _ has.text end)

-- what follows of three facts of a call that succeeded
pub with_three : {T E : Type 0} (result : Result T E) (A B C P : Type 0) → (A → B → C → P) → OnOk result A → OnOk result B → OnOk result C → OnOk result P
with_three (Ok x) A B C P f a b c = f a b c
with_three (Err e) A B C P f a b c = tt

-- between two rows there is no field yet
pub begun : {W : Type 0} (contents : W → Option (List ℕ)) (rows : Writer W) → IsBetweenRows rows → HasFields contents (text_written contents rows) [] rows
begun contents rows between = record {
  setup = between.setup;
  count = between.fields;
  text = Appends-nil (text_written contents rows);
}

-- the first three fields of a row
pub three_put : {W : Type 0} (contents : W → Option (List ℕ)) (a b c d : Writer W) (x y z : List ℕ) → IsBetweenRows a → HasFieldMore contents a b x → HasFieldMore contents b c y → HasFieldMore contents c d z
    → HasFields contents (text_written contents a) (x ∷ y ∷ z ∷ []) d
three_put contents a b c d x y z between first second third =
    let before = text_written contents a in
    third before (x ∷ y ∷ []) (second before (x ∷ []) (first before [] (begun contents a between) (omega arith)) (omega arith)) (omega arith)
