-- The text of the rows, sample by sample.
use Rattle.std.proofs.Common.{◌≡◌, ℕ, Bool, true, false, List, [], ◌∷◌, ◌++◌, Option, Some, None, refl, sym, ap, subst, ◌∙◌, append-nil, append_assoc}
use Rattle.std.specs.Prelude.{not, reverse, slice_get}
use Rattle.std.specs.Io.KnownBytes.{Appends, append_known}
use Rattle.std.proofs.KnownBytes.{Appends-trans}
use Rattle.std.proofs.lemmas.List.{reverse-append}
use Rattle.csv.specs.Writing.{row_text, text_written, writer_pending, writer_under}
use Rattle.csv.specs.declared.writer.Writer.{Writer}
use Rattle.copy_plan.specs.Config.{ListPlan}
use Rattle.daq_reader.specs.Recorded.{Recorded}
use Rattle.sample_tables.specs.Rows.{HasRows, IsBetweenRows, column_names, csv_text, rfc_4180, rows_of, text_at}
use Rattle.sample_tables.specs.Spots.{spot_of}
use Rattle.sample_tables.specs.declared.spot.Spot.{Spot}

-- a writer that begins with nothing pending
pub begins : (a b : Option (List ℕ)) (bs : List ℕ) → Appends (append_known a []) b bs → Appends a b bs
begins None b bs p = tt
begins (Some x) None bs p = p
begins (Some x) (Some y) bs p = p ∙ ap (λ l. l ++ bs) (append-nil x)

-- the names of the columns alone
pub names_alone : {W : Type 0} (contents : W → Option (List ℕ)) (plans : List ListPlan) (out : W) (first named : Writer W)
    → writer_under first ≡ out → writer_pending first ≡ []
    → Appends (text_written contents first) (text_written contents named) (row_text rfc_4180 column_names)
    → IsBetweenRows named → HasRows contents plans (contents out) [] named
names_alone contents plans out first named under pending text between =
    let at = subst (λ w. Appends (append_known (contents w) (writer_pending first)) (text_written contents named) (row_text rfc_4180 column_names)) under text in
    let none = subst (λ bs. Appends (append_known (contents out) bs) (text_written contents named) (row_text rfc_4180 column_names)) pending at in
    record {
      between = between;
      text = subst (λ t. Appends (contents out) (text_written contents named) t) (sym (append-nil (row_text rfc_4180 column_names))) (begins (contents out) (text_written contents named) _ none);
    }

-- the newest one stands in front
pub reverse-push : {X : Type 0} (xs : List X) (x : X) → reverse (xs ++ x ∷ []) ≡ x ∷ reverse xs
reverse-push xs x = reverse-append xs (x ∷ [])

-- the rows of one sample more
csv_text-push : (plans : List ListPlan) (samples : List (ℕ × Recorded)) (place : ℕ) (r : Recorded)
    → csv_text plans samples ++ text_at (slice_get plans place) (spot_of plans (reverse samples) place r) r ≡ csv_text plans (samples ++ (place, r) ∷ [])
csv_text-push plans samples place r =
    let head = row_text rfc_4180 column_names in
    append_assoc head (rows_of plans (reverse samples)) (text_at (slice_get plans place) (spot_of plans (reverse samples) place r) r)
    ∙ ap (λ (ss : List (ℕ × Recorded)). head ++ rows_of plans ss) (sym (reverse-push samples (place, r)))

-- where the sample is of no list, it has no rows
same_text : (o : Option ListPlan) (at there : Spot) (r : Recorded) → ((plan : ListPlan) → o ≡ Some plan → at ≡ there) → text_at o at r ≡ text_at o there r
same_text None at there r h = refl
same_text (Some plan) at there r h = ap (λ s. text_at (Some plan) s r) (h plan refl)

pub rows_more : {W : Type 0} (contents : W → Option (List ℕ)) (plans : List ListPlan) (start : Option (List ℕ)) (samples : List (ℕ × Recorded)) (place : ℕ) (r : Recorded) (at : Spot) (before now : Writer W)
    → HasRows contents plans start samples before
    → ((plan : ListPlan) → slice_get plans place ≡ Some plan → at ≡ spot_of plans (reverse samples) place r)
    → Appends (text_written contents before) (text_written contents now) (text_at (slice_get plans place) at r)
    → IsBetweenRows now → HasRows contents plans start (samples ++ (place, r) ∷ []) now
rows_more contents plans start samples place r at before now has stands text between =
    let here = subst (λ t. Appends (text_written contents before) (text_written contents now) t) (same_text (slice_get plans place) at (spot_of plans (reverse samples) place r) r stands) text in
    record {
      between = between;
      text = subst (λ t. Appends start (text_written contents now) t) (csv_text-push plans samples place r)
          (Appends-trans start (text_written contents before) (text_written contents now) _ _ has.text here);
    }

-- no row failed
pub went_on : (b : Bool) → not b ≡ false → b ≡ true
went_on true h = refl
went_on false h = absurd (cc (h))
