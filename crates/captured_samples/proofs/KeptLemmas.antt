-- What is kept of samples, with one more.
use Rattle.std.proofs.Common.{◌≡◌, ℕ, ◌++◌, ◌∷◌, [], List, false, refl, sym, ap, ◌∙◌, Result, Ok, Err, OnOk, is_err}
use Rattle.std.proofs.lemmas.List.{append_assoc}
use Rattle.captured_samples.specs.Kept.{AreKept, bytes_of, kept_of}
use Rattle.captured_samples.specs.Standing.{Told, began, handed}
use Rattle.captured_samples.specs.declared.kept_samples.KeptSample.{KeptSample}

kept-both : (ts us : List Told) → kept_of (ts ++ us) ≡ kept_of ts ++ kept_of us
kept-both [] us = refl
kept-both (began n l ∷ ts) us = kept-both ts us
kept-both (handed n s m ∷ ts) us =
    ap (λ (ks : List KeptSample). record { number = n; list = s.list.list; mark = m; ticks = s.ticks } ∷ ks) (kept-both ts us)

bytes-both : (ts us : List Told) → bytes_of (ts ++ us) ≡ bytes_of ts ++ bytes_of us
bytes-both [] us = refl
bytes-both (began n l ∷ ts) us = bytes-both ts us
bytes-both (handed n s m ∷ ts) us =
    ap (λ (bs : List ℕ). s.bytes ++ bs) (bytes-both ts us) ∙ sym (append_assoc s.bytes (bytes_of ts) (bytes_of us))

-- something more was told, and kept
pub kept-more : (ks ls : List KeptSample) (bs cs : List ℕ) (ts us : List Told) → AreKept ks bs ts → ls ≡ ks ++ kept_of us
    → cs ≡ bs ++ bytes_of us → AreKept ls cs (ts ++ us)
kept-more ks ls bs cs ts us are each joined = record {
  each = each ∙ ap (λ (xs : List KeptSample). xs ++ kept_of us) are.each ∙ sym (kept-both ts us);
  joined = joined ∙ ap (λ (xs : List ℕ). xs ++ bytes_of us) are.joined ∙ sym (bytes-both ts us);
}

-- what is promised if all goes well, where it does
pub ok-of : {T E : Type 0} (r : Result T E) (P : Type 0) → OnOk r P → is_err r ≡ false → P
ok-of (Ok x) P p ok = p
ok-of (Err e) P p ok = absurd cc
