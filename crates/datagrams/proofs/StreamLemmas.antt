-- What came of a connection, by sequence numbers.
use Rattle.std.proofs.Common.{◌≡◌, ℕ, zero, suc, ◌+◌, ◌-◌, ◌%◌, ◌^◌, ◌<◌, ◌≤◌, Bool, true, false, if◌then◌else◌, List, [], ◌∷◌, ◌++◌, length, get_or, slice_range, take, unwrap_or, is_some, Option, Some, None, refl, sym, ap, ◌∙◌, arith}
use Rattle.std.specs.Option.{option_or}
use Rattle.std.specs.List.{filter, remove, slice_get}
use Rattle.std.proofs.lemmas.List.Edits.{get_or-between, length-between}
use Rattle.std.proofs.lemmas.Option.{none-some, same_Some, slice_get-get_or}
use Rattle.datagrams.specs.Inner.{HasFirst, HasNone, IsRun}
use Rattle.datagrams.specs.Tcp.{SegmentOf}
use Rattle.datagrams.specs.TcpStreams.{StretchOf, StreamOf, ahead_of, byte_numbered, byte_of, first_number, reaches, with_segment}

-- none has the byte of a number
pub numbered-none : (cs : List StretchOf) (i n : ℕ) → HasNone cs i n → length cs ≤ i → byte_numbered cs n ≡ None
numbered-none [] i n none all = refl
numbered-none (c ∷ cs) zero n none all = absurd (omega (arith, all))
numbered-none (c ∷ cs) (suc i) n none all =
    ap (λ o. option_or o (byte_numbered cs n)) (none 0 c (omega arith) refl)
    ∙ numbered-none cs i n (λ j d l at. none (suc j) d (omega (arith, l)) at) (omega (arith, all))

-- the first that has it gives it
numbered-first : (cs : List StretchOf) (i n b : ℕ) (c : StretchOf) → HasNone cs i n → slice_get cs i ≡ Some c → byte_of c n ≡ Some b → byte_numbered cs n ≡ Some b
numbered-first [] i n b c none at has = absurd (none-some c at)
numbered-first (d ∷ cs) zero n b c none at has =
    ap (λ o. option_or o (byte_numbered cs n)) (ap (λ (x : StretchOf). byte_of x n) (same_Some d c at) ∙ has)
numbered-first (d ∷ cs) (suc i) n b c none at has =
    ap (λ o. option_or o (byte_numbered cs n)) (none 0 d (omega arith) refl)
    ∙ numbered-first cs i n b c (λ j e l there. none (suc j) e (omega (arith, l)) there) at has

-- a number that is farther ahead
ahead-more : (a n k : ℕ) → ahead_of a n + k < 2 ^ 32 → ahead_of a ((n + k) % 2 ^ 32) ≡ ahead_of a n + k
ahead-more a n k small = omega (arith, small)

-- a part of a list, by places
get-range : (xs : List ℕ) (from len k : ℕ) → from + len ≤ length xs → k < len → slice_get (slice_range xs from (from + len)) k ≡ slice_get xs (from + k)
get-range xs from len k within l =
    let many : length (slice_range xs from (from + len)) ≡ from + len - from = length-between xs from (from + len) within in
    slice_get-get_or (slice_range xs from (from + len)) k 0 (omega (arith, many, l))
    ∙ ap Some (get_or-between xs from (from + len) k 0 (omega (arith, l)))
    ∙ sym (slice_get-get_or xs (from + k) 0 (omega (arith, within, l)))

-- bytes of the first that has one of them, as far as none before it has one
pub is-run : (cs : List StretchOf) (place n len : ℕ) (before after : List ℕ) (f : HasFirst cs n place) → ahead_of f.here.number n + len ≤ length f.here.bytes
    → length f.here.bytes ≤ 16777216 → 0 < len → ((k : ℕ) → k < len → HasNone cs place ((n + k) % 2 ^ 32))
    → after ≡ before ++ slice_range f.here.bytes (ahead_of f.here.number n) (ahead_of f.here.number n + len) → IsRun cs n before after len
is-run cs place n len before after f within few some none is =
    let from = ahead_of f.here.number n in
    let run = slice_range f.here.bytes from (from + len) in
    let many : length run ≡ from + len - from = length-between f.here.bytes from (from + len) within in
    record {
      run = run;
      handed = is;
      many = omega (arith, many);
      some = some;
      each = λ k l.
          let there : slice_get run k ≡ Some (get_or run k 0) = slice_get-get_or run k 0 (omega (arith, many, l)) in
          let ahead : ahead_of f.here.number ((n + k) % 2 ^ 32) ≡ from + k = ahead-more f.here.number n k (omega (arith, within, few, l)) in
          numbered-first cs place ((n + k) % 2 ^ 32) (get_or run k 0) f.here (none k l) f.at
          (ap (slice_get f.here.bytes) ahead ∙ sym (get-range f.here.bytes from len k within l) ∙ there)
          ∙ sym there;
    }

-- one that is let go of changes nothing of what is kept
pub filter-remove : (test : StretchOf → Bool) (cs : List StretchOf) (i : ℕ) (c : StretchOf) → slice_get cs i ≡ Some c → test c ≡ false
    → filter test (remove cs i) ≡ filter test cs
filter-remove test [] i c at out = absurd (none-some c at)
filter-remove test (d ∷ cs) zero c at out =
    sym (ap (λ b. if b then d ∷ filter test cs else filter test cs) (ap test (same_Some d c at) ∙ out))
filter-remove test (d ∷ cs) (suc i) c at out =
    ap (λ ds. if test d then d ∷ ds else ds) (filter-remove test cs i c at out)

-- where all stay, nothing changes
pub filter-all : (test : StretchOf → Bool) (cs : List StretchOf) (i : ℕ) → ((j : ℕ) (c : StretchOf) → j < i → slice_get cs j ≡ Some c → test c ≡ true) → length cs ≤ i
    → filter test cs ≡ cs
filter-all test [] i stay all = refl
filter-all test (c ∷ cs) zero stay all = absurd (omega (arith, all))
filter-all test (c ∷ cs) (suc i) stay all =
    ap (λ b. if b then c ∷ filter test cs else filter test cs) (stay 0 c (omega arith) refl)
    ∙ ap (λ ds. c ∷ ds) (filter-all test cs i (λ j d l at. stay (suc j) d (omega (arith, l)) at) (omega (arith, all)))

-- before the place nothing changes
pub get-remove : (cs : List StretchOf) (i j : ℕ) → j < i → slice_get (remove cs i) j ≡ slice_get cs j
get-remove [] zero j l = refl
get-remove [] (suc i) j l = refl
get-remove (c ∷ cs) zero j l = absurd (omega (arith, l))
get-remove (c ∷ cs) (suc i) zero l = refl
get-remove (c ∷ cs) (suc i) (suc j) l = get-remove cs i j (omega (arith, l))

-- what is known behind a segment
pub with-segment : (old : StreamOf) (s : SegmentOf) (number next first : ℕ) (bytes : List ℕ) (came : List StretchOf) (end : Option ℕ) → number ≡ first_number s
    → bytes ≡ take 16777216 s.payload → next ≡ (if is_some old.first then old.next else number) → first ≡ unwrap_or old.first number
    → came ≡ (if reaches number (length bytes) next then old.came ++ record { number = number; bytes = bytes } ∷ [] else old.came)
    → end ≡ (if s.ends then Some ((number + length bytes) % 2 ^ 32) else old.end)
    → ◌≡◌ {A = StreamOf} record { first = Some first; next = next; came = came; end = end; gives_up = s.breaks_off } (with_segment old s)
with-segment old s number next first bytes came end e b n f c d = rw (f, c, d, n, e, b) refl
