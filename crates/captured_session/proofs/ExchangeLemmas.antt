-- The exchanges of a session's packets.
use Rattle.std.proofs.Common.{◌≡◌, ℕ, zero, suc, ◌+◌, Bool, true, false, List, [], ◌∷◌, ◌++◌}
use Rattle.std.proofs.Common.{drop, length, take, reverse}
use Rattle.std.proofs.Common.{Option, Some, None, refl, ap, sym, ◌∙◌, if◌then◌else◌, append_assoc}
use Rattle.std.proofs.Common.{add-one}
use Rattle.std.proofs.lemmas.Bool.{false≢true}
use Rattle.std.proofs.lemmas.List.{append-nil, reverse-append}
use Rattle.std.proofs.lemmas.List.Elements.{filter-append}
use Rattle.std.specs.List.{filter, flat_map, range_with_len, slice_get}
use Rattle.captured_session.specs.Exchanges.{Exchange, Heard, answered, awaited, comes_behind}
use Rattle.captured_session.specs.Exchanges.{ends_with, exchanges, is_command, is_reply}
use Rattle.captured_session.specs.Exchanges.{left_by, lone_by, to_come, unanswered, waiting}
use Rattle.captured_session.specs.Exchanges.{waits_behind}
use Rattle.captured_session.specs.LawsOfExchanges.{EachCommandOnce, OthersChangeNothing}
use Rattle.captured_session.specs.LawsOfExchanges.{exchange_alone, exchange_by, exchange_of}
use Rattle.captured_session.specs.LawsOfExchanges.{first_said, is_said}
use Rattle.captured_session.specs.SetUps.{set_up_after}
use Rattle.captured_session.specs.declared.side.Side.TheVariants.{Master, Slave}

-- behind any other packet the same command waits, as many bytes are to come, and nothing has ended
waits-other : (x : Heard) (w : Option (List ℕ)) → is_said x ≡ false → waits_behind x w ≡ w
waits-other (Master, []) w other = absurd (false≢true (sym other))
waits-other (Master, code ∷ rest) w other =
    ap (λ (b : Bool). if b then Some (code ∷ rest) else w) other
waits-other (Slave, p) w other = ap (λ (b : Bool). if b then None else w) other

comes-other : (x : Heard) (w : Option (List ℕ)) (n : ℕ) → is_said x ≡ false
    → comes_behind x w n ≡ n
comes-other (Master, []) w n other = absurd (false≢true (sym other))
comes-other (Master, code ∷ rest) w n other = ap (λ (b : Bool). if b then 0 else n) other
comes-other (Slave, p) w n other =
    ap (λ (b : Bool). if b then left_by p (awaited w n) else n) other

ends-other : (x : Heard) (w : Option (List ℕ)) (n : ℕ) → is_said x ≡ false → ends_with x w n ≡ []
ends-other (Master, []) w n other = absurd (false≢true (sym other))
ends-other (Master, code ∷ rest) w n other =
    ap (λ (b : Bool). if b then unanswered w else []) other
ends-other (Slave, p) w n other = ap (λ (b : Bool). if b then answered w n p else []) other

waiting-other : (later before : List Heard) (x : Heard) → is_said x ≡ false
    → waiting (later ++ x ∷ before) ≡ waiting (later ++ before)
waiting-other [] before x other = waits-other x (waiting before) other
waiting-other (y ∷ later) before x other = ap (waits_behind y) (waiting-other later before x other)

to_come-other : (later before : List Heard) (x : Heard) → is_said x ≡ false
    → to_come (later ++ x ∷ before) ≡ to_come (later ++ before)
to_come-other [] before x other = comes-other x (waiting before) (to_come before) other
to_come-other (y ∷ later) before x other =
    ap (λ (w : Option (List ℕ)). comes_behind y w (to_come (later ++ x ∷ before)))
    (waiting-other later before x other)
    ∙ ap (comes_behind y (waiting (later ++ before))) (to_come-other later before x other)

exchanges-other : (later before : List Heard) (x : Heard) → is_said x ≡ false
    → exchanges (later ++ x ∷ before) ≡ exchanges (later ++ before)
exchanges-other [] before x other =
    ap (λ (xs : List Exchange). xs ++ exchanges before)
    (ends-other x (waiting before) (to_come before) other)
exchanges-other (y ∷ later) before x other =
    let all = later ++ x ∷ before in
    let rest = later ++ before in
    ap (λ (w : Option (List ℕ)). ends_with y w (to_come all) ++ exchanges all)
    (waiting-other later before x other)
    ∙ ap (λ (n : ℕ). ends_with y (waiting rest) n ++ exchanges all)
    (to_come-other later before x other)
    ∙ ap (λ (xs : List Exchange). ends_with y (waiting rest) (to_come rest) ++ xs)
    (exchanges-other later before x other)

pub others_change_nothing : OthersChangeNothing
others_change_nothing given later before x other = λ i. record {
  set_up = set_up_after given (exchanges-other later before x other i);
  waiting = waiting-other later before x other i;
  to_come = to_come-other later before x other i;
}

-- the first of those that came behind a packet, and of that packet itself
first-said : (later : List Heard) (x : Heard) → is_said x ≡ true
    → first_said (later ++ x ∷ []) ≡ Some x
first-said later x said =
    let kept : filter is_said (later ++ x ∷ []) ≡ filter is_said later ++ x ∷ [] =
    filter-append is_said later (x ∷ [])
    ∙ ap (λ (b : Bool). filter is_said later ++ (if b then x ∷ [] else [])) said in
    ap (λ (xs : List Heard). slice_get (reverse xs) 0) kept
    ∙ ap (λ (xs : List Heard). slice_get xs 0) (reverse-append (filter is_said later) (x ∷ []))

first-other : (later : List Heard) (x : Heard) → is_said x ≡ false
    → first_said (later ++ x ∷ []) ≡ first_said later
first-other later x other =
    let kept : filter is_said (later ++ x ∷ []) ≡ filter is_said later =
    filter-append is_said later (x ∷ [])
    ∙ ap (λ (b : Bool). filter is_said later ++ (if b then x ∷ [] else [])) other
    ∙ append-nil (filter is_said later) in
    ap (λ (xs : List Heard). slice_get (reverse xs) 0) kept

-- the exchange of the command that waits, by the first of the packets behind it
abbrev ended : Option Heard → Option (List ℕ) → List Exchange
ended first None = []
ended first (Some c) = exchange_of c first

-- one place on
places-shift : {A : Type 0} (f : ℕ → List A) (a n : ℕ)
    → flat_map f (range_with_len (a + 1) n) ≡ flat_map (λ i. f (suc i)) (range_with_len a n)
places-shift f a zero = refl
places-shift f a (suc n) =
    ap (λ (xs : List _). xs ++ flat_map f (range_with_len (a + 1 + 1) n)) (ap f (add-one a))
    ∙ ap (λ (xs : List _). f (suc a) ++ xs) (places-shift f (a + 1) n)

-- a packet that is neither a command nor a reply has no exchange
by-other : (x : Heard) (first : Option Heard) (before : List Heard) → is_said x ≡ false
    → exchange_by (Some x) first before ≡ []
by-other (Master, []) first before other = absurd (false≢true (sym other))
by-other (Master, code ∷ rest) first before other =
    ap (λ (b : Bool). if b then exchange_of (code ∷ rest) first else []) other
by-other (Slave, p) first before other = alone (waiting before)
  where
    alone : (w : Option (List ℕ)) → exchange_alone w (to_come before) p ≡ []
    alone None = ap (λ (b : Bool). if b then lone_by (to_come before) p else []) other
    alone (Some c) = refl

-- where a packet is one, the exchange of its own and that of the command that waits are those of
-- the command that waits behind it, and of what ends with it
said-code : (code : ℕ) (rest : List ℕ) (first : Option Heard) (w : Option (List ℕ))
    (xs : List Exchange) (b : Bool) → b ≡ true
    → (if b then exchange_of (code ∷ rest) first else [])
    ++ (ended (Some (Master, code ∷ rest)) w ++ xs)
    ≡ ended first (if b then Some (code ∷ rest) else w)
    ++ ((if b then unanswered w else []) ++ xs)
said-code code rest first None xs true is = refl
said-code code rest first (Some c) xs true is = refl
said-code code rest first w xs false is = absurd (false≢true is)

said-reply : (p : List ℕ) (first : Option Heard) (w : Option (List ℕ)) (n : ℕ)
    (xs : List Exchange) (b : Bool) → b ≡ true → is_reply p ≡ b
    → exchange_alone w n p ++ (ended (Some (Slave, p)) w ++ xs)
    ≡ ended first (if b then None else w) ++ ((if b then answered w n p else []) ++ xs)
said-reply p first None n xs true is reply =
    ap (λ (b : Bool). (if b then lone_by n p else []) ++ xs) reply
said-reply p first (Some c) n xs true is reply = refl
said-reply p first w n xs false is reply = absurd (false≢true is)

by-said : (x : Heard) (first : Option Heard) (before : List Heard) (xs : List Exchange)
    → is_said x ≡ true
    → exchange_by (Some x) first before ++ (ended (Some x) (waiting before) ++ xs)
    ≡ ended first (waits_behind x (waiting before))
    ++ (ends_with x (waiting before) (to_come before) ++ xs)
by-said (Master, []) first before xs said = missing (waiting before)
  where
    missing : (w : Option (List ℕ))
        → ([], None) ∷ [] ++ (ended (Some (Master, [])) w ++ xs) ≡ ([], None) ∷ [] ++ xs
    missing None = refl
    missing (Some c) = refl
by-said (Master, code ∷ rest) first before xs said =
    said-code code rest first (waiting before) xs (is_command (code ∷ rest)) said
by-said (Slave, p) first before xs said =
    said-reply p first (waiting before) (to_come before) xs (is_reply p) said refl

-- one packet more in front of the others
turn : (later : List Heard) (x : Heard) (before : List Heard) (xs : List Exchange) (b : Bool)
    → is_said x ≡ b
    → exchange_by (Some x) (first_said later) before
    ++ (ended (first_said (later ++ x ∷ [])) (waiting before) ++ xs)
    ≡ ended (first_said later) (waits_behind x (waiting before))
    ++ (ends_with x (waiting before) (to_come before) ++ xs)
turn later x before xs true here =
    let front = first_said later in
    ap (λ (next : Option Heard). exchange_by (Some x) front before
    ++ (ended next (waiting before) ++ xs)) (first-said later x here)
    ∙ by-said x front before xs here
turn later x before xs false here =
    let front = first_said later in
    let w = waiting before in
    let next = first_said (later ++ x ∷ []) in
    ap (λ (ys : List Exchange). ys ++ (ended next w ++ xs)) (by-other x front before here)
    ∙ ap (λ (n : Option Heard). ended n w ++ xs) (first-other later x here)
    ∙ ap (λ (v : Option (List ℕ)). ended front v ++ xs) (sym (waits-other x w here))
    ∙ ap (λ (ys : List Exchange). ended front (waits_behind x w) ++ (ys ++ xs))
    (sym (ends-other x w (to_come before) here))

-- the exchange of the packet at a place of some, behind which these came too
abbrev exchange_in : List Heard → List Heard → ℕ → List Exchange
exchange_in later before i =
    exchange_by (slice_get before i) (first_said (later ++ take i before)) (drop (suc i) before)

places-same : {A : Type 0} (f g : ℕ → List A) (ns : List ℕ) → ((i : ℕ) → f i ≡ g i)
    → flat_map f ns ≡ flat_map g ns
places-same f g ns same = ap (λ (h : ℕ → List _). flat_map h ns) (λ j i. same i j)

-- the exchanges of some packets, by those that came behind them
placed : (later before : List Heard)
    → flat_map (exchange_in later before) (range_with_len 0 (length before))
    ≡ ended (first_said later) (waiting before) ++ exchanges before
placed later [] = refl
placed later (x ∷ before) =
    let places = range_with_len 0 (length before) in
    let here = λ (i : ℕ). exchange_in later (x ∷ before) i in
    let behind : (i : ℕ) → here (suc i) ≡ exchange_in (later ++ x ∷ []) before i =
    λ i. ap (λ (front : List Heard).
    exchange_by (slice_get before i) (first_said front) (drop (suc i) before))
    (sym (append_assoc later (x ∷ []) (take i before))) in
    ap (λ (front : List Heard). exchange_by (Some x) (first_said front) before
    ++ flat_map here (range_with_len 1 (length before))) (append-nil later)
    ∙ ap (λ (xs : List Exchange). exchange_by (Some x) (first_said later) before ++ xs)
    (places-shift here 0 (length before)
    ∙ places-same (λ i. here (suc i)) (exchange_in (later ++ x ∷ []) before) places behind
    ∙ placed (later ++ x ∷ []) before)
    ∙ turn later x before (exchanges before) (is_said x) refl

nothing-waits : (heard : List Heard) → ended None (waiting heard) ≡ []
nothing-waits heard = none (waiting heard)
  where
    none : (w : Option (List ℕ)) → ended None w ≡ []
    none None = refl
    none (Some c) = refl

pub each_command_once : EachCommandOnce
each_command_once heard =
    sym (placed [] heard
    ∙ ap (λ (xs : List Exchange). xs ++ exchanges heard) (nothing-waits heard))
