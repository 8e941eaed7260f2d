-- The parts of elements are read of their words.
use Rattle.std.proofs.Common.{◌≡◌, ℕ, zero, suc, ◌+◌, Bool, true, false, cond, List, [], ◌∷◌, ◌++◌, length, Option, Some, None, refl, sym, ap, ◌∙◌, append_assoc, arith}
use Rattle.std.specs.Prelude.{codes}
use Rattle.std.specs.Option.{unwrap_or}
use Rattle.std.specs.Str.{bytes_eq}
use Rattle.std.proofs.lemmas.List.{append-nil}
use Rattle.a2l_text.specs.Keywords.{meaning}
use Rattle.a2l_text.specs.Tokens.{Token, end, plain, quoted}
use Rattle.a2l_text.specs.Trees.{Elements, none, word, text, include, block, printed_before, IsWithin, direct}
use Rattle.a2l_text.specs.Roles.{inside, inside_part, module_block, module_blocks, xcp_blocks, plus_blocks, after_plain, after_text, may_include, part_of}
use Rattle.a2l_text.specs.Parts.{joined_words, parts_of_block, words_in, parts}
use Rattle.a2l_text.specs.Ahead.{Open, gathered_at_begin, in_front, sections_at_block_end, sections_from, gathered_with}
use Rattle.a2l_text.specs.Reading.{ReadsAll}
use Rattle.a2l_text.specs.declared.part.Part.{Part}
use Rattle.a2l_text.specs.declared.part.Part.TheVariants as part
use Rattle.a2l_text.specs.declared.role.Role.{Role}
use Rattle.a2l_text.specs.declared.role.Role.TheVariants.{File, Project, Module, IfData, Xcp, XcpPlus, Gathered, Grammar, Joined, PassedOver}
use Rattle.a2l_text.proofs.Steps.{opens, closes, in_front-nil, in_front-append}

-- a block that is passed over, and all in it
passed_over : (f : Elements) (room : ℕ) (os : List Open) (g ws : List Token) → IsWithin room PassedOver f → length os + room ≡ 64
    → sections_from PassedOver os g (printed_before f ws) ≡ sections_from PassedOver os g ws
unfolding sections_from
passed_over none room os g ws within r = refl
passed_over (word b others) room os g ws within r = passed_over others room os g ws within r
passed_over (text b others) room os g ws within r = passed_over others room os g ws within r
passed_over (include others) room os g ws within r = let no : false ≡ true = within.0 in absurd cc
passed_over (block n inner others) zero os g ws within r = absurd within
passed_over (block n inner others) (suc room) os g ws within r =
    let o : Open = record { name = n; outer = PassedOver } in
    let behind = printed_before others ws in
    opens PassedOver os g n (printed_before inner (end ∷ plain n ∷ behind)) (omega arith)
    ∙ passed_over inner room (o ∷ os) g (end ∷ plain n ∷ behind) within.0 (omega arith)
    ∙ closes PassedOver o os g n behind refl
    ∙ passed_over others (suc room) os g ws within.1 r

-- so is A2ML, with each /include in it
grammar_over : (f : Elements) (room : ℕ) (os : List Open) (g ws : List Token) → IsWithin room Grammar f → length os + room ≡ 64
    → sections_from Grammar os g (printed_before f ws) ≡ sections_from Grammar os g ws
unfolding sections_from
grammar_over none room os g ws within r = refl
grammar_over (word b others) room os g ws within r = grammar_over others room os g ws within r
grammar_over (text b others) room os g ws within r = grammar_over others room os g ws within r
grammar_over (include others) room os g ws within r = grammar_over others room os g ws within.1 r
grammar_over (block n inner others) zero os g ws within r = absurd within
grammar_over (block n inner others) (suc room) os g ws within r =
    let o : Open = record { name = n; outer = Grammar } in
    let behind = printed_before others ws in
    opens Grammar os g n (printed_before inner (end ∷ plain n ∷ behind)) (omega arith)
    ∙ grammar_over inner room (o ∷ os) g (end ∷ plain n ∷ behind) within.0 (omega arith)
    ∙ closes Grammar o os g n behind refl
    ∙ grammar_over others (suc room) os g ws within.1 r

-- the words of a block are gathered with those of the part around it
joins : (f : Elements) (room : ℕ) (os : List Open) (g ws : List Token) → IsWithin room Joined f → length os + room ≡ 64
    → sections_from Joined os g (printed_before f ws) ≡ sections_from Joined os (g ++ direct f) ws
unfolding sections_from
joins none room os g ws within r = ap (λ (x : List Token). sections_from Joined os x ws) (sym (append-nil g))
joins (word b others) room os g ws within r =
    joins others room os (g ++ plain b ∷ []) ws within r
    ∙ ap (λ (x : List Token). sections_from Joined os x ws) (append_assoc g (plain b ∷ []) (direct others))
joins (text b others) room os g ws within r =
    joins others room os (g ++ quoted b ∷ []) ws within r
    ∙ ap (λ (x : List Token). sections_from Joined os x ws) (append_assoc g (quoted b ∷ []) (direct others))
joins (include others) room os g ws within r = let no : false ≡ true = within.0 in absurd cc
joins (block n inner others) zero os g ws within r = absurd within
joins (block n inner others) (suc room) os g ws within r =
    let o : Open = record { name = n; outer = Joined } in
    let behind = printed_before others ws in
    opens Joined os g n (printed_before inner (end ∷ plain n ∷ behind)) (omega arith)
    ∙ passed_over inner room (o ∷ os) g (end ∷ plain n ∷ behind) within.0 (omega arith)
    ∙ closes PassedOver o os g n behind refl
    ∙ joins others (suc room) os g ws within.1 r

-- one of two roles
either : {A : Type 0} (P : A → Type 0) (b : Bool) (x y : A) → P x → P y → P (cond b x y)
either P true x y p q = p
either P false x y p q = q

-- a block in a part is gathered with it, or passed over
abbrev IsInner : Role → Type 0
IsInner File = ⊥
IsInner Project = ⊥
IsInner Module = ⊥
IsInner IfData = ⊥
IsInner Xcp = ⊥
IsInner XcpPlus = ⊥
IsInner (Gathered p) = ⊥
IsInner Joined = Unit {0}
IsInner Grammar = ⊥
IsInner PassedOver = Unit {0}

inner_part : (p : Part) (n : List ℕ) → IsInner (inside_part p n)
inner_part part.Defaults n = tt
inner_part part.Measurement n = either IsInner (bytes_eq n (codes "BIT_OPERATION")) Joined PassedOver tt tt
inner_part part.Instance n = tt
inner_part part.Method n = tt
inner_part part.Table n = tt
inner_part part.Ranges n = tt
inner_part part.Protocol n = tt
inner_part part.Daq n = either IsInner (bytes_eq n (codes "TIMESTAMP_SUPPORTED")) Joined PassedOver tt tt
inner_part part.PlusDaq n = either IsInner (bytes_eq n (codes "TIMESTAMP_SUPPORTED")) Joined PassedOver tt tt
inner_part part.Timestamp n = tt
inner_part part.Module n = tt

-- a whole block in a part
inner_block : (role : Role) (f : Elements) (room : ℕ) (o : Open) (os : List Open) (g ws : List Token) → IsInner role → IsWithin room role f → length (o ∷ os) + room ≡ 64
    → sections_from role (o ∷ os) (gathered_at_begin role o.name g) (printed_before f (end ∷ plain o.name ∷ ws)) ≡ sections_from o.outer os (g ++ joined_words role o.name (direct f)) ws
inner_block File f room o os g ws i within r = absurd i
inner_block Project f room o os g ws i within r = absurd i
inner_block Module f room o os g ws i within r = absurd i
inner_block IfData f room o os g ws i within r = absurd i
inner_block Xcp f room o os g ws i within r = absurd i
inner_block XcpPlus f room o os g ws i within r = absurd i
inner_block (Gathered p) f room o os g ws i within r = absurd i
inner_block Joined f room o os g ws i within r =
    joins f room (o ∷ os) (g ++ plain o.name ∷ []) (end ∷ plain o.name ∷ ws) within r
    ∙ closes Joined o os ((g ++ plain o.name ∷ []) ++ direct f) o.name ws refl
    ∙ ap (λ (x : List Token). sections_from o.outer os x ws) (append_assoc g (plain o.name ∷ []) (direct f))
inner_block Grammar f room o os g ws i within r = absurd i
inner_block PassedOver f room o os g ws i within r =
    passed_over f room (o ∷ os) g (end ∷ plain o.name ∷ ws) within r
    ∙ closes PassedOver o os g o.name ws refl
    ∙ ap (λ (x : List Token). sections_from o.outer os x ws) (sym (append-nil g))

-- the words of a part are gathered
gathers : (p : Part) (f : Elements) (room : ℕ) (os : List Open) (g ws : List Token) → IsWithin room (Gathered p) f → length os + room ≡ 64
    → sections_from (Gathered p) os g (printed_before f ws) ≡ sections_from (Gathered p) os (g ++ words_in (Gathered p) f) ws
unfolding sections_from
gathers p none room os g ws within r = ap (λ (x : List Token). sections_from (Gathered p) os x ws) (sym (append-nil g))
gathers p (word b others) room os g ws within r =
    gathers p others room os (g ++ plain b ∷ []) ws within r
    ∙ ap (λ (x : List Token). sections_from (Gathered p) os x ws) (append_assoc g (plain b ∷ []) (words_in (Gathered p) others))
gathers p (text b others) room os g ws within r =
    gathers p others room os (g ++ quoted b ∷ []) ws within r
    ∙ ap (λ (x : List Token). sections_from (Gathered p) os x ws) (append_assoc g (quoted b ∷ []) (words_in (Gathered p) others))
gathers p (include others) room os g ws within r = let no : false ≡ true = within.0 in absurd cc
gathers p (block n inner others) zero os g ws within r = absurd within
gathers p (block n inner others) (suc room) os g ws within r =
    let o : Open = record { name = n; outer = Gathered p } in
    let behind = printed_before others ws in
    let of_it = joined_words (inside_part p n) n (direct inner) in
    opens (Gathered p) os g n (printed_before inner (end ∷ plain n ∷ behind)) (omega arith)
    ∙ inner_block (inside_part p n) inner room o os g behind (inner_part p n) within.0 (omega arith)
    ∙ gathers p others (suc room) os (g ++ of_it) ws within.1 r
    ∙ ap (λ (x : List Token). sections_from (Gathered p) os x ws) (append_assoc g of_it (words_in (Gathered p) others))

-- the role behind elements
abbrev pub role_behind : Role → Elements → Role
role_behind role none = role
role_behind role (word b others) = role_behind (after_plain role b) others
role_behind role (text b others) = role_behind (after_text role) others
role_behind role (include others) = role_behind role others
role_behind role (block n inner others) = role_behind role others

-- no words are gathered in a block of this role
abbrev pub IsSimple : Role → Type 0
IsSimple File = Unit {0}
IsSimple Project = Unit {0}
IsSimple Module = Unit {0}
IsSimple IfData = Unit {0}
IsSimple Xcp = Unit {0}
IsSimple XcpPlus = Unit {0}
IsSimple (Gathered p) = ⊥
IsSimple Joined = ⊥
IsSimple Grammar = ⊥
IsSimple PassedOver = Unit {0}

simple_after_plain : (role : Role) (b : List ℕ) → IsSimple role → IsSimple (after_plain role b)
simple_after_plain File b s = tt
simple_after_plain Project b s = tt
simple_after_plain Module b s = tt
simple_after_plain IfData b s =
    either IsSimple (bytes_eq b (codes "XCP")) Xcp (cond (bytes_eq b (codes "XCPplus")) XcpPlus PassedOver) tt
    (either IsSimple (bytes_eq b (codes "XCPplus")) XcpPlus PassedOver tt tt)
simple_after_plain Xcp b s = tt
simple_after_plain XcpPlus b s = tt
simple_after_plain (Gathered p) b s = s
simple_after_plain Joined b s = s
simple_after_plain Grammar b s = s
simple_after_plain PassedOver b s = tt

simple_after_text : (role : Role) → IsSimple role → IsSimple (after_text role)
simple_after_text File s = tt
simple_after_text Project s = tt
simple_after_text Module s = tt
simple_after_text IfData s = tt
simple_after_text Xcp s = tt
simple_after_text XcpPlus s = tt
simple_after_text (Gathered p) s = s
simple_after_text Joined s = s
simple_after_text Grammar s = s
simple_after_text PassedOver s = tt

none_gathered : (role : Role) (w : Token) (g : List Token) → IsSimple role → gathered_with role w g ≡ g
none_gathered File w g s = refl
none_gathered Project w g s = refl
none_gathered Module w g s = refl
none_gathered IfData w g s = refl
none_gathered Xcp w g s = refl
none_gathered XcpPlus w g s = refl
none_gathered (Gathered p) w g s = absurd s
none_gathered Joined w g s = absurd s
none_gathered Grammar w g s = absurd s
none_gathered PassedOver w g s = refl

part_after_plain : (role : Role) (b : List ℕ) → part_of (after_plain role b) ≡ part_of role
part_after_plain File b = refl
part_after_plain Project b = refl
part_after_plain Module b = refl
part_after_plain IfData b =
    either (λ r. part_of r ≡ None) (bytes_eq b (codes "XCP")) Xcp (cond (bytes_eq b (codes "XCPplus")) XcpPlus PassedOver) refl
    (either (λ r. part_of r ≡ None) (bytes_eq b (codes "XCPplus")) XcpPlus PassedOver refl refl)
part_after_plain Xcp b = refl
part_after_plain XcpPlus b = refl
part_after_plain (Gathered p) b = refl
part_after_plain Joined b = refl
part_after_plain Grammar b = refl
part_after_plain PassedOver b = refl

part_after_text : (role : Role) → part_of (after_text role) ≡ part_of role
part_after_text File = refl
part_after_text Project = refl
part_after_text Module = refl
part_after_text IfData = refl
part_after_text Xcp = refl
part_after_text XcpPlus = refl
part_after_text (Gathered p) = refl
part_after_text Joined = refl
part_after_text Grammar = refl
part_after_text PassedOver = refl

part_behind : (f : Elements) (role : Role) → part_of (role_behind role f) ≡ part_of role
part_behind none role = refl
part_behind (word b others) role = part_behind others (after_plain role b) ∙ part_after_plain role b
part_behind (text b others) role = part_behind others (after_text role) ∙ part_after_text role
part_behind (include others) role = part_behind others role
part_behind (block n inner others) role = part_behind others role

-- the end of a block that is no part, and of a MODULE
ended_simply : (role : Role) (f : Elements) (o : Open) (os : List Open) (ws : List Token) → part_of role ≡ None
    → sections_from (role_behind role f) (o ∷ os) [] (end ∷ plain o.name ∷ ws) ≡ sections_from o.outer os [] ws
ended_simply role f o os ws e =
    let x = sections_from o.outer os [] ws in
    closes (role_behind role f) o os [] o.name ws refl ∙ ap (λ (q : Option Part). sections_at_block_end q [] x x) (part_behind f role ∙ e)

ended_module : (f : Elements) (o : Open) (os : List Open) (ws : List Token)
    → sections_from (role_behind Module f) (o ∷ os) [] (end ∷ plain o.name ∷ ws)
    ≡ in_front (record { part = part.Module; words = [] } ∷ []) (sections_from o.outer os [] ws)
ended_module f o os ws =
    let x = sections_from o.outer os [] ws in
    closes (role_behind Module f) o os [] o.name ws refl ∙ ap (λ (q : Option Part). sections_at_block_end q [] x x) (part_behind f Module)

-- what is read of elements in a block of a role: their parts, and then what comes behind them
abbrev pub IsRead : Elements → Role → List Open → List Token → Type 0
IsRead f role os ws = sections_from role os [] (printed_before f ws) ≡ in_front (parts role f) (sections_from (role_behind role f) os [] ws)

-- a block that isn't gathered with one around it
abbrev IsApart : Role → Type 0
IsApart File = Unit {0}
IsApart Project = Unit {0}
IsApart Module = Unit {0}
IsApart IfData = Unit {0}
IsApart Xcp = Unit {0}
IsApart XcpPlus = Unit {0}
IsApart (Gathered p) = Unit {0}
IsApart Joined = ⊥
IsApart Grammar = Unit {0}
IsApart PassedOver = Unit {0}

-- nor is a block by a table of such
abbrev AreApart : List (List ℕ × Role) → Type 0
AreApart [] = Unit {0}
AreApart (row ∷ rows) = IsApart row.1 × AreApart rows

apart_in : (rows : List (List ℕ × Role)) (other : Role) (n : List ℕ) → AreApart rows → IsApart other → IsApart (unwrap_or (meaning rows n) other)
apart_in [] other n h a = a
apart_in (row ∷ rows) other n h a = either (λ m. IsApart (unwrap_or m other)) (bytes_eq n row.0) (Some row.1) (meaning rows n) h.0 (apart_in rows other n h.1 a)

apart_in_module : (n : List ℕ) → IsApart (module_block n)
apart_in_module n = apart_in module_blocks PassedOver n (tt, (tt, (tt, (tt, (tt, (tt, (tt, (tt, tt)))))))) tt

apart_inside : (role : Role) (n : List ℕ) → IsSimple role → IsApart (inside role n)
apart_inside File n s = either IsApart (bytes_eq n (codes "PROJECT")) Project PassedOver tt tt
apart_inside Project n s = either IsApart (bytes_eq n (codes "MODULE")) Module PassedOver tt tt
apart_inside Module n s = apart_in_module n
apart_inside IfData n s = tt
apart_inside Xcp n s = apart_in xcp_blocks Xcp n (tt, (tt, (tt, tt))) tt
apart_inside XcpPlus n s = apart_in plus_blocks XcpPlus n (tt, (tt, tt)) tt
apart_inside (Gathered p) n s = absurd s
apart_inside Joined n s = absurd s
apart_inside Grammar n s = absurd s
apart_inside PassedOver n s = tt

-- its name isn't gathered
begins_apart : (role : Role) (n : List ℕ) (g : List Token) → IsApart role → gathered_at_begin role n g ≡ g
begins_apart File n g a = refl
begins_apart Project n g a = refl
begins_apart Module n g a = refl
begins_apart IfData n g a = refl
begins_apart Xcp n g a = refl
begins_apart XcpPlus n g a = refl
begins_apart (Gathered p) n g a = refl
begins_apart Joined n g a = absurd a
begins_apart Grammar n g a = refl
begins_apart PassedOver n g a = refl

-- a whole block, if its elements are read so
reads_block : (role : Role) (f : Elements) (room : ℕ) (o : Open) (os : List Open) (ws : List Token) → IsApart role → IsWithin room role f → length (o ∷ os) + room ≡ 64
    → (IsSimple role → IsRead f role (o ∷ os) (end ∷ plain o.name ∷ ws))
    → sections_from role (o ∷ os) [] (printed_before f (end ∷ plain o.name ∷ ws)) ≡ in_front (parts_of_block role (words_in role f) (parts role f)) (sections_from o.outer os [] ws)
reads_block File f room o os ws a within r h = h tt ∙ ap (in_front (parts File f)) (ended_simply File f o os ws refl)
reads_block Project f room o os ws a within r h = h tt ∙ ap (in_front (parts Project f)) (ended_simply Project f o os ws refl)
reads_block Module f room o os ws a within r h =
    h tt ∙ ap (in_front (parts Module f)) (ended_module f o os ws)
    ∙ in_front-append (parts Module f) (record { part = part.Module; words = [] } ∷ []) (sections_from o.outer os [] ws)
reads_block IfData f room o os ws a within r h = h tt ∙ ap (in_front (parts IfData f)) (ended_simply IfData f o os ws refl)
reads_block Xcp f room o os ws a within r h = h tt ∙ ap (in_front (parts Xcp f)) (ended_simply Xcp f o os ws refl)
reads_block XcpPlus f room o os ws a within r h = h tt ∙ ap (in_front (parts XcpPlus f)) (ended_simply XcpPlus f o os ws refl)
reads_block (Gathered p) f room o os ws a within r h =
    gathers p f room (o ∷ os) [] (end ∷ plain o.name ∷ ws) within r ∙ closes (Gathered p) o os (words_in (Gathered p) f) o.name ws refl
reads_block Joined f room o os ws a within r h = absurd a
reads_block Grammar f room o os ws a within r h =
    grammar_over f room (o ∷ os) [] (end ∷ plain o.name ∷ ws) within r ∙ closes Grammar o os [] o.name ws refl
    ∙ sym (in_front-nil (sections_from o.outer os [] ws))
reads_block PassedOver f room o os ws a within r h =
    passed_over f room (o ∷ os) [] (end ∷ plain o.name ∷ ws) within r ∙ closes PassedOver o os [] o.name ws refl
    ∙ sym (in_front-nil (sections_from o.outer os [] ws))

includes_none : (role : Role) → IsSimple role → may_include role ≡ false
includes_none File s = refl
includes_none Project s = refl
includes_none Module s = refl
includes_none IfData s = refl
includes_none Xcp s = refl
includes_none XcpPlus s = refl
includes_none (Gathered p) s = absurd s
includes_none Joined s = absurd s
includes_none Grammar s = absurd s
includes_none PassedOver s = refl

reads : (f : Elements) (role : Role) (room : ℕ) (os : List Open) (ws : List Token) → IsSimple role → IsWithin room role f → length os + room ≡ 64 → IsRead f role os ws
unfolding sections_from
reads none role room os ws s within r = sym (in_front-nil (sections_from role os [] ws))
reads (word b others) role room os ws s within r =
    ap (λ (g : List Token). sections_from (after_plain role b) os g (printed_before others ws)) (none_gathered role (plain b) [] s)
    ∙ reads others (after_plain role b) room os ws (simple_after_plain role b s) within r
reads (text b others) role room os ws s within r =
    ap (λ (g : List Token). sections_from (after_text role) os g (printed_before others ws)) (none_gathered role (quoted b) [] s)
    ∙ reads others (after_text role) room os ws (simple_after_text role s) within r
reads (include others) role room os ws s within r = let yes : may_include role ≡ true = within.0 in let no : false ≡ true = sym (includes_none role s) ∙ yes in absurd cc
reads (block n inner others) role zero os ws s within r = absurd within
reads (block n inner others) role (suc room) os ws s within r =
    let o : Open = record { name = n; outer = role } in
    let behind = printed_before others ws in
    let made = parts_of_block (inside role n) (words_in (inside role n) inner) (parts (inside role n) inner) in
    let apart = apart_inside role n s in
    let inner_words = printed_before inner (end ∷ plain n ∷ behind) in
    opens role os [] n (printed_before inner (end ∷ plain n ∷ behind)) (omega arith)
    ∙ ap (λ (g : List Token). sections_from (inside role n) (o ∷ os) g inner_words) (begins_apart (inside role n) n [] apart)
    ∙ reads_block (inside role n) inner room o os behind apart within.0 (omega arith)
    (λ simple. reads inner (inside role n) room (o ∷ os) (end ∷ plain n ∷ behind) simple within.0 (omega arith))
    ∙ ap (in_front made) (reads others role (suc room) os ws s within.1 r)
    ∙ in_front-append made (parts role others) (sections_from (role_behind role others) os [] ws)

pub reads_all : ReadsAll
unfolding sections_from
reads_all f within = reads f File 64 [] [] tt within refl ∙ ap Some (append-nil (parts File f))
