-- What the next words of a text do to what is read of it.
use Rattle.std.proofs.Common.{◌≡◌, ℕ, ◌<◌, true, List, [], ◌∷◌, ◌++◌, length, Option, Some, None, refl, sym, ap, append_assoc}
use Rattle.std.specs.Str.{bytes_eq}
use Rattle.std.proofs.lemmas.Bool.{lt-ltb}
use Rattle.std.proofs.lemmas.Slice.Eq.{bytes_eq-Decides}
use Rattle.a2l_text.specs.Tokens.{Token, begin, end, plain}
use Rattle.a2l_text.specs.Roles.{inside, part_of}
use Rattle.a2l_text.specs.Parts.{Section}
use Rattle.a2l_text.specs.Ahead.{Open, gathered_at_begin, in_front, sections_at_block_end, sections_from}
use Rattle.a2l_text.specs.declared.role.Role.{Role}

pub same_text : (n : List ℕ) → bytes_eq n n ≡ true
same_text n = (bytes_eq-Decides n n).1 refl

pub opens : (role : Role) (os : List Open) (g : List Token) (n : List ℕ) (ws : List Token) → length os < 64
    → sections_from role os g (begin ∷ plain n ∷ ws) ≡ sections_from (inside role n) (record { name = n; outer = role } ∷ os) (gathered_at_begin (inside role n) n g) ws
unfolding sections_from
opens role os g n ws lt = rw (lt-ltb (length os) 64 lt) refl

pub closes : (role : Role) (o : Open) (os : List Open) (g : List Token) (n : List ℕ) (ws : List Token) → n ≡ o.name
    → sections_from role (o ∷ os) g (end ∷ plain n ∷ ws) ≡ sections_at_block_end (part_of role) g (sections_from o.outer os [] ws) (sections_from o.outer os g ws)
unfolding sections_from
closes role o os g n ws e = rw ((bytes_eq-Decides n o.name).1 e) refl

pub in_front-nil : (x : Option (List Section)) → in_front [] x ≡ x
in_front-nil None = refl
in_front-nil (Some s) = refl

pub in_front-append : (a b : List Section) (x : Option (List Section)) → in_front a (in_front b x) ≡ in_front (a ++ b) x
in_front-append a b None = refl
in_front-append a b (Some s) = ap Some (sym (append_assoc a b s))
