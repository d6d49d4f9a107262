-- The parts that may stand at a place: none is a proper front of another.
use Rattle.std.proofs.Common.{◌≡◌, ℕ, Bool, true, false, List, [], ◌∷◌, ◌++◌, get_or, refl, sym, ap, ◌∙◌, arith}
use Rattle.std.proofs.Common.{append_assoc}
use Rattle.std.proofs.lemmas.List.{append-nil, append_cancel_left}
use Rattle.std.specs.List.{list_any}
use Rattle.std.specs.Fmt.{decimal}
use Rattle.std.specs.Prelude.{if◌then◌else◌, codes}
use Rattle.fn_rules.specs.declared.function.Level.{Level}
use Rattle.fn_rules.specs.declared.function.Level.TheVariants.{Tp1, Tp2}
use Rattle.fn_rules.specs.declared.function.ObName.{ObName}
use Rattle.ask_core.specs.declared.tree.Tok.{Tok}
use Rattle.ask_core.specs.declared.tree.Tok.TheVariants as token
use Rattle.cert_text.specs.declared.item.Part.{Part}
use Rattle.cert_text.specs.declared.item.Part.TheVariants as part
use Rattle.cert_text.specs.Numbers.{AreShort, IsSpellableCycle, more_numbers_text, numbers_text}
use Rattle.cert_text.specs.Spelling.{IsSpellable, has_update, header_text, level_text, token_text}
use Rattle.cert_text.specs.Places.{PartPlace, Start, Line, Tree, Finish, Stands, names_of, part_text}
use Rattle.cert_text.proofs.CycleLemmas.{same_number}
use Rattle.cert_text.proofs.NumberLists.{first_number, no_digit_behind}

-- the further numbers of two cycles that begin alike are the same
more_numbers_same :
    (ns ms more : List ℕ) → AreShort ns → AreShort ms
    → more_numbers_text ns ++ 59 ∷ [] ≡ more_numbers_text ms ++ 59 ∷ more → ns ≡ ms
more_numbers_same [] [] more ns_short ms_short is = refl
more_numbers_same [] (m ∷ ms) more ns_short ms_short is = cc
more_numbers_same (n ∷ ns) [] more ns_short ms_short is = cc
more_numbers_same (n ∷ ns) (m ∷ ms) more ns_short ms_short is =
    let numbers : (decimal n ++ more_numbers_text ns) ++ 59 ∷ [] ≡ (decimal m ++ more_numbers_text ms) ++ 59 ∷ more =
    cc in
    let parts = same_number n m (more_numbers_text ns ++ 59 ∷ []) (more_numbers_text ms ++ 59 ∷ more) ns_short.0
    ms_short.0 (no_digit_behind ns []) (no_digit_behind ms more)
    (sym (append_assoc (decimal n) (more_numbers_text ns) (59 ∷ [])) ∙ numbers
    ∙ append_assoc (decimal m) (more_numbers_text ms) (59 ∷ more)) in
    let rest = more_numbers_same ns ms more ns_short.1 ms_short.1 parts.1 in
    let first = parts.0 in
    cc

-- two cycles that begin alike are the same
numbers_same :
    (ns ms more : List ℕ) → IsSpellableCycle ns → IsSpellableCycle ms
    → numbers_text ns ++ 59 ∷ [] ≡ numbers_text ms ++ 59 ∷ more → ns ≡ ms
numbers_same ns ms more ns_fit ms_fit is =
    let one = first_number (numbers_text ns ++ 59 ∷ []) ns [] ns_fit refl in
    let two = first_number (numbers_text ns ++ 59 ∷ []) ms more ms_fit is in
    let parts = same_number one.number two.number (more_numbers_text one.others ++ 59 ∷ [])
    (more_numbers_text two.others ++ 59 ∷ more) one.short two.short one.behind two.behind (sym one.text ∙ two.text) in
    let rest = more_numbers_same one.others two.others more one.others_short two.others_short parts.1 in
    let numbers : one.number ∷ one.others ≡ two.number ∷ two.others = let first = parts.0 in cc in
    one.is ∙ numbers ∙ sym two.is

-- two tokens of which one begins with the other are the same
tokens_same : (t u : Tok) (more : List ℕ) → IsSpellable t → IsSpellable u → token_text t ≡ token_text u ++ more → t ≡ u
tokens_same token.Ask token.Ask more a b is = refl
tokens_same token.Ask token.Holds more a b is = cc
tokens_same token.Ask (token.Cycle qs) more a b is = cc
tokens_same token.Holds token.Ask more a b is = cc
tokens_same token.Holds token.Holds more a b is = refl
tokens_same token.Holds (token.Cycle qs) more a b is = cc
tokens_same (token.Cycle ps) token.Ask more a b is = cc
tokens_same (token.Cycle ps) token.Holds more a b is = cc
tokens_same (token.Cycle ps) (token.Cycle qs) more a b is =
    let numbers : numbers_text ps ++ 59 ∷ [] ≡ (numbers_text qs ++ 59 ∷ []) ++ more = cc in
    ap token.Cycle (numbers_same ps qs more a b (numbers ∙ append_assoc (numbers_text qs) (59 ∷ []) more))

-- a header with the version and the level
header_of : Bool → Level → List ℕ
header_of second level =
    codes "otcert " ++ (if second then codes "2" else codes "1") ++ 32 ∷ level_text level ++ 10 ∷ []

one_is_not_two : ◌≡◌ {A = ℕ} 49 50 → ⊥
one_is_not_two e = omega arith

-- two headers of which one begins with the other are of one level
levels_same : (u v : Bool) (l m : Level) (more : List ℕ) → header_of u l ≡ header_of v m ++ more → l ≡ m
unfolding header_of
levels_same u v Tp1 Tp1 more is = refl
levels_same u v Tp2 Tp2 more is = refl
levels_same true true Tp1 Tp2 more is = absurd (one_is_not_two (ap (λ (x : List ℕ). get_or x 11 0) is))
levels_same true false Tp1 Tp2 more is = absurd (one_is_not_two (ap (λ (x : List ℕ). get_or x 11 0) is))
levels_same false true Tp1 Tp2 more is = absurd (one_is_not_two (ap (λ (x : List ℕ). get_or x 11 0) is))
levels_same false false Tp1 Tp2 more is = absurd (one_is_not_two (ap (λ (x : List ℕ). get_or x 11 0) is))
levels_same true true Tp2 Tp1 more is = absurd (one_is_not_two (sym (ap (λ (x : List ℕ). get_or x 11 0) is)))
levels_same true false Tp2 Tp1 more is = absurd (one_is_not_two (sym (ap (λ (x : List ℕ). get_or x 11 0) is)))
levels_same false true Tp2 Tp1 more is = absurd (one_is_not_two (sym (ap (λ (x : List ℕ). get_or x 11 0) is)))
levels_same false false Tp2 Tp1 more is = absurd (one_is_not_two (sym (ap (λ (x : List ℕ). get_or x 11 0) is)))

header_of_names : (names : List ObName) (level : Level)
    → header_text names level ≡ header_of (list_any has_update names) level
unfolding header_of
header_of_names names level = refl

-- which parts may stand where
pub start_parts : (tp1 tp2 : List ObName) (p : Part) → Stands (Start tp1 tp2) p
    → (level : Level) × (p ≡ part.Header level)
start_parts tp1 tp2 (part.Header level) s = (level, refl)
start_parts tp1 tp2 (part.Ob n) s = absurd s
start_parts tp1 tp2 (part.Tok t) s = absurd s
start_parts tp1 tp2 part.LineEnd s = absurd s
start_parts tp1 tp2 part.End s = absurd s

pub ob_part : (came : ℕ) (name : ObName) (names : List ObName) (p : Part)
    → Stands (Line came (name ∷ names)) p → p ≡ part.Ob came
ob_part came name names (part.Header level) s = absurd s
ob_part came name names (part.Ob n) s = ap part.Ob s
ob_part came name names (part.Tok t) s = absurd s
ob_part came name names part.LineEnd s = absurd s
ob_part came name names part.End s = absurd s

pub end_part : (came : ℕ) (p : Part) → Stands (Line came []) p → p ≡ part.End
end_part came (part.Header level) s = absurd s
end_part came (part.Ob n) s = absurd s
end_part came (part.Tok t) s = absurd s
end_part came part.LineEnd s = absurd s
end_part came part.End s = refl

-- two parts that may stand at a place, of which one begins with the other, are the same
parts_same : (place : PartPlace) (p q : Part) (more : List ℕ) → Stands place p → Stands place q
    → part_text place p ≡ part_text place q ++ more → p ≡ q
parts_same (Start tp1 tp2) p q more a b is =
    let one = start_parts tp1 tp2 p a in
    let two = start_parts tp1 tp2 q b in
    let headers : header_text (names_of tp1 tp2 one.0) one.0 ≡ header_text (names_of tp1 tp2 two.0) two.0 ++ more =
    ap (part_text (Start tp1 tp2)) (sym one.1) ∙ is ∙ ap (λ (r : Part). part_text (Start tp1 tp2) r ++ more) two.1 in
    let levels : one.0 ≡ two.0 =
    levels_same (list_any has_update (names_of tp1 tp2 one.0))
    (list_any has_update (names_of tp1 tp2 two.0)) one.0 two.0 more
    (sym (header_of_names (names_of tp1 tp2 one.0) one.0) ∙ headers
    ∙ ap (λ (l : List ℕ). l ++ more) (header_of_names (names_of tp1 tp2 two.0) two.0)) in
    one.1 ∙ ap part.Header levels ∙ sym two.1
parts_same (Line came []) p q more a b is = end_part came p a ∙ sym (end_part came q b)
parts_same (Line came (name ∷ names)) p q more a b is = ob_part came name names p a ∙ sym (ob_part came name names q b)
parts_same (Tree came names branches) (part.Tok t) (part.Tok u) more a b is =
    ap part.Tok (tokens_same t u more a.1 b.1 is)
parts_same (Tree came names branches) (part.Tok t) part.LineEnd more a b is = absurd (omega (arith, a.0, b))
parts_same (Tree came names branches) part.LineEnd (part.Tok t) more a b is = absurd (omega (arith, a, b.0))
parts_same (Tree came names branches) part.LineEnd part.LineEnd more a b is = refl
parts_same (Tree came names branches) (part.Header l) q more a b is = absurd a
parts_same (Tree came names branches) (part.Ob n) q more a b is = absurd a
parts_same (Tree came names branches) part.End q more a b is = absurd a
parts_same (Tree came names branches) (part.Tok t) (part.Header l) more a b is = absurd b
parts_same (Tree came names branches) (part.Tok t) (part.Ob n) more a b is = absurd b
parts_same (Tree came names branches) (part.Tok t) part.End more a b is = absurd b
parts_same (Tree came names branches) part.LineEnd (part.Header l) more a b is = absurd b
parts_same (Tree came names branches) part.LineEnd (part.Ob n) more a b is = absurd b
parts_same (Tree came names branches) part.LineEnd part.End more a b is = absurd b
parts_same Finish p q more a b is = absurd a

-- and nothing is more in the one than in the other
pub no_front :
    (place : PartPlace) (p q : Part) (more : List ℕ) → Stands place p → Stands place q
    → part_text place p ≡ part_text place q ++ more
    → (p ≡ q) × (more ≡ [])
no_front place p q more a b is =
    let same = parts_same place p q more a b is in (
      same,
      append_cancel_left (part_text place q) more []
          (sym is ∙ ap (part_text place) same ∙ sym (append-nil (part_text place q))),
    )
