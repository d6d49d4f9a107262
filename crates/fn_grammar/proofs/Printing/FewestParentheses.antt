-- The canonical text of a guard has no more parentheses than any other text of it.
use Rattle.std.proofs.Common.{◌≡◌, ℕ, zero, suc, ◌+◌, ◌≤◌, ℤ, pos, negsuc, Bool, true, false, List, [], ◌∷◌, ◌++◌, refl}
use Rattle.std.proofs.Common.{ap, ◌∙◌, cond, arith}
use Rattle.fn_rules.specs.declared.guard.Sort.TheVariants.{Pos}
use Rattle.fn_rules.specs.declared.guard.Atom.{Atom}
use Rattle.fn_rules.specs.declared.guard.Tightness.{Tightness}
use Rattle.fn_rules.specs.declared.guard.Tightness.TheVariants.{Loose, Joined, Tight}
use Rattle.fn_rules.specs.Formulas.{Formula}
use Rattle.fn_rules.specs.Formulas as formulas
use Rattle.fn_tokens.specs.declared.token.Token.{Token}
use Rattle.fn_tokens.specs.declared.token.Token.TheVariants.{Known, Open, Close}
use Rattle.fn_tokens.specs.declared.token.Word.TheVariants as words
use Rattle.fn_tokens.specs.Meaning.{signed, to_formulas}
use Rattle.fn_grammar.specs.Print.{offset_tokens, atom_tokens, enclosed, and_is_enclosed, or_is_enclosed, guard_tokens}
use Rattle.fn_grammar.specs.Grammar.{Phrase, Always, Compare, Shifted, Negated, Round, One, Both, Single, Either}
use Rattle.fn_grammar.specs.Grammar.{written_as, made}
use Rattle.fn_grammar.specs.Theorems.{parentheses_in}

parentheses_in-append : (xs ys : List Token) → parentheses_in (xs ++ ys) ≡ parentheses_in xs + parentheses_in ys
parentheses_in-append [] ys = omega arith
parentheses_in-append (Open ∷ xs) ys = let others = parentheses_in-append xs ys in omega (arith, others)
parentheses_in-append (x ∷ xs) ys = parentheses_in-append xs ys

offset_has_none : (k : ℤ) → parentheses_in (offset_tokens k) ≡ 0
offset_has_none (pos zero) = refl
offset_has_none (pos (suc n)) = refl
offset_has_none (negsuc n) = refl

atom_has_none : (atom : Atom) → parentheses_in (atom_tokens atom) ≡ 0
atom_has_none atom = offset_has_none atom.k

enclosed_has : (test : Bool) (xs : List Token) → parentheses_in (enclosed test xs) ≡ cond test 1 0 + parentheses_in xs
enclosed_has true xs = let inside = parentheses_in-append xs (Close ∷ []) in omega (arith, inside)
enclosed_has false xs = omega arith

-- the parentheses of the canonical text of a guard at a place
abbrev printed_in : Tightness → Formula → ℕ
printed_in t g = parentheses_in (guard_tokens t g)

and_has : (t : Tightness) (g h : Formula) →
    printed_in t (formulas.And g h) ≡ cond (and_is_enclosed t) 1 0 + (printed_in Joined g + printed_in Tight h)
and_has t g h =
    let inside = guard_tokens Joined g ++ Known words.And ∷ guard_tokens Tight h in
    enclosed_has (and_is_enclosed t) inside
    ∙ ap (λ n. cond (and_is_enclosed t) 1 0 + n)
    (parentheses_in-append (guard_tokens Joined g) (Known words.And ∷ guard_tokens Tight h))

or_has : (t : Tightness) (g h : Formula) →
    printed_in t (formulas.Or g h) ≡ cond (or_is_enclosed t) 1 0 + (printed_in Loose g + printed_in Joined h)
or_has t g h =
    let inside = guard_tokens Loose g ++ Known words.Or ∷ guard_tokens Joined h in
    enclosed_has (or_is_enclosed t) inside
    ∙ ap (λ n. cond (or_is_enclosed t) 1 0 + n)
    (parentheses_in-append (guard_tokens Loose g) (Known words.Or ∷ guard_tokens Joined h))

-- a tighter place asks for one pair more at most, and a looser one for none
tight_in : (g : Formula) → printed_in Tight g ≤ 1 + printed_in Loose g
tight_in formulas.Always = omega arith
tight_in (formulas.Compare atom) = omega arith
tight_in (formulas.And g h) =
    let tight = and_has Tight g h in let loose = and_has Loose g h in omega (arith, tight, loose)
tight_in (formulas.Or g h) =
    let tight = or_has Tight g h in let loose = or_has Loose g h in omega (arith, tight, loose)
tight_in (formulas.Not g) = omega arith

joined_in : (g : Formula) → printed_in Joined g ≤ printed_in Tight g
joined_in formulas.Always = omega arith
joined_in (formulas.Compare atom) = omega arith
joined_in (formulas.And g h) =
    let tight = and_has Tight g h in let joined = and_has Joined g h in omega (arith, tight, joined)
joined_in (formulas.Or g h) =
    let tight = or_has Tight g h in let joined = or_has Joined g h in omega (arith, tight, joined)
joined_in (formulas.Not g) = omega arith

loose_in : (g : Formula) → printed_in Loose g ≤ printed_in Joined g
loose_in formulas.Always = omega arith
loose_in (formulas.Compare atom) = omega arith
loose_in (formulas.And g h) =
    let joined = and_has Joined g h in let loose = and_has Loose g h in omega (arith, joined, loose)
loose_in (formulas.Or g h) =
    let joined = or_has Joined g h in let loose = or_has Loose g h in omega (arith, joined, loose)
loose_in (formulas.Not g) = omega arith

-- a phrase has at least the parentheses of the canonical text of what it means
fewest : (t : Tightness) (p : Phrase t) → printed_in t (made to_formulas p) ≤ parentheses_in (written_as p)
fewest Tight Always = omega arith
fewest Tight (Compare sort left cmp) =
    let none = atom_has_none record { sort = sort; left = left; cmp = cmp; k = pos 0 } in omega (arith, none)
fewest Tight (Shifted left cmp sign n) =
    let none = atom_has_none record { sort = Pos; left = left; cmp = cmp; k = signed sign n } in omega (arith, none)
fewest Tight (Negated u) = fewest Tight u
fewest Tight (Round d) =
    let inner = fewest Loose d in
    let around = tight_in (made to_formulas d) in
    let written = parentheses_in-append (written_as d) (Close ∷ []) in
    omega (arith, inner, around, written)
fewest Joined (One u) =
    let inner = fewest Tight u in let looser = joined_in (made to_formulas u) in omega (arith, inner, looser)
fewest Joined (Both c u) =
    let first = fewest Joined c in
    let second = fewest Tight u in
    let print = and_has Joined (made to_formulas c) (made to_formulas u) in
    let written = parentheses_in-append (written_as c) (Known words.And ∷ written_as u) in
    omega (arith, first, second, print, written)
fewest Loose (Single c) =
    let inner = fewest Joined c in let looser = loose_in (made to_formulas c) in omega (arith, inner, looser)
fewest Loose (Either d c) =
    let first = fewest Loose d in
    let second = fewest Joined c in
    let print = or_has Loose (made to_formulas d) (made to_formulas c) in
    let written = parentheses_in-append (written_as d) (Known words.Or ∷ written_as c) in
    omega (arith, first, second, print, written)

pub fewest_parentheses : (g : Formula) (p : Phrase Loose) → made to_formulas p ≡ g →
    parentheses_in (guard_tokens Loose g) ≤ parentheses_in (written_as p)
fewest_parentheses g p e = let less = fewest Loose p in let same = ap (λ x. printed_in Loose x) e in
    omega (arith, less, same)
