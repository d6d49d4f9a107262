-- How long the lines of a certificate are, and how many obligations there are.
use Rattle.std.specs.Prelude.{Bool, true, false, if◌then◌else◌, codes}
use Rattle.std.specs.List.{list_any}
use Rattle.std.proofs.Common.{◌≡◌, ℕ, ◌+◌, ◌≤◌, List, [], ◌∷◌, ◌++◌, length, arith, refl}
use Rattle.std.proofs.Math.ListN.{length-append}
use Rattle.std.proofs.lemmas.List.Sums.{length-filter, count_by-le-length}
use Rattle.ot_model.specs.declared.op.Kind.{Kind}
use Rattle.ot_model.specs.declared.op.Kind.TheVariants.{Ins, Del, Upd}
use Rattle.ot_model.specs.declared.op.TheConstants.{KINDS}
use Rattle.fn_rules.specs.declared.function.Head.{Head}
use Rattle.fn_rules.specs.declared.function.Level.{Level}
use Rattle.fn_rules.specs.declared.function.Level.TheVariants.{Tp1, Tp2}
use Rattle.fn_rules.specs.declared.function.ObName.{ObName}
use Rattle.fn_rules.specs.declared.function.ObName.TheVariants.{Pair, Triple}
use Rattle.fn_rules.specs.Functions.{is_declared}
use Rattle.fn_rules.specs.Obligations.{declared_kinds, pairs_of, triples_of, obligations_of}
use Rattle.cert_text.specs.Spelling.{has_update, header_text, kind_text, level_text, name_text, ob_text}

kind_few : (k : Kind) → length (kind_text k) ≡ 3
kind_few Ins = refl
kind_few Del = refl
kind_few Upd = refl

two_kinds_few : (a b : List ℕ) → length a ≡ 3 → length b ≡ 3 → length (a ++ 32 ∷ b) ≤ 11
two_kinds_few a b three three' = omega (arith, length-append a (32 ∷ b))

three_kinds_few :
    (a b c : List ℕ) → length a ≡ 3 → length b ≡ 3 → length c ≡ 3 → length (a ++ 32 ∷ b ++ 32 ∷ c) ≤ 11
three_kinds_few a b c three three' three'' =
    omega (arith, length-append (a ++ 32 ∷ b) (32 ∷ c), length-append a (32 ∷ b))

name_text_few : (ob : ObName) → length (name_text ob) ≤ 11
name_text_few (Pair k l) = two_kinds_few (kind_text k) (kind_text l) (kind_few k) (kind_few l)
name_text_few (Triple k l m) =
    three_kinds_few (kind_text k) (kind_text l) (kind_text m) (kind_few k) (kind_few l) (kind_few m)

line_few : (name : List ℕ) → length name ≤ 11 → length (codes "ob " ++ name ++ 10 ∷ []) ≤ 15
line_few name few = omega (arith, length-append name (10 ∷ []))

-- a line has at most 15 bytes
pub ob_text_few : (ob : ObName) → length (ob_text ob) ≤ 15
ob_text_few ob = line_few (name_text ob) (name_text_few ob)

header_few_at :
    (updates : Bool) (level : Level)
    → length (codes "otcert " ++ (if updates then codes "2" else codes "1") ++ 32 ∷ level_text level ++ 10 ∷ []) ≤ 13
header_few_at true Tp1 = omega arith
header_few_at true Tp2 = omega arith
header_few_at false Tp1 = omega arith
header_few_at false Tp2 = omega arith

-- the first line has 13 bytes
pub header_text_few : (obs : List ObName) (level : Level) → length (header_text obs level) ≤ 13
header_text_few obs level = header_few_at (list_any has_update obs) level

obligations_of_few : (kinds : List Kind) → length kinds ≤ 3 → length (pairs_of kinds) + length (triples_of kinds) ≤ 24
obligations_of_few [] few = omega arith
obligations_of_few (k ∷ []) few = omega arith
obligations_of_few (k ∷ l ∷ []) few = omega arith
obligations_of_few (k ∷ l ∷ m ∷ []) few = omega arith
obligations_of_few (k ∷ l ∷ m ∷ n ∷ kinds) few = absurd (omega arith)

kinds_few : (head : Head) → length (declared_kinds head) ≤ 3
kinds_few head = omega (arith, length-filter (is_declared head) KINDS, count_by-le-length (is_declared head) KINDS)

-- a level has at most 24 obligations
pub obligations_few : (head : Head) (level : Level) → length (obligations_of head level) ≤ 24
obligations_few head Tp1 =
    let few = obligations_of_few (declared_kinds head) (kinds_few head) in
    omega arith
obligations_few head Tp2 =
    let few = obligations_of_few (declared_kinds head) (kinds_few head) in
    let both = length-append (pairs_of (declared_kinds head)) (triples_of (declared_kinds head)) in
    omega arith
