-- What the limits of a function say of its offsets.
use Rattle.std.proofs.Common.{◌≡◌, ◌≤◌, ℤ, pos, negsuc, Bool, true, List, [], ◌∷◌, map, ◌∙◌, ap, arith}
use Rattle.std.specs.Prelude.{unsigned_abs, nat_le}
use Rattle.std.specs.Ordering.{int_eq}
use Rattle.std.specs.List.{All, list_all}
use Rattle.std.proofs.lemmas.Bool.Decides.{nat_tests}
use Rattle.std.proofs.lemmas.Bool.{false≢true, and_parts}
use Rattle.std.proofs.lemmas.List.Elements.{All-nil, All-cons}
use Rattle.ot_model.specs.declared.op.Kind.{Kind}
use Rattle.fn_rules.specs.declared.guard.Sort.{Sort}
use Rattle.fn_rules.specs.declared.guard.Sort.TheVariants.{Pos, Site, Char}
use Rattle.fn_rules.specs.declared.function.Res.{Res}
use Rattle.fn_rules.specs.declared.function.Res.TheVariants as results
use Rattle.fn_rules.specs.declared.function.Case.{Case}
use Rattle.fn_rules.specs.Formulas.{Formula, Always, Compare, And, Or, Not}
use Rattle.fn_rules.specs.Functions.{Function, GuardedCase, case_of, cases_of}
use Rattle.fn_rules.specs.Validity.{is_offset, is_offset_for, has_valid_atoms, is_valid_res, is_valid_case}
use Rattle.fn_rules.specs.Validity.{compares_chars, is_valid}
use Rattle.fn_rules.proofs.LimitsKept.{are_valid_cases-valid}
use Rattle.fn_grammar.specs.Offsets.{HasOffsets, HasResultOffset, HasCaseOffsets}

-- an offset that may be used is at most 99 away from 0
offset_size : (k : ℤ) → is_offset k ≡ true → unsigned_abs k ≤ 99
offset_size (pos n) h = grind (arith, nat_tests)
offset_size (negsuc n) h = let e : nat_le n 98 ≡ true = (and_parts (nat_le n 98) true h).0 in grind (arith, nat_tests)

-- so is 0
zero_size : (k : ℤ) → int_eq k (pos 0) ≡ true → unsigned_abs k ≤ 99
zero_size (pos n) h = grind (arith, nat_tests)
zero_size (negsuc n) h = absurd (false≢true h)

-- so is what an atom over any things may have
offset_for_size : (chars : Bool) (sort : Sort) (k : ℤ) → is_offset_for chars sort k ≡ true → unsigned_abs k ≤ 99
offset_for_size chars Pos k h = offset_size k h
offset_for_size chars Site k h = zero_size k h
offset_for_size chars Char k h = zero_size k (and_parts chars _ h).1

-- a guard within the limits has no long offsets
guard_has_offsets : (chars : Bool) (g : Formula) → has_valid_atoms chars g ≡ true → HasOffsets g
guard_has_offsets chars Always h = tt
guard_has_offsets chars (Compare atom) h = offset_for_size chars atom.sort atom.k h
guard_has_offsets chars (And g k) h = (
  guard_has_offsets chars g (and_parts _ _ h).0,
  guard_has_offsets chars k (and_parts (has_valid_atoms chars g) _ h).1,
)
guard_has_offsets chars (Or g k) h = (
  guard_has_offsets chars g (and_parts _ _ h).0,
  guard_has_offsets chars k (and_parts (has_valid_atoms chars g) _ h).1,
)
guard_has_offsets chars (Not g) h = guard_has_offsets chars g h

-- a result within the limits has no long offset
result_has_offset : (res : Res) → is_valid_res res ≡ true → HasResultOffset res
result_has_offset (results.Keep base k) h = offset_size k h
result_has_offset results.Nop h = tt

-- nor has a case
pub case_has_offsets : (chars : Bool) (c : GuardedCase) → is_valid_case chars c ≡ true → HasCaseOffsets c
case_has_offsets chars c h = (
  guard_has_offsets chars c.guard (and_parts _ _ (and_parts _ _ (and_parts _ _ h).0).0).0,
  result_has_offset c.res (and_parts _ _ h).1,
)

-- nor have the cases of a block
cases_have_offsets : (chars : Bool) (cs : List Case) → list_all (is_valid_case chars) (map case_of cs) ≡ true →
    All (λ c. HasCaseOffsets (case_of c)) cs
cases_have_offsets chars [] h = All-nil (λ c. HasCaseOffsets (case_of c))
cases_have_offsets chars (c ∷ cs) h =
    All-cons (λ c. HasCaseOffsets (case_of c)) c cs (case_has_offsets chars (case_of c) (and_parts _ _ h).0)
    (cases_have_offsets chars cs (and_parts _ _ h).1)

-- so its cases have no long offsets
pub block_has_offsets : (f : Function) (k l : Kind) (cs : List Case) → is_valid f ≡ true
    → map case_of cs ≡ cases_of f k l → All (λ c. HasCaseOffsets (case_of c)) cs
block_has_offsets f k l cs h e =
    cases_have_offsets (compares_chars k l) cs
    (ap (list_all (is_valid_case (compares_chars k l))) e ∙ (and_parts _ _ (are_valid_cases-valid f k l h)).1)
