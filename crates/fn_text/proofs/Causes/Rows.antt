-- What the reader tells of a token that is refused, by what is wanted there: the rows that the token can fit.
use Rattle.std.proofs.Common.{◌≡◌, ℕ, ◌&&◌, ◌||◌, Bool, true, false, not, cond, nat_lt, nat_le, arith, List}
use Rattle.std.proofs.Common.{None, refl, sym, ap, ◌∙◌}
use Rattle.std.specs.Option.{is_none}
use Rattle.std.proofs.lemmas.Bool.{not-false}
use Rattle.std.proofs.lemmas.Bool.Decides.{nat_tests}
use Rattle.ot_model.specs.declared.op.Kind.{Kind}
use Rattle.fn_rules.specs.declared.guard.Sort.{Sort}
use Rattle.fn_rules.specs.declared.guard.Side.{Side}
use Rattle.fn_rules.specs.Functions.{is_declared}
use Rattle.ot_model.specs.Kinds.{is_same_kind}
use Rattle.fn_tokens.specs.declared.token.Token.{Token}
use Rattle.fn_tokens.specs.declared.token.Token.TheVariants.{Known, Number}
use Rattle.fn_tokens.specs.declared.token.Word.TheVariants as words
use Rattle.fn_tokens.specs.declared.token.Placed.{Placed}
use Rattle.fn_tokens.specs.declared.fault.FaultKind.{FaultKind}
use Rattle.fn_tokens.specs.declared.fault.FaultKind.TheVariants as faults
use Rattle.fn_tokens.specs.declared.control.Want.{Want}
use Rattle.fn_tokens.specs.declared.control.Want.TheVariants as wants
use Rattle.fn_tokens.specs.declared.control.Control.{Control}
use Rattle.fn_tokens.specs.declared.control.TokenMove.{TokenMove}
use Rattle.fn_tokens.specs.declared.control.TokenMove.TheVariants as moves
use Rattle.fn_tokens.specs.Languages.{language_numbered}
use Rattle.fn_tokens.specs.Kinds.{has_seen}
use Rattle.fn_tokens.specs.Meaning.{is_offset_number, may_compare}
use Rattle.fn_tokens.specs.Controls.{allowed, has_chars, lacks, lacks_block, depth_of}
use Rattle.fn_tokens.specs.Moves.{move_for}
use Rattle.fn_tokens.specs.Meaning.{is_same_side, is_same_sort}
use Rattle.fn_tokens.specs.Faults.{region_of, number_fault, operand_fault, thing_fault, kind_fault, end_fault}
use Rattle.fn_tokens.specs.Faults.{case_fault, nesting_fault}
use Rattle.fn_text.specs.Counting.{declares}
use Rattle.fn_text.specs.Counting.{has_block}
use Rattle.fn_text.specs.Causes.{differs_from, is_repeated}
use Rattle.fn_text.proofs.Languages.{none_numbered}
use Rattle.fn_text.proofs.Causes.States.{wants_line, wants_number, wants_version, wants_in_block_line, wants_in_guard}
use Rattle.fn_text.proofs.Causes.States.{wants_in_result, wants_operand, wants_behind_operand, wants_behind_result}
use Rattle.fn_text.proofs.Causes.States.{first_for, compared_for, atoms_for, wants_counted, wants_head, wants_end}
use Rattle.fn_text.proofs.Causes.States.{wants_fresh, wants_inside, Where}

refused : (test : Bool) (move : TokenMove) → allowed test move ≡ None → test ≡ false
refused true move h = absurd (cc)
refused false move h = refl

-- the rows that a token can fit, in their order
abbrev pub number_row : Bool → Bool → ℕ → FaultKind
number_row sign otfn n =
    cond (sign && not (is_offset_number n)) faults.Offset
    (cond (otfn && is_none (language_numbered n)) faults.Version faults.Expected)

abbrev pub operand_row : Bool → ℕ → FaultKind
operand_row operand atoms = cond (operand && nat_le 16 atoms) faults.Atoms faults.Expected

abbrev pub thing_row : Bool → Bool → Bool → ℕ → FaultKind
thing_row differs forbidden operand atoms = cond (differs || forbidden) faults.Sort (operand_row operand atoms)

abbrev pub kind_row : Bool → Bool → Bool → Bool → FaultKind
kind_row repeated line declared other =
    cond repeated faults.Double (cond (line && not declared) faults.Kind (cond other faults.Outcome faults.Expected))

-- a kind is judged by the other rows where the language has a word for it
pub word_first : (word : Bool) (rows : FaultKind) → cond word rows faults.Word ≡ cond (not word) faults.Word rows
word_first true rows = refl
word_first false rows = refl

abbrev pub end_row : Bool → Bool → FaultKind
end_row line lacks = cond (line && lacks) faults.Missing faults.Expected

abbrev pub case_row : Bool → ℕ → FaultKind
case_row line cases = cond (line && nat_le 64 cases) faults.Cases faults.Expected

abbrev pub nesting_row : Bool → ℕ → FaultKind
nesting_row guard depth = cond (guard && nat_le 32 depth) faults.Nesting faults.Expected

-- rows on what is not told of the place yet
undeclared_row : (declared : Bool) → cond declared faults.Expected faults.Kind ≡ kind_row false true declared false
undeclared_row true = refl
undeclared_row false = refl

double_row : (declared there : Bool) → (declared && not there) ≡ false →
    cond declared faults.Double faults.Kind ≡ kind_row (declared && there) true declared false
double_row true true e = refl
double_row true false e = absurd (cc)
double_row false there e = refl

kept_row : (declared same : Bool) → cond same faults.Expected faults.Outcome ≡ kind_row false false declared (not same)
kept_row declared true = refl
kept_row declared false = refl

side_row : (fits may : Bool) (atoms : ℕ) → fits ≡ false →
    cond (not may) faults.Sort faults.Sort ≡ thing_row (not fits) (not may) false atoms
side_row true may atoms e = absurd (cc)
side_row false true atoms e = refl
side_row false false atoms e = refl

begun_row : (may : Bool) (atoms : ℕ) → (nat_lt atoms 16 && may) ≡ false →
    cond (not may) faults.Sort faults.Atoms ≡ thing_row false (not may) true atoms
begun_row false atoms many = refl
begun_row true atoms many = let above : nat_le 16 atoms ≡ true = grind (arith, nat_tests) in cc

case_more_row : (begun : Bool) (cases : ℕ) → (begun ≡ false → 0 ≡ cases) → (begun && nat_lt cases 64) ≡ false →
    cond begun faults.Cases faults.Expected ≡ case_row true cases
case_more_row true cases none many = let above : nat_le 64 cases ≡ true = grind (arith, nat_tests) in cc
case_more_row false cases none many = let zero_cases = none refl in cc

-- what the reader tells of a token that is refused, by what is wanted
module _ (c : Control) (at : Placed) where
  pub number_told : (want : Want) (n : ℕ) → move_for c at want (Number n) ≡ None →
      number_fault (region_of want) ≡ number_row (wants_number want) (wants_version want) n
  number_told wants.Version n h =
      let other = none_numbered (λ language. moves.SetLanguage language) (language_numbered n) h in cc
  number_told (wants.Number left cmp sign) n h = let great = refused (is_offset_number n) _ h in cc
  number_told (wants.ResultNumber side sign) n h = let great = refused (is_offset_number n) _ h in cc
  number_told _ n h = refl

  pub true_told : (want : Want) (atoms : ℕ) → c.atoms ≡ atoms_for want atoms → move_for c at want (Known words.True)
      ≡ None → operand_fault (region_of want) ≡ operand_row (wants_operand want) atoms
  true_told wants.Operand atoms e h =
      let many = refused (nat_lt c.atoms 16) _ h in
      let above : nat_le 16 atoms ≡ true = grind (arith, nat_tests) in
      cc
  true_told _ atoms e h = refl

  -- a refused operand of an atom has the row of what is wanted there
  pub thing_told : (want : Want) (sort : Sort) (side : Side) (atoms : ℕ) → c.atoms ≡ atoms_for want atoms →
      move_for c at want (Known (words.Thing sort side)) ≡ None →
      thing_fault c sort (region_of want)
      ≡ thing_row (differs_from (compared_for want) sort side)
      (wants_inside want && not (may_compare (has_chars c) sort)) (wants_operand want) atoms
  thing_told (wants.Right other left cmp) sort side atoms e h =
      let fits : Bool = is_same_sort other sort && not (is_same_side left side) in
      side_row fits (may_compare (has_chars c) sort) atoms (refused fits _ h)
  thing_told wants.Operand sort side atoms e h =
      let may : Bool = may_compare (has_chars c) sort in
      begun_row may atoms (sym (ap (λ n. nat_lt n 16 && may) e) ∙ refused (nat_lt c.atoms 16 && may) _ h)
  thing_told _ sort side atoms e h = refl

  -- a kind, where these blocks are there and these kinds are declared
  pub kind_told : (want : Want) (k : Kind) (before : List Token)
      → ((i j : Kind) → has_block before i j ≡ has_seen c.seen i j) → declares before k ≡ is_declared c.head k
      → move_for c at want (Known (words.Kind k)) ≡ None → kind_fault c k (region_of want)
      ≡ kind_row (is_repeated before (first_for want) k) (wants_in_block_line want) (is_declared c.head k)
      (wants_in_result want && not (wants_behind_result want) && not (is_same_kind c.first k))
  kind_told wants.BlockFirst k before seen told h = undeclared_row (is_declared c.head k)
  kind_told (wants.BlockSecond i) k before seen told h =
      double_row (is_declared c.head k) (has_seen c.seen i k)
      (refused (is_declared c.head k && not (has_seen c.seen i k)) _ h)
      ∙ sym (ap (λ x. kind_row x true (is_declared c.head k) false) there)
    where
      there : (declares before k && has_block before i k) ≡ (is_declared c.head k && has_seen c.seen i k)
      there = ap (λ x. x && has_block before i k) told ∙ ap (λ x. is_declared c.head k && x) (seen i k)
  kind_told wants.BlockEnd k before seen told h = undeclared_row (is_declared c.head k)
  kind_told wants.Result k before seen told h = kept_row (is_declared c.head k) (is_same_kind c.first k)
  kind_told wants.ResultPosition k before seen told h = kept_row (is_declared c.head k) (is_same_kind c.first k)
  kind_told (wants.ResultNumber side sign) k before seen told h =
      kept_row (is_declared c.head k) (is_same_kind c.first k)
  kind_told _ k before seen told h = refl

  pub end_told : (want : Want) → Where (wants_head want) (lacks_block c ≡ false)
      → Where (wants_end want) (lacks_block c ≡ false) → move_for c at want (Known words.End) ≡ None →
      end_fault (region_of want) ≡ end_row (wants_line want) (lacks_block c)
  end_told wants.Line head full h =
      let some : lacks_block c ≡ true = not-false _ (refused (not (lacks_block c)) _ h) in cc
  end_told wants.Text head full h = cc
  end_told wants.Kinds head full h = cc
  end_told wants.FileEnd head full h = cc
  end_told _ head full h = refl

  pub case_told : (want : Want) (cases : ℕ) → Where (wants_counted want) (c.cases ≡ cases) → Where (wants_fresh want)
      (0 ≡ cases) → (c.begun ≡ false → 0 ≡ cases) → move_for c at want (Known words.Case) ≡ None →
      case_fault c (region_of want) ≡ case_row (wants_line want) cases
  case_told wants.Line cases counted fresh none h =
      case_more_row c.begun cases none
      (sym (ap (λ n. c.begun && nat_lt n 64) counted) ∙ refused (c.begun && nat_lt c.cases 64) _ h)
  case_told wants.Text cases counted fresh none h = cc
  case_told wants.Kinds cases counted fresh none h = cc
  case_told wants.FileEnd cases counted fresh none h = cc
  case_told _ cases counted fresh none h = refl

-- `(` or `not`, so deep as is told by whether an operand is whole
pub nesting_told : (c : Control) (want : Want) (depth : ℕ) →
    Where (wants_in_guard want) (depth ≡ cond (wants_behind_operand want) c.outside (depth_of c)) →
    nesting_fault c (region_of want) ≡ nesting_row (wants_in_guard want) depth
nesting_told c wants.Operand depth h = ap (λ n. nesting_row true n) (sym h)
nesting_told c (wants.Comparison sort left) depth h = ap (λ n. nesting_row true n) (sym h)
nesting_told c (wants.Right sort left cmp) depth h = ap (λ n. nesting_row true n) (sym h)
nesting_told c (wants.Offset left cmp) depth h = ap (λ n. nesting_row true n) (sym h)
nesting_told c (wants.Number left cmp sign) depth h = ap (λ n. nesting_row true n) (sym h)
nesting_told c wants.Operator depth h = ap (λ n. nesting_row true n) (sym h)
nesting_told c _ depth h = refl
