-- The order of the functions that edits lead to: which of them comes before which.
use Rattle.std.specs.Prelude.{ℕ, ◌+◌, ◌-◌, ◌^◌, pos, Bool, true, false, not, ◌&&◌, ◌||◌, if◌then◌else◌, nat_eq, nat_lt}
use Rattle.std.specs.Prelude.{min, List, length, count_by}
use Rattle.std.specs.List.{sum_by}
use Rattle.ot_model.specs.declared.op.Kind.{Kind}
use Rattle.ot_model.specs.Kinds.{is_same_kind, kind_pairs}
use Rattle.fn_rules.specs.declared.guard.Atom.{Atom}
use Rattle.fn_rules.specs.declared.guard.Cmp.{Cmp}
use Rattle.fn_rules.specs.declared.guard.Cmp.TheVariants.{Lt, Le, Eq}
use Rattle.fn_rules.specs.declared.guard.Side.{Side}
use Rattle.fn_rules.specs.declared.guard.Side.TheVariants.{First, Second}
use Rattle.fn_rules.specs.declared.function.Res.{Res}
use Rattle.fn_rules.specs.declared.function.Res.TheVariants as results
use Rattle.fn_rules.specs.Functions.{Function, GuardedCase, cases_of, is_declared_of}
use Rattle.fn_rules.specs.Shipped.{p1_plus}
use Rattle.fn_rules.specs.Validity.{atoms_of}
use Rattle.ot_mend.specs.declared.change.Change.{Change}
use Rattle.ot_mend.specs.declared.change.Change.TheVariants.{NewAtom, NewResult, TakeOut, Exchange, PutIn}
use Rattle.ot_mend.specs.declared.change.NewGuard.{NewGuard}
use Rattle.ot_mend.specs.declared.change.NewGuard.TheVariants as new
use Rattle.ot_mend.specs.declared.edit.Edit.{Edit}
use Rattle.ot_mend.specs.declared.edit.Edit.TheVariants.{InBlock, AssumeSites, AssumeChars}
use Rattle.ot_mend.specs.declared.rank.Rank.{Rank}
use Rattle.ot_mend.specs.Offers.{is_same_res}

-- a number as far as 64 bits count
abbrev pub counted : ℕ → ℕ
counted n = min n (2 ^ 64 - 1)

abbrev pub is_assumption : Edit → Bool
is_assumption (InBlock k l change) = false
is_assumption AssumeSites = true
is_assumption AssumeChars = true

-- the cases of a block and their atoms, of which `true` is one here
abbrev pub block_size : List GuardedCase → ℕ
block_size cs = length cs + sum_by (λ c. atoms_of c.guard) cs

-- those of the block of a pair of kinds, where the function is for both
abbrev pub pair_size : Function → Kind × Kind → ℕ
pair_size f pair = if is_declared_of f.head pair then block_size (cases_of f pair.0 pair.1) else 0

-- those of all blocks
abbrev pub function_size : Function → ℕ
function_size f = sum_by (pair_size f) kind_pairs

abbrev pub is_nop : Res → Bool
is_nop (results.Keep base k) = false
is_nop results.Nop = true

-- the first operation stays where it is
abbrev pub is_staying : Res → Bool
is_staying res = is_same_res res (p1_plus (pos 0))

-- what breaks a tie is true for the operation of the lower site or character alone, or for the other one alone
abbrev pub is_of_lower : Side → Cmp → Bool
is_of_lower First Lt = true
is_of_lower First Le = true
is_of_lower First Eq = false
is_of_lower Second Lt = false
is_of_lower Second Le = false
is_of_lower Second Eq = false

abbrev pub is_of_higher : Side → Cmp → Bool
is_of_higher First Lt = false
is_of_higher First Le = false
is_of_higher First Eq = false
is_of_higher Second Lt = true
is_of_higher Second Le = true
is_of_higher Second Eq = false

-- by convention, of two operations at one place that of the lower site or character stays
abbrev pub is_against_convention : Atom → Res → Bool
is_against_convention tie res =
    is_of_lower tie.left tie.cmp && not (is_staying res) || is_of_higher tie.left tie.cmp && is_staying res

-- the weight of a case that is put in
abbrev pub new_case_weight : NewGuard → Res → ℕ
new_case_weight (new.Tie tie) res = if is_against_convention tie res then 4 else if is_staying res then 2 else 3
new_case_weight (new.Compare atom) res = 4
new_case_weight new.Always res = 4

-- what it weighs more that an operation becomes nop because of one of another kind
abbrev pub nop_weight : Bool → Res → ℕ
nop_weight one_kind res = if is_nop res && not one_kind then 4 else 0

-- the weight of another result, where the kinds do not matter
abbrev pub result_weight : Res → Res → ℕ
result_weight from to = if is_nop from || is_nop to then 3 else 1

-- the weight of a change of a block of two kinds that are one, or are not
abbrev pub change_weight : Bool → Change → ℕ
change_weight one_kind (NewAtom i n from to) = 1
change_weight one_kind (NewResult i from to) = result_weight from to + nop_weight one_kind to
change_weight one_kind (TakeOut i) = 1
change_weight one_kind (Exchange i) = 2
change_weight one_kind (PutIn i guard res) = new_case_weight guard res + nop_weight one_kind res

-- the weight of an edit; assumptions are counted by themselves
abbrev pub weight_of : Edit → ℕ
weight_of (InBlock k l change) = change_weight (is_same_kind k l) change
weight_of AssumeSites = 0
weight_of AssumeChars = 0

-- the rank of a function that these edits lead to
abbrev pub rank_of : List Edit → Function → Rank
rank_of edits f =
    record {
      assumed = count_by is_assumption edits;
      size = counted (function_size f);
      weight = counted (sum_by weight_of edits);
    }

-- the one rank comes before the other: fewer assumptions, then a smaller function, then less weight
abbrev pub comes_before : Rank → Rank → Bool
comes_before r q =
    nat_lt r.assumed q.assumed
    || nat_eq r.assumed q.assumed && (nat_lt r.size q.size || nat_eq r.size q.size && nat_lt r.weight q.weight)
