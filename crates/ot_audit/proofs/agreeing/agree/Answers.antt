-- The two operations that are found do not agree, and can be transformed.
use Rattle.std.proofs.Common.{refl, subst, sym}
use Rattle.std.proofs.lemmas.Bool.{and_parts}
use Rattle.fn_rules.specs.Functions.{is_declared}
use Rattle.fn_rules.specs.Rules.{function_of}
use Rattle.ot_audit.specs.declared.found.Agree.{Agree}
use Rattle.ot_audit.specs.Answers.{IsAgreedAs}
use Rattle.ot_audit.proofs.Near.{in_range, of_head}
use Rattle.ot_audit.proofs.agreeing.agree.Goals as goal

pub returns-in-Never : goal.returns-in-Never
returns-in-Never c =
    let f = function_of c.args.rules.now in
    let g = function_of c.args.others.now in
    let found = rw c.in-Never.is at c.in_ok-found.ensures.found in
    record {
      searched = found;
      tells = c.findings_tell_of_all_operations.ensures.same f g c.args.first c.args.second c.args.budget
          c.requires.declared found;
    }

-- both are of declared kinds
pub pair_at-requires : goal.pair_at-requires
pair_at-requires c =
    let f = function_of c.args.rules.now in
    let g = function_of c.args.others.now in
    let a = c.in-Pair.a in
    let b = c.in-Pair.b in
    let near = rw c.in-Pair.is at c.in_ok-found.ensures.near in
    let kinds = and_parts (is_declared f.head c.args.first) (is_declared f.head c.args.second) c.requires.declared in
    let differs =
    c.findings_tell_of_all_operations.ensures.differ f g c.args.first c.args.second c.args.budget a b
    c.requires.declared (rw c.in-Pair.is at c.in_ok-found.ensures.found) in
    record {
      a_declared = of_head f.head f.head c.args.first a differs.0.first kinds.0 refl;
      b_declared = of_head f.head f.head c.args.second b differs.0.second kinds.1 refl;
      heads = c.requires.heads;
      a_in_range = in_range a near.0;
      b_in_range = in_range b near.1;
    }

pub returns-in-Pair : goal.returns-in-Pair
returns-in-Pair c =
    let f = function_of c.args.rules.now in
    let g = function_of c.args.others.now in
    let a = c.in-Pair.a in
    let b = c.in-Pair.b in
    let found = rw c.in-Pair.is at c.in_ok-found.ensures.found in
    let differs = c.findings_tell_of_all_operations.ensures.differ f g c.args.first c.args.second c.args.budget a b
    c.requires.declared found in
    subst (λ (x : Agree). IsAgreedAs f g c.args.first c.args.second c.args.budget x) (sym c.pair_at.ensures)
    (record { searched = found; tells = (differs, refl, refl) })

pub returns-in-Spent : goal.returns-in-Spent
returns-in-Spent c = record { searched = rw c.in-Spent.is at c.in_ok-found.ensures.found; tells = tt }
