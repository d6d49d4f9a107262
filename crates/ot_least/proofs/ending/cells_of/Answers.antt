use Rattle.std.proofs.Common.{◌≡◌, ℕ, ◌<◌, ◌≤◌, ◌^◌, ℤ, pos, List, length, arith, subst, sym}
use Rattle.diff_graph.specs.declared.lit.Lit.{Lit}
use Rattle.diff_graph.specs.Literals.{AreMet, IsPossible}
use Rattle.ask_core.specs.Askers.{longest_path}
use Rattle.fn_rules.specs.Rules.{function_of}
use Rattle.ot_questions.specs.Names.{name_count}
use Rattle.ot_questions.specs.Obligation.{plan_of}
use Rattle.ot_questions.specs.Sorts.{HasNoNegativePosition}
use Rattle.diff_tables.specs.Solutions.{AreLeast}
use Rattle.ot_values.specs.Values.{IsPossibleAtPositions, floors_of}
use Rattle.ot_least.proofs.Endings.{least_length}
use Rattle.ot_least.proofs.ending.cells_of.Goals as goal

few_enough : (n most : ℕ) → n ≤ most → most ≤ 12309 → n < 2 ^ 32
few_enough n most h g = omega arith

possible_at_positions :
    (w : List Lit) → IsPossible w → ((v : ℕ → ℤ) → v 0 ≡ pos 0 → AreMet v w → HasNoNegativePosition w v)
    → IsPossibleAtPositions w
possible_at_positions w (v, z, met) positions = (v, z, met, positions v z met)

-- the answers keep what the least values want
pub least_values-requires : goal.least_values-requires
least_values-requires c =
    let f = function_of c.args.rules.now in
    let ob = c.args.ob in
    let w = c.args.answers.now in
    let why = c.args.why in
    let valid = c.rules_are_valid.ensures in
    let lead = c.requires.leads in
    let plans = c.plans_compare_like_with_like.ensures in
    let limits = c.plans_keep_limits.ensures in
    let ends = c.answers_lead_to_ends.ensures in
    let fine = limits.fine f ob valid in
    record {
      like = plans.answers why (plan_of f ob) w (plans.plans f ob valid) lead;
      named = ends.named (name_count ob) why (plan_of f ob) w fine lead;
      small = ends.small (name_count ob) why (plan_of f ob) w fine lead;
      few = few_enough (length w) (longest_path (plan_of f ob)) (ends.few why (plan_of f ob) w lead)
          (limits.short f ob valid);
      possible = possible_at_positions w c.requires.possible (λ v. plans.positions f ob why w v valid lead);
    }

pub length_in-requires : goal.length_in-requires
length_in-requires c =
    let least : AreLeast c.args.answers.now (floors_of c.args.ob) c.deref.result.now =
    subst (λ (xs : List ℤ). AreLeast c.args.answers.now (floors_of c.args.ob) xs) (sym c.deref.ensures.value)
    c.in_ok-values.ensures.least in
    let at = least_length c.args.ob c.args.answers.now c.deref.result.now least in
    record { within = at.0; cells = at.1 }

pub returns : goal.returns
returns c =
    let least : AreLeast c.args.answers.now (floors_of c.args.ob) c.deref.result.now =
    subst (λ (xs : List ℤ). AreLeast c.args.answers.now (floors_of c.args.ob) xs) (sym c.deref.ensures.value)
    c.in_ok-values.ensures.least in
    (c.deref.result.now, least, c.length_in.ensures)
