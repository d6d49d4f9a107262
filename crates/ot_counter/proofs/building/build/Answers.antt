use Rattle.std.proofs.Common.{◌≡◌, ℕ, ◌<◌, ◌≤◌, ◌^◌, ℤ, pos, List, length, subst, sym, arith}
use Rattle.diff_graph.specs.declared.lit.Lit.{Lit}
use Rattle.diff_graph.specs.Literals.{AreMet, IsPossible}
use Rattle.ask_core.specs.Askers.{longest_path}
use Rattle.ot_questions.specs.Names.{name_count}
use Rattle.ot_questions.specs.Obligation.{plan_of}
use Rattle.ot_questions.specs.Sorts.{HasNoNegativePosition}
use Rattle.diff_tables.specs.Solutions.{AreLeast, valuation_of}
use Rattle.fn_rules.specs.Obligations.{level_of}
use Rattle.fn_rules.specs.Rules.{function_of}
use Rattle.ot_values.specs.Values.{floors_of, IsPossibleAtPositions}
use Rattle.ot_counter.specs.Counters.{IsReadOff}
use Rattle.ot_counter.proofs.Instances.{breaks_there, breaks_by_there, concurrent_where_broken}
use Rattle.ot_counter.proofs.Counterexamples.{least_length}
use Rattle.ot_counter.proofs.building.build.Goals as goal

few_enough : (n most : ℕ) → n ≤ most → most ≤ 12309 → n < 2 ^ 32
few_enough n most h g = omega arith

possible_at_positions :
    (w : List Lit) → IsPossible w → ((v : ℕ → ℤ) → v 0 ≡ pos 0 → AreMet v w → HasNoNegativePosition w v)
    → IsPossibleAtPositions w
possible_at_positions w (v, z, met) positions = (v, z, met, positions v z met)

-- the answers keep what the least values want
pub least_values-requires : goal.least_values-requires
least_values-requires c =
    let f = function_of c.args.rules.now in
    let ob = c.args.ob in
    let w = c.args.answers.now in
    let why = c.args.why in
    let valid = c.rules_are_valid.ensures in
    let lead = c.requires.leads in
    let plans = c.plans_compare_like_with_like.ensures in
    let limits = c.plans_keep_limits.ensures in
    let ends = c.answers_lead_to_ends.ensures in
    let fine = limits.fine f ob valid in
    record {
      like = plans.answers why (plan_of f ob) w (plans.plans f ob valid) lead;
      named = ends.named (name_count ob) why (plan_of f ob) w fine lead;
      small = ends.small (name_count ob) why (plan_of f ob) w fine lead;
      few = few_enough (length w) (longest_path (plan_of f ob)) (ends.few why (plan_of f ob) w lead)
          (limits.short f ob valid);
      possible = possible_at_positions w c.requires.possible (λ v. plans.positions f ob why w v valid lead);
    }

-- what the least values name: concurrent operations, of small parts, on a document of at least 0 cells
pub read_off-requires : goal.read_off-requires
read_off-requires c =
    let f = function_of c.args.rules.now in
    let least : AreLeast c.args.answers.now (floors_of c.args.ob) c.deref.result.now =
    subst (λ (xs : List ℤ). AreLeast c.args.answers.now (floors_of c.args.ob) xs) (sym c.deref.ensures.value)
    c.in_ok-values.ensures.least in
    record {
      declared = c.requires.declared;
      concurrent =
          concurrent_where_broken f (level_of c.args.ob) _ _
          (c.failing_ends_have_counterexamples.ensures.broken f c.args.ob c.args.answers.now c.args.why
          c.deref.result.now c.rules_are_valid.ensures c.requires.declared c.requires.leads least);
      parts = λ who below.
          c.failing_ends_have_counterexamples.ensures.parts f c.args.ob c.args.answers.now c.args.why c.deref.result.now
          who c.rules_are_valid.ensures c.requires.leads least below;
      cells = (least_length c.args.ob c.args.answers.now c.deref.result.now least).1;
    }

-- what was read off the least values is a counterexample, and breaks the property by the cause
pub returns : goal.returns
returns c =
    let f = function_of c.args.rules.now in
    let law = c.failing_ends_have_counterexamples.ensures in
    let values = c.in_ok-values.values.items in
    let least : AreLeast c.args.answers.now (floors_of c.args.ob) values = c.in_ok-values.ensures.least in
    let read : IsReadOff f c.args.ob (valuation_of values) c.args.why c.in_ok-counter.counter =
    subst (λ (xs : List ℤ). IsReadOff f c.args.ob (valuation_of xs) c.args.why c.in_ok-counter.counter)
    c.deref.ensures.value c.in_ok-counter.ensures in
    record {
      counter = record { values = values; least = least; read = read };
      breaks =
          breaks_there f _ _ _ _ _ _ read.level read.doc read.ops
          (law.broken f c.args.ob c.args.answers.now c.args.why values c.rules_are_valid.ensures
          c.requires.declared c.requires.leads least);
      by_the_cause =
          breaks_by_there f c.args.why _ _ _ _ _ _ read.level read.doc read.ops
          (law.by_the_cause f c.args.ob c.args.answers.now c.args.why values c.rules_are_valid.ensures
          c.requires.declared c.requires.leads least);
    }
