use Rattle.std.proofs.Common.{◌≡◌, ◌≤◌, ◌⊎◌, length, pos, nat_eq, drop, get_or, refl, inl, inr, sym, ◌∙◌, subst, arith}
use Rattle.std.proofs.lemmas.List.{take_all}
use Rattle.diff_graph.specs.declared.lit.Lit.{Lit}
use Rattle.ask_core.specs.Askers.{Begins}
use Rattle.ask_core.specs.declared.turn.Turn.{Turn}
use Rattle.ask_core.specs.declared.turn.Turn.TheVariants as turn
use Rattle.ask_core.specs.Plans.{Plan, Holds, Fails}
use Rattle.ot_prove.specs.Outcomes.{AreAnswersTo}
use Rattle.ot_prove.specs.Searching.{IsAsBefore, LeadsTo}
use Rattle.ot_prove.proofs.Steps.{IsAsBefore-trans}
use Rattle.ot_prove.proofs.Ways.{side_has, way_on, left_on, said_on, ended_way, whole_way}
use Rattle.ot_prove.proofs.answers.answers_along.Given.{Over}
use Rattle.ot_prove.proofs.answers.answers_along.Goals.{After-turn, In-Holds}
use Rattle.ot_prove.proofs.answers.answers_along.Goals as goal

-- the asker is as it was behind one turn more
kept_on :
    (g : Over) (c : After-turn g)
    → IsAsBefore (g.A.Asker.is_own c.args.asker.now) (g.A.Asker.is_own c.turn.new.self)
    (g.A.Asker.plan c.args.asker.now) (g.A.Asker.plan c.turn.new.self) (g.A.Asker.root c.args.asker.now)
    (g.A.Asker.root c.turn.new.self) (g.A.Asker.name_count c.args.asker.now) (g.A.Asker.name_count c.turn.new.self)
kept_on g c =
    let turned = c.turn.ensures in
    IsAsBefore-trans c.loop-literal.invariant.kept
    (record { same = turned.same; root_kept = turned.root_kept; count_kept = turned.count_kept })

-- a turn that asks nothing tells the end of the plan
at_end :
    {N W : Type 0} (is_own : N → Type 0) (plan : N → Plan W) (t : Turn N W) (p : Plan W) → Begins is_own plan t p
    → (t ≡ turn.Holds) ⊎ ((why : W) × (t ≡ turn.Fails why)) → (p ≡ Holds) ⊎ ((why : W) × (p ≡ Fails why))
at_end is_own plan (turn.Ask l on_yes on_no) p begins (inl is) = cc
at_end is_own plan (turn.Ask l on_yes on_no) p begins (inr is) = let wrong = is.1 in cc
at_end is_own plan turn.Holds p begins is = inl begins
at_end is_own plan (turn.Fails why) p begins is = inr (why, begins)

-- where the plan has come to its end, so have the literals
walked : (g : Over) (c : In-Holds g) → length c.args.literals.now ≤ c.loop-literal.literal-index
walked g c =
    let A = g.A.Asker in
    let now = c.turn.new.self in
    let n = c.loop-literal.node in
    let known = c.loop-literal.invariant in
    let begins =
    subst (λ (p : Plan g.row.A-Why.Denot). Begins (A.is_own now) (A.plan now) c.in_ok-lit.field-0 p)
    (c.turn.ensures.same.plans n known.own) c.in_ok-lit.ensures.begins in
    ended_way (A.plan c.loop-literal.asker n) c.args.literals.now c.loop-literal.literal-index c.requires.0
    (known.left c.requires.0 c.requires.1)
    (at_end (A.is_own now) (A.plan now) c.in_ok-lit.field-0 _ begins c.in-Holds.is)

-- one literal more is answered, and the walk goes on by its answer
pub loop-literal-preserved : goal.loop-literal-preserved
loop-literal-preserved g c =
    let A = g.A.Asker in
    let before = c.loop-literal.asker in
    let now = c.turn.new.self in
    let n = c.loop-literal.node in
    let at = c.loop-literal.literal-index in
    let w = c.args.literals.now in
    let known = c.loop-literal.invariant in
    let begins = rw c.in-Ask.is at c.in_ok-lit.ensures.begins in
    let none : Lit = record { x = 0; y = 0; k = pos 0 } in
    let said = nat_eq (get_or w at none).x c.in-Ask.lit.x in
    let kept : A.plan now n ≡ A.plan before n = c.turn.ensures.same.plans n known.own in
    let fine = g.met.A.Asker.fine now n ((c.turn.ensures.same.own n).0 known.own) in
    let leads =
    λ (end : Plan g.row.A-Why.Denot) (way : LeadsTo (A.root c.args.asker.now) w end).
    subst (λ (p : Plan g.row.A-Why.Denot). LeadsTo p (drop at w) end) (sym kept) (known.left end way) in
    let pushed = c.in_ok-push-in-Ask.ensures.items in
    let side = c.side_of-node.ensures in
    record {
      own = rw side (side_has (A.is_own now) said c.in-Ask.yes c.in-Ask.no begins.0 begins.1);
      said =
          rw pushed
          (said_on (A.plan now) n c.in-Ask.yes c.in-Ask.no c.in-Ask.lit begins.2 (A.name_count now) w at none said
          c.loop-literal-test.true fine refl c.loop-literal.answers.items c.requires.0
          (leads c.requires.0 c.requires.1) known.said);
      way =
          rw (pushed, side)
          (way_on (A.plan now) n c.in-Ask.yes c.in-Ask.no c.in-Ask.lit begins.2 (A.root c.args.asker.now)
          c.loop-literal.answers.items said
          (subst (λ (p : Plan g.row.A-Why.Denot). AreAnswersTo (A.root c.args.asker.now) c.loop-literal.answers.items p)
          (sym kept) known.way));
      left =
          rw side
          (λ end way.
          left_on (A.plan now) n c.in-Ask.yes c.in-Ask.no c.in-Ask.lit begins.2 (A.name_count now) w at none said
          c.loop-literal-test.true fine refl end (leads end way));
      kept = kept_on g (goal.at.loop-literal-preserved g c).After-turn;
    }

pub returns-in-Holds-clause-literals : goal.returns-in-Holds-clause-literals
returns-in-Holds-clause-literals g c =
    c.loop-literal.invariant.said
    ∙ take_all c.loop-literal.literal-index c.args.literals.now
    (walked g (goal.at.returns-in-Holds-clause-literals g c).In-Holds)

pub returns-in-Holds-clause-way : goal.returns-in-Holds-clause-way
returns-in-Holds-clause-way g c end leads =
    let known = c.loop-literal.invariant in
    subst (λ (p : Plan g.row.A-Why.Denot).
    AreAnswersTo (g.A.Asker.root c.args.asker.now) c.loop-literal.answers.items p)
    (whole_way (g.A.Asker.plan c.loop-literal.asker c.loop-literal.node) c.args.literals.now
    c.loop-literal.literal-index end
    (walked g (goal.at.returns-in-Holds-clause-way g c).In-Holds) (known.left end leads)) known.way

-- the asker is as it was
pub returns-in_err-lit-clause-kept : goal.returns-in_err-lit-clause-kept
returns-in_err-lit-clause-kept g c = kept_on g (goal.at.returns-in_err-lit-clause-kept g c).After-turn

pub returns-in-Holds-clause-kept : goal.returns-in-Holds-clause-kept
returns-in-Holds-clause-kept g c = kept_on g (goal.at.returns-in-Holds-clause-kept g c).After-turn

pub returns-in_err-push-in-Ask-clause-kept : goal.returns-in_err-push-in-Ask-clause-kept
returns-in_err-push-in-Ask-clause-kept g c = kept_on g (goal.at.returns-in_err-push-in-Ask-clause-kept g c).After-turn

pub returns-clause-literals : goal.returns-clause-literals
returns-clause-literals g c =
    c.loop-literal.invariant.said
    ∙ take_all c.loop-literal.literal-index c.args.literals.now (omega (arith, c.loop-literal-test.false))

pub returns-clause-way : goal.returns-clause-way
returns-clause-way g c end leads =
    let known = c.loop-literal.invariant in
    let w = c.args.literals.now in
    subst (λ (p : Plan g.row.A-Why.Denot). AreAnswersTo (g.A.Asker.root c.args.asker.now) c.loop-literal.answers.items
    p) (whole_way (g.A.Asker.plan c.loop-literal.asker c.loop-literal.node) w c.loop-literal.literal-index end
    (omega (arith, c.loop-literal-test.false)) (known.left end leads)) known.way

pub returns-clause-kept : goal.returns-clause-kept
returns-clause-kept g c = c.loop-literal.invariant.kept
