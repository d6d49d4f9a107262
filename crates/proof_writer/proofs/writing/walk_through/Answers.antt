use Rattle.std.proofs.Common.{subst}
use Rattle.proof_search.proofs.Keeping.{KeepsStarts-trans}
use Rattle.proof_writer.proofs.Counting.{none_taken, HasTaken-trans}
use Rattle.proof_writer.proofs.Extending.{ExtendsText-refl, ExtendsText-trans}
use Rattle.proof_writer.proofs.Walking.{lemmas_kept}
use Rattle.proof_writer.proofs.writing.walk_through.Goals as goal

pub turns-init : goal.turns-init
turns-init g c = record {
  lemmas = lemmas_kept c.first.ensures.same c.args.lemmas.now c.requires;
  nodes = λ n has. subst (g.A.Asker.is_own c.first.new.self) (c.in_ok-walk.ensures.nodes n has)
      c.in_ok-first.ensures.begins.0;
  front = ExtendsText-refl c.args.out.now.items;
  same = c.first.ensures.same;
  taken = none_taken c.in_ok-walk.ensures.left c.first.ensures.told;
}

pub turns-preserved : goal.turns-preserved
turns-preserved g c =
    let known = c.turns.invariant in
    record {
      lemmas = lemmas_kept c.turn.ensures.same c.args.lemmas.now known.lemmas;
      nodes = c.in_ok-ending.ensures.nodes;
      front =
          ExtendsText-trans c.args.out.now.items c.turns.out.items c.turn.new.out.items
          known.front c.turn.ensures.front;
      same = KeepsStarts-trans known.same c.turn.ensures.same;
      taken = HasTaken-trans known.taken (rw c.in_default.is at c.in_ok-ending.ensures.taken);
    }

pub returns-in-Some-clause-front : goal.returns-in-Some-clause-front
returns-in-Some-clause-front g c =
    ExtendsText-trans c.args.out.now.items c.turns.out.items c.turn.new.out.items
    c.turns.invariant.front c.turn.ensures.front

pub returns-in-Some-clause-same : goal.returns-in-Some-clause-same
returns-in-Some-clause-same g c = KeepsStarts-trans c.turns.invariant.same c.turn.ensures.same

pub returns-in_err-ending-clause-front : goal.returns-in_err-ending-clause-front
returns-in_err-ending-clause-front g c =
    ExtendsText-trans c.args.out.now.items c.turns.out.items c.turn.new.out.items
    c.turns.invariant.front c.turn.ensures.front

pub returns-in_err-ending-clause-same : goal.returns-in_err-ending-clause-same
returns-in_err-ending-clause-same g c = KeepsStarts-trans c.turns.invariant.same c.turn.ensures.same

pub returns-in_err-first-clause-front : goal.returns-in_err-first-clause-front
returns-in_err-first-clause-front g c = ExtendsText-refl c.args.out.now.items

pub returns-in_err-first-clause-same : goal.returns-in_err-first-clause-same
returns-in_err-first-clause-same g c = c.first.ensures.same

pub returns-in_err-walk-clause-front : goal.returns-in_err-walk-clause-front
returns-in_err-walk-clause-front g c = ExtendsText-refl c.args.out.now.items

pub returns-in_err-walk-clause-same : goal.returns-in_err-walk-clause-same
returns-in_err-walk-clause-same g c = c.first.ensures.same

pub turn-requires-clause-lemmas : goal.turn-requires-clause-lemmas
turn-requires-clause-lemmas g c = c.turns.invariant.lemmas

pub turn-requires-clause-nodes : goal.turn-requires-clause-nodes
turn-requires-clause-nodes g c = c.turns.invariant.nodes

pub returns-clause-front : goal.returns-clause-front
returns-clause-front g c = c.turns.invariant.front

pub returns-clause-same : goal.returns-clause-same
returns-clause-same g c = c.turns.invariant.same
