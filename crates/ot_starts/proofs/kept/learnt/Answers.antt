use Rattle.std.proofs.Common.{sym, subst, List}
use Rattle.std.specs.List.{All}
use Rattle.std.proofs.lemmas.List.Elements.{All-push, All-same}
use Rattle.ot_starts.specs.declared.kept.Kept.{Kept}
use Rattle.ot_starts.specs.Kept.{IsKeptStart, IsKeptEnd}
use Rattle.ot_starts.proofs.kept.learnt.Goals as goal

pub returns-in_err-push-clause-end : goal.returns-in_err-push-clause-end
returns-in_err-push-clause-end c f kept stands =
    subst (λ (items : List Kept). All (IsKeptEnd f) items) (sym c.in_err-push.ensures.items) kept

pub returns-clause-end : goal.returns-clause-end
returns-clause-end c f kept stands =
    All-same (IsKeptEnd f) c.push.new.self.items _ c.in_ok-push.ensures.items
    (All-push (IsKeptEnd f) c.args.kept.now.goals.items _ kept stands)

pub returns-in_err-push-clause-start : goal.returns-in_err-push-clause-start
returns-in_err-push-clause-start c f kept opens =
    subst (λ (items : List Kept). All (IsKeptStart f) items) (sym c.in_err-push.ensures.items) kept

pub returns-clause-start : goal.returns-clause-start
returns-clause-start c f kept opens =
    All-same (IsKeptStart f) c.push.new.self.items _ c.in_ok-push.ensures.items
    (All-push (IsKeptStart f) c.args.kept.now.goals.items _ kept opens)
