use Rattle.std.proofs.Common.{ℕ}
use Rattle.fn_rules.specs.declared.function.Level.{Level}
use Rattle.fn_rules.specs.declared.function.Level.TheVariants.{Tp1, Tp2}
use Rattle.fn_rules.specs.Functions.{Function}
use Rattle.ot_questions.specs.Meaning.{AllHoldAtLength}
use Rattle.ot_bound.specs.Lows.{HasAt, parts_of}
use Rattle.ot_bound.proofs.LowShows.{answers_hold_below}
use Rattle.ot_bound.proofs.laws.low_certificates_show_shorter_documents.Goals as goal

by_level :
    (f : Function) (n : ℕ)
    → (AllHoldAtLength f (parts_of f.head Tp1) n → HasAt f Tp1 n)
    → (AllHoldAtLength f (parts_of f.head Tp2) n → HasAt f Tp2 n)
    → (level : Level) → AllHoldAtLength f (parts_of f.head level) n → HasAt f level n
by_level f n first second Tp1 hold = first hold
by_level f n first second Tp2 hold = second hold

pub returns : goal.returns
returns c bytes f level bound n (bounded, (trees, answers, text)) below =
    by_level f n (c.pair_plans_mean_tp1.ensures.whole_shown_at f n) (c.triple_plans_mean_tp2.ensures.alone_shown_at f n)
    level (answers_hold_below c.fitting_trees_hold.ensures.whole c.bounded_plans_mean_shorter_documents.ensures f bound
    n below (parts_of f.head level) trees answers)
