-- The law of askers with starts, for the plan of an obligation.
use Rattle.std.specs.Prelude.{IsTrue}
use Rattle.std.proofs.Common.{sym}
use Rattle.fn_rules.specs.declared.function.ObName.{ObName}
use Rattle.fn_rules.specs.Functions.{Function}
use Rattle.fn_rules.specs.Obligations.{is_obligation}
use Rattle.proof_trees.specs.Starts.{IsLawful}
use Rattle.proof_trees.specs.Starters.{IsWhole}
use Rattle.ot_questions.specs.Obligation.{plan_of}
use Rattle.start_laws.specs.Starts.{compare_starts, meaning}
use Rattle.start_laws.proofs.Unmarked.{unmarked-plan}
use Rattle.start_laws.proofs.StartsKept.{plan_starts_kept}
use Rattle.ot_starts.specs.Nodes.{starts_of}

pub IsWhole-starts :
    (f : Function) (ob : ObName) → IsTrue (is_obligation f.head ob) → IsLawful compare_starts (meaning f)
    → IsWhole (plan_of f ob) (starts_of f ob)
IsWhole-starts f ob declared lawful =
    record { same = sym (unmarked-plan f ob); marked = plan_starts_kept f ob declared; lawful = lawful }
