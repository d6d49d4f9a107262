use Rattle.std.proofs.Common.{sym}
use Rattle.std.proofs.lemmas.List.{take-map}
use Rattle.fn_rules.specs.Functions.{case_of}
use Rattle.ot_mend.proofs.editing.first_cases.Goals as goal

pub returns-then-count-cases : goal.returns-then-count-cases
returns-then-count-cases c = sym (take-map case_of c.args.count c.args.cases.now)
