-- Where operations are.
use Rattle.std.proofs.Common.{ℕ, ◌≤◌, arith}
use Rattle.std.proofs.lemmas.Int.{ints}
use Rattle.ot_model.specs.declared.op.Op.{Op}
use Rattle.ot_model.specs.declared.op.Op.TheVariants.{Ins, Del, Upd, Nop}
use Rattle.ot_model.specs.Effect.{IsEnabled}
use Rattle.fn_rules.specs.Conditions.{IsWithin}

pub IsWithin-more : (m n : ℕ) (o : Op) → m ≤ n → IsWithin m o → IsWithin n o
IsWithin-more m n o more within = (omega (arith, ints), omega (arith, ints))

-- an operation that is enabled is at a position of the document
pub IsWithin-enabled : (n : ℕ) (o : Op) → IsEnabled o n → IsWithin n o
IsWithin-enabled n (Ins at ch site) enabled = (omega (arith, ints), omega (arith, ints))
IsWithin-enabled n (Del at site) enabled = (omega (arith, ints), omega (arith, ints))
IsWithin-enabled n (Upd at ch site) enabled = (omega (arith, ints), omega (arith, ints))
IsWithin-enabled n Nop enabled = (omega (arith, ints), omega (arith, ints))
