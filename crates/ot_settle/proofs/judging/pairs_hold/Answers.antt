use Rattle.std.specs.Prelude.{Bool, IsTrue}
use Rattle.std.proofs.lemmas.Result.{IfOk-weaker}
use Rattle.fn_rules.specs.declared.function.Level.TheVariants.{Tp1}
use Rattle.fn_rules.specs.Rules.{function_of}
use Rattle.ot_settle.specs.Outcomes.{IsShownByProof}
use Rattle.ot_settle.proofs.judging.pairs_hold.Goals as goal

pub returns : goal.returns
returns c =
    let f = function_of c.args.rules.now in
    let bytes = c.deref.result.now in
    IfOk-weaker c.is_proof.result (λ (hold : Bool). IsTrue hold → IsShownByProof f Tp1 bytes) _
    (λ hold is_shown true. c.proofs_show_the_properties.ensures.tp1 f bytes (is_shown true).judged) c.is_proof.ensures
