use Rattle.std.proofs.Common.{◌≡◌, ◌++◌, ℕ, List, Option, true, false, length, Err, sym, ap, ◌∙◌}
use Rattle.std.proofs.lemmas.Bool.{false_from_ne_true}
use Rattle.ot_model.specs.declared.cell.Cell.{Cell}
use Rattle.ot_model.specs.declared.op.Op.{Op}
use Rattle.ot_model.specs.Effect.{document_after, is_enabled}
use Rattle.fn_rules.specs.declared.function.Head.{Head}
use Rattle.fn_rules.specs.Functions.{Function}
use Rattle.fn_rules.specs.Rules.{function_of}
use Rattle.ot_trace.specs.Orders.{OpEnd, Executed, NotEnabled, end_of}
use Rattle.ot_trace.specs.Texts.{end_line}
use Rattle.ot_trace.proofs.Ends.{end_of-enabled, end_of-refused}
use Rattle.ot_trace.proofs.order.end.Goals as goal

-- the form was executed
pub returns-in_ok-write_done-in-Ok-clause-text : goal.returns-in_ok-write_done-in-Ok-clause-text
returns-in_ok-write_done-in-Ok-clause-text c =
    let f : Function = function_of c.args.rules.now in
    let d : List Cell = c.args.doc.now in
    let p : Op = c.in-Some.form in
    let enabled : is_enabled p (length d) ≡ true =
    (c.tests_decide_their_facts.ensures.enabled (length d) p).1 c.in-Ok.ensures.was_enabled in
    let is : c.apply.new.doc ≡ document_after f.head.mode p d =
    c.in-Ok.ensures.ok ∙ ap (λ (h : Head). document_after h.mode p d) c.head.ensures.head in
    let ended : end_of f d c.args.form ≡ Executed p c.apply.new.doc =
    ap (λ (form : Option Op). end_of f d form) c.in-Some.is ∙ end_of-enabled f d p enabled ∙ ap (Executed p) (sym is) in
    c.in_ok-write_done-in-Ok.ensures ∙ ap (λ (e : OpEnd). c.args.out.now.items ++ end_line e) (sym ended)

-- it was not enabled
pub returns-in_ok-write_not_enabled-in-Err-NotEnabled-clause-text :
    goal.returns-in_ok-write_not_enabled-in-Err-NotEnabled-clause-text
returns-in_ok-write_not_enabled-in-Err-NotEnabled-clause-text c =
    let f : Function = function_of c.args.rules.now in
    let d : List Cell = c.args.doc.now in
    let p : Op = c.in-Some.form in
    let n : ℕ = length d in
    let refused : is_enabled p n ≡ false = false_from_ne_true (is_enabled p n)
    (λ is. c.in-Err-NotEnabled.ensures.not_enabled.0 (ap Err c.in-Err-NotEnabled.field-0-is)
    ((c.tests_decide_their_facts.ensures.enabled n p).0 is)) in
    let cells : c.len.result ≡ n = c.len.ensures ∙ ap length c.in-Err-NotEnabled.ensures.err in
    let ended : end_of f d c.args.form ≡ NotEnabled p c.len.result =
    ap (λ (form : Option Op). end_of f d form) c.in-Some.is ∙ end_of-refused f d p refused
    ∙ ap (NotEnabled p) (sym cells) in
    c.in_ok-write_not_enabled-in-Err-NotEnabled.ensures
    ∙ ap (λ (e : OpEnd). c.args.out.now.items ++ end_line e) (sym ended)
