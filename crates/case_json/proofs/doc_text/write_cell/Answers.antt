use Rattle.std.proofs.Common.{◌∷◌, [], ◌++◌, List, ℕ, subst}
use Rattle.std.specs.Prelude.{encode_utf8_all}
use Rattle.std.proofs.lemmas.Result.{on_err_weaker}
use lib.Utf8.{encode}
use Rattle.case_json.specs.DocText.{tilde, char_text}
use Rattle.ot_outside.specs.Whole.{AppendsFront}
use Rattle.case_json.proofs.Writing.{front_behind}
use Rattle.case_json.proofs.doc_text.write_cell.Goals as goal

pub returns-clause-err : goal.returns-clause-err
unfolding encode
returns-clause-err c =
    let old : List ℕ = c.args.out.now.items in
    let new : List ℕ = c.char_write-2.new.out.items in
    let text : List ℕ = encode_utf8_all (char_text c.args.cell.ch) in
    on_err_weaker c.char_write-2.result
    (λ behind.
    let front : AppendsFront (old ++ tilde ∷ []) text new =
    subst (λ (before : List ℕ). AppendsFront before text new) c.in_ok-push.ensures.items behind in
    rw c.if-cell.false (front_behind old (tilde ∷ []) new text front))
    c.char_write-2.ensures.err
