-- The verdict of all obligations of a level.
use Rattle.std.specs.List.{list_all}
use Rattle.std.proofs.Common.{◌≡◌, List, ◌++◌, true, ℕ, ap, subst, sym, ◌∙◌}
use Rattle.fn_rules.specs.declared.function.Head.{Head}
use Rattle.fn_rules.specs.declared.function.ObName.{ObName}
use Rattle.fn_rules.specs.Obligations.{is_obligation, obligations_of}
use Rattle.fn_rules.specs.Rules.{function_of}
use Rattle.cert_text.specs.Spelling.{header_text}
use Rattle.ot_questions.specs.Obligation.{plan_of}
use Rattle.ot_decide.specs.declared.verdict.SearchVerdict.{SearchVerdict}
use Rattle.ot_decide.specs.Proving.{AreSettled}
use Rattle.ot_decide.proofs.Settled.{decided_no, decided_spent, decided_yes, few_yes}
use Rattle.ot_decide.proofs.proving.prove_all.Goals as goal

pub search_all-requires : goal.search_all-requires
search_all-requires c =
    let head = (function_of c.args.rules.now).head in
    let are : c.deref-2.result.now ≡ obligations_of head c.args.level =
    c.deref-2.ensures.value ∙ c.in_ok-names.ensures
    ∙ ap (λ (h : Head). obligations_of h c.args.level) c.head-head.ensures.head in
    record {
      listed =
          subst (λ (n : List ObName). list_all (is_obligation head) n ≡ true) (sym are)
          (c.obligations_are_those_of_the_kinds.ensures.declared head c.args.level);
      bounded = tt;
    }

-- all obligations hold: yes, with the certificate that was written
pub returns-in-AllHold : goal.returns-in-AllHold
returns-in-AllHold c =
    let f = function_of c.args.rules.now in
    let obs = c.deref-2.result.now in
    let are : obs ≡ obligations_of f.head c.args.level =
    c.deref-2.ensures.value ∙ c.in_ok-names.ensures
    ∙ ap (λ (h : Head). obligations_of h c.args.level) c.head-head.ensures.head in
    let before = c.write_header.new.out.items in
    let after = c.search_all.new.bytes.items in
    let settled =
    subst (λ (s : SearchVerdict). AreSettled f.head (plan_of f) obs c.args.budget before after s) c.in-AllHold.is
    c.in_ok-left.ensures.settled in
    let begun : before ≡ header_text obs c.args.level =
    c.in_ok-write_header.ensures.ok
    ∙ ap (λ (x : List ℕ). x ++ header_text c.deref.result.now c.args.level) c.in_ok-bytes.ensures.items
    ∙ ap (λ (n : List ObName). header_text n c.args.level) (c.deref.ensures.value ∙ sym c.deref-2.ensures.value) in
    let ended = c.in_ok-write_end-in-AllHold.ensures.ok in
    record {
      decides = decided_yes f c.args.level c.args.budget obs are before after c.write_end.new.out
          c.in-AllHold.left begun ended settled;
      within = few_yes f c.args.level c.args.budget obs are before after c.write_end.new.out
          c.in-AllHold.left begun ended settled;
    }

-- an obligation fails: no, with the answers that lead there
pub returns-in-Fails : goal.returns-in-Fails
returns-in-Fails c =
    let f = function_of c.args.rules.now in
    let obs = c.deref-2.result.now in
    let are : obs ≡ obligations_of f.head c.args.level =
    c.deref-2.ensures.value ∙ c.in_ok-names.ensures
    ∙ ap (λ (h : Head). obligations_of h c.args.level) c.head-head.ensures.head in
    let before = c.write_header.new.out.items in
    let after = c.search_all.new.bytes.items in
    let settled =
    subst (λ (s : SearchVerdict). AreSettled f.head (plan_of f) obs c.args.budget before after s) c.in-Fails.is
    c.in_ok-left.ensures.settled in
    record {
      decides =
          decided_no f c.args.level c.args.budget obs are before after c.in-Fails.ob
          c.in-Fails.answers c.in-Fails.why settled;
      within = λ _. tt;
    }

-- there are more questions than the budget allows
pub returns : goal.returns
returns c =
    let f = function_of c.args.rules.now in
    let obs = c.deref-2.result.now in
    let are : obs ≡ obligations_of f.head c.args.level =
    c.deref-2.ensures.value ∙ c.in_ok-names.ensures
    ∙ ap (λ (h : Head). obligations_of h c.args.level) c.head-head.ensures.head in
    let before = c.write_header.new.out.items in
    let after = c.search_all.new.bytes.items in
    let settled =
    subst (λ (s : SearchVerdict). AreSettled f.head (plan_of f) obs c.args.budget before after s) c.in-Spent.is
    c.in_ok-left.ensures.settled in
    record {
      decides = decided_spent f c.args.level c.args.budget obs are before after settled;
      within = λ _. tt;
    }
