use Rattle.std.proofs.Common.{◌≡◌, ℕ, true, List, ◌++◌, Some, IfOk, sym, ap, subst, ◌∙◌}
use Rattle.std.specs.List.{list_all}
use Rattle.fn_rules.specs.declared.function.Head.{Head}
use Rattle.fn_rules.specs.declared.function.Level.{Level}
use Rattle.fn_rules.specs.declared.function.ObName.{ObName}
use Rattle.fn_rules.specs.Obligations.{is_obligation}
use Rattle.fn_rules.specs.Rules.{function_of}
use Rattle.ot_questions.specs.Obligation.{plan_below}
use Rattle.ot_decide.specs.Proving.{AreSettled}
use Rattle.ot_bound.specs.Lows.{low_header_text, parts_of}
use Rattle.ot_least.proofs.descent.search_shorter.Goals as goal

pub search_all-requires-clause-listed : goal.search_all-requires-clause-listed
search_all-requires-clause-listed c =
    let head = (function_of c.args.rules.now).head in
    let are = c.deref.ensures.value ∙ c.in_ok-names.ensures
    ∙ ap (λ (h : Head). parts_of h c.level_of-level.result) c.head.ensures.head in
    subst (λ (obs : List ObName). list_all (is_obligation head) obs ≡ true) (sym are)
    (c.parts_are_obligations.ensures.listed head c.level_of-level.result)

pub returns : goal.returns
returns c =
    let f = function_of c.args.rules.now in
    let e = c.args.end.now in
    let level = c.level_of-level.result in
    let plan = plan_below f (Some e.cells) in
    let bytes = c.search_all.new.bytes.items in
    let are = c.deref.ensures.value ∙ c.in_ok-names.ensures ∙ ap (λ (h : Head). parts_of h level) c.head.ensures.head in
    let begun = c.in_ok-write_low_header.ensures
    ∙ ap (λ (x : List ℕ). x ++ low_header_text level e.cells) c.requires.empty in
    subst (λ (l : Level). IfOk c.search_all.result (AreSettled f.head plan (parts_of f.head l) c.args.budget
    (low_header_text l e.cells) bytes)) c.level_of-level.ensures
    (subst (λ (x : List ℕ). IfOk c.search_all.result (AreSettled f.head plan (parts_of f.head level) c.args.budget x
    bytes)) begun (subst (λ (obs : List ObName). IfOk c.search_all.result (AreSettled f.head plan obs c.args.budget
    c.write_low_header.new.out.items bytes)) are c.search_all.ensures.settled))
