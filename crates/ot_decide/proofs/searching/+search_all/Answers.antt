-- One obligation, and then those behind it.
use Rattle.std.proofs.Common.{◌≡◌, ℕ, ◌-◌, List, [], ◌∷◌, ◌++◌, Vec, rules, subst, sym, ap, ◌∙◌, append_assoc}
use Rattle.std.specs.declared.alloc.Global.{Global}
use Rattle.std.proofs.lemmas.Result.{IfOk-weaker}
use Rattle.fn_rules.specs.declared.function.ObName.{ObName}
use Rattle.fn_rules.specs.Obligations.{is_obligation}
use Rattle.fn_rules.specs.Rules.{function_of}
use Rattle.cert_text.specs.Spelling.{ob_text, tokens_text}
use Rattle.cert_text.specs.TreeTexts.{Written}
use Rattle.cert_text.specs.Writing.{section_text}
use Rattle.ot_prove.specs.declared.outcome.Outcome.{Outcome}
use Rattle.ot_prove.specs.Outcomes.{IsDecided, StandsBehind}
use Rattle.ot_questions.specs.declared.why.Why.{Why}
use Rattle.ot_questions.specs.Obligation.{plan_below}
use Rattle.ot_decide.specs.declared.verdict.SearchVerdict.TheVariants as search
use Rattle.ot_decide.specs.Proving.{AreSettled}
use Rattle.ot_decide.proofs.Listed.{all_split}
use Rattle.ot_decide.proofs.Settled.{searched_spellable, settled_behind, settled_refuted, settled_spent}
use Rattle.ot_decide.proofs.searching.+search_all.Goals as goal

-- a line, a text and an end, behind the bytes before
written_behind :
    (before line text end front bytes : List ℕ) → bytes ≡ (front ++ text) ++ end → front ≡ before ++ line
    → bytes ≡ before ++ ((line ++ text) ++ end)
written_behind before line text end front bytes is front_is =
    is ∙ ap (λ (x : List ℕ). (x ++ text) ++ end) front_is
    ∙ ap (λ (x : List ℕ). x ++ end) (append_assoc before line text) ∙ append_assoc before (line ++ text) end

pub search_ob-requires : goal.search_ob-requires
search_ob-requires t c = record {
  listed =
      (all_split (is_obligation (function_of c.args.rules.now).head) c.args.names.now c.in-Some.ob.now
      c.in-Some.others.now c.in-Some.ensures.cases.0 c.requires.listed).0;
  bounded = c.requires.bounded;
  empty = ap (λ t. t.tokens) c.in_ok-tree.ensures;
}

pub end_ob-requires-clause-spellable : goal.end_ob-requires-clause-spellable
end_ob-requires-clause-spellable t c =
    let f = function_of c.args.rules.now in
    let plan = plan_below f c.args.below in
    searched_spellable f.head plan c.in-Some.ob.now c.args.budget c.in-Yes.asked c.in-Yes.tree c.search_ob.ensures.short
    (subst (λ (o : Outcome Why). IsDecided (plan c.in-Some.ob.now) c.args.budget o) c.in-Yes.is
    c.in_ok-tree-2.ensures.decides)

pub search_all-requires : goal.search_all-requires
search_all-requires t c = (
  search rules,
  (
    (all_split (is_obligation (function_of c.args.rules.now).head) c.args.names.now c.in-Some.ob.now
        c.in-Some.others.now c.in-Some.ensures.cases.0 c.requires.listed).1,
    c.requires.bounded,
  ),
)

-- the obligation holds: its section is written, and those behind it are searched
pub returns-in_ok-bytes-in-Yes : goal.returns-in_ok-bytes-in-Yes
returns-in_ok-bytes-in-Yes t c =
    let f = function_of c.args.rules.now in
    let plan = plan_below f c.args.below in
    let before = c.args.bytes.now.items in
    let middle = c.in_ok-bytes-in-Yes.field-0.items in
    let after = c.search_all.new.bytes.items in
    let searched =
    subst (λ (o : Outcome Why). IsDecided (plan c.in-Some.ob.now) c.args.budget o) c.in-Yes.is
    c.in_ok-tree-2.ensures.decides in
    let line = ob_text c.in-Some.ob.now in
    let begun : c.in_ok-tree.tree.front ≡ before ++ line =
    ap (λ (x : Written). x.front) c.in_ok-tree.ensures
    ∙ ap (λ (v : Vec ℕ Global). v.items ++ line) c.replace.ensures.value in
    let stands : c.in-Yes.tree.front ≡ c.in_ok-tree.tree.front =
    subst (λ (o : Outcome Why). StandsBehind c.in_ok-tree.tree.front o) c.in-Yes.is c.in_ok-tree-2.ensures.front in
    let written : middle ≡ before ++ section_text c.in-Some.ob.now c.in-Yes.tree.tokens =
    written_behind before line (tokens_text c.in-Yes.tree.tokens) (10 ∷ []) c.in-Yes.tree.front middle
    c.in_ok-bytes-in-Yes.ensures (stands ∙ begun) in
    rw c.in-Some.ensures.cases.0
    (record {
      settled =
          IfOk-weaker c.search_all.result
          (AreSettled f.head plan c.in-Some.others.now (c.args.budget - c.in-Yes.asked) middle after)
          (AreSettled f.head plan (c.in-Some.ob.now ∷ c.in-Some.others.now) c.args.budget before after)
          (λ v. settled_behind f.head plan c.in-Some.ob.now c.in-Some.others.now c.args.budget c.in-Yes.asked
          c.in-Yes.tree c.search_ob.ensures.short searched before middle after v written)
          c.search_all.ensures.settled;
    })

-- the obligation fails: those behind it are not searched
pub returns-in-No : goal.returns-in-No
returns-in-No t c =
    let f = function_of c.args.rules.now in
    let plan = plan_below f c.args.below in
    let listed =
    (all_split (is_obligation f.head) c.args.names.now c.in-Some.ob.now c.in-Some.others.now
    c.in-Some.ensures.cases.0 c.requires.listed).0 in
    record {
      settled =
          subst
          (λ (n : List ObName). AreSettled f.head plan n c.args.budget c.args.bytes.now.items c.args.bytes.now.items
          (search.Fails c.in-Some.ob.now c.in-No.answers c.in-No.why))
          (sym c.in-Some.ensures.cases.0)
          (settled_refuted f.head plan c.in-Some.ob.now c.in-Some.others.now c.args.budget c.in-No.answers c.in-No.why
          c.args.bytes.now.items c.args.bytes.now.items listed
          (subst (λ (o : Outcome Why). IsDecided (plan c.in-Some.ob.now) c.args.budget o) c.in-No.is
          c.in_ok-tree-2.ensures.decides));
    }

-- the obligation has more questions than are left, and so have all together
pub returns-in-Spent : goal.returns-in-Spent
returns-in-Spent t c =
    let f = function_of c.args.rules.now in
    let plan = plan_below f c.args.below in
    record {
      settled =
          subst
          (λ (n : List ObName). AreSettled f.head plan n c.args.budget c.args.bytes.now.items c.args.bytes.now.items
          search.Spent) (sym c.in-Some.ensures.cases.0)
          (settled_spent f.head plan c.in-Some.ob.now c.in-Some.others.now c.args.budget c.args.bytes.now.items
          c.args.bytes.now.items (c.obligations_have_one_question_list.ensures.some_below f c.args.below
          c.in-Some.others.now c.rules_are_valid.ensures c.requires.bounded)
          (subst (λ (o : Outcome Why). IsDecided (plan c.in-Some.ob.now) c.args.budget o) c.in-Spent.is
          c.in_ok-tree-2.ensures.decides));
    }
