-- A turn of the search: it asks too much, or gives a low certificate, or goes on from a shorter failing end.
use Rattle.std.proofs.Common.{rules, arith, sym, ap, subst, ◌∙◌}
use Rattle.std.proofs.lemmas.Result.{IfOk-weaker}
use Rattle.fn_rules.specs.declared.function.Level.{Level}
use Rattle.fn_rules.specs.declared.function.ObName.{ObName}
use Rattle.fn_rules.specs.Obligations.{level_of}
use Rattle.fn_rules.specs.Rules.{function_of}
use Rattle.ot_least.specs.Endings.{IsEndedBy}
use Rattle.ot_least.specs.Shortest.{IsBroken, IsShortWithin, IsTrueOf}
use Rattle.ot_least.proofs.Descents.{FallsTo, falls_least, falls_on, falls_spent, is_low, is_true, same_level}
use Rattle.ot_least.proofs.Descents.{short_within}
use Rattle.ot_least.proofs.descent.+descend.Goals as goal

-- all hold on shorter documents: the descent ends here
pub returns-in-AllHold-clause-falls : goal.returns-in-AllHold-clause-falls
returns-in-AllHold-clause-falls t c =
    let f = function_of c.args.rules.now in
    let e = c.args.end in
    let bytes = c.search_shorter.new.cert.items in
    let turn = rw c.in-AllHold.is at c.in_ok-search_shorter.ensures in
    IfOk-weaker c.least.result (IsEndedBy e bytes) (FallsTo f c.args.budget e bytes)
    (falls_least f c.args.budget e bytes c.in-AllHold.left turn) c.least.ensures

-- the property is broken at this length and at no lesser one, as the bytes certify
pub returns-in-AllHold-clause-holds : goal.returns-in-AllHold-clause-holds
returns-in-AllHold-clause-holds t c =
    let f = function_of c.args.rules.now in
    let e = c.args.end in
    let bytes = c.search_shorter.new.cert.items in
    let turn = rw c.in-AllHold.is at c.in_ok-search_shorter.ensures in
    IfOk-weaker c.least.result (IsEndedBy e bytes) (IsTrueOf f)
    (λ short ended.
    is_true f (λ ob why w cells. c.failing_ends_break_at_their_length.ensures.instance f ob why w cells
    c.rules_are_valid.ensures)
    (λ cert level bound n. c.low_certificates_show_shorter_documents.ensures cert f level bound n) e bytes short ended
    c.requires.ending c.requires.broken
    (is_low f c.args.budget e bytes c.in-AllHold.left turn short ended c.requires.bounded)) c.least.ensures

-- the certificate keeps the limit of a file
pub returns-in-AllHold-clause-within : goal.returns-in-AllHold-clause-within
returns-in-AllHold-clause-within t c =
    let f = function_of c.args.rules.now in
    let e = c.args.end in
    let bytes = c.search_shorter.new.cert.items in
    let turn = rw c.in-AllHold.is at c.in_ok-search_shorter.ensures in
    let few = c.parts_are_obligations.ensures.few f.head (level_of e.ob) in
    λ limit.
    IfOk-weaker c.least.result (IsEndedBy e bytes) (IsShortWithin 83886080)
    (λ short ended. short_within f c.args.budget e bytes c.in-AllHold.left turn short ended c.requires.bounded
    few limit) c.least.ensures

-- the shorter failing end is of the same property
pub descend-requires : goal.descend-requires
descend-requires t c =
    let f = function_of c.args.rules.now in
    let e = c.args.end in
    let turn = rw c.in-Fails.is at c.in_ok-search_shorter.ensures in
    let next = c.in_ok-next-in-Fails.ensures in
    let fewer = next.fewer in
    let same =
    ap (λ (o : ObName). level_of o) next.ob
    ∙ same_level f c.args.budget e c.search_shorter.new.cert.items c.in-Fails.ob c.in-Fails.answers c.in-Fails.why turn
    (c.parts_are_obligations.ensures.of_level f.head (level_of e.ob)) in (
      search rules,
      (
        next.ending,
        (subst (λ (l : Level). IsBroken f l) (sym same) c.requires.broken, omega (arith, fewer, c.requires.bounded)),
      ),
    )

-- one fails on shorter documents: the descent goes on from there
pub returns-in_ok-next-in-Fails-clause-falls : goal.returns-in_ok-next-in-Fails-clause-falls
returns-in_ok-next-in-Fails-clause-falls t c =
    let f = function_of c.args.rules.now in
    let e = c.args.end in
    let bytes = c.search_shorter.new.cert.items in
    let turn = rw c.in-Fails.is at c.in_ok-search_shorter.ensures in
    let next = c.in_ok-next-in-Fails.next in
    let is = c.in_ok-next-in-Fails.ensures in
    IfOk-weaker c.descend.result (FallsTo f c.args.budget next bytes) (FallsTo f c.args.budget e bytes)
    (λ answer.
    falls_on f c.args.budget e bytes c.in-Fails.ob c.in-Fails.answers c.in-Fails.why turn next answer is.ending is.ob
    is.answers is.why) c.descend.ensures.falls

pub returns-in_ok-next-in-Fails-clause-holds : goal.returns-in_ok-next-in-Fails-clause-holds
returns-in_ok-next-in-Fails-clause-holds t c = c.descend.ensures.holds

pub returns-in_ok-next-in-Fails-clause-within : goal.returns-in_ok-next-in-Fails-clause-within
returns-in_ok-next-in-Fails-clause-within t c = c.descend.ensures.within

-- a turn has more questions than the budget allows
pub returns-in-Spent-clause-falls : goal.returns-in-Spent-clause-falls
returns-in-Spent-clause-falls t c =
    falls_spent (function_of c.args.rules.now) c.args.budget c.args.end c.search_shorter.new.cert.items
    (rw c.in-Spent.is at c.in_ok-search_shorter.ensures)
