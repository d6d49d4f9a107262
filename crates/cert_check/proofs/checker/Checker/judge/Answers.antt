use Rattle.std.proofs.Common.{◌≡◌, [], refl}
use Rattle.cert_check.proofs.Completing.{Completes-step, Completes-none}
use Rattle.cert_check.proofs.Feeding.{IsUnderWay-taken, IsUnderWay-refused, none_open}
use Rattle.cert_check.proofs.checker.Checker.judge.Goals as goal

pub invariant_of-self : goal.invariant_of-self
invariant_of-self g c =
    let now = c.take_token in
    IsUnderWay-taken c.self.inside.path c.args.tok.now c.self.invariant now.new.path now.ensures.own now.ensures.root
    c.trees_are_judged_token_by_token.ensures c.in-Ok.ensures.few c.in-Ok.ensures.ok

pub invariant_of-self-in-Ok-2 : goal.invariant_of-self-in-Ok-2
invariant_of-self-in-Ok-2 g c =
    let now = c.take_token in
    IsUnderWay-taken c.self.inside.path c.args.tok.now c.self.invariant now.new.path now.ensures.own now.ensures.root
    c.trees_are_judged_token_by_token.ensures c.in-Ok-2.ensures.few c.in-Ok-2.ensures.ok

pub invariant_of-self-in-Err : goal.invariant_of-self-in-Err
invariant_of-self-in-Err g c =
    let now = c.take_token in
    IsUnderWay-refused c.self.inside.path c.args.tok.now c.self.invariant now.new.path now.ensures.own now.ensures.root
    (rw c.in-Err.ensures.err now.ensures.branches)

pub returns-in-Ok-clause-completes : goal.returns-in-Ok-clause-completes
returns-in-Ok-clause-completes g c tokens =
    rw (← c.self.view_is)
    (Completes-step c.trees_are_judged_token_by_token.ensures c.args.tok.now _ _ tokens
    c.in-Ok.ensures.few c.in-Ok.ensures.ok)

pub returns-in-Ok-2-clause-completes : goal.returns-in-Ok-2-clause-completes
returns-in-Ok-2-clause-completes g c tokens =
    let closed : c.take_token.new.path ≡ [] =
    none_open c.is_open.result c.take_token.new.path c.if-is_open.false c.is_open.ensures in
    let last = rw closed at c.in-Ok-2.ensures.ok in
    rw (← c.self.view_is)
    (Completes-step c.trees_are_judged_token_by_token.ensures c.args.tok.now _ [] tokens c.in-Ok-2.ensures.few last)

pub returns-in-Ok-2-clause-done : goal.returns-in-Ok-2-clause-done
returns-in-Ok-2-clause-done g c done v =
    let now = c.take_token in
    let closed : now.new.path ≡ [] = none_open c.is_open.result now.new.path c.if-is_open.false c.is_open.ensures in
    let way =
    IsUnderWay-taken c.self.inside.path c.args.tok.now c.self.invariant now.new.path now.ensures.own refl
    c.trees_are_judged_token_by_token.ensures c.in-Ok-2.ensures.few c.in-Ok-2.ensures.ok in
    let follows = rw closed at (way.follows []) in
    rw (← c.self.view_is) (follows refl v)

pub returns-in-Err-clause-refused : goal.returns-in-Err-clause-refused
returns-in-Err-clause-refused g c none other tokens =
    rw (← c.self.view_is)
    (Completes-none c.trees_are_judged_token_by_token.ensures c.args.tok.now _ c.in-Err.end tokens
    c.in-Err.ensures.why other)
