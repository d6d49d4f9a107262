use Rattle.std.proofs.Common.{length, drop, arith, length-drop}
use Rattle.cert_text.proofs.LineLemmas.{Begins, begins, same_length}
use Rattle.cert_text.proofs.line.fit_of.Goals as goal

pub returns-then-not-starts_with : goal.returns-then-not-starts_with
returns-then-not-starts_with c = λ more is.
    let told : Begins c.args.line.now c.args.front.now c.starts_with.result =
    begins _ _ _ c.starts_with.ensures.value in
    let yes = told.only more is in let no = c.if-not-starts_with.true in cc (yes, no)

pub returns-then-line-front : goal.returns-then-line-front
returns-then-line-front c =
    let told : Begins c.args.line.now c.args.front.now c.starts_with.result =
    begins _ _ _ c.starts_with.ensures.value in
    same_length _ _ (told.rest c.if-not-starts_with.false) c.if-line-front.true

pub returns : goal.returns
returns c =
    let told : Begins c.args.line.now c.args.front.now c.starts_with.result =
    begins _ _ _ c.starts_with.ensures.value in
    let is = told.rest c.if-not-starts_with.false in
    let bound = c.starts_with.ensures.bound c.if-not-starts_with.false in (
      drop (length c.args.front.now) c.args.line.now,
      omega (arith, length-drop (length c.args.front.now) c.args.line.now, bound, c.if-line-front.false),
      is,
    )
