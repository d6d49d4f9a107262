use Rattle.std.proofs.Common.{◌+◌, ◌∷◌, ◌++◌, [], arith, refl, ◌∙◌, length-append, length-drop}
use Rattle.std.proofs.lemmas.List.{append-nil}
use Rattle.std.specs.Fmt.{decimal}
use Rattle.ot_sections.proofs.Numbers.{bytes_from, next_number, numbers_grow, short_with}
use Rattle.ot_sections.proofs.cycle.cycle_of.Goals as goal

pub loop-count-init : goal.loop-count-init
loop-count-init c =
    let number = c.in_ok-pick.ensures in (
      c.in_ok-pick.pick ∷ [],
      refl,
      (number.0, tt),
      append-nil (decimal c.in_ok-pick.pick) ∙ number.2,
      number.1,
      c.along-walk.ensures (c.args.lits.now ++ c.args.last ∷ []) c.in_ok-pick.pick c.in_ok-lit.ensures,
    )

-- one number more, along whose literal the walk goes on
pub loop-count-preserved : goal.loop-count-preserved
loop-count-preserved c =
    let came = c.loop-count.invariant in
    let number = c.in_ok-pick-in-44.ensures in
    let pick = c.in_ok-pick-in-44.pick in (
      came.0 ++ pick ∷ [],
      omega (arith, came.1, length-append came.0 (pick ∷ [])),
      short_with came.0 pick came.2 number.0,
      numbers_grow came.0 pick (omega (arith, came.1, c.loop-count.auto.count))
          ∙ next_number c.args.bytes.now _ (decimal pick) c.loop-count.at c.in_ok-pick-in-44.len came.4 (cc) came.3
          (rw (bytes_from c.args.bytes.now (c.loop-count.at + 1)) at number.2),
      omega (
        arith,
        rw (bytes_from c.args.bytes.now (c.loop-count.at + 1)) at number.1,
        length-drop (c.loop-count.at + 1) c.args.bytes.now,
        came.4,
      ),
      c.in_ok-walk-in-44.ensures (c.args.lits.now ++ c.args.last ∷ []) came.0 pick came.5 c.in_ok-lit-in-44.ensures,
    )
