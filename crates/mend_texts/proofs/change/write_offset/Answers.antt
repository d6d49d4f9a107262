-- The text of a sign and a number is that of the tokens.
use Rattle.std.proofs.Common.{◌≡◌, List, ◌++◌, OnOk, ℕ, w32, subst}
use Rattle.std.proofs.lemmas.Int.{to_z-of_z}
use Rattle.mend_texts.proofs.Offsets.{added, taken}
use Rattle.mend_texts.proofs.change.write_offset.Goals as goal

pub returns-then-k-gt0 : goal.returns-then-k-gt0
returns-then-k-gt0 c =
    subst (λ (text : List ℕ). OnOk c.write_text.result (c.write_text.new.out.items ≡ c.args.out.now.items ++ text))
    (added c.args.k _ c.size_of-size.result _ (to_z-of_z w32 c.args.k c.ranges.k) c.in_ok-format.ensures.ok
    c.size_of-size.ensures c.if-k-gt0.true) c.write_text.ensures

pub returns-then-k-lt0 : goal.returns-then-k-lt0
returns-then-k-lt0 c =
    subst (λ (text : List ℕ). OnOk c.write_text-then-k-lt0.result
    (c.write_text-then-k-lt0.new.out.items ≡ c.args.out.now.items ++ text))
    (taken c.args.k _ c.size_of-size.result _ (to_z-of_z w32 c.args.k c.ranges.k) c.in_ok-format-2.ensures.ok
    c.size_of-size.ensures c.if-k-lt0.true) c.write_text-then-k-lt0.ensures
