use Rattle.std.proofs.Common.{◌≡◌, ◌++◌, List, ℕ, None, Some, refl, sym, ap, arith, ◌∙◌}
use Rattle.std.proofs.lemmas.Bool.Decides.{Decides-eqb}
use Rattle.std.proofs.lemmas.List.{append-nil}
use Rattle.std.proofs.lemmas.Slice.Eq.{strip_prefix_is}
use Rattle.ot_bound.specs.Lows.{low_header_text}
use Rattle.ot_bound.proofs.HeaderFits.{none_left}
use Rattle.ot_bound.proofs.header.bound_fit.Goals as goal

pub returns-in-None : goal.returns-in-None
returns-in-None c more is =
    let text = low_header_text c.args.level c.args.bound in
    let line : c.deref.result.now ≡ text =
    c.deref.ensures.value ∙ c.in_ok-write_low_header.ensures
    ∙ ap (λ (x : List ℕ). x ++ text) c.new-line.ensures.items in
    strip_prefix_is Decides-eqb c.deref.result.now c.args.front.now None c.in-None.ensures.cases more (line ∙ is)

-- the bytes are the whole line
pub returns-in-Some-empty : goal.returns-in-Some-empty
returns-in-Some-empty c =
    let text = low_header_text c.args.level c.args.bound in
    let line : c.deref.result.now ≡ text =
    c.deref.ensures.value ∙ c.in_ok-write_low_header.ensures
    ∙ ap (λ (x : List ℕ). x ++ text) c.new-line.ensures.items in
    let rest = c.in-Some-empty.field-0 in
    let told = strip_prefix_is Decides-eqb c.deref.result.now c.args.front.now (Some rest)
    c.in-Some-empty.ensures.cases in (
      refl,
      refl,
      sym line ∙ told ∙ ap (λ (x : List ℕ). c.args.front.now ++ x) (none_left rest.now c.in-Some-empty.len_below)
          ∙ append-nil c.args.front.now,
    )

pub returns : goal.returns
returns c =
    let text = low_header_text c.args.level c.args.bound in
    let line : c.deref.result.now ≡ text =
    c.deref.ensures.value ∙ c.in_ok-write_low_header.ensures
    ∙ ap (λ (x : List ℕ). x ++ text) c.new-line.ensures.items in
    let rest = c.in-Some.field-0 in
    let told = strip_prefix_is Decides-eqb c.deref.result.now c.args.front.now (Some rest) c.in-Some.ensures.cases in
    (rest.now, omega (arith, c.in-Some.len_at_least), sym line ∙ told)
