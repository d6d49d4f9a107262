use Rattle.std.proofs.Common.{◌≡◌, ℕ, List, [], ◌∷◌, ◌++◌, length, length-append, refl, sym, ap, subst, ◌∙◌, arith}
use Rattle.std.proofs.Common.{append_assoc}
use Rattle.std.proofs.lemmas.List.{append-nil}
use Rattle.ot_sections.specs.Feeding.{Yields}
use Rattle.ot_bound.specs.declared.header.HeaderFit.TheVariants.{Other}
use Rattle.ot_bound.specs.Headers.{FitsLowHeader, IsFrontOfHeader}
use Rattle.ot_bound.specs.Lows.{low_header_text}
use Rattle.ot_bound.proofs.Fronts.{no_header_there, none_is_front}
use Rattle.ot_bound.proofs.KeptFeeds.{kept_on}
use Rattle.ot_bound.proofs.leading.read_low_header.Goals as goal

pub loop-line-init : goal.loop-line-init
loop-line-init g c =
    let none : c.new-line.result.items ≡ [] = c.new-line.ensures.items in
    record {
      front = subst IsFrontOfHeader (sym none) none_is_front;
      bytes = λ all rest may. subst (λ (l : List ℕ). Yields g.F.Feed c.args.feed.now all (l ++ rest)) (sym none) may;
      fewer = omega (arith, ap length none);
      kept = record {
        more_faults = omega arith;
        no_more_bytes = omega arith;
        same_object = refl;
        still_keeps = λ before h. h;
      };
    }

-- the bytes that came are a first line
pub returns-in-Whole-clause-header : goal.returns-in-Whole-clause-header
returns-in-Whole-clause-header g c =
    let line = c.loop-line.line.items in
    let byte = c.in-Some.byte in
    let came = c.in_ok-level.ensures.came in
    let fits = rw c.in-Whole.is at c.in_ok-level.ensures.fits in
    let text : low_header_text c.in-Whole.level c.in-Whole.bound ≡ line ++ byte ∷ [] = fits.1 ∙ came in
    let next = rw c.in-Some.is at c.in_ok-byte.ensures.byte in
    let less = rw c.in-Some.is at c.in_ok-byte.ensures.fewer in
    let count = c.len.ensures ∙ c.longer_fit.new.line.ok.0 in
    let more = ap (λ (l : List ℕ). length l) came ∙ length-append line (byte ∷ []) in
    record {
      bounded = fits.0;
      counted = count ∙ ap (λ (l : List ℕ). length l) (sym fits.1);
      bytes = λ all rest may.
          subst (λ (l : List ℕ). Yields g.F.Feed c.args.feed.now all l)
          (sym (append_assoc line (byte ∷ []) rest) ∙ ap (λ (l : List ℕ). l ++ rest) (sym text))
          (c.loop-line.invariant.bytes all (byte ∷ rest) (next all rest may));
      fewer = omega (arith, c.loop-line.invariant.fewer, less, count, more);
    }

-- no first line begins with the bytes that came
pub returns-in-Other-clause-refused : goal.returns-in-Other-clause-refused
returns-in-Other-clause-refused g c =
    let line = c.loop-line.line.items in
    let byte = c.in-Some.byte in
    let came = c.in_ok-level.ensures.came in
    let fits = rw c.in-Other.is at c.in_ok-level.ensures.fits in
    let here = subst (λ (l : List ℕ). FitsLowHeader l Other) came fits in
    let next = rw c.in-Some.is at c.in_ok-byte.ensures.byte in
    λ refused all have.
    let rest = have.0 in (
      (line ++ byte ∷ []) ++ rest,
      subst (λ (l : List ℕ). Yields g.F.Feed c.args.feed.now all l) (sym (append_assoc line (byte ∷ []) rest))
          (c.loop-line.invariant.bytes all (byte ∷ rest) (next all rest have.1)),
      (refl, no_header_there line byte rest c.loop-line.invariant.front here),
    )

pub returns-clause-refused : goal.returns-clause-refused
returns-clause-refused g c =
    let line = c.loop-line.line.items in
    let over = rw c.in_default.is at c.in_ok-byte.ensures.over in
    λ refused all have. (
      line,
      subst (λ (l : List ℕ). Yields g.F.Feed c.args.feed.now all l) (append-nil line)
          (c.loop-line.invariant.bytes all [] (over all have)),
      (c.len-2.ensures ∙ c.loop-line.line.ok.0, c.loop-line.invariant.front),
    )

-- one byte more came, and the line goes on
pub loop-line-preserved : goal.loop-line-preserved
loop-line-preserved g c =
    let line = c.loop-line.line.items in
    let byte = c.in-Some.byte in
    let came = c.in_ok-level.ensures.came in
    let next = rw c.in-Some.is at c.in_ok-byte.ensures.byte in
    let less = rw c.in-Some.is at c.in_ok-byte.ensures.fewer in
    let count = ap (λ (l : List ℕ). length l) came ∙ length-append line (byte ∷ []) in
    record {
      front = rw c.in-Front.is at c.in_ok-level.ensures.fits;
      bytes = λ all rest may.
          subst (λ (l : List ℕ). Yields g.F.Feed c.args.feed.now all l)
          (sym (append_assoc line (byte ∷ []) rest) ∙ ap (λ (l : List ℕ). l ++ rest) (sym came))
          (c.loop-line.invariant.bytes all (byte ∷ rest) (next all rest may));
      fewer = omega (arith, c.loop-line.invariant.fewer, less, count);
      kept = kept_on c.loop-line.invariant.kept c.next_byte.ensures.kept;
    }

-- the feed is kept, whatever is returned
pub returns-in_err-byte-clause-kept : goal.returns-in_err-byte-clause-kept
returns-in_err-byte-clause-kept g c = kept_on c.loop-line.invariant.kept c.next_byte.ensures.kept

pub returns-in_err-level-clause-kept : goal.returns-in_err-level-clause-kept
returns-in_err-level-clause-kept g c = kept_on c.loop-line.invariant.kept c.next_byte.ensures.kept

pub returns-in-Whole-clause-kept : goal.returns-in-Whole-clause-kept
returns-in-Whole-clause-kept g c = kept_on c.loop-line.invariant.kept c.next_byte.ensures.kept

pub returns-in-Other-clause-kept : goal.returns-in-Other-clause-kept
returns-in-Other-clause-kept g c = kept_on c.loop-line.invariant.kept c.next_byte.ensures.kept

pub returns-clause-kept : goal.returns-clause-kept
returns-clause-kept g c = kept_on c.loop-line.invariant.kept c.next_byte.ensures.kept
