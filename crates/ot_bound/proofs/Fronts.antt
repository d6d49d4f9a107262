-- Bytes of which a front is no front of a first line.
use Rattle.std.proofs.Common.{◌≡◌, ℕ, ◌≤◌, List, [], ◌∷◌, ◌++◌, ◌⊎◌, inl, inr, refl, sym, ap, ◌∙◌, arith, append_assoc}
use Rattle.std.proofs.lemmas.List.{append-nil}
use Rattle.std.proofs.lemmas.List.{append_cancel_left}
use Rattle.fn_rules.specs.declared.function.Level.{Level}
use Rattle.fn_rules.specs.declared.function.Level.TheVariants.{Tp1}
use Rattle.ot_sections.specs.declared.premise.TheConstants.{MAX_BOUND}
use Rattle.ot_bound.specs.Headers.{BeginsOtherwise, IsFrontOfHeader}
use Rattle.ot_bound.specs.Judgements.{HasNoHeader}
use Rattle.ot_bound.specs.Lows.{low_header_text}
use Rattle.ot_bound.proofs.OneHeader.{no_front}

-- no bytes are the front of a line
pub none_is_front : IsFrontOfHeader []
none_is_front = (Tp1, 0, omega arith, (low_header_text Tp1 0, omega arith, refl))

-- one has more behind the other
abbrev Extends : List ℕ → List ℕ → Type 0
Extends xs ys = (more : List ℕ) × (ys ≡ xs ++ more)

-- of two fronts of the same bytes one is a front of the other
one_is_front : (xs ys r s : List ℕ) → xs ++ r ≡ ys ++ s → Extends xs ys ⊎ Extends ys xs
one_is_front [] ys r s is = inl (ys, refl)
one_is_front (x ∷ xs) [] r s is = inr (x ∷ xs, refl)
one_is_front (x ∷ xs) (y ∷ ys) r s is =
    let first : x ≡ y = cc in
    let rest : xs ++ r ≡ ys ++ s = cc in
    both x y xs ys first (one_is_front xs ys r s rest)
  where
    both : (x y : ℕ) (xs ys : List ℕ) → x ≡ y → Extends xs ys ⊎ Extends ys xs
        → Extends (x ∷ xs) (y ∷ ys) ⊎ Extends (y ∷ ys) (x ∷ xs)
    both x y xs ys same (inl (more, is)) = inl (more, cc)
    both x y xs ys same (inr (more, is)) = inr (more, cc)

-- a line that goes on behind a proper front of one is no line
module _ (line : List ℕ) (byte : ℕ) (front : IsFrontOfHeader line)
    (other : (level : Level) (bound : ℕ) → bound ≤ MAX_BOUND → BeginsOtherwise (line ++ byte ∷ []) level bound)
    (level : Level) (bound : ℕ) (few : bound ≤ MAX_BOUND) where
  no_line_before : (w : List ℕ) → line ≡ low_header_text level bound ++ w → ⊥
  no_line_before w is =
      let (l, b, bounded, (m, some, text)) = front in
      no_front level l bound b line w m few bounded is text some

  no_line_over : (w z : List ℕ) → low_header_text level bound ≡ line ++ w → byte ∷ [] ≡ w ++ z → ⊥
  no_line_over [] z is left =
      no_line_before [] (sym (append-nil line) ∙ sym is ∙ sym (append-nil (low_header_text level bound)))
  no_line_over (x ∷ w) z is left =
      let first : byte ≡ x = cc in
      other level bound few w (is ∙ ap (λ (y : ℕ). line ++ y ∷ w) (sym first) ∙ sym (append_assoc line (byte ∷ []) w))

  no_line_there : (z : List ℕ) → line ++ byte ∷ [] ≡ low_header_text level bound ++ z → ⊥
  no_line_there z is = split (one_is_front line (low_header_text level bound) (byte ∷ []) z is)
    where
      split : Extends line (low_header_text level bound) ⊎ Extends (low_header_text level bound) line → ⊥
      split (inl (w, text)) =
          no_line_over w z text
          (append_cancel_left line (byte ∷ []) (w ++ z) (is ∙ ap (λ (x : List ℕ). x ++ z) text ∙ append_assoc line w z))
      split (inr (w, text)) = no_line_before w text

  no_line_here : (rest more : List ℕ) → (line ++ byte ∷ []) ++ rest ≡ low_header_text level bound ++ more → ⊥
  no_line_here rest more is = split (one_is_front (line ++ byte ∷ []) (low_header_text level bound) rest more is)
    where
      split :
          Extends (line ++ byte ∷ []) (low_header_text level bound)
          ⊎ Extends (low_header_text level bound) (line ++ byte ∷ []) → ⊥
      split (inl (w, text)) = other level bound few w text
      split (inr (w, text)) = no_line_there w text

-- bytes that begin so have no first line, whatever follows
pub no_header_there :
    (line : List ℕ) (byte : ℕ) (rest : List ℕ) → IsFrontOfHeader line
    → ((level : Level) (bound : ℕ) → bound ≤ MAX_BOUND → BeginsOtherwise (line ++ byte ∷ []) level bound)
    → HasNoHeader ((line ++ byte ∷ []) ++ rest)
no_header_there line byte rest front other level bound more few = (
  λ is. other level bound few (rest ++ more) (is ∙ append_assoc (line ++ byte ∷ []) rest more),
  λ is. no_line_here line byte front other level bound few rest more is,
)
