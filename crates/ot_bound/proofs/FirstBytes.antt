-- What comes of a feed that gives bytes one after another.
use Rattle.std.specs.Option.{ForSome}
use Rattle.std.specs.Io.KnownBytes.{prepend_known, IsAtEnd}
use Rattle.std.proofs.Common.{◌≡◌, ℕ, ◌+◌, ◌<◌, List, [], ◌∷◌, ◌++◌, length, take, slice_index_or, Option, Some, None}
use Rattle.std.proofs.Common.{refl, sym, ap, subst, ◌∙◌, arith, append_assoc}
use Rattle.ot_outside.specs.declared.feed.Feed.{Ghosts}
use Rattle.ot_sections.specs.Feeding.{Has, IsSpent, MayGive, MayGiveOf, Whole, Yields}

-- the first of some bytes is taken
pub one_taken : (xs : List ℕ) → 0 < length xs → take 1 xs ≡ slice_index_or xs 0 0 ∷ []
one_taken [] some = absurd (omega arith)
one_taken (x ∷ xs) some = refl

-- told bytes begin with the one that is given
told_first :
    (byte : ℕ) (rest : List ℕ) (told left : Option (List ℕ)) → told ≡ prepend_known (byte ∷ []) left
    → ForSome left (λ known. rest ≡ known) → ForSome told (λ known. byte ∷ rest ≡ known)
told_first byte rest told None took are known is = absurd (cc)
told_first byte rest told (Some bytes) took are known is =
    let whole : byte ∷ bytes ≡ known = cc in ap (λ (l : List ℕ). byte ∷ l) (are bytes refl) ∙ whole

untold_first : (byte : ℕ) (told left : Option (List ℕ)) → told ≡ prepend_known (byte ∷ []) left
    → told ≡ None → left ≡ None
untold_first byte told None took is = refl
untold_first byte told (Some bytes) took is = absurd (cc)

-- a feed was asked for a further byte, and gave none yet
pub record IsAsked {F : Type 0} (feeds : Ghosts F) (old new : F) : Type 0 where
  pub left : feeds.left new ≡ feeds.left old
  pub bound : feeds.bound new ≡ feeds.bound old
  pub gave : feeds.gave new ≡ feeds.gave old

-- and then gave one
pub record GivesByte {F : Type 0} (feeds : Ghosts F) (old new : F) (bytes : List ℕ) : Type 0 where
  pub left : feeds.left old ≡ prepend_known bytes (feeds.left new)
  pub bound : feeds.bound old ≡ feeds.bound new + 1
  pub gave : feeds.gave new ≡ feeds.gave old ++ bytes

module _ {F : Type 0} (feeds : Ghosts F) where
  -- before the byte it might give it, and then what it may give behind it
  pub given_first :
      (old asked new : F) (piece : List ℕ) → 0 < length piece → IsAsked feeds old asked
      → GivesByte feeds asked new (take 1 piece)
      → (all : Whole) (rest : List ℕ) → Yields feeds new all rest
      → Yields feeds old all (slice_index_or piece 0 0 ∷ rest)
  unfolding MayGiveOf MayGive
  given_first old asked new piece some same gives all rest may =
      let byte = slice_index_or piece 0 0 in
      let text = one_taken piece some in
      let left : feeds.left old ≡ prepend_known (byte ∷ []) (feeds.left new) =
      sym same.left ∙ gives.left ∙ ap (λ (l : List ℕ). prepend_known l (feeds.left new)) text in
      let gave : feeds.gave new ≡ feeds.gave old ++ byte ∷ [] =
      gives.gave ∙ ap (λ (l : List ℕ). l ++ take 1 piece) same.gave ∙ ap (λ (l : List ℕ). feeds.gave old ++ l) text in (
        λ t.
            let known = may.0 t in (
              told_first byte rest (feeds.left old) (feeds.left new) left known.0,
              λ none.
                  let few = known.1 (untold_first byte (feeds.left old) (feeds.left new) left none) in
                  omega (arith, same.bound, gives.bound, few),
            ),
        may.1 ∙ ap (λ (l : List ℕ). l ++ rest) gave ∙ append_assoc (feeds.gave old) (byte ∷ []) rest,
      )

  -- nothing is left where no further byte was there
  pub spent_there : (old asked : F) → IsAsked feeds old asked → IsAtEnd (feeds.left old) → feeds.hand asked ≡ []
      → IsSpent feeds.left feeds.hand asked
  spent_there old asked same over none = record { end = rw same.left over; none = none }

  -- and what the feed gave is all
  pub over_there :
      (old asked : F) → IsAsked feeds old asked → IsSpent feeds.left feeds.hand asked
      → (all : Whole) → Has feeds asked all
      → Yields feeds old all []
  unfolding MayGiveOf MayGive
  over_there old asked same spent all have =
      let none : have.0 ≡ [] = have.2 spent in
      rw (← same.left, ← same.bound, ← same.gave) (subst (λ (l : List ℕ). Yields feeds asked all l) none have.1)
