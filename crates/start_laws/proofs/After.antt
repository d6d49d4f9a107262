-- What is left of an obligation after some results depends on those alone that are still read, and on them only as far
-- as they agree.
use Rattle.std.proofs.Common.{◌≡◌, ℕ, ℤ, List, [], ◌∷◌, length, refl, arith}
use Rattle.ot_model.specs.declared.op.Kind.{Kind}
use Rattle.fn_rules.specs.declared.function.ObName.{ObName}
use Rattle.fn_rules.specs.declared.function.ObName.TheVariants.{Pair, Triple}
use Rattle.fn_rules.specs.Functions.{Function}
use Rattle.ot_questions.specs.declared.place.SymOp.{SymOp}
use Rattle.ot_questions.specs.Questions.{ask_transform}
use Rattle.ot_questions.specs.Obligation.{ask_behind, ask_same_form}
use Rattle.ot_terms.specs.Standing.{ask_after, ask_pair_after, ask_triple_after, ask_second_way_after}
use Rattle.start_laws.specs.Starts.{still_read}
use Rattle.start_laws.proofs.Agreement.{Agree, Agree-same}
use Rattle.start_laws.proofs.Alike.{EndAlike, transform_alike, ways_alike, same_form_alike}

-- each operation agrees with the one beside it
abbrev pub AllAgree : (ℕ → ℤ) → List SymOp → List SymOp → Type 0
AllAgree v [] [] = Unit {0}
AllAgree v [] (r ∷ rs) = ⊥
AllAgree v (o ∷ os) [] = ⊥
AllAgree v (o ∷ os) (r ∷ rs) = Agree v o r × AllAgree v os rs

module _ (v : ℕ → ℤ) (f : Function) where
  -- what is left of a pair after results that agree ends alike
  pair_alike :
      (a b : SymOp) (got found : List SymOp) → AllAgree v got found
      → EndAlike v (ask_pair_after f a b got) (ask_pair_after f a b found)
  unfolding ask_pair_after
  pair_alike a b [] [] h = refl
  pair_alike a b [] (p ∷ found) h = absurd h
  pair_alike a b (p ∷ got) [] h = absurd h
  pair_alike a b (p ∷ []) (r ∷ []) h =
      transform_alike v f a b a b _ _ (Agree-same v a) (Agree-same v b)
      (λ q s agree. ways_alike v f.head.mode a b p q r s h.0 agree)
  pair_alike a b (p ∷ []) (r ∷ s ∷ found) h = absurd h.1
  pair_alike a b (p ∷ q ∷ got) (r ∷ []) h = absurd h.1
  pair_alike a b (p ∷ q ∷ got) (r ∷ s ∷ found) h = ways_alike v f.head.mode a b p q r s h.0 h.1.0

  module _ (a b c : SymOp) where
    -- the last transformation of the other way
    right_alike :
        (left p q other r s : SymOp) → Agree v left other → Agree v p r → Agree v q s
        → EndAlike v (ask_transform f q p (λ right. ask_same_form left right))
        (ask_transform f s r (λ right. ask_same_form other right))
    right_alike left p q other r s h first second =
        transform_alike v f q p s r _ _ second first (λ x y agree. same_form_alike v left x other y h agree)

    -- so does what is left of a triple's second way, where the forms of the first way agree too
    second_way_alike :
        (left other : SymOp) (got found : List SymOp) → Agree v left other → AllAgree v got found
        → EndAlike v (ask_second_way_after f a b c left got) (ask_second_way_after f a b c other found)
    unfolding ask_second_way_after ask_behind
    second_way_alike left other [] [] h g =
        transform_alike v f a b a b _ _ (Agree-same v a) (Agree-same v b)
        (λ p r first.
        transform_alike v f c b c b _ _ (Agree-same v c) (Agree-same v b)
        (λ q s second. right_alike left p q other r s h first second))
    second_way_alike left other [] (r ∷ found) h g = absurd g
    second_way_alike left other (p ∷ got) [] h g = absurd g
    second_way_alike left other (p ∷ []) (r ∷ []) h g =
        transform_alike v f c b c b _ _ (Agree-same v c) (Agree-same v b)
        (λ q s second. right_alike left p q other r s h g.0 second)
    second_way_alike left other (p ∷ []) (r ∷ s ∷ found) h g = absurd g.1
    second_way_alike left other (p ∷ q ∷ got) (r ∷ []) h g = absurd g.1
    second_way_alike left other (p ∷ q ∷ []) (r ∷ s ∷ []) h g = right_alike left p q other r s h g.0 g.1.0
    second_way_alike left other (p ∷ q ∷ []) (r ∷ s ∷ y ∷ found) h g = absurd g.1.1
    second_way_alike left other (p ∷ q ∷ x ∷ got) (r ∷ s ∷ []) h g = absurd g.1.1
    second_way_alike left other (p ∷ q ∷ x ∷ got) (r ∷ s ∷ y ∷ found) h g = same_form_alike v left x other y h g.1.1.0

    -- the third transformation of the first way
    left_alike :
        (p q r s : SymOp) → Agree v p r → Agree v q s
        → EndAlike v (ask_transform f q p (λ left. ask_second_way_after f a b c left []))
        (ask_transform f s r (λ left. ask_second_way_after f a b c left []))
    left_alike p q r s first second =
        transform_alike v f q p s r _ _ second first (λ left other agree. second_way_alike left other [] [] agree tt)

    -- what is left of a triple ends alike where the results that are still read agree
    triple_alike :
        (k l m : Kind) (got found : List SymOp) → length got ≡ length found
        → AllAgree v (still_read (Triple k l m) got) (still_read (Triple k l m) found)
        → EndAlike v (ask_triple_after f a b c got) (ask_triple_after f a b c found)
    unfolding ask_triple_after
    triple_alike k l m [] [] e h = refl
    triple_alike k l m (p ∷ []) (r ∷ []) e h =
        transform_alike v f c a c a _ _ (Agree-same v c) (Agree-same v a) (λ q s second. left_alike p q r s h.0 second)
    triple_alike k l m (p ∷ q ∷ []) (r ∷ s ∷ []) e h = left_alike p q r s h.0 h.1.0
    triple_alike k l m (p ∷ q ∷ left ∷ got) (r ∷ s ∷ other ∷ found) e h = second_way_alike left other got found h.0 h.1
    triple_alike k l m got found e h = absurd (omega (arith, e))

  -- what is left of an obligation
  pub after_alike :
      (ob : ObName) (os got found : List SymOp) → length got ≡ length found
      → AllAgree v (still_read ob got) (still_read ob found)
      → EndAlike v (ask_after f ob os got) (ask_after f ob os found)
  unfolding ask_after
  after_alike (Pair k l) [] got found e h = refl
  after_alike (Pair k l) (a ∷ []) got found e h = refl
  after_alike (Pair k l) (a ∷ b ∷ os) got found e h = pair_alike a b got found h
  after_alike (Triple k l m) [] got found e h = refl
  after_alike (Triple k l m) (a ∷ []) got found e h = refl
  after_alike (Triple k l m) (a ∷ b ∷ []) got found e h = refl
  after_alike (Triple k l m) (a ∷ b ∷ c ∷ os) got found e h = triple_alike a b c k l m got found e h
