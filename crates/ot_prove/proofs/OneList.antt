-- A plan that keeps the limits has exactly one question list.
use Rattle.std.proofs.Common.{◌≡◌, ℕ, zero, suc, ◌<◌, ℤ, true, false, List, [], ◌∷◌, ◌++◌, length, get_or, Option, Some}
use Rattle.std.proofs.Common.{None, MatchOption, IsTrue, arith, refl, sym, ap, ◌∙◌, subst, inl, inr}
use Rattle.std.proofs.lemmas.Bool.{cases_Bool, cases_eq}
use Rattle.std.proofs.lemmas.List.{get_or_push, get_or_append_left, length_push}
use Rattle.diff_graph.specs.declared.lit.Lit.{Lit}
use Rattle.diff_tables.specs.declared.hop.Hop.{Hop}
use Rattle.diff_graph.specs.Literals.{IsPossible, AreMet, Meets, negated}
use Rattle.diff_graph.specs.Limits.{IsNamed}
use Rattle.diff_tables.specs.Tables.{Numbered, literals_of, numbered_from, StandsFor}
use Rattle.diff_tables.specs.Steps.{added, leaves_room, AreNewRows, IsNewRow, own_only}
use Rattle.ask_core.specs.Plans.{Plan, Ask, Holds, Fails}
use Rattle.ask_core.specs.Askers.{has_fine_literals}
use Rattle.ask_core.specs.Trees.{with_answer}
use Rattle.ask_core.specs.Questions.{Questions, FailingEnd, QuestionList, JoinsParts, no_questions, failing_at}
use Rattle.ask_core.specs.Questions.{asked_with_yes, asked_with_both}
use Rattle.ot_prove.proofs.Literals.{fine_question}
use Rattle.search_places.proofs.Possible.{IsPossible-by_table, literals_of-numbered_from, numbered_from-next}
use Rattle.search_places.proofs.Possible.{TellsPossible}

-- ---- new tables
-- the values of a function at the first numbers
tabulated : {X : Type 0} → (ℕ → X) → ℕ → List X
tabulated f zero = []
tabulated f (suc n) = tabulated f n ++ f n ∷ []

length-tabulated : {X : Type 0} (f : ℕ → X) (n : ℕ) → length (tabulated f n) ≡ n
unfolding tabulated
length-tabulated f zero = refl
length-tabulated f (suc n) = omega (arith, length_push (tabulated f n) (f n), length-tabulated f n)

-- at each number below the length stands the function's value there
get_or-tabulated : {X : Type 0} (f : ℕ → X) (n k : ℕ) (d : X) → k < n → get_or (tabulated f n) k d ≡ f k
unfolding tabulated
get_or-tabulated f zero k d below = absurd (omega arith)
get_or-tabulated f (suc n) k d below =
    elim (cases_eq k n) [
      | inl same ↦
          get_or_push (tabulated f n) (f n) d k (length-tabulated f n ∙ sym same) ∙ ap f (sym same)
      | inr other ↦
          (let before : k < n = omega arith in
          let inside : k < length (tabulated f n) = omega (arith, length-tabulated f n) in
          get_or_append_left (tabulated f n) (f n ∷ []) d k inside ∙ get_or-tabulated f n k d before)
    ]

-- the rows of a table of n names to which nothing was added
pub fresh_rows : ℕ → List (List (Option Hop))
fresh_rows n = tabulated (λ y. tabulated (own_only y) n) n

pub AreNewRows-fresh : (n : ℕ) → AreNewRows n n (fresh_rows n)
unfolding fresh_rows
AreNewRows-fresh n = (
  length-tabulated (λ y. tabulated (own_only y) n) n,
  λ y below.
      subst (λ (row : List (Option Hop)). IsNewRow n y row) (sym (get_or-tabulated (λ z. tabulated (own_only z) n) n y
      [] below)) (length-tabulated (own_only y) n, λ x inside. get_or-tabulated (own_only y) n x None inside),
)

-- ---- one more answer
abbrev pub AddedStands : Type 0
AddedStands =
    (n : ℕ) (t u : ℕ → ℕ → Option Hop) (ps : List Numbered) (number : ℕ) (l : Lit)
    → StandsFor n t ps → IsNamed n l → leaves_room (t l.y l.x) l.k ≡ true
    → ((x y : ℕ) → u x y ≡ added t number l x y)
    → StandsFor n u (ps ++ record { number = number; lit = l } ∷ [])

AreMet-last : (v : ℕ → ℤ) (w : List Lit) (l : Lit) → AreMet v (w ++ l ∷ []) → AreMet v w × Meets v l
AreMet-last v [] l met = (tt, met.0)
AreMet-last v (m ∷ w) l met = let rest = AreMet-last v w l met.1 in ((met.0, rest.0), rest.1)

module _ (adds : AddedStands) (tells : TellsPossible) where
  -- a table that has room for an answer stands for the answers with it
  pub stands-with :
      (n : ℕ) (t : ℕ → ℕ → Option Hop) (w : List Lit) (l : Lit) → StandsFor n t (numbered_from 0 w) → IsNamed n l
      → leaves_room (t l.y l.x) l.k ≡ true → StandsFor n (added t (length w) l) (numbered_from 0 (w ++ l ∷ []))
  stands-with n t w l stands named room =
      subst (λ (ps : List Numbered). StandsFor n (added t (length w) l) ps) (numbered_from-next w l (length w) refl)
      (adds n t (added t (length w) l) (numbered_from 0 w) (length w) l stands named room (λ x y. refl))

  -- one that has none shows that no integers meet them
  pub impossible-with :
      (n : ℕ) (t : ℕ → ℕ → Option Hop) (w : List Lit) (l : Lit) → StandsFor n t (numbered_from 0 w) → IsNamed n l
      → leaves_room (t l.y l.x) l.k ≡ false → ¬ IsPossible (w ++ l ∷ [])
  impossible-with n t w l stands named no_room possible =
      let met = AreMet-last possible.0 w l possible.2 in
      let listed : AreMet possible.0 (literals_of (numbered_from 0 w)) =
      subst (λ (ls : List Lit). AreMet possible.0 ls) (sym (literals_of-numbered_from 0 w)) met.0 in
      let room : leaves_room (t l.y l.x) l.k ≡ true =
      (tells n t (numbered_from 0 w) l stands named).1 (possible.0, (listed, met.1)) in
      absurd (cc)

-- ---- some list
module _ {W : Type 0} where
  no_list : (p : Plan W) (w : List Lit) → ¬ IsPossible w → QuestionList p w no_questions
  no_list (Ask l on_yes on_no) w never = inl (never, refl)
  no_list Holds w never = refl
  no_list (Fails why) w never = inl (never, refl)

  joined_by :
      (w : List Lit) (y n : Questions W) (P : Questions W → Type 0) (failing : Option (FailingEnd W)) → P n
      → (q : Questions W) × MatchOption failing ((m : Questions W) × P m × (q ≡ asked_with_both w y m))
      (λ _. q ≡ asked_with_yes w y)
  joined_by w y n P None of_no = (asked_with_both w y n, (n, of_no, refl))
  joined_by w y n P (Some end) of_no = (asked_with_yes w y, refl)

  module _ (adds : AddedStands) (tells : TellsPossible) where
    list_of_side :
        (n : ℕ) (t : ℕ → ℕ → Option Hop) (p : Plan W) (w : List Lit) (l : Lit)
        → StandsFor n t (numbered_from 0 w) → IsNamed n l
        → ((u : ℕ → ℕ → Option Hop) → StandsFor n u (numbered_from 0 (w ++ l ∷ []))
        → (q : Questions W) × QuestionList p (w ++ l ∷ []) q)
        → (q : Questions W) × QuestionList p (w ++ l ∷ []) q
    list_of_side n t p w l stands named later =
        elim (cases_Bool (leaves_room (t l.y l.x) l.k)) [
          | inl room ↦ later (added t (length w) l) (stands-with adds tells n t w l stands named room)
          | inr no_room ↦
              (no_questions, no_list p (w ++ l ∷ []) (impossible-with adds tells n t w l stands named no_room))
        ]

    -- a plan of fine literals has a question list, after answers that a table stands for
    pub some_list :
        (n : ℕ) (t : ℕ → ℕ → Option Hop) (p : Plan W) (w : List Lit) → IsTrue (has_fine_literals n p)
        → StandsFor n t (numbered_from 0 w) → (q : Questions W) × QuestionList p w q
    some_list n t (Ask l on_yes on_no) w fine stands =
        let parts = fine_question n l on_yes on_no fine in
        let named : IsNamed n l = parts.0.named in
        let of_yes =
        list_of_side n t on_yes w l stands named
        (λ u after. some_list n u on_yes (with_answer w l true) parts.1 after) in
        let of_no =
        list_of_side n t on_no w (negated l) stands (named.1, named.0)
        (λ u after. some_list n u on_no (with_answer w l false) parts.2 after) in
        let both =
        joined_by w of_yes.0 of_no.0 (λ (q : Questions W). QuestionList on_no (with_answer w l false) q)
        of_yes.0.failing of_no.1 in
        (both.0, inr (IsPossible-by_table w stands, (of_yes.0, of_yes.1, both.1)))
    some_list n t Holds w fine stands = (no_questions, refl)
    some_list n t (Fails why) w fine stands = (failing_at w why, inr (IsPossible-by_table w stands, refl))

  -- ---- one list
  one_join :
      (w : List Lit) (y : Questions W) (P : Questions W → Type 0) → ((n m : Questions W) → P n → P m → n ≡ m)
      → (q r : Questions W) (failing : Option (FailingEnd W))
      → MatchOption failing ((m : Questions W) × P m × (q ≡ asked_with_both w y m)) (λ _. q ≡ asked_with_yes w y)
      → MatchOption failing ((m : Questions W) × P m × (r ≡ asked_with_both w y m)) (λ _. r ≡ asked_with_yes w y)
      → q ≡ r
  one_join w y P only q r None (n, of_n, q_is) (m, of_m, r_is) =
      q_is ∙ ap (λ (x : Questions W). asked_with_both w y x) (only n m of_n of_m) ∙ sym r_is
  one_join w y P only q r (Some end) q_is r_is = q_is ∙ sym r_is

  -- a plan has at most one question list after some answers
  pub one_list : (p : Plan W) (w : List Lit) (q r : Questions W) → QuestionList p w q → QuestionList p w r → q ≡ r
  one_list (Ask l on_yes on_no) w q r (inl none) (inl none') = none.1 ∙ sym none'.1
  one_list (Ask l on_yes on_no) w q r (inl none) (inr some) = absurd (none.0 some.0)
  one_list (Ask l on_yes on_no) w q r (inr some) (inl none) = absurd (none.0 some.0)
  one_list (Ask l on_yes on_no) w q r (inr (some, (y, of_y, joins))) (inr (some', (z, of_z, joins'))) =
      let same : z ≡ y = one_list on_yes (with_answer w l true) z y of_z of_y in
      one_join w y (λ (x : Questions W). QuestionList on_no (with_answer w l false) x)
      (λ n m of_n of_m. one_list on_no (with_answer w l false) n m of_n of_m) q r y.failing joins
      (subst (λ (x : Questions W). JoinsParts w x (QuestionList on_no (with_answer w l false)) r) same joins')
  one_list Holds w q r list other = list ∙ sym other
  one_list (Fails why) w q r (inl none) (inl none') = none.1 ∙ sym none'.1
  one_list (Fails why) w q r (inl none) (inr some) = absurd (none.0 some.0)
  one_list (Fails why) w q r (inr some) (inl none) = absurd (none.0 some.0)
  one_list (Fails why) w q r (inr some) (inr some') = some.1 ∙ sym some'.1
