-- The answers that lead to a place.
use Rattle.std.proofs.Common.{◌≡◌, ◌≢◌, ◌⊎◌, ℕ, zero, suc, ◌+◌, ◌<◌, ◌≤◌, Bool, if◌then◌else◌, drop-cons, add-one, true}
use Rattle.std.proofs.Common.{false, nat_eq, List, [], ◌∷◌, ◌++◌, length, take, drop, get_or, IsTrue, arith, refl, sym}
use Rattle.std.proofs.Common.{ap, ◌∙◌, subst, inl, inr}
use Rattle.std.proofs.lemmas.Bool.Decides.{nat_tests}
use Rattle.std.proofs.lemmas.List.{map-append, take_more}
use Rattle.diff_graph.specs.declared.lit.Lit.{Lit}
use Rattle.diff_graph.specs.Literals.{answered_of}
use Rattle.ask_core.specs.Plans.{Plan, Ask, Holds, Fails, after_answer}
use Rattle.ask_core.specs.Askers.{IsFine, has_fine_literals}
use Rattle.ask_core.specs.Trees.{with_answer}
use Rattle.ot_prove.specs.declared.outcome.Answer.{Answer}
use Rattle.ot_prove.specs.Outcomes.{answered_by, Asks, AreAnswersTo}
use Rattle.ot_prove.specs.Searching.{LeadsTo}
use Rattle.ot_prove.proofs.Literals.{fine_question}

module _ {W : Type 0} where
  -- one more answer
  pub LeadsTo-yes :
      (p : Plan W) (w : List Lit) (l : Lit) (on_yes on_no : Plan W) → LeadsTo p w (Ask l on_yes on_no)
      → LeadsTo p (with_answer w l true) on_yes
  LeadsTo-yes p [] l on_yes on_no leads =
      subst (λ (x : Plan W). LeadsTo x (answered_of l true ∷ []) on_yes) (sym leads) (inl (refl, refl))
  LeadsTo-yes (Ask k y n) (m ∷ w) l on_yes on_no leads =
      elim leads [
        | inl yes_said ↦ inl (yes_said.0, LeadsTo-yes y w l on_yes on_no yes_said.1)
        | inr no_said ↦ inr (no_said.0, LeadsTo-yes n w l on_yes on_no no_said.1)
      ]
  LeadsTo-yes Holds (m ∷ w) l on_yes on_no leads = absurd leads
  LeadsTo-yes (Fails why) (m ∷ w) l on_yes on_no leads = absurd leads

  -- one more answer, which is no
  pub LeadsTo-no :
      (p : Plan W) (w : List Lit) (l : Lit) (on_yes on_no : Plan W) → LeadsTo p w (Ask l on_yes on_no)
      → LeadsTo p (with_answer w l false) on_no
  LeadsTo-no p [] l on_yes on_no leads =
      subst (λ (x : Plan W). LeadsTo x (answered_of l false ∷ []) on_no) (sym leads) (inr (refl, refl))
  LeadsTo-no (Ask k y n) (m ∷ w) l on_yes on_no leads =
      elim leads [
        | inl yes_said ↦ inl (yes_said.0, LeadsTo-no y w l on_yes on_no yes_said.1)
        | inr no_said ↦ inr (no_said.0, LeadsTo-no n w l on_yes on_no no_said.1)
      ]
  LeadsTo-no Holds (m ∷ w) l on_yes on_no leads = absurd leads
  LeadsTo-no (Fails why) (m ∷ w) l on_yes on_no leads = absurd leads

  pub AreAnswersTo-push :
      (p : Plan W) (answers : List Answer) (a : Answer) (end : Plan W) → AreAnswersTo p answers end → Asks end a.lit
      → AreAnswersTo p (answers ++ a ∷ []) (after_answer end a.yes)
  AreAnswersTo-push p [] a end way asks =
      (subst (λ (x : Plan W). Asks x a.lit) (sym way) asks, ap (λ (x : Plan W). after_answer x a.yes) way)
  AreAnswersTo-push p (b ∷ answers) a end way asks =
      (way.0, AreAnswersTo-push (after_answer p b.yes) answers a end way.1 asks)

nat_eq-same : (m n : ℕ) → m ≡ n → nat_eq m n ≡ true
nat_eq-same m n same = grind (arith, nat_tests)

nat_eq-apart : (m n : ℕ) → m ≢ n → nat_eq m n ≡ false
nat_eq-apart m n apart = grind (arith, nat_tests)

module _ {N W : Type 0} (plan : N → Plan W) (n on_yes on_no : N) (l : Lit)
    (asks : plan n ≡ Ask l (plan on_yes) (plan on_no)) where
  -- the answer that a literal on the way stands for, and where it leads
  abbrev pub GoesOn : Lit → List Lit → Plan W → Bool → Type 0
  GoesOn m w end said = (answered_of l said ≡ m) × LeadsTo (plan (if said then on_yes else on_no)) w end

  -- whether a way goes on with yes or no is told by the first name of its next literal
  goes_on :
      (count : ℕ) (m : Lit) (w : List Lit) (end : Plan W) (said : Bool)
      → IsFine count (plan n) → said ≡ nat_eq m.x l.x → LeadsTo (plan n) (m ∷ w) end → GoesOn m w end said
  goes_on count m w end said fine test leads =
      let whole = subst (λ (x : Plan W). IsTrue (has_fine_literals count x)) asks fine.literals in
      let differs = (fine_question count l (plan on_yes) (plan on_no) whole).0.differ in
      elim (subst (λ (x : Plan W). LeadsTo x (m ∷ w) end) asks leads) [
        | inl yes_said ↦
            (let is : said ≡ true = test ∙ nat_eq-same m.x l.x (ap (λ (x : Lit). x.x) yes_said.0) in
            subst (λ (b : Bool). GoesOn m w end b) (sym is) (sym yes_said.0, yes_said.1))
        | inr no_said ↦
            (let other : m.x ≢ l.x = λ same. differs (sym same ∙ ap (λ (x : Lit). x.x) no_said.0) in
            let is : said ≡ false = test ∙ nat_eq-apart m.x l.x other in
            subst (λ (b : Bool). GoesOn m w end b) (sym is) (sym no_said.0, no_said.1))
      ]

  -- one more answer leads to the side that it is for
  pub way_on :
      (p : Plan W) (answers : List Answer) (said : Bool) → AreAnswersTo p answers (plan n)
      → AreAnswersTo p (answers ++ record { lit = l; yes = said } ∷ []) (plan (if said then on_yes else on_no))
  way_on p answers true way =
      AreAnswersTo-push p answers (record { lit = l; yes = true }) (Ask l (plan on_yes) (plan on_no))
      (subst (λ (x : Plan W). AreAnswersTo p answers x) asks way) refl
  way_on p answers false way =
      AreAnswersTo-push p answers (record { lit = l; yes = false }) (Ask l (plan on_yes) (plan on_no))
      (subst (λ (x : Plan W). AreAnswersTo p answers x) asks way) refl

  module _ (count : ℕ) (w : List Lit) (at : ℕ) (d : Lit) (said : Bool) (inside : at < length w)
      (fine : IsFine count (plan n))
      (test : said ≡ nat_eq (get_or w at d).x l.x) where
    goes_on_at : (end : Plan W) → LeadsTo (plan n) (drop at w) end → GoesOn (get_or w at d) (drop (at + 1) w) end said
    goes_on_at end leads =
        let shown : drop at w ≡ get_or w at d ∷ drop (at + 1) w =
        drop-cons w at d inside ∙ ap (λ (i : ℕ). get_or w at d ∷ drop i w) (sym (add-one at)) in
        goes_on count (get_or w at d) (drop (at + 1) w) end said fine test
        (subst (λ (x : List Lit). LeadsTo (plan n) x end) shown leads)

    pub left_on :
        (end : Plan W) → LeadsTo (plan n) (drop at w) end
        → LeadsTo (plan (if said then on_yes else on_no)) (drop (at + 1) w) end
    left_on end leads = (goes_on_at end leads).1

    pub said_on :
        (answers : List Answer) (end : Plan W) → LeadsTo (plan n) (drop at w) end → answered_by answers ≡ take at w
        → answered_by (answers ++ record { lit = l; yes = said } ∷ []) ≡ take (at + 1) w
    said_on answers end leads before =
        map-append (λ (a : Answer). answered_of a.lit a.yes) answers (record { lit = l; yes = said } ∷ [])
        ∙ ap (λ (x : List Lit). x ++ answered_of l said ∷ []) before
        ∙ ap (λ (x : Lit). take at w ++ x ∷ []) (goes_on_at end leads).0
        ∙ sym (take_more w at d inside)

-- what holds of both sides holds of the one that is taken
pub side_has : {N : Type 0} (P : N → Type 0) (said : Bool) (on_yes on_no : N) → P on_yes → P on_no
    → P (if said then on_yes else on_no)
side_has P true on_yes on_no yes_has no_has = yes_has
side_has P false on_yes on_no yes_has no_has = no_has

-- a way goes on only where the plan asks
pub ended_way :
    {W : Type 0} (p : Plan W) (w : List Lit) (at : ℕ) (end : Plan W) → LeadsTo p (drop at w) end
    → (p ≡ Holds) ⊎ ((why : W) × (p ≡ Fails why)) → length w ≤ at
ended_way p [] at end leads ended = omega arith
ended_way p (m ∷ w) zero end leads ended =
    elim ended [
      | inl holds ↦ absurd (subst (λ (x : Plan _). LeadsTo x (m ∷ w) end) holds leads)
      | inr fails ↦ absurd (subst (λ (x : Plan _). LeadsTo x (m ∷ w) end) fails.1 leads)
    ]
ended_way p (m ∷ w) (suc at) end leads ended =
    let rest : length w ≤ at = ended_way p w at end leads ended in omega arith

-- at the end of the way
pub whole_way :
    {W : Type 0} (p : Plan W) (w : List Lit) (at : ℕ) (end : Plan W) → length w ≤ at
    → LeadsTo p (drop at w) end → p ≡ end
whole_way p w at end past leads = subst (λ (x : List Lit). LeadsTo p x end) (drop_past w at past) leads
  where
    drop_past : (w : List Lit) (at : ℕ) → length w ≤ at → drop at w ≡ []
    drop_past [] zero past = refl
    drop_past [] (suc at) past = refl
    drop_past (m ∷ w) zero past = absurd (omega arith)
    drop_past (m ∷ w) (suc at) past = drop_past w at (omega arith)
