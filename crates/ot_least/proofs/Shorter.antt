-- A failing end on the documents of fewer cells than a bound is one of the obligation behind the first question, and
-- the least values that meet the answers there give fewer cells.
use Rattle.std.specs.Prelude.{◌||◌}
use Rattle.std.proofs.Common.{◌≡◌, ℕ, ◌<◌, ℤ, pos, ◌-ℤ◌, ◌+ℤ◌, ◌≤ℤ◌, nat_eq, IsTrue, List, [], ◌∷◌, Some, length, inl}
use Rattle.std.proofs.Common.{inr, refl, sym, subst, arith}
use Rattle.std.proofs.lemmas.Int.{ints}
use Rattle.diff_graph.specs.declared.lit.Lit.{Lit}
use Rattle.diff_graph.specs.Literals.{AreMet, IsPossible, Meets}
use Rattle.diff_tables.specs.Solutions.{AreLeast, valuation_of}
use Rattle.fn_rules.specs.declared.function.ObName.{ObName}
use Rattle.fn_rules.specs.declared.function.ObName.TheVariants.{Pair, Triple}
use Rattle.fn_rules.specs.declared.guard.Sort.TheVariants.{Pos}
use Rattle.fn_rules.specs.Functions.{Function}
use Rattle.ask_core.specs.Leading.{LeadTo}
use Rattle.ask_core.specs.Plans.{Plan, Ask, Holds}
use Rattle.ot_questions.specs.declared.name.Who.TheVariants.{A, B, C}
use Rattle.ot_questions.specs.declared.why.Why.{Why}
use Rattle.ot_questions.specs.Names.{length_name, zero_name}
use Rattle.ot_questions.specs.Obligation.{ask_all_enabled, ask_commute, ask_converge, ask_pair, ask_triple, plan_below}
use Rattle.ot_questions.specs.Obligation.{plan_of}
use Rattle.ot_questions.specs.Places.{sym_op}
use Rattle.ot_questions.specs.Questions.{ask_allowed, ask_le}
use Rattle.ot_questions.specs.Sorts.{AreLike, HasNoNegativePosition, sort_name, speaks_of}
use Rattle.ot_values.specs.Values.{floors_of}

-- answers behind the question whether the length is at least 0 are about the length
about_length :
    (why : Why) (next : Plan Why) (w : List Lit)
    → LeadTo why (Ask (record { x = zero_name; y = length_name; k = pos 0 }) next Holds) w
    → IsTrue (speaks_of w length_name)
about_length why next [] lead = absurd lead
about_length why next (m ∷ w) (inl (is, lead)) =
    subst (λ (l : Lit). IsTrue (nat_eq l.x length_name || nat_eq l.y length_name || speaks_of w length_name)) (sym is)
    refl
about_length why next (m ∷ w) (inr (is, lead)) = absurd lead

-- an obligation begins with it
speaks_of_length :
    (f : Function) (ob : ObName) (why : Why) (w : List Lit) → LeadTo why (plan_of f ob) w
    → IsTrue (speaks_of w length_name)
unfolding plan_of ask_pair ask_triple ask_le
speaks_of_length f (Pair k l) why w lead =
    let a = sym_op k A in
    let b = sym_op l B in
    about_length why (ask_all_enabled (a ∷ b ∷ []) (ask_allowed f.head a b (ask_converge f a b))) w lead
speaks_of_length f (Triple k l m) why w lead =
    let a = sym_op k A in
    let b = sym_op l B in
    let c = sym_op m C in
    about_length why
    (ask_all_enabled (a ∷ b ∷ c ∷ [])
    (ask_allowed f.head a b (ask_allowed f.head a c (ask_allowed f.head b c (ask_commute f a b c))))) w lead

pub has_length : (ob : ObName) → length_name < length (floors_of ob)
has_length (Pair k l) = omega arith
has_length (Triple k l m) = omega arith

-- behind the first question stand the answers of the obligation
pub leads_behind :
    (f : Function) (ob : ObName) (why : Why) (w : List Lit) (bound : ℕ) → LeadTo why (plan_below f (Some bound) ob) w
    → (l : Lit) × (rest : List Lit) × (w ≡ l ∷ rest) × LeadTo why (plan_of f ob) rest
leads_behind f ob why [] bound lead = absurd lead
leads_behind f ob why (l ∷ rest) bound (inl (is, lead)) = (l, rest, refl, lead)
leads_behind f ob why (l ∷ rest) bound (inr (is, lead)) = absurd lead

below_bound : (least length zero bound : ℤ) → least ≤ℤ length → length ≤ℤ (zero +ℤ bound)
    → zero ≡ pos 0 → least ≤ℤ bound
below_bound least length zero bound low met none = omega (arith, ints)

-- what is known of answers that lead to a failing end
module _ (why : Why) (f : Function) (ob : ObName)
    (like : (w : List Lit) → LeadTo why (plan_of f ob) w → AreLike w)
    (positions : (w : List Lit) (v : ℕ → ℤ) → LeadTo why (plan_of f ob) w → v zero_name ≡ pos 0 → AreMet v w
    → HasNoNegativePosition w v)
    (lowest : (w : List Lit) (values : List ℤ) (v : ℕ → ℤ) (x : ℕ) → AreLike w → AreLeast w (floors_of ob) values
    → v zero_name ≡ pos 0 → AreMet v w → HasNoNegativePosition w v → x < length (floors_of ob) → sort_name x ≡ Pos
    → IsTrue (speaks_of w x) → valuation_of values x ≤ℤ v x) where
  pub shorter :
      (l : Lit) (rest : List Lit) (bound : ℕ) (values : List ℤ) → LeadTo why (plan_below f (Some bound) ob) (l ∷ rest)
      → IsPossible (l ∷ rest) → AreLeast rest (floors_of ob) values
      → valuation_of values length_name ≤ℤ (pos bound -ℤ pos 1)
  shorter l rest bound values (inl (is, lead)) (v, zero, (meets, met)) least =
      let low = lowest rest values v length_name (like rest lead) least zero met (positions rest v lead zero met)
      (has_length ob) refl (speaks_of_length f ob why rest lead) in
      let first : Meets v (record { x = length_name; y = zero_name; k = pos bound -ℤ pos 1 }) =
      subst (λ (m : Lit). Meets v m) is meets in
      below_bound (valuation_of values length_name) (v length_name) (v zero_name) (pos bound -ℤ pos 1) low first zero
  shorter l rest bound values (inr (is, lead)) possible least = absurd lead
