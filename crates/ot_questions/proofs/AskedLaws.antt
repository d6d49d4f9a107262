-- What the plans ask, and the names that stand for operations.
use Rattle.std.proofs.Common.{◌≡◌, ℕ, ℤ, pos, negsuc, ◌-ℤ◌, ◌≤ℤ◌, true, List, [], ◌∷◌, refl, sym, subst, inl, inr}
use Rattle.std.proofs.Common.{arith}
use Rattle.std.specs.Prelude.{unsigned_abs}
use Rattle.std.proofs.lemmas.Int.{ints}
use Rattle.diff_graph.specs.declared.lit.Lit.{Lit}
use Rattle.diff_graph.specs.Literals.{AreMet, negated}
use Rattle.ot_model.specs.declared.op.Kind.{Kind}
use Rattle.ot_model.specs.declared.op.Kind.TheVariants as kinds
use Rattle.fn_rules.specs.declared.guard.Sort.{Sort}
use Rattle.fn_rules.specs.declared.guard.Sort.TheVariants.{Pos, Site, Char}
use Rattle.fn_rules.specs.declared.function.ObName.{ObName}
use Rattle.fn_rules.specs.Functions.{Function}
use Rattle.fn_rules.specs.Validity.{is_valid}
use Rattle.ask_core.specs.Plans.{Plan, Ask, Holds, Fails}
use Rattle.ask_core.specs.Leading.{LeadTo}
use Rattle.ot_questions.specs.declared.name.Who.{Who}
use Rattle.ot_questions.specs.declared.why.Why.{Why}
use Rattle.ot_questions.specs.Names.{site_name, char_name}
use Rattle.ot_questions.specs.Places.{sym_op}
use Rattle.ot_questions.specs.Meaning.{op_at}
use Rattle.ot_questions.specs.Instances.{StandsForOperation}
use Rattle.ot_questions.specs.Obligation.{plan_of}
use Rattle.ot_questions.specs.Sorts.{sort_name, IsStill, IsLike, AreLike, AsksLike, HasNoNegativePosition}
use Rattle.ot_questions.specs.Asked.{AllAsked}
use Rattle.ot_questions.proofs.Operations.{IsCounted}
use Rattle.ot_questions.proofs.Standing.{standing-op_at}
use Rattle.ot_questions.proofs.Found.{no_negative, known_first, known_at_first}
use Rattle.ot_questions.proofs.Laws.{plan_asked}

-- and compare like with like
pub like_questions : (count : ℕ) (p : Plan Why) → AllAsked count p → AsksLike p
like_questions count (Ask l on_yes on_no) h =
    (h.0.like, like_questions count on_yes h.1, like_questions count on_no h.2)
like_questions count Holds h = tt
like_questions count (Fails why) h = tt

pub plans_are_like : (f : Function) (ob : ObName) → is_valid f ≡ true → AsksLike (plan_of f ob)
plans_are_like f ob valid = let walked = plan_asked f ob valid in like_questions walked.0 (plan_of f ob) walked.1

-- the negation of what compares like with like does so
still_negated : (sort : Sort) (k : ℤ) → IsStill sort k → IsStill sort (negsuc 0 -ℤ k)
still_negated Pos k h = tt
still_negated Site k (inl e) = inr (omega (arith, ints))
still_negated Site k (inr e) = inl (omega (arith, ints))
still_negated Char k (inl e) = inr (omega (arith, ints))
still_negated Char k (inr e) = inl (omega (arith, ints))

like_negated : (l : Lit) → IsLike l → IsLike (negated l)
like_negated l h = record {
  sorts = sym h.sorts;
  still = still_negated (sort_name l.y) l.k (subst (λ sort. IsStill sort l.k) h.sorts h.still);
}

pub answers_are_like : (why : Why) (p : Plan Why) (w : List Lit) → AsksLike p → LeadTo why p w → AreLike w
answers_are_like why (Ask l p q) [] asks lead = absurd lead
answers_are_like why (Ask l p q) (m ∷ w) asks (inl (same, lead)) =
    (subst (λ n. IsLike n) (sym same) asks.0, answers_are_like why p w asks.1 lead)
answers_are_like why (Ask l p q) (m ∷ w) asks (inr (same, lead)) =
    (subst (λ n. IsLike n) (sym same) (like_negated l asks.0), answers_are_like why q w asks.2 lead)
answers_are_like why Holds w asks lead = absurd lead
answers_are_like why (Fails cause) [] asks lead = tt
answers_are_like why (Fails cause) (m ∷ w) asks lead = absurd lead

pub positions_not_negative :
    (f : Function) (ob : ObName) (why : Why) (w : List Lit) (v : ℕ → ℤ) → is_valid f ≡ true
    → LeadTo why (plan_of f ob) w
    → v 0 ≡ pos 0 → AreMet v w → HasNoNegativePosition w v
positions_not_negative f ob why w v valid lead z met x e spoken =
    no_negative v z why known_at_first (plan_of f ob) w (plan_asked f ob valid).2 lead met
    (known_first v z why) x spoken e

natural : (x : ℤ) → pos 0 ≤ℤ x → x ≡ pos (unsigned_abs x)
natural (pos n) h = refl
natural (negsuc n) h = absurd (omega (arith, ints))

counted : (v : ℕ → ℤ) (k : Kind) (who : Who) → pos 0 ≤ℤ v (site_name who) → pos 0 ≤ℤ v (char_name who)
    → IsCounted v (sym_op k who)
counted v kinds.Ins who site ch =
    record { site = natural (v (site_name who)) site; ch = natural (v (char_name who)) ch }
counted v kinds.Del who site ch = record { site = natural (v (site_name who)) site; ch = tt }
counted v kinds.Upd who site ch =
    record { site = natural (v (site_name who)) site; ch = natural (v (char_name who)) ch }

pub natural_names_stand :
    (v : ℕ → ℤ) (k : Kind) (who : Who) → v 0 ≡ pos 0 → pos 0 ≤ℤ v (site_name who) → pos 0 ≤ℤ v (char_name who)
    → StandsForOperation v (sym_op k who) (op_at v (sym_op k who))
natural_names_stand v k who z site ch = standing-op_at v (sym_op k who) z (counted v k who site ch)
