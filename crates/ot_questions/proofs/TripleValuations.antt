-- Where the plan of a triple ends at a valuation.
use Rattle.std.proofs.Common.{◌≡◌, ℕ, ℤ, ◌&&◌, Option, Some, None, List, [], ◌∷◌, length, sym, ◌∙◌, ap, subst, inl, inr}
use Rattle.std.specs.Prelude.{◌↔◌}
use Rattle.std.proofs.lemmas.Bool.{and_parts}
use Rattle.ot_model.specs.declared.cell.Cell.{Cell}
use Rattle.ot_model.specs.declared.op.Kind.{Kind}
use Rattle.ot_model.specs.declared.op.Op.{Op}
use Rattle.fn_rules.specs.declared.function.ObName.TheVariants.{Triple}
use Rattle.fn_rules.specs.Functions.{Function, is_declared}
use Rattle.fn_rules.specs.Properties.{AreConcurrent, CommutesAt}
use Rattle.ask_core.specs.Plans.{end_of}
use Rattle.ot_questions.specs.declared.name.Who.TheVariants.{A, B, C}
use Rattle.ot_questions.specs.declared.why.Why.{Why}
use Rattle.ot_questions.specs.Places.{sym_op}
use Rattle.ot_questions.specs.Obligation.{plan_of}
use Rattle.ot_questions.specs.Instances.{NamesTriple, TripleFails}
use Rattle.ot_questions.proofs.Answered.{Answered}
use Rattle.ot_questions.proofs.Triples.{TripleSays, triple_fails_breaks, one_triple_cause}
use Rattle.ot_questions.proofs.TripleMeaning.{TriplePosed, triple_answered, triple_commutes, triple_none}
use Rattle.ot_questions.proofs.PairValuations.{declared_by_standing}

module _ (f : Function) (k l m : Kind) (v : ℕ → ℤ) (d : List Cell) (a b c : Op)
    (h : NamesTriple f k l m v (length d) a b c) where
  posed_from : AreConcurrent f d (a ∷ b ∷ c ∷ []) → TriplePosed f (length d) a b c
  posed_from given = record {
    a_enabled = given.1;
    b_enabled = given.3.1;
    c_enabled = given.3.3.1;
    a_and_b = given.2.0;
    a_and_c = given.2.1.0;
    b_and_c = given.3.2.0;
  }

  -- three operations for which the plan was asked are concurrent
  concurrent_from : TriplePosed f (length d) a b c → AreConcurrent f d (a ∷ b ∷ c ∷ [])
  concurrent_from posed =
      let two = and_parts (is_declared f.head k && is_declared f.head l) (is_declared f.head m) h.declared in
      let both = and_parts (is_declared f.head k) (is_declared f.head l) two.0 in (
        declared_by_standing f v k A a both.0 h.first,
        posed.a_enabled,
        (posed.a_and_b, (posed.a_and_c, tt)),
        (
          declared_by_standing f v l B b both.1 h.second,
          posed.b_enabled,
          (posed.b_and_c, tt),
          (declared_by_standing f v m C c two.1 h.third, posed.c_enabled, tt, tt),
        ),
      )

  answered : Answered (TriplePosed f (length d) a b c) (TripleSays f a b c) (end_of (plan_of f (Triple k l m)) v)
  unfolding plan_of
  answered = triple_answered f (sym_op k A) (sym_op l B) (sym_op m C) v (length d) a b c h.zero
      h.cells h.first h.second h.third

  pub triple_holds_where : (end_of (plan_of f (Triple k l m)) v ≡ None)
      ↔ (AreConcurrent f d (a ∷ b ∷ c ∷ []) → CommutesAt f a b c)
  triple_holds_where = (
    λ e given. triple_commutes f (length d) a b c (end_of (plan_of f (Triple k l m)) v) answered e (posed_from given),
    λ commutes. triple_none f (length d) a b c (end_of (plan_of f (Triple k l m)) v) answered
        (λ posed. commutes (concurrent_from posed)),
  )

  -- where TP2 fails by a cause, the plan ends in it
  ends_by :
      (why : Why) (end : Option Why) → TriplePosed f (length d) a b c → TripleFails f a b c why
      → Answered (TriplePosed f (length d) a b c) (TripleSays f a b c) end → end ≡ Some why
  ends_by why end posed fails (inr none) = absurd (none.0 posed)
  ends_by why None posed fails (inl said) = absurd (triple_fails_breaks f a b c why fails said.1)
  ends_by why (Some other) posed fails (inl said) = ap Some (one_triple_cause f a b c other why said.1 fails)

  pub triple_fails_where :
      (why : Why) → (end_of (plan_of f (Triple k l m)) v ≡ Some why)
      ↔ (AreConcurrent f d (a ∷ b ∷ c ∷ []) × TripleFails f a b c why)
  triple_fails_where why = (
    λ e. elim answered [
      | inl said ↦ (concurrent_from said.0, subst (λ end. TripleSays f a b c end) e said.1)
      | inr none ↦ (let wrong : None ≡ Some why = sym none.1 ∙ e in absurd (cc))
    ],
    λ given. ends_by why (end_of (plan_of f (Triple k l m)) v) (posed_from given.0) given.1 answered,
  )
