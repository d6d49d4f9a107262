-- Where a valuation leads through what a form asks: as its truth says.
use Rattle.std.proofs.Common.{◌≡◌, ℕ, ℤ, if◌then◌else◌, refl, ap, ◌∙◌}
use Rattle.ask_core.specs.Plans.{Plan, end_of}
use Rattle.ot_questions.specs.declared.why.Why.{Why}
use Rattle.ot_questions.specs.Questions.{ask_le, ask_lt, ask_eq}
use Rattle.ot_questions.proofs.Tests.{if_and, if_or, if_not}
use Rattle.ot_questions.proofs.Values.{by_test, end-le, end-lt, end-eq}
use Rattle.ot_terms.specs.Forms.{FormTree, True, Le, Lt, Eq, And, Or, Not, form_holds}
use Rattle.ot_terms.specs.Standing.{ask_form}

-- a form goes on by its truth at the valuation
pub end_form :
    (t : FormTree) (p q : Plan Why) (v : ℕ → ℤ) → end_of (ask_form t p q) v ≡ by_test (form_holds v t) p q v
unfolding ask_form ask_le ask_lt ask_eq
end_form True p q v = refl
end_form (Le x y) p q v = end-le x y p q v
end_form (Lt x y) p q v = end-lt x y p q v
end_form (Eq x y) p q v = end-eq x y p q v
end_form (And g h) p q v =
    end_form g (ask_form h p q) q v
    ∙ (ap (λ e. if form_holds v g then e else end_of q v) (end_form h p q v)
    ∙ if_and (form_holds v g) (form_holds v h) (end_of p v) (end_of q v))
end_form (Or g h) p q v =
    end_form g p (ask_form h p q) v
    ∙ (ap (λ e. if form_holds v g then end_of p v else e) (end_form h p q v)
    ∙ if_or (form_holds v g) (form_holds v h) (end_of p v) (end_of q v))
end_form (Not g) p q v =
    end_form g q p v ∙ if_not (form_holds v g) (end_of q v) (end_of p v)
