-- The failing end of lists that were asked is that of one of the obligations.
use Rattle.std.specs.List.{AllByRecursion}
use Rattle.std.specs.Option.{option_or}
use Rattle.std.proofs.Common.{◌≡◌, List, [], ◌∷◌, Option, Some, None, MatchOption, option_map, refl, subst}
use Rattle.fn_rules.specs.declared.function.ObName.{ObName}
use Rattle.ask_core.specs.Plans.{Plan}
use Rattle.ask_core.specs.Questions.{FailingEnd, QuestionList, Questions}
use Rattle.ot_questions.specs.declared.why.Why.{Why}
use Rattle.ot_decide.specs.Verdicts.{AreAsked, FailingOb, ObQuestions, failing_in}

-- the end is that of the question list of its obligation, of which something holds
pub record IsListed (P : ObName → Type 0) (plan : ObName → Plan Why) (x : FailingOb Why) : Type 0 where
  pub here : P x.ob
  pub questions : Questions Why
  pub list : QuestionList (plan x.ob) [] questions
  pub fails : questions.failing ≡ Some x.end

module _ (P : ObName → Type 0) (plan : ObName → Plan Why) (x : FailingOb Why) where
  abbrev IsEnd : Option (FailingOb Why) → Type 0
  IsEnd o = o ≡ Some x

  abbrev first_of : ObName → Option (FailingEnd Why) → Option (FailingOb Why) → Option (FailingOb Why)
  first_of ob failing later = option_or (option_map (λ e. record { ob = ob; end = e }) failing) later

  listed_here :
      (ob : ObName) (e : FailingEnd Why) (q : Questions Why) → P ob → QuestionList (plan ob) [] q → q.failing ≡ Some e
      → record { ob = ob; end = e } ≡ x → IsListed P plan x
  listed_here ob e q holds list fails is =
      subst (λ (y : FailingOb Why). IsListed P plan y) is
      (record { here = holds; questions = q; list = list; fails = fails })

  -- the failing end is of this obligation, or else of one of the later ones
  here_or_later :
      (ob : ObName) (obs : List ObName) (q : Questions Why) (failing : Option (FailingEnd Why))
      (lists : List (ObQuestions Why))
      → P ob → QuestionList (plan ob) [] q
      → ((later : List (ObQuestions Why)) → AreAsked plan obs later → IsEnd (failing_in later) → IsListed P plan x)
      → q.failing ≡ failing
      → MatchOption failing
      ((later : List (ObQuestions Why)) × AreAsked plan obs later × (lists ≡ record { ob = ob; questions = q } ∷ later))
      (λ _. lists ≡ record { ob = ob; questions = q } ∷ [])
      → IsEnd (failing_in lists) → IsListed P plan x
  here_or_later ob obs q None lists holds list later fails (others, asked, is) end =
      later others asked
      (subst (λ (o : Option (FailingEnd Why)). IsEnd (first_of ob o (failing_in others))) fails
      (subst (λ (l : List (ObQuestions Why)). IsEnd (failing_in l)) is end))
  here_or_later ob obs q (Some e) lists holds list later fails is end =
      let first : Some (record { ob = ob; end = e }) ≡ Some x =
      subst (λ (o : Option (FailingEnd Why)). IsEnd (first_of ob o None)) fails
      (subst (λ (l : List (ObQuestions Why)). IsEnd (failing_in l)) is end) in
      let same : record { ob = ob; end = e } ≡ x = cc in
      listed_here ob e q holds list fails same

  pub end_is_listed :
      (obs : List ObName) (lists : List (ObQuestions Why)) → AllByRecursion P obs → AreAsked plan obs lists
      → IsEnd (failing_in lists) → IsListed P plan x
  end_is_listed [] lists all asked end =
      let none : None ≡ Some x = subst (λ (l : List (ObQuestions Why)). IsEnd (failing_in l)) asked end in absurd (cc)
  end_is_listed (ob ∷ obs) lists all (q, list, joins) end =
      here_or_later ob obs q q.failing lists all.0 list
      (λ later asked. end_is_listed obs later all.1 asked) refl joins end
