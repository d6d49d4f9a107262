-- The question lists of obligations: there is exactly one list of them.
use Rattle.std.specs.Option.{option_or}
use Rattle.std.proofs.Common.{◌≡◌, ◌≤◌, List, [], ◌∷◌, length, Option, Some, None, MatchOption, option_map, arith, refl}
use Rattle.std.proofs.Common.{sym, ap, subst, ◌∙◌}
use Rattle.diff_graph.specs.declared.lit.Lit.{Lit}
use Rattle.fn_rules.specs.declared.function.ObName.{ObName}
use Rattle.ask_core.specs.Plans.{Plan}
use Rattle.ask_core.specs.Questions.{Questions, QuestionList, FailingEnd}
use Rattle.ot_decide.specs.Verdicts.{ObQuestions, FailingOb, AreAsked, count_in}

abbrev pub asked_of : {W : Type 0} → ObName → Questions W → ObQuestions W
asked_of ob q = record { ob = ob; questions = q }

-- the failing end of an obligation, or else of the later ones
abbrev pub first_failing : {W : Type 0} → ObName → Option (FailingEnd W) → Option (FailingOb W) → Option (FailingOb W)
first_failing ob failing later = option_or (option_map (λ e. record { ob = ob; end = e }) failing) later

module _ {W : Type 0} (plan : ObName → Plan W) where
  -- an obligation's question list, and then those of the later ones unless it has a failing end
  abbrev pub Joins : ObName → List ObName → Questions W → Option (FailingEnd W) → List (ObQuestions W) → Type 0
  Joins ob obs q failing lists =
      MatchOption failing
      ((later : List (ObQuestions W)) × AreAsked plan obs later × (lists ≡ asked_of ob q ∷ later))
      (λ _. lists ≡ asked_of ob q ∷ [])

  -- all of an obligation's questions are asked first
  abbrev pub BeginsWith : ObName → List ObName → Questions W → Type 0
  BeginsWith ob obs q =
      (lists : List (ObQuestions W)) × AreAsked plan (ob ∷ obs) lists × (length q.asked ≤ count_in lists)

  begins_at :
      (ob : ObName) (obs : List ObName) (q : Questions W) (failing : Option (FailingEnd W))
      (later : List (ObQuestions W))
      → AreAsked plan obs later
      → (lists : List (ObQuestions W)) × Joins ob obs q failing lists × (length q.asked ≤ count_in lists)
  begins_at ob obs q None later asked = (asked_of ob q ∷ later, (later, asked, refl), omega arith)
  begins_at ob obs q (Some end) later asked = (asked_of ob q ∷ [], refl, omega arith)

  pub begins_with :
      (ob : ObName) (obs : List ObName) (q : Questions W) → QuestionList (plan ob) [] q
      → (lists : List (ObQuestions W)) × AreAsked plan obs lists → BeginsWith ob obs q
  begins_with ob obs q listed (later, asked) =
      let first = begins_at ob obs q q.failing later asked in
      (first.0, (q, listed, first.1), first.2)

  -- there is a list where each plan has a question list
  pub some_lists :
      ((ob : ObName) → (q : Questions W) × QuestionList (plan ob) [] q) → (obs : List ObName)
      → (lists : List (ObQuestions W)) × AreAsked plan obs lists
  some_lists some [] = ([], refl)
  some_lists some (ob ∷ obs) =
      let q = some ob in
      let first = begins_with ob obs q.0 q.1 (some_lists some obs) in
      (first.0, first.1)

  same_joined :
      (ob : ObName) (obs : List ObName) (q : Questions W) (failing : Option (FailingEnd W))
      (lists others : List (ObQuestions W))
      → ((one other : List (ObQuestions W)) → AreAsked plan obs one → AreAsked plan obs other → one ≡ other)
      → Joins ob obs q failing lists → Joins ob obs q failing others → lists ≡ others
  same_joined ob obs q None lists others one (later, asked, is) (later', asked', is') =
      is ∙ ap (λ (l : List (ObQuestions W)). asked_of ob q ∷ l) (one later later' asked asked') ∙ sym is'
  same_joined ob obs q (Some end) lists others one is is' = is ∙ sym is'

  -- there is no other where each plan has no other
  pub one_lists :
      ((p : Plan W) (w : List Lit) (q r : Questions W) → QuestionList p w q → QuestionList p w r → q ≡ r)
      → (obs : List ObName) (lists others : List (ObQuestions W)) → AreAsked plan obs lists → AreAsked plan obs others
      → lists ≡ others
  one_lists one [] lists others is is' = is ∙ sym is'
  one_lists one (ob ∷ obs) lists others (q, listed, joins) (r, listed', joins') =
      let same : r ≡ q = one (plan ob) [] r q listed' listed in
      same_joined ob obs q q.failing lists others (one_lists one obs) joins
      (subst (λ (x : Questions W). Joins ob obs x x.failing others) same joins')
