-- The questions of a function: there is one list of them, and it fails at one of the obligations.
use Rattle.std.proofs.Common.{◌≡◌, List, [], ◌∷◌, ◌++◌, map, Option, Some, None, refl, sym, ap, ◌∙◌, subst}
use Rattle.std.specs.Prelude.{MatchOption}
use Rattle.std.specs.List.{AllByRecursion, Contains}
use Rattle.std.proofs.lemmas.List.Elements.{All-contains, All-from_recursion}
use Rattle.diff_graph.specs.declared.lit.Lit.{Lit}
use Rattle.ot_model.specs.declared.op.Kind.{Kind}
use Rattle.fn_rules.specs.declared.function.Head.{Head}
use Rattle.fn_rules.specs.declared.function.Level.{Level}
use Rattle.fn_rules.specs.declared.function.Level.TheVariants.{Tp1, Tp2}
use Rattle.fn_rules.specs.declared.function.ObName.{ObName}
use Rattle.fn_rules.specs.declared.function.ObName.TheVariants.{Pair}
use Rattle.fn_rules.specs.Obligations.{level_of, declared_kinds, obligations_of, pairs_of}
use Rattle.ask_core.specs.Plans.{Plan}
use Rattle.ask_core.specs.Questions.{FailingEnd, Questions, QuestionList}
use Rattle.ot_decide.specs.Verdicts.{ObQuestions, FailingOb, AreAsked, failing_in}
use Rattle.ot_top.specs.Shown.{IsAskedAt}

-- each property is asked at level tp2, and of the obligations of level tp1 none asks TP2
at_tp2 : (level : Level) → IsAskedAt level Tp2
at_tp2 Tp1 = tt
at_tp2 Tp2 = tt

behind_pairs :
    (k : Kind) (kinds : List Kind) (others : List ObName) → AllByRecursion (λ ob. IsAskedAt (level_of ob) Tp1) others
    → AllByRecursion (λ ob. IsAskedAt (level_of ob) Tp1) (map (Pair k) kinds ++ others)
behind_pairs k [] others h = h
behind_pairs k (l ∷ kinds) others h = (tt, behind_pairs k kinds others h)

pairs_at_tp1 : (kinds : List Kind) → AllByRecursion (λ ob. IsAskedAt (level_of ob) Tp1) (pairs_of kinds)
pairs_at_tp1 [] = tt
pairs_at_tp1 (k ∷ others) = behind_pairs k (k ∷ others) (pairs_of others) (pairs_at_tp1 others)

-- an obligation of the level asks a property that is asked at the level
pub listed_at : (head : Head) (level : Level) (ob : ObName) → Contains (obligations_of head level) ob
    → IsAskedAt (level_of ob) level
listed_at head Tp1 ob listed =
    let Asked : ObName → Type 0 = λ o. IsAskedAt (level_of o) Tp1 in
    All-contains Asked (obligations_of head Tp1) ob
    (All-from_recursion Asked (obligations_of head Tp1) (pairs_at_tp1 (declared_kinds head))) listed
listed_at head Tp2 ob listed = at_tp2 (level_of ob)

module _ {W : Type 0} (plan : ObName → Plan W) where
  -- what an obligation with these questions adds to what the others give, up to the first that fails
  Behind : ObName → Questions W → (List (ObQuestions W) → Type 0) → List (ObQuestions W)
      → Option (FailingEnd W) → Type 0
  Behind ob q Later lists end =
      MatchOption end ((later : List (ObQuestions W)) × Later later
      × (lists ≡ record { ob = ob; questions = q } ∷ later))
      (λ _. lists ≡ record { ob = ob; questions = q } ∷ [])

  joined_once :
      (ob : ObName) (q : Questions W) (Later : List (ObQuestions W) → Type 0) (a b : List (ObQuestions W))
      (end : Option (FailingEnd W))
      → ((x y : List (ObQuestions W)) → Later x → Later y → x ≡ y) → Behind ob q Later a end
      → Behind ob q Later b end → a ≡ b
  unfolding Behind
  joined_once ob q Later a b None once (x, of_x, is_a) (y, of_y, is_b) =
      is_a ∙ ap (λ (l : List (ObQuestions W)). record { ob = ob; questions = q } ∷ l) (once x y of_x of_y) ∙ sym is_b
  joined_once ob q Later a b (Some e) once is_a is_b = is_a ∙ sym is_b

  -- there is one list of them
  pub asked_once :
      ((p : Plan W) (w : List Lit) (q r : Questions W) → QuestionList p w q → QuestionList p w r → q ≡ r)
      → (obs : List ObName) (a b : List (ObQuestions W)) → AreAsked plan obs a → AreAsked plan obs b → a ≡ b
  unfolding Behind
  asked_once one [] a b is_a is_b = is_a ∙ sym is_b
  asked_once one (ob ∷ obs) a b (q, of_q, q_behind) (r, of_r, r_behind) =
      let same : r ≡ q = one (plan ob) [] r q of_r of_q in
      joined_once ob q (AreAsked plan obs) a b q.failing (asked_once one obs) q_behind
      (subst (λ (s : Questions W). MatchOption s.failing ((later : List (ObQuestions W)) × AreAsked plan obs later
      × (b ≡ record { ob = ob; questions = s } ∷ later)) (λ _. b ≡ record { ob = ob; questions = s } ∷ [])) same
      r_behind)

  -- the obligation that fails is one of them
  fails_behind :
      (P : ObName → Type 0) (ob : ObName) (q : Questions W) (Later : List (ObQuestions W) → Type 0)
      (lists : List (ObQuestions W)) (x : FailingOb W) (end : Option (FailingEnd W)) → q.failing ≡ end → P ob
      → ((later : List (ObQuestions W)) → Later later → failing_in later ≡ Some x → P x.ob)
      → Behind ob q Later lists end → failing_in lists ≡ Some x → P x.ob
  unfolding Behind
  fails_behind P ob q Later lists x None is here behind (later, of_later, is_lists) fails =
      behind later of_later (rw (is_lists, is) at fails)
  fails_behind P ob q Later lists x (Some e) is here behind is_lists fails =
      let first : Some (record { ob = ob; end = e }) ≡ Some x = rw (is_lists, is) at fails in
      let same : ob ≡ x.ob = cc in
      subst P same here

  pub failing_one :
      (P : ObName → Type 0) (obs : List ObName) (lists : List (ObQuestions W)) (x : FailingOb W) → AllByRecursion P obs
      → AreAsked plan obs lists → failing_in lists ≡ Some x → P x.ob
  unfolding Behind
  failing_one P [] lists x all is fails = absurd (let none : None ≡ Some x = rw is at fails in cc)
  failing_one P (ob ∷ obs) lists x all (q, of_q, behind) fails =
      fails_behind P ob q (AreAsked plan obs) lists x q.failing refl all.0
      (λ later of_later at_later. failing_one P obs later x all.1 of_later at_later) behind fails

  -- TP2 is not asked at level tp1
  pub asked_at :
      (head : Head) (level : Level) (lists : List (ObQuestions W)) (x : FailingOb W)
      → AreAsked plan (obligations_of head level) lists
      → failing_in lists ≡ Some x → IsAskedAt (level_of x.ob) level
  asked_at head Tp1 lists x asked fails =
      failing_one (λ ob. IsAskedAt (level_of ob) Tp1) (obligations_of head Tp1) lists x
      (pairs_at_tp1 (declared_kinds head)) asked fails
  asked_at head Tp2 lists x asked fails = at_tp2 (level_of x.ob)
