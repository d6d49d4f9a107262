-- What a turn of the search comes to: too many questions, a low certificate, or a failing end from which it goes on.
use Rattle.std.specs.List.{AllByRecursion}
use Rattle.std.specs.declared.alloc.Global.{Global}
use Rattle.std.proofs.Common.{◌≡◌, ℕ, ℤ, pos, ◌+◌, ◌<◌, ◌≤◌, true, IsTrue, List, [], ◌∷◌, ◌++◌, length, drop, Some, Vec}
use Rattle.std.proofs.Common.{inl, inr, refl, sym, ap, subst, ◌∙◌, arith, length-append}
use Rattle.std.specs.Fmt.{decimal}
use Rattle.std.proofs.lemmas.Fmt.{length-decimal-le}
use Rattle.diff_graph.specs.declared.lit.Lit.{Lit}
use Rattle.ot_model.specs.declared.op.Kind.{Kind}
use Rattle.ot_model.specs.declared.op.Op.{Op}
use Rattle.fn_rules.specs.declared.function.Level.{Level}
use Rattle.fn_rules.specs.declared.function.Level.TheVariants.{Tp1, Tp2}
use Rattle.fn_rules.specs.declared.function.ObName.{ObName}
use Rattle.fn_rules.specs.declared.function.ObName.TheVariants.{Pair, Triple}
use Rattle.fn_rules.specs.Functions.{Function}
use Rattle.fn_rules.specs.Obligations.{level_of, is_obligation, obligations_of}
use Rattle.fn_rules.specs.Properties.{AreConcurrent, HasTp1}
use Rattle.ask_core.specs.Leading.{LeadTo}
use Rattle.ask_core.specs.Plans.{Plan, value}
use Rattle.ask_core.specs.Questions.{FailingEnd}
use Rattle.ask_core.specs.Trees.{AnswerTree, Fits}
use Rattle.cert_text.specs.Certificates.{sections_text}
use Rattle.cert_text.specs.Spelling.{end_text}
use Rattle.ot_prove.specs.declared.outcome.Answer.{Answer}
use Rattle.ot_prove.specs.Outcomes.{answered_by}
use Rattle.ot_prove.proofs.Leads.{literals_lead}
use Rattle.ot_questions.specs.declared.why.Why.{Why}
use Rattle.ot_questions.specs.Meaning.{AllHold}
use Rattle.ot_questions.specs.Obligation.{plan_below, plan_of}
use Rattle.ot_sections.specs.declared.premise.TheConstants.{MAX_BOUND}
use Rattle.ot_sections.specs.Certificates.{AreAnswers}
use Rattle.ot_decide.specs.declared.verdict.SearchVerdict.TheVariants as search
use Rattle.ot_decide.specs.Verdicts.{AreAsked, FailingOb, ObQuestions, failing_in}
use Rattle.ot_least.specs.declared.ending.Ending.{Ending}
use Rattle.ot_least.specs.declared.short.Short.{Short}
use Rattle.ot_least.specs.declared.short.Short.TheVariants as short
use Rattle.ot_least.specs.Endings.{IsEndedBy, IsEnding, IsTurn, failing_end_of}
use Rattle.ot_bound.specs.Lows.{HasAt, IsLow, low_header_text, parts_of}
use Rattle.ot_least.proofs.Listed.{end_is_listed}
use Rattle.ot_least.specs.Shortest.{EndHasCells, Falls, HasCells, IsBroken, IsBrokenAt, IsLeast, IsShortWithin}
use Rattle.ot_least.specs.Shortest.{IsTrueOf, behind_first, end_by}

-- a property that fails at an instance is broken
pub broken_at :
    (f : Function) (level : Level) (cells : ℕ) → (level ≡ Tp2 → HasTp1 f) → IsBrokenAt f level cells → IsBroken f level
broken_at f Tp1 cells first at =
    let (a, b, are, both, fails) = at.breaks in
    λ has. fails (has at.doc a b (subst (λ (ops : List Op). AreConcurrent f at.doc ops) are both))
broken_at f Tp2 cells first at =
    let (a, b, c, are, all, fails) = at.breaks in
    (first refl, λ has. fails (has at.doc a b c (subst (λ (ops : List Op). AreConcurrent f at.doc ops) are all)))

-- a first line is short
pub header_few : (level : Level) (bound : ℕ) → bound ≤ MAX_BOUND → length (low_header_text level bound) ≤ 17
header_few Tp1 bound few =
    omega (
      arith,
      length-decimal-le 4 bound (omega arith) (omega arith) (omega arith),
      length-append (decimal bound) (10 ∷ []),
    )
header_few Tp2 bound few =
    omega (
      arith,
      length-decimal-le 4 bound (omega arith) (omega arith) (omega arith),
      length-append (decimal bound) (10 ∷ []),
    )

answers_behind : (answers : List Answer) → answered_by (drop 1 answers) ≡ drop 1 (answered_by answers)
answers_behind [] = refl
answers_behind (a ∷ rest) = refl

end_is :
    (ob other : ObName) (answers others : List Answer) (why cause : Why) → other ≡ ob
    → others ≡ drop 1 answers → cause ≡ why
    → end_by other others cause ≡ behind_first (end_by ob answers why)
end_is ob other answers others why cause same is are =
    ap (λ (o : ObName). end_by o others cause) same ∙ ap (λ (l : List Answer). end_by ob l cause) is
    ∙ ap (λ (w : Why). end_by ob (drop 1 answers) w) are
    ∙ ap (λ (l : List Lit). record { ob = ob; end = record { answers = l; why = why } }) (answers_behind answers)

module _ (f : Function) (budget : ℕ) (e : Ending) (bytes : List ℕ) where
  abbrev plan : ObName → Plan Why
  plan = plan_below f (Some e.cells)

  abbrev parts : List ObName
  parts = parts_of f.head (level_of e.ob)

  abbrev pub FallsTo : Short → Type 0
  FallsTo answer = (turns : List (List (ObQuestions Why))) × Falls f budget (failing_end_of e) e.cells turns answer

  pub falls_spent : IsTurn f budget e bytes search.Spent → FallsTo short.Spent
  falls_spent (lists, asked, more) = (lists ∷ [], (asked, inl (more, refl)))

  -- all hold: the certificate is whole
  module _ (count : ℕ) (turn : IsTurn f budget e bytes (search.AllHold count)) (answer : Short)
      (ended : IsEndedBy e bytes answer) where
    text : ended.0.items ≡ low_header_text (level_of e.ob) e.cells ++ sections_text parts turn.2.trees ++ end_text
    text = ended.1 ∙ ap (λ (x : List ℕ). x ++ end_text) turn.2.written

    -- the search ends: the end has a least counterexample
    pub falls_least : FallsTo answer
    falls_least =
        subst (λ (s : Short). FallsTo s) (sym ended.2) (
          turn.0 ∷ [],
          (
            turn.1,
            inr
                (inl (
                  turn.2.within,
                  turn.2.none_fails,
                  (refl, refl, record { trees = turn.2.trees; fit = turn.2.fit; ask = turn.2.ask; text = text }),
                )),
          ),
        )

    pub is_low : e.cells ≤ MAX_BOUND → IsLow ended.0.items f (level_of e.ob) e.cells
    is_low bounded = (bounded, (turn.2.trees, turn.2.fit, text))

    few_bytes : e.cells ≤ MAX_BOUND → length parts ≤ 24 → budget ≤ 1000000 → length ended.0.items ≤ 83886080
    few_bytes bounded few limit =
        let header = header_few (level_of e.ob) e.cells bounded in
        let lines : length bytes ≡ length (low_header_text (level_of e.ob) e.cells)
        + length (sections_text parts turn.2.trees) =
        ap length turn.2.written
        ∙ length-append (low_header_text (level_of e.ob) e.cells) (sections_text parts turn.2.trees) in
        let whole : length ended.0.items ≡ length bytes + length end_text = ap length ended.1
        ∙ length-append bytes end_text in
        omega (arith, turn.2.few_bytes, turn.2.within)

    pub short_within : e.cells ≤ MAX_BOUND → length parts ≤ 24 → budget ≤ 1000000 → IsShortWithin 83886080 answer
    short_within bounded few limit =
        subst (λ (s : Short). IsShortWithin 83886080 s) (sym ended.2) (few_bytes bounded few limit)

  -- one fails: the search goes on from there
  module _ (ob : ObName) (answers : Vec Answer Global) (why : Why)
      (turn : IsTurn f budget e bytes (search.Fails ob answers why)) where
    pub same_level : AllByRecursion (λ o. level_of o ≡ level_of e.ob) parts → level_of ob ≡ level_of e.ob
    same_level all =
        (end_is_listed (λ o. level_of o ≡ level_of e.ob) plan (end_by ob answers.items why) parts turn.0 all
        turn.1 turn.2.1.first).here

    -- the search goes on from the shorter end that fails
    pub falls_on :
        (next : Ending) (answer : Short) → IsEnding f next → next.ob ≡ ob
        → next.answers.items ≡ drop 1 answers.items → next.why ≡ why
        → (turns : List (List (ObQuestions Why)))
        × Falls f budget (failing_end_of next) next.cells turns answer → FallsTo answer
    falls_on next answer ending same is because (turns, falls) =
        let there : failing_end_of next ≡ behind_first (end_by ob answers.items why) =
        end_is ob next.ob answers.items next.answers.items why next.why same is because in (
          turn.0 ∷ turns,
          (
            turn.1,
            inr
                (inr (
                  turn.2.0,
                  (
                    end_by ob answers.items why,
                    next.cells,
                    turn.2.1.first,
                    (
                      subst (λ (x : FailingOb Why). EndHasCells x next.cells) there ending.length,
                      subst (λ (x : FailingOb Why). Falls f budget x next.cells turns answer) there falls,
                    ),
                  ),
                )),
          ),
        )

-- a failing end with a low certificate of as many cells is a least one
module _ (f : Function)
    (breaks : (ob : ObName) (why : Why) (w : List Lit) (cells : ℕ) → IsTrue (is_obligation f.head ob)
    → LeadTo why (plan_of f ob) w
    → HasCells ob w cells → IsBrokenAt f (level_of ob) cells) where
  pub breaks_at : (e : Ending) → IsEnding f e → IsBrokenAt f (level_of e.ob) e.cells
  breaks_at e ending =
      breaks e.ob e.why (answered_by e.answers.items) e.cells ending.listed
      (literals_lead e.why (plan_of f e.ob) e.answers.items ending.way) ending.length

  is_least :
      ((bytes : List ℕ) (level : Level) (bound n : ℕ) → IsLow bytes f level bound → n < bound → HasAt f level n)
      → (e : Ending) (cert : List ℕ) → IsEnding f e → IsBroken f (level_of e.ob) → IsLow cert f (level_of e.ob) e.cells
      → IsLeast f e.ob e.answers.items e.why e.cells cert
  is_least shows e cert ending broken low = record {
    broken = broken;
    breaks = breaks_at e ending;
    holds_below = λ n few. shows cert (level_of e.ob) e.cells n low few;
    low = low;
    listed = ending.listed;
    way = ending.way;
    possible = ending.possible;
    length = ending.length;
  }

  -- so the answer that is ended by the certificate is true
  pub is_true :
      ((bytes : List ℕ) (level : Level) (bound n : ℕ) → IsLow bytes f level bound → n < bound → HasAt f level n)
      → (e : Ending) (bytes : List ℕ) (answer : Short) (ended : IsEndedBy e bytes answer) → IsEnding f e
      → IsBroken f (level_of e.ob)
      → IsLow ended.0.items f (level_of e.ob) e.cells → IsTrueOf f answer
  is_true shows e bytes answer ended ending broken low =
      subst (λ (s : Short). IsTrueOf f s) (sym ended.2) (is_least shows e ended.0.items ending broken low)

-- where each tree fits its plan, each plan holds
pub answers_hold :
    ((t : AnswerTree) (p : Plan Why) (v : ℕ → ℤ) → Fits t p [] → v 0 ≡ pos 0 → value p v ≡ true)
    → (f : Function) (obs : List ObName) (trees : List AnswerTree) → AreAnswers (plan_of f) obs trees → AllHold f obs
answers_hold law f [] trees answers = tt
answers_hold law f (ob ∷ obs) [] answers = absurd answers
answers_hold law f (ob ∷ obs) (t ∷ trees) answers =
    (λ v zero. law t (plan_of f ob) v answers.0 zero, answers_hold law f obs trees answers.2)

-- where the first failing end is one of the second property, the first holds
pub first_holds :
    (f : Function) (lists : List (ObQuestions Why)) (ob : ObName) (end : FailingEnd Why)
    → ((k l m : Kind) → AreAsked (plan_of f) (obligations_of f.head Tp2) lists
    → failing_in lists ≡ Some (record { ob = Triple k l m; end = end }) → HasTp1 f)
    → AreAsked (plan_of f) (obligations_of f.head Tp2) lists → failing_in lists ≡ Some (record { ob = ob; end = end })
    → level_of ob ≡ Tp2 → HasTp1 f
first_holds f lists (Pair k l) end law asked first second = absurd (let not : Tp1 ≡ Tp2 = second in cc)
first_holds f lists (Triple k l m) end law asked first second = law k l m asked first
