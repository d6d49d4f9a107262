-- What the search of obligations comes to, by the search of the first and of those behind it, over any family of plans.
use Rattle.std.specs.Prelude.{IsTrue}
use Rattle.std.specs.declared.alloc.Global.{Global}
use Rattle.std.proofs.Common.{◌≡◌, ℕ, ◌+◌, ◌-◌, ◌*◌, ◌≤◌, List, [], ◌∷◌, ◌++◌, length, Option, None, MatchOption, Vec}
use Rattle.std.proofs.Common.{arith, refl, sym, ap, subst, ◌∙◌, append_assoc}
use Rattle.std.proofs.lemmas.List.{append-nil}
use Rattle.std.proofs.Math.ListN.{length-append}
use Rattle.diff_graph.specs.Literals.{IsPossible}
use Rattle.fn_rules.specs.declared.function.Head.{Head}
use Rattle.fn_rules.specs.declared.function.Level.{Level}
use Rattle.fn_rules.specs.declared.function.ObName.{ObName}
use Rattle.fn_rules.specs.Functions.{Function}
use Rattle.fn_rules.specs.Obligations.{is_obligation, obligations_of}
use Rattle.ask_core.specs.declared.asker.TheConstants.{MAX_QUESTIONS}
use Rattle.ask_core.specs.declared.tree.Tok.{Tok}
use Rattle.ask_core.specs.Askers.{longest_path}
use Rattle.ask_core.specs.Plans.{Plan}
use Rattle.ask_core.specs.Trees.{AnswerTree, Fits, tokens_of}
use Rattle.ask_core.specs.Questions.{FailingEnd}
use Rattle.cert_text.specs.Certificates.{certificate_text, sections_text}
use Rattle.cert_text.specs.Spelling.{AreSpellable, end_text, header_text, ob_text, tokens_text}
use Rattle.cert_text.specs.TreeTexts.{Written}
use Rattle.cert_text.specs.Writing.{section_text}
use Rattle.ot_prove.specs.declared.outcome.Answer.{Answer}
use Rattle.ot_prove.specs.declared.outcome.Outcome.TheVariants as outcome
use Rattle.ot_prove.specs.Outcomes.{IsDecided, asked_along}
use Rattle.ot_questions.specs.declared.why.Why.{Why}
use Rattle.ot_questions.specs.Obligation.{plan_of}
use Rattle.ot_sections.specs.Certificates.{AreAnswers}
use Rattle.ot_decide.specs.declared.verdict.SearchVerdict.{SearchVerdict}
use Rattle.ot_decide.specs.declared.verdict.SearchVerdict.TheVariants as search
use Rattle.ot_decide.specs.declared.verdict.Verdict.TheVariants as verdict
use Rattle.ot_decide.specs.Verdicts.{ObQuestions, AreAsked, IsDecidedAs, failing_in}
use Rattle.ot_decide.specs.Proving.{AreProved, Settles, AreSettled}
use Rattle.ot_decide.proofs.Lines.{header_text_few, ob_text_few, obligations_few}
use Rattle.ot_decide.proofs.Lists.{Joins, asked_of, begins_with, first_failing}
use Rattle.ot_decide.proofs.Spelled.{tree_text_few, whole_spelled}

module _ (head : Head) (plan : ObName → Plan Why) where
  -- a searched obligation's tree can be spelled
  pub searched_spellable :
      (ob : ObName) (budget asked : ℕ) (tree : Written) → longest_path (plan ob) ≤ MAX_QUESTIONS
      → IsDecided (plan ob) budget (outcome.Yes tree asked) → AreSpellable tree.tokens
  searched_spellable ob budget asked tree short searched =
      let proof = searched.decided.3 in
      subst (λ (x : List Tok). AreSpellable x) (sym proof.spelled) (whole_spelled proof.tree (plan ob) short proof.fits)

  -- where no obligations are left, all of them hold
  pub none_left : (budget : ℕ) (before : List ℕ) → AreSettled head plan [] budget before before (search.AllHold budget)
  none_left budget before = (
    [],
    refl,
    record {
      counted = omega arith;
      within = omega arith;
      none_fails = refl;
      trees = [];
      fit = tt;
      ask = tt;
      written = sym (append-nil before);
      few_bytes = omega arith;
    },
  )

  -- a section adds at most 74 bytes for each question, and 89 more
  section_few :
      (ob : ObName) (t : AnswerTree) (asked : ℕ) (more : List ℕ) → Fits t (plan ob) [] → AreSpellable (tokens_of t)
      → asked ≡ length (asked_along t (plan ob) [])
      → length (section_text ob (tokens_of t) ++ more) ≤ 74 * asked + 89 + length more
  section_few ob t asked more fits spellable are =
      let line = ob_text_few ob in
      let tree = tree_text_few t (plan ob) [] fits spellable in
      let inner : length (ob_text ob ++ tokens_text (tokens_of t))
      ≡ length (ob_text ob) + length (tokens_text (tokens_of t)) =
      length-append (ob_text ob) (tokens_text (tokens_of t)) in
      let ended : length (section_text ob (tokens_of t)) ≡ length (ob_text ob ++ tokens_text (tokens_of t)) + 1 =
      length-append (ob_text ob ++ tokens_text (tokens_of t)) (10 ∷ []) in
      let whole : length (section_text ob (tokens_of t) ++ more)
      ≡ length (section_text ob (tokens_of t)) + length more =
      length-append (section_text ob (tokens_of t)) more in
      omega arith

  module _ (ob : ObName) (obs : List ObName) (budget asked : ℕ) (tree : Written)
      (short : longest_path (plan ob) ≤ MAX_QUESTIONS)
      (searched : IsDecided (plan ob) budget (outcome.Yes tree asked)) where
    abbrev behind : List (ObQuestions Why) → List (ObQuestions Why)
    behind later = asked_of ob searched.questions ∷ later

    behind_asked :
        (later : List (ObQuestions Why)) → AreAsked plan obs later → AreAsked plan (ob ∷ obs) (behind later)
    behind_asked later asked_later = (
      searched.questions,
      searched.listed,
      subst (λ (o : Option (FailingEnd Why)). Joins plan ob obs searched.questions o (behind later))
          (sym searched.decided.1) (later, asked_later, refl),
    )

    behind_failing : (later : List (ObQuestions Why)) → failing_in (behind later) ≡ failing_in later
    behind_failing later =
        ap (λ (o : Option (FailingEnd Why)). first_failing ob o (failing_in later)) searched.decided.1

    -- where those behind the obligation are proved, so are all, with its tree in front
    behind_proved :
        (later : List (ObQuestions Why)) (left : ℕ) (before middle after : List ℕ)
        → middle ≡ before ++ section_text ob tree.tokens
        → AreProved plan obs (budget - asked) later left middle after
        → AreProved plan (ob ∷ obs) budget (behind later) left before after
    behind_proved later left before middle after wrote proved =
        let proof = searched.decided.3 in
        let spellable = whole_spelled proof.tree (plan ob) short proof.fits in
        let more = sections_text obs proved.trees in
        let text = section_text ob (tokens_of proof.tree) in
        let first : middle ≡ before ++ text =
        wrote ∙ ap (λ (x : List Tok). before ++ section_text ob x) proof.spelled in
        let few =
        section_few ob proof.tree (length searched.questions.asked) more proof.fits spellable
        (ap length proof.questions) in
        record {
          counted = omega (arith, proved.counted, searched.decided.0, searched.decided.2);
          within = omega (arith, proved.within, searched.decided.0, searched.decided.2);
          none_fails = behind_failing later ∙ proved.none_fails;
          trees = proof.tree ∷ proved.trees;
          fit = (proof.fits, spellable, proved.fit);
          ask = (proof.questions, proved.ask);
          written = proved.written ∙ ap (λ (x : List ℕ). x ++ more) first ∙ append_assoc before text more;
          few_bytes = omega (arith, proved.few_bytes, few);
        }

    -- each outcome of the search of those behind it is one of all
    behind_settles :
        (later : List (ObQuestions Why)) (before middle after : List ℕ) (s : SearchVerdict)
        → middle ≡ before ++ section_text ob tree.tokens
        → Settles head plan obs (budget - asked) later middle after s
        → Settles head plan (ob ∷ obs) budget (behind later) before after s
    behind_settles later before middle after (search.AllHold left) wrote settles =
        behind_proved later left before middle after wrote settles
    behind_settles later before middle after (search.Fails other answers why) wrote settles = (
      omega (arith, settles.0, searched.decided.0, searched.decided.2),
      record {
        first = behind_failing later ∙ settles.1.first;
        listed = settles.1.listed;
        way = settles.1.way;
        possible = settles.1.possible;
      },
    )
    behind_settles later before middle after search.Spent wrote settles =
        omega (arith, settles, searched.decided.0, searched.decided.2)

    -- an obligation that holds, its tree written, and those behind it by what is left of the budget
    pub settled_behind :
        (before middle after : List ℕ) (s : SearchVerdict) → middle ≡ before ++ section_text ob tree.tokens
        → AreSettled head plan obs (budget - asked) middle after s
        → AreSettled head plan (ob ∷ obs) budget before after s
    settled_behind before middle after s wrote (later, asked_later, settles) =
        (behind later, behind_asked later asked_later, behind_settles later before middle after s wrote settles)

  -- an obligation that fails somewhere is the last that is searched
  pub settled_refuted :
      (ob : ObName) (obs : List ObName) (budget : ℕ) (answers : Vec Answer Global) (why : Why) (before after : List ℕ)
      → IsTrue (is_obligation head ob) → IsDecided (plan ob) budget (outcome.No answers why)
      → AreSettled head plan (ob ∷ obs) budget before after (search.Fails ob answers why)
  settled_refuted ob obs budget answers why before after listed searched =
      let q = searched.questions in
      let lists = asked_of ob q ∷ [] in (
        lists,
        (
          q,
          searched.listed,
          subst (λ (o : Option (FailingEnd Why)). Joins plan ob obs q o lists) (sym searched.decided.1) refl,
        ),
        (
          omega (arith, searched.decided.0),
          record {
            first = ap (λ (o : Option (FailingEnd Why)). first_failing ob o None) searched.decided.1;
            listed = listed;
            way = searched.decided.2;
            possible =
                subst (λ (o : Option (FailingEnd Why)). MatchOption o (Unit {0}) (λ e. IsPossible e.answers))
                searched.decided.1 searched.possible.1;
          },
        ),
      )

  -- where one has more questions than are left, so have all
  pub settled_spent :
      (ob : ObName) (obs : List ObName) (budget : ℕ) (before after : List ℕ)
      → (lists : List (ObQuestions Why)) × AreAsked plan obs lists → IsDecided (plan ob) budget outcome.Spent
      → AreSettled head plan (ob ∷ obs) budget before after search.Spent
  settled_spent ob obs budget before after later searched =
      let begins = begins_with plan ob obs searched.questions searched.listed later in
      (begins.0, begins.1, omega (arith, begins.2, searched.decided))

-- Where the obligations are those of a level, and the plans those of all documents, this is the verdict of the level.
module _ (f : Function) (level : Level) (budget : ℕ) (obs : List ObName) (are : obs ≡ obligations_of f.head level)
    (before after : List ℕ) where
  pub decided_no :
      (ob : ObName) (answers : Vec Answer Global) (why : Why)
      → AreSettled f.head (plan_of f) obs budget before after (search.Fails ob answers why)
      → IsDecidedAs f level budget (verdict.No ob answers why)
  decided_no ob answers why (lists, asked, decided) =
      (lists, subst (λ (n : List ObName). AreAsked (plan_of f) n lists) are asked, decided)

  pub decided_spent :
      AreSettled f.head (plan_of f) obs budget before after search.Spent → IsDecidedAs f level budget verdict.Spent
  decided_spent (lists, asked, decided) =
      (lists, subst (λ (n : List ObName). AreAsked (plan_of f) n lists) are asked, decided)

  module _ (bytes : Vec ℕ Global) (left : ℕ) (begun : before ≡ header_text obs level)
      (ended : bytes.items ≡ after ++ end_text)
      (settled : AreSettled f.head (plan_of f) obs budget before after (search.AllHold left)) where
    -- where all of them hold, the bytes are a certificate of the level, and the verdict is yes
    pub decided_yes : IsDecidedAs f level budget (verdict.Yes bytes (budget - left))
    decided_yes =
        let lists = settled.0 in
        let proved = settled.2 in
        let text : bytes.items ≡ certificate_text obs level proved.trees =
        ended ∙ ap (λ (x : List ℕ). x ++ end_text) (proved.written
        ∙ ap (λ (x : List ℕ). x ++ sections_text obs proved.trees) begun) in (
          lists,
          subst (λ (n : List ObName). AreAsked (plan_of f) n lists) are settled.1,
          (
            proved.within,
            proved.none_fails,
            record {
              counted = omega (arith, proved.counted);
              trees = proved.trees;
              fit = subst (λ (n : List ObName). AreAnswers (plan_of f) n proved.trees) are proved.fit;
              ask = proved.ask;
              text = subst (λ (n : List ObName). bytes.items ≡ certificate_text n level proved.trees) are text;
            },
          ),
        )

    -- 1,000,000 questions, 24 obligations, and the first and the last line
    pub few_yes : budget ≤ 1000000 → length bytes.items ≤ 83886080
    few_yes limit =
        let proved = settled.2 in
        let header : length before ≤ 13 = subst (λ (x : List ℕ). length x ≤ 13) (sym begun)
        (header_text_few obs level) in
        let obligations : length obs ≤ 24 =
        subst (λ (n : List ObName). length n ≤ 24) (sym are) (obligations_few f.head level) in
        let lines : length after ≡ length before + length (sections_text obs proved.trees) =
        ap length proved.written ∙ length-append before (sections_text obs proved.trees) in
        let whole : length bytes.items ≡ length after + length end_text = ap length ended
        ∙ length-append after end_text in
        omega (arith, proved.few_bytes, proved.within)
