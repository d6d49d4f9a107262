-- The header of a level.
use Rattle.std.specs.Prelude.{filter, ◌&&◌}
use Rattle.std.specs.List.{list_any}
use Rattle.std.proofs.Common.{◌≡◌, ℕ, ◌+◌, ◌<◌, Bool, true, false, IsTrue, List, [], ◌∷◌, ◌++◌, length, Ok, arith, refl}
use Rattle.std.proofs.Common.{sym, ap, ◌∙◌, length-append, append_assoc}
use Rattle.fn_rules.specs.declared.function.Level.{Level}
use Rattle.fn_rules.specs.declared.function.Level.TheVariants.{Tp1, Tp2}
use Rattle.ot_model.specs.declared.op.Kind.{Kind}
use Rattle.ot_model.specs.declared.op.TheConstants.{KINDS}
use Rattle.fn_rules.specs.Functions.{Function, is_declared}
use Rattle.fn_rules.specs.declared.function.ObName.{ObName}
use Rattle.fn_rules.specs.Obligations.{declared_kinds, pairs_of, triples_of, obligations_of}
use Rattle.fn_rules.specs.Validity.{is_valid}
use Rattle.ask_core.specs.Plans.{Plan}
use Rattle.ask_core.specs.Trees.{AnswerTree, Branch}
use Rattle.cert_text.specs.Spelling.{header_text, end_text}
use Rattle.cert_text.specs.Places.{Line}
use Rattle.ot_questions.specs.declared.why.Why.{Why}
use Rattle.ot_questions.specs.Obligation.{plan_of}
use Rattle.ot_sections.specs.Certificates.{AreAnswers, IsCertificate}
use Rattle.cert_text.specs.Certificates.{certificate_text, sections_text}
use Rattle.ot_sections.specs.Parts.{IsJudged}
use Rattle.ot_judge.specs.Refusals.{IsWholeCertificate}

-- where some member passes a test, some are left of the list by it
first_left :
    {A : Type 0} (p : A → Bool) (x : A) (xs : List A) (here : Bool) → (list_any p xs ≡ true → 0 < length (filter p xs))
    → p x ≡ here → list_any p (x ∷ xs) ≡ true → 0 < length (filter p (x ∷ xs))
first_left p x xs true later is any = rw is (omega arith)
first_left p x xs false later is any = let behind : list_any p xs ≡ true = rw is at any in rw is (later behind)

some_left : {A : Type 0} (p : A → Bool) (xs : List A) → list_any p xs ≡ true → 0 < length (filter p xs)
some_left p [] any = absurd (cc)
some_left p (x ∷ xs) any = first_left p x xs (p x) (some_left p xs) refl any

some_pairs : (kinds : List Kind) → 0 < length kinds → 0 < length (pairs_of kinds)
some_pairs [] some = absurd (omega arith)
some_pairs (k ∷ others) some = omega arith

left_true : (a b : Bool) → IsTrue (a && b) → a ≡ true
left_true true b both = refl
left_true false b both = absurd (cc)

-- a function that is for some kind has obligations at each level
some_obligations : (f : Function) (level : Level) → IsTrue (is_valid f) → 0 < length (obligations_of f.head level)
some_obligations f Tp1 valid =
    some_pairs (declared_kinds f.head) (some_left (is_declared f.head) KINDS (left_true _ _ valid))
some_obligations f Tp2 valid =
    let some = some_pairs (declared_kinds f.head) (some_left (is_declared f.head) KINDS (left_true _ _ valid)) in
    omega (arith, some, length-append (pairs_of (declared_kinds f.head)) (triples_of (declared_kinds f.head)))

-- what the sections of a level are made of, and back
abbrev pub AreParts : Type 0
AreParts =
    (plan : ObName → Plan Why) (obs : List ObName) (trees : List AnswerTree) (came offset : ℕ)
    → AreAnswers plan obs trees
    → IsJudged plan (Ok tt) (record { place = Line came obs; offset = offset; branches = [] })
    (sections_text obs trees ++ end_text)

abbrev pub AreSections : Type 0
AreSections =
    (plan : ObName → Plan Why) (obs : List ObName) (came offset : ℕ) (branches : List (Branch Why)) (bytes : List ℕ)
    → IsJudged plan (Ok tt) (record { place = Line came obs; offset = offset; branches = branches }) bytes
    → (trees : List AnswerTree) × AreAnswers plan obs trees × (bytes ≡ sections_text obs trees ++ end_text)

behind_header :
    (names : List ObName) (level : Level) (trees : List AnswerTree) (bytes : List ℕ)
    → bytes ≡ certificate_text names level trees
    → bytes ≡ header_text names level ++ (sections_text names trees ++ end_text)
behind_header names level trees bytes is = is
    ∙ append_assoc (header_text names level) (sections_text names trees) end_text

module _ (f : Function) where
  -- a certificate of a valid function is judged whole
  pub certificate_is_whole :
      AreParts → (level : Level) (bytes : List ℕ) → IsTrue (is_valid f) → IsCertificate bytes f level
      → IsWholeCertificate f level bytes
  certificate_is_whole are_parts Tp1 bytes valid (trees, answers, is) =
      let judged = are_parts (plan_of f) (obligations_of f.head Tp1) trees 0
      (0 + length (header_text (obligations_of f.head Tp1) Tp1)) answers in (
        judged.0,
        (
          some_obligations f Tp1 valid,
          (
            sections_text (obligations_of f.head Tp1) trees ++ end_text,
            [],
            behind_header (obligations_of f.head Tp1) Tp1 trees bytes is,
            refl,
            judged.1,
          ),
        ),
      )
  certificate_is_whole are_parts Tp2 bytes valid (trees, answers, is) =
      let judged = are_parts (plan_of f) (obligations_of f.head Tp2) trees 0
      (0 + length (header_text (obligations_of f.head Tp2) Tp2)) answers in (
        judged.0,
        (
          some_obligations f Tp2 valid,
          (
            sections_text (obligations_of f.head Tp2) trees ++ end_text,
            [],
            behind_header (obligations_of f.head Tp2) Tp2 trees bytes is,
            refl,
            judged.1,
          ),
        ),
      )

  -- bytes that are judged whole are a certificate with answers
  whole_shows :
      AreSections
      → (names : List ObName) (level : Level) (bytes rest : List ℕ) (branches : List (Branch Why)) (offset : ℕ)
      → bytes ≡ header_text names level ++ rest
      → IsJudged (plan_of f) (Ok tt) (record { place = Line 0 names; offset = offset; branches = branches }) rest
      → (trees : List AnswerTree) × AreAnswers (plan_of f) names trees × (bytes ≡ certificate_text names level trees)
  whole_shows are_sections names level bytes rest branches offset is judged =
      let shown = are_sections (plan_of f) names 0 offset branches rest judged in (
        shown.0,
        shown.1,
        is ∙ ap (λ (l : List ℕ). header_text names level ++ l) shown.2
            ∙ sym (append_assoc (header_text names level) (sections_text names shown.0) end_text),
      )

  pub whole_is_certificate : AreSections → (level : Level) (bytes : List ℕ) → IsWholeCertificate f level bytes
      → IsCertificate bytes f level
  whole_is_certificate are_sections Tp1 bytes (parts, fits) =
      whole_shows are_sections (obligations_of f.head Tp1) Tp1 bytes fits.1.0 fits.1.1 _ fits.1.2 (parts, fits.1.4)
  whole_is_certificate are_sections Tp2 bytes (parts, fits) =
      whole_shows are_sections (obligations_of f.head Tp2) Tp2 bytes fits.1.0 fits.1.1 _ fits.1.2 (parts, fits.1.4)
