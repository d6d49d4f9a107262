-- A whole certificate, from its header to its last line.
use Rattle.std.proofs.Common.{◌≡◌, ℕ, true, IsTrue, List, [], ◌∷◌, ◌++◌, Option, Some, Result, Err, ◌⊎◌, inl, inr, refl}
use Rattle.std.proofs.Common.{sym, ap, subst, ◌∙◌}
use Rattle.fn_rules.specs.declared.function.Head.{Head}
use Rattle.fn_rules.specs.declared.function.Level.{Level}
use Rattle.fn_rules.specs.declared.function.Level.TheVariants.{Tp1, Tp2}
use Rattle.fn_rules.specs.Functions.{Function}
use Rattle.fn_rules.specs.Obligations.{obligations_of}
use Rattle.fn_rules.specs.Validity.{is_valid}
use Rattle.cert_text.specs.declared.item.Item.{Item}
use Rattle.cert_text.specs.declared.item.Part.{Part}
use Rattle.cert_text.specs.declared.item.Part.TheVariants as part
use Rattle.cert_text.specs.Places.{PartPlace, Start, part_text, place_after}
use Rattle.cert_text.specs.Reading.{ReaderState, Reading}
use Rattle.ot_outside.specs.declared.feed.Feed.{Ghosts}
use Rattle.ot_questions.specs.declared.why.Why.{Why}
use Rattle.ot_questions.specs.Obligation.{plan_of}
use Rattle.refusals.specs.declared.refusal.JudgeError.{JudgeError}
use Rattle.refusals.specs.declared.refusal.JudgeError.TheVariants as judge
use Rattle.ot_sections.specs.Feeding.{Fed, Has, MayGive, MayGiveOf, MayHave, Whole, Yields, fed}
use Rattle.ot_sections.specs.Parts.{FitThen, IsRefused, Point, point_behind}
use Rattle.ot_sections.specs.Sections.{IsLineWith}
use Rattle.ot_sections.specs.Stands.{Came, IsJudgedBehind, IsMisspeltBehind, reader_offset_of, reader_place_of}
use Rattle.ot_sections.specs.Stands.{point_of, stand}
use Rattle.ot_judge.specs.Refusals.{IsJudgement, IsWant, start_point_of}

line_of_level :
    (f : Function) (level : Level)
    → IsLineWith (obligations_of f.head level)
    (place_after (Start (obligations_of f.head Tp1) (obligations_of f.head Tp2)) (part.Header level))
line_of_level f Tp1 = refl
line_of_level f Tp2 = refl

-- a reader of certificates of the function, before the header
abbrev pub reader_of : Function → ReaderState
reader_of f = Reading (Start (obligations_of f.head Tp1) (obligations_of f.head Tp2)) 0 []

pub at_start :
    (f : Function) (head : Head) (r : ReaderState)
    → r ≡ Reading (Start (obligations_of head Tp1) (obligations_of head Tp2)) 0 []
    → head ≡ f.head → r ≡ reader_of f
at_start f head r is same = is
    ∙ ap (λ (h : Head). Reading (Start (obligations_of h Tp1) (obligations_of h Tp2)) 0 []) same

-- a part that is a header, by its level
pub came_header :
    {F : Type 0} (feeds : Ghosts F) (was now : Fed F) (item : Item) (level : Level) → item.part ≡ part.Header level
    → Came feeds was now item
    → Came feeds was now (record { offset = reader_offset_of was.reader; part = part.Header level })
came_header feeds was now item level is came =
    let make : Part → Item = λ p. record { offset = reader_offset_of was.reader; part = p } in
    let here : Came feeds was now (make item.part) = record {
      part = record { offset = refl; stands = came.part.stands; behind = came.part.behind };
      bytes = came.bytes;
    } in
    subst (λ (p : Part). Came feeds was now (make p)) is here

module _ {F : Type 0} (feeds : Ghosts F) (f : Function) (feed new : F) where
  -- some bytes that the feed might give have parts that fit from the start on, and stop so
  abbrev pub IsMade : Result (Unit {0}) JudgeError → (List Part → List Part) → Type 0
  IsMade end front =
      (all : Whole) → Has feeds new all
      → (bytes : List ℕ) × Yields feeds feed all bytes
      × ((parts : List Part) × FitThen (plan_of f) end (start_point_of f) bytes (front parts))

  -- an answer that is no certificate
  pub answered :
      (e : JudgeError) → (IsRefused e → IsMade (Err e) (λ parts. parts))
      → IsWant (Err e) ⊎ ((all : Whole) → Has feeds new all
      → (bytes : List ℕ) × Yields feeds feed all bytes × IsJudgement f bytes (Err e))
  answered (judge.Refused offset why) refused = inr (refused tt)
  answered judge.Failed refused = inl (inl refl)
  answered judge.NoMemory refused = inl (inr refl)

  pub header_refused :
      (e : JudgeError) → IsMisspeltBehind feeds (fed (reader_of f) feed) new e → IsRefused e
      → IsMade (Err e) (λ parts. parts)
  header_refused e misspelt refused all have = let ends = misspelt all have refused in
      (ends.0, ends.1, ([], inl ends.2))

  module _ (level : Level) (first : Fed F)
      (header : Came feeds (fed (reader_of f) feed) first (record { offset = 0; part = part.Header level })) where
    pub first_line : IsLineWith (obligations_of f.head level) (reader_place_of first.reader)
    first_line =
        subst (λ (p : PartPlace). IsLineWith (obligations_of f.head level) p)
        (sym (ap reader_place_of header.part.behind)) (line_of_level f level)

    -- what is judged behind the header is judged of it too
    pub behind_header :
        (end : Result (Unit {0}) JudgeError) → IsJudgedBehind feeds (plan_of f) (stand first []) new end
        → IsMade end (λ parts. part.Header level ∷ parts)
    behind_header end judged all have =
        let there = judged all have in
        let here : FitThen (plan_of f) end (point_behind (start_point_of f) (part.Header level) []) there.0 there.2.0 =
        subst (λ (p : Point Why). FitThen (plan_of f) end p there.0 there.2.0)
        (ap (λ (r : ReaderState). point_of (stand (fed r first.feed) [])) header.part.behind) there.2.1 in (
          part_text (reader_place_of (reader_of f)) (part.Header level) ++ there.0,
          header.bytes all there.0 there.1,
          (there.2.0, (header.part.stands, (there.0, [], refl, refl, here))),
        )

    pub refused_behind :
        (e : JudgeError) → (IsRefused e → IsJudgedBehind feeds (plan_of f) (stand first []) new (Err e)) → IsRefused e
        → IsMade (Err e) (λ parts. parts)
    refused_behind e judged refused all have =
        let made = behind_header (Err e) (judged refused) all have in
        (made.0, made.1, (part.Header level ∷ made.2.0, made.2.1))

-- some bytes that a feed may give have the judgement
module _ {F : Type 0} (left : F → Option (List ℕ)) (bound : F → ℕ) (gave hand : F → List ℕ) where
  pub judged_some :
      (f : Function) (old new : F) (answer : Result Level JudgeError)
      → (all : Whole) × (all.may ≡ true) × MayHave left bound gave hand new all
      → IsWant answer ⊎ ((all : Whole) → MayHave left bound gave hand new all
      → (bytes : List ℕ) × MayGiveOf left bound gave old all bytes × IsJudgement f bytes answer)
      → IsWant answer ⊎ ((bytes : List ℕ) × MayGive left bound old bytes × IsJudgement f bytes answer)
  unfolding MayGiveOf
  judged_some f old new answer some (inl want) = inl want
  judged_some f old new answer (all, may, have) (inr judged) =
      let there = judged all have in inr (there.0, there.1.0 may, there.2)

-- no other answer is the judgement of bytes that are told
module _ {F : Type 0} (left : F → Option (List ℕ)) (bound : F → ℕ) where
  pub no_other :
      ((f : Function) (bytes : List ℕ) (one other : Result Level JudgeError) → IsTrue (is_valid f)
      → IsJudgement f bytes one → IsJudgement f bytes other → one ≡ other)
      → (f : Function) (feed : F) (bytes : List ℕ) (one other : Result Level JudgeError)
      → IsTrue (is_valid f) → left feed ≡ Some bytes
      → IsWant one ⊎ ((some : List ℕ) × MayGive left bound feed some × IsJudgement f some one)
      → IsJudgement f bytes other → IsWant one ⊎ (one ≡ other)
  unfolding MayGive
  no_other law f feed bytes one other valid is (inl want) judged = inl want
  no_other law f feed bytes one other valid is (inr (some, may, here)) judged =
      inr (law f bytes one other valid (subst (λ (b : List ℕ). IsJudgement f b one) (may.0 bytes is) here) judged)
