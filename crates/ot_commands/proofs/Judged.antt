-- The reply to a certificate, from the judgement of a feed and what is left of its file.
use Rattle.std.proofs.Common.{◌≡◌, ℕ, ◌-◌, ◌≤◌, ◌<◌, zero, suc, Bool, true, false, List, [], ◌∷◌, take, drop, length}
use Rattle.std.proofs.Common.{length-drop, Option, Some, None, Result, Ok, Err, IfOk, IsTrue, ◌↔◌, ◌⊎◌, inl, inr, refl}
use Rattle.std.proofs.Common.{sym, ap, ◌∙◌, subst, arith}
use Rattle.std.specs.Prelude.{IfErr, option_map}
use Rattle.std.specs.Option.{ForSome, ForNone}
use Rattle.std.proofs.lemmas.List.{take_all}
use Rattle.std.specs.Io.KnownBytes.{IsAtEnd}
use Rattle.ot_outside.specs.declared.shelf.Shelf.{Ghosts}
use Rattle.ot_outside.specs.declared.shelf_feed.ShelfFeed.{ShelfFeed}
use Rattle.ot_outside.specs.ShelfFeed.{feed_left, file_left, room_of}
use Rattle.refusals.specs.declared.refusal.JudgeError.{JudgeError}
use Rattle.refusals.specs.declared.refusal.JudgeError.TheVariants as judge
use Rattle.refusals.specs.declared.refusal.Refusal.{Refusal}
use Rattle.refusals.specs.declared.refusal.Refusal.TheVariants as why
use Rattle.ot_sections.specs.Feeding.{IsTruncated, MayGive}
use Rattle.ot_bound.specs.Judgements.{IsNoJudgement}
use Rattle.ot_replies.specs.declared.reply.FileKind.TheVariants as files
use Rattle.ot_replies.specs.declared.reply.Reply.{Reply}
use Rattle.ot_replies.specs.declared.reply.Reply.TheVariants.{TooLong}
use Rattle.ot_commands.specs.Certificate.{IsReplyToCertificate, Tells, is_truncated, rests_on_the_end}
use Rattle.ot_replies.specs.Limits.{limit_of}

-- a told judgement is no want
pub not_want : {T : Type 0} (accepts : T → Reply) (judgement : Result T JudgeError) (r : Reply)
    → Tells accepts judgement r → IsNoJudgement judgement → ⊥
not_want accepts judgement r tells (inl failed) = subst (λ j. Tells accepts j r) failed tells
not_want accepts judgement r tells (inr wanting) = subst (λ j. Tells accepts j r) wanting tells

-- a judgement that rests on the end is no want
pub sure : {T : Type 0} (judgement : Result T JudgeError) → rests_on_the_end judgement ≡ true
    → IsNoJudgement judgement → ⊥
sure judgement rests (inl failed) = let clash : false ≡ true = sym (ap (λ j. rests_on_the_end j) failed) ∙ rests in cc
sure judgement rests (inr wanting) = let clash : false ≡ true = sym (ap (λ j. rests_on_the_end j) wanting) ∙ rests in cc

truncated : (cause : Refusal) → is_truncated cause ≡ true → cause ≡ why.Truncated
truncated why.Token is = cc
truncated why.Truncated is = refl
truncated why.Trailing is = cc
truncated why.NotAQuestion is = cc
truncated why.NotDone is = cc
truncated why.GoalFails is = cc
truncated why.BadPick is = cc
truncated why.NotACycle is = cc
truncated why.NotNegative is = cc

-- where a judgement rests on the end, the feed is at its end
pub at_its_end :
    {T : Type 0} (judgement : Result T JudgeError) (P : Type 0) → rests_on_the_end judgement ≡ true
    → IfOk judgement (λ level. P)
    → IfErr judgement (λ e. IsTruncated e → P) → P
at_its_end (Ok shown) P rests ok err = ok
at_its_end (Err (judge.Refused offset cause)) P rests ok err =
    err (offset, ap (λ w. judge.Refused offset w) (truncated cause rests))
at_its_end (Err judge.Failed) P rests ok err = cc
at_its_end (Err judge.NoMemory) P rests ok err = cc

pub nothing_taken : (n : ℕ) (bytes : List ℕ) → take (suc n) bytes ≡ [] → bytes ≡ []
nothing_taken n [] e = refl
nothing_taken n (b ∷ bytes) e = cc

-- of a feed that is at its end, with these bytes beyond its limit: whether its file goes on behind the limit
goes_on_behind :
    (room limit : ℕ) (left contents : List ℕ) (more : Bool) → take room left ≡ [] → drop room left ≡ drop limit contents
    → IsTrue more ↔ ((room ≡ 0) × (0 < length left)) → IsTrue more ↔ (limit < length contents)
goes_on_behind zero limit left contents more none same told =
    let count : length left ≡ length contents - limit = ap length same ∙ length-drop limit contents in
    (λ t. omega (arith, count, (told.0 t).1), λ longer. told.1 (refl, omega (arith, count, longer)))
goes_on_behind (suc n) limit left contents more none same told =
    let empty : left ≡ [] = nothing_taken n left none in
    let count : 0 ≡ length contents - limit =
    sym (ap (λ (l : List ℕ). length (drop (suc n) l)) empty) ∙ ap length same ∙ length-drop limit contents in (
      λ t. absurd (let one : suc n ≡ 0 = (told.0 t).0 in omega (arith, one)),
      λ longer. absurd (omega (arith, count, longer)),
    )

-- of a feed that is at its end, whether it is told or not: whether its file goes on behind the limit
pub goes_on :
    (room limit : ℕ) (left file : Option (List ℕ)) (more : Bool) → IsAtEnd (option_map (take room) left)
    → option_map (drop room) left ≡ option_map (drop limit) file
    → ForSome left (λ bytes. IsTrue more ↔ ((room ≡ 0) × (0 < length bytes)))
    → ForSome file (λ contents. IsTrue more ↔ (limit < length contents))
goes_on room limit None file more none same told =
    λ contents is.
    let clash : None ≡ Some (drop limit contents) = same
    ∙ ap (λ (o : Option (List ℕ)). option_map (drop limit) o) is in cc
goes_on room limit (Some bytes) file more none same told =
    λ contents is.
    let both : Some (drop room bytes) ≡ Some (drop limit contents) = same
    ∙ ap (λ (o : Option (List ℕ)). option_map (drop limit) o) is in
    let behind : drop room bytes ≡ drop limit contents = cc in
    goes_on_behind room limit bytes contents more none behind (told bytes refl)

-- contents of a file: those that are told, where they are, and otherwise no more than the limit
abbrev pub MayHold : Option (List ℕ) → ℕ → List ℕ → Type 0
MayHold told room contents = ForSome told (λ known. contents ≡ known) × ForNone told (length contents ≤ room)

-- what a feed may give is the front of what its file may hold
held_of :
    (told : Option (List ℕ)) (room : ℕ) (bytes : List ℕ)
    → ForSome (option_map (take room) told) (λ known. bytes ≡ known)
    → ForNone (option_map (take room) told) (length bytes ≤ room)
    → (contents : List ℕ) × MayHold told room contents × (take room contents ≡ bytes)
held_of None room bytes are within =
    (bytes, (λ known is. absurd (cc), λ none. within refl), take_all room bytes (within refl))
held_of (Some known) room bytes are within =
    (known, (λ other is. let same : known ≡ other = cc in same, λ none. absurd (cc)), sym (are (take room known) refl))

-- contents that are not told to go on behind the limit are within it
within_limit :
    (told : Option (List ℕ)) (room : ℕ) (contents : List ℕ) → MayHold told room contents
    → ForSome told (λ known. ¬ (room < length known)) → length contents ≤ room
within_limit None room contents may shorter = may.1 refl
within_limit (Some known) room contents may shorter =
    let not_longer = shorter known refl in omega (arith, not_longer, ap length (may.0 known refl))

module _ {S : Type 0} {shelf : Ghosts S} {T : Type 0} (Judges : List ℕ → Result T JudgeError
    → Type 0) (accepts : T → Reply)
    (feed : ShelfFeed S shelf) (judgement : Result T JudgeError)
    (whole : room_of feed ≡ limit_of files.Certificate)
    (judged : IsNoJudgement judgement
    ⊎ ((bytes : List ℕ) × MayGive feed_left room_of feed bytes × Judges bytes judgement)) where
  -- the judgement is that of the bytes within the limit
  judged_within :
      (IsNoJudgement judgement → ⊥)
      → (contents : List ℕ) × MayHold (file_left feed) (room_of feed) contents
      × Judges (take (limit_of files.Certificate) contents) judgement
  unfolding MayGive
  judged_within no_want =
      elim judged [
        | inl want ↦ absurd (no_want want)
        | inr h ↦
            let contents = held_of (file_left feed) (room_of feed) h.0 h.1.0 h.1.1 in (
              contents.0,
              contents.1,
              subst (λ (n : ℕ). Judges (take n contents.0) judgement) whole
                  (subst (λ (bytes : List ℕ). Judges bytes judgement) (sym contents.2) h.2),
            )
      ]

  -- the file goes on
  pub too_long_reply :
      rests_on_the_end judgement ≡ true → (more : Bool) → more ≡ true
      → ForSome (file_left feed) (λ contents. IsTrue more ↔ (room_of feed < length contents))
      → IsReplyToCertificate Judges accepts (file_left feed) (TooLong files.Certificate)
  too_long_reply rests more follows goes =
      let here = judged_within (sure judgement rests) in (
        here.0,
        here.1.0,
        (
          judgement,
          here.2,
          inl (
            rests,
            (λ contents is. subst (λ (n : ℕ). n < length contents) whole ((goes contents is).0 follows), refl),
          ),
        ),
      )

  -- the judgement does not rest on the end, or the file does not go on
  told_reply :
      (r : Reply) → Tells accepts judgement r
      → (rests_on_the_end judgement ≡ true → (more : Bool) × (more ≡ false)
      × ForSome (file_left feed) (λ contents. IsTrue more ↔ (room_of feed < length contents)))
      → IsReplyToCertificate Judges accepts (file_left feed) r
  told_reply r tells ends =
      let here = judged_within (not_want accepts judgement r tells) in (
        here.0,
        here.1.0,
        (
          judgement,
          here.2,
          inr (
            λ rests.
                let end = ends rests in
                subst (λ (n : ℕ). length here.0 ≤ n) whole
                (within_limit (file_left feed) (room_of feed) here.0 here.1
                (λ known is longer.
                let follows : end.0 ≡ true = (end.2 known is).1 longer in
                let ends_there : end.0 ≡ false = end.1 in cc)),
            tells,
          ),
        ),
      )

  pub told_replies :
      {E : Type 0} (answer : Result Reply E) → IfOk answer (λ r. Tells accepts judgement r)
      → (rests_on_the_end judgement ≡ true → (more : Bool) × (more ≡ false)
      × ForSome (file_left feed) (λ contents. IsTrue more ↔ (room_of feed < length contents)))
      → IfOk answer (λ r. IsReplyToCertificate Judges accepts (file_left feed) r)
  told_replies (Ok r) tells ends = told_reply r tells ends
  told_replies (Err e) tells ends = tt
