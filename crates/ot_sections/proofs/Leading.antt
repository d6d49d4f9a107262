-- How what is judged behind a part is judged of it and what is behind it.
use Rattle.std.proofs.Common.{◌≡◌, ℕ, List, [], ◌++◌, length, Result, Ok, Err, IfErr, OnOk, inl, inr, refl, sym, ap}
use Rattle.std.proofs.Common.{subst, ◌∙◌}
use Rattle.fn_rules.specs.declared.function.ObName.{ObName}
use Rattle.ask_core.specs.declared.tree.Tok.{Tok}
use Rattle.ask_core.specs.Plans.{Plan}
use Rattle.ask_core.specs.Trees.{Branch}
use Rattle.cert_check.specs.declared.verdict.CheckError.{CheckError}
use Rattle.cert_check.specs.declared.verdict.CheckError.TheVariants as check
use Rattle.cert_check.specs.Steps.{after}
use Rattle.cert_check.specs.Judging.{IsCauseOf}
use Rattle.cert_text.specs.declared.item.Item.{Item}
use Rattle.cert_text.specs.declared.item.Part.TheVariants as part
use Rattle.cert_text.specs.Places.{PartPlace, Start, Line, Tree, Finish, part_text, place_after, open_after}
use Rattle.cert_text.specs.Reading.{ReaderState, Reading}
use Rattle.refusals.specs.declared.refusal.JudgeError.{JudgeError}
use Rattle.ot_sections.specs.Parts.{IsJudged, IsRefused, Point, branches_behind, end_of_token, point_behind}
use Rattle.ot_outside.specs.declared.feed.Feed.{Ghosts}
use Rattle.ot_sections.specs.Feeding.{Fed, fed}
use Rattle.ot_sections.specs.Stands.{Came, IsBetween, IsJudgedBehind, IsMisspeltBehind, IsRefusedAnyway}
use Rattle.ot_sections.specs.Stands.{IsRefusedBehind, IsTreeOf, StandLeads, Stand, reader_place_of, reader_offset_of}
use Rattle.ot_sections.specs.Stands.{point_of, stand, tree_with}
use Rattle.ot_sections.proofs.Fitting.{judged_behind}
use Rattle.ot_sections.proofs.Tokens.{open_as_counted}

module _ {F W : Type 0} (feeds : Ghosts F) (plan : ObName → Plan W) where
  pub leads_same : (was : Stand F W) → StandLeads feeds plan was was
  leads_same was all bytes may = (bytes, may, λ end judged. judged)

  pub leads_on : (one two three : Stand F W) → StandLeads feeds plan one two → StandLeads feeds plan two three
      → StandLeads feeds plan one three
  leads_on one two three first second all rest may =
      let there = second all rest may in
      let here = first all there.0 there.1 in
      (here.0, here.1, λ end judged. here.2 end (there.2 end judged))

  -- a part that comes leads behind it
  pub part_leads :
      (was now : Fed F) (item : Item) (branches next : List (Branch W)) → Came feeds was now item
      → branches_behind plan (point_of (stand was branches)) item.part ≡ Ok next
      → StandLeads feeds plan (stand was branches) (stand now next)
  part_leads was now item branches next comes opens all rest may =
      let there : point_of (stand now next) ≡ point_behind (point_of (stand was branches)) item.part next =
      ap (λ (r : ReaderState). point_of (stand (fed r now.feed) next)) comes.part.behind in (
        part_text (reader_place_of was.reader) item.part ++ rest,
        comes.bytes all rest may,
        λ end judged.
            judged_behind plan end (point_of (stand was branches)) item.part
            (part_text (reader_place_of was.reader) item.part ++ rest) rest next comes.part.stands refl opens
            (subst (λ (p : Point W). IsJudged plan end p rest) there judged),
      )

  -- what is judged behind a later stand is judged behind the earlier one
  pub judged_through :
      (one two : Stand F W) (now : F) (end : Result (Unit {0}) JudgeError) → StandLeads feeds plan one two
      → IsJudgedBehind feeds plan two now end → IsJudgedBehind feeds plan one now end
  judged_through one two now end leads behind all have =
      let later = behind all have in
      let there = leads all later.0 later.1 in (there.0, there.1, there.2 end later.2)

  pub refused_through :
      (one two : Stand F W) (now : F) (e : JudgeError) → StandLeads feeds plan one two
      → IsRefusedBehind feeds plan two now e
      → IsRefusedBehind feeds plan one now e
  refused_through one two now e leads behind refused = judged_through one two now (Err e) leads (behind refused)

  -- the same of an answer
  pub answers_through :
      (one two : Stand F W) (now : F) (answer : Result (Unit {0}) JudgeError) → StandLeads feeds plan one two
      → OnOk answer (IsJudgedBehind feeds plan two now (Ok tt))
      → OnOk answer (IsJudgedBehind feeds plan one now (Ok tt))
  answers_through one two now (Ok done) leads judged = judged_through one two now (Ok tt) leads judged
  answers_through one two now (Err e) leads judged = tt

  pub errors_through :
      (one two : Stand F W) (now : F) (answer : Result (Unit {0}) JudgeError) → StandLeads feeds plan one two
      → IfErr answer (IsRefusedBehind feeds plan two now) → IfErr answer (IsRefusedBehind feeds plan one now)
  errors_through one two now (Ok done) leads refused = tt
  errors_through one two now (Err e) leads refused = refused_through one two now e leads refused

  -- what is refused whatever the plans are is refused by these
  pub any_plan :
      (was : Stand F W) (now : F) (answer : Result (Unit {0}) JudgeError) → IfErr answer (IsRefusedAnyway feeds was now)
      → IfErr answer (IsRefusedBehind feeds plan was now)
  any_plan was now (Ok done) refused = tt
  any_plan was now (Err e) refused = refused plan

  -- bytes that are refused by their spelling are refused
  pub misspelt_refused :
      (was : Fed F) (branches : List (Branch W)) (now : F) (e : JudgeError) → IsMisspeltBehind feeds was now e
      → IsRefusedBehind feeds plan (stand was branches) now e
  misspelt_refused was branches now e misspelt refused all have =
      let ends = misspelt all have refused in (ends.0, ends.1, ([], inl ends.2))

  want_is_no_refusal : (offset : ℕ) (why : CheckError) → why ≡ check.NoMemory → IsRefused (end_of_token offset why) → ⊥
  want_is_no_refusal offset why memory refused =
      subst (λ (x : CheckError). IsRefused (end_of_token offset x)) memory refused

  -- so are bytes that begin with a token that is refused
  pub token_refused :
      (was now : Fed F) (offset : ℕ) (t : Tok) (branches : List (Branch W)) (why : CheckError)
      → Came feeds was now (record { offset = offset; part = part.Tok t }) → IsCauseOf why t branches
      → IsRefusedBehind feeds plan (stand was branches) now.feed (end_of_token offset why)
  token_refused was now offset t branches why comes (inl memory) refused all have =
      absurd (want_is_no_refusal offset why memory refused)
  token_refused was now offset t branches why comes (inr cause) refused all have = (
    part_text (reader_place_of was.reader) (part.Tok t) ++ have.0,
    comes.bytes all have.0 have.1,
    ([], inr (t, have.0, why, comes.part.stands, refl, cause, ap (λ (n : ℕ). end_of_token n why) comes.part.offset)),
  )

-- the place behind a token of a tree
token_place :
    (place : PartPlace) (t : Tok) (count : ℕ) → IsTreeOf count place
    → IsTreeOf (open_after count t) (place_after place (part.Tok t))
    × (tree_with 0 (place_after place (part.Tok t)) ≡ tree_with 0 place)
token_place (Tree came names branches) t count is = (ap (λ (n : ℕ). open_after n t) is, refl)
token_place (Start tp1 tp2) t count is = absurd is
token_place (Line came names) t count is = absurd is
token_place Finish t count is = absurd is

module _ {F : Type 0} (feeds : Ghosts F) (was now : Fed F) where
  -- a reader behind a part is between two parts
  pub between_parts : (item : Item) → Came feeds was now item → IsBetween now.reader
  between_parts item comes =
      comes.part.behind
      ∙ ap (λ (r : ReaderState). Reading (reader_place_of r) (reader_offset_of r) []) (sym comes.part.behind)

  -- behind a token it is where the token leaves it, and in the same tree
  pub behind_token :
      {W : Type 0} (offset : ℕ) (t : Tok) (branches next : List (Branch W))
      → Came feeds was now (record { offset = offset; part = part.Tok t })
      → IsTreeOf (length branches) (reader_place_of was.reader)
      → after t branches ≡ Ok next
      → IsTreeOf (length next) (reader_place_of now.reader)
      × (tree_with 0 (reader_place_of now.reader) ≡ tree_with 0 (reader_place_of was.reader))
  behind_token offset t branches next comes is taken =
      let place = token_place (reader_place_of was.reader) t (length branches) is in
      let here : reader_place_of now.reader ≡ place_after (reader_place_of was.reader) (part.Tok t) =
      ap reader_place_of comes.part.behind in (
        subst (λ (n : ℕ). IsTreeOf n (reader_place_of now.reader)) (sym (open_as_counted t branches next taken))
            (subst (λ (p : PartPlace). IsTreeOf (open_after (length branches) t) p) (sym here) place.0),
        ap (tree_with 0) here ∙ place.1,
      )
