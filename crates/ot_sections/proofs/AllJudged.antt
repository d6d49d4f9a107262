-- Any bytes are judged: the parts that they give fit one after another up to the first token that is refused, or up to
-- where the bytes end.
use Rattle.std.proofs.Common.{◌≡◌, ℕ, List, [], ◌∷◌, ◌++◌, Result, Ok, Err, inl, inr, refl}
use Rattle.fn_rules.specs.declared.function.ObName.{ObName}
use Rattle.ask_core.specs.declared.tree.Tok.{Tok}
use Rattle.ask_core.specs.Plans.{Plan}
use Rattle.ask_core.specs.Trees.{Branch}
use Rattle.cert_check.specs.declared.verdict.CheckError.{CheckError}
use Rattle.cert_check.specs.declared.verdict.CheckError.TheVariants as check
use Rattle.cert_check.specs.Steps.{after}
use Rattle.cert_text.specs.declared.item.Item.{Item}
use Rattle.cert_text.specs.declared.item.Part.{Part}
use Rattle.cert_text.specs.declared.item.Part.TheVariants as part
use Rattle.cert_text.specs.declared.item.CertError.{CertError}
use Rattle.cert_text.specs.declared.item.CertError.TheVariants as cert
use Rattle.cert_text.specs.Places.{Stands, part_text}
use Rattle.cert_text.specs.Reading.{ReadsFrom}
use Rattle.refusals.specs.declared.refusal.JudgeError.{JudgeError}
use Rattle.ot_sections.specs.Parts.{IsAnswer, IsJudged, IsRefused, Point, branches_behind, end_of_token, point_behind}
use Rattle.refusals.specs.Spelling.{end_of_spelling}
use Rattle.ot_sections.proofs.Tokens.{token_wants_none}

spelling_is_answer : (e : CertError) → IsRefused (end_of_spelling e)
spelling_is_answer (cert.BadToken offset) = tt
spelling_is_answer (cert.Truncated offset) = tt
spelling_is_answer (cert.Trailing offset) = tt

module _ {W : Type 0} where
  token_is_answer :
      (t : Tok) (branches : List (Branch W)) (offset : ℕ) (e : CheckError) → after t branches ≡ Err e
      → IsRefused (end_of_token offset e)
  token_is_answer t branches offset check.NotAQuestion is = tt
  token_is_answer t branches offset check.NotDone is = tt
  token_is_answer t branches offset check.GoalFails is = tt
  token_is_answer t branches offset check.BadPick is = tt
  token_is_answer t branches offset check.NotACycle is = tt
  token_is_answer t branches offset check.NotNegative is = tt
  token_is_answer t branches offset check.NoMemory is = token_wants_none t branches check.NoMemory is refl

  module _ (plan : ObName → Plan W) where
    -- the bytes behind the point are judged
    abbrev pub HasAnswer : Point W → List ℕ → Type 0
    HasAnswer point bytes = (end : Result (Unit {0}) JudgeError) × IsAnswer end × IsJudged plan end point bytes

    -- only a token is refused
    part_refused :
        (point : Point W) (bytes rest : List ℕ) (p : Part) (e : CheckError) → Stands point.place p
        → bytes ≡ part_text point.place p ++ rest
        → branches_behind plan point p ≡ Err e → HasAnswer point bytes
    part_refused point bytes rest (part.Tok t) e stands is refused = (
      Err (end_of_token point.offset e),
      token_is_answer t point.branches point.offset e refused,
      ([], inr (t, rest, e, stands, is, refused, refl)),
    )
    part_refused point bytes rest (part.Ob number) e stands is refused = absurd (cc)
    part_refused point bytes rest (part.Header level) e stands is refused = absurd (cc)
    part_refused point bytes rest part.LineEnd e stands is refused = absurd (cc)
    part_refused point bytes rest part.End e stands is refused = absurd (cc)

    part_judged :
        (point : Point W) (bytes rest : List ℕ) (p : Part) → Stands point.place p
        → bytes ≡ part_text point.place p ++ rest
        → ((branches : List (Branch W)) → HasAnswer (point_behind point p branches) rest)
        → (o : Result (List (Branch W)) CheckError) → branches_behind plan point p ≡ o → HasAnswer point bytes
    part_judged point bytes rest p stands is later (Ok branches) opens =
        let on = later branches in (on.0, on.1, (p ∷ on.2.0, (stands, (rest, branches, is, opens, on.2.1))))
    part_judged point bytes rest p stands is later (Err e) refused = part_refused point bytes rest p e stands is refused

    -- what a reader makes of the bytes is judged
    pub read_judged :
        (items : List Item) (end : Result (Unit {0}) CertError) (point : Point W) (bytes : List ℕ)
        → ReadsFrom point.place point.offset bytes items end → HasAnswer point bytes
    read_judged [] (Ok done) point bytes ends = (Ok tt, tt, ([], ends))
    read_judged [] (Err e) point bytes ends = (Err (end_of_spelling e), spelling_is_answer e, ([], inl (e, ends, refl)))
    read_judged (item ∷ items) end point bytes (at, stands, (rest, is, reads)) =
        part_judged point bytes rest item.part stands is
        (λ branches. read_judged items end (point_behind point item.part branches) rest reads)
        (branches_behind plan point item.part) refl
