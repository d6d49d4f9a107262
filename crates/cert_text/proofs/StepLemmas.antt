-- What a byte makes of the front of a part, from what it makes of a line.
use Rattle.std.proofs.Common.{◌≡◌, ℕ, ◌+◌, ◌<◌, ◌≤◌, inl, inr, List, [], ◌∷◌, ◌++◌, length, drop, get_or, suc, refl}
use Rattle.std.proofs.Common.{sym, ap, ◌∙◌, arith, subst, drop-cons, add-one}
use Rattle.std.proofs.Math.Seq.{append_snoc}
use Rattle.fn_rules.specs.declared.function.Level.{Level}
use Rattle.fn_rules.specs.declared.function.Level.TheVariants.{Tp1, Tp2}
use Rattle.fn_rules.specs.declared.function.ObName.{ObName}
use Rattle.cert_text.specs.declared.cycle.Cycle.{Cycle}
use Rattle.cert_text.specs.declared.item.Part.{Part}
use Rattle.cert_text.specs.declared.item.Part.TheVariants as part
use Rattle.cert_text.specs.declared.line.Fit.TheVariants as fit
use Rattle.cert_text.specs.declared.stage.Stage.{Stage}
use Rattle.cert_text.specs.declared.stage.Stage.TheVariants as stage
use Rattle.cert_text.specs.declared.step.PartFront.{PartFront}
use Rattle.cert_text.specs.declared.step.PartFront.TheVariants as begun
use Rattle.cert_text.specs.declared.step.PartStep.{PartStep}
use Rattle.cert_text.specs.declared.step.PartStep.TheVariants as step
use Rattle.cert_text.specs.Spelling.{ob_text, end_text, header_text}
use Rattle.cert_text.specs.Cycles.{cycle_text}
use Rattle.cert_text.specs.Places.{PartPlace, Start, Line, Tree, Finish, Stands, names_of, part_text, place_after}
use Rattle.cert_text.specs.Reading.{IsFrontOfPart}
use Rattle.cert_text.specs.Steps.{FitsHeader}
use Rattle.cert_text.specs.Stages.{IsLineSound, IsSoundFront, LineStepsTo, PartStepsTo, begun_text, branches_of}
use Rattle.cert_text.specs.Stages.{place_of}
use Rattle.cert_text.proofs.CycleLemmas.{front_of_cycle}
use Rattle.cert_text.proofs.PartLemmas.{end_part, ob_part, start_parts}

-- what came is a front of a part
pub sound_front : (place : PartPlace) (b : PartFront) → IsSoundFront place b → IsFrontOfPart place (begun_text b)
sound_front (Tree came names branches) (begun.Line bytes) sound = inl sound
sound_front (Tree came names branches) (begun.Cycle c) sound =
    let front = front_of_cycle c.picks c.number sound.0.0 sound.0.1 sound.0.2 in
    inr (part.Tok front.0, front.1, (sound.1, front.2), front.3, front.4)
sound_front (Start tp1 tp2) (begun.Line bytes) sound = sound.1
sound_front (Start tp1 tp2) (begun.Cycle c) sound = absurd sound
sound_front (Line came names) (begun.Line bytes) sound = sound.1
sound_front (Line came names) (begun.Cycle c) sound = absurd sound
sound_front Finish (begun.Line bytes) sound = inl sound
sound_front Finish (begun.Cycle c) sound = absurd sound

-- what the bytes are of a part, where they are that of the line of the only part
line_steps_to :
    (tp1 tp2 : List ObName) (at : Stage) (old now line : List ℕ) (byte : ℕ) (p : Part) (next : Stage) (s : PartStep)
    → now ≡ old ++ byte ∷ [] → LineStepsTo line now p next s
    → Stands (place_of tp1 tp2 at) p → part_text (place_of tp1 tp2 at) p ≡ line
    → ((q : Part) → Stands (place_of tp1 tp2 at) q → q ≡ p)
    → place_of tp1 tp2 next ≡ place_after (place_of tp1 tp2 at) p → branches_of next ≤ branches_of at + 1
    → ((bytes : List ℕ) → IsLineSound (place_of tp1 tp2 at) bytes
    → IsSoundFront (place_of tp1 tp2 at) (begun.Line bytes))
    → PartStepsTo tp1 tp2 at old byte s
line_steps_to tp1 tp2 at old now line byte p next (step.More b) now_is h stands text only behind few sound = (
  subst (IsSoundFront (place_of tp1 tp2 at)) (sym h.0) (sound now (h.1, inr (p, h.2.0, stands, h.2.1, text ∙ h.2.2))),
  ap begun_text h.0 ∙ now_is,
)
line_steps_to tp1 tp2 at old now line byte p next (step.Whole q after) now_is h stands text only behind few sound = (
  subst (Stands (place_of tp1 tp2 at)) (sym h.0) stands,
  ap (part_text (place_of tp1 tp2 at)) h.0 ∙ text ∙ h.2 ∙ now_is,
  ap (place_of tp1 tp2) h.1 ∙ behind ∙ ap (place_after (place_of tp1 tp2 at)) (sym h.0),
  rw h.1 few,
)
line_steps_to tp1 tp2 at old now line byte p next step.Wrong now_is h stands text only behind few sound =
    λ q more q_stands is.
    h more
    (sym text ∙ ap (part_text (place_of tp1 tp2 at)) (sym (only q q_stands)) ∙ is
    ∙ sym (append_snoc old byte more) ∙ ap (λ (l : List ℕ). l ++ more) (sym now_is))

-- before the line of an obligation
pub ob_steps :
    (tp1 tp2 : List ObName) (level : Level) (came : ℕ) (names rest : List ObName) (name : ObName) (old now : List ℕ)
    (byte : ℕ) (s : PartStep)
    → names_of tp1 tp2 level ≡ names → drop came names ≡ name ∷ rest
    → drop (came + 1) names ≡ rest → now ≡ old ++ byte ∷ []
    → LineStepsTo (ob_text name) now (part.Ob came) (stage.Tree level (came + 1) 1) s
    → PartStepsTo tp1 tp2 (stage.Line level came) old byte s
ob_steps tp1 tp2 level came names rest name old now byte s are here behind now_is h =
    let there : drop came (names_of tp1 tp2 level) ≡ name ∷ rest = ap (drop came) are ∙ here in
    let after : drop (came + 1) (names_of tp1 tp2 level) ≡ rest = ap (drop (came + 1)) are ∙ behind in
    line_steps_to tp1 tp2 (stage.Line level came) old now (ob_text name) byte (part.Ob came)
    (stage.Tree level (came + 1) 1) s now_is h (rw there refl) (rw there refl)
    (λ q stands. ob_part came name rest q (subst (λ (l : List ObName). Stands (Line came l) q) there stands))
    (rw (there, after) refl) (omega arith) (λ bytes sound. sound)

-- before the last line
pub end_steps :
    (tp1 tp2 : List ObName) (level : Level) (came : ℕ) (names : List ObName) (old now : List ℕ)
    (byte : ℕ) (s : PartStep)
    → names_of tp1 tp2 level ≡ names → drop came names ≡ [] → now ≡ old ++ byte ∷ []
    → LineStepsTo end_text now part.End stage.Over s → PartStepsTo tp1 tp2 (stage.Line level came) old byte s
end_steps tp1 tp2 level came names old now byte s are here now_is h =
    let there : drop came (names_of tp1 tp2 level) ≡ [] = ap (drop came) are ∙ here in
    line_steps_to tp1 tp2 (stage.Line level came) old now end_text byte part.End stage.Over s now_is h
    (rw there tt) (rw there refl)
    (λ q stands. end_part came q (subst (λ (l : List ObName). Stands (Line came l) q) there stands))
    (rw there refl) (omega arith) (λ bytes sound. sound)

-- before the header: of the header of a level, the bytes are a front
pub header_front :
    (tp1 tp2 : List ObName) (level : Level) (bytes : List ℕ) → FitsHeader (names_of tp1 tp2 level) level bytes fit.Front
    → IsLineSound (Start tp1 tp2) bytes
header_front tp1 tp2 level bytes h = (h.1, inr (part.Header level, h.2.0, h.0, h.2.1, h.2.2))

-- of the header of neither level
pub no_header :
    (tp1 tp2 : List ObName) (old now : List ℕ) (byte : ℕ) → now ≡ old ++ byte ∷ [] → FitsHeader tp1 Tp1 now fit.Other
    → FitsHeader tp2 Tp2 now fit.Other → PartStepsTo tp1 tp2 stage.Header old byte step.Wrong
no_header tp1 tp2 old now byte now_is one two p more stands is =
    let header = start_parts tp1 tp2 p stands in
    of_level header.0 (subst (Stands (Start tp1 tp2)) header.1 stands)
    (sym (ap (part_text (Start tp1 tp2)) header.1) ∙ is ∙ sym (append_snoc old byte more)
    ∙ ap (λ (l : List ℕ). l ++ more) (sym now_is))
  where
    of_level :
        (level : Level) → Stands (Start tp1 tp2) (part.Header level)
        → header_text (names_of tp1 tp2 level) level ≡ now ++ more → ⊥
    of_level Tp1 some text = one some more text
    of_level Tp2 some text = two some more text

-- the names from a place on
pub names_from :
    (names : List ObName) (came : ℕ) (name : ObName) → came < length names → name ≡ get_or names came name
    → drop came names ≡ name ∷ drop (came + 1) names
names_from names came name within is =
    rw add-one (drop-cons names came name within ∙ ap (λ (n : ObName). n ∷ drop (suc came) names) (sym is))

-- in a tree, where no byte of a token came
pub tree_steps :
    (tp1 tp2 : List ObName) (at : Stage) (level : Level) (came branches : ℕ) (b : PartFront) (bytes : List ℕ)
    (byte : ℕ) (s : PartStep)
    → at ≡ stage.Tree level came branches → b ≡ begun.Line bytes → IsSoundFront (place_of tp1 tp2 at) b
    → PartStepsTo tp1 tp2 (stage.Tree level came branches) [] byte s → PartStepsTo tp1 tp2 at (begun_text b) byte s
tree_steps tp1 tp2 at level came branches b bytes byte s at_is b_is sound h =
    let empty : bytes ≡ [] =
    subst (λ (a : Stage). IsSoundFront (place_of tp1 tp2 a) (begun.Line bytes)) at_is
    (subst (λ (x : PartFront). IsSoundFront (place_of tp1 tp2 at) x) b_is sound) in
    rw (at_is, b_is, empty) h

-- in a cycle of a tree
pub cycle_steps :
    (tp1 tp2 : List ObName) (at : Stage) (level : Level) (came branches : ℕ) (b : PartFront) (c : Cycle)
    (byte : ℕ) (s : PartStep)
    → at ≡ stage.Tree level came branches → b ≡ begun.Cycle c
    → PartStepsTo tp1 tp2 (stage.Tree level came branches) (cycle_text c.picks c.number) byte s
    → PartStepsTo tp1 tp2 at (begun_text b) byte s
cycle_steps tp1 tp2 at level came branches b c byte s at_is b_is h = rw (at_is, b_is) h
