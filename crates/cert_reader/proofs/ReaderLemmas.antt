-- What a reader's fields say of what it gives.
use Rattle.std.proofs.Common.{◌≡◌, ◌≢◌, ℕ, ◌+◌, ◌↔◌, Option, Some, None, Result, Ok, Err, List, [], ◌∷◌, ◌++◌, length}
use Rattle.std.proofs.Common.{refl, sym, ◌∙◌, arith, subst, length-append}
use Rattle.fn_rules.specs.declared.function.ObName.{ObName}
use Rattle.cert_text.specs.declared.item.Part.{Part}
use Rattle.cert_text.specs.declared.item.Item.{Item}
use Rattle.cert_text.specs.declared.item.CertError.{CertError}
use Rattle.cert_text.specs.declared.item.CertError.TheVariants as cert
use Rattle.cert_text.specs.declared.stage.Stage.{Stage}
use Rattle.cert_text.specs.declared.stage.Stage.TheVariants as stage
use Rattle.cert_text.specs.declared.step.PartFront.{PartFront}
use Rattle.cert_text.specs.declared.step.PartFront.TheVariants as begun
use Rattle.cert_text.specs.declared.step.PartStep.{PartStep}
use Rattle.cert_text.specs.declared.step.PartStep.TheVariants as step
use Rattle.cert_text.specs.Places.{PartPlace, Finish}
use Rattle.cert_text.specs.Reading.{ReaderState, Reading, Refused, Gives, HasNoPart, ReadsParts}
use Rattle.cert_text.specs.Pieces.{IsReaderUnderWay}
use Rattle.cert_text.specs.Stages.{IsSoundFront, PartStepsTo, begun_text, place_of, state_at, refusal_of}
use Rattle.cert_text.proofs.ReadingLemmas.{reads_truncated, reads_whole, wrong_byte}
use Rattle.cert_text.proofs.StepLemmas.{sound_front}

-- behind the last line nothing of a part came
none_came : (b : PartFront) → IsSoundFront Finish b → begun_text b ≡ []
none_came (begun.Line bytes) sound = sound
none_came (begun.Cycle c) sound = absurd sound

-- only one stage is behind the last line
not_finished : (tp1 tp2 : List ObName) (at : Stage) → at ≢ stage.Over → place_of tp1 tp2 at ≢ Finish
not_finished tp1 tp2 stage.Header other is = cc
not_finished tp1 tp2 (stage.Line level came) other is = cc
not_finished tp1 tp2 (stage.Tree level came branches) other is = cc
not_finished tp1 tp2 stage.Over other is = other refl

-- the fields of a reader that did not refuse
reading : (refused : Option CertError) (place : PartPlace) (offset : ℕ) (bytes : List ℕ) → refused ≡ None
    → state_at refused place offset bytes ≡ Reading place offset bytes
reading refused place offset bytes none = rw none refl

-- what came is a front of a part, where no byte was refused
pub under_way :
    (tp1 tp2 : List ObName) (at : Stage) (offset : ℕ) (b : PartFront) (refused : Option CertError) → refused ≡ None
    → IsSoundFront (place_of tp1 tp2 at) b
    → IsReaderUnderWay (state_at refused (place_of tp1 tp2 at) offset (begun_text b))
under_way tp1 tp2 at offset b refused none sound = rw none (sound_front (place_of tp1 tp2 at) b sound)

-- at the end of the file, behind the last line
pub finish_over :
    (tp1 tp2 : List ObName) (at : Stage) (offset : ℕ) (b : PartFront) (refused : Option CertError) (now : ReaderState)
    → state_at refused (place_of tp1 tp2 at) offset (begun_text b) ≡ now → refused ≡ None → at ≡ stage.Over
    → IsSoundFront (place_of tp1 tp2 at) b → (items : List Item) (end : Result (Unit {0}) CertError)
    → ReadsParts now [] items end ↔ ((items ≡ []) × (end ≡ Ok tt))
finish_over tp1 tp2 at offset b refused now is none over sound items end =
    let empty : begun_text b ≡ [] = none_came b
    (subst (λ (a : Stage). IsSoundFront (place_of tp1 tp2 a) b) over sound) in
    let now_is : Reading Finish offset [] ≡ now = rw (none, over, empty) at is in
    subst (λ (p : ReaderState). ReadsParts p [] items end ↔ ((items ≡ []) × (end ≡ Ok tt))) now_is
    (reads_whole offset items end)

-- at the end of the file, before it
pub finish_before :
    (tp1 tp2 : List ObName) (at : Stage) (offset len : ℕ) (b : PartFront)
    (refused : Option CertError) (now : ReaderState)
    → state_at refused (place_of tp1 tp2 at) offset (begun_text b) ≡ now → refused ≡ None → at ≢ stage.Over
    → IsSoundFront (place_of tp1 tp2 at) b → len ≡ length (begun_text b)
    → (items : List Item) (end : Result (Unit {0}) CertError)
    → ReadsParts now [] items end ↔ ((items ≡ []) × (end ≡ Err (cert.Truncated (offset + len))))
finish_before tp1 tp2 at offset len b refused now is none before sound len_is items end =
    let now_is : Reading (place_of tp1 tp2 at) offset (begun_text b) ≡ now =
    sym (reading refused (place_of tp1 tp2 at) offset (begun_text b) none) ∙ is in
    subst (λ (p : ReaderState). ReadsParts p [] items end
    ↔ ((items ≡ []) × (end ≡ Err (cert.Truncated (offset + len))))) now_is (rw len_is
    (reads_truncated (place_of tp1 tp2 at) offset (begun_text b) (sound_front (place_of tp1 tp2 at) b sound)
    (not_finished tp1 tp2 at before) items end))

-- a byte ended a part
pub gives_part :
    (tp1 tp2 : List ObName) (at next : Stage) (offset len byte : ℕ) (b fresh : PartFront) (refused : Option CertError)
    (old : ReaderState) (p : Part)
    → state_at refused (place_of tp1 tp2 at) offset (begun_text b) ≡ old → refused ≡ None
    → PartStepsTo tp1 tp2 at (begun_text b) byte (step.Whole p next)
    → len ≡ length (begun_text b) → begun_text fresh ≡ []
    → Gives old byte (Ok (Some (record { offset = offset; part = p })))
    (state_at refused (place_of tp1 tp2 next) (offset + len + 1) (begun_text fresh))
gives_part tp1 tp2 at next offset len byte b fresh refused old p is none steps len_is empty =
    let old_is : Reading (place_of tp1 tp2 at) offset (begun_text b) ≡ old =
    sym (reading refused (place_of tp1 tp2 at) offset (begun_text b) none) ∙ is in
    subst
    (λ (q : ReaderState). Gives q byte (Ok (Some (record { offset = offset; part = p })))
    (state_at refused (place_of tp1 tp2 next) (offset + len + 1) (begun_text fresh)))
    old_is (refl, steps.0, sym steps.1, rw (none, empty, len_is, steps.2) refl)

-- no part goes on with a byte
pub gives_refusal :
    (tp1 tp2 : List ObName) (at : Stage) (offset byte : ℕ) (b : PartFront) (refused : Option CertError)
    (old : ReaderState) (refusal : CertError)
    → state_at refused (place_of tp1 tp2 at) offset (begun_text b) ≡ old → refused ≡ None
    → PartStepsTo tp1 tp2 at (begun_text b) byte step.Wrong → IsSoundFront (place_of tp1 tp2 at) b
    → refusal ≡ refusal_of at offset
    → Gives old byte (Err refusal) (Refused refusal)
gives_refusal tp1 tp2 at offset byte b refused old refusal is none steps sound refusal_is =
    let old_is : Reading (place_of tp1 tp2 at) offset (begun_text b) ≡ old =
    sym (reading refused (place_of tp1 tp2 at) offset (begun_text b) none) ∙ is in
    subst (λ (q : ReaderState). Gives q byte (Err refusal) (Refused refusal)) old_is
    (rw refusal_is
    (of_stage at
    (wrong_byte (place_of tp1 tp2 at) (begun_text b) byte (sound_front (place_of tp1 tp2 at) b sound) steps)))
  where
    of_stage :
        (at : Stage) → HasNoPart (place_of tp1 tp2 at) (begun_text b ++ byte ∷ [])
        → Gives (Reading (place_of tp1 tp2 at) offset (begun_text b)) byte (Err (refusal_of at offset))
        (Refused (refusal_of at offset))
    of_stage stage.Header wrong =
        (refl, (refl, λ e. cc, omega (arith, length-append (begun_text b) (byte ∷ [])), wrong))
    of_stage (stage.Line level came) wrong =
        (refl, (refl, λ e. cc, omega (arith, length-append (begun_text b) (byte ∷ [])), wrong))
    of_stage (stage.Tree level came branches) wrong =
        (refl, (refl, λ e. cc, omega (arith, length-append (begun_text b) (byte ∷ [])), wrong))
    of_stage stage.Over wrong = (refl, (refl, refl, omega (arith, length-append (begun_text b) (byte ∷ []))))

-- what a byte makes of what came, in other words for the same
pub steps_for :
    (tp1 tp2 tp1_too tp2_too : List ObName) (at : Stage) (b b_too : PartFront) (byte : ℕ) (s : PartStep)
    → tp1_too ≡ tp1 → tp2_too ≡ tp2 → b_too ≡ b → PartStepsTo tp1_too tp2_too at (begun_text b_too) byte s
    → PartStepsTo tp1 tp2 at (begun_text b) byte s
steps_for tp1 tp2 tp1_too tp2_too at b b_too byte s tp1_is tp2_is b_is h = rw (← tp1_is, ← tp2_is, ← b_is) h
