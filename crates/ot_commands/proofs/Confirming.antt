-- The reply to what was read of a proof's file.
use Rattle.std.proofs.Common.{◌≡◌, ◌≢◌, ◌⊎◌, inl, inr, ℕ, zero, suc, ◌+◌, ◌-◌, ◌<◌, ◌≤◌, Bool, true, false, IsTrue}
use Rattle.std.proofs.Common.{List, [], ◌∷◌, ◌++◌, length, take, drop, Option, Some, None, Result, Ok, Err, OnOk, refl}
use Rattle.std.proofs.Common.{sym, ap, ◌∙◌, arith, subst}
use Rattle.std.specs.Option.{ForSome}
use Rattle.std.proofs.Math.Seq.{take-append-add}
use Rattle.std.proofs.lemmas.List.{take-append-drop}
use Rattle.fn_rules.specs.declared.function.Level.{Level}
use Rattle.fn_rules.specs.Functions.{Function}
use Rattle.ot_outside.specs.Whole.{IsFront}
use Rattle.ot_outside.specs.declared.whole.ReadError.{ReadError}
use Rattle.ot_outside.specs.declared.whole.ReadError.TheVariants as reading
use Rattle.proof_sections.specs.declared.refusal.ConfirmError.{ConfirmError}
use Rattle.proof_sections.specs.declared.refusal.ConfirmError.TheVariants as confirm
use Rattle.proof_sections.specs.declared.refusal.ProofRefusal.{ProofRefusal}
use Rattle.proof_sections.specs.declared.refusal.ProofRefusal.TheVariants as why
use Rattle.ot_confirm.specs.Judgement.{judgement_of}
use Rattle.ot_replies.specs.declared.reply.FileKind.TheVariants as files
use Rattle.ot_replies.specs.declared.reply.Reply.{Reply}
use Rattle.ot_replies.specs.declared.reply.Reply.TheVariants.{TooLong}
use Rattle.ot_replies.specs.Limits.{limit_of}
use Rattle.ot_commands.specs.Given.{ForTold}
use Rattle.ot_commands.specs.Confirm.{IsReplyBy, IsReplyToConfirmed, TellsJudgement, ends_early, rests_on_more}

-- a refusal of bytes that do not end too early stands where more follow
abbrev pub Stands : Function → Type 0
Stands f =
    (bytes more : List ℕ) (offset : ℕ) (cause : ProofRefusal)
    → judgement_of f bytes ≡ Err (confirm.Refused offset cause)
    → cause ≢ why.Truncated → judgement_of f (bytes ++ more) ≡ Err (confirm.Refused offset cause)

-- what tells a judgement, or rests on more bytes, is no want of memory
pub tells_judgement :
    (judged is : Result Level ConfirmError) (r : Reply) → (judged ≡ Err confirm.NoMemory) ⊎ (judged ≡ is)
    → TellsJudgement judged r → TellsJudgement is r
tells_judgement judged is r (inl none) tells =
    absurd (subst (λ (j : Result Level ConfirmError). TellsJudgement j r) none tells)
tells_judgement judged is r (inr same) tells = subst (λ (j : Result Level ConfirmError). TellsJudgement j r) same tells

pub rests_judgement :
    (judged is : Result Level ConfirmError) (rests : Bool) → (judged ≡ Err confirm.NoMemory) ⊎ (judged ≡ is)
    → rests ≡ rests_on_more judged → rests ≡ true → IsTrue (rests_on_more is)
rests_judgement judged is rests (inl none) test holds =
    absurd (let e : true ≡ false = sym holds ∙ test ∙ ap rests_on_more none in cc)
rests_judgement judged is rests (inr same) test holds = ap rests_on_more (sym same) ∙ sym test ∙ holds

within_limit : (n : ℕ) (bytes : List ℕ) → length bytes ≤ n → take n bytes ≡ bytes
within_limit zero [] few = refl
within_limit zero (b ∷ bytes) few = absurd (omega arith)
within_limit (suc n) [] few = refl
within_limit (suc n) (b ∷ bytes) few = ap (λ (l : List ℕ). b ∷ l) (within_limit n bytes (omega arith))

-- what was read is what the file has within the limit, or a front of it
front_of_limit :
    (n : ℕ) (bytes known : List ℕ) → IsFront bytes known → length bytes ≤ n
    → (more : List ℕ) × (take n known ≡ bytes ++ more)
front_of_limit n bytes known front few =
    let whole : known ≡ bytes ++ drop (length bytes) known =
    sym (take-append-drop (length bytes) known) ∙ ap (λ (l : List ℕ). l ++ drop (length bytes) known) (sym front) in
    let k : ℕ = n - length bytes in
    let split : n ≡ length bytes + k = omega arith in (
      take k (drop (length bytes) known),
      ap (take n) whole ∙ ap (λ m. take m (bytes ++ drop (length bytes) known)) split
          ∙ take-append-add bytes (drop (length bytes) known) k,
    )

-- a refusal that does not rest on more bytes stands
stands_along :
    (f : Function) (bytes more : List ℕ) (judgement : Result Level ConfirmError) (r : Reply) → Stands f
    → judgement_of f bytes ≡ judgement → rests_on_more judgement ≡ false → TellsJudgement judgement r
    → judgement_of f (bytes ++ more) ≡ judgement
stands_along f bytes more (Ok level) r stands is fixed tells = absurd (let e : true ≡ false = fixed in cc)
stands_along f bytes more (Err (confirm.Refused offset cause)) r stands is fixed tells =
    stands bytes more offset cause is (λ e. let same : true ≡ false = sym (ap ends_early e) ∙ fixed in cc)
stands_along f bytes more (Err confirm.NoMemory) r stands is fixed tells = absurd tells

-- the whole file was read
pub whole_file :
    (f : Function) (told : Option (List ℕ)) (bytes : List ℕ) (r : Reply) → ForSome told (λ known. bytes ≡ known)
    → length bytes ≤ limit_of files.Proof → TellsJudgement (judgement_of f bytes) r → IsReplyToConfirmed f told r
whole_file f told bytes r known few tells = (
  bytes,
  known,
  inr (
    λ rests. few,
    subst (λ (l : List ℕ). TellsJudgement (judgement_of f l) r)
        (sym (within_limit (limit_of files.Proof) bytes few)) tells,
  ),
)

-- the file is longer than the limit
pub long_file :
    (f : Function) (told : Option (List ℕ)) (bytes : List ℕ)
    → ForSome told (λ known. limit_of files.Proof < length known)
    → ForSome told (IsFront bytes) → length bytes ≡ limit_of files.Proof → IsTrue (rests_on_more (judgement_of f bytes))
    → IsReplyToConfirmed f told (TooLong files.Proof)
long_file f None bytes long front full rests = (
  bytes,
  λ known e. absurd (cc),
  inl (
    subst (λ (l : List ℕ). IsTrue (rests_on_more (judgement_of f l)))
        (sym (within_limit (limit_of files.Proof) bytes (omega arith))) rests,
    (long, refl),
  ),
)
long_file f (Some known) bytes long front full rests =
    let same : bytes ≡ take (limit_of files.Proof) known = front known refl ∙ ap (λ n. take n known) full in (
      known,
      λ other e. let is : known ≡ other = cc in is,
      inl (subst (λ (l : List ℕ). IsTrue (rests_on_more (judgement_of f l))) same rests, (long, refl)),
    )

-- what was read is refused, whatever follows
pub refused_front :
    (f : Function) (told : Option (List ℕ)) (bytes : List ℕ) (r : Reply) → Stands f → ForSome told (IsFront bytes)
    → length bytes ≤ limit_of files.Proof → rests_on_more (judgement_of f bytes) ≡ false
    → TellsJudgement (judgement_of f bytes) r
    → IsReplyToConfirmed f told r
refused_front f None bytes r stands front few fixed tells =
    whole_file f None bytes r (λ known e. absurd (cc)) few tells
refused_front f (Some known) bytes r stands front few fixed tells =
    let more = front_of_limit (limit_of files.Proof) bytes known (front known refl) few in
    let same : judgement_of f (take (limit_of files.Proof) known) ≡ judgement_of f bytes =
    ap (judgement_of f) more.1 ∙ stands_along f bytes more.0 (judgement_of f bytes) r stands refl fixed tells in (
      known,
      λ other e. let is : known ≡ other = cc in is,
      inr (
        λ rests. absurd (let e : true ≡ false = sym rests ∙ ap rests_on_more same ∙ fixed in cc),
        subst (λ (j : Result Level ConfirmError). TellsJudgement j r) (sym same) tells,
      ),
    )

-- the same of what judging gave
stands_judgement :
    (f : Function) (told : Option (List ℕ)) (bytes : List ℕ) (judged : Result Level ConfirmError) (r : Reply) → Stands f
    → (judged ≡ Err confirm.NoMemory) ⊎ (judged ≡ judgement_of f bytes) → ForSome told (IsFront bytes)
    → length bytes ≤ limit_of files.Proof → rests_on_more judged ≡ false → TellsJudgement judged r
    → IsReplyToConfirmed f told r
stands_judgement f told bytes judged r stands (inl none) front few fixed tells =
    absurd (subst (λ (j : Result Level ConfirmError). TellsJudgement j r) none tells)
stands_judgement f told bytes judged r stands (inr same) front few fixed tells =
    refused_front f told bytes r stands front few (ap rests_on_more (sym same) ∙ fixed)
    (subst (λ (j : Result Level ConfirmError). TellsJudgement j r) same tells)

-- the reply to what was read, by how reading ended
pub by_reading :
    (f : Function) (told : Option (List ℕ)) (bytes : List ℕ) (read : Result (Unit {0}) ReadError)
    (judged : Result Level ConfirmError) (r : Reply)
    → Stands f → (judged ≡ Err confirm.NoMemory) ⊎ (judged ≡ judgement_of f bytes)
    → (read ≡ Ok tt → ForSome told (λ known. bytes ≡ known)) → ForSome told (IsFront bytes)
    → length bytes ≤ limit_of files.Proof
    → (read ≡ Err reading.TooLong → ForSome told (λ known. limit_of files.Proof < length known))
    → (read ≡ Err reading.TooLong → length bytes ≡ limit_of files.Proof)
    → IsReplyBy read judged r → IsReplyToConfirmed f told r
by_reading f told bytes (Ok u) judged r stands is known front few long full reply =
    whole_file f told bytes r (known refl) few (tells_judgement judged (judgement_of f bytes) r is reply)
by_reading f told bytes (Err reading.TooLong) judged r stands is known front few long full (inl (rests, too_long)) =
    subst (λ (x : Reply). IsReplyToConfirmed f told x) (sym too_long)
    (long_file f told bytes (long refl) front (full refl)
    (rests_judgement judged (judgement_of f bytes) true is (sym rests) refl))
by_reading f told bytes (Err reading.TooLong) judged r stands is known front few long full (inr (fixed, tells)) =
    stands_judgement f told bytes judged r stands is front few fixed tells
by_reading f told bytes (Err reading.Failed) judged r stands is known front few long full (fixed, tells) =
    stands_judgement f told bytes judged r stands is front few fixed tells
by_reading f told bytes (Err reading.NoMemory) judged r stands is known front few long full reply = absurd reply

-- the same, where the bytes that were judged are those that were read, up to a limit
module _ (f : Function) (n : ℕ) (limit : n ≡ limit_of files.Proof) (bytes now : List ℕ) (same : now ≡ bytes)
    (read : Result (Unit {0}) ReadError) (judged : Result Level ConfirmError) (stands : Stands f)
    (is : (judged ≡ Err confirm.NoMemory) ⊎ (judged ≡ judgement_of f now)) (few : length bytes ≤ n)
    (full : read ≡ Err reading.TooLong → length bytes ≡ n) where
  pub reply_told :
      (told : Option (List ℕ)) → (read ≡ Ok tt → ForSome told (λ known. bytes ≡ known)) → ForSome told (IsFront bytes)
      → (read ≡ Err reading.TooLong → ForSome told (λ known. n < length known)) → (r : Reply) → IsReplyBy read judged r
      → IsReplyToConfirmed f told r
  reply_told told known front long r reply =
      by_reading f told bytes read judged r stands
      (subst (λ (l : List ℕ). (judged ≡ Err confirm.NoMemory) ⊎ (judged ≡ judgement_of f l)) same is) known front
      (omega (arith, few, limit))
      (λ e. subst (λ (m : ℕ). ForSome told (λ known. m < length known)) limit (long e)) (λ e. full e ∙ limit) reply

  -- whatever is told of a file of which bytes were given
  pub reply_given :
      (given : List ℕ) → (read ≡ Ok tt → given ≡ bytes) → IsFront bytes given
      → (read ≡ Err reading.TooLong → n < length given)
      → (r : Reply) → IsReplyBy read judged r → ForTold given (λ told. IsReplyToConfirmed f told r)
  reply_given given whole front long r reply told agrees =
      reply_told told (λ e known is. sym (whole e) ∙ sym (agrees known is))
      (λ known is. subst (λ (l : List ℕ). IsFront bytes l) (sym (agrees known is)) front)
      (λ e known is. subst (λ (l : List ℕ). n < length l) (sym (agrees known is)) (long e)) r reply

-- what holds where reading came to the end
pub when_ok : {E P : Type 0} (read : Result (Unit {0}) E) → OnOk read P → read ≡ Ok tt → P
when_ok (Ok u) h is = h
when_ok (Err e) h is = absurd (cc)
