-- From what the calls on a shelf gave to the replies of commands.
use Rattle.std.proofs.Common.{◌≡◌, ℕ, suc, List, [], ◌∷◌, length, Option, Some, Result, Err, refl, sym, ap, ◌∙◌, inl}
use Rattle.std.proofs.Common.{inr, arith}
use Rattle.std.specs.Option.{ForSome}
use Rattle.fn_rules.specs.Functions.{Function}
use Rattle.fn_tokens.specs.declared.fault.TextFault.{TextFault}
use Rattle.ot_outside.specs.Reads.{Reads, after_reading, IsSameReading}
use Rattle.refusals.specs.declared.refusal.JudgeError.{JudgeError}
use Rattle.ot_replies.specs.declared.reply.FileKind.{FileKind}
use Rattle.ot_replies.specs.declared.reply.FileKind.TheVariants as files
use Rattle.ot_replies.specs.declared.reply.Reply.{Reply}
use Rattle.ot_replies.specs.declared.reply.Subject.{Subject}
use Rattle.ot_replies.specs.Limits.{IsTooLong}
use Rattle.ot_commands.specs.Certificate.{IsReplyToCertificate}
use Rattle.ot_commands.specs.Given.{ForTold, HaveRead, IsReadFirst, IsReadSecond}
use Rattle.ot_commands.specs.Load.{Holds, IsFunctionRefusal, IsReadAs}

-- two openings are no single one
twice_is_not_once :
    (n m k : List ℕ) (a b c : List ℕ) (old : Reads)
    → after_reading n a (after_reading m b old) ≡ after_reading k c old → ⊥
twice_is_not_once n m k a b c old is =
    let more : suc (suc (length old.before)) ≡ suc (length old.before) = ap (λ (r : Reads). length r.before) is in
    omega (arith, more)

bytes_beneath : List (List ℕ × List ℕ) → List ℕ
bytes_beneath [] = []
bytes_beneath (one ∷ others) = one.1

-- what stands beneath the last opening is the one before it
beneath :
    (n k m : List ℕ) (a c b g : List ℕ) (old : Reads)
    → after_reading n a (after_reading m b old) ≡ after_reading k c (after_reading m g old) → b ≡ g
unfolding bytes_beneath
beneath n k m a c b g old is = ap (λ (r : Reads). bytes_beneath r.before) is

-- one list of bytes was given of the first file
pub first_once :
    (old new : Reads) (name bytes given : List ℕ) → IsReadFirst old new name given
    → IsReadFirst old new name bytes → bytes ≡ given
first_once old new name bytes given (inl is) (inl other) = ap (λ (r : Reads). r.bytes) (sym other ∙ is)
first_once old new name bytes given (inl is) (inr (n, a, other)) =
    absurd (twice_is_not_once n name name a bytes given old (sym other ∙ is))
first_once old new name bytes given (inr (n, a, is)) (inl other) =
    absurd (twice_is_not_once n name name a given bytes old (sym is ∙ other))
first_once old new name bytes given (inr (n, a, is)) (inr (m, b, other)) =
    beneath m n name b a bytes given old (sym other ∙ is)

-- and of the second
pub second_once :
    (old new : Reads) (first name : List ℕ) (begun bytes given : List ℕ)
    → new ≡ after_reading name given (after_reading first begun old) → IsReadSecond old new name bytes → bytes ≡ given
second_once old new first name begun bytes given is (other, other_begun, told) =
    ap (λ (r : Reads). r.bytes) (sym told ∙ is)

pub known_first :
    (old new : Reads) (name given : List ℕ) (told : Option (List ℕ)) → IsReadFirst old new name given
    → ForSome told (IsReadFirst old new name) → ForSome told (λ bytes. bytes ≡ given)
known_first old new name given told is tells bytes known = first_once old new name bytes given is (tells bytes known)

pub known_second :
    (old mid new : Reads) (first begun name given : List ℕ) (told : Option (List ℕ))
    → mid ≡ after_reading first begun old
    → new ≡ after_reading name given mid → ForSome told (IsReadSecond old new name)
    → ForSome told (λ bytes. bytes ≡ given)
known_second old mid new first begun name given told is behind tells bytes known =
    second_once old new first name begun bytes given (behind
    ∙ ap (λ (r : Reads). after_reading name given r) is) (tells bytes known)

-- a file was opened behind the first
pub first_behind :
    (old mid new : Reads) (first begun name given : List ℕ) → mid ≡ after_reading first begun old
    → new ≡ after_reading name given mid
    → IsReadFirst old new first begun
first_behind old mid new first begun name given is behind =
    inr (name, given, behind ∙ ap (λ (r : Reads). after_reading name given r) is)

-- a name that was opened, of which something was given since
pub read_on :
    (old opened new : Reads) (name : List ℕ) → opened ≡ after_reading name [] old → IsSameReading opened new
    → new ≡ after_reading name new.bytes old
read_on old opened new name is same =
    ap (λ (l : List (List ℕ × List ℕ)). record { name = new.name; bytes = new.bytes; before = l }) (same.same_before
    ∙ ap (λ (r : Reads). r.before) is)
    ∙ ap (λ (n : List ℕ). record { name = n; bytes = new.bytes; before = (old.name, old.bytes) ∷ old.before })
    (same.same_name ∙ ap (λ (r : Reads). r.name) is)

-- what holds of bytes that are told holds where they are told, and where nothing is
module _ (told : Option (List ℕ)) (given : List ℕ) (agrees : ForSome told (λ bytes. bytes ≡ given)) where
  pub read_told : (read : Result Function TextFault) → IsReadAs read (Some given) → IsReadAs read told
  read_told read is bytes known = rw (agrees bytes known) (is given refl)

  pub long_told : (kind : FileKind) (r : Reply) → IsTooLong kind (Some given) r → IsTooLong kind told r
  long_told kind r is = (λ bytes known. rw (agrees bytes known) (is.0 given refl), is.1)

  pub refusal_told : (subject : Subject) (r : Reply) → IsFunctionRefusal subject (Some given) r
      → IsFunctionRefusal subject told r
  refusal_told subject r (inl long) = inl (long_told files.Function r long)
  refusal_told subject r (inr (fault, read, is)) = inr (fault, read_told (Err fault) read, is)

  pub bytes_told : (kind : FileKind) (bytes : List ℕ) → Holds kind bytes (Some given) → Holds kind bytes told
  bytes_told kind bytes (few, are) = (few, λ contents known. are given refl ∙ sym (agrees contents known))

-- the reply to the bytes that were given of a certificate, whatever is told of it
pub certificate_told :
    {T : Type 0} (Judges : List ℕ → Result T JudgeError → Type 0) (accepts : T → Reply) (given : List ℕ) (r : Reply)
    → IsReplyToCertificate Judges accepts (Some given) r
    → ForTold given (λ told. IsReplyToCertificate Judges accepts told r)
certificate_told Judges accepts given r (contents, are, (judgement, judged, inl long)) told agrees = (
  contents,
  λ bytes known. are given refl ∙ sym (agrees bytes known),
  (judgement, judged, inl (long.0, long_told told given agrees files.Certificate r long.1)),
)
certificate_told Judges accepts given r (contents, are, (judgement, judged, inr tells)) told agrees = (
  contents,
  λ bytes known. are given refl ∙ sym (agrees bytes known),
  (judgement, judged, inr tells),
)

-- both files were opened
pub have_read_both :
    (old mid new : Reads) (first second : List ℕ) → mid ≡ after_reading first mid.bytes old
    → new ≡ after_reading second new.bytes mid
    → HaveRead old new first second
have_read_both old mid new first second opened behind =
    (mid.bytes, inr (new.bytes, behind ∙ ap (λ (r : Reads). after_reading second new.bytes r) opened))
