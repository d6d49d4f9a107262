-- How calls leave a reader and its feed, one after another.
use Rattle.std.proofs.Common.{◌≡◌, ℕ, Result, Ok, Err, arith, refl, ◌∙◌}
use Rattle.cert_check.specs.declared.verdict.CheckError.{CheckError}
use Rattle.cert_check.specs.declared.verdict.CheckError.TheVariants as check
use Rattle.cert_text.specs.declared.item.CertError.{CertError}
use Rattle.cert_text.specs.declared.item.CertError.TheVariants as cert
use Rattle.cert_text.specs.Reading.{ReaderState}
use Rattle.ot_outside.specs.Faults.{Rose}
use Rattle.ot_outside.specs.declared.feed.Feed.{Ghosts}
use Rattle.refusals.specs.declared.refusal.JudgeError.{JudgeError}
use Rattle.refusals.specs.declared.refusal.JudgeError.TheVariants as judge
use Rattle.refusals.specs.Spelling.{end_of_spelling}
use Rattle.ot_sections.specs.Parts.{end_of_token}
use Rattle.ot_sections.specs.Feeding.{Fed, IsKeptFeed, IsTruncated, Leaves, fed}

-- a refusal by spelling is no failure
pub spelling_no_failure : (c : CertError) (e : JudgeError) → e ≡ end_of_spelling c → e ≡ judge.Failed → ⊥
spelling_no_failure (cert.BadToken offset) e is failed = cc
spelling_no_failure (cert.Truncated offset) e is failed = cc
spelling_no_failure (cert.Trailing offset) e is failed = cc

failed_not_early : IsTruncated judge.Failed → ⊥
failed_not_early (at, is) = cc

-- nor is that of a token, and it does not say that bytes end too early
pub token_no_failure : (offset : ℕ) (c : CheckError) → end_of_token offset c ≡ judge.Failed → ⊥
token_no_failure offset check.NotAQuestion failed = cc
token_no_failure offset check.NotDone failed = cc
token_no_failure offset check.GoalFails failed = cc
token_no_failure offset check.BadPick failed = cc
token_no_failure offset check.NotACycle failed = cc
token_no_failure offset check.NotNegative failed = cc
token_no_failure offset check.NoMemory failed = cc

pub token_not_early : (offset : ℕ) (c : CheckError) → IsTruncated (end_of_token offset c) → ⊥
token_not_early offset check.NotAQuestion (at, is) = cc
token_not_early offset check.NotDone (at, is) = cc
token_not_early offset check.GoalFails (at, is) = cc
token_not_early offset check.BadPick (at, is) = cc
token_not_early offset check.NotACycle (at, is) = cc
token_not_early offset check.NotNegative (at, is) = cc
token_not_early offset check.NoMemory (at, is) = cc

module _ {F : Type 0} (feeds : Ghosts F) where
  abbrev pub KeepsFeed : F → F → Type 0
  KeepsFeed old new = IsKeptFeed feeds.faults feeds.bound feeds.held feeds.keeps old new

  -- what is kept is kept over two calls
  pub kept_on : (one two three : F) → KeepsFeed one two → KeepsFeed two three → KeepsFeed one three
  kept_on one two three a b =
      record {
        more_faults = omega (arith, a.more_faults, b.more_faults);
        no_more_bytes = omega (arith, a.no_more_bytes, b.no_more_bytes);
        same_object = b.same_object ∙ a.same_object;
        still_keeps = λ before h. b.still_keeps before (a.still_keeps before h);
      }

  pub rose_later :
      (one two three : F) → KeepsFeed one two → Rose (feeds.faults two) (feeds.faults three)
      → Rose (feeds.faults one) (feeds.faults three)
  rose_later one two three a rose = omega (arith, a.more_faults)

  -- on the way, where nothing ended
  abbrev pub GoesOn : Fed F → Fed F → Type 0
  GoesOn was now = Leaves {T = Unit {0}} feeds was now (Ok tt)

  pub goes_on_with : {T : Type 0} (was now : Fed F) (answer : T) → GoesOn was now → Leaves feeds was now (Ok answer)
  goes_on_with was now answer h = record { kept = h.kept; room = h.room; spent = tt; failed = tt }

  pub goes_on_by : {T : Type 0} (was now : Fed F) (answer : T) → Leaves feeds was now (Ok answer) → GoesOn was now
  goes_on_by was now answer h = record { kept = h.kept; room = h.room; spent = tt; failed = tt }

  -- a call behind others
  pub leaves_on :
      {T : Type 0} (one two three : Fed F) (answer : Result T JudgeError) → GoesOn one two
      → Leaves feeds two three answer
      → Leaves feeds one three answer
  leaves_on one two three (Ok x) a b =
      record {
        kept = kept_on one.feed two.feed three.feed a.kept b.kept;
        room = omega (arith, a.room, b.room);
        spent = tt;
        failed = tt;
      }
  leaves_on one two three (Err e) a b =
      record {
        kept = kept_on one.feed two.feed three.feed a.kept b.kept;
        room = tt;
        spent = b.spent;
        failed = λ is. rose_later one.feed two.feed three.feed a.kept (b.failed is);
      }

  -- the same error of an answer of another kind
  pub leaves_as :
      {T U : Type 0} (was now : Fed F) (e : JudgeError) → Leaves {T = T} feeds was now (Err e)
      → Leaves {T = U} feeds was now (Err e)
  leaves_as was now e h = record { kept = h.kept; room = tt; spent = h.spent; failed = h.failed }

  -- an error that speaks of no byte
  pub leaves_with :
      {T : Type 0} (was now : Fed F) (e : JudgeError) → GoesOn was now → (IsTruncated e → ⊥) → (e ≡ judge.Failed → ⊥)
      → Leaves {T = T} feeds was now (Err e)
  leaves_with was now e h early failed =
      record { kept = h.kept; room = tt; spent = λ is. absurd (early is); failed = λ is. absurd (failed is) }

  -- a failure of the feed
  pub leaves_failed :
      {T : Type 0} (was now : Fed F) → GoesOn was now → Rose (feeds.faults was.feed) (feeds.faults now.feed)
      → Leaves {T = T} feeds was now (Err judge.Failed)
  leaves_failed was now h rose =
      record { kept = h.kept; room = tt; spent = λ is. absurd (failed_not_early is); failed = λ is. rose }

  pub not_yet : (one : Fed F) → GoesOn one one
  not_yet one =
      record {
        kept = record {
          more_faults = omega arith;
          no_more_bytes = omega arith;
          same_object = refl;
          still_keeps = λ before h. h;
        };
        room = omega arith;
        spent = tt;
        failed = tt;
      }

  -- a feed that is asked, and a reader that is not
  pub asked_on : (reader : ReaderState) (was now : F) → KeepsFeed was now → GoesOn (fed reader was) (fed reader now)
  asked_on reader was now kept =
      record { kept = kept; room = omega (arith, kept.no_more_bytes); spent = tt; failed = tt }
