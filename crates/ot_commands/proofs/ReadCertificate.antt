-- The reply to a certificate, from the bytes that were read of its file.
use Rattle.std.proofs.Common.{◌≡◌, ℕ, ◌+◌, ◌<◌, zero, suc, true, false, List, [], ◌∷◌, ◌++◌, take, length}
use Rattle.std.proofs.Common.{length-append, Some, Result, Ok, Err, IfOk, ◌⊎◌, inl, inr, refl, sym, ap, ◌∙◌, subst}
use Rattle.std.proofs.Common.{arith}
use Rattle.std.proofs.Math.Seq.{take-append-add}
use Rattle.ot_outside.specs.declared.shelf.Shelf.{Ghosts}
use Rattle.ot_outside.specs.declared.shelf_feed.ShelfFeed.{ShelfFeed}
use Rattle.ot_outside.specs.Reads.{Reads, after_reading}
use Rattle.ot_outside.specs.ShelfFeed.{IsAllOfReads, KeepsShelf, feed_left, gave_by, hand_of, room_of, shelf_of}
use Rattle.ot_outside.specs.ShelfFeed.{unread_of}
use Rattle.refusals.specs.declared.refusal.JudgeError.{JudgeError}
use Rattle.ot_sections.specs.Feeding.{IsSpent, MayGiveOf, MayHave, Whole}
use Rattle.ot_bound.specs.Judgements.{IsNoJudgement}
use Rattle.ot_replies.specs.declared.reply.FileKind.TheVariants as files
use Rattle.ot_replies.specs.declared.reply.Reply.{Reply}
use Rattle.ot_replies.specs.declared.reply.Reply.TheVariants.{TooLong}
use Rattle.ot_replies.specs.Limits.{limit_of}
use Rattle.ot_commands.specs.Certificate.{IsReplyToCertificate, Tells, rests_on_the_end}
use Rattle.ot_commands.proofs.Judged.{not_want, nothing_taken, sure}

-- what was read of the open file
abbrev pub bytes_read : {S : Type 0} {shelf : Ghosts S} → ShelfFeed S shelf → List ℕ
bytes_read {shelf = shelf} feed = (shelf.reads (shelf_of feed)).bytes

-- a feed of which nothing stood at hand has nothing unread behind a further look
pub none_unread :
    {S : Type 0} {shelf : Ghosts S} (new last : ShelfFeed S shelf) (room : ℕ) → room_of new ≡ room
    → (0 < room_of new → last ≡ new)
    → (room_of new ≡ 0 → unread_of last ≡ []) → hand_of new ≡ [] → unread_of last ≡ []
none_unread new last zero is same none empty = none is
none_unread new last (suc n) is same none empty =
    ap unread_of (same (omega (arith, is)))
    ∙ nothing_taken n (unread_of new) (ap (λ m. take m (unread_of new)) (sym is) ∙ empty)

module _ {S : Type 0} {shelf : Ghosts S} {T : Type 0} (Judges : List ℕ → Result T JudgeError
    → Type 0) (accepts : T → Reply)
    (old new : ShelfFeed S shelf) (judgement : Result T JudgeError)
    (whole : room_of old ≡ limit_of files.Certificate) (begins : gave_by old ≡ []) (all : IsAllOfReads old)
    (kept : KeepsShelf old new)
    (judged : IsNoJudgement judgement ⊎ ((all : Whole) → MayHave feed_left room_of gave_by hand_of new all
    → (bytes : List ℕ) × MayGiveOf feed_left room_of gave_by old all bytes × Judges bytes judgement)) where
  limit_is : length (gave_by new) + room_of new ≡ limit_of files.Certificate
  limit_is =
      let here : length (gave_by old) + room_of old ≡ room_of old = omega (arith, ap length begins) in
      kept.same_limit ∙ here ∙ whole

  -- the bytes that were given and those at hand are judged
  hand_judged : (IsNoJudgement judgement → ⊥) → Judges (gave_by new ++ hand_of new) judgement
  unfolding MayGiveOf
  hand_judged no_want =
      elim judged [
        | inl want ↦ absurd (no_want want)
        | inr h ↦
            let there = h (record { bytes = gave_by new ++ hand_of new; may = false })
            (hand_of new, ((λ t. absurd (cc)), refl), λ spent. spent.none) in
            subst (λ (l : List ℕ). Judges l judgement)
            (sym (there.1.1 ∙ ap (λ (l : List ℕ). l ++ there.0) begins)) there.2
      ]

  -- the judgement does not rest on the end
  pub unrested_reply : (r : Reply) → Tells accepts judgement r → rests_on_the_end judgement ≡ false
      → IsReplyToCertificate Judges accepts (Some (bytes_read new)) r
  unrested_reply r tells unrested =
      let within : gave_by new ++ hand_of new ≡ take (limit_of files.Certificate) (bytes_read new) =
      sym (take-append-add (gave_by new) (unread_of new) (room_of new))
      ∙ ap (λ (n : ℕ). take n (gave_by new ++ unread_of new)) limit_is
      ∙ ap (λ (l : List ℕ). take (limit_of files.Certificate) l) (sym (kept.read all)) in (
        bytes_read new,
        λ known is. cc,
        (
          judgement,
          subst (λ (l : List ℕ). Judges l judgement) within (hand_judged (not_want accepts judgement r tells)),
          inr ((λ rests. absurd (let clash : true ≡ false = sym rests ∙ unrested in cc)), tells),
        ),
      )

  -- it does, and it is told whether a byte follows
  module _ (last : ShelfFeed S shelf) (rests : rests_on_the_end judgement ≡ true)
      (spent : IsSpent feed_left hand_of new)
      (read : IsAllOfReads last) (same : gave_by last ≡ gave_by new) where
    read_is : bytes_read last ≡ gave_by new ++ unread_of last
    read_is = read ∙ ap (λ (l : List ℕ). l ++ unread_of last) same

    given_judged :
        take (room_of new) (unread_of last) ≡ []
        → Judges (take (limit_of files.Certificate) (bytes_read last)) judgement
    given_judged none =
        let within : gave_by new ++ hand_of new ≡ take (limit_of files.Certificate) (bytes_read last) =
        ap (λ (l : List ℕ). gave_by new ++ l) (spent.none ∙ sym none)
        ∙ sym (take-append-add (gave_by new) (unread_of last) (room_of new))
        ∙ ap (λ (n : ℕ). take n (gave_by new ++ unread_of last)) limit_is
        ∙ ap (λ (l : List ℕ). take (limit_of files.Certificate) l) (sym read_is) in
        subst (λ (l : List ℕ). Judges l judgement) within (hand_judged (sure judgement rests))

    read_count : length (bytes_read last) ≡ length (gave_by new) + length (unread_of last)
    read_count = ap length read_is ∙ length-append (gave_by new) (unread_of last)

    -- a byte follows where the feed has no room left: the file is too long
    pub further_reply :
        room_of new ≡ 0 → 0 < length (unread_of last)
        → IsReplyToCertificate Judges accepts (Some (bytes_read last)) (TooLong files.Certificate)
    further_reply full more = (
      bytes_read last,
      λ known is. cc,
      (
        judgement,
        given_judged (ap (λ (n : ℕ). take n (unread_of last)) full),
        inl (
          rests,
          (
            λ contents is.
                let they : bytes_read last ≡ contents = cc in
                omega (arith, full, more, limit_is, read_count, ap length they),
            refl,
          ),
        ),
      ),
    )

    nothing_of : (n : ℕ) (bytes : List ℕ) → bytes ≡ [] → take n bytes ≡ []
    nothing_of zero bytes none = refl
    nothing_of (suc n) [] none = refl
    nothing_of (suc n) (b ∷ bytes) none = cc

    -- no byte follows: the judgement is of the whole file
    pub ended_reply : unread_of last ≡ [] → (r : Reply) → Tells accepts judgement r
        → IsReplyToCertificate Judges accepts (Some (bytes_read last)) r
    ended_reply none r tells = (
      bytes_read last,
      λ known is. cc,
      (
        judgement,
        given_judged (nothing_of (room_of new) (unread_of last) none),
        inr ((λ t. omega (arith, limit_is, read_count, ap length none)), tells),
      ),
    )

-- a reply that is told
pub reply_of :
    {T E : Type 0} (accepts : T → Reply) (judgement : Result T JudgeError) (P : Reply → Type 0)
    (answer : Result Reply E)
    → IfOk answer (λ r. Tells accepts judgement r)
    → ((r : Reply) → Tells accepts judgement r → P r) → IfOk answer P
reply_of accepts judgement P (Ok r) tells gets = gets r tells
reply_of accepts judgement P (Err e) tells gets = tt

-- of a file that was opened nothing is read
pub none_read :
    {S : Type 0} {shelf : Ghosts S} (feed : ShelfFeed S shelf) (opened : S) (name : List ℕ) (old : Reads)
    → shelf_of feed ≡ opened
    → shelf.reads opened ≡ after_reading name [] old → gave_by feed ≡ [] → unread_of feed ≡ [] → IsAllOfReads feed
none_read {shelf = shelf} feed opened name old same is given unread =
    ap (λ s. (shelf.reads s).bytes) same ∙ ap (λ (r : Reads). r.bytes) is
    ∙ sym (ap (λ (l : List ℕ). l ++ unread_of feed) given ∙ unread)
