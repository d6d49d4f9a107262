-- The bytes are judged, and where the judgement rests on their end the feed tells whether a byte follows.
use Rattle.std.proofs.Common.{◌≡◌, refl, ◌<◌, ◌↔◌, Bool, true, false, IsTrue, length, sym, ◌∙◌}
use Rattle.std.specs.Option.{ForSome}
use Rattle.fn_rules.specs.Rules.{function_of}
use Rattle.ot_outside.specs.ShelfFeed.{feed_left, file_left, hand_of, room_of}
use Rattle.ot_sections.specs.Feeding.{IsSpent}
use Rattle.ot_commands.specs.Certificate.{rests_on_the_end}
use Rattle.ot_commands.proofs.Feeding.{kept_since, reading_on, unchanged_on}
use Rattle.ot_commands.proofs.Judged.{at_its_end, goes_on, told_replies, too_long_reply}
use Rattle.ot_commands.proofs.ReadCertificate.{ended_reply, further_reply, none_unread, reply_of, unrested_reply}
use Rattle.ot_commands.proofs.certificate.reply_to_feed.Goals as goal
use Rattle.ot_commands.proofs.certificate.reply_to_feed.Goals.{
  else-rests_on_the_end-via-then-rests_on_the_end+in_ok-too_long+else-branch,
}
use Rattle.ot_commands.proofs.certificate.reply_to_feed.Goals.{else-rests_on_the_end-via-else-rests_on_the_end}

pub returns-in_err-too_long-clause-unchanged : goal.returns-in_err-too_long-clause-unchanged
returns-in_err-too_long-clause-unchanged g c =
    unchanged_on _ _ _ (kept_since _ _ c.judge-judgement.ensures.kept.still_keeps).unchanged
    c.too_long.ensures.unchanged

pub returns-then-branch-clause-unchanged : goal.returns-then-branch-clause-unchanged
returns-then-branch-clause-unchanged g c =
    unchanged_on _ _ _ (kept_since _ _ c.judge-judgement.ensures.kept.still_keeps).unchanged
    c.too_long.ensures.unchanged

pub returns-clause-unchanged : goal.returns-clause-unchanged
returns-clause-unchanged g c =
    let kept = kept_since _ _ c.judge-judgement.ensures.kept.still_keeps in
    elim c.else-rests_on_the_end.branch [
      | else-rests_on_the_end-via-then-rests_on_the_end+in_ok-too_long+else-branch w ↦
          rw w.feed-is (unchanged_on _ _ _ kept.unchanged w.too_long.ensures.unchanged)
      | else-rests_on_the_end-via-else-rests_on_the_end w ↦ rw w.feed-is kept.unchanged
    ]

pub returns-in_err-too_long-clause-reading : goal.returns-in_err-too_long-clause-reading
returns-in_err-too_long-clause-reading g c =
    reading_on _ _ _ (kept_since _ _ c.judge-judgement.ensures.kept.still_keeps).reading c.too_long.ensures.reading

pub returns-then-branch-clause-reading : goal.returns-then-branch-clause-reading
returns-then-branch-clause-reading g c =
    reading_on _ _ _ (kept_since _ _ c.judge-judgement.ensures.kept.still_keeps).reading c.too_long.ensures.reading

pub returns-clause-reading : goal.returns-clause-reading
returns-clause-reading g c =
    let kept = kept_since _ _ c.judge-judgement.ensures.kept.still_keeps in
    elim c.else-rests_on_the_end.branch [
      | else-rests_on_the_end-via-then-rests_on_the_end+in_ok-too_long+else-branch w ↦
          rw w.feed-is (reading_on _ _ _ kept.reading w.too_long.ensures.reading)
      | else-rests_on_the_end-via-else-rests_on_the_end w ↦ rw w.feed-is kept.reading
    ]

-- a judgement that rests on the end, of a file that goes on: it is too long
pub returns-then-branch-clause-ok : goal.returns-then-branch-clause-ok
returns-then-branch-clause-ok g c =
    let judged = c.judge-judgement in
    let kept = kept_since c.args.feed.now judged.new.feed judged.ensures.kept.still_keeps in
    let rests : rests_on_the_end judged.result ≡ true = sym c.rests_on_the_end.ensures ∙ c.if-rests_on_the_end.true in
    let spent = at_its_end judged.result (IsSpent feed_left hand_of judged.new.feed) rests judged.ensures.nothing_left
    judged.ensures.truncated in
    let goes = goes_on (room_of judged.new.feed) (room_of c.args.feed.now) (file_left judged.new.feed)
    (file_left c.args.feed.now) c.in_ok-too_long.field-0 spent.end kept.beyond c.in_ok-too_long.ensures.ok in
    too_long_reply (g.T.Finding.judges (function_of c.args.rules.now)) g.T.Finding.accepts c.args.feed.now judged.result
    c.requires.limit judged.ensures.judged rests c.in_ok-too_long.field-0 c.if-branch.true goes

-- the judgement does not rest on the end, or no byte follows
pub returns-clause-ok : goal.returns-clause-ok
returns-clause-ok g c =
    let judged = c.judge-judgement in
    let kept = kept_since c.args.feed.now judged.new.feed judged.ensures.kept.still_keeps in
    let ends : rests_on_the_end judged.result ≡ true → (more : Bool) × (more ≡ false)
    × ForSome (file_left c.args.feed.now) (λ contents. IsTrue more ↔ (room_of c.args.feed.now < length contents)) =
    λ rests.
    elim c.else-rests_on_the_end.branch [
      | else-rests_on_the_end-via-then-rests_on_the_end+in_ok-too_long+else-branch w ↦ (
        w.in_ok-too_long.field-0,
        w.if-branch.false,
        goes_on (room_of judged.new.feed) (room_of c.args.feed.now) (file_left judged.new.feed)
            (file_left c.args.feed.now) w.in_ok-too_long.field-0
            (at_its_end judged.result (IsSpent feed_left hand_of judged.new.feed) rests judged.ensures.nothing_left
            judged.ensures.truncated).end kept.beyond w.in_ok-too_long.ensures.ok,
      )
      | else-rests_on_the_end-via-else-rests_on_the_end w ↦
          absurd (let clash : true ≡ false = sym rests ∙ sym c.rests_on_the_end.ensures
          ∙ w.if-rests_on_the_end.false in cc)
    ] in
    told_replies (g.T.Finding.judges (function_of c.args.rules.now)) g.T.Finding.accepts c.args.feed.now judged.result
    c.requires.limit judged.ensures.judged c.told.result c.told.ensures.ok ends

-- where a byte follows, more bytes were read than the limit
pub returns-then-branch-clause-given : goal.returns-then-branch-clause-given
returns-then-branch-clause-given g c =
    let judged = c.judge-judgement in
    let kept = kept_since c.args.feed.now judged.new.feed judged.ensures.kept.still_keeps in
    let rests : rests_on_the_end judged.result ≡ true = sym c.rests_on_the_end.ensures ∙ c.if-rests_on_the_end.true in
    let spent = at_its_end judged.result (IsSpent feed_left hand_of judged.new.feed) rests judged.ensures.nothing_left
    judged.ensures.truncated in
    let there = c.in_ok-too_long.ensures.there c.if-branch.true in
    further_reply (g.T.Finding.judges (function_of c.args.rules.now)) g.T.Finding.accepts c.args.feed.now
    judged.new.feed judged.result c.requires.limit c.requires.begins c.requires.read kept
    judged.ensures.given c.too_long.new.self rests spent (c.too_long.ensures.read (kept.read c.requires.read))
    c.too_long.ensures.gave there.0 there.1

-- the same of the bytes that were read
pub returns-clause-given : goal.returns-clause-given
returns-clause-given g c =
    let judged = c.judge-judgement in
    let kept = kept_since c.args.feed.now judged.new.feed judged.ensures.kept.still_keeps in
    reply_of g.T.Finding.accepts judged.result _ c.told.result c.told.ensures.ok
    (λ r tells.
    elim c.else-rests_on_the_end.branch [
      | else-rests_on_the_end-via-then-rests_on_the_end+in_ok-too_long+else-branch w ↦
          let rests : rests_on_the_end judged.result ≡ true = sym c.rests_on_the_end.ensures
          ∙ w.if-rests_on_the_end.true in
          let spent = at_its_end judged.result (IsSpent feed_left hand_of judged.new.feed) rests
          judged.ensures.nothing_left judged.ensures.truncated in
          rw w.feed-is
          (ended_reply (g.T.Finding.judges (function_of c.args.rules.now)) g.T.Finding.accepts c.args.feed.now
          judged.new.feed judged.result c.requires.limit c.requires.begins c.requires.read kept
          judged.ensures.given w.too_long.new.self rests spent
          (w.too_long.ensures.read (kept.read c.requires.read)) w.too_long.ensures.gave
          (none_unread judged.new.feed w.too_long.new.self (room_of judged.new.feed) refl (λ some.
          (w.too_long.ensures.below some).1) (w.in_ok-too_long.ensures.none w.if-branch.false) spent.none) r tells)
      | else-rests_on_the_end-via-else-rests_on_the_end w ↦
          rw w.feed-is
          (unrested_reply (g.T.Finding.judges (function_of c.args.rules.now)) g.T.Finding.accepts c.args.feed.now
          judged.new.feed judged.result c.requires.limit c.requires.begins c.requires.read kept
          judged.ensures.given r tells (sym c.rests_on_the_end.ensures ∙ w.if-rests_on_the_end.false))
    ])
