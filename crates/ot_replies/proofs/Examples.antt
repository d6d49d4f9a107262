-- The lines of a counterexample, of a hub, and of what neither search decides.
use Rattle.std.proofs.Common.{◌≡◌, [], ◌∷◌, ◌++◌, None, codes, refl, pos}
use lib.Utf8.{encode}
use Rattle.std.specs.Fmt.{digits}
use Rattle.ot_model.specs.Cells.{live_cell}
use Rattle.ot_model.specs.declared.op.Op.TheVariants.{Ins, Del}
use Rattle.fn_rules.specs.declared.function.Level.TheVariants.{Tp2}
use Rattle.ot_questions.specs.declared.why.Why.TheVariants.{Operations}
use Rattle.ot_counter.specs.declared.counter.WayResult.TheVariants.{Op}
use Rattle.ot_replies.specs.declared.reply.Unsettled.TheVariants as causes
use Rattle.ot_replies.specs.CounterTexts.{counter_text, line_of}
use Rattle.ot_replies.specs.ExplainTexts.{counts_text, open_text, unsettled_text}
use Rattle.ot_replies.specs.HubTexts.{hub_text}

-- two insertions and a deletion, whose third has two forms
counterexample :
    counter_text (record {
      level = Tp2;
      doc = live_cell 121 ∷ [];
      ops = Ins (pos 1) 97 1 ∷ Del (pos 0) 2 ∷ Ins (pos 0) 99 3 ∷ [];
      why = Operations;
      left = Op (Ins (pos 0) 99 3);
      right = Op (Ins (pos 1) 99 3);
    })
    ≡ line_of (codes "no tp2 operations") ++ line_of (codes "doc [y]") ++ line_of (codes "op 1 ins 1 a 1")
    ++ line_of (codes "op 2 del 0 2")
    ++ line_of (codes "op 3 ins 0 c 3") ++ line_of (codes "left ins 0 c 3") ++ line_of (codes "right ins 1 c 3")
unfolding encode digits
counterexample = refl

-- a hub with a client whose operation is pending
hub :
    hub_text (record {
      logged = 0;
      doc = [];
      clients = record { received = 0; pending = 1; doc = live_cell 97 ∷ [] }
          ∷ record { received = 0; pending = 0; doc = [] } ∷ [];
      differ = None;
    })
    ≡ line_of (codes "server 0 []") ++ line_of (codes "client 1 0 1 [a]") ++ line_of (codes "client 2 0 0 []")
    ++ line_of (codes "same")
unfolding encode digits
hub = refl

-- what neither search decides, by each cause for which `settle` says nothing
too_many :
    open_text 1000000 (record { cause = causes.Questions 30000000; asked = 30000000; again = 1250; bytes = 9000 })
    ≡ line_of (codes "spent") ++ line_of (codes "prove: 1000000 questions")
    ++ line_of (codes "settle: 30000000 questions")
    ++ line_of (codes "settle: asked 30000000, again 1250, bytes 9000")
unfolding encode digits
too_many = refl

too_long :
    unsettled_text (causes.Bytes 83886080) ++ counts_text 4096 5000 83886081
    ≡ line_of (codes "settle: 83886080 bytes") ++ line_of (codes "settle: asked 4096, again 5000, bytes 83886081")
unfolding encode digits
too_long = refl

no_way : unsettled_text causes.NoProof ++ counts_text 7 0 0
    ≡ line_of (codes "settle: no proof") ++ line_of (codes "settle: asked 7, again 0, bytes 0")
unfolding encode digits
no_way = refl
