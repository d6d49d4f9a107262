use Rattle.ot_questions.proofs.Nears.{sym_thing_near, IsNear-more, IsNear-plus, AreNear-block, ≡-IsTrue, IsResultOf-nop}
use Rattle.ot_questions.proofs.Nears.{IsResultOf-same}
use Rattle.ot_questions.proofs.staying.offsets_stay_near.Goals as goal

pub returns : goal.returns
returns c =
    record {
      things = sym_thing_near;
      more = IsNear-more;
      sums = IsNear-plus;
      cases = λ chars cases valid. AreNear-block chars cases (≡-IsTrue _ valid);
      nop = IsResultOf-nop;
      first = IsResultOf-same;
    }
