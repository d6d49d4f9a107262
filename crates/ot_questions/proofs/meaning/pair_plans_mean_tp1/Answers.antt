use Rattle.fn_rules.specs.Functions.{Function}
use Rattle.ot_questions.proofs.PairMeaning.{ArePairsEnough, pair_holds_means, pair_meaning_holds, pairs_mean_at}
use Rattle.ot_questions.proofs.PairMeaning.{all_pairs_mean, tp1_holds_pairs_at, tp1_holds_all_pairs}
use Rattle.ot_questions.proofs.meaning.pair_plans_mean_tp1.Goals as goal

-- what the plans of pairs mean, at each length and at all lengths
pub returns : goal.returns
returns c =
    let enough : (f : Function) → ArePairsEnough f = λ f. record {
      allowed = c.allowed_is_symmetric.ensures f;
      listed = c.obligations_are_those_of_the_kinds.ensures.pairs f.head;
    } in record {
      pair_shown = pair_holds_means;
      whole_shown_at = λ f. pairs_mean_at f (enough f);
      whole_shown = λ f. all_pairs_mean f (enough f);
      pair = λ f k l n valid. (pair_holds_means f k l n, pair_meaning_holds f k l n valid);
      whole_at = λ f n valid. (pairs_mean_at f (enough f) n, tp1_holds_pairs_at f n valid);
      whole = λ f valid. (all_pairs_mean f (enough f), tp1_holds_all_pairs f valid);
    }
