use Rattle.fn_rules.specs.Functions.{Function}
use Rattle.ot_questions.proofs.TripleMeaning.{AreTriplesEnough, triple_holds_means, triple_meaning_holds}
use Rattle.ot_questions.proofs.TripleMeaning.{triples_mean_at, triples_mean, tp2_holds_triples_at, tp2_holds_triples}
use Rattle.ot_questions.proofs.TripleMeaning.{all_plans_mean_at, all_plans_mean, tp2_holds_all_at, tp2_holds_all}
use Rattle.ot_questions.proofs.meaning.triple_plans_mean_tp2.Goals as goal

-- what the plans of triples mean, at each length and at all lengths, and with those of pairs
pub returns : goal.returns
returns c =
    let enough : (f : Function) → AreTriplesEnough f = λ f. record {
      pairs = record {
        allowed = c.allowed_is_symmetric.ensures f;
        listed = c.obligations_are_those_of_the_kinds.ensures.pairs f.head;
      };
      listed = c.obligations_are_those_of_the_kinds.ensures.triples f.head;
    } in record {
      triple_shown = triple_holds_means;
      alone_shown_at = λ f. triples_mean_at f (enough f);
      alone_shown = λ f. triples_mean f (enough f);
      whole_shown_at = λ f. all_plans_mean_at f (enough f);
      whole_shown = λ f. all_plans_mean f (enough f);
      triple = λ f k l m n valid. (triple_holds_means f k l m n, triple_meaning_holds f k l m n valid);
      alone_at = λ f n valid. (triples_mean_at f (enough f) n, tp2_holds_triples_at f n valid);
      alone = λ f valid. (triples_mean f (enough f), tp2_holds_triples f valid);
      whole_at = λ f n valid. (all_plans_mean_at f (enough f) n, tp2_holds_all_at f n valid);
      whole = λ f valid. (all_plans_mean f (enough f), tp2_holds_all f valid);
    }
