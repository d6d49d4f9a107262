-- What the calls of an asker keep.
use Rattle.std.proofs.Common.{refl, ◌∙◌}
use Rattle.proof_trees.specs.Starters.{Starts, KeepsStarts}

-- nothing changes of itself
pub KeepsStarts-refl : {N S W : Type 0} (is_own : N → Type 0) (starts : Starts N S W)
    → KeepsStarts is_own is_own starts starts
KeepsStarts-refl is_own starts = record {
  own = λ n. (λ own. own, λ own. own);
  plans = λ n own. refl;
  root = refl;
  compare = refl;
  meaning = refl;
}

-- what each of two calls keeps, both keep
pub KeepsStarts-trans :
    {N S W : Type 0} {first_own then_own last_own : N → Type 0} {first then last : Starts N S W}
    → KeepsStarts first_own then_own first then → KeepsStarts then_own last_own then last
    → KeepsStarts first_own last_own first last
KeepsStarts-trans one two = record {
  own = λ n. (λ own. (two.own n).0 ((one.own n).0 own), λ own. (one.own n).1 ((two.own n).1 own));
  plans = λ n own. two.plans n ((one.own n).0 own) ∙ one.plans n own;
  root = two.root ∙ one.root;
  compare = two.compare ∙ one.compare;
  meaning = two.meaning ∙ one.meaning;
}
