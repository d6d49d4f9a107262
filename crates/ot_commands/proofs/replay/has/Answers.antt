use Rattle.std.proofs.Common.{◌≡◌, ℕ, ◌||◌, nat_eq, List, [], ◌∷◌, ap, refl, ◌∙◌, arith}
use Rattle.std.specs.List.{list_any}
use Rattle.std.proofs.lemmas.Bool.Decides.{nat_tests}
use Rattle.ot_causal.specs.Members.{has}
use Rattle.ot_commands.proofs.replay.has.Goals as goal

same_either_way : (x y : ℕ) → nat_eq y x ≡ nat_eq x y
same_either_way x y = grind (arith, nat_tests)

-- the number is found among the members
has-any : (x : ℕ) (l : List ℕ) → list_any (λ y. nat_eq y x) l ≡ has l x
has-any x [] = refl
has-any x (y ∷ l) =
    ap (λ b. b || list_any (λ z. nat_eq z x) l) (same_either_way x y) ∙ ap (λ b. nat_eq x y || b) (has-any x l)

pub returns : goal.returns
returns c = c.contains.ensures.value ∙ has-any c.args.number c.args.list.now
