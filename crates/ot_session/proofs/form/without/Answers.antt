use Rattle.std.proofs.Common.{◌≡◌, List, ℕ, filter, not}
use Rattle.std.specs.Prelude.{nat_eq}
use Rattle.std.specs.Coded.{Coded-set, coded_list, coded_ℕ}
use Rattle.std.proofs.Math.Logic.{∥∥₁_elim}
use Rattle.ot_causal.specs.Members.{without}
use Rattle.ot_session.specs.Past.{past_of}
use Rattle.ot_session.proofs.Clocks.{filter-without}
use Rattle.ot_session.proofs.form.without.Goals as goal

pub returns : goal.returns
returns c =
    let l : List ℕ = c.args.list.now in
    let x : ℕ = c.args.member in
    let same : filter (λ y. not (nat_eq y x)) l ≡ without x l =
    ∥∥₁_elim c.requires (Coded-set (coded_list coded_ℕ) _ _) (filter-without (past_of c.args.made.now) x l) in
    rw (← same) c.others.ensures
