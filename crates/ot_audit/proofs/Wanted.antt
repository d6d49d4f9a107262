-- What the least values want of the answers to a failing end.
use Rattle.std.proofs.Common.{◌≡◌, ℕ, ◌<◌, ◌≤◌, ◌^◌, ℤ, pos, List, length, Option, Some, MatchOption, Vec, subst, arith}
use Rattle.std.specs.declared.alloc.Global.{Global}
use Rattle.diff_graph.specs.declared.lit.Lit.{Lit}
use Rattle.diff_graph.specs.Literals.{AreMet, IsPossible}
use Rattle.diff_graph.specs.Limits.{AreNamed, AreSmall}
use Rattle.ot_model.specs.declared.op.Kind.{Kind}
use Rattle.fn_rules.specs.declared.function.ObName.TheVariants.{Pair}
use Rattle.fn_rules.specs.Functions.{Function}
use Rattle.ask_core.specs.Askers.{IsFine, longest_path}
use Rattle.ask_core.specs.Leading.{LeadTo}
use Rattle.ask_core.specs.Plans.{Plan}
use Rattle.ot_prove.specs.declared.outcome.Answer.{Answer}
use Rattle.ot_prove.specs.declared.outcome.Outcome.{Outcome}
use Rattle.ot_prove.specs.declared.outcome.Outcome.TheVariants.{No}
use Rattle.ot_prove.specs.Outcomes.{answered_by, Decides, IsDecided}
use Rattle.ask_core.specs.Questions.{FailingEnd}
use Rattle.ot_prove.proofs.Leads.{literals_lead}
use Rattle.ot_questions.specs.declared.why.Why.{Why}
use Rattle.ot_questions.specs.Names.{name_count}
use Rattle.ot_questions.specs.Sorts.{AreLike, AsksLike, HasNoNegativePosition}
use Rattle.ot_terms.specs.Goals.{GoalTree}
use Rattle.ot_terms.specs.Standing.{ask_goal}
use Rattle.ot_values.specs.Values.{IsPossibleAtPositions}
use Rattle.ot_audit.specs.Searchable.{IsSearchable}

few_enough : (n most : ℕ) → n ≤ most → most ≤ 99999 → n < 2 ^ 32
few_enough n most h g = omega arith

possible_at_positions :
    (w : List Lit) → IsPossible w → ((v : ℕ → ℤ) → v 0 ≡ pos 0 → AreMet v w → HasNoNegativePosition w v)
    → IsPossibleAtPositions w
possible_at_positions w (v, z, met) positions = (v, z, met, positions v z met)

-- what the laws say of answers that lead to an end
abbrev pub AnswersAreLike : Type 0
AnswersAreLike = (why : Why) (p : Plan Why) (w : List Lit) → AsksLike p → LeadTo why p w → AreLike w

abbrev pub AnswersAreFew : Type 0
AnswersAreFew = (why : Why) (p : Plan Why) (w : List Lit) → LeadTo why p w → length w ≤ longest_path p

abbrev pub AnswersAreNamed : Type 0
AnswersAreNamed = (count : ℕ) (why : Why) (p : Plan Why) (w : List Lit) → IsFine count p
    → LeadTo why p w → AreNamed count w

abbrev pub AnswersAreSmall : Type 0
AnswersAreSmall = (count : ℕ) (why : Why) (p : Plan Why) (w : List Lit) → IsFine count p → LeadTo why p w → AreSmall w

-- literals of answers to a failing end, as the least values want them
pub record AreWanted (k l : Kind) (w : List Lit) : Type 0 where
  pub like : AreLike w
  pub named : AreNamed (name_count (Pair k l)) w
  pub small : AreSmall w
  pub few : length w < 2 ^ 32
  pub possible : IsPossibleAtPositions w

-- the answers that lead to a failing end of a goal that may be searched are what the least values want
wanted :
    AnswersAreLike → AnswersAreFew → AnswersAreNamed → AnswersAreSmall → (f : Function) (k l : Kind) (g : GoalTree)
    (why : Why) (w : List Lit) → IsSearchable f k l g → LeadTo why (ask_goal f g) w → IsPossible w → AreWanted k l w
wanted like few named small f k l g why w searchable lead possible =
    let p = ask_goal f g in
    record {
      like = like why p w searchable.like lead;
      named = named 9 why p w searchable.fine lead;
      small = small 9 why p w searchable.fine lead;
      few = few_enough (length w) (longest_path p) (few why p w lead) searchable.fine.paths;
      possible = possible_at_positions w possible (λ v zero met. searchable.positions why w v lead zero met);
    }

-- the answers of the end at which a search stops are possible
end_possible :
    (o : Option (FailingEnd Why)) (e : FailingEnd Why) → o ≡ Some e
    → MatchOption o (Unit {0}) (λ x. IsPossible x.answers)
    → IsPossible e.answers
end_possible o e is possible =
    subst (λ (x : Option (FailingEnd Why)). MatchOption x (Unit {0}) (λ y. IsPossible y.answers)) is possible

pub stopped_wanted :
    AnswersAreLike → AnswersAreFew → AnswersAreNamed → AnswersAreSmall
    → (f : Function) (k l : Kind) (g : GoalTree) (budget : ℕ)
    (o : Outcome Why) (answers : Vec Answer Global) (why : Why) → IsSearchable f k l g
    → IsDecided (ask_goal f g) budget o
    → o ≡ No answers why → AreWanted k l (answered_by answers.items)
stopped_wanted like few named small f k l g budget o answers why searchable decided is =
    let told = subst (λ (x : Outcome Why). Decides (ask_goal f g) budget decided.questions x) is decided.decided in
    wanted like few named small f k l g why (answered_by answers.items) searchable
    (literals_lead why (ask_goal f g) answers.items told.2)
    (end_possible decided.questions.failing (record { answers = answered_by answers.items; why = why })
    told.1 decided.possible.1)
