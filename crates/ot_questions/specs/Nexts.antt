-- How a plan begins, and how it goes on after answers.
use Rattle.std.specs.Prelude.{Bool, List}
use Rattle.ask_core.specs.Plans as plans
use Rattle.ask_core.specs.Plans.{Plan, after_answers}
use Rattle.ot_questions.specs.declared.next.Next.{Next}
use Rattle.ot_questions.specs.declared.next.Next.TheVariants.{Asked, Holds, Fails}
use Rattle.ot_questions.specs.declared.why.Why.{Why}

-- what a plan does first
abbrev pub beginning_of : Plan Why → Next
beginning_of (plans.Ask lit on_yes on_no) = Asked lit
beginning_of plans.Holds = Holds
beginning_of (plans.Fails why) = Fails why

-- what comes next in a plan after the answers
abbrev pub next_after : Plan Why → List Bool → Next
next_after p w = beginning_of (after_answers p w)
