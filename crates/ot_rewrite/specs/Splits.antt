-- Where the rules of a form end, and the forms that are left behind its first question.
use Rattle.std.specs.Prelude.{◌≡◌, ◌≢◌, ℕ, ◌+◌, ◌<◌, ℤ, negsuc, Bool, true, false, if◌then◌else◌, nat_eq, int_le}
use Rattle.std.specs.Prelude.{Option, Some, None}
use Rattle.std.specs.Ordering.{int_eq}
use Rattle.fn_rules.specs.Functions.{Function}
use Rattle.ask_core.specs.Plans.{Plan}
use Rattle.ot_questions.specs.declared.place.Place.{Place}
use Rattle.ot_questions.specs.declared.why.Why.{Why}
use Rattle.ot_questions.specs.Nears.{IsNear}
use Rattle.ot_questions.specs.Places.{plus, integer_at}
use Rattle.ot_questions.specs.Questions.{ask_le}
use Rattle.ot_terms.specs.Forms as forms
use Rattle.ot_terms.specs.Forms.{FormTree, form_tree, form_holds}
use Rattle.ot_terms.specs.Goals.{GoalTree, If}
use Rattle.ot_terms.specs.Standing.{ask_form}
use Rattle.ot_terms.specs.Belonging.{IsPlace, HasPlaces}
use Rattle.ot_rewrite.specs.declared.question.Split.{Split}
use Rattle.ot_rewrite.specs.declared.question.Split.TheVariants as rust
use Rattle.ot_rewrite.specs.Table.{rewritten}

-- the first question of a form, with the forms that are left behind either answer; or the truth where nothing
-- is asked
pub data SplitTree : Type 0 where
  Yes : SplitTree
  No : SplitTree
  Ask : Place → Place → FormTree → FormTree → SplitTree

abbrev pub split_tree : Split → SplitTree
split_tree rust.Yes = Yes
split_tree rust.No = No
split_tree (rust.Ask x y if_yes if_no) = Ask x y (form_tree if_yes.now) (form_tree if_no.now)

abbrev pub first_question : SplitTree → Option (Place × Place)
first_question Yes = None
first_question No = None
first_question (Ask x y if_yes if_no) = Some (x, y)

-- rules lead from one goal to another
pub data RulesLeadTo (f : Function) : GoalTree → GoalTree → Type 0 where
  there : {g : GoalTree} → RulesLeadTo f g g
  by_rule : {g h k : GoalTree} → rewritten f g ≡ Some h → RulesLeadTo f h k → RulesLeadTo f g k

-- where the rules end that begin with the form, whatever the two goals are: in the first one
abbrev pub EndsInYes : FormTree → Type 0
EndsInYes g = (f : Function) (on_yes on_no : GoalTree) → RulesLeadTo f (If g on_yes on_no) on_yes

-- in the second one
abbrev pub EndsInNo : FormTree → Type 0
EndsInNo g = (f : Function) (on_yes on_no : GoalTree) → RulesLeadTo f (If g on_yes on_no) on_no

-- or at the question whether one place is at most another, of two different names
abbrev pub EndsAtQuestion : Place → Place → FormTree → Type 0
EndsAtQuestion x y g =
    (x.var ≢ y.var)
    × ((f : Function) (on_yes on_no : GoalTree)
    → (if_yes if_no : GoalTree) × RulesLeadTo f (If g on_yes on_no) (If (forms.Le x y) if_yes if_no))

-- the truth of what a form is split into
abbrev pub split_holds : (ℕ → ℤ) → SplitTree → Bool
split_holds v Yes = true
split_holds v No = false
split_holds v (Ask x y if_yes if_no) = if int_le (integer_at v x) (integer_at v y) then form_holds v if_yes
    else form_holds v if_no

-- what it asks: its question, and then what the form behind the answer asks
abbrev pub ask_split : SplitTree → Plan Why → Plan Why → Plan Why
ask_split Yes on_yes on_no = on_yes
ask_split No on_yes on_no = on_no
ask_split (Ask x y if_yes if_no) on_yes on_no = ask_le x y (ask_form if_yes on_yes on_no) (ask_form if_no on_yes on_no)

-- how many comparisons of a form are left to be asked; an equality is two
abbrev pub comparisons_left : FormTree → ℕ
comparisons_left forms.True = 0
comparisons_left (forms.Le x y) = 1
comparisons_left (forms.Lt x y) = 1
comparisons_left (forms.Eq x y) = 2
comparisons_left (forms.And g h) = comparisons_left g + comparisons_left h
comparisons_left (forms.Or g h) = comparisons_left g + comparisons_left h
comparisons_left (forms.Not g) = comparisons_left g

-- both forms that are left have fewer of them
abbrev pub HasFewer : FormTree → SplitTree → Type 0
HasFewer g Yes = Unit {0}
HasFewer g No = Unit {0}
HasFewer g (Ask x y if_yes if_no) = (comparisons_left if_yes < comparisons_left g)
    × (comparisons_left if_no < comparisons_left g)

-- the names and offsets are such as those of a form are to be
abbrev pub HasSplitPlaces : ℕ → SplitTree → Type 0
HasSplitPlaces count Yes = Unit {0}
HasSplitPlaces count No = Unit {0}
HasSplitPlaces count (Ask x y if_yes if_no) = IsPlace count x × IsPlace count y × HasPlaces count if_yes
    × HasPlaces count if_no

-- the offsets that are lowered by one are small
abbrev pub HasLowOffsets : FormTree → Type 0
HasLowOffsets forms.True = Unit {0}
HasLowOffsets (forms.Le x y) = Unit {0}
HasLowOffsets (forms.Lt x y) = IsNear 999 y.off
HasLowOffsets (forms.Eq x y) = Unit {0}
HasLowOffsets (forms.And g h) = HasLowOffsets g × HasLowOffsets h
HasLowOffsets (forms.Or g h) = HasLowOffsets g × HasLowOffsets h
HasLowOffsets (forms.Not g) = HasLowOffsets g

-- the forms behind the question of a comparison are true and false
abbrev pub split_le : Place → Place → SplitTree
split_le x y =
    if nat_eq x.var y.var then (if int_le x.off y.off then Yes else No) else Ask x y forms.True (forms.Not forms.True)

abbrev pub split_eq : Place → Place → SplitTree
split_eq x y =
    if nat_eq x.var y.var then (if int_eq x.off y.off then Yes else No)
    else Ask x y (forms.Le y x) (forms.Not forms.True)

-- the second form comes behind the first, where that leaves it open
abbrev pub split_and : SplitTree → FormTree → SplitTree → SplitTree
split_and Yes h second = second
split_and No h second = No
split_and (Ask x y if_yes if_no) h second = Ask x y (forms.And if_yes h) (forms.And if_no h)

abbrev pub split_or : SplitTree → FormTree → SplitTree → SplitTree
split_or Yes h second = Yes
split_or No h second = second
split_or (Ask x y if_yes if_no) h second = Ask x y (forms.Or if_yes h) (forms.Or if_no h)

abbrev pub split_not : SplitTree → SplitTree
split_not Yes = No
split_not No = Yes
split_not (Ask x y if_yes if_no) = Ask x y (forms.Not if_yes) (forms.Not if_no)

-- what a form is split into
abbrev pub split_of : FormTree → SplitTree
split_of forms.True = Yes
split_of (forms.Le x y) = split_le x y
split_of (forms.Lt x y) = split_le x (plus y (negsuc 0))
split_of (forms.Eq x y) = split_eq x y
split_of (forms.And g h) = split_and (split_of g) h (split_of h)
split_of (forms.Or g h) = split_or (split_of g) h (split_of h)
split_of (forms.Not g) = split_not (split_of g)
