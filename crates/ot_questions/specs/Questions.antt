-- The questions about operations, as plans that go on with other plans: each takes what follows where
-- the answer is yes and where it is no.
use Rattle.std.specs.Prelude.{ℕ, ℤ, pos, negsuc, ◌-ℤ◌, if◌then◌else◌, Option, Some, None, List, [], ◌∷◌}
use Rattle.ot_model.specs.declared.op.Kind.{Kind}
use Rattle.fn_rules.specs.declared.function.Head.{Head}
use Rattle.fn_rules.specs.declared.guard.Cmp.{Cmp}
use Rattle.fn_rules.specs.declared.guard.Cmp.TheVariants.{Lt, Le, Eq}
use Rattle.fn_rules.specs.declared.guard.Atom.{Atom}
use Rattle.fn_rules.specs.Formulas.{Formula, Always, Compare, And, Or, Not, of_side, other_side}
use Rattle.fn_rules.specs.Functions.{Function, GuardedCase, cases_of}
use Rattle.ask_core.specs.Plans.{Plan, Ask, Holds, Fails}
use Rattle.ot_questions.specs.declared.place.Place.{Place}
use Rattle.ot_questions.specs.declared.place.SymOp.{SymOp}
use Rattle.ot_questions.specs.declared.place.SymOp.TheVariants.{Ins, Del, Upd, Nop}
use Rattle.ot_questions.specs.declared.why.Why.{Why}
use Rattle.ot_questions.specs.declared.why.Why.TheVariants.{Undefined}
use Rattle.ot_questions.specs.Places.{place, zero_place, length_and, plus, by_order, sym_kind, sym_site, sym_char}
use Rattle.ot_questions.specs.Places.{sym_result, sym_thing}

-- whether the first place is at most the second, as a literal
abbrev pub ask_places : Place → Place → Plan Why → Plan Why → Plan Why
ask_places a b on_yes on_no = Ask (record { x = a.var; y = b.var; k = b.off -ℤ a.off }) on_yes on_no

-- the same, but for one name with itself, which the offsets decide
unfoldable pub ask_le : Place → Place → Plan Why → Plan Why → Plan Why
ask_le a b on_yes on_no = by_order ask_places a b on_yes on_no

-- whether it is less: at most the place before the second
unfoldable pub ask_lt : Place → Place → Plan Why → Plan Why → Plan Why
ask_lt a b on_yes on_no = ask_le a (plus b (negsuc 0)) on_yes on_no

-- whether the two are equal: each is at most the other
unfoldable pub ask_eq : Place → Place → Plan Why → Plan Why → Plan Why
ask_eq a b on_yes on_no = ask_le a b (ask_le b a on_yes on_no) on_no

unfoldable pub ask_compared : Cmp → Place → Place → Plan Why → Plan Why → Plan Why
ask_compared Lt a b on_yes on_no = ask_lt a b on_yes on_no
ask_compared Le a b on_yes on_no = ask_le a b on_yes on_no
ask_compared Eq a b on_yes on_no = ask_eq a b on_yes on_no

-- whether an atom is true at two operations
unfoldable pub ask_atom : Atom → SymOp → SymOp → Plan Why → Plan Why → Plan Why
ask_atom atom a b on_yes on_no =
    ask_compared atom.cmp
    (sym_thing atom.sort (of_side atom.left a b))
    (plus (sym_thing atom.sort (of_side (other_side atom.left) a b)) atom.k)
    on_yes on_no

-- whether a guard is true: the second part of `and` and `or` is asked only where the first leaves it open
unfoldable pub ask_guard : Formula → SymOp → SymOp → Plan Why → Plan Why → Plan Why
ask_guard Always a b on_yes on_no = on_yes
ask_guard (Compare atom) a b on_yes on_no = ask_atom atom a b on_yes on_no
ask_guard (And g h) a b on_yes on_no = ask_guard g a b (ask_guard h a b on_yes on_no) on_no
ask_guard (Or g h) a b on_yes on_no = ask_guard g a b on_yes (ask_guard h a b on_yes on_no)
ask_guard (Not g) a b on_yes on_no = ask_guard g a b on_no on_yes

-- the guards in their order, until one is true; goes on with its result, or with none where no guard is true
abbrev pub ask_first_result : List GuardedCase → SymOp → SymOp → (Option SymOp → Plan Why) → Plan Why
ask_first_result [] a b go = go None
ask_first_result (c ∷ cs) a b go =
    ask_guard c.guard a b (go (Some (sym_result c.res a b))) (ask_first_result cs a b go)

-- by the kinds of the two operations, which nop has not: where one is nop, nothing is asked
abbrev pub ask_result_by_kinds :
    Function → SymOp → SymOp → Option Kind → Option Kind → (Option SymOp → Plan Why) → Plan Why
ask_result_by_kinds f a b None other go = go (Some Nop)
ask_result_by_kinds f a b (Some k) None go = go (Some a)
ask_result_by_kinds f a b (Some k) (Some l) go = ask_first_result (cases_of f k l) a b go

-- what the first operation becomes after the second; goes on with none where no guard is true
abbrev pub ask_result : Function → SymOp → SymOp → (Option SymOp → Plan Why) → Plan Why
ask_result f a b go = ask_result_by_kinds f a b (sym_kind a) (sym_kind b) go

-- goes on with a result that there is; that there is none is a cause
abbrev pub or_undefined : (SymOp → Plan Why) → Option SymOp → Plan Why
or_undefined go None = Fails Undefined
or_undefined go (Some r) = go r

-- the same where it is a cause that no guard is true
unfoldable pub ask_transform : Function → SymOp → SymOp → (SymOp → Plan Why) → Plan Why
ask_transform f a b go = ask_result f a b (or_undefined go)

-- whether an operation is enabled on a document of the length plus an offset
unfoldable pub ask_enabled : SymOp → ℤ → Plan Why → Plan Why → Plan Why
ask_enabled (Ins at ch site) off on_yes on_no =
    ask_le zero_place at (ask_le at (length_and off) on_yes on_no) on_no
ask_enabled (Del at site) off on_yes on_no =
    ask_le zero_place at (ask_lt at (length_and off) on_yes on_no) on_no
ask_enabled (Upd at ch site) off on_yes on_no =
    ask_le zero_place at (ask_lt at (length_and off) on_yes on_no) on_no
ask_enabled Nop off on_yes on_no = on_yes

-- where both names are there, whether they stand for different integers; where not, nothing holds
unfoldable pub ask_differ : Option ℕ → Option ℕ → Plan Why → Plan Why
ask_differ None y next = next
ask_differ (Some x) None next = next
ask_differ (Some x) (Some y) next = ask_eq (place x (pos 0)) (place y (pos 0)) Holds next

-- whether the two operations differ in what is assumed to differ: first sites, then characters; where
-- they do not, nothing is to be shown
unfoldable pub ask_allowed : Head → SymOp → SymOp → Plan Why → Plan Why
ask_allowed head a b next =
    let chars = if head.chars_differ then ask_differ (sym_char a) (sym_char b) next else next in
    if head.sites_differ then ask_differ (sym_site a) (sym_site b) chars else chars
