-- A function to begin with, for each head.
use Rattle.std.specs.Prelude.{pos, Bool, true, false, List, [], ◌∷◌, if◌then◌else◌}
use Rattle.std.specs.List.{flat_map, list_any}
use Rattle.ot_model.specs.declared.op.Kind.{Kind}
use Rattle.ot_model.specs.declared.op.Kind.TheVariants.{Ins, Del, Upd}
use Rattle.ot_model.specs.declared.op.TheConstants.{KINDS}
use Rattle.ot_model.specs.declared.op.Mode.{Mode}
use Rattle.ot_model.specs.declared.op.Mode.TheVariants.{Plain, Tomb}
use Rattle.ot_model.specs.Kinds.{kind_pairs}
use Rattle.fn_rules.specs.declared.guard.Side.TheVariants.{First}
use Rattle.fn_rules.specs.declared.guard.Sort.{Sort}
use Rattle.fn_rules.specs.declared.guard.Sort.TheVariants.{Site, Char}
use Rattle.fn_rules.specs.declared.guard.Cmp.TheVariants.{Lt, Le, Eq}
use Rattle.fn_rules.specs.declared.function.Head.{Head}
use Rattle.fn_rules.specs.declared.function.Res.TheVariants as results
use Rattle.fn_rules.specs.Formulas.{Formula, Always, Compare, And, Or}
use Rattle.fn_rules.specs.Functions.{Function, GuardedCase, is_declared, is_declared_of}
use Rattle.fn_rules.specs.Building.{PairCases, function_from}
use Rattle.fn_rules.specs.Shipped.{block, p1_to_p2, p2_to_p1, p1_plus, when}
use Rattle.fn_rules.specs.Shipped.{stays, moved_up, moved_down, moved_down_or_gone}

-- what a tie goes by: the site where sites differ, and otherwise the character
abbrev pub tie_sort : Bool → Sort
tie_sort true = Site
tie_sort false = Char

-- the first operation has the lower site or character, or one of both
abbrev pub is_lower : Bool → Formula
is_lower by_site = Compare (record { sort = tie_sort by_site; left = First; cmp = Le; k = pos 0 })

-- two insertions: the smaller position, and at one position the lower one, stays
abbrev pub lower_stays : Bool → List GuardedCase
lower_stays by_site =
    when (Or (p1_to_p2 Lt (pos 0)) (And (p1_to_p2 Eq (pos 0)) (is_lower by_site))) (p1_plus (pos 0))
    ∷ when Always (p1_plus (pos 1))
    ∷ []

-- two updates: of one cell the lower one stays
abbrev pub lower_updates : Bool → List GuardedCase
lower_updates by_site =
    when (Or (Or (p1_to_p2 Lt (pos 0)) (p2_to_p1 Lt)) (is_lower by_site)) (p1_plus (pos 0))
    ∷ when Always results.Nop
    ∷ []

-- behind a deletion: nothing moves where it leaves a tombstone
abbrev pub behind_deletion : Mode → List GuardedCase → List GuardedCase
behind_deletion Plain cases = cases
behind_deletion Tomb cases = stays

-- the cases for each pair of kinds
abbrev pub template_cases : Head → Kind → Kind → List GuardedCase
template_cases head Ins Ins = lower_stays head.sites_differ
template_cases head Ins Del = behind_deletion head.mode moved_down
template_cases head Ins Upd = stays
template_cases head Del Ins = moved_up
template_cases head Del Del = behind_deletion head.mode moved_down_or_gone
template_cases head Del Upd = stays
template_cases head Upd Ins = moved_up
template_cases head Upd Del = behind_deletion head.mode moved_down_or_gone
template_cases head Upd Upd = lower_updates head.sites_differ

-- the block of a pair of kinds, where the head declares it
abbrev pub declared_block : Head → Kind × Kind → List PairCases
declared_block head pair =
    if is_declared_of head pair then block pair.0 pair.1 (template_cases head pair.0 pair.1) ∷ [] else []

-- these blocks, in canonical order
abbrev pub template_blocks : Head → List PairCases
template_blocks head = flat_map (declared_block head) kind_pairs

-- the function to begin with
abbrev pub template_of : Head → Function
template_of head = function_from head (template_blocks head)

-- the head declares some kind
abbrev pub has_kind : Head → Bool
has_kind head = list_any (is_declared head) KINDS
