-- What the rules keep of the starts of a goal: all of them, but that a choice of the first case has one.
use Rattle.std.proofs.Common.{◌≡◌, ℕ, zero, suc, ◌+◌, ◌-◌, ◌<◌, ◌+ℤ◌, Bool, true, false, if◌then◌else◌, Option, Some}
use Rattle.std.proofs.Common.{None, List, [], ◌∷◌, ◌++◌, drop, take, slice_set, length, refl, ap, sym, subst, ◌∙◌}
use Rattle.std.proofs.Common.{arith}
use Rattle.std.specs.Ordering.{int_eq}
use Rattle.ot_model.specs.declared.op.Kind.{Kind}
use Rattle.ot_model.specs.declared.op.Mode.{Mode}
use Rattle.fn_rules.specs.declared.function.ObName.{ObName}
use Rattle.fn_rules.specs.declared.function.ObName.TheVariants.{Pair, Triple}
use Rattle.fn_rules.specs.Functions.{Function, GuardedCase}
use Rattle.ask_core.specs.Plans.{Plan}
use Rattle.proof_trees.specs.Starts as trees
use Rattle.proof_trees.specs.Starts.{Ask}
use Rattle.proof_trees.specs.Startless.{startless}
use Rattle.ot_questions.specs.declared.cell.Finished.{Finished}
use Rattle.ot_questions.specs.declared.cell.Source.{Source}
use Rattle.ot_questions.specs.declared.cell.Source.TheVariants as sources
use Rattle.ot_questions.specs.declared.place.Place.{Place}
use Rattle.ot_questions.specs.declared.place.SymOp.{SymOp}
use Rattle.ot_questions.specs.declared.why.Why.{Why}
use Rattle.ot_questions.specs.declared.why.Why.TheVariants.{Lengths}
use Rattle.ot_questions.specs.Places.{sym_kind, sym_at, sym_result, growth}
use Rattle.ot_questions.specs.Questions.{ask_places}
use Rattle.ot_questions.specs.Reading.{cells_cause, is_same_flag}
use Rattle.ot_terms.specs.declared.goal.GoalProgress.{GoalProgress}
use Rattle.ot_terms.specs.Belonging.{IsGoalOf, IsProgressOf, next_operands}
use Rattle.ot_terms.specs.Cells as cells
use Rattle.ot_terms.specs.Cells.{CellTree}
use Rattle.ot_terms.specs.Changes.{doc_of}
use Rattle.ot_terms.specs.Forms.{FormTree}
use Rattle.ot_terms.specs.Goals.{GoalTree, Holds, Fails, If, Choose, Deliver, Same}
use Rattle.ot_terms.specs.Placing.{guard_form}
use Rattle.ot_terms.specs.Standing.{ask_form, ask_goal, ask_after, results_of}
use Rattle.ot_terms.specs.Weights.{transforms_of}
use Rattle.ot_terms.proofs.ByForms.{form_through}
use Rattle.cell_rules.specs.Cells.{read_step, finished_cell}
use Rattle.ot_rewrite.specs.Ends.{end_goal, end_of_pair, end_of_triple, same_documents, same_lengths, one_place}
use Rattle.ot_rewrite.specs.Table.{rewrite_if, choose_case, choose_by_kinds, rewrite_choose, with_result, go_on}
use Rattle.ot_rewrite.specs.Table.{rewrite_deliver, same_source, both_finished, parted, rewrite_right, rewrite_left}
use Rattle.ot_rewrite.specs.Table.{rewrite_same, rewritten}
use Rattle.ot_rewrite.proofs.FormsThrough.{by_name, rule_through}
use Rattle.start_laws.specs.Begun.{start_after}
use Rattle.start_laws.specs.Starts.{Start}
use Rattle.start_laws.specs.Marking.{Marked, with_start, marked_places, marked_form, marked_cases, marked_by_kinds}
use Rattle.start_laws.specs.Marking.{marked_transform, marked_next, marked_after, marked_with, marked_goal}
use Rattle.start_laws.specs.Settled.{is_begun}

-- a list behind the element at a number
drop_next : {X : Type 0} (xs : List X) (n : ℕ) (y : X) (ys : List X) → drop n xs ≡ y ∷ ys → drop (suc n) xs ≡ ys
drop_next [] zero y ys e = absurd (cc)
drop_next [] (suc n) y ys e = absurd (cc)
drop_next (x ∷ xs) zero y ys e = cc
drop_next (x ∷ xs) (suc n) y ys e = drop_next xs n y ys e

taken_set : {X : Type 0} (xs : List X) (n : ℕ) (x : X) → n < length xs
    → take (suc n) (slice_set xs n x) ≡ take n xs ++ x ∷ []
taken_set [] n x h = absurd (omega arith)
taken_set (y ∷ ys) zero x h = refl
taken_set (y ∷ ys) (suc n) x h = ap (λ t. y ∷ t) (taken_set ys n x (omega arith))

-- there is room for one more result
within_room : (ob : ObName) (progress : GoalProgress) → IsProgressOf ob progress → progress.count < length progress.got
within_room (Pair k l) progress h = let room : length progress.got ≡ 6 = h.room in
    let awaited : progress.count < 2 = h.awaited in omega arith
within_room (Triple k l m) progress h = let room : length progress.got ≡ 6 = h.room in
    let awaited : progress.count < 6 = h.awaited in omega arith

-- goals in which no transformation is left
abbrev IsQuiet : GoalTree → Type 0
IsQuiet Holds = Unit {0}
IsQuiet (Fails why) = Unit {0}
IsQuiet (If g on_yes on_no) = IsQuiet on_yes × IsQuiet on_no
IsQuiet (Choose case a b progress) = ⊥
IsQuiet (Deliver o progress) = ⊥
IsQuiet (Same left right) = Unit {0}

-- a form in front of two plans without starts has none
form_startless : (g : FormTree) (p q : Plan Why)
    → marked_form g (startless p) (startless q) ≡ startless (ask_form g p q)
unfolding marked_form ask_form
form_startless g p q = sym (form_through ask_places marked_places startless (λ x y p q differ. refl) g p q)

module _ (f : Function) where
  -- a goal in which no transformation is left has no starts
  quiet_startless : (g : GoalTree) → IsQuiet g → marked_goal f g ≡ startless (ask_goal f g)
  unfolding marked_goal ask_goal
  quiet_startless Holds h = refl
  quiet_startless (Fails why) h = refl
  quiet_startless (If g on_yes on_no) h =
      ap (λ t. marked_form g t (marked_goal f on_no)) (quiet_startless on_yes h.0)
      ∙ ap (λ t. marked_form g (startless (ask_goal f on_yes)) t) (quiet_startless on_no h.1)
      ∙ form_startless g (ask_goal f on_yes) (ask_goal f on_no)
  quiet_startless (Choose case a b progress) h = absurd h
  quiet_startless (Deliver o progress) h = absurd h
  quiet_startless (Same left right) h = refl

  -- the ends of obligations are quiet
  quiet_if : (t : Bool) (g h : GoalTree) → IsQuiet g → IsQuiet h → IsQuiet (if t then g else h)
  quiet_if true g h p q = p
  quiet_if false g h p q = q

  quiet_lengths : (mode : Mode) (a x b y : SymOp) → IsQuiet (same_lengths mode a x b y)
  quiet_lengths mode a x b y =
      let left = growth mode a +ℤ growth mode x in
      let documents = same_documents (doc_of mode (x ∷ a ∷ [])) (doc_of mode (y ∷ b ∷ [])) left in
      quiet_if (int_eq left (growth mode b +ℤ growth mode y)) documents (Fails Lengths) ((tt, tt), tt) tt

  quiet_place : (k l : Option Kind) (at there : Place) → IsQuiet (one_place k l at there)
  quiet_place None None at there = tt
  quiet_place None (Some l) at there = tt
  quiet_place (Some k) None at there = tt
  quiet_place (Some k) (Some l) at there = (tt, tt)

  quiet_pair : (mode : Mode) (os got : List SymOp) → IsQuiet (end_of_pair mode os got)
  quiet_pair mode [] got = tt
  quiet_pair mode (a ∷ []) got = tt
  quiet_pair mode (a ∷ b ∷ os) [] = tt
  quiet_pair mode (a ∷ b ∷ os) (x ∷ []) = tt
  quiet_pair mode (a ∷ b ∷ os) (x ∷ y ∷ got) = ((quiet_lengths mode a x b y, tt), tt)

  quiet_triple : (got : List SymOp) → IsQuiet (end_of_triple got)
  quiet_triple [] = tt
  quiet_triple (x ∷ []) = tt
  quiet_triple (x ∷ y ∷ []) = tt
  quiet_triple (x ∷ y ∷ left ∷ []) = tt
  quiet_triple (x ∷ y ∷ left ∷ u ∷ []) = tt
  quiet_triple (x ∷ y ∷ left ∷ u ∷ v ∷ []) = tt
  quiet_triple (x ∷ y ∷ left ∷ u ∷ v ∷ right ∷ got) =
      quiet_place (sym_kind left) (sym_kind right) (sym_at left) (sym_at right)

  quiet_end : (mode : Mode) (ob : ObName) (os got : List SymOp) → IsQuiet (end_goal mode ob os got)
  quiet_end mode (Pair k l) os got = quiet_pair mode os got
  quiet_end mode (Triple k l m) os got = quiet_triple got

  -- so are the goals that comparisons lead to
  abbrev QuietIf : Option GoalTree → Type 0
  QuietIf None = Unit {0}
  QuietIf (Some g) = IsQuiet g

  quiet_source : (s t : Source) (why : Why) → IsQuiet (same_source s t why)
  quiet_source (sources.Base off) (sources.Base there) why = quiet_if (int_eq off there) Holds (Fails why) tt tt
  quiet_source (sources.Base off) (sources.Named d) why = tt
  quiet_source (sources.Named c) (sources.Base off) why = tt
  quiet_source (sources.Named c) (sources.Named d) why = (tt, tt)

  quiet_finished : (x y : Option Finished) → QuietIf (both_finished x y)
  quiet_finished (Some x) (Some y) =
      quiet_if (is_same_flag x.flag y.flag) (same_source x.source y.source (cells_cause x y)) (Fails (cells_cause x y))
      (quiet_source x.source y.source (cells_cause x y)) tt
  quiet_finished None y = tt
  quiet_finished (Some x) None = tt

  quiet_parted :
      (cell : CellTree) (go : CellTree → GoalTree) (finished : Option GoalTree)
      → ((c : CellTree) → IsQuiet (go c)) → QuietIf finished
      → QuietIf (parted cell go finished)
  quiet_parted (cells.At d at) go finished each h = h
  quiet_parted (cells.Char ch) go finished each h = h
  quiet_parted (cells.Dead cell) go finished each h = h
  quiet_parted (cells.Over ch cell) go finished each h = h
  quiet_parted (cells.If g on_yes on_no) go finished each h = (each on_yes, each on_no)

  quiet_right : (left right : CellTree) (read : Option CellTree) → QuietIf (rewrite_right left right read)
  quiet_right left right (Some read) = tt
  quiet_right left right None =
      quiet_parted right (λ r. Same left r) (both_finished (finished_cell left) (finished_cell right)) (λ c. tt)
      (quiet_finished (finished_cell left) (finished_cell right))

  quiet_left : (left right : CellTree) (read : Option CellTree) → QuietIf (rewrite_left left right read)
  quiet_left left right (Some read) = tt
  quiet_left left right None =
      quiet_parted left (λ l. Same l right) (rewrite_right left right (read_step right)) (λ c. tt)
      (quiet_right left right (read_step right))

  -- what a rule makes of a goal with these starts
  abbrev inner_marks : GoalTree → Marked
  inner_marks Holds = marked_goal f Holds
  inner_marks (Fails why) = marked_goal f (Fails why)
  inner_marks (If g on_yes on_no) = marked_goal f (If g on_yes on_no)
  inner_marks (Choose case a b progress) = marked_transform f case a b (marked_with f progress)
  inner_marks (Deliver o progress) = marked_goal f (Deliver o progress)
  inner_marks (Same left right) = marked_goal f (Same left right)

  abbrev named : (g h : GoalTree) (p : Marked) → Some g ≡ Some h → marked_goal f g ≡ p → marked_goal f h ≡ p
  named = by_name (marked_goal f)

  if_marks :
      (g : FormTree) (y n h : GoalTree) → rewrite_if g y n ≡ Some h
      → marked_goal f h ≡ marked_form g (marked_goal f y) (marked_goal f n)
  unfolding marked_goal marked_form
  if_marks = rule_through marked_places (marked_goal f) (λ g y n. refl)

  -- the next case, with those after it
  module _ (case : ℕ) (a b : SymOp) (progress : GoalProgress) where
    later_marks :
        (k l : Kind) (c : GuardedCase) (cs : List GuardedCase) → sym_kind a ≡ Some k → sym_kind b ≡ Some l
        → drop case (f.cases k l) ≡ c ∷ cs
        → marked_transform f (suc case) a b (marked_with f progress) ≡ marked_cases cs a b (marked_with f progress)
    unfolding marked_by_kinds
    later_marks k l c cs ka kb e =
        rw ka (rw kb (ap (λ t. marked_cases t a b (marked_with f progress)) (drop_next (f.cases k l) case c cs e)))

    case_marks :
        (k l : Kind) (cs : List GuardedCase) → sym_kind a ≡ Some k → sym_kind b ≡ Some l → drop case (f.cases k l) ≡ cs
        → marked_goal f (choose_case cs case a b progress) ≡ marked_cases cs a b (marked_with f progress)
    unfolding marked_goal marked_cases
    case_marks k l [] ka kb e = refl
    case_marks k l (c ∷ cs) ka kb e =
        ap (λ t. marked_form (guard_form c.guard a b) (marked_with f progress (sym_result c.res a b)) t)
        (later_marks k l c cs ka kb e)

    choice_marks :
        (k l : Option Kind) → sym_kind a ≡ k → sym_kind b ≡ l
        → marked_goal f (choose_by_kinds f case a b k l progress)
        ≡ marked_by_kinds f case a b k l (marked_with f progress)
    unfolding marked_goal marked_by_kinds
    choice_marks None l ka kb = refl
    choice_marks (Some k) None ka kb = refl
    choice_marks (Some k) (Some l) ka kb = case_marks k l (drop case (f.cases k l)) ka kb refl

  -- one more result
  module _ (ob : ObName) (r : SymOp) (progress : GoalProgress)
      (asked : ask_goal f (rewrite_deliver f r progress) ≡ ask_goal f (Deliver r progress))
      (belongs : IsGoalOf f ob (rewrite_deliver f r progress)) (same_ob : progress.ob ≡ ob)
      (room : progress.count < length progress.got) where
    abbrev got : List SymOp
    got = results_of (with_result progress r)

    got_is : got ≡ results_of progress ++ r ∷ []
    got_is = taken_set progress.got progress.count r room

    -- where a transformation follows, its result is still to come
    more_awaited :
        (pair : SymOp × SymOp) → next_operands progress.ob progress.ops got ≡ Some pair
        → suc progress.count < transforms_of progress.ob
    more_awaited pair e =
        let choice : IsGoalOf f ob (go_on f (with_result progress r) (Some pair))
        = subst (λ o. IsGoalOf f ob (go_on f (with_result progress r) o)) e belongs in
        subst (λ o. suc progress.count < transforms_of o) (sym same_ob) choice.parts.progress.awaited

    end_marks : next_operands progress.ob progress.ops got ≡ None
        → marked_goal f (go_on f (with_result progress r) None) ≡ startless (ask_after f progress.ob progress.ops got)
    unfolding ask_goal
    end_marks e =
        quiet_startless (end_goal f.head.mode progress.ob progress.ops got)
        (quiet_end f.head.mode progress.ob progress.ops got)
        ∙ ap (λ t. startless t)
        (subst (λ o. ask_goal f (go_on f (with_result progress r) o) ≡ ask_goal f (Deliver r progress)) e asked
        ∙ ap (ask_after f progress.ob progress.ops) (sym got_is))

    -- what comes after the result, the next transformation or the end, has the starts of what is left
    go_on_marks :
        (most : ℕ) (next : Option (SymOp × SymOp)) → most ≡ transforms_of progress.ob - (1 + progress.count)
        → next_operands progress.ob progress.ops got ≡ next
        → marked_goal f (go_on f (with_result progress r) next) ≡ marked_after most f progress.ob progress.ops got
    unfolding marked_goal marked_after marked_next
    go_on_marks zero None left e = end_marks e
    go_on_marks zero (Some pair) left e =
        let more : suc progress.count < transforms_of progress.ob = more_awaited pair e in absurd (omega arith)
    go_on_marks (suc most) None left e = end_marks e ∙ sym (rw e refl)
    go_on_marks (suc most) (Some pair) left e =
        let same : transforms_of progress.ob - (1 + suc progress.count) ≡ most = omega arith in
        let next_plan : ℕ → Marked = λ n. with_start (Some (start_after (with_result progress r) None))
        (marked_transform f 0 pair.0 pair.1 (λ x. marked_after n f progress.ob progress.ops (got ++ x ∷ []))) in
        let after : marked_after (suc most) f progress.ob progress.ops got ≡ next_plan most = rw e refl in
        ap next_plan same ∙ sym after

    deliver_marks : marked_goal f (rewrite_deliver f r progress) ≡ marked_with f progress r
    deliver_marks =
        go_on_marks (transforms_of progress.ob - (1 + progress.count))
        (next_operands progress.ob progress.ops got) refl refl
        ∙ ap (marked_after (transforms_of progress.ob - (1 + progress.count)) f progress.ob progress.ops) got_is

  module _ (ob : ObName)
      (asks : (g h : GoalTree) → IsGoalOf f ob g → rewritten f g ≡ Some h → ask_goal f h ≡ ask_goal f g)
      (stays : (g h : GoalTree) → IsGoalOf f ob g → rewritten f g ≡ Some h → IsGoalOf f ob h) where
    same_marks :
        (left right : CellTree) (h : GoalTree) (o : Option GoalTree) → rewrite_same left right ≡ o → o ≡ Some h
        → ask_goal f h ≡ ask_goal f (Same left right) → QuietIf o → marked_goal f h ≡ marked_goal f (Same left right)
    unfolding marked_goal
    same_marks left right h None is e asked quiet = absurd (cc)
    same_marks left right h (Some g) is e asked quiet =
        named g h _ e (quiet_startless g quiet
        ∙ ap (λ t. startless t) (let same : g ≡ h = cc in ap (ask_goal f) same ∙ asked))

    -- each rule keeps the starts, but for the one of a choice of the first case
    pub rule_marks : (g h : GoalTree) → IsGoalOf f ob g → rewritten f g ≡ Some h → marked_goal f h ≡ inner_marks g
    unfolding rewritten marked_goal
    rule_marks Holds h of e = absurd (cc)
    rule_marks (Fails why) h of e = absurd (cc)
    rule_marks (If g on_yes on_no) h of e = if_marks g on_yes on_no h e
    rule_marks (Choose case a b progress) h of e =
        named (rewrite_choose f case a b progress) h _ e
        (choice_marks case a b progress (sym_kind a) (sym_kind b) refl refl)
    rule_marks (Deliver r progress) h of e =
        named (rewrite_deliver f r progress) h _ e
        (deliver_marks ob r progress (asks (Deliver r progress) (rewrite_deliver f r progress) of refl)
        (stays (Deliver r progress) (rewrite_deliver f r progress) of refl) of.parts.0.same
        (within_room ob progress of.parts.0))
    rule_marks (Same left right) h of e =
        same_marks left right h (rewrite_same left right) refl e (asks (Same left right) h of e)
        (quiet_left left right (read_step left))

-- the start at the front is lost where the first case of a choice is tried, and nowhere else
with_start-twice : (s t : Option Start) (p : Marked) → with_start s (with_start t p) ≡ with_start s p
with_start-twice s t (Ask other l on_yes on_no) = refl
with_start-twice s t (trees.Holds other) = refl
with_start-twice s t (trees.Fails other why) = refl

module _ (f : Function) where
  inner_opened : (g : GoalTree) → with_start None (inner_marks f g) ≡ with_start None (marked_goal f g)
  unfolding marked_goal
  inner_opened Holds = refl
  inner_opened (Fails why) = refl
  inner_opened (If g on_yes on_no) = refl
  inner_opened (Choose zero a b progress) = sym (with_start-twice None (Some (start_after progress None)) _)
  inner_opened (Choose (suc case) a b progress) = refl
  inner_opened (Deliver o progress) = refl
  inner_opened (Same left right) = refl

  inner_same : (g : GoalTree) → is_begun g ≡ false → inner_marks f g ≡ marked_goal f g
  unfolding marked_goal
  inner_same Holds e = refl
  inner_same (Fails why) e = refl
  inner_same (If g on_yes on_no) e = refl
  inner_same (Choose zero a b progress) e = absurd (cc)
  inner_same (Choose (suc case) a b progress) e = refl
  inner_same (Deliver o progress) e = refl
  inner_same (Same left right) e = refl

  module _ (ob : ObName)
      (asks : (g h : GoalTree) → IsGoalOf f ob g → rewritten f g ≡ Some h → ask_goal f h ≡ ask_goal f g)
      (stays : (g h : GoalTree) → IsGoalOf f ob g → rewritten f g ≡ Some h → IsGoalOf f ob h) where
    pub rule_opens :
        (g h : GoalTree) → IsGoalOf f ob g → rewritten f g ≡ Some h
        → with_start None (marked_goal f h) ≡ with_start None (marked_goal f g)
    rule_opens g h of e = ap (with_start None) (rule_marks f ob asks stays g h of e) ∙ inner_opened g

    pub rule_keeps_starts :
        (g h : GoalTree) → IsGoalOf f ob g → rewritten f g ≡ Some h → is_begun g ≡ false
        → marked_goal f h ≡ marked_goal f g
    rule_keeps_starts g h of e none = rule_marks f ob asks stays g h of e ∙ inner_same g none
