-- What the rules of a comparison of two cells keep.
use Rattle.std.proofs.Common.{◌≡◌, ◌≢◌, ℕ, ◌<◌, ◌≤◌, pos, Bool, true, false, if◌then◌else◌, Option, Some, None}
use Rattle.std.proofs.Common.{option_map, refl, ap, sym, ◌∙◌, subst, arith}
use Rattle.std.proofs.lemmas.Int.{ints}
use Rattle.std.specs.Ordering.{int_eq}
use Rattle.ot_model.specs.declared.op.Mode.{Mode}
use Rattle.fn_rules.specs.declared.function.ObName.{ObName}
use Rattle.fn_rules.specs.declared.function.ObName.TheVariants.{Pair, Triple}
use Rattle.fn_rules.specs.Functions.{Function}
use Rattle.ask_core.specs.Plans.{Plan}
use Rattle.ask_core.specs.Plans as plans
use Rattle.ot_questions.specs.Questions.{ask_le, ask_lt, ask_eq}
use Rattle.ot_questions.specs.declared.cell.Finished.{Finished}
use Rattle.ot_questions.specs.declared.cell.Source.{Source}
use Rattle.ot_questions.specs.declared.cell.Source.TheVariants as sources
use Rattle.ot_questions.specs.declared.why.Why.{Why}
use Rattle.ot_questions.specs.Names.{name_count}
use Rattle.ot_questions.specs.Places.{place}
use Rattle.ot_questions.specs.Reading.{base_cell, put_cell, buried_cell, replaced_cell, is_same_flag, cells_cause}
use Rattle.ot_questions.specs.Reading.{ask_cell, ask_same_source, ask_same}
use Rattle.ot_terms.specs.Documents as documents
use Rattle.ot_terms.specs.Cells.{CellTree, At, Char, Dead, Over, If}
use Rattle.ot_terms.specs.Goals as goals
use Rattle.ot_terms.specs.Goals.{GoalTree, Same}
use Rattle.ot_terms.specs.Standing.{ask_form, ask_read, ask_goal}
use Rattle.ot_terms.specs.Weights.{goal_weight}
use Rattle.ot_terms.specs.Belonging.{IsPlace, IsCellOf, HasParts}
use Rattle.cell_rules.specs.Cells.{bury, replace, read_step, finished_cell}
use Rattle.ot_rewrite.specs.Table.{same_source, same_finished, both_finished, parted, rewrite_right, rewrite_left}
use Rattle.ot_rewrite.specs.Table.{rewrite_same}
use Rattle.ot_rewrite.proofs.Rewritings.{IsRewriting}
use Rattle.ot_rewrite.proofs.FormRules.{given}
use Rattle.ot_rewrite.proofs.CellSteps.{cell_weighs, none_left, cell_step}

-- a question stands in front of the cell
abbrev pub is_asked : CellTree → Bool
is_asked (At d at) = false
is_asked (Char ch) = false
is_asked (Dead cell) = false
is_asked (Over ch cell) = false
is_asked (If g on_yes on_no) = true

-- a cell over which no dead one and no character can be pulled inside is finished
dead_finished :
    (cell : CellTree) → read_step cell ≡ None → bury cell ≡ None → (x : Finished) × (finished_cell cell ≡ Some x)
unfolding read_step
dead_finished (At documents.Base at) s e = (base_cell at.off, refl)
dead_finished (At (documents.Put d at ch) j) s e = absurd (cc)
dead_finished (At (documents.Cut d at) j) s e = absurd (cc)
dead_finished (At (documents.Mark d at) j) s e = absurd (cc)
dead_finished (At (documents.Over d at ch) j) s e = absurd (cc)
dead_finished (Char ch) s e = (put_cell ch, refl)
dead_finished (Dead cell) s e = absurd (cc)
dead_finished (Over ch cell) s e = absurd (cc)
dead_finished (If g on_yes on_no) s e = absurd (cc)

-- a cell that is read as far as it goes, and into which no character can be pulled, is finished
over_finished :
    (ch : ℕ) (cell : CellTree) → read_step cell ≡ None → replace ch cell ≡ None
    → (x : Finished) × (finished_cell cell ≡ Some x)
unfolding read_step
over_finished ch (At documents.Base at) s e = (base_cell at.off, refl)
over_finished ch (At (documents.Put d at c) j) s e = absurd (cc)
over_finished ch (At (documents.Cut d at) j) s e = absurd (cc)
over_finished ch (At (documents.Mark d at) j) s e = absurd (cc)
over_finished ch (At (documents.Over d at c) j) s e = absurd (cc)
over_finished ch (Char c) s e = absurd (cc)
over_finished ch (Dead cell) s e = absurd (cc)
over_finished ch (Over c cell) s e = absurd (cc)
over_finished ch (If g on_yes on_no) s e = absurd (cc)

-- a cell of which nothing is left to be read is finished, but where a question stands in front
pub finished_where :
    (cell : CellTree) → read_step cell ≡ None → is_asked cell ≡ false → (x : Finished) × (finished_cell cell ≡ Some x)
unfolding read_step
finished_where (At documents.Base at) s e = (base_cell at.off, refl)
finished_where (At (documents.Put d at c) j) s e = absurd (cc)
finished_where (At (documents.Cut d at) j) s e = absurd (cc)
finished_where (At (documents.Mark d at) j) s e = absurd (cc)
finished_where (At (documents.Over d at c) j) s e = absurd (cc)
finished_where (Char ch) s e = (put_cell ch, refl)
finished_where (Dead cell) s e =
    let inside = none_left (read_step cell) (bury cell) Dead s in
    let found = dead_finished cell inside.0 inside.1 in
    (buried_cell found.0, ap (option_map buried_cell) found.1)
finished_where (Over ch cell) s e =
    let inside = none_left (read_step cell) (replace ch cell) (Over ch) s in
    let found = over_finished ch cell inside.0 inside.1 in
    (replaced_cell ch found.0, ap (option_map (replaced_cell ch)) found.1)
finished_where (If g on_yes on_no) s e = absurd (cc)

map_some :
    (s : Option Finished) (go : Finished → Finished) (x : Finished) → option_map go s ≡ Some x
    → (inside : Finished) × (s ≡ Some inside) × (go inside ≡ x)
map_some None go x e = absurd (cc)
map_some (Some inside) go x e = (inside, refl, cc)

-- reading a finished cell asks nothing
pub finished_asks :
    (mode : Mode) (cell : CellTree) (x : Finished) → finished_cell cell ≡ Some x → (go : Finished → Plan Why)
    → ask_read mode cell go ≡ go x
unfolding ask_read ask_cell
finished_asks mode (At documents.Base at) x e go = let same : base_cell at.off ≡ x = cc in ap go same
finished_asks mode (At (documents.Put d at c) j) x e go = absurd (cc)
finished_asks mode (At (documents.Cut d at) j) x e go = absurd (cc)
finished_asks mode (At (documents.Mark d at) j) x e go = absurd (cc)
finished_asks mode (At (documents.Over d at c) j) x e go = absurd (cc)
finished_asks mode (Char ch) x e go = let same : put_cell ch ≡ x = cc in ap go same
finished_asks mode (Dead cell) x e go =
    let inside = map_some (finished_cell cell) buried_cell x e in
    finished_asks mode cell inside.0 inside.1 (λ y. go (buried_cell y)) ∙ ap go inside.2
finished_asks mode (Over ch cell) x e go =
    let inside = map_some (finished_cell cell) (replaced_cell ch) x e in
    finished_asks mode cell inside.0 inside.1 (λ y. go (replaced_cell ch y)) ∙ ap go inside.2
finished_asks mode (If g on_yes on_no) x e go = absurd (cc)

-- the name of the character, if it has one, is one of these
abbrev pub IsSourceOf : ℕ → Source → Type 0
IsSourceOf count (sources.Base off) = Unit {0}
IsSourceOf count (sources.Named c) = c < count

-- the character of a finished cell has a name below the count
pub finished_source :
    (mode : Mode) (count : ℕ) (cell : CellTree) (x : Finished) → finished_cell cell ≡ Some x → IsCellOf mode count cell
    → IsSourceOf count x.source
finished_source mode count (At documents.Base at) x e h =
    let same : base_cell at.off ≡ x = cc in subst (λ (y : Finished). IsSourceOf count y.source) same tt
finished_source mode count (At (documents.Put d at c) j) x e h = absurd (cc)
finished_source mode count (At (documents.Cut d at) j) x e h = absurd (cc)
finished_source mode count (At (documents.Mark d at) j) x e h = absurd (cc)
finished_source mode count (At (documents.Over d at c) j) x e h = absurd (cc)
finished_source mode count (Char ch) x e h =
    let same : put_cell ch ≡ x = cc in subst (λ (y : Finished). IsSourceOf count y.source) same h
finished_source mode count (Dead cell) x e h =
    let inside = map_some (finished_cell cell) buried_cell x e in
    subst (λ (y : Finished). IsSourceOf count y.source) inside.2 (finished_source mode count cell inside.0 inside.1 h)
finished_source mode count (Over ch cell) x e h =
    let inside = map_some (finished_cell cell) (replaced_cell ch) x e in
    subst (λ (y : Finished). IsSourceOf count y.source) inside.2 h.0
finished_source mode count (If g on_yes on_no) x e h = absurd (cc)

-- the index is a name of every obligation
index_counted : (ob : ObName) → 2 < name_count ob
index_counted (Pair k l) = omega arith
index_counted (Triple k l m) = omega arith

-- what a goal keeps of a comparison of two finished cells
record IsComparison (f : Function) (ob : ObName) (p : Plan Why) (g : GoalTree) : Type 0 where
  asked : ask_goal f g ≡ p
  parts : HasParts f ob g
  light : goal_weight f g ≤ 4

module _ (f : Function) (ob : ObName) (why : Why) where
  tested : (b : Bool) (p q : Plan Why) (g h : GoalTree) → IsComparison f ob p g → IsComparison f ob q h
      → IsComparison f ob (if b then p else q) (if b then g else h)
  tested true p q g h one other = one
  tested false p q g h one other = other

  fails : IsComparison f ob (plans.Fails why) (goals.Fails why)
  unfolding ask_goal
  fails = record { asked = refl; parts = tt; light = omega arith }

  holds : IsComparison f ob plans.Holds goals.Holds
  unfolding ask_goal
  holds = record { asked = refl; parts = tt; light = omega arith }

  IsPlace-named : (c : ℕ) → c < name_count ob → IsPlace (name_count ob) (place c (pos 0))
  IsPlace-named c h = record { name = h; near = record { low = omega (arith, ints); high = omega (arith, ints) } }

  sources_compared :
      (s t : Source) → IsSourceOf (name_count ob) s → IsSourceOf (name_count ob) t
      → IsComparison f ob (ask_same_source s t (plans.Fails why)) (same_source s t why)
  unfolding ask_same_source ask_goal ask_form ask_le ask_lt ask_eq
  sources_compared (sources.Base off) (sources.Base there) hs ht =
      tested (int_eq off there) plans.Holds (plans.Fails why) goals.Holds (goals.Fails why) holds fails
  sources_compared (sources.Base off) (sources.Named d) hs ht = fails
  sources_compared (sources.Named c) (sources.Base off) hs ht = fails
  sources_compared (sources.Named c) (sources.Named d) hs ht =
      record { asked = refl; parts = ((IsPlace-named c hs, IsPlace-named d ht), tt, tt); light = omega arith }

module _ (f : Function) (ob : ObName) where
  finished_compared :
      (x y : Finished) → IsSourceOf (name_count ob) x.source → IsSourceOf (name_count ob) y.source
      → IsComparison f ob (ask_same x y) (same_finished x y)
  unfolding ask_same
  finished_compared x y hx hy =
      tested f ob (cells_cause x y) (is_same_flag x.flag y.flag) (ask_same_source x.source y.source
      (plans.Fails (cells_cause x y))) (plans.Fails (cells_cause x y)) (same_source x.source y.source (cells_cause x y))
      (goals.Fails (cells_cause x y)) (sources_compared f ob (cells_cause x y) x.source y.source hx hy)
      (fails f ob (cells_cause x y))

  -- both are finished
  ends_rule :
      (l r : CellTree) → HasParts f ob (Same l r) → (s t : Option Finished) → finished_cell l ≡ s → finished_cell r ≡ t
      → (got : GoalTree) → both_finished s t ≡ Some got → IsRewriting f ob (Same l r) got
  unfolding ask_goal
  ends_rule l r h None t el er got e = absurd (cc)
  ends_rule l r h (Some x) None el er got e = absurd (cc)
  ends_rule l r h (Some x) (Some y) el er got e =
      let hx = finished_source f.head.mode (name_count ob) l x el h.0 in
      let hy = finished_source f.head.mode (name_count ob) r y er h.1 in
      let compared = finished_compared x y hx hy in
      given f ob (Same l r) (same_finished x y) got e
      (record {
        asked =
            compared.asked
            ∙ (sym (finished_asks f.head.mode r y er (λ z. ask_same x z))
            ∙ sym (finished_asks f.head.mode l x el (λ z. ask_read f.head.mode r (λ w. ask_same z w))));
        parts = λ p. compared.parts;
        lighter = omega (arith, compared.light, cell_weighs l, cell_weighs r);
      })

  -- the left cell is finished, and of the right one nothing is left to be read
  right_end :
      (l r : CellTree) → HasParts f ob (Same l r) → (x : Finished) → finished_cell l ≡ Some x → (got : GoalTree)
      → parted r (λ cell. Same l cell) (both_finished (finished_cell l) (finished_cell r)) ≡ Some got
      → IsRewriting f ob (Same l r) got
  unfolding ask_goal ask_read
  right_end l (At d at) h x el got e =
      ends_rule l (At d at) h (finished_cell l) (finished_cell (At d at)) refl refl got e
  right_end l (Char ch) h x el got e =
      ends_rule l (Char ch) h (finished_cell l) (finished_cell (Char ch)) refl refl got e
  right_end l (Dead cell) h x el got e =
      ends_rule l (Dead cell) h (finished_cell l) (finished_cell (Dead cell)) refl refl got e
  right_end l (Over ch cell) h x el got e =
      ends_rule l (Over ch cell) h (finished_cell l) (finished_cell (Over ch cell)) refl refl got e
  right_end l (If g on_yes on_no) h x el got e =
      let mode = f.head.mode in
      given f ob (Same l (If g on_yes on_no)) (goals.If g (Same l on_yes) (Same l on_no)) got e
      (record {
        asked =
            ap (λ p. ask_form g p (ask_goal f (Same l on_no)))
            (finished_asks mode l x el (λ z. ask_read mode on_yes (λ w. ask_same z w)))
            ∙ (ap (λ p. ask_form g (ask_read mode on_yes (λ w. ask_same x w)) p)
            (finished_asks mode l x el (λ z. ask_read mode on_no (λ w. ask_same z w)))
            ∙ sym (finished_asks mode l x el (λ z. ask_read mode (If g on_yes on_no) (λ w. ask_same z w))));
        parts = λ p. (h.1.0, (h.0, h.1.1), (h.0, h.1.2));
        lighter = omega arith;
      })

  -- the left cell is finished
  right_rule :
      (l r : CellTree) → HasParts f ob (Same l r) → (x : Finished) → finished_cell l ≡ Some x
      → (t : Option CellTree) → read_step r ≡ t → (got : GoalTree) → rewrite_right l r t ≡ Some got
      → IsRewriting f ob (Same l r) got
  unfolding ask_goal
  right_rule l r h x el None s got e = right_end l r h x el got e
  right_rule l r h x el (Some read) s got e =
      let mode = f.head.mode in
      let step = cell_step mode (name_count ob) (index_counted ob) r read s h.1 in
      given f ob (Same l r) (Same l read) got e
      (record {
        asked =
            finished_asks mode l x el (λ z. ask_read mode read (λ w. ask_same z w))
            ∙ (step.asked (λ w. ask_same x w)
            ∙ sym (finished_asks mode l x el (λ z. ask_read mode r (λ w. ask_same z w))));
        parts = λ p. (h.0, step.kept);
        lighter = omega (arith, step.lighter);
      })

  -- of the left cell nothing is left to be read
  left_end :
      (l r : CellTree) → HasParts f ob (Same l r) → read_step l ≡ None → (got : GoalTree)
      → parted l (λ cell. Same cell r) (rewrite_right l r (read_step r)) ≡ Some got → IsRewriting f ob (Same l r) got
  unfolding ask_goal ask_read
  left_end (At d at) r h s got e =
      let found = finished_where (At d at) s refl in right_rule (At d at) r h found.0 found.1 (read_step r) refl got e
  left_end (Char ch) r h s got e =
      let found = finished_where (Char ch) s refl in right_rule (Char ch) r h found.0 found.1 (read_step r) refl got e
  left_end (Dead cell) r h s got e =
      let found = finished_where (Dead cell) s refl in
      right_rule (Dead cell) r h found.0 found.1 (read_step r) refl got e
  left_end (Over ch cell) r h s got e =
      let found = finished_where (Over ch cell) s refl in
      right_rule (Over ch cell) r h found.0 found.1 (read_step r) refl got e
  left_end (If g on_yes on_no) r h s got e =
      given f ob (Same (If g on_yes on_no) r) (goals.If g (Same on_yes r) (Same on_no r)) got e
      (record { asked = refl; parts = λ p. (h.0.0, (h.0.1, h.1), (h.0.2, h.1)); lighter = omega arith })

  -- the left cell is read first, as long as a step is left
  left_rule :
      (l r : CellTree) → HasParts f ob (Same l r) → (s : Option CellTree) → read_step l ≡ s → (got : GoalTree)
      → rewrite_left l r s ≡ Some got → IsRewriting f ob (Same l r) got
  unfolding ask_goal
  left_rule l r h None s got e = left_end l r h s got e
  left_rule l r h (Some read) s got e =
      let mode = f.head.mode in
      let step = cell_step mode (name_count ob) (index_counted ob) l read s h.0 in
      given f ob (Same l r) (Same read r) got e
      (record {
        asked = step.asked (λ z. ask_read mode r (λ w. ask_same z w));
        parts = λ p. (step.kept, h.1);
        lighter = omega (arith, step.lighter);
      })

  pub same_rule :
      (l r : CellTree) (got : GoalTree) → rewrite_same l r ≡ Some got → HasParts f ob (Same l r)
      → IsRewriting f ob (Same l r) got
  same_rule l r got e h = left_rule l r h (read_step l) refl got e

-- a comparison is always rewritten
both_go_on : (s t : Option Finished) (x y : Finished) → s ≡ Some x → t ≡ Some y → both_finished s t ≡ None → ⊥
both_go_on (Some x) (Some y) z w el er e = cc
both_go_on None t x y el er e = cc
both_go_on (Some x) None z w el er e = cc

-- where the left cell is finished, a rule fits by the right one
right_goes_on :
    (l r : CellTree) (x : Finished) → finished_cell l ≡ Some x → (t : Option CellTree) → read_step r ≡ t
    → rewrite_right l r t ≡ None → ⊥
right_goes_on l r x el (Some read) s e = cc
right_goes_on l (At d at) x el None s e =
    let found = finished_where (At d at) s refl in
    both_go_on (finished_cell l) (finished_cell (At d at)) x found.0 el found.1 e
right_goes_on l (Char ch) x el None s e =
    let found = finished_where (Char ch) s refl in
    both_go_on (finished_cell l) (finished_cell (Char ch)) x found.0 el found.1 e
right_goes_on l (Dead cell) x el None s e =
    let found = finished_where (Dead cell) s refl in
    both_go_on (finished_cell l) (finished_cell (Dead cell)) x found.0 el found.1 e
right_goes_on l (Over ch cell) x el None s e =
    let found = finished_where (Over ch cell) s refl in
    both_go_on (finished_cell l) (finished_cell (Over ch cell)) x found.0 el found.1 e
right_goes_on l (If g on_yes on_no) x el None s e = cc

-- a rule fits by the left cell or by the right one
left_goes_on : (l r : CellTree) (t : Option CellTree) → read_step l ≡ t → rewrite_left l r t ≡ None → ⊥
left_goes_on l r (Some read) s e = cc
left_goes_on (At d at) r None s e =
    let found = finished_where (At d at) s refl in right_goes_on (At d at) r found.0 found.1 (read_step r) refl e
left_goes_on (Char ch) r None s e =
    let found = finished_where (Char ch) s refl in right_goes_on (Char ch) r found.0 found.1 (read_step r) refl e
left_goes_on (Dead cell) r None s e =
    let found = finished_where (Dead cell) s refl in right_goes_on (Dead cell) r found.0 found.1 (read_step r) refl e
left_goes_on (Over ch cell) r None s e =
    let found = finished_where (Over ch cell) s refl in
    right_goes_on (Over ch cell) r found.0 found.1 (read_step r) refl e
left_goes_on (If g on_yes on_no) r None s e = cc

pub same_goes_on : (l r : CellTree) → rewrite_same l r ≢ None
same_goes_on l r e = left_goes_on l r (read_step l) refl e
