-- What a step in reading a cell keeps.
use Rattle.std.proofs.Common.{◌≡◌, ℕ, ◌+◌, ◌<◌, ◌≤◌, pos, negsuc, ◌+ℤ◌, Option, Some, None, option_map, length, refl}
use Rattle.std.proofs.Common.{ap, sym, subst, arith}
use Rattle.std.proofs.lemmas.Int.{ints}
use Rattle.std.specs.Option.{option_or}
use Rattle.ot_model.specs.declared.op.Mode.{Mode}
use Rattle.ot_model.specs.declared.op.Mode.TheVariants.{Plain, Tomb}
use Rattle.ask_core.specs.Plans.{Plan}
use Rattle.ot_questions.specs.declared.cell.Finished.{Finished}
use Rattle.ot_questions.specs.declared.place.Place.{Place}
use Rattle.ot_questions.specs.declared.why.Why.{Why}
use Rattle.ot_questions.specs.Places.{plus, index_and}
use Rattle.ot_questions.specs.Questions.{ask_le, ask_lt, ask_eq}
use Rattle.ot_questions.specs.Reading.{put_cell, buried_cell, replaced_cell, ask_cell}
use Rattle.ot_terms.specs.Forms as forms
use Rattle.ot_terms.specs.Documents as documents
use Rattle.ot_terms.specs.Documents.{DocTree}
use Rattle.ot_terms.specs.Cells.{CellTree, At, Char, Dead, Over, If}
use Rattle.ot_terms.specs.Standing.{ask_form, ask_read, changes_of}
use Rattle.ot_terms.specs.Weights.{doc_weight, cell_weight}
use Rattle.ot_terms.specs.Belonging.{IsPlace, IsIndexOf, IsCellOf}
use Rattle.cell_rules.specs.Cells.{read_change, bury, replace, read_step}
use Rattle.ot_rewrite.proofs.FormRules.{IsPlace-lowerable}

-- the new cell is read as the old one, has its names and small offsets, and weighs less
pub record IsStep (mode : Mode) (count : ℕ) (old new : CellTree) : Type 0 where
  pub asked : (go : Finished → Plan Why) → ask_read mode new go ≡ ask_read mode old go
  pub kept : IsCellOf mode count new
  pub lighter : cell_weight new < cell_weight old

doc_weighs : (d : DocTree) → 1 ≤ doc_weight d
doc_weighs documents.Base = omega arith
doc_weighs (documents.Put d at ch) = omega arith
doc_weighs (documents.Cut d at) = omega arith
doc_weighs (documents.Mark d at) = omega arith
doc_weighs (documents.Over d at ch) = omega arith

pub cell_weighs : (cell : CellTree) → 1 ≤ cell_weight cell
cell_weighs (At d at) = doc_weighs d
cell_weighs (Char ch) = omega arith
cell_weighs (Dead cell) = omega arith
cell_weighs (Over ch cell) = omega arith
cell_weighs (If g on_yes on_no) = omega arith

-- the index plus an offset, by its name
index_place : (j : Place) → j.var ≡ 2 → index_and j.off ≡ j
index_place j here = ap (λ x. record { var = x; off = j.off }) (sym here)

-- no step is left: none of what is inside, and none by what is inside
pub none_left :
    (s t : Option CellTree) (go : CellTree → CellTree) → option_or (option_map go s) t ≡ None → (s ≡ None) × (t ≡ None)
none_left None t go e = (refl, e)
none_left (Some cell) t go e = absurd (cc)

-- what is read at a place of a document, by its last change
module _ (d : DocTree) (at j : Place) (here : j.var ≡ 2) (go : Finished → Plan Why) where
  -- the rule of an inserted character asks what reading through it asks
  put_asked :
      (mode : Mode) (ch : ℕ)
      → ask_read mode (If (forms.Lt j at) (At d j) (If (forms.Le j at) (Char ch) (At d (plus j (negsuc 0))))) go
      ≡ ask_read mode (At (documents.Put d at ch) j) go
  unfolding ask_read ask_cell ask_form ask_le ask_lt ask_eq
  put_asked mode ch =
      ap
      (λ x.
      ask_lt x at (ask_cell mode (changes_of d) j.off go)
      (ask_le x at (go (put_cell ch)) (ask_cell mode (changes_of d) (j.off +ℤ negsuc 0) go)))
      (sym (index_place j here))

  cut_asked :
      (mode : Mode) → mode ≡ Plain
      → ask_read mode (If (forms.Lt j at) (At d j) (At d (plus j (pos 1)))) go
      ≡ ask_read mode (At (documents.Cut d at) j) go
  unfolding ask_read ask_cell ask_form ask_le ask_lt ask_eq
  cut_asked Plain is =
      ap (λ x. ask_lt x at (ask_cell Plain (changes_of d) j.off go) (ask_cell Plain (changes_of d) (j.off +ℤ pos 1) go))
      (sym (index_place j here))
  cut_asked Tomb is = absurd (cc)

  -- the rule of a tombstone asks what reading through it asks
  mark_asked :
      (mode : Mode) → mode ≡ Tomb
      → ask_read mode (If (forms.Lt j at) (At d j) (If (forms.Le j at) (Dead (At d j)) (At d j))) go
      ≡ ask_read mode (At (documents.Mark d at) j) go
  unfolding ask_read ask_cell ask_form ask_le ask_lt ask_eq
  mark_asked Plain is = absurd (cc)
  mark_asked Tomb is =
      ap
      (λ x.
      ask_lt x at (ask_cell Tomb (changes_of d) j.off go)
      (ask_le x at (ask_cell Tomb (changes_of d) j.off (λ cell. go (buried_cell cell)))
      (ask_cell Tomb (changes_of d) j.off go)))
      (sym (index_place j here))

  -- the rule of a replaced character asks what reading through it asks
  over_asked :
      (mode : Mode) (ch : ℕ)
      → ask_read mode (If (forms.Lt j at) (At d j) (If (forms.Le j at) (Over ch (At d j)) (At d j))) go
      ≡ ask_read mode (At (documents.Over d at ch) j) go
  unfolding ask_read ask_cell ask_form ask_le ask_lt ask_eq
  over_asked mode ch =
      ap
      (λ x.
      ask_lt x at (ask_cell mode (changes_of d) j.off go)
      (ask_le x at (ask_cell mode (changes_of d) j.off (λ cell. go (replaced_cell ch cell)))
      (ask_cell mode (changes_of d) j.off go)))
      (sym (index_place j here))

-- the places of a document before its last change
module _ (count : ℕ) (some : 2 < count) (d e : DocTree) (j : Place)
    (longer : length (changes_of e) ≡ length (changes_of d) + 1)
    (h : IsIndexOf e j) where
  IsPlace-index : IsPlace count j
  IsPlace-index = record { name = omega arith; near = record { low = omega (arith, ints); high = omega (arith, ints) } }

  IsIndexOf-same : IsIndexOf d j
  IsIndexOf-same =
      record {
        name = h.name;
        low = record { low = omega (arith, ints); high = omega (arith, ints) };
        high = record { low = omega (arith, ints); high = omega (arith, ints) };
      }

  IsIndexOf-before : IsIndexOf d (plus j (negsuc 0))
  IsIndexOf-before =
      record {
        name = h.name;
        low = record { low = omega (arith, ints); high = omega (arith, ints) };
        high = record { low = omega (arith, ints); high = omega (arith, ints) };
      }

  IsIndexOf-behind : IsIndexOf d (plus j (pos 1))
  IsIndexOf-behind =
      record {
        name = h.name;
        low = record { low = omega (arith, ints); high = omega (arith, ints) };
        high = record { low = omega (arith, ints); high = omega (arith, ints) };
      }

module _ (mode : Mode) (count : ℕ) (some : 2 < count) where
  -- the cell that a step names is the one that it gives
  step_given : (old named got : CellTree) → Some named ≡ Some got → IsStep mode count old named
      → IsStep mode count old got
  step_given old named got e h = let same : named ≡ got = cc in subst (IsStep mode count old) same h

  -- a step by the last change of a document gives a cell that is the same and is of the mode
  change_step :
      (d : DocTree) (j : Place) (got : CellTree) → read_change d j ≡ Some got → IsCellOf mode count (At d j)
      → IsStep mode count (At d j) got
  change_step documents.Base j got e h = absurd (cc)
  change_step (documents.Put d at ch) j got e h =
      let old = documents.Put d at ch in
      let at_index : IsPlace count j = IsPlace-index count some d old j (omega arith) h.1 in
      step_given (At old j) (If (forms.Lt j at) (At d j) (If (forms.Le j at) (Char ch) (At d (plus j (negsuc 0))))) got
      e
      (record {
        asked = λ go. put_asked d at j h.1.name go mode ch;
        kept = (
          (at_index, h.0.0),
          (h.0.2, IsIndexOf-same count some d old j (omega arith) h.1),
          (
            (at_index, IsPlace-lowerable count at h.0.0),
            h.0.1,
            (h.0.2, IsIndexOf-before count some d old j (omega arith) h.1),
          ),
        );
        lighter = omega (arith, doc_weighs d);
      })
  change_step (documents.Cut d at) j got e h =
      let old = documents.Cut d at in
      let at_index : IsPlace count j = IsPlace-index count some d old j (omega arith) h.1 in
      step_given (At old j) (If (forms.Lt j at) (At d j) (At d (plus j (pos 1)))) got e
      (record {
        asked = λ go. cut_asked d at j h.1.name go mode h.0.1;
        kept = (
          (at_index, h.0.0),
          (h.0.2, IsIndexOf-same count some d old j (omega arith) h.1),
          (h.0.2, IsIndexOf-behind count some d old j (omega arith) h.1),
        );
        lighter = omega (arith, doc_weighs d);
      })
  change_step (documents.Mark d at) j got e h =
      let old = documents.Mark d at in
      let at_index : IsPlace count j = IsPlace-index count some d old j (omega arith) h.1 in
      let below : IsCellOf mode count (At d j) = (h.0.2, IsIndexOf-same count some d old j (omega arith) h.1) in
      step_given (At old j) (If (forms.Lt j at) (At d j) (If (forms.Le j at) (Dead (At d j)) (At d j))) got e
      (record {
        asked = λ go. mark_asked d at j h.1.name go mode h.0.1;
        kept = ((at_index, h.0.0), below, ((at_index, IsPlace-lowerable count at h.0.0), below, below));
        lighter = omega (arith, doc_weighs d);
      })
  change_step (documents.Over d at ch) j got e h =
      let old = documents.Over d at ch in
      let at_index : IsPlace count j = IsPlace-index count some d old j (omega arith) h.1 in
      let below : IsCellOf mode count (At d j) = (h.0.2, IsIndexOf-same count some d old j (omega arith) h.1) in
      step_given (At old j) (If (forms.Lt j at) (At d j) (If (forms.Le j at) (Over ch (At d j)) (At d j))) got e
      (record {
        asked = λ go. over_asked d at j h.1.name go mode ch;
        kept = ((at_index, h.0.0), below, ((at_index, IsPlace-lowerable count at h.0.0), (h.0.1, below), below));
        lighter = omega (arith, doc_weighs d);
      })

  -- a dead cell over another character, where nothing inside is left to be read
  dead_over :
      (ch : ℕ) (cell : CellTree) → read_step cell ≡ None → replace ch cell ≡ None → (go : Finished → Plan Why)
      → ask_read mode (Dead (Char ch)) go ≡ ask_read mode (Dead (Over ch cell)) go
  unfolding read_step ask_read ask_cell
  dead_over ch (At documents.Base at) s e go = refl
  dead_over ch (At (documents.Put d at c) j) s e go = absurd (cc)
  dead_over ch (At (documents.Cut d at) j) s e go = absurd (cc)
  dead_over ch (At (documents.Mark d at) j) s e go = absurd (cc)
  dead_over ch (At (documents.Over d at c) j) s e go = absurd (cc)
  dead_over ch (Char c) s e go = absurd (cc)
  dead_over ch (Dead cell) s e go = absurd (cc)
  dead_over ch (Over c cell) s e go = absurd (cc)
  dead_over ch (If g on_yes on_no) s e go = absurd (cc)

  -- another character over a dead cell, where nothing inside is left to be read
  over_dead :
      (ch : ℕ) (cell : CellTree) → read_step cell ≡ None → bury cell ≡ None → (go : Finished → Plan Why)
      → ask_read mode (Dead (Char ch)) go ≡ ask_read mode (Over ch (Dead cell)) go
  unfolding read_step ask_read ask_cell
  over_dead ch (At documents.Base at) s e go = refl
  over_dead ch (At (documents.Put d at c) j) s e go = absurd (cc)
  over_dead ch (At (documents.Cut d at) j) s e go = absurd (cc)
  over_dead ch (At (documents.Mark d at) j) s e go = absurd (cc)
  over_dead ch (At (documents.Over d at c) j) s e go = absurd (cc)
  over_dead ch (Char c) s e go = refl
  over_dead ch (Dead cell) s e go = absurd (cc)
  over_dead ch (Over c cell) s e go = absurd (cc)
  over_dead ch (If g on_yes on_no) s e go = absurd (cc)

  -- a dead cell, by the cell that it was, of which nothing is left to be read
  bury_step :
      (cell got : CellTree) → read_step cell ≡ None → bury cell ≡ Some got → IsCellOf mode count cell
      → IsStep mode count (Dead cell) got
  unfolding read_step ask_read
  bury_step (At d at) got s e h = absurd (cc)
  bury_step (Char ch) got s e h = absurd (cc)
  bury_step (Dead cell) got s e h =
      step_given (Dead (Dead cell)) (Dead cell) got e (record { asked = λ go. refl; kept = h; lighter = omega arith })
  bury_step (Over ch cell) got s e h =
      let inside = none_left (read_step cell) (replace ch cell) (Over ch) s in
      step_given (Dead (Over ch cell)) (Dead (Char ch)) got e
      (record { asked = dead_over ch cell inside.0 inside.1; kept = h.0; lighter = omega (arith, cell_weighs cell) })
  bury_step (If g on_yes on_no) got s e h =
      step_given (Dead (If g on_yes on_no)) (If g (Dead on_yes) (Dead on_no)) got e
      (record { asked = λ go. refl; kept = h; lighter = omega arith })

  -- a cell with another character, by the cell that it was, of which nothing is left to be read
  replace_step :
      (ch : ℕ) (cell got : CellTree) → read_step cell ≡ None → replace ch cell ≡ Some got
      → IsCellOf mode count (Over ch cell)
      → IsStep mode count (Over ch cell) got
  unfolding read_step ask_read
  replace_step ch (At d at) got s e h = absurd (cc)
  replace_step ch (Char other) got s e h =
      step_given (Over ch (Char other)) (Char ch) got e
      (record { asked = λ go. refl; kept = h.0; lighter = omega arith })
  replace_step ch (Dead cell) got s e h =
      let inside = none_left (read_step cell) (bury cell) Dead s in
      step_given (Over ch (Dead cell)) (Dead (Char ch)) got e
      (record { asked = over_dead ch cell inside.0 inside.1; kept = h.0; lighter = omega (arith, cell_weighs cell) })
  replace_step ch (Over other cell) got s e h =
      step_given (Over ch (Over other cell)) (Over ch cell) got e
      (record { asked = λ go. refl; kept = (h.0, h.1.1); lighter = omega arith })
  replace_step ch (If g on_yes on_no) got s e h =
      step_given (Over ch (If g on_yes on_no)) (If g (Over ch on_yes) (Over ch on_no)) got e
      (record { asked = λ go. refl; kept = (h.1.0, (h.0, h.1.1), (h.0, h.1.2)); lighter = omega arith })

  dead_step :
      (cell got : CellTree) (s : Option CellTree) → read_step cell ≡ s
      → option_or (option_map Dead s) (bury cell) ≡ Some got
      → IsCellOf mode count cell
      → ((read : CellTree) → read_step cell ≡ Some read → IsCellOf mode count cell → IsStep mode count cell read)
      → IsStep mode count (Dead cell) got
  unfolding ask_read
  dead_step cell got (Some read) s e h step =
      let inside = step read s h in
      step_given (Dead cell) (Dead read) got e
      (record { asked = λ go. inside.asked (λ x. go (buried_cell x)); kept = inside.kept; lighter = omega arith })
  dead_step cell got None s e h step = bury_step cell got s e h

  -- a cell with another character: a step inside, or by the cell that it was
  over_step :
      (ch : ℕ) (cell got : CellTree) (s : Option CellTree) → read_step cell ≡ s
      → option_or (option_map (Over ch) s) (replace ch cell) ≡ Some got → IsCellOf mode count (Over ch cell)
      → ((read : CellTree) → read_step cell ≡ Some read → IsCellOf mode count cell → IsStep mode count cell read)
      → IsStep mode count (Over ch cell) got
  unfolding ask_read
  over_step ch cell got (Some read) s e h step =
      let inside = step read s h.1 in
      step_given (Over ch cell) (Over ch read) got e
      (record {
        asked = λ go. inside.asked (λ x. go (replaced_cell ch x));
        kept = (h.0, inside.kept);
        lighter = omega arith;
      })
  over_step ch cell got None s e h step = replace_step ch cell got s e h

  pub cell_step : (cell got : CellTree) → read_step cell ≡ Some got → IsCellOf mode count cell
      → IsStep mode count cell got
  unfolding read_step
  cell_step (At d at) got e h = change_step d at got e h
  cell_step (Char ch) got e h = absurd (cc)
  cell_step (Dead cell) got e h = dead_step cell got (read_step cell) refl e h (cell_step cell)
  cell_step (Over ch cell) got e h = over_step ch cell got (read_step cell) refl e h (cell_step cell)
  cell_step (If g on_yes on_no) got e h = absurd (cc)
