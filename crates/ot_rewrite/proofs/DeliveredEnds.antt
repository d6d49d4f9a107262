-- The goals behind the last transformation ask what the end of the obligation asks.
use Rattle.std.proofs.Common.{◌≡◌, ℤ, pos, negsuc, ◌+ℤ◌, Bool, true, false, if◌then◌else◌, Option, Some, None, List, []}
use Rattle.std.proofs.Common.{◌∷◌, refl, ap, ◌∙◌}
use Rattle.std.proofs.Math.Path.{fun_ext}
use Rattle.std.specs.Ordering.{int_eq}
use Rattle.ot_model.specs.declared.op.Kind.{Kind}
use Rattle.ot_model.specs.declared.op.Mode.{Mode}
use Rattle.ot_model.specs.declared.op.Mode.TheVariants.{Plain, Tomb}
use Rattle.fn_rules.specs.Functions.{Function}
use Rattle.ask_core.specs.Plans as plans
use Rattle.ask_core.specs.Plans.{Plan}
use Rattle.ot_questions.specs.declared.cell.Finished.{Finished}
use Rattle.ot_questions.specs.declared.place.Place.{Place}
use Rattle.ot_questions.specs.declared.place.SymOp.{SymOp}
use Rattle.ot_questions.specs.declared.place.SymOp.TheVariants.{Ins, Del, Upd, Nop}
use Rattle.ot_questions.specs.declared.why.Why.{Why}
use Rattle.ot_questions.specs.declared.why.Why.TheVariants.{OutOfRange, Lengths}
use Rattle.ot_questions.specs.Places.{zero_place, length_and, index_and, sym_kind, sym_at, growth}
use Rattle.ot_questions.specs.Questions.{ask_le, ask_lt, ask_enabled, ask_eq}
use Rattle.ot_questions.specs.Reading.{put_cell, buried_cell, replaced_cell, ask_cell, ask_same}
use Rattle.ot_questions.specs.Obligation.{ask_documents, ask_lengths, ask_ways, ask_one_place, ask_same_form}
use Rattle.ot_terms.specs.Goals.{GoalTree, Fails}
use Rattle.ot_terms.specs.Changes.{doc_of}
use Rattle.ot_terms.specs.Standing.{ask_form, ask_read, ask_goal, changes_of}
use Rattle.ot_terms.specs.Starting.{enabled_form}
use Rattle.ot_rewrite.specs.Ends.{same_documents, same_lengths, both_ways, one_place, one_form}

-- reading asks the changes of a document for no site, and nop is none of them
ask_cell-changes :
    (mode : Mode) (os : List SymOp) (off : ℤ) (go : Finished → Plan Why)
    → ask_cell mode (changes_of (doc_of mode os)) off go ≡ ask_cell mode os off go
unfolding ask_cell
ask_cell-changes mode [] off go = refl
ask_cell-changes mode (Ins at ch site ∷ os) off go =
    ap
    (λ p. ask_lt (index_and off) at p
    (ask_le (index_and off) at (go (put_cell ch)) (ask_cell mode (changes_of (doc_of mode os)) (off +ℤ negsuc 0) go)))
    (ask_cell-changes mode os off go)
    ∙ ap (λ p. ask_lt (index_and off) at (ask_cell mode os off go) (ask_le (index_and off) at (go (put_cell ch)) p))
    (ask_cell-changes mode os (off +ℤ negsuc 0) go)
ask_cell-changes Plain (Del at site ∷ os) off go =
    ap (λ p. ask_lt (index_and off) at p (ask_cell Plain (changes_of (doc_of Plain os)) (off +ℤ pos 1) go))
    (ask_cell-changes Plain os off go)
    ∙ ap (λ p. ask_lt (index_and off) at (ask_cell Plain os off go) p) (ask_cell-changes Plain os (off +ℤ pos 1) go)
ask_cell-changes Tomb (Del at site ∷ os) off go =
    ap
    (λ p. ask_lt (index_and off) at p
    (ask_le (index_and off) at (ask_cell Tomb (changes_of (doc_of Tomb os)) off (λ cell. go (buried_cell cell))) p))
    (ask_cell-changes Tomb os off go)
    ∙ ap
    (λ p. ask_lt (index_and off) at (ask_cell Tomb os off go) (ask_le (index_and off) at p (ask_cell Tomb os off go)))
    (ask_cell-changes Tomb os off (λ cell. go (buried_cell cell)))
ask_cell-changes mode (Upd at ch site ∷ os) off go =
    ap
    (λ p. ask_lt (index_and off) at p
    (ask_le (index_and off) at (ask_cell mode (changes_of (doc_of mode os)) off (λ cell. go (replaced_cell ch cell)))
    p)) (ask_cell-changes mode os off go)
    ∙ ap
    (λ p. ask_lt (index_and off) at (ask_cell mode os off go) (ask_le (index_and off) at p (ask_cell mode os off go)))
    (ask_cell-changes mode os off (λ cell. go (replaced_cell ch cell)))
ask_cell-changes mode (Nop ∷ os) off go = ask_cell-changes mode os off go

enabled_asks : (o : SymOp) (off : ℤ) (p q : Plan Why) → ask_form (enabled_form o off) p q ≡ ask_enabled o off p q
unfolding ask_form ask_enabled ask_le ask_lt ask_eq
enabled_asks (Ins at ch site) off p q = refl
enabled_asks (Del at site) off p q = refl
enabled_asks (Upd at ch site) off p q = refl
enabled_asks Nop off p q = refl

module _ (f : Function) where
  -- two forms of one operation
  one_place_asks :
      (k l : Option Kind) (at there : Place) → ask_goal f (one_place k l at there) ≡ ask_one_place k l at there
  unfolding ask_goal ask_form ask_one_place ask_le ask_lt ask_eq
  one_place_asks None None at there = refl
  one_place_asks None (Some l) at there = refl
  one_place_asks (Some k) None at there = refl
  one_place_asks (Some k) (Some l) at there = refl

  pub one_form_asks : (left right : SymOp) → ask_goal f (one_form left right) ≡ ask_same_form left right
  unfolding ask_same_form
  one_form_asks left right = one_place_asks (sym_kind left) (sym_kind right) (sym_at left) (sym_at right)

  -- two documents
  documents_ask :
      (left right : List SymOp) (off : ℤ)
      → ask_goal f (same_documents (doc_of f.head.mode left) (doc_of f.head.mode right) off)
      ≡ ask_documents f.head.mode left right off
  unfolding ask_goal ask_form ask_read ask_documents ask_le ask_lt ask_eq
  documents_ask left right off =
      let mode = f.head.mode in
      ap
      (λ p. ask_le zero_place (index_and (pos 0))
      (ask_lt (index_and (pos 0)) (length_and off) p plans.Holds) plans.Holds)
      (ask_cell-changes mode left (pos 0)
      (λ x. ask_cell mode (changes_of (doc_of mode right)) (pos 0) (λ y. ask_same x y))
      ∙ ap (ask_cell mode left (pos 0)) (fun_ext (λ x. ask_cell-changes mode right (pos 0) (λ y. ask_same x y))))

  if_asks : (t : Bool) (g : GoalTree) (p : Plan Why) → ask_goal f g ≡ p
      → ask_goal f (if t then g else Fails Lengths) ≡ (if t then p else plans.Fails Lengths)
  unfolding ask_goal
  if_asks true g p e = e
  if_asks false g p e = refl

  -- two lengths, and then the documents
  lengths_ask :
      (a b_after_a b a_after_b : SymOp)
      → ask_goal f (same_lengths f.head.mode a b_after_a b a_after_b) ≡ ask_lengths f.head.mode a b_after_a b a_after_b
  unfolding ask_lengths
  lengths_ask a b_after_a b a_after_b =
      let mode = f.head.mode in
      let left = growth mode a +ℤ growth mode b_after_a in
      if_asks (int_eq left (growth mode b +ℤ growth mode a_after_b))
      (same_documents (doc_of mode (b_after_a ∷ a ∷ [])) (doc_of mode (a_after_b ∷ b ∷ [])) left)
      (ask_documents mode (b_after_a ∷ a ∷ []) (a_after_b ∷ b ∷ []) left)
      (documents_ask (b_after_a ∷ a ∷ []) (a_after_b ∷ b ∷ []) left)

  -- whether both forms are enabled, and then the lengths
  pub both_ways_ask :
      (a b_after_a b a_after_b : SymOp)
      → ask_goal f (both_ways f.head.mode a b_after_a b a_after_b) ≡ ask_ways f.head.mode a b_after_a b a_after_b
  unfolding ask_goal ask_ways
  both_ways_ask a b_after_a b a_after_b =
      let mode = f.head.mode in
      let out = plans.Fails OutOfRange in
      let last = ask_goal f (same_lengths mode a b_after_a b a_after_b) in
      enabled_asks b_after_a (growth mode a) (ask_form (enabled_form a_after_b (growth mode b)) last out) out
      ∙ ap (λ p. ask_enabled b_after_a (growth mode a) p out)
      (enabled_asks a_after_b (growth mode b) last out
      ∙ ap (λ p. ask_enabled a_after_b (growth mode b) p out) (lengths_ask a b_after_a b a_after_b))
