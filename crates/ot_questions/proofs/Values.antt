-- Where a valuation leads through the questions: each `ask_` function goes on as the test at the
-- valuation says.
use Rattle.std.proofs.Common.{◌≡◌, ℕ, ℤ, pos, negsuc, ◌+ℤ◌, Bool, true, false, not, ◌&&◌, ◌||◌, if◌then◌else◌, nat_eq}
use Rattle.std.proofs.Common.{int_le, int_lt, Option, Some, None, List, [], ◌∷◌, refl, ap, ◌∙◌, inl, inr}
use Rattle.std.specs.Ordering.{int_eq}
use Rattle.std.proofs.lemmas.Bool.{cases_Bool}
use Rattle.std.proofs.lemmas.Bool.Decides.{Decides-eqb}
use Rattle.ot_model.specs.declared.op.Mode.{Mode}
use Rattle.ot_model.specs.declared.op.Mode.TheVariants.{Plain, Tomb}
use Rattle.ot_model.specs.declared.op.Kind.{Kind}
use Rattle.ot_model.specs.declared.op.Op.{Op}
use Rattle.ot_model.specs.declared.op.Op.TheVariants as ops
use Rattle.fn_rules.specs.declared.function.Head.{Head}
use Rattle.fn_rules.specs.declared.guard.Cmp.{Cmp}
use Rattle.fn_rules.specs.declared.guard.Cmp.TheVariants.{Lt, Le, Eq}
use Rattle.fn_rules.specs.declared.guard.Atom.{Atom}
use Rattle.fn_rules.specs.Formulas.{Formula, Always, Compare, And, Or, Not, of_side, other_side, is_compared}
use Rattle.fn_rules.specs.Functions.{Function, GuardedCase, cases_of}
use Rattle.ask_core.specs.Plans.{Plan, Holds, end_of}
use Rattle.ot_questions.specs.declared.cell.Finished.{Finished}
use Rattle.ot_questions.specs.declared.place.Place.{Place}
use Rattle.ot_questions.specs.declared.place.SymOp.{SymOp}
use Rattle.ot_questions.specs.declared.place.SymOp.TheVariants.{Ins, Del, Upd, Nop}
use Rattle.ot_questions.specs.declared.why.Why.{Why}
use Rattle.ot_questions.specs.declared.why.Why.TheVariants.{Undefined}
use Rattle.ot_questions.specs.Places.{place, plus, zero_place, length_and, index_and, integer_at, sym_kind, sym_site}
use Rattle.ot_questions.specs.Places.{sym_char, sym_result, sym_thing}
use Rattle.ot_questions.specs.Questions.{ask_le, ask_lt, ask_eq, ask_compared, ask_atom, ask_guard, ask_first_result}
use Rattle.ot_questions.specs.Questions.{ask_result_by_kinds, ask_result, or_undefined, ask_transform, ask_enabled}
use Rattle.ot_questions.specs.Questions.{ask_differ, ask_allowed}
use Rattle.ot_questions.specs.Reading.{base_cell, put_cell, buried_cell, replaced_cell, ask_cell}
use Rattle.ot_questions.specs.Meaning.{op_at}
use Rattle.ot_questions.proofs.Tests.{int_le-same_name, int_le-shifted, int_le-before, if_and, if_or, if_not}
use Rattle.ot_questions.proofs.Tests.{if_through, if_eq}

pub if_end : (b : Bool) (p q : Plan Why) (v : ℕ → ℤ)
    → end_of (if b then p else q) v ≡ (if b then end_of p v else end_of q v)
if_end true p q v = refl
if_end false p q v = refl

-- by a test at the valuation
abbrev pub by_test : Bool → Plan Why → Plan Why → (ℕ → ℤ) → Option Why
by_test b p q v = if b then end_of p v else end_of q v

-- a comparison goes on as the integers of the two places compare
pub end-le :
    (a b : Place) (p q : Plan Why) (v : ℕ → ℤ)
    → end_of (ask_le a b p q) v ≡ by_test (int_le (integer_at v a) (integer_at v b)) p q v
unfolding ask_le
end-le a b p q v =
    elim (cases_Bool (nat_eq a.var b.var)) [
      | inl same ↦
          rw same
          (if_end (int_le a.off b.off) p q v
          ∙ ap (λ t. by_test t p q v)
          (int_le-same_name (v a.var) (v b.var) a.off b.off (ap v ((Decides-eqb a.var b.var).0 same))))
      | inr other ↦ rw other (ap (λ t. by_test t p q v) (int_le-shifted (v a.var) (v b.var) a.off b.off))
    ]

pub end-lt :
    (a b : Place) (p q : Plan Why) (v : ℕ → ℤ)
    → end_of (ask_lt a b p q) v ≡ by_test (int_lt (integer_at v a) (integer_at v b)) p q v
unfolding ask_lt
end-lt a b p q v =
    end-le a (plus b (negsuc 0)) p q v ∙ ap (λ t. by_test t p q v) (int_le-before (integer_at v a) (v b.var) b.off)

pub end-eq :
    (a b : Place) (p q : Plan Why) (v : ℕ → ℤ)
    → end_of (ask_eq a b p q) v ≡ by_test (int_eq (integer_at v a) (integer_at v b)) p q v
unfolding ask_eq
end-eq a b p q v =
    end-le a b (ask_le b a p q) q v
    ∙ (ap (λ e. if int_le (integer_at v a) (integer_at v b) then e else end_of q v) (end-le b a p q v)
    ∙ if_eq (integer_at v a) (integer_at v b) (end_of p v) (end_of q v))

end-compared :
    (cmp : Cmp) (a b : Place) (p q : Plan Why) (v : ℕ → ℤ)
    → end_of (ask_compared cmp a b p q) v ≡ by_test (is_compared cmp (integer_at v a) (integer_at v b)) p q v
unfolding ask_compared
end-compared Lt a b p q v = end-lt a b p q v
end-compared Le a b p q v = end-le a b p q v
end-compared Eq a b p q v = end-eq a b p q v

-- the truth of an atom and of a guard at the valuation
abbrev pub sym_atom_holds : (ℕ → ℤ) → Atom → SymOp → SymOp → Bool
sym_atom_holds v atom a b =
    is_compared atom.cmp (integer_at v (sym_thing atom.sort (of_side atom.left a b)))
    (integer_at v (plus (sym_thing atom.sort (of_side (other_side atom.left) a b)) atom.k))

abbrev pub sym_holds : (ℕ → ℤ) → Formula → SymOp → SymOp → Bool
sym_holds v Always a b = true
sym_holds v (Compare atom) a b = sym_atom_holds v atom a b
sym_holds v (And g h) a b = sym_holds v g a b && sym_holds v h a b
sym_holds v (Or g h) a b = sym_holds v g a b || sym_holds v h a b
sym_holds v (Not g) a b = not (sym_holds v g a b)

end-atom :
    (atom : Atom) (a b : SymOp) (p q : Plan Why) (v : ℕ → ℤ)
    → end_of (ask_atom atom a b p q) v ≡ by_test (sym_atom_holds v atom a b) p q v
unfolding ask_atom
end-atom atom a b p q v =
    end-compared atom.cmp (sym_thing atom.sort (of_side atom.left a b))
    (plus (sym_thing atom.sort (of_side (other_side atom.left) a b)) atom.k) p q v

-- a guard goes on by its truth at the valuation
pub end-guard :
    (g : Formula) (a b : SymOp) (p q : Plan Why) (v : ℕ → ℤ)
    → end_of (ask_guard g a b p q) v ≡ by_test (sym_holds v g a b) p q v
unfolding ask_guard
end-guard Always a b p q v = refl
end-guard (Compare atom) a b p q v = end-atom atom a b p q v
end-guard (And g h) a b p q v =
    end-guard g a b (ask_guard h a b p q) q v
    ∙ (ap (λ e. if sym_holds v g a b then e else end_of q v) (end-guard h a b p q v)
    ∙ if_and (sym_holds v g a b) (sym_holds v h a b) (end_of p v) (end_of q v))
end-guard (Or g h) a b p q v =
    end-guard g a b p (ask_guard h a b p q) v
    ∙ (ap (λ e. if sym_holds v g a b then end_of p v else e) (end-guard h a b p q v)
    ∙ if_or (sym_holds v g a b) (sym_holds v h a b) (end_of p v) (end_of q v))
end-guard (Not g) a b p q v =
    end-guard g a b q p v ∙ if_not (sym_holds v g a b) (end_of q v) (end_of p v)

-- the result of the first case whose guard is true at the valuation
abbrev pub sym_first : (ℕ → ℤ) → List GuardedCase → SymOp → SymOp → Option SymOp
sym_first v [] a b = None
sym_first v (c ∷ cs) a b = if sym_holds v c.guard a b then Some (sym_result c.res a b) else sym_first v cs a b

abbrev pub sym_by_kinds : (ℕ → ℤ) → Function → SymOp → SymOp → Option Kind → Option Kind → Option SymOp
sym_by_kinds v f a b None other = Some Nop
sym_by_kinds v f a b (Some k) None = Some a
sym_by_kinds v f a b (Some k) (Some l) = sym_first v (cases_of f k l) a b

abbrev pub sym_transformed : (ℕ → ℤ) → Function → SymOp → SymOp → Option SymOp
sym_transformed v f a b = sym_by_kinds v f a b (sym_kind a) (sym_kind b)

-- goes on with a form that exists
abbrev pub goes_on : Option SymOp → (SymOp → Option Why) → Option Why
goes_on None go = Some Undefined
goes_on (Some r) go = go r

end-first_result :
    (cs : List GuardedCase) (a b : SymOp) (go : Option SymOp → Plan Why) (v : ℕ → ℤ)
    → end_of (ask_first_result cs a b go) v ≡ end_of (go (sym_first v cs a b)) v
end-first_result [] a b go v = refl
end-first_result (c ∷ cs) a b go v =
    end-guard c.guard a b (go (Some (sym_result c.res a b))) (ask_first_result cs a b go) v
    ∙ (ap (λ e. if sym_holds v c.guard a b then end_of (go (Some (sym_result c.res a b))) v else e)
    (end-first_result cs a b go v)
    ∙ if_through (λ o. end_of (go o) v) (sym_holds v c.guard a b) (Some (sym_result c.res a b)) (sym_first v cs a b))

end-result_by_kinds :
    (f : Function) (a b : SymOp) (j k : Option Kind) (go : Option SymOp → Plan Why) (v : ℕ → ℤ)
    → end_of (ask_result_by_kinds f a b j k go) v ≡ end_of (go (sym_by_kinds v f a b j k)) v
end-result_by_kinds f a b None other go v = refl
end-result_by_kinds f a b (Some k) None go v = refl
end-result_by_kinds f a b (Some k) (Some l) go v = end-first_result (cases_of f k l) a b go v

-- a plan goes on with the result at the valuation, or with none
pub end-result :
    (f : Function) (a b : SymOp) (go : Option SymOp → Plan Why) (v : ℕ → ℤ)
    → end_of (ask_result f a b go) v ≡ end_of (go (sym_transformed v f a b)) v
end-result f a b go v = end-result_by_kinds f a b (sym_kind a) (sym_kind b) go v

end-or_undefined :
    (go : SymOp → Plan Why) (o : Option SymOp) (v : ℕ → ℤ)
    → end_of (or_undefined go o) v ≡ goes_on o (λ r. end_of (go r) v)
end-or_undefined go None v = refl
end-or_undefined go (Some r) v = refl

pub end-transform :
    (f : Function) (a b : SymOp) (go : SymOp → Plan Why) (v : ℕ → ℤ)
    → end_of (ask_transform f a b go) v ≡ goes_on (sym_transformed v f a b) (λ r. end_of (go r) v)
unfolding ask_transform
end-transform f a b go v = end-result f a b (or_undefined go) v ∙ end-or_undefined go (sym_transformed v f a b) v

-- whether an operation is enabled on a document of so many cells
abbrev pub enabled_to : Op → ℤ → Bool
enabled_to (ops.Ins at ch site) n = int_le (pos 0) at && int_le at n
enabled_to (ops.Del at site) n = int_le (pos 0) at && int_lt at n
enabled_to (ops.Upd at ch site) n = int_le (pos 0) at && int_lt at n
enabled_to ops.Nop n = true

-- whether a document of so many cells has one at a place
end-has_cell :
    (at : Place) (off : ℤ) (p q : Plan Why) (v : ℕ → ℤ) → v 0 ≡ pos 0
    → end_of (ask_le zero_place at (ask_lt at (length_and off) p q) q) v
    ≡ by_test (int_le (pos 0) (integer_at v at) && int_lt (integer_at v at) (v 1 +ℤ off)) p q v
end-has_cell at off p q v z =
    end-le zero_place at (ask_lt at (length_and off) p q) q v
    ∙ (ap (λ e. if int_le (integer_at v zero_place) (integer_at v at) then e else end_of q v)
    (end-lt at (length_and off) p q v)
    ∙ (if_and (int_le (integer_at v zero_place) (integer_at v at)) (int_lt (integer_at v at) (v 1 +ℤ off))
    (end_of p v) (end_of q v)
    ∙ ap (λ x. by_test (int_le (x +ℤ pos 0) (integer_at v at) && int_lt (integer_at v at) (v 1 +ℤ off)) p q v) z))

-- whether an operation is enabled goes on by the test of the operation that the names stand for
pub end-enabled :
    (o : SymOp) (off : ℤ) (p q : Plan Why) (v : ℕ → ℤ) → v 0 ≡ pos 0
    → end_of (ask_enabled o off p q) v ≡ by_test (enabled_to (op_at v o) (v 1 +ℤ off)) p q v
unfolding ask_enabled
end-enabled (Ins at c s) off p q v z =
    end-le zero_place at (ask_le at (length_and off) p q) q v
    ∙ (ap (λ e. if int_le (integer_at v zero_place) (integer_at v at) then e else end_of q v)
    (end-le at (length_and off) p q v)
    ∙ (if_and (int_le (integer_at v zero_place) (integer_at v at)) (int_le (integer_at v at) (v 1 +ℤ off))
    (end_of p v) (end_of q v)
    ∙ ap (λ x. by_test (int_le (x +ℤ pos 0) (integer_at v at) && int_le (integer_at v at) (v 1 +ℤ off)) p q v) z))
end-enabled (Del at s) off p q v z = end-has_cell at off p q v z
end-enabled (Upd at c s) off p q v z = end-has_cell at off p q v z
end-enabled Nop off p q v z = refl

-- whether two names stand for different integers, as far as both are there
abbrev pub sym_differ : (ℕ → ℤ) → Option ℕ → Option ℕ → Bool
sym_differ v None y = true
sym_differ v (Some x) None = true
sym_differ v (Some x) (Some y) = not (int_eq (v x +ℤ pos 0) (v y +ℤ pos 0))

end-differ : (x y : Option ℕ) (p : Plan Why) (v : ℕ → ℤ)
    → end_of (ask_differ x y p) v ≡ by_test (sym_differ v x y) p Holds v
unfolding ask_differ
end-differ None y p v = refl
end-differ (Some x) None p v = refl
end-differ (Some x) (Some y) p v =
    end-eq (place x (pos 0)) (place y (pos 0)) Holds p v
    ∙ if_not (int_eq (v x +ℤ pos 0) (v y +ℤ pos 0)) None (end_of p v)

abbrev pub sym_allowed : (ℕ → ℤ) → Head → SymOp → SymOp → Bool
sym_allowed v head a b =
    (if head.sites_differ then sym_differ v (sym_site a) (sym_site b) else true)
    && (if head.chars_differ then sym_differ v (sym_char a) (sym_char b) else true)

differ_if :
    (b : Bool) (x y : Option ℕ) (p : Plan Why) (v : ℕ → ℤ)
    → end_of (if b then ask_differ x y p else p) v ≡ by_test (if b then sym_differ v x y else true) p Holds v
differ_if true x y p v = end-differ x y p v
differ_if false x y p v = refl

pub end-allowed :
    (head : Head) (a b : SymOp) (p : Plan Why) (v : ℕ → ℤ)
    → end_of (ask_allowed head a b p) v ≡ by_test (sym_allowed v head a b) p Holds v
unfolding ask_allowed
end-allowed head a b p v =
    let sites = (if head.sites_differ then sym_differ v (sym_site a) (sym_site b) else true) in
    let chars = (if head.chars_differ then sym_differ v (sym_char a) (sym_char b) else true) in
    differ_if head.sites_differ (sym_site a) (sym_site b) (if head.chars_differ
    then ask_differ (sym_char a) (sym_char b) p else p) v
    ∙ (ap (λ e. if sites then e else None) (differ_if head.chars_differ (sym_char a) (sym_char b) p v)
    ∙ if_and sites chars (end_of p v) None)

-- a cell that was read at the index plus an offset, changed if it stands at the place
abbrev pub changed_cell : (ℕ → ℤ) → (Finished → Finished) → Place → ℤ → Finished → Finished
changed_cell v change p off x =
    if int_lt (v 2 +ℤ off) (integer_at v p) then x else (if int_le (v 2 +ℤ off) (integer_at v p) then change x else x)

-- the finished cell that a reading comes to at the valuation
abbrev pub seen : (ℕ → ℤ) → Mode → List SymOp → ℤ → Finished
seen v mode [] off = base_cell off
seen v mode (Ins p c s ∷ ops) off =
    if int_lt (v 2 +ℤ off) (integer_at v p) then seen v mode ops off
    else (if int_le (v 2 +ℤ off) (integer_at v p) then put_cell c else seen v mode ops (off +ℤ negsuc 0))
seen v Plain (Del p s ∷ ops) off =
    if int_lt (v 2 +ℤ off) (integer_at v p) then seen v Plain ops off else seen v Plain ops (off +ℤ pos 1)
seen v Tomb (Del p s ∷ ops) off = changed_cell v buried_cell p off (seen v Tomb ops off)
seen v mode (Upd p c s ∷ ops) off = changed_cell v (replaced_cell c) p off (seen v mode ops off)
seen v mode (Nop ∷ ops) off = seen v mode ops off

-- a choice of cells goes through what follows
pub through_two :
    (b c : Bool) (x y z : Finished) (g : Finished → Option Why)
    → (if b then g x else (if c then g y else g z)) ≡ g (if b then x else (if c then y else z))
through_two true c x y z g = refl
through_two false true x y z g = refl
through_two false false x y z g = refl

-- an inserted character
end-put :
    (mode : Mode) (p : Place) (c s : ℕ) (ops : List SymOp) (off : ℤ) (go : Finished → Plan Why) (v : ℕ → ℤ)
    → end_of (ask_cell mode ops off go) v ≡ end_of (go (seen v mode ops off)) v
    → end_of (ask_cell mode ops (off +ℤ negsuc 0) go) v ≡ end_of (go (seen v mode ops (off +ℤ negsuc 0))) v
    → end_of (ask_cell mode (Ins p c s ∷ ops) off go) v ≡ end_of (go (seen v mode (Ins p c s ∷ ops) off)) v
unfolding ask_cell
end-put mode p c s ops off go v here behind =
    end-lt (index_and off) p (ask_cell mode ops off go)
    (ask_le (index_and off) p (go (put_cell c)) (ask_cell mode ops (off +ℤ negsuc 0) go)) v
    ∙ (ap (λ e. if int_lt (v 2 +ℤ off) (integer_at v p) then end_of (ask_cell mode ops off go) v else e)
    (end-le (index_and off) p (go (put_cell c)) (ask_cell mode ops (off +ℤ negsuc 0) go) v)
    ∙ (ap (λ e. if int_lt (v 2 +ℤ off) (integer_at v p) then e
    else (if int_le (v 2 +ℤ off) (integer_at v p) then end_of (go (put_cell c)) v
    else end_of (ask_cell mode ops (off +ℤ negsuc 0) go) v)) here
    ∙ (ap (λ e. if int_lt (v 2 +ℤ off) (integer_at v p) then end_of (go (seen v mode ops off)) v
    else (if int_le (v 2 +ℤ off) (integer_at v p) then end_of (go (put_cell c)) v else e)) behind
    ∙ through_two (int_lt (v 2 +ℤ off) (integer_at v p)) (int_le (v 2 +ℤ off) (integer_at v p)) (seen v mode ops off)
    (put_cell c) (seen v mode ops (off +ℤ negsuc 0)) (λ x. end_of (go x) v))))

-- a tombstone, or a character that was replaced
end-changed :
    (mode : Mode) (change : Finished → Finished) (p : Place) (ops : List SymOp)
    (off : ℤ) (go : Finished → Plan Why) (v : ℕ → ℤ)
    → end_of (ask_cell mode ops off go) v ≡ end_of (go (seen v mode ops off)) v
    → end_of (ask_cell mode ops off (λ cell. go (change cell))) v ≡ end_of (go (change (seen v mode ops off))) v
    → end_of (ask_lt (index_and off) p (ask_cell mode ops off go)
    (ask_le (index_and off) p (ask_cell mode ops off (λ cell. go (change cell))) (ask_cell mode ops off go))) v
    ≡ end_of (go (changed_cell v change p off (seen v mode ops off))) v
end-changed mode change p ops off go v kept made =
    end-lt (index_and off) p (ask_cell mode ops off go)
    (ask_le (index_and off) p (ask_cell mode ops off (λ cell. go (change cell))) (ask_cell mode ops off go)) v
    ∙ (ap (λ e. if int_lt (v 2 +ℤ off) (integer_at v p) then end_of (ask_cell mode ops off go) v else e)
    (end-le (index_and off) p (ask_cell mode ops off (λ cell. go (change cell))) (ask_cell mode ops off go) v)
    ∙ (ap (λ e. if int_lt (v 2 +ℤ off) (integer_at v p) then e
    else (if int_le (v 2 +ℤ off) (integer_at v p)
    then end_of (ask_cell mode ops off (λ cell. go (change cell))) v else e)) kept
    ∙ (ap (λ e. if int_lt (v 2 +ℤ off) (integer_at v p) then end_of (go (seen v mode ops off)) v
    else (if int_le (v 2 +ℤ off) (integer_at v p) then e else end_of (go (seen v mode ops off)) v)) made
    ∙ through_two (int_lt (v 2 +ℤ off) (integer_at v p)) (int_le (v 2 +ℤ off) (integer_at v p)) (seen v mode ops off)
    (change (seen v mode ops off)) (seen v mode ops off) (λ x. end_of (go x) v))))

-- a reading goes on with the finished cell that is seen at the valuation
pub end-cell :
    (mode : Mode) (ops : List SymOp) (off : ℤ) (go : Finished → Plan Why) (v : ℕ → ℤ)
    → end_of (ask_cell mode ops off go) v ≡ end_of (go (seen v mode ops off)) v
unfolding ask_cell
end-cell mode [] off go v = refl
end-cell Plain (Ins p c s ∷ ops) off go v =
    end-put Plain p c s ops off go v (end-cell Plain ops off go v) (end-cell Plain ops (off +ℤ negsuc 0) go v)
end-cell Tomb (Ins p c s ∷ ops) off go v = end-put Tomb p c s ops off go v (end-cell Tomb ops off go v)
    (end-cell Tomb ops (off +ℤ negsuc 0) go v)
end-cell Plain (Del p s ∷ ops) off go v =
    end-lt (index_and off) p (ask_cell Plain ops off go) (ask_cell Plain ops (off +ℤ pos 1) go) v
    ∙ (ap (λ e. if int_lt (v 2 +ℤ off) (integer_at v p) then e else end_of (ask_cell Plain ops (off +ℤ pos 1) go) v)
    (end-cell Plain ops off go v)
    ∙ (ap (λ e. if int_lt (v 2 +ℤ off) (integer_at v p) then end_of (go (seen v Plain ops off)) v else e)
    (end-cell Plain ops (off +ℤ pos 1) go v)
    ∙ if_through (λ x. end_of (go x) v) (int_lt (v 2 +ℤ off) (integer_at v p)) (seen v Plain ops off)
    (seen v Plain ops (off +ℤ pos 1))))
end-cell Tomb (Del p s ∷ ops) off go v =
    end-changed Tomb buried_cell p ops off go v (end-cell Tomb ops off go v)
    (end-cell Tomb ops off (λ cell. go (buried_cell cell)) v)
end-cell Plain (Upd p c s ∷ ops) off go v =
    end-changed Plain (replaced_cell c) p ops off go v (end-cell Plain ops off go v)
    (end-cell Plain ops off (λ cell. go (replaced_cell c cell)) v)
end-cell Tomb (Upd p c s ∷ ops) off go v =
    end-changed Tomb (replaced_cell c) p ops off go v (end-cell Tomb ops off go v)
    (end-cell Tomb ops off (λ cell. go (replaced_cell c cell)) v)
end-cell Plain (Nop ∷ ops) off go v = end-cell Plain ops off go v
end-cell Tomb (Nop ∷ ops) off go v = end-cell Tomb ops off go v
