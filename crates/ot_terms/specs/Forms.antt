-- Forms as plain trees, and their truth.
use Rattle.std.specs.Prelude.{ℕ, ℤ, negsuc, Bool, true, not, ◌&&◌, ◌||◌, int_le, int_lt}
use Rattle.std.specs.Ordering.{int_eq}
use Rattle.ot_questions.specs.declared.place.Place.{Place}
use Rattle.ot_questions.specs.Places.{plus, by_order, integer_at}
use Rattle.ot_terms.specs.declared.form.Form.{Form}
use Rattle.ot_terms.specs.declared.form.Form.TheVariants as rust

-- a form as a plain tree, whose parts are values
pub data FormTree : Type 0 where
  True : FormTree
  Le : Place → Place → FormTree
  Lt : Place → Place → FormTree
  Eq : Place → Place → FormTree
  And : FormTree → FormTree → FormTree
  Or : FormTree → FormTree → FormTree
  Not : FormTree → FormTree

-- the plain tree that a form stands for
abbrev pub form_tree : Form → FormTree
form_tree rust.True = True
form_tree (rust.Le x y) = Le x y
form_tree (rust.Lt x y) = Lt x y
form_tree (rust.Eq x y) = Eq x y
form_tree (rust.And' p g q h) = And (form_tree g) (form_tree h)
form_tree (rust.Or' p g q h) = Or (form_tree g) (form_tree h)
form_tree (rust.Not' p g) = Not (form_tree g)

-- What a form asks and leaves, of two ends, where `ask` says what is left by the order of two places. The second part
-- of `and` and `or` is asked only where the first leaves it open.
abbrev pub by_form : {A : Type 0} → (Place → Place → A → A → A) → FormTree → A → A → A
by_form ask True on_yes on_no = on_yes
by_form ask (Le x y) on_yes on_no = by_order ask x y on_yes on_no
by_form ask (Lt x y) on_yes on_no = by_order ask x (plus y (negsuc 0)) on_yes on_no
by_form ask (Eq x y) on_yes on_no = by_order ask x y (by_order ask y x on_yes on_no) on_no
by_form ask (And g h) on_yes on_no = by_form ask g (by_form ask h on_yes on_no) on_no
by_form ask (Or g h) on_yes on_no = by_form ask g on_yes (by_form ask h on_yes on_no)
by_form ask (Not g) on_yes on_no = by_form ask g on_no on_yes

-- the truth of a form at a valuation
abbrev pub form_holds : (ℕ → ℤ) → FormTree → Bool
form_holds v True = true
form_holds v (Le x y) = int_le (integer_at v x) (integer_at v y)
form_holds v (Lt x y) = int_lt (integer_at v x) (integer_at v y)
form_holds v (Eq x y) = int_eq (integer_at v x) (integer_at v y)
form_holds v (And g h) = form_holds v g && form_holds v h
form_holds v (Or g h) = form_holds v g || form_holds v h
form_holds v (Not g) = not (form_holds v g)
