-- One walk through the goals about guards: what holds of the places of two operations, also moved by a small offset,
-- holds of each place of the goal. So the goals have places over few names, and ask of the operations alone.
use Rattle.std.proofs.Common.{◌≡◌, ℕ, zero, suc, ◌<◌, ℤ, pos, negsuc, ◌-ℤ◌, int_le, Bool, true, false, ◌||◌, nat_eq}
use Rattle.std.proofs.Common.{Option, Some, None, List, [], ◌∷◌, take, if◌then◌else◌, refl, sym, subst, arith, lit<}
use Rattle.std.proofs.Common.{◌⊎◌, inl, inr}
use Rattle.std.specs.Prelude.{slice_get}
use Rattle.std.specs.List.{AllByRecursion}
use Rattle.std.proofs.lemmas.Bool.{false≢true}
use Rattle.std.proofs.lemmas.Bool.Decides.{Decides-eqb}
use Rattle.std.proofs.lemmas.Int.{ints}
use Rattle.diff_graph.specs.declared.lit.Lit.{Lit}
use Rattle.ot_model.specs.declared.op.Kind.{Kind}
use Rattle.ot_model.specs.declared.op.Kind.TheVariants as kinds
use Rattle.fn_rules.specs.declared.function.ObName.TheVariants.{Pair}
use Rattle.fn_rules.specs.declared.function.Res.{Res}
use Rattle.fn_rules.specs.declared.function.Res.TheVariants as results
use Rattle.fn_rules.specs.declared.guard.Atom.{Atom}
use Rattle.fn_rules.specs.declared.guard.Cmp.{Cmp}
use Rattle.fn_rules.specs.declared.guard.Cmp.TheVariants as cmp
use Rattle.fn_rules.specs.declared.guard.Side.{Side}
use Rattle.fn_rules.specs.declared.guard.Side.TheVariants.{First, Second}
use Rattle.fn_rules.specs.declared.guard.Sort.{Sort}
use Rattle.fn_rules.specs.declared.guard.Sort.TheVariants.{Pos, Site, Char}
use Rattle.fn_rules.specs.Formulas as guards
use Rattle.fn_rules.specs.Formulas.{Formula, of_side, other_side}
use Rattle.fn_rules.specs.Functions.{Function, GuardedCase}
use Rattle.ask_core.specs.Plans as plans
use Rattle.ask_core.specs.Plans.{Plan}
use Rattle.ask_core.specs.Leading.{LeadTo}
use Rattle.ot_questions.specs.declared.name.Who.{Who}
use Rattle.ot_questions.specs.declared.name.Who.TheVariants.{A, B}
use Rattle.ot_questions.specs.declared.place.Place.{Place}
use Rattle.ot_questions.specs.declared.place.SymOp.{SymOp}
use Rattle.ot_questions.specs.declared.place.SymOp.TheVariants.{Ins, Del, Upd, Nop}
use Rattle.ot_questions.specs.declared.why.Why.{Why}
use Rattle.ot_questions.specs.Names.{position_name, site_name, char_name}
use Rattle.ot_questions.specs.Nears.{IsNear, HasNearAtoms, IsNearCase}
use Rattle.ot_questions.specs.Places.{place, plus, zero_place, place_of_name, sym_op, sym_at, sym_kind, sym_site}
use Rattle.ot_questions.specs.Places.{sym_char, sym_placed, sym_result, sym_thing, offset_of}
use Rattle.ot_questions.specs.Questions.{ask_le, ask_lt, ask_eq}
use Rattle.ot_questions.specs.Sorts.{speaks_of}
use Rattle.ot_terms.specs.Belonging.{HasParts, HasPlaces, IsPlace, IsLowerable}
use Rattle.ot_terms.specs.Forms.{FormTree, True, Le, Lt, Eq, And, Or, Not}
use Rattle.ot_terms.specs.Goals.{GoalTree, Holds, Fails, If, Choose, Deliver, Same}
use Rattle.ot_terms.specs.Placing.{compared, guard_form}
use Rattle.ot_terms.specs.Standing.{ask_form, ask_goal}
use Rattle.ot_terms.specs.Starting.{if_differ, if_assumed, if_allowed}
use Rattle.fn_rules.specs.declared.function.Head.{Head}
use Rattle.ot_audit.specs.declared.target.Target.{Target}
use Rattle.ot_audit.specs.declared.target.Target.TheVariants.{Case, Open}
use Rattle.ot_audit.specs.Goals.{found, if_there, if_meant, unless_true, at_own, at_target, with_first_result}
use Rattle.ot_audit.specs.Goals.{unless_one_place, unless_same, unless_agreed}

abbrev pub PlacesOf : (Place → Type 0) → FormTree → Type 0
PlacesOf Q True = Unit {0}
PlacesOf Q (Le x y) = Q x × Q y
PlacesOf Q (Lt x y) = Q x × Q y
PlacesOf Q (Eq x y) = Q x × Q y
PlacesOf Q (And g h) = PlacesOf Q g × PlacesOf Q h
PlacesOf Q (Or g h) = PlacesOf Q g × PlacesOf Q h
PlacesOf Q (Not g) = PlacesOf Q g

-- the goal is made of conditions and ends alone, and it holds of each place
abbrev pub GoalOf : (Place → Type 0) → GoalTree → Type 0
GoalOf Q Holds = Unit {0}
GoalOf Q (Fails why) = Unit {0}
GoalOf Q (If g on_yes on_no) = PlacesOf Q g × GoalOf Q on_yes × GoalOf Q on_no
GoalOf Q (Choose case a b plan) = ⊥
GoalOf Q (Deliver o plan) = ⊥
GoalOf Q (Same left right) = ⊥

-- it holds of a place, and of the place moved by an offset of a function
abbrev pub Serves : (Place → Type 0) → Place → Type 0
Serves Q x = Q x × ((k : ℤ) → IsNear 99 k → Q (plus x k))

-- so it does of each thing of an operation
abbrev pub OpServes : (Place → Type 0) → SymOp → Type 0
OpServes Q o = (sort : Sort) → Serves Q (sym_thing sort o)

-- where it holds of zero and of the names of an operation, it holds of each thing of the operation
pub op_serves :
    (Q : Place → Type 0) (k : Kind) (who : Who) → Serves Q zero_place → Serves Q (place (position_name who) (pos 0))
    → Serves Q (place (site_name who) (pos 0)) → Serves Q (place (char_name who) (pos 0)) → OpServes Q (sym_op k who)
op_serves Q kinds.Ins who nothing at site ch Pos = at
op_serves Q kinds.Ins who nothing at site ch Site = site
op_serves Q kinds.Ins who nothing at site ch Char = ch
op_serves Q kinds.Del who nothing at site ch Pos = at
op_serves Q kinds.Del who nothing at site ch Site = site
op_serves Q kinds.Del who nothing at site ch Char = nothing
op_serves Q kinds.Upd who nothing at site ch Pos = at
op_serves Q kinds.Upd who nothing at site ch Site = site
op_serves Q kinds.Upd who nothing at site ch Char = ch

-- what is known of each case of a list
abbrev pub IfThere : (GuardedCase → Type 0) → Option GuardedCase → Type 0
IfThere P None = Unit {0}
IfThere P (Some c) = P c

pub all_taken : (P : GuardedCase → Type 0) (cs : List GuardedCase) (i : ℕ) → AllByRecursion P cs
    → AllByRecursion P (take i cs)
all_taken P cs zero all = tt
all_taken P [] (suc i) all = tt
all_taken P (c ∷ cs) (suc i) all = (all.0, all_taken P cs i all.1)

pub all_got : (P : GuardedCase → Type 0) (cs : List GuardedCase) (i : ℕ) → AllByRecursion P cs
    → IfThere P (slice_get cs i)
all_got P [] zero all = tt
all_got P [] (suc i) all = tt
all_got P (c ∷ cs) zero all = all.0
all_got P (c ∷ cs) (suc i) all = all_got P cs i all.1

module _ (Q : Place → Type 0) (at_zero : Serves Q zero_place) where
  compared_places : (c : Cmp) (x y : Place) → Q x → Q y → PlacesOf Q (compared c x y)
  compared_places cmp.Lt x y hx hy = (hx, hy)
  compared_places cmp.Le x y hx hy = (hx, hy)
  compared_places cmp.Eq x y hx hy = (hx, hy)

  -- the place of a result
  placed_at : (o : SymOp) (to : Place) → Q to → Q (sym_at (sym_placed o to))
  placed_at (Ins at ch site) to h = h
  placed_at (Del at site) to h = h
  placed_at (Upd at ch site) to h = h
  placed_at Nop to h = at_zero.0

  -- of two operations of which it holds
  module _ (a b : SymOp) (ha : OpServes Q a) (hb : OpServes Q b) where
    atom_places : (atom : Atom) (side : Side) → IsNear 99 atom.k
        → PlacesOf Q (compared atom.cmp (sym_thing atom.sort (of_side side a b))
        (plus (sym_thing atom.sort (of_side (other_side side) a b)) atom.k))
    atom_places atom First near = compared_places atom.cmp (sym_thing atom.sort a) (plus (sym_thing atom.sort b) atom.k)
        (ha atom.sort).0 ((hb atom.sort).1 atom.k near)
    atom_places atom Second near = compared_places atom.cmp (sym_thing atom.sort b)
        (plus (sym_thing atom.sort a) atom.k) (hb atom.sort).0 ((ha atom.sort).1 atom.k near)

    pub guard_places : (g : Formula) → HasNearAtoms g → PlacesOf Q (guard_form g a b)
    guard_places guards.Always near = tt
    guard_places (guards.Compare atom) near = atom_places atom atom.left near
    guard_places (guards.And g h) near = (guard_places g near.0, guard_places h near.1)
    guard_places (guards.Or g h) near = (guard_places g near.0, guard_places h near.1)
    guard_places (guards.Not g) near = guard_places g near

    pub result_by : (res : Res) → IsNear 99 (offset_of res) → Q (sym_at (sym_result res a b))
    result_by (results.Keep First k) near = placed_at a (plus (sym_at a) k) ((ha Pos).1 k near)
    result_by (results.Keep Second k) near = placed_at a (plus (sym_at b) k) ((hb Pos).1 k near)
    result_by results.Nop near = at_zero.0

    there_of : (who : Who) (next : GoalTree) → Q (place (position_name who) (pos 0)) → GoalOf Q next
        → GoalOf Q (if_there who next)
    there_of who next at h = ((at_zero.0, at), h, tt)

    -- names that are there, of which it holds
    abbrev NameServes : Option ℕ → Type 0
    NameServes x = Q (place_of_name x)

    differ_of : (x y : Option ℕ) (next : GoalTree) → NameServes x → NameServes y → GoalOf Q next
        → GoalOf Q (if_differ x y next)
    differ_of None y next hx hy h = h
    differ_of (Some x) None next hx hy h = h
    differ_of (Some x) (Some y) next hx hy h = ((hx, hy), tt, h)

    assumed_of :
        (assumed : Bool) (x y : Option ℕ) (next : GoalTree) → NameServes x → NameServes y → GoalOf Q next
        → GoalOf Q (if_assumed assumed x y next)
    assumed_of true x y next hx hy h = differ_of x y next hx hy h
    assumed_of false x y next hx hy h = h

    pub allowed_of : (head : Head) (next : GoalTree) → GoalOf Q next → GoalOf Q (if_allowed head a b next)
    allowed_of head next h =
        assumed_of head.sites_differ (sym_site a) (sym_site b)
        (if_assumed head.chars_differ (sym_char a) (sym_char b) next) (ha Site).0 (hb Site).0
        (assumed_of head.chars_differ (sym_char a) (sym_char b) next (ha Char).0 (hb Char).0 h)

    pub meant_of :
        (head : Head) (next : GoalTree) → Q (place (position_name A) (pos 0))
        → Q (place (position_name B) (pos 0)) → GoalOf Q next
        → GoalOf Q (if_meant head a b next)
    meant_of head next first second h =
        there_of A (if_there B (if_allowed head a b next)) first
        (there_of B (if_allowed head a b next) second (allowed_of head next h))

    unless_true_of :
        (cs : List GuardedCase) (next : GoalTree) → AllByRecursion IsNearCase cs → GoalOf Q next
        → GoalOf Q (unless_true cs a b next)
    unless_true_of [] next near h = h
    unless_true_of (c ∷ cs) next near h = (guard_places c.guard near.0.0, tt, unless_true_of cs next near.1 h)

    own_of : (o : Option GuardedCase) → IfThere IsNearCase o → GoalOf Q (at_own o a b)
    own_of None near = tt
    own_of (Some c) near = (guard_places c.guard near.0, tt, tt)

    pub target_of : (cs : List GuardedCase) (target : Target) → AllByRecursion IsNearCase cs
        → GoalOf Q (at_target cs target a b)
    target_of cs (Case i) near = unless_true_of (take i cs) (at_own (slice_get cs i) a b)
        (all_taken IsNearCase cs i near) (own_of (slice_get cs i) (all_got IsNearCase cs i near))
    target_of cs Open near = unless_true_of cs found near tt

    -- goes on with results of which it holds
    pub with_result_of :
        (cs : List GuardedCase) (go : Option SymOp → GoalTree) → AllByRecursion IsNearCase cs → GoalOf Q (go None)
        → ((r : SymOp) → Q (sym_at r) → GoalOf Q (go (Some r))) → GoalOf Q (with_first_result cs a b go)
    with_result_of [] go near none goes = none
    with_result_of (c ∷ cs) go near none goes = (
      guard_places c.guard near.0.0,
      goes (sym_result c.res a b) (result_by c.res near.0.1),
      with_result_of cs go near.1 none goes,
    )

    pub one_place_of : (j k : Option Kind) (at there : Place) → Q at → Q there
        → GoalOf Q (unless_one_place j k at there)
    one_place_of None None at there h g = tt
    one_place_of None (Some k) at there h g = tt
    one_place_of (Some j) None at there h g = tt
    one_place_of (Some j) (Some k) at there h g = ((h, g), tt, tt)

    pub agreed_of :
        (cs ds : List GuardedCase) → AllByRecursion IsNearCase cs → AllByRecursion IsNearCase ds
        → GoalOf Q (unless_agreed cs ds a b)
    agreed_of cs ds near other_near =
        with_result_of cs (λ x. with_first_result ds a b (λ y. unless_same x y)) near
        (with_result_of ds (λ y. unless_same None y) other_near tt (λ y hy. tt))
        (λ x hx. with_result_of ds (λ y. unless_same (Some x) y) other_near tt
        (λ y hy. one_place_of (sym_kind x) (sym_kind y) (sym_at x) (sym_at y) hx hy))

-- a place over the names of a pair, with a small offset
pub record IsSmallPlace (x : Place) : Type 0 where
  pub name : x.var < 9
  pub near : IsNear 199 x.off

as_place : (x : Place) → IsSmallPlace x → IsPlace 9 x
as_place x h =
    let near = h.near in
    record {
      name = h.name;
      near = record { low = omega (arith, ints, near.low); high = omega (arith, ints, near.high) };
    }

as_lowerable : (x : Place) → IsSmallPlace x → IsLowerable 9 x
as_lowerable x h =
    let near = h.near in
    record { name = h.name; low = omega (arith, ints, near.low); high = omega (arith, ints, near.high) }

places_small : (g : FormTree) → PlacesOf IsSmallPlace g → HasPlaces 9 g
places_small True h = tt
places_small (Le x y) h = (as_place x h.0, as_place y h.1)
places_small (Lt x y) h = (as_place x h.0, as_lowerable y h.1)
places_small (Eq x y) h = (as_place x h.0, as_place y h.1)
places_small (And g i) h = (places_small g h.0, places_small i h.1)
places_small (Or g i) h = (places_small g h.0, places_small i h.1)
places_small (Not g) h = places_small g h

pub parts_small : (f : Function) (k l : Kind) (g : GoalTree) → GoalOf IsSmallPlace g → HasParts f (Pair k l) g
parts_small f k l Holds h = tt
parts_small f k l (Fails why) h = tt
parts_small f k l (If g y n) h = (places_small g h.0, parts_small f k l y h.1, parts_small f k l n h.2)
parts_small f k l (Choose case a b plan) h = absurd h
parts_small f k l (Deliver o plan) h = absurd h
parts_small f k l (Same left right) h = absurd h

pub small_moved : (x : ℕ) (k : ℤ) → x < 9 → IsNear 99 k → IsSmallPlace (plus (place x (pos 0)) k)
small_moved x k below near =
    record {
      name = below;
      near = record { low = omega (arith, ints, near.low); high = omega (arith, ints, near.high) };
    }

pub small_name : (x : ℕ) → x < 9 → Serves IsSmallPlace (place x (pos 0))
small_name x below = (
  record { name = below; near = record { low = omega (arith, ints); high = omega (arith, ints) } },
  λ k near. small_moved x k below near,
)

pub small_zero : Serves IsSmallPlace zero_place
small_zero = small_name 0 (lit< tt)

pub small_first : (k : Kind) → OpServes IsSmallPlace (sym_op k A)
small_first k =
    op_serves IsSmallPlace k A small_zero (small_name 3 (lit< tt)) (small_name 4 (lit< tt)) (small_name 5 (lit< tt))

pub small_second : (k : Kind) → OpServes IsSmallPlace (sym_op k B)
small_second k =
    op_serves IsSmallPlace k B small_zero (small_name 6 (lit< tt)) (small_name 7 (lit< tt)) (small_name 8 (lit< tt))

pub small_position : (who : Who) → position_name who < 9 → IsSmallPlace (place (position_name who) (pos 0))
small_position who below = (small_name (position_name who) below).0

-- what holds of the names of places holds of the names that are asked
module _ (P : ℕ → Type 0) where
  abbrev pub OfName : Place → Type 0
  OfName x = P x.var

  abbrev pub AsksOf : Plan Why → Type 0
  AsksOf (plans.Ask l on_yes on_no) = P l.x × P l.y × AsksOf on_yes × AsksOf on_no
  AsksOf plans.Holds = Unit {0}
  AsksOf (plans.Fails why) = Unit {0}

  asks_if : (b : Bool) (p q : Plan Why) → AsksOf p → AsksOf q → AsksOf (if b then p else q)
  asks_if true p q hp hq = hp
  asks_if false p q hp hq = hq

  -- a comparison asks of the names of its two places alone
  asks_le : (x y : Place) (p q : Plan Why) → P x.var → P y.var → AsksOf p → AsksOf q → AsksOf (ask_le x y p q)
  unfolding ask_le
  asks_le x y p q hx hy hp hq =
      by_test (nat_eq x.var y.var)
    where
      by_test :
          (b : Bool)
          → AsksOf (if b then (if int_le x.off y.off then p else q)
          else plans.Ask (record { x = x.var; y = y.var; k = y.off -ℤ x.off }) p q)
      by_test true = asks_if (int_le x.off y.off) p q hp hq
      by_test false = (hx, hy, hp, hq)

  asks_form : (g : FormTree) (p q : Plan Why) → PlacesOf OfName g → AsksOf p → AsksOf q → AsksOf (ask_form g p q)
  unfolding ask_form ask_lt ask_eq ask_le
  asks_form True p q h hp hq = hp
  asks_form (Le x y) p q h hp hq = asks_le x y p q h.0 h.1 hp hq
  asks_form (Lt x y) p q h hp hq = asks_le x (plus y (negsuc 0)) p q h.0 h.1 hp hq
  asks_form (Eq x y) p q h hp hq = asks_le x y (ask_le y x p q) q h.0 h.1 (asks_le y x p q h.1 h.0 hp hq) hq
  asks_form (And g i) p q h hp hq = asks_form g (ask_form i p q) q h.0 (asks_form i p q h.1 hp hq) hq
  asks_form (Or g i) p q h hp hq = asks_form g p (ask_form i p q) h.0 hp (asks_form i p q h.1 hp hq)
  asks_form (Not g) p q h hp hq = asks_form g q p h hq hp

  pub asks_goal : (f : Function) (g : GoalTree) → GoalOf OfName g → AsksOf (ask_goal f g)
  unfolding ask_goal
  asks_goal f Holds h = tt
  asks_goal f (Fails why) h = tt
  asks_goal f (If g y n) h = asks_form g (ask_goal f y) (ask_goal f n) h.0 (asks_goal f y h.1) (asks_goal f n h.2)
  asks_goal f (Choose case a b plan) h = absurd h
  asks_goal f (Deliver o plan) h = absurd h
  asks_goal f (Same left right) h = absurd h

  either_way : (a b : Bool) → a || b ≡ true → (a ≡ true) ⊎ (b ≡ true)
  either_way true b e = inl refl
  either_way false b e = inr e

  by_name : (m : Lit) (w : List Lit) (x : ℕ) → P m.x → P m.y → (speaks_of w x ≡ true → P x)
      → speaks_of (m ∷ w) x ≡ true → P x
  by_name m w x first second others e =
      elim (either_way (nat_eq m.x x || nat_eq m.y x) (speaks_of w x) e) [
        | inl one ↦
            elim (either_way (nat_eq m.x x) (nat_eq m.y x) one) [
              | inl is ↦ subst P ((Decides-eqb m.x x).0 is) first
              | inr is ↦ subst P ((Decides-eqb m.y x).0 is) second
            ]
        | inr later ↦ others later
      ]

  -- so it holds of each name that answers on a way through the plan speak of
  pub spoken :
      (why : Why) (p : Plan Why) (w : List Lit) → AsksOf p → LeadTo why p w → (x : ℕ) → speaks_of w x ≡ true → P x
  spoken why (plans.Ask l p q) [] asks lead x e = absurd lead
  spoken why (plans.Ask l p q) (m ∷ w) asks (inl (same, lead)) x e =
      by_name m w x (subst (λ n. P n.x) (sym same) asks.0) (subst (λ n. P n.y) (sym same) asks.1)
      (spoken why p w asks.2 lead x) e
  spoken why (plans.Ask l p q) (m ∷ w) asks (inr (same, lead)) x e =
      by_name m w x (subst (λ n. P n.x) (sym same) asks.1) (subst (λ n. P n.y) (sym same) asks.0)
      (spoken why q w asks.3 lead x) e
  spoken why plans.Holds w asks lead x e = absurd lead
  spoken why (plans.Fails cause) [] asks lead x e = absurd (false≢true e)
  spoken why (plans.Fails cause) (m ∷ w) asks lead x e = absurd lead

  -- names that serve
  pub name_serves : (x : ℕ) → P x → Serves OfName (place x (pos 0))
  name_serves x h = (h, λ k near. h)
