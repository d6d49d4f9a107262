-- The goal that an obligation begins with is of its function and obligation.
use Rattle.std.proofs.Common.{ℕ, ◌<◌, pos, Bool, true, false, ◌&&◌, IsTrue, Option, Some, None, [], ◌∷◌, refl, arith}
use Rattle.std.proofs.lemmas.Int.{ints}
use Rattle.ot_model.specs.declared.op.Kind.{Kind}
use Rattle.ot_model.specs.declared.op.Kind.TheVariants as kinds
use Rattle.fn_rules.specs.declared.function.Head.{Head}
use Rattle.fn_rules.specs.declared.function.ObName.{ObName}
use Rattle.fn_rules.specs.declared.function.ObName.TheVariants.{Pair, Triple}
use Rattle.fn_rules.specs.Functions.{Function, is_declared}
use Rattle.fn_rules.specs.Obligations.{is_obligation}
use Rattle.ot_questions.specs.declared.name.Who.{Who}
use Rattle.ot_questions.specs.declared.name.Who.TheVariants.{A, B, C}
use Rattle.ot_questions.specs.declared.place.SymOp.TheVariants.{Nop}
use Rattle.ot_questions.specs.Names.{name_count, position_name, site_name, char_name}
use Rattle.ot_questions.specs.Nears.{IsNearOp, IsDeclaredOp}
use Rattle.ot_questions.specs.Places.{place, sym_op, sym_site, sym_char}
use Rattle.ot_questions.proofs.Nears.{IsNear-zero, both_true}
use Rattle.ot_terms.specs.Goals.{GoalTree}
use Rattle.ot_terms.specs.Starting.{enabled_form, if_differ, if_assumed, if_allowed, if_all_enabled, if_length}
use Rattle.ot_terms.specs.Starting.{first_choice, start_goal_of}
use Rattle.ot_terms.specs.Belonging.{IsPlace, IsLowerable, HasPlaces, IsMade, HasParts, IsGoalOf}

IsPlace-name : (count x : ℕ) → x < count → IsPlace count (place x (pos 0))
IsPlace-name count x h = record { name = h; near = IsNear-zero 200 }

IsLowerable-name : (count x : ℕ) → x < count → IsLowerable count (place x (pos 0))
IsLowerable-name count x h = record { name = h; low = omega (arith, ints); high = omega (arith, ints) }

-- the character has the last name of an operation
module _ (count : ℕ) where
  position_below : (who : Who) → char_name who < count → position_name who < count
  position_below A h = omega arith
  position_below B h = omega arith
  position_below C h = omega arith

  site_below : (who : Who) → char_name who < count → site_name who < count
  site_below A h = omega arith
  site_below B h = omega arith
  site_below C h = omega arith

  zero_below : (who : Who) → char_name who < count → 0 < count
  zero_below A h = omega arith
  zero_below B h = omega arith
  zero_below C h = omega arith

  length_below : (who : Who) → char_name who < count → 1 < count
  length_below A h = omega arith
  length_below B h = omega arith
  length_below C h = omega arith

  IsMade-sym_op : (k : Kind) (who : Who) → char_name who < count → IsMade count k (sym_op k who)
  IsMade-sym_op kinds.Ins who h = record { kind = refl; at = refl; names = (position_below who h, h, site_below who h) }
  IsMade-sym_op kinds.Del who h = record { kind = refl; at = refl; names = (position_below who h, site_below who h) }
  IsMade-sym_op kinds.Upd who h = record { kind = refl; at = refl; names = (position_below who h, h, site_below who h) }

  -- the test that an operation as it was made is enabled has places below the count
  HasPlaces-enabled_form :
      (k : Kind) (who : Who) → char_name who < count → HasPlaces count (enabled_form (sym_op k who) (pos 0))
  HasPlaces-enabled_form k who h =
      let zero = IsPlace-name count 0 (zero_below who h) in
      let at = IsPlace-name count (position_name who) (position_below who h) in
      by_kind k zero at
    where
      by_kind :
          (k : Kind) → IsPlace count (place 0 (pos 0)) → IsPlace count (place (position_name who) (pos 0))
          → HasPlaces count (enabled_form (sym_op k who) (pos 0))
      by_kind kinds.Ins zero at = ((zero, at), (at, IsPlace-name count 1 (length_below who h)))
      by_kind kinds.Del zero at = ((zero, at), (at, IsLowerable-name count 1 (length_below who h)))
      by_kind kinds.Upd zero at = ((zero, at), (at, IsLowerable-name count 1 (length_below who h)))

  -- a name that is there is below the count
  abbrev IsBelow : Option ℕ → Type 0
  IsBelow None = Unit {0}
  IsBelow (Some x) = x < count

  site_is_below : (k : Kind) (who : Who) → char_name who < count → IsBelow (sym_site (sym_op k who))
  site_is_below kinds.Ins who h = site_below who h
  site_is_below kinds.Del who h = site_below who h
  site_is_below kinds.Upd who h = site_below who h

  char_is_below : (k : Kind) (who : Who) → char_name who < count → IsBelow (sym_char (sym_op k who))
  char_is_below kinds.Ins who h = h
  char_is_below kinds.Del who h = tt
  char_is_below kinds.Upd who h = h

IsNearOp-sym_op : (k : Kind) (who : Who) → IsNearOp 99 (sym_op k who)
IsNearOp-sym_op kinds.Ins who = IsNear-zero 99
IsNearOp-sym_op kinds.Del who = IsNear-zero 99
IsNearOp-sym_op kinds.Upd who = IsNear-zero 99

IsDeclaredOp-sym_op : (head : Head) (k : Kind) (who : Who) → IsTrue (is_declared head k)
    → IsDeclaredOp head (sym_op k who)
IsDeclaredOp-sym_op head kinds.Ins who h = h
IsDeclaredOp-sym_op head kinds.Del who h = h
IsDeclaredOp-sym_op head kinds.Upd who h = h

module _ (f : Function) (ob : ObName) where
  abbrev Below : Option ℕ → Type 0
  Below x = IsBelow (name_count ob) x

  HasParts-if_differ :
      (x y : Option ℕ) (next : GoalTree) → Below x → Below y → HasParts f ob next → HasParts f ob (if_differ x y next)
  HasParts-if_differ None y next hx hy h = h
  HasParts-if_differ (Some x) None next hx hy h = h
  HasParts-if_differ (Some x) (Some y) next hx hy h =
      ((IsPlace-name (name_count ob) x hx, IsPlace-name (name_count ob) y hy), tt, h)

  HasParts-if_assumed :
      (assumed : Bool) (x y : Option ℕ) (next : GoalTree) → Below x → Below y → HasParts f ob next
      → HasParts f ob (if_assumed assumed x y next)
  HasParts-if_assumed true x y next hx hy h = HasParts-if_differ x y next hx hy h
  HasParts-if_assumed false x y next hx hy h = h

  -- of operations whose last names are below the count
  HasParts-if_allowed :
      (k l : Kind) (who other : Who) (next : GoalTree) → char_name who < name_count ob → char_name other < name_count ob
      → HasParts f ob next → HasParts f ob (if_allowed f.head (sym_op k who) (sym_op l other) next)
  HasParts-if_allowed k l who other next hw ho h =
      let n = name_count ob in
      let a = sym_op k who in
      let b = sym_op l other in
      HasParts-if_assumed f.head.sites_differ (sym_site a) (sym_site b)
      (if_assumed f.head.chars_differ (sym_char a) (sym_char b) next)
      (site_is_below n k who hw)
      (site_is_below n l other ho)
      (HasParts-if_assumed f.head.chars_differ (sym_char a) (sym_char b) next (char_is_below n k who hw)
      (char_is_below n l other ho) h)

  HasParts-if_length : (next : GoalTree) → 1 < name_count ob → HasParts f ob next → HasParts f ob (if_length next)
  HasParts-if_length next one h =
      ((IsPlace-name (name_count ob) 0 (omega arith), IsPlace-name (name_count ob) 1 one), h, tt)

module _ (f : Function) where
  -- the first choice of a pair has parts of the pair
  first_of_two :
      (k l : Kind) → IsTrue (is_obligation f.head (Pair k l))
      → HasParts f (Pair k l) (first_choice (Pair k l) (sym_op k A) (sym_op l B) Nop)
  first_of_two k l h =
      let declared = both_true (is_declared f.head k) (is_declared f.head l) h in
      record {
        progress = record {
          same = refl;
          made = (sym_op k A, sym_op l B, refl, IsMade-sym_op 9 k A (omega arith), IsMade-sym_op 9 l B (omega arith));
          results = tt;
          awaited = omega arith;
          room = refl;
        };
        next = refl;
        a_declared = IsDeclaredOp-sym_op f.head l B declared.1;
        b_declared = IsDeclaredOp-sym_op f.head k A declared.0;
        a_near = IsNearOp-sym_op l B;
        b_near = IsNearOp-sym_op k A;
        cases = omega arith;
      }

  -- the first choice of a triple has parts of the triple
  first_of_three :
      (k l m : Kind) → IsTrue (is_obligation f.head (Triple k l m))
      → HasParts f (Triple k l m) (first_choice (Triple k l m) (sym_op k A) (sym_op l B) (sym_op m C))
  first_of_three k l m h =
      let first_two = both_true (is_declared f.head k && is_declared f.head l) (is_declared f.head m) h in
      let declared = both_true (is_declared f.head k) (is_declared f.head l) first_two.0 in
      record {
        progress = record {
          same = refl;
          made = (
            sym_op k A,
            sym_op l B,
            sym_op m C,
            refl,
            IsMade-sym_op 12 k A (omega arith),
            IsMade-sym_op 12 l B (omega arith),
            IsMade-sym_op 12 m C (omega arith),
          );
          results = tt;
          awaited = omega arith;
          room = refl;
        };
        next = refl;
        a_declared = IsDeclaredOp-sym_op f.head l B declared.1;
        b_declared = IsDeclaredOp-sym_op f.head k A declared.0;
        a_near = IsNearOp-sym_op l B;
        b_near = IsNearOp-sym_op k A;
        cases = omega arith;
      }

  -- the goal that an obligation begins with is one of its function and of the obligation
  pub start_of_belongs : (ob : ObName) → IsTrue (is_obligation f.head ob) → IsGoalOf f ob (start_goal_of f.head ob)
  start_of_belongs (Pair k l) h =
      let a = sym_op k A in
      let b = sym_op l B in
      let last = first_choice (Pair k l) a b Nop in
      let allowed = if_allowed f.head a b last in
      record {
        declared = h;
        parts =
            HasParts-if_length f (Pair k l) (if_all_enabled (a ∷ b ∷ []) allowed) (omega arith) (
              HasPlaces-enabled_form 9 k A (omega arith),
              (
                HasPlaces-enabled_form 9 l B (omega arith),
                HasParts-if_allowed f (Pair k l) k l A B last (omega arith) (omega arith) (first_of_two k l h),
                tt,
              ),
              tt,
            );
      }
  start_of_belongs (Triple k l m) h =
      let a = sym_op k A in
      let b = sym_op l B in
      let c = sym_op m C in
      let ob = Triple k l m in
      let last = first_choice ob a b c in
      let last_two = if_allowed f.head b c last in
      let outer_two = if_allowed f.head a c last_two in
      let first_two = if_allowed f.head a b outer_two in
      record {
        declared = h;
        parts =
            HasParts-if_length f ob (if_all_enabled (a ∷ b ∷ c ∷ []) first_two) (omega arith) (
              HasPlaces-enabled_form 12 k A (omega arith),
              (
                HasPlaces-enabled_form 12 l B (omega arith),
                (
                  HasPlaces-enabled_form 12 m C (omega arith),
                  HasParts-if_allowed f ob k l A B outer_two (omega arith) (omega arith)
                      (HasParts-if_allowed f ob k m A C last_two (omega arith) (omega arith)
                      (HasParts-if_allowed f ob l m B C last (omega arith) (omega arith) (first_of_three k l m h))),
                  tt,
                ),
                tt,
              ),
              tt,
            );
      }
