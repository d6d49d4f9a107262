-- Integers that meet answers can be raised above the floors: all sites by one number, and all characters by
-- another, and a position that the answers do not speak of becomes 0.
use Rattle.std.proofs.Common.{◌≡◌, ℕ, zero, suc, ◌+◌, ◌≤◌, lit≤, ℤ, pos, negsuc, ◌+ℤ◌, ◌≤ℤ◌, Bool, true, if◌then◌else◌}
use Rattle.std.proofs.Common.{List, [], ◌∷◌, refl, ap, sym, ◌∙◌, subst, inl, inr, arith}
use Rattle.std.specs.Prelude.{unsigned_abs}
use Rattle.std.proofs.lemmas.Bool.{cases_Bool}
use Rattle.std.proofs.lemmas.Int.{ints}
use Rattle.diff_graph.specs.declared.lit.Lit.{Lit}
use Rattle.diff_graph.specs.Literals.{AreMet}
use Rattle.diff_tables.specs.Solutions.{MeetsFloors}
use Rattle.fn_rules.specs.declared.function.ObName.{ObName}
use Rattle.fn_rules.specs.declared.function.ObName.TheVariants.{Pair, Triple}
use Rattle.fn_rules.specs.declared.guard.Sort.{Sort}
use Rattle.fn_rules.specs.declared.guard.Sort.TheVariants.{Pos, Site, Char}
use Rattle.ot_questions.specs.declared.name.Who.{Who}
use Rattle.ot_questions.specs.declared.name.Who.TheVariants.{A, B, C}
use Rattle.ot_questions.specs.Names.{site_name, char_name}
use Rattle.ot_questions.specs.Sorts.{sort_name, AreLike, speaks_of, HasNoNegativePosition}
use Rattle.ot_values.specs.Values.{floors_of}
use Rattle.ot_values.proofs.Alike.{AreAlike, KeepsOrder, alike_meet}

-- what becomes of an integer of a sort
abbrev pub rise : ℕ → ℕ → Bool → Sort → ℤ → ℤ
rise s c spoken Pos t = if spoken then t else pos 0
rise s c spoken Site t = t +ℤ pos s
rise s c spoken Char t = t +ℤ pos c

abbrev pub raised : List Lit → (ℕ → ℤ) → ℕ → ℕ → ℕ → ℤ
raised w v s c x = rise s c (speaks_of w x) (sort_name x) (v x)

-- the names that the answers speak of
abbrev pub AreSpoken : List Lit → ℕ → Type 0
AreSpoken w x = speaks_of w x ≡ true

kept_raised : (v u : ℕ → ℤ) (x y k : ℕ) → u x ≡ v x +ℤ pos k → u y ≡ v y +ℤ pos k → KeepsOrder v u x y
kept_raised v u x y k ex ey = record { at_most = λ h. omega (arith, ints); less = λ h. omega (arith, ints) }

module _ (w : List Lit) (v : ℕ → ℤ) (s c : ℕ) where
  raised_at : (x : ℕ) (sort : Sort) → sort_name x ≡ sort → raised w v s c x ≡ rise s c (speaks_of w x) sort (v x)
  raised_at x sort e = ap (λ r. rise s c (speaks_of w x) r (v x)) e

  pub raised_position : (x : ℕ) → sort_name x ≡ Pos → AreSpoken w x → raised w v s c x ≡ v x
  raised_position x e spoken = raised_at x Pos e ∙ ap (λ b. rise s c b Pos (v x)) spoken

  pub alike_raised : AreAlike (AreSpoken w) v (raised w v s c)
  alike_raised = record {
    same = λ x e spoken. raised_position x e spoken;
    sites = λ x y ex ey. kept_raised v (raised w v s c) x y s (raised_at x Site ex) (raised_at y Site ey);
    chars = λ x y ex ey. kept_raised v (raised w v s c) x y c (raised_at x Char ex) (raised_at y Char ey);
  }

  -- a position is not negative, spoken of or not
  position_above : HasNoNegativePosition w v → (x : ℕ) → sort_name x ≡ Pos → pos 0 ≤ℤ raised w v s c x
  position_above low x e =
      elim (cases_Bool (speaks_of w x)) [
        | inl spoken ↦ subst (λ z. pos 0 ≤ℤ z) (sym (raised_position x e spoken)) (low x e spoken)
        | inr unspoken ↦
            subst (λ z. pos 0 ≤ℤ z) (sym (raised_at x Pos e ∙ ap (λ b. rise s c b Pos (v x)) unspoken)) (none)
      ]
    where
      none : pos 0 ≤ℤ pos 0
      none = omega (arith, ints)

  zero_raised : v 0 ≡ pos 0 → raised w v s c 0 ≡ pos 0
  zero_raised z =
      elim (cases_Bool (speaks_of w 0)) [
        | inl spoken ↦ raised_position 0 refl spoken ∙ z
        | inr unspoken ↦ ap (λ b. rise s c b Pos (v 0)) unspoken
      ]

-- far enough that each is above its floor
abbrev enough : (ℕ → ℤ) → (Who → ℕ) → ℕ
enough v name = unsigned_abs (v (name A)) + (unsigned_abs (v (name B)) + unsigned_abs (v (name C)))

above_by : (x : ℤ) (m k n : ℕ) → unsigned_abs x ≤ m → n ≤ k → pos n ≤ℤ (x +ℤ pos (m + k))
above_by (pos x) m k n h g = omega (arith, ints)
above_by (negsuc x) m k n h g = omega (arith, ints)

within_enough : (v : ℕ → ℤ) (name : Who → ℕ) (who : Who) → unsigned_abs (v (name who)) ≤ enough v name
within_enough v name A = omega arith
within_enough v name B = omega arith
within_enough v name C = omega arith

-- far above the floors
abbrev pub far_raised : List Lit → (ℕ → ℤ) → ℕ → ℤ
far_raised w v = raised w v (enough v site_name + 3) (enough v char_name + 99)

site_above : (w : List Lit) (v : ℕ → ℤ) (who : Who) (n : ℕ) → n ≤ 3 → pos n ≤ℤ far_raised w v (site_name who)
site_above w v A n h = above_by (v (site_name A)) (enough v site_name) 3 n (within_enough v site_name A) h
site_above w v B n h = above_by (v (site_name B)) (enough v site_name) 3 n (within_enough v site_name B) h
site_above w v C n h = above_by (v (site_name C)) (enough v site_name) 3 n (within_enough v site_name C) h

char_above : (w : List Lit) (v : ℕ → ℤ) (who : Who) (n : ℕ) → n ≤ 99 → pos n ≤ℤ far_raised w v (char_name who)
char_above w v A n h = above_by (v (char_name A)) (enough v char_name) 99 n (within_enough v char_name A) h
char_above w v B n h = above_by (v (char_name B)) (enough v char_name) 99 n (within_enough v char_name B) h
char_above w v C n h = above_by (v (char_name C)) (enough v char_name) 99 n (within_enough v char_name C) h

-- floors name by name
abbrev MeetsEach : List ℤ → (ℕ → ℤ) → Type 0
MeetsEach [] u = Unit {0}
MeetsEach (fl ∷ fls) u = (fl ≤ℤ u 0) × MeetsEach fls (λ x. u (suc x))

meets_floors : (fls : List ℤ) (u : ℕ → ℤ) → MeetsEach fls u → MeetsFloors fls u
meets_floors [] u h x below = absurd (omega arith)
meets_floors (fl ∷ fls) u h zero below = h.0
meets_floors (fl ∷ fls) u h (suc x) below = meets_floors fls (λ y. u (suc y)) h.1 x (omega arith)

module _ (w : List Lit) (v : ℕ → ℤ) (low : HasNoNegativePosition w v) where
  at : (x : ℕ) → sort_name x ≡ Pos → pos 0 ≤ℤ far_raised w v x
  at x e = position_above w v (enough v site_name + 3) (enough v char_name + 99) low x e

  -- the floors that a pair and a triple have, and then those that the triple has alone
  first_two :
      (fls : List ℤ) → MeetsEach fls (λ x. far_raised w v (suc (suc (suc (suc (suc (suc (suc (suc (suc x))))))))))
      → MeetsEach (pos 0 ∷ pos 0 ∷ pos 0 ∷ pos 0 ∷ pos 1 ∷ pos 97 ∷ pos 0 ∷ pos 2 ∷ pos 98 ∷ fls) (far_raised w v)
  first_two fls h = (
    at 0 refl,
    (
      at 1 refl,
      (
        at 2 refl,
        (
          at 3 refl,
          (
            site_above w v A 1 (lit≤ tt),
            (
              char_above w v A 97 (lit≤ tt),
              (at 6 refl, (site_above w v B 2 (lit≤ tt), (char_above w v B 98 (lit≤ tt), h))),
            ),
          ),
        ),
      ),
    ),
  )

  pub raised_above : (ob : ObName) → MeetsFloors (floors_of ob) (far_raised w v)
  raised_above (Pair k l) = meets_floors (floors_of (Pair k l)) (far_raised w v) (first_two [] tt)
  raised_above (Triple k l m) =
      meets_floors (floors_of (Triple k l m)) (far_raised w v)
      (first_two (pos 0 ∷ pos 3 ∷ pos 99 ∷ [])
      (at 9 refl, (site_above w v C 3 (lit≤ tt), (char_above w v C 99 (lit≤ tt), tt))))

pub far_zero : (w : List Lit) (v : ℕ → ℤ) → v 0 ≡ pos 0 → far_raised w v 0 ≡ pos 0
far_zero w v z = zero_raised w v (enough v site_name + 3) (enough v char_name + 99) z

pub far_met : (w : List Lit) (v : ℕ → ℤ) → AreLike w → AreMet v w → AreMet (far_raised w v) w
far_met w v like met =
    alike_meet (AreSpoken w) v (far_raised w v)
    (alike_raised w v (enough v site_name + 3) (enough v char_name + 99)) w like
    (λ x e. e) met

pub far_position : (w : List Lit) (v : ℕ → ℤ) (x : ℕ) → sort_name x ≡ Pos → AreSpoken w x → far_raised w v x ≡ v x
far_position w v x e spoken = raised_position w v (enough v site_name + 3) (enough v char_name + 99) x e spoken
