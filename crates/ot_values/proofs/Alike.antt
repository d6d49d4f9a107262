-- Valuations that are alike give the same answers where the questions compare like with like.
use Rattle.std.proofs.Common.{◌≡◌, ◌⊎◌, ℕ, ℤ, pos, negsuc, ◌+ℤ◌, ◌≤ℤ◌, ◌<ℤ◌, Bool, true, false, ◌||◌, nat_eq, List, []}
use Rattle.std.proofs.Common.{◌∷◌, refl, sym, inl, inr, arith}
use Rattle.std.proofs.lemmas.Bool.Decides.{Decides-eqb}
use Rattle.std.proofs.lemmas.Int.{ints}
use Rattle.diff_graph.specs.declared.lit.Lit.{Lit}
use Rattle.diff_graph.specs.Literals.{Meets, AreMet}
use Rattle.fn_rules.specs.declared.guard.Sort.{Sort}
use Rattle.fn_rules.specs.declared.guard.Sort.TheVariants.{Pos, Site, Char}
use Rattle.ot_questions.specs.Sorts.{sort_name, IsStill, AreLike, speaks_of}

-- the second valuation keeps the order of two names
pub record KeepsOrder (v u : ℕ → ℤ) (x y : ℕ) : Type 0 where
  pub at_most : v x ≤ℤ v y → u x ≤ℤ u y
  pub less : v x <ℤ v y → u x <ℤ u y

-- it has the same integers at these positions, and keeps the order of sites and of characters
pub record AreAlike (These : ℕ → Type 0) (v u : ℕ → ℤ) : Type 0 where
  pub same : (x : ℕ) → sort_name x ≡ Pos → These x → u x ≡ v x
  pub sites : (x y : ℕ) → sort_name x ≡ Site → sort_name y ≡ Site → KeepsOrder v u x y
  pub chars : (x y : ℕ) → sort_name x ≡ Char → sort_name y ≡ Char → KeepsOrder v u x y

met_same : (v u : ℕ → ℤ) (l : Lit) → u l.x ≡ v l.x → u l.y ≡ v l.y → Meets v l → Meets u l
met_same v u l ex ey h = let met : v l.x ≤ℤ (v l.y +ℤ l.k) = h in omega (arith, ints)

met_still : (v u : ℕ → ℤ) (l : Lit) → KeepsOrder v u l.x l.y → (l.k ≡ pos 0) ⊎ (l.k ≡ negsuc 0) → Meets v l → Meets u l
met_still v u l kept (inl none) h =
    let met : v l.x ≤ℤ (v l.y +ℤ l.k) = h in
    let here : u l.x ≤ℤ u l.y = kept.at_most (omega (arith, ints)) in omega (arith, ints)
met_still v u l kept (inr one) h =
    let met : v l.x ≤ℤ (v l.y +ℤ l.k) = h in
    let here : u l.x <ℤ u l.y = kept.less (omega (arith, ints)) in omega (arith, ints)

-- what spoken of is so by the first literal or by a later one
spoken_here : (a b : Bool) → a ≡ true → a || b ≡ true
spoken_here true b e = refl
spoken_here false b e = absurd (cc)

spoken_later : (a b : Bool) → b ≡ true → a || b ≡ true
spoken_later true b e = refl
spoken_later false b e = e

module _ (These : ℕ → Type 0) (v u : ℕ → ℤ) (alike : AreAlike These v u) where
  met_like :
      (l : Lit) (sort : Sort) → sort_name l.x ≡ sort → sort_name l.y ≡ sort → IsStill sort l.k
      → These l.x → These l.y → Meets v l
      → Meets u l
  met_like l Pos ex ey still hx hy met = met_same v u l (alike.same l.x ex hx) (alike.same l.y ey hy) met
  met_like l Site ex ey still hx hy met = met_still v u l (alike.sites l.x l.y ex ey) still met
  met_like l Char ex ey still hx hy met = met_still v u l (alike.chars l.x l.y ex ey) still met

  -- valuations that are alike at all positions that the answers speak of meet the same answers
  pub alike_meet : (w : List Lit) → AreLike w → ((x : ℕ) → speaks_of w x ≡ true → These x) → AreMet v w → AreMet u w
  alike_meet [] like spoken met = tt
  alike_meet (l ∷ w) like spoken met = (
    met_like l (sort_name l.x) refl (sym like.0.sorts) like.0.still
        (spoken l.x
        (spoken_here (nat_eq l.x l.x || nat_eq l.y l.x) (speaks_of w l.x)
        (spoken_here (nat_eq l.x l.x) (nat_eq l.y l.x) ((Decides-eqb l.x l.x).1 refl))))
        (spoken l.y
        (spoken_here (nat_eq l.x l.y || nat_eq l.y l.y) (speaks_of w l.y)
        (spoken_later (nat_eq l.x l.y) (nat_eq l.y l.y) ((Decides-eqb l.y l.y).1 refl))))
        met.0,
    alike_meet w like.1 (λ x e. spoken x (spoken_later (nat_eq l.x x || nat_eq l.y x) (speaks_of w x) e)) met.1,
  )
