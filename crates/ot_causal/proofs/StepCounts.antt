-- What the steps of a session count: making an operation nothing, integrating one what is sought for it at its
-- site.
use Rattle.std.proofs.Common.{◌≡◌, ◌≢◌, ℕ, zero, suc, ◌+◌, ◌<◌, ◌≤◌, length, refl, sym, ap, ◌∙◌, inl, inr, arith}
use Rattle.std.proofs.lemmas.Bool.{cases_eq}
use Rattle.fn_rules.specs.Functions.{Function}
use Rattle.ot_model.specs.declared.op.Op.{Op}
use Rattle.ot_causal.specs.Past.{Extends}
use Rattle.ot_causal.specs.Counting.{sought, counted, count_sought}
use Rattle.ot_causal.specs.Sessions.{SessionData, IsSite, IsSound, KeepsOthers, Makes, MayMake, Integrates, counted_to}
use Rattle.ot_causal.specs.Sessions.{all_counted}
use Rattle.ot_causal.proofs.Closed.{AreMade-closed, newest_open-none}
use Rattle.ot_causal.proofs.Forms.{sought-none_open, counted-cons}
use Rattle.ot_causal.proofs.Frames.{counted-extended, sought-extended}

module _ (f : Function) (old new : SessionData) (s : ℕ) (keeps : KeepsOthers old new s)
    (extends : Extends old.past new.past) (sound : IsSound f old) where
  -- a list of a site counts in the later past what it counted
  counted-before : (u : ℕ) → IsSite old.sites u → counted new.past (old.seen u) ≡ counted old.past (old.seen u)
  counted-before u site = counted-extended old.past new.past extends (old.seen u)
      (AreMade-closed old.past (old.seen u) (sound.closed u site))

  pub counted-other : (u : ℕ) → IsSite old.sites u → u ≢ s
      → counted new.past (new.seen u) ≡ counted old.past (old.seen u)
  counted-other u site other = ap (counted new.past) (keeps.seen u site other) ∙ counted-before u site

  -- the sites below the one of the step have counted what they had
  counted_to-below : (n : ℕ) → n < s → n ≤ old.sites → counted_to new n ≡ counted_to old n
  counted_to-below zero below within = refl
  counted_to-below (suc n) below within = omega (
    arith,
    counted_to-below n (omega (arith, below)) (omega (arith, within)),
    ap length (counted-other (suc n) (record { low = omega arith; high = within })
        (λ same. omega (arith, same, below))),
  )

  -- with it, the sum differs by what it has counted more
  counted_to-above : (n : ℕ) → IsSite n s → n ≤ old.sites
      → counted_to new n + length (counted old.past (old.seen s))
      ≡ counted_to old n + length (counted new.past (new.seen s))
  counted_to-above zero site within = absurd (omega (arith, site.low, site.high))
  counted_to-above (suc n) site within = elim (cases_eq s (suc n)) [
    | inl last ↦ (let one : counted_to new n ≡ counted_to old n =
        counted_to-below n (omega (arith, last)) (omega (arith, within)) in
        let there : length (counted new.past (new.seen s)) ≡ length (counted new.past (new.seen (suc n))) =
        ap (λ u. length (counted new.past (new.seen u))) last in
        let was_there : length (counted old.past (old.seen s)) ≡ length (counted old.past (old.seen (suc n))) =
        ap (λ u. length (counted old.past (old.seen u))) last in
        omega (arith, one, there, was_there))
    | inr other ↦ omega (
      arith,
      counted_to-above n (record { low = site.low; high = omega (arith, site.high, other) }) (omega (arith, within)),
      ap length (counted-other (suc n) (record { low = omega arith; high = within }) (λ same. other (sym same))),
    )
  ]

  pub all_counted-changed : IsSite old.sites s
      → all_counted new + length (counted old.past (old.seen s))
      ≡ all_counted old + length (counted new.past (new.seen s))
  all_counted-changed site =
      ap (λ n. counted_to new n + length (counted old.past (old.seen s))) keeps.sites
      ∙ counted_to-above old.sites site (omega arith)

module _ (f : Function) (old new : SessionData) (s : ℕ) (a : Op) (may : MayMake f old s a) (makes : Makes f old new s a)
    (sound : IsSound f old) where
  -- all that its site has integrated is before it
  pub counted-makes : counted new.past (new.seen s) ≡ counted old.past (old.seen s)
  counted-makes =
      ap (counted new.past) makes.seen
      ∙ counted-cons new.past old.past.count (old.seen s)
      ∙ ap (count_sought (counted new.past (old.seen s))) (sought-none_open new.past old.past.count (old.seen s)
      (newest_open-none new.past old.past.count (old.seen s) (λ x member. makes.befores x ∙ member)))
      ∙ counted-before f old new s makes.keeps makes.extends sound s may.site

  pub all_counted-makes : all_counted new ≡ all_counted old
  all_counted-makes =
      omega (arith, all_counted-changed f old new s makes.keeps makes.extends sound may.site, ap length counted-makes)

module _ (f : Function) (old new : SessionData) (s o : ℕ) (integrates : Integrates f old new s o)
    (sound : IsSound f old) where
  pub counted-integrates : counted new.past (new.seen s)
      ≡ count_sought (counted old.past (old.seen s)) (sought old.past o (old.seen s))
  counted-integrates =
      ap (counted new.past) integrates.seen
      ∙ counted-cons new.past o (old.seen s)
      ∙ ap (λ names. count_sought names (sought new.past o (old.seen s)))
      (counted-before f old new s integrates.keeps integrates.extends sound s integrates.site)
      ∙ ap (count_sought (counted old.past (old.seen s))) (sought-extended old.past new.past integrates.extends o
      (old.seen s) integrates.next.made (AreMade-closed old.past (old.seen s) (sound.closed s integrates.site)))
