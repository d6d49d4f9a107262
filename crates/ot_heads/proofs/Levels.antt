-- Templates have the first property, and the second one but where no function has both.
use Rattle.std.proofs.Common.{◌≡◌, ℕ, ℤ, pos, negsuc, true, ◌<◌, ◌≤◌, List, length, refl, subst, inl, inr, arith}
use Rattle.std.proofs.lemmas.Int.{ints}
use Rattle.ot_model.specs.declared.cell.Cell.{Cell}
use Rattle.ot_model.specs.declared.op.Op.{Op}
use Rattle.ot_model.specs.declared.op.Op.TheVariants.{Ins, Del, Upd, Nop}
use Rattle.ot_model.specs.declared.op.Mode.TheVariants.{Plain}
use Rattle.ot_model.specs.Effect.{IsEnabled}
use Rattle.ot_model.specs.Operations.{at_of}
use Rattle.fn_rules.specs.declared.function.Head.{Head}
use Rattle.fn_rules.specs.Properties.{ConvergesAt, CommutesAt, converges_exchanged, commutes_exchanged, HasTp1, HasTp2}
use Rattle.fn_rules.specs.Transformation.{IsAllowed}
use Rattle.ot_heads.specs.Heads.{InsertsAndDeletesOnPlain}
use Rattle.ot_heads.specs.Templates.{template_of}
use Rattle.ot_heads.proofs.Commuting as commuting
use Rattle.ot_heads.proofs.CommutingWithout as commuting_without
use Rattle.ot_heads.proofs.Converging as converging
use Rattle.ot_heads.proofs.ConvergingWithout as converging_without
use Rattle.ot_heads.proofs.Rules.{IsOnCell, IsDeclared, cases_mode, placed-own}

module _ (head : Head) where
  -- an insertion and a deletion, by what deletions leave
  insertion_and_deletion : (d : List Cell) (p q c s t : ℕ) → head.ins ≡ true → head.del ≡ true
      → p ≤ length d → q < length d
      → ConvergesAt (template_of head) d (Ins (pos p) c s) (Del (pos q) t)
  insertion_and_deletion d p q c s t ins del fits there =
      elim (cases_mode head.mode) [
        | inl tomb ↦ converging.insertion_and_change head d (Del (pos q) t) p q c s tomb del ins fits there
        | inr plain ↦ converging_without.insertion_and_taking head plain del d p q c s t ins fits there
      ]

  two_deletions : (d : List Cell) (p q s t : ℕ) → head.del ≡ true → p < length d → q < length d
      → ConvergesAt (template_of head) d (Del (pos p) s) (Del (pos q) t)
  two_deletions d p q s t del of_p of_q =
      elim (cases_mode head.mode) [
        | inl tomb ↦ converging.both_change head d (Del (pos p) s) (Del (pos q) t) p q tomb tomb del del of_p of_q
            refl refl (λ same y. refl)
        | inr plain ↦ converging_without.two_takings head plain del d p q s t of_p of_q
      ]

  deletion_and_update : (d : List Cell) (p q s e t : ℕ) → head.del ≡ true → head.upd ≡ true
      → p < length d → q < length d
      → ConvergesAt (template_of head) d (Del (pos p) s) (Upd (pos q) e t)
  deletion_and_update d p q s e t del upd of_p of_q =
      elim (cases_mode head.mode) [
        | inl tomb ↦ converging.both_change head d (Del (pos p) s) (Upd (pos q) e t) p q tomb tt del upd of_p of_q
            refl refl (λ same y. refl)
        | inr plain ↦ converging_without.taking_and_update head plain del d p q s e t upd of_p of_q
      ]

  -- two operations, by their kinds
  converge : (d : List Cell) (a b : Op) → IsDeclared head a → IsDeclared head b
      → IsEnabled a (length d) → IsEnabled b (length d)
      → IsAllowed (template_of head) a b → ConvergesAt (template_of head) d a b
  converge d Nop b of_a of_b at_a at_b ab = absurd (cc)
  converge d a Nop of_a of_b at_a at_b ab = absurd (cc)
  converge d (Ins (negsuc p) c s) b of_a of_b at_a at_b ab = absurd (omega (arith, ints, at_a.0))
  converge d (Del (negsuc p) s) b of_a of_b at_a at_b ab = absurd (omega (arith, ints, at_a.0))
  converge d (Upd (negsuc p) c s) b of_a of_b at_a at_b ab = absurd (omega (arith, ints, at_a.0))
  converge d a (Ins (negsuc q) e t) of_a of_b at_a at_b ab = absurd (omega (arith, ints, at_b.0))
  converge d a (Del (negsuc q) t) of_a of_b at_a at_b ab = absurd (omega (arith, ints, at_b.0))
  converge d a (Upd (negsuc q) e t) of_a of_b at_a at_b ab = absurd (omega (arith, ints, at_b.0))
  converge d (Ins (pos p) c s) (Ins (pos q) e t) of_a of_b at_a at_b ab =
      converging.two_insertions head d p q c e s t of_a (omega (arith, ints, at_a.1))
      (omega (arith, ints, at_b.1)) ab.sites
  converge d (Ins (pos p) c s) (Del (pos q) t) of_a of_b at_a at_b ab =
      insertion_and_deletion d p q c s t of_a of_b (omega (arith, ints, at_a.1)) (omega (arith, ints, at_b.1))
  converge d (Ins (pos p) c s) (Upd (pos q) e t) of_a of_b at_a at_b ab =
      converging.insertion_and_change head d (Upd (pos q) e t) p q c s tt of_b of_a (omega (arith, ints, at_a.1))
      (omega (arith, ints, at_b.1))
  converge d (Del (pos p) s) (Ins (pos q) e t) of_a of_b at_a at_b ab =
      converges_exchanged (template_of head) d (Ins (pos q) e t) (Del (pos p) s)
      (insertion_and_deletion d q p e t s of_b of_a (omega (arith, ints, at_b.1)) (omega (arith, ints, at_a.1)))
  converge d (Upd (pos p) c s) (Ins (pos q) e t) of_a of_b at_a at_b ab =
      converges_exchanged (template_of head) d (Ins (pos q) e t) (Upd (pos p) c s)
      (converging.insertion_and_change head d (Upd (pos p) c s) q p e t tt of_a of_b (omega (arith, ints, at_b.1))
      (omega (arith, ints, at_a.1)))
  converge d (Del (pos p) s) (Del (pos q) t) of_a of_b at_a at_b ab =
      two_deletions d p q s t of_a (omega (arith, ints, at_a.1)) (omega (arith, ints, at_b.1))
  converge d (Del (pos p) s) (Upd (pos q) e t) of_a of_b at_a at_b ab =
      deletion_and_update d p q s e t of_a of_b (omega (arith, ints, at_a.1)) (omega (arith, ints, at_b.1))
  converge d (Upd (pos p) c s) (Del (pos q) t) of_a of_b at_a at_b ab =
      converges_exchanged (template_of head) d (Del (pos q) t) (Upd (pos p) c s)
      (deletion_and_update d q p t c s of_b of_a (omega (arith, ints, at_b.1)) (omega (arith, ints, at_a.1)))
  converge d (Upd (pos p) c s) (Upd (pos q) e t) of_a of_b at_a at_b ab =
      converging.two_updates head d p q c e s t of_a (omega (arith, ints, at_a.1))
      (omega (arith, ints, at_b.1)) ab.sites

  -- the first property
  pub templates-HasTp1 : HasTp1 (template_of head)
  templates-HasTp1 d a b h = converge d a b h.0 h.3.0 h.1 h.3.1 h.2.0

  module _ (other : ¬ InsertsAndDeletesOnPlain head) where
    -- where deletions take cells out, and there are deletions, all operations are on cells
    on_cell : head.mode ≡ Plain → head.del ≡ true → (x : Op) → IsDeclared head x → IsOnCell x
    on_cell plain del (Ins p c s) of_x = absurd (other (record { plain = plain; inserts = of_x; deletes = del }))
    on_cell plain del (Del p s) of_x = tt
    on_cell plain del (Upd p c s) of_x = tt
    on_cell plain del Nop of_x = absurd (cc)

    insertion_and_deletion_commute : (p q : ℤ) (c s t : ℕ) (x : Op) → head.ins ≡ true
        → head.del ≡ true → IsDeclared head x
        → CommutesAt (template_of head) (Ins p c s) (Del q t) x
    insertion_and_deletion_commute p q c s t x ins del of_x =
        elim (cases_mode head.mode) [
          | inl tomb ↦ commuting.mixed_first head p c s (Del q t) x tomb del of_x ins
          | inr plain ↦ absurd (other (record { plain = plain; inserts = ins; deletes = del }))
        ]

    two_deletions_commute : (p q : ℤ) (s t : ℕ) (x : Op) → head.del ≡ true → IsDeclared head x
        → CommutesAt (template_of head) (Del p s) (Del q t) x
    two_deletions_commute p q s t x del of_x =
        elim (cases_mode head.mode) [
          | inl tomb ↦ commuting.two_changes head (Del p s) (Del q t) x tomb tomb del del of_x
          | inr plain ↦ subst (λ (y : Op). CommutesAt (template_of head) (Del p s) (Del q t) y) (placed-own x)
              (commuting_without.two_takings head plain del p q (at_of x) s t x (on_cell plain del x of_x) of_x)
        ]

    deletion_and_update_commute : (p q : ℤ) (s e t : ℕ) (x : Op) → head.del ≡ true → head.upd ≡ true → IsDeclared head x
        → CommutesAt (template_of head) (Del p s) (Upd q e t) x
    deletion_and_update_commute p q s e t x del upd of_x =
        elim (cases_mode head.mode) [
          | inl tomb ↦ commuting.two_changes head (Del p s) (Upd q e t) x tomb tt del upd of_x
          | inr plain ↦ subst (λ (y : Op). CommutesAt (template_of head) (Del p s) (Upd q e t) y) (placed-own x)
              (commuting_without.taking_and_update head plain del p q (at_of x) s e t x
              (on_cell plain del x of_x) of_x upd)
        ]

    -- three operations, by the kinds of the first two
    commute : (a b x : Op) → IsDeclared head a → IsDeclared head b → IsDeclared head x
        → CommutesAt (template_of head) a b x
    commute (Ins p c s) (Ins q e t) x of_a of_b of_x = commuting.insertions_first head p q c e s t x of_x of_a
    commute (Ins p c s) (Del q t) x of_a of_b of_x = insertion_and_deletion_commute p q c s t x of_a of_b of_x
    commute (Ins p c s) (Upd q e t) x of_a of_b of_x = commuting.mixed_first head p c s (Upd q e t) x tt of_b of_x of_a
    commute (Del p s) (Ins q e t) x of_a of_b of_x =
        commutes_exchanged (template_of head) (Ins q e t) (Del p s) x
        (insertion_and_deletion_commute q p e t s x of_b of_a of_x)
    commute (Upd p c s) (Ins q e t) x of_a of_b of_x =
        commutes_exchanged (template_of head) (Ins q e t) (Upd p c s) x
        (commuting.mixed_first head q e t (Upd p c s) x tt of_a of_x of_b)
    commute (Del p s) (Del q t) x of_a of_b of_x = two_deletions_commute p q s t x of_a of_x
    commute (Del p s) (Upd q e t) x of_a of_b of_x = deletion_and_update_commute p q s e t x of_a of_b of_x
    commute (Upd p c s) (Del q t) x of_a of_b of_x =
        commutes_exchanged (template_of head) (Del q t) (Upd p c s) x
        (deletion_and_update_commute q p t c s x of_b of_a of_x)
    commute (Upd p c s) (Upd q e t) x of_a of_b of_x =
        commuting.two_changes head (Upd p c s) (Upd q e t) x tt tt of_a of_b of_x
    commute Nop b x of_a of_b of_x = absurd (cc)
    commute a Nop x of_a of_b of_x = absurd (cc)

    -- the second property
    pub templates-HasTp2 : HasTp2 (template_of head)
    templates-HasTp2 d a b x h = commute a b x h.0 h.3.0 h.3.3.0
