-- Marks of numbers.
use Rattle.std.proofs.Common.{◌≡◌, ◌<◌, ◌∷◌, [], ◌||◌, ℕ, Bool, true, false, List, length, sym, ap, ◌∙◌, inl, inr}
use Rattle.std.proofs.Common.{replicate, reverse}
use Rattle.std.specs.Prelude.{slice_set}
use Rattle.std.proofs.Common.{get_or-set_other}
use Rattle.std.proofs.lemmas.Bool.{cases_lt, cases_eq, eq-eqb, ne_eqb}
use Rattle.std.proofs.lemmas.Grind.{get_or-set_at}
use Rattle.std.proofs.lemmas.List.{get_or_past, get_or-replicate, length-replicate, length-set, reverse-append}
use Rattle.ot_causal.specs.Members.{has}
use Rattle.ot_session.specs.declared.limits.TheConstants.{MAX_MADE}
use Rattle.ot_session.specs.declared.site.Site.{Site}
use Rattle.ot_model.specs.declared.op.Mode.{Mode}
use Rattle.ot_model.specs.declared.op.Op.{Op}
use Rattle.ot_session.specs.Past.{is_marked}
use Rattle.ot_session.specs.Sites.{IsMarked, Executes}

-- nothing is marked at first
pub unmarked : (x : ℕ) → is_marked (replicate MAX_MADE false) x ≡ false
unmarked x = elim (cases_lt x MAX_MADE) [
  | inl inside ↦ get_or-replicate MAX_MADE x false false inside
  | inr past ↦ get_or_past (replicate MAX_MADE false) x false (rw (length-replicate MAX_MADE false) past)
]

-- one mark more
pub marked-set : (marks : List Bool) (l : List ℕ) (n : ℕ) → n < length marks → ((x : ℕ) → is_marked marks x ≡ has l x)
    → (x : ℕ) → is_marked (slice_set marks n true) x ≡ has (n ∷ l) x
marked-set marks l n inside marked x = elim (cases_eq x n) [
  | inl same ↦ get_or-set_at marks n x true false same inside ∙ sym (ap (λ b. b || has l x) (eq-eqb x n same))
  | inr differ ↦ get_or-set_other marks n x true false differ ∙ marked x
      ∙ sym (ap (λ b. b || has l x) (ne_eqb x n differ))
]

-- a site at which an operation was executed has its marks
pub IsMarked-executed : (mode : Mode) (n : ℕ) (o : Op) (old new : Site) → n < MAX_MADE → Executes mode n o old new
    → IsMarked old → IsMarked new
IsMarked-executed mode n o old new inside step marked = record {
  marks = λ x. rw (step.integrated, step.seen, reverse-append old.seen.items (n ∷ []))
      (marked-set old.integrated (reverse old.seen.items) n (rw marked.integrated inside) marked.marks x);
  integrated = rw (step.integrated, length-set old.integrated n true) marked.integrated;
  held = rw step.held marked.held;
}
