-- Functions that are found to be the same agree on every block.
use Rattle.std.proofs.Common.{◌≡◌, ℕ, Bool, true, false, List, [], ◌∷◌, sym, subst, inl, inr, ◌∙◌}
use Rattle.std.specs.Prelude.{filter, if◌then◌else◌}
use Rattle.std.specs.List.{AllByRecursion, Contains}
use Rattle.std.proofs.lemmas.Bool.{cases_Bool}
use Rattle.ot_model.specs.declared.op.Kind.{Kind}
use Rattle.ot_model.specs.declared.op.Op.{Op}
use Rattle.ot_model.specs.Kinds.{kind_pairs}
use Rattle.fn_rules.specs.Functions.{Function, is_declared_of, is_declared_pair}
use Rattle.ot_questions.proofs.Listed.{of_contained}
use Rattle.ot_audit.specs.declared.audits.Same.{Same}
use Rattle.ot_audit.specs.declared.audits.Same.TheVariants.{Everywhere}
use Rattle.ot_audit.specs.declared.found.Agree.{Agree as Answer}
use Rattle.ot_audit.specs.declared.found.Agree.TheVariants as agrees
use Rattle.ot_audit.specs.Answers.{IsAgreedAs}
use Rattle.ot_audit.specs.Audits.{AreCompared, GoesOnWhereSame, IsComparedAs}
use Rattle.ot_audit.specs.Reached.{Agree, AreMeant}

-- what holds of all that a test keeps holds of all that passes it
pub of_kept :
    {X : Type 0} (p : X → Bool) (P : X → Type 0) (xs : List X) → AllByRecursion P (filter p xs)
    → AllByRecursion (λ x. p x ≡ true → P x) xs
of_kept p P [] all = tt
of_kept {X = X} p P (x ∷ xs) all = elim (cases_Bool (p x)) [
  | inl kept ↦
      let both = subst (λ b. AllByRecursion P (if b then x ∷ filter p xs else filter p xs)) kept all in
      ((λ passes. both.0), of_kept p P xs both.1)
  | inr dropped ↦
      let others = subst (λ b. AllByRecursion P (if b then x ∷ filter p xs else filter p xs)) dropped all in
      ((λ passes. absurd (let never : false ≡ true = sym dropped ∙ passes in cc)), of_kept p P xs others)
]

-- the functions agree on the block
abbrev pub AgreeOn : Function → Function → Kind × Kind → Type 0
AgreeOn f g block = (a b : Op) → AreMeant f block.0 block.1 a b → Agree f g a b

goes_everywhere :
    (f g : Function) (budget : ℕ) (block : Kind × Kind) (answer : Answer) (Behind : Same → Type 0)
    → IsAgreedAs f g block.0 block.1 budget answer → GoesOnWhereSame block answer Behind Everywhere
    → AgreeOn f g block × Behind Everywhere
goes_everywhere f g budget block agrees.Same Behind is goes = (is.tells, goes)
goes_everywhere f g budget block (agrees.Pair a b left right) Behind is goes = absurd (cc)
goes_everywhere f g budget block agrees.Spent Behind is goes = absurd (cc)

on_blocks :
    (f g : Function) (budget : ℕ) (blocks : List (Kind × Kind)) → AreCompared f g budget blocks Everywhere
    → AllByRecursion (AgreeOn f g) blocks
on_blocks f g budget [] is = tt
on_blocks f g budget (block ∷ blocks) (answer, is, goes) =
    let both = goes_everywhere f g budget block answer (AreCompared f g budget blocks) is goes in
    (both.0, on_blocks f g budget blocks both.1)

pub head_once : (f g : Function) (budget : ℕ) → IsComparedAs f g budget Everywhere → f.head ≡ g.head
head_once f g budget (inl (differ, is)) = absurd (cc)
head_once f g budget (inr (heads, is)) = heads

pub agree_everywhere :
    ((k l : Kind) → Contains kind_pairs (k, l)) → (f g : Function) (budget : ℕ) (k l : Kind) (a b : Op)
    → IsComparedAs f g budget Everywhere → is_declared_pair f.head k l ≡ true → AreMeant f k l a b → Agree f g a b
agree_everywhere listed f g budget k l a b (inl (differ, is)) declared meant = absurd (cc)
agree_everywhere listed f g budget k l a b (inr (heads, is)) declared meant =
    of_contained (λ block. is_declared_of f.head block ≡ true → AgreeOn f g block) kind_pairs (k, l)
    (of_kept (is_declared_of f.head) (AgreeOn f g) kind_pairs (on_blocks f g budget _ is))
    (listed k l) declared a b meant
