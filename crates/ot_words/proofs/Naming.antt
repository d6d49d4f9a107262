-- What the first word asks for, where it is the name of no command but one of two files.
use Rattle.std.proofs.Common.{◌≡◌, ℕ, suc, ◌≤◌, Bool, true, false, List, [], ◌∷◌, Option, ◌-◌, length, get_or, take}
use Rattle.std.proofs.Common.{drop, map, refl, ap, ◌∙◌, cond, arith}
use Rattle.std.specs.Prelude.{codes}
use Rattle.std.specs.Str.{bytes_eq}
use Rattle.std.proofs.lemmas.List.{take_all}
use Rattle.std.proofs.lemmas.Slice.Eq.{bytes_eq-Decides}
use Rattle.ot_words.specs.Commands.{Asked}
use Rattle.ot_words.specs.Words.{asked_by, audit_in, drill_in, explain_in, least_in, mend_in, prove_in, settle_in}
use Rattle.ot_words.specs.Words.{template_in}
use Rattle.ot_words.specs.Words.{trace_in, two_in}

-- a name that is no command's is asked for another one
passed_by :
    (name command : List ℕ) (one other asked : Option Asked) → (name ≡ command → ⊥) → asked ≡ other
    → asked ≡ cond (bytes_eq name command) one other
passed_by name command one other asked differ is = go (bytes_eq name command) refl
  where
    go : (test : Bool) → bytes_eq name command ≡ test → asked ≡ cond test one other
    go true same = absurd (differ ((bytes_eq-Decides name command).0 same))
    go false same = is

-- words whose first one, the name, is that of none of these commands ask for one of two files
pub two_named :
    {X : Type 0} (f : X → List ℕ) (words : List X) (first : X) (name : List ℕ) → 1 ≤ length words
    → first ≡ get_or words 0 first → name ≡ f first → (name ≡ codes "prove" → ⊥) → (name ≡ codes "settle" → ⊥)
    → (name ≡ codes "mend" → ⊥) → (name ≡ codes "explain" → ⊥) → (name ≡ codes "trace" → ⊥) → (name ≡ codes "audit" → ⊥)
    → (name ≡ codes "least" → ⊥) → (name ≡ codes "template" → ⊥) → (name ≡ codes "drill" → ⊥)
    → two_in name (map f (take (length words - 1) (drop 1 words))) ≡ asked_by (map f words)
two_named {X} f [] first name some is told prove settle mend explain trace audit least template drill =
    absurd (omega (arith, some))
two_named {X} f (word ∷ words) first name some is told prove settle mend explain trace audit least template drill =
    let ws : List (List ℕ) = map f words in
    let asked : Option Asked = two_in name ws in
    ap (λ (l : List X). two_in name (map f l)) (take_all (suc (length words) - 1) words (omega arith))
    ∙ passed_by name (codes "prove") (prove_in ws) _ asked prove
    (passed_by name (codes "settle") (settle_in ws) _ asked settle
    (passed_by name (codes "mend") (mend_in ws) _ asked mend
    (passed_by name (codes "explain") (explain_in ws) _ asked explain
    (passed_by name (codes "trace") (trace_in ws) _ asked trace
    (passed_by name (codes "audit") (audit_in ws) _ asked audit
    (passed_by name (codes "least") (least_in ws) _ asked least
    (passed_by name (codes "template") (template_in ws) _ asked template
    (passed_by name (codes "drill") (drill_in ws) asked asked drill refl))))))))
    ∙ ap (λ (n : List ℕ). asked_by (n ∷ ws)) (told ∙ ap f is)
