-- A property of all documents of a length holds of each of its obligations, so
-- an obligation that fails there breaks it.
use Rattle.std.proofs.Common.{◌≡◌, ◌↔◌, ℕ, ℤ, pos, true, false, ◌&&◌, is_none, IsTrue, Option, Some, length, sym, subst}
use Rattle.std.proofs.Common.{ap, ◌∙◌}
use Rattle.std.proofs.lemmas.List.{length-replicate}
use Rattle.std.proofs.lemmas.Bool.{and_parts, false≢true}
use Rattle.ot_model.specs.declared.op.Kind.{Kind}
use Rattle.ot_model.specs.Cells.{live_cell}
use Rattle.ot_model.specs.Effect.{IsEnabled}
use Rattle.ot_model.specs.Operations.{kind_of}
use Rattle.fn_rules.specs.declared.function.Head.{Head}
use Rattle.fn_rules.specs.declared.function.ObName.{ObName}
use Rattle.fn_rules.specs.declared.function.ObName.TheVariants.{Pair, Triple}
use Rattle.fn_rules.specs.Functions.{Function, HasDeclaredKind, is_declared}
use Rattle.fn_rules.specs.Obligations.{level_of, is_obligation}
use Rattle.fn_rules.specs.Properties.{HasTp1At, HasTp2At}
use Rattle.fn_rules.specs.Validity.{is_valid}
use Rattle.ask_core.specs.Plans.{end_of}
use Rattle.ot_questions.specs.declared.why.Why.{Why}
use Rattle.ot_questions.specs.Meaning.{HasPair, HasTriple, HoldsAtLength}
use Rattle.ot_questions.specs.Obligation.{plan_of}
use Rattle.ot_values.specs.Values.{live_cells}
use Rattle.ot_bound.specs.Lows.{HasAt}

declared_from : (head : Head) (o : Option Kind) (k : Kind) → o ≡ Some k
    → is_declared head k ≡ true → HasDeclaredKind head o
declared_from head o k is declared = subst (λ (x : Option Kind). HasDeclaredKind head x) (sym is) declared

has_pair : (f : Function) (k l : Kind) (n : ℕ) → is_declared f.head k ≡ true → is_declared f.head l ≡ true
    → HasTp1At f n → HasPair f k l n
has_pair f k l n dk dl has d a b len ka kb ea eb ab =
    has d a b len (
      declared_from f.head (kind_of a) k ka dk,
      subst (λ (m : ℕ). IsEnabled a m) (sym len) ea,
      (ab, tt),
      (declared_from f.head (kind_of b) l kb dl, subst (λ (m : ℕ). IsEnabled b m) (sym len) eb, tt, tt),
    )

-- some document of so many cells
has_triple :
    (f : Function) (k l m : Kind) (n : ℕ) → is_declared f.head k ≡ true → is_declared f.head l ≡ true
    → is_declared f.head m ≡ true → HasTp2At f n → HasTriple f k l m n
has_triple f k l m n dk dl dm has a b c ka kb kc ea eb ec ab ac bc =
    let len : length (live_cells n) ≡ n = length-replicate n (live_cell 121) in
    has (live_cells n) a b c len (
      declared_from f.head (kind_of a) k ka dk,
      subst (λ (i : ℕ). IsEnabled a i) (sym len) ea,
      (ab, (ac, tt)),
      (
        declared_from f.head (kind_of b) l kb dl,
        subst (λ (i : ℕ). IsEnabled b i) (sym len) eb,
        (bc, tt),
        (declared_from f.head (kind_of c) m kc dm, subst (λ (i : ℕ). IsEnabled c i) (sym len) ec, tt, tt),
      ),
    )

-- what the plans of pairs and triples mean at a length
abbrev pub PairsMean : Type 0
PairsMean = (f : Function) (k l : Kind) (n : ℕ) → IsTrue (is_valid f) → HoldsAtLength f (Pair k l) n ↔ HasPair f k l n

abbrev pub TriplesMean : Type 0
TriplesMean = (f : Function) (k l m : Kind) (n : ℕ) → IsTrue (is_valid f)
    → HoldsAtLength f (Triple k l m) n ↔ HasTriple f k l m n

module _ (pairs : PairsMean) (triples : TriplesMean) (f : Function) (valid : IsTrue (is_valid f)) where
  holds_there :
      (ob : ObName) (n : ℕ) → is_obligation f.head ob ≡ true → HasAt f (level_of ob) n → HoldsAtLength f ob n
  holds_there (Pair k l) n listed has =
      let both = and_parts (is_declared f.head k) (is_declared f.head l) listed in
      (pairs f k l n valid).1 (has_pair f k l n both.0 both.1 has)
  holds_there (Triple k l m) n listed has =
      let all = and_parts (is_declared f.head k && is_declared f.head l) (is_declared f.head m) listed in
      let both = and_parts (is_declared f.head k) (is_declared f.head l) all.0 in
      (triples f k l m n valid).1 (has_triple f k l m n both.0 both.1 all.1 has)

  -- where the plan of an obligation ends in a cause, the property is broken at the length
  pub breaks_there :
      (ob : ObName) (why : Why) (v : ℕ → ℤ) (n : ℕ) → is_obligation f.head ob ≡ true → v 0 ≡ pos 0 → v 1 ≡ pos n
      → end_of (plan_of f ob) v ≡ Some why → HasAt f (level_of ob) n → ⊥
  breaks_there ob why v n listed zero length fails has =
      let holds : is_none (end_of (plan_of f ob) v) ≡ true = holds_there ob n listed has v zero length in
      let not : is_none (end_of (plan_of f ob) v) ≡ false = ap (λ (o : Option Why). is_none o) fails in
      false≢true (sym not ∙ holds)
