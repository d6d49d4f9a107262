-- A symbolic operation stands for the operation at the valuation, where its names are natural numbers, and
-- for no other.
use Rattle.std.proofs.Common.{◌≡◌, ℕ, ℤ, pos, Option, Some, None, option_map, refl, ap, sym, ◌∙◌, subst}
use Rattle.std.specs.Prelude.{unsigned_abs}
use Rattle.ot_model.specs.declared.op.Kind.{Kind}
use Rattle.ot_model.specs.declared.op.Kind.TheVariants as kinds
use Rattle.ot_model.specs.declared.op.Op.{Op}
use Rattle.ot_model.specs.declared.op.Op.TheVariants as ops
use Rattle.ot_model.specs.Operations.{kind_of, at_of, site_of, char_of}
use Rattle.fn_rules.specs.declared.guard.Sort.TheVariants.{Site, Char}
use Rattle.fn_rules.specs.Formulas.{thing_of}
use Rattle.ot_questions.specs.declared.name.Who.{Who}
use Rattle.ot_questions.specs.declared.place.SymOp.{SymOp}
use Rattle.ot_questions.specs.Names.{position_name, site_name, char_name}
use Rattle.ot_questions.specs.Places.{sym_op, sym_site, sym_char}
use Rattle.ot_questions.specs.Meaning.{op_at}
use Rattle.ot_questions.specs.Instances.{StandsForOperation}
use Rattle.ot_questions.proofs.Tests.{plus-zero}
use Rattle.ot_questions.proofs.Operations.{IsCount, IsCounted, IsCountedName, named, at_of-op_at, kind_of-op_at}
use Rattle.ot_questions.proofs.Operations.{site_of-op_at, char_of-op_at}

-- the parts make the operation
pub by_parts : (a b : Op) → kind_of a ≡ kind_of b → at_of a ≡ at_of b → site_of a ≡ site_of b
    → char_of a ≡ char_of b → a ≡ b
by_parts (ops.Ins at ch site) (ops.Ins to other from) k e f g = cc
by_parts (ops.Del at site) (ops.Del to from) k e f g = cc
by_parts (ops.Upd at ch site) (ops.Upd to other from) k e f g = cc
by_parts ops.Nop ops.Nop k e f g = refl
by_parts a b k e f g = absurd (cc)

count_of : (x : ℤ) (n : ℕ) → x ≡ pos n → IsCount x
count_of x n e = subst (λ y. IsCount y) (sym e) refl

-- a name and the number that it stands for
counted_name : (v : ℕ → ℤ) (x n : Option ℕ) → option_map v x ≡ option_map pos n → IsCountedName v x
counted_name v None n e = tt
counted_name v (Some x) None e = absurd (cc)
counted_name v (Some x) (Some n) e = count_of (v x) n (cc)

named_number : (v : ℕ → ℤ) (x n : Option ℕ) → option_map v x ≡ option_map pos n → named v x ≡ n
named_number v None None e = refl
named_number v None (Some n) e = absurd (cc)
named_number v (Some x) None e = absurd (cc)
named_number v (Some x) (Some n) e = let same : v x ≡ pos n = cc in ap (λ y. Some (unsigned_abs y)) same

number_named : (v : ℕ → ℤ) (x : Option ℕ) → IsCountedName v x → option_map v x ≡ option_map pos (named v x)
number_named v None h = refl
number_named v (Some x) h = ap Some h

pub counted_by_standing : (v : ℕ → ℤ) (x : SymOp) (a : Op) → StandsForOperation v x a → IsCounted v x
counted_by_standing v x a h = record {
  site = counted_name v (sym_site x) (site_of a) h.site;
  ch = counted_name v (sym_char x) (char_of a) h.ch;
}

pub op_at-standing : (v : ℕ → ℤ) (x : SymOp) (a : Op) → v 0 ≡ pos 0 → StandsForOperation v x a → op_at v x ≡ a
op_at-standing v x a z h =
    by_parts (op_at v x) a (kind_of-op_at v x ∙ h.kind) (at_of-op_at v x z ∙ h.at)
    (site_of-op_at v x ∙ named_number v (sym_site x) (site_of a) h.site)
    (char_of-op_at v x ∙ named_number v (sym_char x) (char_of a) h.ch)

pub standing-op_at : (v : ℕ → ℤ) (x : SymOp) → v 0 ≡ pos 0 → IsCounted v x → StandsForOperation v x (op_at v x)
standing-op_at v x z h = record {
  kind = sym (kind_of-op_at v x);
  at = sym (at_of-op_at v x z);
  site = number_named v (sym_site x) h.site ∙ ap (option_map pos) (sym (site_of-op_at v x));
  ch = number_named v (sym_char x) h.ch ∙ ap (option_map pos) (sym (char_of-op_at v x));
}

-- the names of one operation stand for it where they stand for its things
pub standing-named :
    (v : ℕ → ℤ) (k : Kind) (who : Who) (a : Op) → kind_of a ≡ Some k
    → v (position_name who) ≡ at_of a → v (site_name who) ≡ thing_of Site a → v (char_name who) ≡ thing_of Char a
    → StandsForOperation v (sym_op k who) a
standing-named v kinds.Ins who (ops.Ins at ch site) e p q r =
    record { kind = refl; at = plus-zero (v (position_name who)) ∙ p; site = ap Some q; ch = ap Some r }
standing-named v kinds.Del who (ops.Del at site) e p q r =
    record { kind = refl; at = plus-zero (v (position_name who)) ∙ p; site = ap Some q; ch = refl }
standing-named v kinds.Upd who (ops.Upd at ch site) e p q r =
    record { kind = refl; at = plus-zero (v (position_name who)) ∙ p; site = ap Some q; ch = ap Some r }
standing-named v k who a e p q r = absurd (cc)
