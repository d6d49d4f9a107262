-- Which operations are meant: those whose positions are not negative, since some document is long enough.
use Rattle.std.proofs.Common.{◌≡◌, ℕ, ◌+◌, ℤ, pos, negsuc, ◌≤ℤ◌, ◌≤◌, true, Some, length, sym, subst, arith}
use Rattle.std.specs.Prelude.{◌<ℤ◌, unsigned_abs, replicate}
use Rattle.std.proofs.lemmas.Bool.{and_parts}
use Rattle.std.proofs.lemmas.Int.{ints}
use Rattle.std.proofs.lemmas.List.{length-replicate}
use Rattle.ot_model.specs.Cells.{live_cell}
use Rattle.ot_model.specs.declared.op.Kind.{Kind}
use Rattle.ot_model.specs.declared.op.Op.{Op}
use Rattle.ot_model.specs.declared.op.Op.TheVariants.{Ins, Del, Upd, Nop}
use Rattle.ot_model.specs.Operations.{kind_of, at_of}
use Rattle.ot_model.specs.Effect.{IsEnabled}
use Rattle.fn_rules.specs.declared.function.Head.{Head}
use Rattle.fn_rules.specs.Functions.{Function, HasDeclaredKind, is_declared, is_declared_pair, has_declared_kind}
use Rattle.fn_rules.specs.Transformation.{IsAllowed}
use Rattle.ot_audit.specs.Reached.{AreMeant}

not_negative : (o : Op) (n : ℕ) → IsEnabled o n → pos 0 ≤ℤ at_of o
not_negative (Ins at ch site) n h = h.0
not_negative (Del at site) n h = h.0
not_negative (Upd at ch site) n h = h.0
not_negative Nop n h = omega (arith, ints)

-- a document that goes on behind the position
enabled_before : (o : Op) (n : ℕ) → pos 0 ≤ℤ at_of o → at_of o <ℤ pos n → IsEnabled o n
enabled_before (Ins at ch site) n low high = (low, omega (arith, ints))
enabled_before (Del at site) n low high = (low, high)
enabled_before (Upd at ch site) n low high = (low, high)
enabled_before Nop n low high = tt

far_enough : (x : ℤ) (m : ℕ) → pos 0 ≤ℤ x → unsigned_abs x + 1 ≤ m → x <ℤ pos m
far_enough (pos x) m low h = omega (arith, ints)
far_enough (negsuc x) m low h = absurd (omega (arith, ints))

declared_kind : (head : Head) (k : Kind) (o : Op) → kind_of o ≡ Some k → is_declared head k ≡ true
    → HasDeclaredKind head (kind_of o)
declared_kind head k o is declared = subst (λ kind. has_declared_kind head kind ≡ true) (sym is) declared

-- what is asked of operations that are meant
abbrev pub Posed : Function → Kind → Kind → Op → Op → Type 0
Posed f k l a b =
    (kind_of a ≡ Some k) × (kind_of b ≡ Some l) × IsAllowed f a b × (pos 0 ≤ℤ at_of a) × (pos 0 ≤ℤ at_of b)

pub posed_where_meant : (f : Function) (k l : Kind) (a b : Op) → AreMeant f k l a b → Posed f k l a b
posed_where_meant f k l a b meant =
    let both = meant.concurrent in (
      meant.first,
      meant.second,
      both.2.0,
      not_negative a (length meant.document) both.1,
      not_negative b (length meant.document) both.3.1,
    )

-- operations of which it is asked are meant, on a document that is long enough
pub meant_where_posed : (f : Function) (k l : Kind) (a b : Op) → is_declared_pair f.head k l ≡ true
    → Posed f k l a b → AreMeant f k l a b
meant_where_posed f k l a b declared (first, second, allowed, low, other_low) =
    let n = unsigned_abs (at_of a) + unsigned_abs (at_of b) + 1 in
    let is_long : length (replicate n (live_cell 121)) ≡ n = length-replicate n (live_cell 121) in
    let kinds = and_parts (is_declared f.head k) (is_declared f.head l) declared in
    record {
      first = first;
      second = second;
      document = replicate n (live_cell 121);
      concurrent = (
        declared_kind f.head k a first kinds.0,
        subst (IsEnabled a) (sym is_long) (enabled_before a n low (far_enough (at_of a) n low (omega arith))),
        (allowed, tt),
        (
          declared_kind f.head l b second kinds.1,
          subst (IsEnabled b) (sym is_long)
              (enabled_before b n other_low (far_enough (at_of b) n other_low (omega arith))),
          tt,
          tt,
        ),
      );
    }
