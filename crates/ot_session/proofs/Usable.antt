-- The operations of a sound session can be transformed: they were enabled on documents that are not too long.
use Rattle.std.proofs.Common.{◌≡◌, ◌<◌, ◌≤◌, ◌+◌, ℕ, zero, suc, List, [], ◌∷◌, length, Option, Some, None, refl, sym}
use Rattle.std.proofs.Common.{ap, subst, inl, inr, arith}
use Rattle.std.specs.Option.{option_and_then}
use Rattle.std.proofs.lemmas.Int.{ints}
use Rattle.std.proofs.lemmas.Bool.{cases_Bool, cases_lt}
use Rattle.ot_model.specs.declared.limits.TheConstants.{MAX_CELLS}
use Rattle.ot_model.specs.declared.cell.Cell.{Cell}
use Rattle.ot_model.specs.declared.op.Mode.{Mode}
use Rattle.ot_model.specs.declared.op.Op.{Op}
use Rattle.ot_model.specs.declared.op.Op.TheVariants.{Ins, Del, Upd, Nop}
use Rattle.ot_model.specs.declared.op.Kind.{Kind}
use Rattle.ot_model.specs.Operations.{kind_of}
use Rattle.ot_model.specs.Effect.{IsEnabled, is_enabled, document_after}
use Rattle.fn_rules.specs.declared.function.Head.{Head}
use Rattle.fn_rules.specs.Functions.{Function, IsForKind, HasDeclaredKind}
use Rattle.fn_rules.specs.Conditions.{IsWithin}
use Rattle.ot_causal.specs.Past.{Past, maker, IsClosed}
use Rattle.ot_causal.specs.Forms.{form, executed, state}
use Rattle.ot_causal.specs.Sessions.{IsSoundPast, IsSite}
use Rattle.ot_session.specs.declared.limits.TheConstants.{MAX_MADE, MAX_SITES}
use Rattle.ot_session.specs.declared.made.Made.{Made}
use Rattle.ot_session.specs.Past.{past_of, most_session_cells, IsUsablePast}
use Rattle.ot_session.proofs.Reaches.{IsWithin-more}

-- no operation makes a document longer by more than one cell
abbrev pub GrowByOne : Type 0
GrowByOne = (mode : Mode) (o : Op) (d : List Cell) → length (document_after mode o d) ≤ length d + 1

IsWithin-enabled : (n : ℕ) (o : Op) → IsEnabled o n → IsWithin n o
IsWithin-enabled n (Ins at ch site) enabled = (omega (arith, ints), omega (arith, ints))
IsWithin-enabled n (Del at site) enabled = (omega (arith, ints), omega (arith, ints))
IsWithin-enabled n (Upd at ch site) enabled = (omega (arith, ints), omega (arith, ints))
IsWithin-enabled n Nop enabled = (omega (arith, ints), omega (arith, ints))

length-executed : (f : Function) → GrowByOne → (p : Option Op) (d e : List Cell) → executed f p d ≡ Some e
    → length e ≤ length d + 1
length-executed f grow None d e is = cc
length-executed f grow (Some p) d e is = elim (cases_Bool (is_enabled p (length d))) [
  | inl enabled ↦ (let same : document_after f.head.mode p d ≡ e = let some = rw enabled at is in cc in
      omega (arith, grow f.head.mode p d, ap length same))
  | inr refused ↦ absurd (let none = rw refused at is in cc)
]

-- each member of a list makes the document longer by at most one cell
length-state : (f : Function) → GrowByOne → (past : Past) (first : List Cell) (l : List ℕ) (d : List Cell)
    → state f past first l ≡ Some d
    → length d ≤ length first + length l
unfolding state
length-state f grow past first [] d is = let same : first ≡ d = cc in omega (arith, ap length same)
length-state f grow past first (o ∷ l) d is =
    by (state f past first l) refl is (λ e. length-state f grow past first l e)
  where
    by : (older : Option (List Cell)) → state f past first l ≡ older
        → option_and_then (λ e. executed f (form f past o l) e) older ≡ Some d
        → ((e : List Cell) → state f past first l ≡ Some e → length e ≤ length first + length l)
        → length d ≤ length first + length (o ∷ l)
    by None none is below = cc
    by (Some e) some is below = omega (arith, length-executed f grow (form f past o l) e d is, below e some)

for_kind : (head : Head) (k : Option Kind) → HasDeclaredKind head k → IsForKind head k
for_kind head None is = cc
for_kind head (Some k) is = is

-- where nothing was made the operation is nop
unmade : (made : List Made) (o : ℕ) → length made ≤ o → (past_of made).operation o ≡ Nop
unmade [] o outside = refl
unmade (m ∷ made) zero outside = absurd (omega (arith, outside))
unmade (m ∷ made) (suc o) outside = unmade made o (omega (arith, outside))

module _ (f : Function) (grow : GrowByOne) (made : List Made) (first : List Cell) (few : length made ≤ MAX_MADE)
    (small : length first ≤ MAX_CELLS)
    (short : (l : List ℕ) → IsClosed (past_of made) l → length l ≤ length made)
    (sound : IsSoundPast f (past_of made) first) (sites : ℕ) (most : sites ≤ MAX_SITES)
    (owned : (o : ℕ) → o < length made → IsSite sites (maker (past_of made) o)) where
  near : (o : ℕ) → IsWithin most_session_cells ((past_of made).operation o)
  near o = elim (cases_lt o (length made)) [
    | inl inside ↦ (let born = sound.born o inside in
        IsWithin-more (length born.document) most_session_cells ((past_of made).operation o)
        (omega (
          arith,
          length-state f grow (past_of made) first born.known born.document born.is,
          short born.known
              born.closed,
          few,
          small,
        )) (IsWithin-enabled (length born.document) ((past_of made).operation o) born.enabled))
    | inr outside ↦ subst (λ (p : Op). IsWithin most_session_cells p) (sym (unmade made o outside))
        (omega (arith, ints), omega (arith, ints))
  ]

  -- the operations of a sound session are usable
  pub IsUsablePast-sound : IsUsablePast f (past_of made)
  IsUsablePast-sound = record {
    declared = λ o. elim (cases_lt o (length made)) [
      | inl inside ↦ for_kind f.head (kind_of ((past_of made).operation o)) (sound.born o inside).declared
      | inr outside ↦ subst (λ (p : Op). IsForKind f.head (kind_of p)) (sym (unmade made o outside)) refl
    ];
    near = near;
    makers = λ o inside. let site = owned o inside in (site.low, omega (arith, site.high, most));
  }
