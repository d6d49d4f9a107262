-- Which pairs of kinds have a block, and which kind can come next.
use Rattle.std.proofs.Common.{◌≡◌, Bool, true, false, not, ◌&&◌, ◌||◌, cond, refl, ap, inl, inr, ◌∙◌}
use Rattle.std.specs.Prelude.{nat_lt}
use Rattle.std.proofs.lemmas.Bool.{cases_Bool}
use Rattle.ot_model.specs.declared.op.Kind.{Kind}
use Rattle.ot_model.specs.declared.op.Kind.TheVariants.{Ins, Del, Upd}
use Rattle.ot_model.specs.declared.op.TheConstants.{KINDS}
use Rattle.ot_model.specs.Kinds.{kind_rank, is_same_kind}
use Rattle.fn_rules.specs.declared.function.Head.{Head}
use Rattle.fn_rules.specs.Functions.{is_declared}
use Rattle.fn_tokens.specs.declared.control.Seconds.{Seconds}
use Rattle.fn_tokens.specs.declared.control.Pairs.{Pairs}
use Rattle.fn_tokens.specs.Kinds.{seconds_of, with_seconds, has_second, with_second, has_seen, with_pair, declares_some}
use Rattle.fn_tokens.specs.Kinds.{comes_next}
use Rattle.fn_text.specs.Reader.{no_seconds, no_pairs}
use Rattle.fn_grammar.proofs.KindLists.{list_all_from, kind_fails, same_kind, is_own_pair}

-- before the first block no pair has one
pub has_seen-none : (k l : Kind) → has_seen no_pairs k l ≡ false
unfolding has_seen
has_seen-none k l = second k (λ seconds. has_second seconds l ≡ false) (none l)
  where
    none : (l : Kind) → has_second no_seconds l ≡ false
    none Ins = refl
    none Del = refl
    none Upd = refl

    second : (k : Kind) (P : Seconds → Type 0) → P no_seconds → P (seconds_of no_pairs k)
    second Ins P h = h
    second Del P h = h
    second Upd P h = h

second_behind : (seconds : Seconds) (b l : Kind)
    → has_second (with_second seconds b) l ≡ (is_same_kind b l || has_second seconds l)
second_behind seconds Ins Ins = refl
second_behind seconds Ins Del = refl
second_behind seconds Ins Upd = refl
second_behind seconds Del Ins = refl
second_behind seconds Del Del = refl
second_behind seconds Del Upd = refl
second_behind seconds Upd Ins = refl
second_behind seconds Upd Del = refl
second_behind seconds Upd Upd = refl

-- setting the second kinds of one first kind leaves those of the others
seconds_behind : (seen : Pairs) (a k : Kind) (seconds : Seconds) →
    seconds_of (with_seconds seen a seconds) k ≡ cond (is_same_kind a k) seconds (seconds_of seen k)
seconds_behind seen Ins Ins seconds = refl
seconds_behind seen Ins Del seconds = refl
seconds_behind seen Ins Upd seconds = refl
seconds_behind seen Del Ins seconds = refl
seconds_behind seen Del Del seconds = refl
seconds_behind seen Del Upd seconds = refl
seconds_behind seen Upd Ins seconds = refl
seconds_behind seen Upd Del seconds = refl
seconds_behind seen Upd Upd seconds = refl

-- with one block more, its pair has a block, and each that had one
pub has_seen-with_pair : (seen : Pairs) (a b k l : Kind) →
    has_seen (with_pair seen a b) k l ≡ ((is_same_kind a k && is_same_kind b l) || has_seen seen k l)
unfolding has_seen
has_seen-with_pair seen a b k l =
    ap (λ (x : Seconds). has_second x l) (seconds_behind seen a k (with_second (seconds_of seen a) b))
    ∙ elim (cases_Bool (is_same_kind a k)) [
      | inl same ↦
          rw same (same_kind (λ x. has_second (with_second (seconds_of seen a) b) l
          ≡ (is_same_kind b l || has_second (seconds_of seen x) l)) a k same
          (second_behind (seconds_of seen a) b l))
      | inr other ↦ rw other refl
    ]

pub has_seen-with_pair_itself : (seen : Pairs) (k l : Kind) → has_seen (with_pair seen k l) k l ≡ true
has_seen-with_pair_itself seen k l =
    has_seen-with_pair seen k l k l ∙ ap (λ b. b || has_seen seen k l) (is_own_pair k l)

or_right : (p q : Bool) → q ≡ true → (p || q) ≡ true
or_right true q h = refl
or_right false q h = h

pub has_seen-still : (seen : Pairs) (a b k l : Kind) → has_seen seen k l ≡ true
    → has_seen (with_pair seen a b) k l ≡ true
has_seen-still seen a b k l h = has_seen-with_pair seen a b k l
    ∙ or_right (is_same_kind a k && is_same_kind b l) (has_seen seen k l) h

-- behind no kind each can be the next
pub comes_next-first : (head : Head) (k : Kind) → declares_some head ≡ false → comes_next head k ≡ true
comes_next-first head k none =
    list_all_from (λ l. not (is_declared head l) || nat_lt (kind_rank l) (kind_rank k)) KINDS
    (λ l. ap (λ b. not b || nat_lt (kind_rank l) (kind_rank k)) (kind_fails (is_declared head) l none))
