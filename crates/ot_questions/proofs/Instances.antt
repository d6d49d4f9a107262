-- Valuations and operations: each triple of operations is named by a valuation, and the value of a plan
-- does not change where all sites are raised by one number and all characters by another.
use Rattle.std.proofs.Common.{◌≡◌, ℕ, ◌+◌, ◌≤◌, ℤ, pos, negsuc, ◌+ℤ◌, if◌then◌else◌, nat_eq, int_le, is_none, IsTrue}
use Rattle.std.proofs.Common.{Option, Some, None, refl, ap, sym, ◌∙◌, subst, arith}
use Rattle.std.specs.Prelude.{unsigned_abs}
use Rattle.std.proofs.lemmas.Bool.{false≢true}
use Rattle.std.proofs.lemmas.Int.{ints}
use Rattle.diff_graph.specs.declared.lit.Lit.{Lit}
use Rattle.diff_graph.specs.Literals.{is_met}
use Rattle.ot_model.specs.declared.op.Kind.{Kind}
use Rattle.ot_model.specs.declared.op.Kind.TheVariants as kinds
use Rattle.ot_model.specs.declared.op.Op.{Op}
use Rattle.ot_model.specs.Operations.{kind_of, at_of}
use Rattle.fn_rules.specs.declared.guard.Sort.{Sort}
use Rattle.fn_rules.specs.declared.guard.Sort.TheVariants.{Pos, Site, Char}
use Rattle.fn_rules.specs.Formulas.{thing_of}
use Rattle.ask_core.specs.Plans.{Plan, Ask, Holds, Fails, end_of}
use Rattle.ot_questions.specs.declared.name.Who.{Who}
use Rattle.ot_questions.specs.declared.name.Who.TheVariants.{A, B, C}
use Rattle.ot_questions.specs.declared.why.Why.{Why}
use Rattle.ot_questions.specs.Names.{site_name, char_name}
use Rattle.ot_questions.specs.Places.{sym_op}
use Rattle.ot_questions.specs.Meaning.{op_at}
use Rattle.ot_questions.specs.Instances.{StandsForOperation, NamesAll}
use Rattle.ot_questions.proofs.Tests.{int_le-like}
use Rattle.ot_questions.proofs.Operations.{IsCount, IsCounted}
use Rattle.ot_questions.specs.Sorts.{sort_name}
use Rattle.ot_questions.specs.Asked.{IsGood, AllAsked}
use Rattle.ot_questions.proofs.Standing.{standing-named}
use Rattle.ot_questions.proofs.Placed.{site_sort, char_sort}

-- the valuation that names these operations
abbrev pub valued : ℕ → ℤ → Op → Op → Op → ℕ → ℤ
valued n i a b c x =
    if nat_eq x 1 then pos n
    else (if nat_eq x 2 then i
    else (if nat_eq x 3 then at_of a
    else (if nat_eq x 4 then thing_of Site a
    else (if nat_eq x 5 then thing_of Char a
    else (if nat_eq x 6 then at_of b
    else (if nat_eq x 7 then thing_of Site b
    else (if nat_eq x 8 then thing_of Char b
    else (if nat_eq x 9 then at_of c
    else (if nat_eq x 10 then thing_of Site c
    else (if nat_eq x 11 then thing_of Char c
    else pos 0))))))))))

-- it names all of them
pub all_named : (n : ℕ) (i : ℤ) (made : Who → Op) → (v : ℕ → ℤ) × NamesAll v n i made
all_named n i made =
    let v = valued n i (made A) (made B) (made C) in (
      v,
      record { zero = refl; cells = refl; index = refl; operations = stand },
    )
  where
    stand :
        (who : Who) (k : Kind) → kind_of (made who) ≡ Some k
        → StandsForOperation (valued n i (made A) (made B) (made C)) (sym_op k who) (made who)
    stand A k e = standing-named (valued n i (made A) (made B) (made C)) k A (made A) e refl refl refl
    stand B k e = standing-named (valued n i (made A) (made B) (made C)) k B (made B) e refl refl refl
    stand C k e = standing-named (valued n i (made A) (made B) (made C)) k C (made C) e refl refl refl

pub kind_of-op_at-sym_op : (v : ℕ → ℤ) (k : Kind) (who : Who) → kind_of (op_at v (sym_op k who)) ≡ Some k
kind_of-op_at-sym_op v kinds.Ins who = refl
kind_of-op_at-sym_op v kinds.Del who = refl
kind_of-op_at-sym_op v kinds.Upd who = refl

-- how far a sort is raised
abbrev pub raise : ℕ → ℕ → Sort → ℤ
raise s c Pos = pos 0
raise s c Site = pos s
raise s c Char = pos c

abbrev pub raised : (ℕ → ℤ) → ℕ → ℕ → ℕ → ℤ
raised v s c x = v x +ℤ raise s c (sort_name x)

met_raised : (count : ℕ) (v : ℕ → ℤ) (s c : ℕ) (l : Lit) → IsGood count l → is_met (raised v s c) l ≡ is_met v l
met_raised count v s c l good =
    let e : raise s c (sort_name l.x) ≡ raise s c (sort_name l.y) = ap (raise s c) good.like.sorts in
    shifted (v l.x) (v l.y) l.k (raise s c (sort_name l.x)) (raise s c (sort_name l.y)) e
  where
    shifted : (x y k r t : ℤ) → r ≡ t → int_le (x +ℤ r) ((y +ℤ t) +ℤ k) ≡ int_le x (y +ℤ k)
    shifted x y k r t e =
        int_le-like (x +ℤ r) ((y +ℤ t) +ℤ k) x (y +ℤ k) (λ h. omega (arith, ints)) (λ h. omega (arith, ints))

-- raising changes no answer
pub end-raised : (count : ℕ) (v : ℕ → ℤ) (s c : ℕ) (p : Plan Why) → AllAsked count p
    → end_of p (raised v s c) ≡ end_of p v
end-raised count v s c (Ask l on_yes on_no) h =
    ap (λ t. if t then end_of on_yes (raised v s c) else end_of on_no (raised v s c)) (met_raised count v s c l h.0)
    ∙ (ap (λ e. if is_met v l then e else end_of on_no (raised v s c)) (end-raised count v s c on_yes h.1)
    ∙ ap (λ e. if is_met v l then end_of on_yes v else e) (end-raised count v s c on_no h.2))
end-raised count v s c Holds h = refl
end-raised count v s c (Fails why) h = refl

-- far enough that sites and characters become natural numbers
abbrev pub enough : (ℕ → ℤ) → (Who → ℕ) → ℕ
enough v name = unsigned_abs (v (name A)) + (unsigned_abs (v (name B)) + unsigned_abs (v (name C)))

count_raised : (x : ℤ) (m : ℕ) → unsigned_abs x ≤ m → IsCount (x +ℤ pos m)
count_raised (pos x) m h = refl
count_raised (negsuc x) m h = omega (arith, ints)

enough_for : (v : ℕ → ℤ) (name : Who → ℕ) (who : Who) → unsigned_abs (v (name who)) ≤ enough v name
enough_for v name A = omega arith
enough_for v name B = omega arith
enough_for v name C = omega arith

-- what is raised far enough is a natural number
counted_name :
    (v : ℕ → ℤ) (name : Who → ℕ) (who : Who) (sort : Sort) → sort_name (name who) ≡ sort
    → raise (enough v site_name) (enough v char_name) sort ≡ pos (enough v name)
    → IsCount (raised v (enough v site_name) (enough v char_name) (name who))
counted_name v name who sort e far =
    subst (λ r. IsCount (v (name who) +ℤ r)) (sym (ap (raise (enough v site_name) (enough v char_name)) e ∙ far))
    (count_raised (v (name who)) (enough v name) (enough_for v name who))

pub counted_raised : (v : ℕ → ℤ) (k : Kind) (who : Who)
    → IsCounted (raised v (enough v site_name) (enough v char_name)) (sym_op k who)
counted_raised v kinds.Ins who =
    record {
      site = counted_name v site_name who Site (site_sort who) refl;
      ch = counted_name v char_name who Char (char_sort who) refl;
    }
counted_raised v kinds.Del who = record { site = counted_name v site_name who Site (site_sort who) refl; ch = tt }
counted_raised v kinds.Upd who =
    record {
      site = counted_name v site_name who Site (site_sort who) refl;
      ch = counted_name v char_name who Char (char_sort who) refl;
    }

-- a plan's value is true where it ends in no cause
pub none_from_value : (o : Option Why) → IsTrue (is_none o) → o ≡ None
none_from_value None h = refl
none_from_value (Some why) h = absurd (false≢true h)

pub value_from_none : (o : Option Why) → o ≡ None → IsTrue (is_none o)
value_from_none None e = refl
value_from_none (Some why) e = absurd (cc)
