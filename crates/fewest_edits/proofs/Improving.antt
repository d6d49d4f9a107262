-- Scans, from one list of members to the next.
use Rattle.std.proofs.Common.{◌≡◌, ℕ, ◌+◌, ◌<◌, inl, inr, Bool, true, false, List, [], ◌∷◌, ◌++◌, length, Option, Some}
use Rattle.std.proofs.Common.{None}
use Rattle.std.proofs.Common.{append_assoc, length-append, arith, refl, ap, sym, subst, ◌∙◌}
use Rattle.std.proofs.Common.{zero, suc, ◌-◌, take, drop, get_or, ◌≤◌, if◌then◌else◌}
use Rattle.std.specs.List.{flat_map}
use Rattle.std.proofs.lemmas.Grind.{flat_map-append}
use Rattle.std.proofs.lemmas.List.{append-nil, take-append-drop, take_all, take_more}
use Rattle.fn_rules.specs.Functions.{Function}
use Rattle.ot_mend.specs.declared.edit.Edit.{Edit}
use Rattle.ot_mend.specs.Members.{Member, and_then, is_next, members_after, next_members, stage_of}
use Rattle.ot_mend.specs.Offers.{edits_of}
use Rattle.ot_mend.specs.Ranks.{comes_before, rank_of}
use Rattle.fewest_edits.specs.declared.decision.Decision.{Decision}
use Rattle.fewest_edits.specs.declared.scanning.Best.{Best}
use Rattle.fewest_edits.specs.declared.scanning.Scan.{Scan}
use Rattle.fewest_edits.specs.Candidates.{member_of}
use Rattle.fewest_edits.specs.Scans.{GoesOver, Improves, IsBestOf, decision_of, may_be_first}
use Rattle.fewest_edits.proofs.Firsts.{AllByRecursion-append, IsFirst-after_refused, IsFirst-before, IsFirst-stays}
use Rattle.fewest_edits.specs.Firsts.{IsRefused}

-- no members leave the best one as it is
pub Improves-none : (decides : Function → Decision → Type 0) (b : Option Best) → Improves decides [] b b
Improves-none decides b seen best =
    subst (λ (l : List Member). IsBestOf decides l b) (sym (append-nil seen)) best

pub Improves-append : (decides : Function → Decision → Type 0) (xs ys : List Member) (a b c : Option Best)
    → Improves decides xs a b → Improves decides ys b c → Improves decides (xs ++ ys) a c
Improves-append decides xs ys a b c first second seen best =
    subst (λ (l : List Member). IsBestOf decides l c) (append_assoc seen xs ys)
    (second (seen ++ xs) (first seen best))

-- one that is refused leaves it
pub Improves-refused : (decides : Function → Decision → Type 0) (m : Member) (b : Option Best)
    → IsRefused decides m → Improves decides (m ∷ []) b b
Improves-refused decides m None refused seen best =
    AllByRecursion-append (IsRefused decides) seen (m ∷ []) best (refused, tt)
Improves-refused decides m (Some b) refused seen best =
    (IsFirst-stays decides seen (member_of b.candidate) m best.0 (inl refused), best.1, best.2)

-- one that would not come first leaves it
pub Improves-not_first : (decides : Function → Decision → Type 0) (m : Member) (b : Option Best)
    → may_be_first b (rank_of m.edits m.function) ≡ false → Improves decides (m ∷ []) b b
Improves-not_first decides m None not_first seen best = absurd (cc)
Improves-not_first decides m (Some b) not_first seen best = (
  IsFirst-stays decides seen (member_of b.candidate) m best.0
      (inr (sym (ap (λ r. comes_before (rank_of m.edits m.function) r) best.1) ∙ not_first)),
  best.1,
  best.2,
)

-- one that would come first, and is not refused, becomes the best one
pub Improves-first : (decides : Function → Decision → Type 0) (a : Option Best) (b : Best)
    → b.rank ≡ rank_of b.candidate.edits.items (member_of b.candidate).function → may_be_first a b.rank ≡ true
    → decides (member_of b.candidate).function (decision_of b)
    → Improves decides (member_of b.candidate ∷ []) a (Some b)
Improves-first decides None b rank first decided seen best =
    (IsFirst-after_refused decides seen (member_of b.candidate) best, rank, decided)
Improves-first decides (Some a) b rank first decided seen best = (
  IsFirst-before decides seen (member_of a.candidate) (member_of b.candidate) best.0
      (sym (ap (λ r. comes_before r a.rank) rank
      ∙ ap (λ r. comes_before (rank_of b.candidate.edits.items (member_of b.candidate).function) r) best.1) ∙ first),
  rank,
  decided,
)

-- scans of two lists, one after another
pub GoesOver-none : (decides : Function → Decision → Type 0) (s : Scan) → GoesOver decides [] s s
GoesOver-none decides s = (omega arith, Improves-none decides s.best)

pub GoesOver-append : (decides : Function → Decision → Type 0) (xs ys : List Member) (s t u : Scan)
    → GoesOver decides xs s t → GoesOver decides ys t u → GoesOver decides (xs ++ ys) s u
GoesOver-append decides xs ys s t u first second = (
  omega (arith, length-append xs ys, first.0, second.0),
  Improves-append decides xs ys s.best t.best u.best first.1 second.1,
)

-- the budget ends in the second list, or in the first
pub ends_later : (decides : Function → Decision → Type 0) (xs ys : List Member) (s t : Scan)
    → GoesOver decides xs s t → t.left < length ys → s.left < length (xs ++ ys)
ends_later decides xs ys s t first ends = omega (arith, length-append xs ys, first.0, ends)

pub ends_before : (xs ys : List Member) (s : Scan) → s.left < length xs → s.left < length (xs ++ ys)
ends_before xs ys s ends = omega (arith, length-append xs ys, ends)

-- the members of the edits so far, and of one edit more
flat_map-take_more : (g : Edit → List Member) (edits : List Edit) (i : ℕ) (other : Edit) → i < length edits
    → flat_map g (take (i + 1) edits) ≡ flat_map g (take i edits) ++ g (get_or edits i other)
flat_map-take_more g edits i other inside =
    ap (λ l. flat_map g l) (take_more edits i other inside)
    ∙ flat_map-append g (take i edits) (get_or edits i other ∷ [])
    ∙ ap (λ l. flat_map g (take i edits) ++ l) (append-nil (g (get_or edits i other)))

pub over_more : (decides : Function → Decision → Type 0) (g : Edit → List Member) (edits : List Edit) (i : ℕ)
    (other : Edit) (s t u : Scan) → i < length edits → GoesOver decides (flat_map g (take i edits)) s t
    → GoesOver decides (g (get_or edits i other)) t u → GoesOver decides (flat_map g (take (i + 1) edits)) s u
over_more decides g edits i other s t u inside first second =
    subst (λ (l : List Member). GoesOver decides l s u) (sym (flat_map-take_more g edits i other inside))
    (GoesOver-append decides (flat_map g (take i edits)) (g (get_or edits i other)) s t u first second)

-- the budget ends in the members of one edit more
pub ends_at : (decides : Function → Decision → Type 0) (g : Edit → List Member) (edits : List Edit) (i : ℕ)
    (other : Edit) (s t : Scan) → i < length edits → GoesOver decides (flat_map g (take i edits)) s t
    → t.left < length (g (get_or edits i other)) → s.left < length (flat_map g edits)
ends_at decides g edits i other s t inside first ends =
    let so_far =
    subst (λ (l : List Member). s.left < length l) (sym (flat_map-take_more g edits i other inside))
    (ends_later decides (flat_map g (take i edits)) (g (get_or edits i other)) s t first ends) in
    subst (λ (l : List Member). s.left < length l)
    (sym (flat_map-append g (take (i + 1) edits) (drop (i + 1) edits))
    ∙ ap (λ l. flat_map g l) (take-append-drop (i + 1) edits))
    (ends_before (flat_map g (take (i + 1) edits)) (flat_map g (drop (i + 1) edits)) s so_far)

-- where there are further edits, members are those that each edit leads to
pub members_after-further : (n stage : ℕ) (m : Member) → 0 < n
    → members_after n stage m ≡ flat_map (next_members (members_after (n - 1)) stage m) (edits_of m.function)
members_after-further zero stage m some = absurd (omega (arith, some))
members_after-further (suc n) stage m some =
    let before : suc n - 1 ≡ n = omega arith in
    rw before refl

pub over_all : (decides : Function → Decision → Type 0) (g : Edit → List Member) (edits : List Edit) (i : ℕ)
    (s t : Scan) → length edits ≤ i → GoesOver decides (flat_map g (take i edits)) s t
    → GoesOver decides (flat_map g edits) s t
over_all decides g edits i s t end goes =
    subst (λ (l : List Edit). GoesOver decides (flat_map g l) s t) (take_all i edits end) goes

-- an edit that is not made in this stage leads to no members
pub over_not_next : (decides : Function → Decision → Type 0) (further : ℕ → Member → List Member) (stage : ℕ)
    (m : Member) (edit : Edit) (s : Scan) → is_next stage m.function edit ≡ false
    → GoesOver decides (next_members further stage m edit) s s
over_not_next decides further stage m edit s not_next =
    subst (λ (b : Bool). GoesOver decides (if b then further (stage_of edit) (and_then m edit) else []) s s)
    (sym not_next) (GoesOver-none decides s)
