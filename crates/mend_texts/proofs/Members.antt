-- The members of a layer are led to by their edits.
use Rattle.std.proofs.Common.{◌≡◌, ℕ, zero, suc, Bool, true, false, IsTrue, ◌&&◌, List, [], ◌∷◌, ◌++◌, refl, sym, ap}
use Rattle.std.proofs.Common.{◌∙◌}
use Rattle.std.proofs.Common.{subst, cond, map}
use Rattle.std.specs.Prelude.{nat_le}
use Rattle.std.specs.List.{AllByRecursion, flat_map}
use Rattle.ot_model.specs.declared.op.Kind.{Kind}
use Rattle.ot_model.specs.Kinds.{kind_pairs}
use Rattle.fn_rules.specs.Functions.{Function, cases_of, is_declared_of}
use Rattle.fn_rules.specs.Validity.{compares_chars, is_valid}
use Rattle.ot_mend.specs.declared.change.Change.{Change}
use Rattle.ot_mend.specs.declared.edit.Edit.{Edit}
use Rattle.ot_mend.specs.declared.edit.Edit.TheVariants.{InBlock, AssumeSites, AssumeChars}
use Rattle.ot_mend.specs.Edits.{edited_of}
use Rattle.ot_mend.specs.Members.{Member, and_then, function_after, is_next, layer, member, members_after, next_members}
use Rattle.ot_mend.specs.Members.{stage_of}
use Rattle.ot_mend.specs.Offers.{assumptions, block_edits, changes_of, edits_of, unless}
use Rattle.mend_texts.specs.Made.{AreMade, MembersAreMade, has_block}

module _ {X : Type 0} (P : X → Type 0) where
  all_both : (xs ys : List X) → AllByRecursion P xs → AllByRecursion P ys → AllByRecursion P (xs ++ ys)
  all_both [] ys first second = second
  all_both (x ∷ xs) ys first second = (first.0, all_both xs ys first.1 second)

  -- what holds of all holds of one that stands among them
  one_of_all : (xs earlier later : List X) (x : X) → xs ≡ earlier ++ x ∷ later → AllByRecursion P xs → P x
  one_of_all xs earlier later x listed all = go earlier (subst (λ (l : List X). AllByRecursion P l) listed all)
    where
      go : (front : List X) → AllByRecursion P (front ++ x ∷ later) → P x
      go [] every = every.0
      go (y ∷ ys) every = go ys every.1

  -- what holds of all that is made of each holds of all that is made of those of which something else holds
  all_made : {Y : Type 0} (Q : Y → Type 0) (f : Y → List X) → ((y : Y) → Q y → AllByRecursion P (f y))
      → (ys : List Y) → AllByRecursion Q ys → AllByRecursion P (flat_map f ys)
  all_made Q f each [] all = tt
  all_made Q f each (y ∷ ys) all = all_both (f y) (flat_map f ys) (each y all.0) (all_made Q f each ys all.1)

  all_mapped : {Y : Type 0} (f : Y → X) → ((y : Y) → P (f y)) → (ys : List Y) → AllByRecursion P (map f ys)
  all_mapped f each [] = tt
  all_mapped f each (y ∷ ys) = (each y, all_mapped f each ys)

  all_unless : (test : Bool) (x : X) → P x → AllByRecursion P (unless test x)
  all_unless true x holds = tt
  all_unless false x holds = (holds, tt)

all_free : {X : Type 0} (xs : List X) → AllByRecursion (λ (x : X). Unit {0}) xs
all_free [] = tt
all_free (x ∷ xs) = (tt, all_free xs)

-- the edits of a function change blocks that it has
abbrev HasBlock : Function → Edit → Type 0
HasBlock f edit = IsTrue (has_block f.head edit)

block_has : (f : Function) (pair : Kind × Kind) → AllByRecursion (HasBlock f) (block_edits f pair)
block_has f pair = go (is_declared_of f.head pair) refl
  where
    changes : List Change
    changes = changes_of f.head (compares_chars pair.0 pair.1) (cases_of f pair.0 pair.1)

    go : (test : Bool) → is_declared_of f.head pair ≡ test
        → AllByRecursion (HasBlock f) (cond test (map (InBlock pair.0 pair.1) changes) [])
    go true is = all_mapped (HasBlock f) (InBlock pair.0 pair.1) (λ change. is) changes
    go false is = tt

edits_have_blocks : (f : Function) → AllByRecursion (HasBlock f) (edits_of f)
edits_have_blocks f =
    all_both (HasBlock f) (flat_map (block_edits f) kind_pairs) (assumptions f.head)
    (all_made (HasBlock f) (λ pair. Unit {0}) (block_edits f) (λ pair _. block_has f pair) kind_pairs
    (all_free kind_pairs))
    (all_both (HasBlock f) (unless f.head.sites_differ AssumeSites) (unless f.head.chars_differ AssumeChars)
    (all_unless (HasBlock f) f.head.sites_differ AssumeSites refl)
    (all_unless (HasBlock f) f.head.chars_differ AssumeChars refl))

-- a member is led to from a function by edits
record IsLed (f : Function) (m : Member) : Type 0 where
  made : AreMade f m.edits
  leads : function_after m.edits f ≡ m.function

made_and_then : (f : Function) (edits : List Edit) (edit : Edit) → AreMade f edits
    → IsTrue (has_block (function_after edits f).head edit)
    → IsTrue (is_valid (edited_of edit (function_after edits f)))
    → AreMade f (edits ++ edit ∷ [])
made_and_then f [] edit made has valid = (has, valid, tt)
made_and_then f (e ∷ es) edit made has valid =
    (made.0, made.1, made_and_then (edited_of e f) es edit made.2 has valid)

leads_and_then : (f : Function) (edits : List Edit) (edit : Edit)
    → function_after (edits ++ edit ∷ []) f ≡ edited_of edit (function_after edits f)
leads_and_then f [] edit = refl
leads_and_then f (e ∷ es) edit = leads_and_then (edited_of e f) es edit

one_more : (f : Function) (m : Member) (edit : Edit) → IsLed f m → HasBlock m.function edit
    → IsTrue (is_valid (edited_of edit m.function)) → IsLed f (and_then m edit)
one_more f m edit led has valid = record {
  made =
      made_and_then f m.edits edit led.made
      (subst (λ (g : Function). IsTrue (has_block g.head edit)) (sym led.leads) has)
      (subst (λ (g : Function). IsTrue (is_valid (edited_of edit g))) (sym led.leads) valid);
  leads = leads_and_then f m.edits edit ∙ ap (λ (g : Function). edited_of edit g) led.leads;
}

both_hold : (b c : Bool) → (b && c) ≡ true → c ≡ true
both_hold true c is = is
both_hold false c is = absurd (cc)

-- and so are those that one edit and further ones lead to, where those of the further ones are
led_next :
    (f : Function) (further : ℕ → Member → List Member) (stage : ℕ) (m : Member)
    → ((s : ℕ) (o : Member) → IsLed f o → AllByRecursion (IsLed f) (further s o)) → IsLed f m
    → (edit : Edit) → HasBlock m.function edit → AllByRecursion (IsLed f) (next_members further stage m edit)
led_next f further stage m each led edit has = go (is_next stage m.function edit) refl
  where
    go : (test : Bool) → is_next stage m.function edit ≡ test
        → AllByRecursion (IsLed f) (cond test (further (stage_of edit) (and_then m edit)) [])
    go true is =
        each (stage_of edit) (and_then m edit)
        (one_more f m edit led has (both_hold (nat_le stage (stage_of edit)) (is_valid (edited_of edit m.function)) is))
    go false is = tt

-- so are those that so many further edits lead to
led_further : (f : Function) (n stage : ℕ) (m : Member) → IsLed f m → AllByRecursion (IsLed f) (members_after n stage m)
led_further f zero stage m led = (led, tt)
led_further f (suc n) stage m led =
    all_made (IsLed f) (HasBlock m.function) (next_members (members_after n) stage m)
    (λ edit has. led_next f (members_after n) stage m (λ s o of_other. led_further f n s o of_other) led edit has)
    (edits_of m.function) (edits_have_blocks m.function)

pub members_are_made : MembersAreMade
members_are_made f n m earlier later listed =
    let led : IsLed f m = one_of_all (IsLed f) (layer f n) earlier later m listed
    (led_further f n 0 (member [] f) (record { made = tt; leads = refl })) in
    (led.made, led.leads)
