-- A session that stands at counts: what may be done in it, and where it stands behind an event.
use Rattle.std.proofs.Common.{◌≡◌, ◌≢◌, ◌<◌, ◌≤◌, ◌+◌, ◌*◌, ◌⊎◌, ℕ, zero, suc, Bool, true, false, List, [], ◌∷◌, length}
use Rattle.std.proofs.Common.{Some, Ok, refl, sym, ap, ◌∙◌, subst, inl, inr, arith, add-one}
use Rattle.std.specs.Prelude.{pos, ◌&&◌, not, nat_eq, nat_le, nat_lt, if◌then◌else◌}
use Rattle.std.specs.Ordering.{int_eq}
use Rattle.std.proofs.lemmas.Bool.{and_parts, cases_eq}
use Rattle.std.proofs.lemmas.Bool.Decides.{nat_tests, Decides-int_eq}
use Rattle.std.proofs.lemmas.Int.{ints}
use Rattle.std.proofs.lemmas.List.{length-set}
use Rattle.ot_model.specs.declared.cell.Cell.{Cell}
use Rattle.ot_model.specs.declared.op.Mode.TheVariants.{Tomb}
use Rattle.ot_model.specs.declared.op.Op.{Op}
use Rattle.ot_model.specs.declared.op.Op.TheVariants.{Ins, Del, Upd, Nop}
use Rattle.ot_model.specs.Effect.{IsEnabled, document_after}
use Rattle.ot_model.specs.Operations.{kind_of, site_of}
use Rattle.fn_rules.specs.Functions.{Function, HasDeclaredKind}
use Rattle.case_json.specs.declared.script.Event.{Event}
use Rattle.case_json.specs.declared.script.Event.TheVariants.{Make, Take}
use Rattle.ot_causal.specs.Past.{Past, maker, Extends}
use Rattle.ot_causal.specs.Counting.{made_among, made_at, most_forms}
use Rattle.ot_causal.specs.Sessions.{IsSite, MayMake, Makes}
use Rattle.ot_session.specs.declared.answer.Took.{Took}
use Rattle.ot_session.specs.declared.made.Made.{Made}
use Rattle.ot_session.specs.Past.{past_of}
use Rattle.ot_session.specs.Views.{View, data_in, HasMade, HasTaken}
use Rattle.ot_drill.specs.declared.tally.Tally.{Tally}
use Rattle.ot_drill.specs.FineEvents.{CanBeDone, MadeCounts, HasFewForms, IsDrillFunction, SessionStands, counts_behind}
use Rattle.ot_drill.specs.FineEvents.{is_front_operation, is_fine, is_site}
use Rattle.ot_drill.specs.Playing.{IsPlayed}
use Rattle.ot_drill.specs.Workload.{drill_function}
use Rattle.ot_drill.proofs.FewForms.{few_forms}

-- what the tests say
le_by : (a b : ℕ) → nat_le a b ≡ true → a ≤ b
le_by a b h = grind (arith, nat_tests)

lt_by : (a b : ℕ) → nat_lt a b ≡ true → a < b
lt_by a b h = grind (arith, nat_tests)

eq_by : (a b : ℕ) → nat_eq a b ≡ true → a ≡ b
eq_by a b h = grind (arith, nat_tests)

not_by : (b : Bool) → not b ≡ true → b ≡ false
not_by true h = cc
not_by false h = refl

site_by : (s : ℕ) → is_site s ≡ true → IsSite 3 s
site_by s h =
    let both : (nat_le 1 s ≡ true) × (nat_le s 3 ≡ true) = and_parts (nat_le 1 s) (nat_le s 3) h in
    record { low = le_by 1 s both.0; high = le_by s 3 both.1 }

-- an operation at the front may be made at its site, where a deletion finds a cell, and leaves cells
record IsFront (made : ℕ) (s : ℕ) (o : Op) : Type 0 where
  own : site_of o ≡ Some s
  declared : (n : ℕ) → HasDeclaredKind (drill_function n).head (kind_of o)
  enabled : (d : List Cell) → (0 < made → 0 < length d) → IsEnabled o (length d)
  filled : (d : List Cell) → (0 < made → 0 < length d) → 0 < length (document_after Tomb o d)

insertion : (made s ch : ℕ) → IsFront made s (Ins (pos 0) ch s)
insertion made s ch = record {
  own = refl;
  declared = λ n. refl;
  enabled = λ d filled. (omega (arith, ints), omega (arith, ints));
  filled = λ d filled. omega arith;
}

marked_left : (s : ℕ) (d : List Cell) → 0 < length d → 0 < length (document_after Tomb (Del (pos 0) s) d)
marked_left s [] some = absurd (omega arith)
marked_left s (cell ∷ d) some = omega arith

deletion : (made s : ℕ) → 0 < made → IsFront made s (Del (pos 0) s)
deletion made s behind = record {
  own = refl;
  declared = λ n. refl;
  enabled = λ d filled. let some : 0 < length d = filled behind in (omega (arith, ints), omega (arith, ints));
  filled = λ d filled. marked_left s d (filled behind);
}

-- an operation that passes the test is one at the front
front_by : (c : MadeCounts) (s : ℕ) (o : Op) → is_front_operation c s o ≡ true → IsFront (c.made s) s o
front_by c s (Ins at ch site) h =
    let both : (int_eq at (pos 0) ≡ true) × (nat_eq site s ≡ true) = and_parts (int_eq at (pos 0)) (nat_eq site s) h in
    let front : at ≡ pos 0 = (Decides-int_eq at (pos 0)).0 both.0 in
    let own : site ≡ s = eq_by site s both.1 in
    rw (front, own) (insertion (c.made s) s ch)
front_by c s (Del at site) h =
    let outer : ((int_eq at (pos 0) && nat_eq site s) ≡ true) × (nat_lt 0 (c.made s) ≡ true) =
    and_parts (int_eq at (pos 0) && nat_eq site s) (nat_lt 0 (c.made s)) h in
    let both : (int_eq at (pos 0) ≡ true) × (nat_eq site s ≡ true) =
    and_parts (int_eq at (pos 0)) (nat_eq site s) outer.0 in
    let front : at ≡ pos 0 = (Decides-int_eq at (pos 0)).0 both.0 in
    let own : site ≡ s = eq_by site s both.1 in
    rw (front, own) (deletion (c.made s) s (lt_by 0 (c.made s) outer.1))
front_by c s (Upd at ch site) h = cc
front_by c s Nop h = cc

-- what the test of an operation that is made says
record MayBeMade (c : MadeCounts) (s : ℕ) (o : Op) : Type 0 where
  early : c.taking ≡ false
  site : IsSite 3 s
  few_at : c.made s < 16
  few : c.total < 48
  front : IsFront (c.made s) s o

-- an operation that passes the test may be made at its site
may_be_made : (c : MadeCounts) (s : ℕ) (o : Op) → is_fine c (Make s o) ≡ true → MayBeMade c s o
may_be_made c s o h =
    let a : Bool = not c.taking in
    let b : Bool = is_site s in
    let d : Bool = nat_lt (c.made s) 16 in
    let e : Bool = nat_lt c.total 48 in
    let four = and_parts (((a && b) && d) && e) (is_front_operation c s o) h in
    let three = and_parts ((a && b) && d) e four.0 in
    let two = and_parts (a && b) d three.0 in
    let one = and_parts a b two.0 in
    record {
      early = not_by c.taking one.0;
      site = site_by s one.1;
      few_at = lt_by (c.made s) 16 two.1;
      few = lt_by c.total 48 three.1;
      front = front_by c s o four.1;
    }

module _ (v : View) (c : MadeCounts) (stands : SessionStands v c) where
  -- a session of three sites
  is_site_of : (s : ℕ) → IsSite 3 s → IsSite (length v.sites) s
  is_site_of s is = let three : length v.sites ≡ 3 = stands.sites in subst (λ n. IsSite n s) (sym three) is

  pub has_few_forms : HasFewForms v
  has_few_forms =
      let three : length v.sites ≡ 3 = stands.sites in
      record {
        most = rw three
            (few_forms (past_of v.made) (λ s. let e = stands.made s in let few = stands.few_at s in omega arith)
            (let e = stands.total in let few = stands.few in omega arith) stands.makers);
      }

  may_make : (s : ℕ) (o : Op) → IsDrillFunction v.function → MayBeMade c s o → MayMake v.function (data_in v) s o
  may_make s o is may = record {
    site = is_site_of s may.site;
    own = may.front.own;
    declared = subst (λ (f : Function). HasDeclaredKind f.head (kind_of o)) (sym is.1) (may.front.declared is.0);
    enabled = may.front.enabled ((data_in v).document s) (λ some. stands.filled may.early s may.site some);
  }

  -- an event that is fine by the counts can be done in the session
  pub can_be_done : (event : Event) → IsDrillFunction v.function → is_fine c event ≡ true → CanBeDone v event
  can_be_done (Make s o) is fine =
      let may = may_be_made c s o fine in (
        may_make s o is may,
        let total = stands.total in let few = may.few in omega arith,
      )
  can_be_done (Take s number) is fine =
      let both : (is_site s ≡ true) × (nat_lt number c.total ≡ true) =
      and_parts (is_site s) (nat_lt number c.total) fine in
      let three : length v.sites ≡ 3 = stands.sites in (
        is_site_of s (site_by s both.0),
        let total = stands.total in let below = lt_by number c.total both.1 in omega arith,
        let most = has_few_forms.most in
            rw three (let few : most_forms (past_of v.made) 3 ≤ 48 * 17 * 17 = rw three at most in omega arith),
      )

-- what was made earlier counts as it did
made_among-extends :
    (old new : Past) (s n : ℕ) → Extends old new → n ≤ old.count → made_among new s n ≡ made_among old s n
made_among-extends old new s zero more within = refl
made_among-extends old new s (suc n) more within =
    let same : new.operation n ≡ old.operation n = more.operations n (omega arith) in
    let older = made_among-extends old new s n more (omega arith) in
    rw (older, same) refl

-- one that a site made counts there
made_at-more :
    (old new : Past) (s t : ℕ) (o : Op) → Extends old new → new.count ≡ old.count + 1
    → new.operation old.count ≡ o → site_of o ≡ Some s
    → made_at new t ≡ made_at old t + (if nat_eq s t then 1 else 0)
made_at-more old new s t o more count is own =
    let older = made_among-extends old new t old.count more (omega arith) in
    rw (count, add-one) (rw (older, is, own) refl)

-- one more at a site
abbrev more_at : ℕ → ℕ → ℕ
more_at s t = if nat_eq s t then 1 else 0

-- where a site makes one, no other makes one
more_cases : (s t : ℕ) → ((t ≡ s) × (more_at s t ≡ 1)) ⊎ ((t ≢ s) × (more_at s t ≡ 0))
more_cases s t =
    elim (cases_eq t s) as (λ _. ((t ≡ s) × (more_at s t ≡ 1)) ⊎ ((t ≢ s) × (more_at s t ≡ 0))) [
      | inl same ↦ inl (same, grind (arith, nat_tests))
      | inr other ↦ inr (other, grind (arith, nat_tests))
    ]

-- the counts behind an operation that is made
module _ (v new : View) (c : MadeCounts) (s n : ℕ) (o : Op) (stands : SessionStands v c)
    (is : IsDrillFunction v.function)
    (may : MayBeMade c s o) (done : HasMade v new s o n) where
  made_by_site : Makes v.function (data_in v) (data_in new) s o
  made_by_site = done.makes

  made_then : (t : ℕ) → made_at (past_of new.made) t ≡ c.made t + more_at s t
  made_then t =
      made_at-more (past_of v.made) (past_of new.made) s t o made_by_site.extends made_by_site.count
      made_by_site.operation may.front.own
      ∙ ap (λ m. m + more_at s t) (stands.made t)

  -- each operation is made by one of the three sites
  makers_then : (t : ℕ) → t < length new.made → IsSite 3 (maker (past_of new.made) t)
  makers_then t below =
      let count : length new.made ≡ length v.made + 1 = made_by_site.count in
      elim (cases_eq t (length v.made)) as (λ _. IsSite 3 (maker (past_of new.made) t)) [
        | inl same ↦ rw same
            (let mine : maker (past_of new.made) (length v.made) ≡ s =
            rw made_by_site.operation (rw may.front.own refl) in
            rw mine may.site)
        | inr other ↦
            (let older : t < length v.made = omega (arith, other) in
            let as_was : (past_of new.made).operation t ≡ (past_of v.made).operation t =
            made_by_site.extends.operations t older in
            rw as_was (stands.makers t older))
      ]

  few_then : (t : ℕ) → c.made t + more_at s t ≤ 16
  few_then t =
      let few = stands.few_at t in
      let room = may.few_at in
      elim (more_cases s t) as (λ _. c.made t + more_at s t ≤ 16) [
        | inl mine ↦ (let same = ap (λ u. c.made u) mine.0 in let one = mine.1 in omega arith)
        | inr other ↦ (let none = other.1 in omega arith)
      ]

  -- each site that has made an operation has a cell, while none was taken
  cells_then : c.taking ≡ false → (t : ℕ) → IsSite 3 t → 0 < c.made t + more_at s t
      → 0 < length ((data_in new).document t)
  cells_then early t site some =
      elim (more_cases s t) as (λ _. 0 < length ((data_in new).document t)) [
        | inl mine ↦ rw mine.0
            (rw made_by_site.document
            (rw is.1
            (may.front.filled ((data_in v).document s) (λ behind. stands.filled early s may.site behind))))
        | inr other ↦
            (let none = other.1 in
            let older : 0 < c.made t = omega arith in
            rw (made_by_site.keeps.documents t (is_site_of v c stands t site) other.0)
            (stands.filled early t site older))
      ]

  behind_made : SessionStands new (counts_behind c (Make s o))
  behind_made = record {
    is_open = done.is_open ∙ stands.is_open;
    sites = made_by_site.keeps.sites ∙ stands.sites;
    total = let count : length new.made ≡ length v.made + 1 = made_by_site.count in
        let total = stands.total in omega arith;
    made = made_then;
    makers = makers_then;
    few = let few = may.few in omega arith;
    few_at = few_then;
    filled = cells_then;
  }

-- the counts behind an operation that is taken
behind_taken : (v new : View) (c : MadeCounts) (s n : ℕ) (took : Took) → SessionStands v c
    → HasTaken v new s n (Ok took)
    → SessionStands new (counts_behind c (Take s n))
behind_taken v new c s n took stands taken =
    let made : new.made ≡ v.made = ap (λ (w : View). w.made) taken.is in
    let past : past_of new.made ≡ past_of v.made = ap (λ l. past_of l) made in
    record {
      is_open = ap (λ (w : View). w.is_open) taken.is;
      sites = ap (λ (w : View). length w.sites) taken.is ∙ length-set _ _ _ ∙ stands.sites;
      total = ap (λ l. length l) made ∙ stands.total;
      made = λ t. ap (λ p. made_at p t) past ∙ stands.made t;
      makers =
          subst (λ (l : List Made). (o : ℕ) → o < length l → IsSite 3 (maker (past_of l) o)) (sym made) stands.makers;
      few = stands.few;
      few_at = stands.few_at;
      filled = λ early. cc;
    }

-- the counts behind an event
pub stands_behind :
    (v new : View) (c : MadeCounts) (tally new_tally : Tally) (event : Event) → SessionStands v c
    → IsDrillFunction v.function
    → is_fine c event ≡ true → IsPlayed v tally event new new_tally → SessionStands new (counts_behind c event)
stands_behind v new c tally new_tally (Make s o) stands is fine played =
    behind_made v new c s played.0 o stands is (may_be_made c s o fine) played.1
stands_behind v new c tally new_tally (Take s n) stands is fine played =
    behind_taken v new c s n played.0 stands played.1

-- an event keeps the function
pub function_behind :
    (v new : View) (tally new_tally : Tally) (event : Event) → IsPlayed v tally event new new_tally
    → new.function ≡ v.function
function_behind v new tally new_tally (Make s o) played = played.1.function
function_behind v new tally new_tally (Take s n) played = ap (λ (w : View). w.function) played.1.is
