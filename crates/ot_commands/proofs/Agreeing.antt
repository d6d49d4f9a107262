-- Where sites that have integrated the same operations hold one document, no two of them differ.
use Rattle.std.proofs.Common.{◌≡◌, ℕ, suc, zero, ◌+◌, ◌-◌, ◌<◌, Bool, true, false, ◌||◌, nat_eq, List, [], ◌∷◌, ◌++◌}
use Rattle.std.proofs.Common.{length, map, reverse, Option, Some, None, ap, sym, refl, ◌∙◌, inl, inr, arith}
use Rattle.std.specs.Prelude.{slice_get}
use Rattle.std.proofs.Math.Bool.{or_assoc}
use Rattle.std.proofs.lemmas.List.{reverse-append}
use Rattle.std.proofs.lemmas.Option.{slice_get_within}
use Rattle.ot_causal.specs.Members.{has, HaveOneSet}
use Rattle.ot_causal.specs.Sessions.{IsSite}
use Rattle.ot_session.specs.Sites.{SiteView, site_document, site_end_of, seen_in}
use Rattle.ot_session.specs.declared.ending.SiteEnd.{SiteEnd}
use Rattle.ot_commands.specs.Replay.{IsFirstOther, IsFirstPair, SiteEndsDiffer}

-- none of the others differs from one
abbrev AgreesWith : SiteEnd → List SiteEnd → Type 0
AgreesWith one [] = Unit {0}
AgreesWith one (other ∷ others) = (¬ (SiteEndsDiffer one other)) × AgreesWith one others

-- no two differ
abbrev AllAgree : List SiteEnd → Type 0
AllAgree [] = Unit {0}
AllAgree (one ∷ others) = AgreesWith one others × AllAgree others

none_other :
    (one : SiteEnd) (t : ℕ) (others : List SiteEnd) (found : Option ℕ) → AgreesWith one others
    → IsFirstOther one t others found
    → found ≡ None
none_other one t [] found agrees is = is
none_other one t (other ∷ others) found agrees (inl (differ, is)) = absurd (agrees.0 differ)
none_other one t (other ∷ others) found agrees (inr (same, rest)) = none_other one (t + 1) others found agrees.1 rest

some_is_none : (t : ℕ) → ◌≡◌ {A = Option ℕ} (Some t) None → ⊥
some_is_none t same = cc

none_pair : (s : ℕ) (ends : List SiteEnd) (found : Option (ℕ × ℕ)) → AllAgree ends
    → IsFirstPair s ends found → found ≡ None
none_pair s [] found agree is = is
none_pair s (one ∷ others) found agree (inl (t, other, is)) =
    absurd (some_is_none t (none_other one (s + 1) others (Some t) agree.0 other))
none_pair s (one ∷ others) found agree (inr (none, rest)) = none_pair (s + 1) others found agree.1 rest

-- A site's list is told from its other end.

has-append : (x : ℕ) (l m : List ℕ) → has (l ++ m) x ≡ (has l x || has m x)
has-append x [] m = refl
has-append x (y ∷ l) m = ap (λ b. nat_eq x y || b) (has-append x l m) ∙ sym (or_assoc (nat_eq x y) (has l x) (has m x))

swapped : (a b : Bool) → (a || (b || false)) ≡ (b || a)
swapped true true = refl
swapped true false = refl
swapped false true = refl
swapped false false = refl

has-reverse : (x : ℕ) (l : List ℕ) → has (reverse l) x ≡ has l x
has-reverse x [] = refl
has-reverse x (y ∷ l) =
    ap (λ (k : List ℕ). has k x) (reverse-append (y ∷ []) l)
    ∙ has-append x (reverse l) (y ∷ [])
    ∙ ap (λ b. b || (nat_eq x y || false)) (has-reverse x l)
    ∙ swapped (has l x) (nat_eq x y)

-- sites of one set hold one document
abbrev Agree : SiteView → SiteView → Type 0
Agree a b = HaveOneSet a.seen b.seen → a.document ≡ b.document

not_differ : (a b : SiteView) → Agree a b → ¬ (SiteEndsDiffer (site_end_of a) (site_end_of b))
not_differ a b agree differ =
    differ.documents
    (agree (record { at = λ x. sym (has-reverse x a.seen) ∙ differ.sets.at x ∙ has-reverse x b.seen }))

agrees_with :
    (a : SiteView) (others : List SiteView) → ((i : ℕ) (b : SiteView) → slice_get others i ≡ Some b → Agree a b)
    → AgreesWith (site_end_of a) (map site_end_of others)
agrees_with a [] agree = tt
agrees_with a (b ∷ others) agree =
    (not_differ a b (agree zero b refl), agrees_with a others (λ i other is. agree (suc i) other is))

all_agree :
    (sites : List SiteView)
    → ((i j : ℕ) (a b : SiteView) → slice_get sites i ≡ Some a → slice_get sites j ≡ Some b → Agree a b)
    → AllAgree (map site_end_of sites)
all_agree [] agree = tt
all_agree (a ∷ sites) agree = (
  agrees_with a sites (λ i b is. agree zero (suc i) a b refl is),
  all_agree sites (λ i j b other is is_other. agree (suc i) (suc j) b other is is_other),
)

seen_there : (o : Option SiteView) (a : SiteView) → o ≡ Some a → seen_in o ≡ a.seen
seen_there o a is = ap (λ (x : Option SiteView). seen_in x) is

document_there : (o : Option SiteView) (a : SiteView) → o ≡ Some a → site_document o ≡ a.document
document_there o a is = ap (λ (x : Option SiteView). site_document x) is

there : (sites : List SiteView) (i : ℕ) (a : SiteView) → slice_get sites i ≡ Some a
    → slice_get sites (i + 1 - 1) ≡ Some a
there sites i a is = let same : i + 1 - 1 ≡ i = omega arith in ap (λ (n : ℕ). slice_get sites n) same ∙ is

is_site : (sites : List SiteView) (i : ℕ) (a : SiteView) → slice_get sites i ≡ Some a → IsSite (length sites) (i + 1)
is_site sites i a is =
    let inside : i < length sites = slice_get_within sites i a is in
    record { low = omega arith; high = omega (arith, inside) }

-- no two sites of a session differ where its sites agree
pub none_differ :
    (sites : List SiteView) (found : Option (ℕ × ℕ))
    → ((s t : ℕ) → IsSite (length sites) s → IsSite (length sites) t
    → HaveOneSet (seen_in (slice_get sites (s - 1))) (seen_in (slice_get sites (t - 1)))
    → site_document (slice_get sites (s - 1)) ≡ site_document (slice_get sites (t - 1)))
    → IsFirstPair 1 (map site_end_of sites) found → found ≡ None
none_differ sites found agree is =
    none_pair 1 (map site_end_of sites) found
    (all_agree sites (λ i j a b is_a is_b same.
    let at_a = there sites i a is_a in
    let at_b = there sites j b is_b in
    let seen_a : seen_in (slice_get sites (i + 1 - 1)) ≡ a.seen = seen_there _ a at_a in
    let seen_b : seen_in (slice_get sites (j + 1 - 1)) ≡ b.seen = seen_there _ b at_b in
    sym (document_there _ a at_a)
    ∙ agree (i + 1) (j + 1) (is_site sites i a is_a) (is_site sites j b is_b)
    (record { at = λ x. ap (λ (l : List ℕ). has l x) seen_a ∙ same.at x ∙ sym (ap (λ (l : List ℕ). has l x) seen_b) })
    ∙ document_there _ b at_b))
    is
