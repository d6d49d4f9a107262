-- A new session, and the session behind an operation that was made, are told by what they come of.
use Rattle.std.proofs.Common.{◌≡◌, ◌<◌, ◌+◌, ◌-◌, ◌++◌, ◌∷◌, [], ℕ, zero, suc, Bool, false, List, length, map, refl}
use Rattle.std.proofs.Common.{sym, ap, ◌∙◌, inl, inr, arith}
use Rattle.std.specs.Prelude.{slice_get}
use Rattle.std.specs.List.{AllByRecursion}
use Rattle.std.proofs.lemmas.Bool.{cases_eq}
use Rattle.std.proofs.lemmas.List.{ext_get_or}
use Rattle.ot_model.specs.declared.cell.Cell.{Cell}
use Rattle.ot_model.specs.declared.op.Op.{Op}
use Rattle.fn_rules.specs.Functions.{Function}
use Rattle.ot_causal.specs.Sessions.{IsSite}
use Rattle.ot_session.specs.Past.{is_marked}
use Rattle.ot_session.specs.Sites.{SiteView, site_document, seen_in}
use Rattle.ot_session.specs.Views.{View, IsFreshView, IsBegun, HasMade, data_in}

-- marks of the same numbers are one, where there are as many of them
marks-one : (one other : List Bool) → length one ≡ length other
    → ((x : ℕ) → is_marked one x ≡ is_marked other x) → one ≡ other
marks-one one other long same = ext_get_or false one other long (λ x inside. same x)

-- sites with the same documents, the same integrated and the same held are one
SiteView-one : (one other : SiteView) → one.document ≡ other.document → one.seen ≡ other.seen
    → one.held ≡ other.held → one ≡ other
SiteView-one one other document seen held = λ i. record { document = document i; seen = seen i; held = held i }

-- new sites on one document are one
IsFreshView-one : (d : List Cell) (one other : SiteView) → IsFreshView d one → IsFreshView d other → one ≡ other
IsFreshView-one d one other first second =
    SiteView-one one other (first.document ∙ sym second.document) (first.seen ∙ sym second.seen)
    (marks-one one.held other.held (first.room ∙ sym second.room) (λ x. first.held x ∙ sym (second.held x)))

-- so are lists of them, where there are as many
fresh-one : (d : List Cell) (one other : List SiteView) → length one ≡ length other → AllByRecursion (IsFreshView d) one
    → AllByRecursion (IsFreshView d) other → one ≡ other
fresh-one d [] [] long first second = refl
fresh-one d [] (v ∷ vs) long first second = absurd (omega (arith, long))
fresh-one d (u ∷ us) [] long first second = absurd (omega (arith, long))
fresh-one d (u ∷ us) (v ∷ vs) long first second =
    let head : u ≡ v = IsFreshView-one d u v first.0 second.0 in
    let rest : us ≡ vs = fresh-one d us vs (omega (arith, long)) first.1 second.1 in
    cc

-- sessions with the same parts are one
View-one : (one other : View) → one.function ≡ other.function → one.first ≡ other.first → one.made ≡ other.made
    → one.sites ≡ other.sites
    → one.counted ≡ other.counted → one.is_open ≡ other.is_open → one ≡ other
View-one one other function first made sites counted is_open = λ i. record {
  function = function i;
  first = first i;
  made = made i;
  sites = sites i;
  counted = counted i;
  is_open = is_open i;
}

-- a new session is told by the function, the document and the number of its sites
pub IsBegun-one : (f : Function) (d : List Cell) (sites : ℕ) (one other : View) → IsBegun f d sites one
    → IsBegun f d sites other → one ≡ other
IsBegun-one f d sites one other first second =
    View-one one other (first.function ∙ sym second.function) (first.first ∙ sym second.first) (first.made
    ∙ sym second.made) (fresh-one d one.sites other.sites (first.count ∙ sym second.count) first.fresh second.fresh)
    (first.counted ∙ sym second.counted) (first.is_open ∙ sym second.is_open)

-- lists of sites are one where at each place the documents, the integrated and the held are
sites-one : (one other : List SiteView) → length one ≡ length other
    → ((i : ℕ) → i < length one → site_document (slice_get one i) ≡ site_document (slice_get other i))
    → ((i : ℕ) → i < length one → seen_in (slice_get one i) ≡ seen_in (slice_get other i))
    → map (λ (s : SiteView). s.held) one ≡ map (λ (s : SiteView). s.held) other → one ≡ other
sites-one [] [] long documents seen held = refl
sites-one [] (v ∷ vs) long documents seen held = absurd (omega (arith, long))
sites-one (u ∷ us) [] long documents seen held = absurd (omega (arith, long))
sites-one (u ∷ us) (v ∷ vs) long documents seen held =
    let own : u.held ≡ v.held = cc in
    let others : map (λ (s : SiteView). s.held) us ≡ map (λ (s : SiteView). s.held) vs = cc in
    let head : u ≡ v = SiteView-one u v (documents zero (omega arith)) (seen zero (omega arith)) own in
    let rest : us ≡ vs = sites-one us vs (omega (arith, long)) (λ i inside. documents (suc i) (omega (arith, inside)))
    (λ i inside. seen (suc i) (omega (arith, inside))) others in
    cc

module _ (old one other : View) (t n m : ℕ) (o : Op) (first : HasMade old one t o n)
    (second : HasMade old other t o m) where
  -- its marks are one
  known-one : first.made.known ≡ second.made.known
  known-one = marks-one first.made.known second.made.known (first.made.room ∙ sym second.made.room)
      (λ x. first.made.marks x ∙ sym (second.made.marks x))

  -- so is what was made
  made-one : one.made ≡ other.made
  made-one = first.made.is
      ∙ ap (λ (marks : List Bool). old.made ++ record { op = o; known = marks } ∷ []) known-one ∙ sym second.made.is

  -- there are as many sites
  long : length one.sites ≡ length other.sites
  long = first.makes.keeps.sites ∙ sym second.makes.keeps.sites

  -- each place is that of a site
  site_at : (i : ℕ) → i < length one.sites → IsSite (length old.sites) (i + 1)
  site_at i inside = record { low = omega arith; high = omega (arith, inside, first.makes.keeps.sites) }

  -- at each place the document is one
  documents-one : (u : ℕ) → IsSite (length old.sites) u → (data_in one).document u ≡ (data_in other).document u
  documents-one u site = elim (cases_eq u t) [
    | inl same ↦
        ap (λ (s : ℕ). (data_in one).document s) same ∙ first.makes.document ∙ sym second.makes.document
        ∙ ap (λ (s : ℕ). (data_in other).document s) (sym same)
    | inr differ ↦ first.makes.keeps.documents u site differ ∙ sym (second.makes.keeps.documents u site differ)
  ]

  -- and so is what is integrated
  seen-one : (u : ℕ) → IsSite (length old.sites) u → (data_in one).seen u ≡ (data_in other).seen u
  seen-one u site = elim (cases_eq u t) [
    | inl same ↦
        ap (λ (s : ℕ). (data_in one).seen s) same ∙ first.makes.seen ∙ sym second.makes.seen
        ∙ ap (λ (s : ℕ). (data_in other).seen s) (sym same)
    | inr differ ↦ first.makes.keeps.seen u site differ ∙ sym (second.makes.keeps.seen u site differ)
  ]

  -- the site at a place has the number behind it
  behind : (i : ℕ) → i + 1 - 1 ≡ i
  behind i = omega arith

  -- the number is one, and so is the session behind it
  pub HasMade-one : (n ≡ m) × (one ≡ other)
  HasMade-one = (
    first.number ∙ sym second.number,
    View-one one other (first.function ∙ sym second.function) (first.makes.keeps.first ∙ sym second.makes.keeps.first)
        made-one (sites-one one.sites other.sites long
        (λ i inside. rw behind at (documents-one (i + 1) (site_at i inside)))
        (λ i inside. rw behind at (seen-one (i + 1) (site_at i inside)))
        (first.held ∙ sym second.held))
        (first.counted ∙ sym second.counted) (first.is_open ∙ sym second.is_open),
  )
