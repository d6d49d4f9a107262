-- Sites and sessions, seen as plain data.
use Rattle.std.specs.Prelude.{◌≡◌, ◌<◌, ◌-◌, ◌++◌, ℕ, Bool, true, false, List, [], ◌∷◌, length, map, reverse, Option}
use Rattle.std.specs.Prelude.{Some, None, slice_get, slice_set}
use Rattle.std.specs.List.{AllByRecursion}
use Rattle.ot_model.specs.declared.cell.Cell.{Cell}
use Rattle.ot_model.specs.declared.op.Op.{Op}
use Rattle.ot_model.specs.declared.op.Mode.{Mode}
use Rattle.ot_model.specs.Effect.{IsEnabled, document_after}
use Rattle.fn_rules.specs.Functions.{Function}
use Rattle.ot_causal.specs.Members.{has}
use Rattle.ot_causal.specs.Past.{Past, IsClosed, IsOrderly}
use Rattle.ot_causal.specs.Counting.{counted}
use Rattle.ot_causal.specs.Sessions.{SessionData, IsSound}
use Rattle.ot_session.specs.declared.ending.SiteEnd.{SiteEnd}
use Rattle.ot_session.specs.declared.limits.TheConstants.{MAX_MADE}
use Rattle.ot_session.specs.declared.made.Made.{Made}
use Rattle.ot_session.specs.declared.site.Site.{Site}
use Rattle.ot_session.specs.Past.{is_marked, past_of, IsUsablePast}
use Rattle.ot_session.specs.Entries.{HasForms}

-- a site: its document, what it has integrated, newest first, and which numbers it holds
pub record SiteView : Type 0 where
  pub document : List Cell
  pub seen : List ℕ
  pub held : List Bool

abbrev pub view_site : Site → SiteView
view_site site = record { document = site.doc; seen = reverse site.seen.items; held = site.held }

-- what a site leaves: what it has integrated, in order, and its document
abbrev pub site_end_of : SiteView → SiteEnd
site_end_of site = record { seen = reverse site.seen; doc = site.document }

-- the document of a site, if there is the site
abbrev pub site_document : Option SiteView → List Cell
site_document None = []
site_document (Some site) = site.document

-- what a site has integrated
abbrev pub seen_in : Option SiteView → List ℕ
seen_in None = []
seen_in (Some site) = site.seen

-- what the definitions of sessions speak of; sites are numbered from 1
abbrev pub data_of : List Cell → List Made → List SiteView → SessionData
data_of first made sites = record {
  past = past_of made;
  first = first;
  sites = length sites;
  seen = λ t. seen_in (slice_get sites (t - 1));
  document = λ t. site_document (slice_get sites (t - 1));
}

-- the marks of what a site has integrated, and room for those of all that can be made
pub record IsMarked (site : Site) : Type 0 where
  pub marks : (x : ℕ) → is_marked site.integrated x ≡ has (reverse site.seen.items) x
  pub integrated : length site.integrated ≡ MAX_MADE
  pub held : length site.held ≡ MAX_MADE

-- what a site holds was made, and is not integrated
pub record IsApart (count : ℕ) (site : Site) : Type 0 where
  pub made : (x : ℕ) → is_marked site.held x ≡ true → x < count
  pub other : (x : ℕ) → is_marked site.held x ≡ true → has (reverse site.seen.items) x ≡ false

-- the marks of a site are as they are to be
pub record IsSorted (count : ℕ) (site : Site) : Type 0 where
  pub marked : IsMarked site
  pub apart : IsApart count site

-- a site's table has the forms that it has counted
pub record SiteKeepsForms (f : Function) (past : Past) (site : Site) : Type 0 where
  pub has : HasForms f past (reverse site.seen.items) (counted past (reverse site.seen.items)) site.table

-- what is asked of a site that takes an operation, and of what was made
pub record CanTake (f : Function) (past : Past) (site : Site) : Type 0 where
  pub orderly : IsOrderly past
  pub usable : IsUsablePast f past
  pub closed : IsClosed past (reverse site.seen.items)
  pub sorted : IsSorted past.count site
  pub forms : SiteKeepsForms f past site

-- a site that holds the document, where nothing is integrated or held
pub record IsFresh (d : List Cell) (site : Site) : Type 0 where
  pub document : site.doc ≡ d
  pub seen : site.seen.items ≡ []
  pub held : (x : ℕ) → is_marked site.held x ≡ false
  pub marked : IsMarked site
  pub table : site.table ≡ []

-- an operation was executed at a site, and is integrated
pub record Executes (mode : Mode) (number : ℕ) (o : Op) (old new : Site) : Type 0 where
  pub enabled : IsEnabled o (length old.doc)
  pub document : new.doc ≡ document_after mode o old.doc
  pub seen : new.seen.items ≡ old.seen.items ++ number ∷ []
  pub integrated : new.integrated ≡ slice_set old.integrated number true
  pub held : new.held ≡ old.held
  pub table : new.table ≡ old.table

-- nothing changed but the forms
pub record IsSameSite (old new : Site) : Type 0 where
  pub document : new.doc ≡ old.doc
  pub seen : new.seen.items ≡ old.seen.items
  pub integrated : new.integrated ≡ old.integrated
  pub held : new.held ≡ old.held

-- an operation was executed at one of the sites, and is among those that were made
pub record ExecutesAt (mode : Mode) (o : Op) (i : ℕ) (old_made new_made : List Made) (old new : List Site) : Type 0
  where
    pub before : Site
    pub after : Site
    pub was : slice_get old i ≡ Some before
    pub is : new ≡ slice_set old i after
    pub executes : Executes mode (length old_made) o before after
    pub made : new_made ≡ old_made ++ record { op = o; known = before.integrated } ∷ []

-- what is kept in a session
pub record IsKeptSession (f : Function) (first : List Cell) (made : List Made) (sites : List Site) : Type 0 where
  pub sound : IsSound f (data_of first made (map view_site sites))
  pub sorted : AllByRecursion (IsSorted (length made)) sites
