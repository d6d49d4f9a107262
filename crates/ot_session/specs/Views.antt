-- A session, seen as plain data: the function, the first document, what was made, and each site.
use Rattle.std.specs.Prelude.{◌≡◌, ◌<◌, ◌≤◌, ◌-◌, ◌++◌, ℕ, Bool, true, false, List, [], ◌∷◌, length, map, Some}
use Rattle.std.specs.Prelude.{slice_get, slice_set, Result, Ok, Err, is_ok}
use Rattle.std.specs.List.{AllByRecursion}
use Rattle.ot_model.specs.declared.cell.Cell.{Cell}
use Rattle.ot_model.specs.declared.op.Op.{Op}
use Rattle.fn_rules.specs.Functions.{Function}
use Rattle.fn_rules.specs.Rules.{function_of}
use Rattle.ot_causal.specs.Members.{has}
use Rattle.ot_causal.specs.Sessions.{SessionData, IsSite, Makes}
use Rattle.ot_session.specs.declared.answer.Took.{Took}
use Rattle.ot_session.specs.declared.answer.Take.{Take}
use Rattle.ot_session.specs.declared.answer.Take.TheVariants.{NoSite, NoOp, Stuck, Spent, NoMemory}
use Rattle.ot_session.specs.declared.limits.TheConstants.{MAX_MADE}
use Rattle.ot_session.specs.declared.made.Made.{Made}
use Rattle.ot_session.specs.declared.session.Session.{Session}
use Rattle.ot_session.specs.Past.{is_marked, past_of}
use Rattle.ot_session.specs.Sites.{SiteView, view_site, data_of}
use Rattle.ot_session.specs.Taking.{SiteStanding, Takes}

pub record View : Type 0 where
  pub function : Function
  pub first : List Cell
  pub made : List Made
  pub sites : List SiteView
  pub counted : ℕ
  pub is_open : Bool

abbrev pub view_of : Session → View
view_of s = record {
  function = function_of s.rules;
  first = s.first;
  made = s.made.items;
  sites = map view_site s.sites.items;
  counted = s.counted;
  is_open = s.is_open;
}

-- what the definitions of sessions speak of
abbrev pub data_in : View → SessionData
data_in v = data_of v.first v.made v.sites

-- the same session, in which nothing more can be made or taken
abbrev pub closed_session : View → View
closed_session v = record v { is_open = false }

-- a site that holds the document, where nothing is integrated or held, with room for the marks of all that can be made
pub record IsFreshView (d : List Cell) (site : SiteView) : Type 0 where
  pub document : site.document ≡ d
  pub seen : site.seen ≡ []
  pub held : (x : ℕ) → is_marked site.held x ≡ false
  pub room : length site.held ≡ MAX_MADE

-- a new session: it is open, nothing was made and no form counted, and each of so many sites holds the document
pub record IsBegun (f : Function) (d : List Cell) (sites : ℕ) (v : View) : Type 0 where
  pub function : v.function ≡ f
  pub first : v.first ≡ d
  pub made : v.made ≡ []
  pub count : length v.sites ≡ sites
  pub fresh : AllByRecursion (IsFreshView d) v.sites
  pub counted : v.counted ≡ 0
  pub is_open : v.is_open ≡ true

-- an operation stands behind those that were made, with marks of what its site had integrated
pub record StandsBehind (old new : View) (t : ℕ) (o : Op) : Type 0 where
  pub known : List Bool
  pub is : new.made ≡ old.made ++ record { op = o; known = known } ∷ []
  pub marks : (x : ℕ) → is_marked known x ≡ has ((data_in old).seen t) x
  pub room : length known ≡ MAX_MADE

-- an operation was made at a site and has this number; nothing else changed, and each site holds what it held
pub record HasMade (old new : View) (t : ℕ) (o : Op) (n : ℕ) : Type 0 where
  pub number : n ≡ length old.made
  pub made : StandsBehind old new t o
  pub makes : Makes old.function (data_in old) (data_in new) t o
  pub function : new.function ≡ old.function
  pub held : map (λ (s : SiteView). s.held) new.sites ≡ map (λ (s : SiteView). s.held) old.sites
  pub counted : new.counted ≡ old.counted
  pub is_open : new.is_open ≡ old.is_open

-- a site took an operation, and this is the answer: nothing but this site, the count of forms and, behind a refusal,
-- that the session is open has changed
pub record TakesAt (old new : View) (t n : ℕ) (answer : Result Took Take) : Type 0 where
  pub there : IsSite (length old.sites) t
  pub made : n < length old.made
  pub before : SiteView
  pub after : SiteStanding
  pub site : slice_get old.sites (t - 1) ≡ Some before
  pub takes : Takes old.function (past_of old.made) n (record { site = before; counted = old.counted }) after answer
  pub is : new ≡ record old {
    sites = slice_set old.sites (t - 1) after.site;
    counted = after.counted;
    is_open = is_ok answer;
  }

-- a site was asked to take an operation, and this is the answer
abbrev pub HasTaken : View → View → ℕ → ℕ → Result Took Take → Type 0
HasTaken old new t n (Ok took) = TakesAt old new t n (Ok took)
HasTaken old new t n (Err NoSite) = (¬ (IsSite (length old.sites) t)) × (new ≡ old)
HasTaken old new t n (Err NoOp) = IsSite (length old.sites) t × (length old.made ≤ n) × (new ≡ old)
HasTaken old new t n (Err (Stuck o)) = TakesAt old new t n (Err (Stuck o))
HasTaken old new t n (Err Spent) = TakesAt old new t n (Err Spent)
HasTaken old new t n (Err NoMemory) = TakesAt old new t n (Err NoMemory)
