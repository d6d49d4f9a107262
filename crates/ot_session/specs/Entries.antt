-- A table of forms, seen as the list of its entries, and what was counted with it.
use Rattle.std.specs.Prelude.{◌≡◌, ℕ, ◌+◌, Bool, true, ◌&&◌, nat_eq, List, length, Option, Some, None, is_some, Result}
use Rattle.std.specs.Prelude.{Ok, Err}
use Rattle.std.specs.List.{AllByRecursion}
use Rattle.std.specs.Map.{lookup}
use Rattle.std.specs.Cmp.Lexicographic.{pointwise}
use Rattle.ot_model.specs.declared.op.Op.{Op}
use Rattle.fn_rules.specs.Functions.{Function}
use Rattle.ot_causal.specs.Past.{Past, IsClosed, IsOrderly}
use Rattle.ot_causal.specs.Forms.{form}
use Rattle.ot_causal.specs.Counting.{FormName, name_of, is_among, sought, count_sought, AreCounted}
use Rattle.ot_session.specs.declared.table.Key.{Key}
use Rattle.ot_session.specs.declared.form.FormError.{FormError}
use Rattle.ot_session.specs.declared.form.FormError.TheVariants.{NoForm, Spent, NoMemory}
use Rattle.ot_session.specs.Past.{IsUsablePast}
use Rattle.ot_session.specs.Lists.{clock, CanBeSought}
use Rattle.ot_session.specs.Seeking.{Missing, Exhausted, first_obstacle}

-- the keys are one
abbrev pub is_same_key : Key → Key → Bool
is_same_key key other = nat_eq key.number other.number && pointwise nat_eq key.counts other.counts

-- the form under a key
abbrev pub form_under : Key → List (Key × Op) → Option Op
form_under key entries = lookup (is_same_key key) entries

-- the key of a form
abbrev pub key_of : Past → FormName → Key
key_of past name = record { number = name.of; counts = clock past name.behind }

-- the entry is the form of an operation behind a list that was sought, under the counts of that list, and was counted
pub record IsFormEntry (f : Function) (past : Past) (seen : List ℕ) (names : List FormName) (e : Key × Op) : Type 0
  where
    pub list : List ℕ
    pub sought : CanBeSought past seen e.0.number list
    pub counts : e.0.counts ≡ clock past list
    pub is : form f past e.0.number list ≡ Some e.1
    pub counted : is_among names (name_of e.0.number list) ≡ true

-- there is a form under the key of this one
pub record IsStored (past : Past) (entries : List (Key × Op)) (name : FormName) : Type 0 where
  pub there : is_some (form_under (key_of past name) entries) ≡ true

-- the table of a site that has integrated the list: it has the forms that were counted, and no others
pub record HasForms (f : Function) (past : Past) (seen : List ℕ) (names : List FormName) (entries : List (Key × Op)) :
    Type 0 where
  pub counted : AreCounted past seen names
  pub forms : AllByRecursion (IsFormEntry f past seen names) entries
  pub stored : AllByRecursion (IsStored past entries) names

-- the same, where so many forms were counted in all, some of them at other sites
pub record IsTable (f : Function) (past : Past) (seen : List ℕ) (entries : List (Key × Op)) (total : ℕ) : Type 0 where
  pub names : List FormName
  pub others : ℕ
  pub has : HasForms f past seen names entries
  pub count : total ≡ others + length names

-- the form of the operation behind the list can be sought at a site that has integrated the first list
pub record MaySeek (f : Function) (past : Past) (seen : List ℕ) (o : ℕ) (l : List ℕ) : Type 0 where
  pub orderly : IsOrderly past
  pub closed : IsClosed past seen
  pub usable : IsUsablePast f past
  pub sought : CanBeSought past seen o l

-- nothing was in the way of a form that was sought: all that it is made from was counted, and stored
pub record Seeks (f : Function) (past : Past) (seen : List ℕ) (names : List FormName) (others o : ℕ) (l : List ℕ)
    (entries : List (Key × Op)) (total : ℕ) : Type 0 where
  pub free : first_obstacle f past (others + length names) names (sought past o l) ≡ None
  pub table : ∥ HasForms f past seen (count_sought names (sought past o l)) entries ∥₁
  pub count : total ≡ others + length (count_sought names (sought past o l))

-- a form was sought where some were counted at the site, and so many at the others, and this is the answer
abbrev pub HasSought : Function → Past → List ℕ → List FormName → ℕ → ℕ → List ℕ → List (Key × Op) → ℕ
    → Result Op FormError → Type 0
HasSought f past seen names others o l entries total (Ok p) = Seeks f past seen names others o l entries total
HasSought f past seen names others o l entries total (Err NoForm) =
    first_obstacle f past (others + length names) names (sought past o l) ≡ Some (Missing total)
HasSought f past seen names others o l entries total (Err Spent) =
    first_obstacle f past (others + length names) names (sought past o l) ≡ Some Exhausted
HasSought f past seen names others o l entries total (Err NoMemory) = Unit {0}
