-- Which forms are sought, in which order, and which of them a site counts.
use Rattle.std.specs.Prelude.{◌≡◌, ℕ, zero, suc, ◌+◌, ◌*◌, Bool, true, ◌&&◌, if◌then◌else◌, nat_eq, List, [], ◌∷◌, ◌++◌}
use Rattle.std.specs.Prelude.{length}
use Rattle.std.specs.List.{AllByRecursion, list_all, list_any, count_by}
use Rattle.std.specs.Option.{option_map_or}
use Rattle.ot_causal.specs.Members.{without, have_one_set, IsSublist}
use Rattle.ot_causal.specs.Past.{Past, IsReady, maker}
use Rattle.ot_causal.specs.Forms.{newest_open}

-- what a form is counted by: of which operation it is, behind which set
pub record FormName : Type 0 where
  pub of : ℕ
  pub behind : List ℕ

-- the name of an operation's form behind a list
abbrev pub name_of : ℕ → List ℕ → FormName
name_of o l = record { of = o; behind = l }

-- of one operation, behind one set
abbrev pub is_same_form : FormName → FormName → Bool
is_same_form one other = nat_eq one.of other.of && have_one_set one.behind other.behind

-- the forms sought with a bound on the depth: the length of the list is enough
unfoldable pub sought_within : ℕ → Past → ℕ → List ℕ → List FormName
sought_within zero past o l = []
sought_within (suc depth) past o l =
    option_map_or
    (λ x. sought_within depth past o (without x l) ++ sought_within depth past x (without x l) ++ name_of o l ∷ [])
    (newest_open past o l)
    []

-- the forms that the form of an operation behind a list is made from, in the order in which they are sought:
-- none if all of the list is before it; otherwise, with the newest member that is not before it, those of
-- the operation and then those of that member behind the list without it, and then the form itself
unfoldable pub sought : Past → ℕ → List ℕ → List FormName
sought past o l = sought_within (length l) past o l

-- the form is one of these
abbrev pub is_among : List FormName → FormName → Bool
is_among counted name = list_any (is_same_form name) counted

-- what is counted, the newest first, when these were sought: each form once
abbrev pub count_sought : List FormName → List FormName → List FormName
count_sought counted [] = counted
count_sought counted (name ∷ names) = count_sought (if is_among counted name then counted else name ∷ counted) names

-- the form was counted at a site: its list is ready for its operation and a sublist of what the site has
-- integrated, and all that it is made from is among what was counted
pub record IsCounted (past : Past) (seen : List ℕ) (names : List FormName) (name : FormName) : Type 0 where
  pub ready : IsReady past name.of name.behind
  pub sublist : IsSublist name.behind seen
  pub parts : list_all (is_among names) (sought past name.of name.behind) ≡ true

-- each of them was
abbrev pub AreCounted : Past → List ℕ → List FormName → Type 0
AreCounted past seen names = AllByRecursion (IsCounted past seen names) names

-- the forms that a site has counted which has integrated this list
unfoldable pub counted : Past → List ℕ → List FormName
counted past [] = []
counted past (o ∷ l) = count_sought (counted past l) (sought past o l)

-- how many of a list's members a site made
abbrev pub from_site : Past → ℕ → List ℕ → ℕ
from_site past site l = count_by (λ o. nat_eq (maker past o) site) l

-- how many of the first operations a site made
abbrev pub made_among : Past → ℕ → ℕ → ℕ
made_among past site zero = 0
made_among past site (suc n) = made_among past site n + (if nat_eq (maker past n) site then 1 else 0)

-- how many operations a site made
abbrev pub made_at : Past → ℕ → ℕ
made_at past site = made_among past site past.count

-- the product, over the sites from 1 to this one except the given one, of one more than the number of
-- operations made there
abbrev pub choices : Past → ℕ → ℕ → ℕ
choices past own zero = 1
choices past own (suc site) = choices past own site * (if nat_eq (suc site) own then 1 else made_at past (suc site) + 1)

-- the sum of these products over the first operations
abbrev pub choices_below : Past → ℕ → ℕ → ℕ
choices_below past sites zero = 0
choices_below past sites (suc n) = choices_below past sites n + choices past (maker past n) sites

-- the most forms that a site can count
abbrev pub most_forms : Past → ℕ → ℕ
most_forms past sites = choices_below past sites past.count
