-- The transformations that led to the form of an operation, the first one first.
use Rattle.std.specs.Prelude.{ℕ, zero, suc, cond, nat_eq, List, [], ◌∷◌, ◌++◌, length, Option, Some, None}
use Rattle.std.specs.Option.{option_map_or}
use Rattle.ot_model.specs.declared.op.Op.{Op}
use Rattle.ot_model.specs.Operations.{kind_of}
use Rattle.fn_rules.specs.Conditions.{IsInRange}
use Rattle.fn_rules.specs.Functions.{Function, IsForKind}
use Rattle.ot_causal.specs.Members.{without}
use Rattle.ot_causal.specs.Past.{Past}
use Rattle.ot_causal.specs.Forms.{newest_open, form}
use Rattle.ot_session.specs.declared.pairs.FormPair.{FormPair}

-- a form, and that of another operation, with its number; none where one of them does not exist
abbrev pub pair_of : Option Op → ℕ → Option Op → List FormPair
pair_of None x by = []
pair_of (Some own) x None = []
pair_of (Some own) x (Some by) = record { form = own; number = x; against = by } ∷ []

-- the transformations with a bound on their number: the length of the list is enough
abbrev pub form_pairs_within : ℕ → Function → Past → ℕ → List ℕ → List FormPair
form_pairs_within zero f past o l = []
form_pairs_within (suc depth) f past o l =
    option_map_or
    (λ x.
    form_pairs_within depth f past o (without x l)
    ++ pair_of (form f past o (without x l)) x (form f past x (without x l)))
    (newest_open past o l)
    []

-- the transformations that led to the form of an operation behind a list: none if all of the list is before it;
-- otherwise, with the newest member that is not before it, those behind the list without that member, and then that of
-- the form there against the member's form there
abbrev pub form_pairs : Function → Past → ℕ → List ℕ → List FormPair
form_pairs f past o l = form_pairs_within (length l) f past o l

-- the members of a list that are older than one of them; none where it is no member
abbrev pub older_than : ℕ → List ℕ → List ℕ
older_than o [] = []
older_than o (x ∷ l) = cond (nat_eq o x) l (older_than o l)

-- the transformations that led to what a site executed of an operation, where it has integrated this list, newest first
abbrev pub integrated_pairs : Function → Past → List ℕ → ℕ → List FormPair
integrated_pairs f past seen o = form_pairs f past o (older_than o seen)

-- both operations can be transformed
pub record CanMove (f : Function) (pair : FormPair) : Type 0 where
  pub form_declared : IsForKind f.head (kind_of pair.form)
  pub form_in_range : IsInRange pair.form
  pub against_declared : IsForKind f.head (kind_of pair.against)
  pub against_in_range : IsInRange pair.against
