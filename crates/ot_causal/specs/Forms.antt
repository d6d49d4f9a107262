-- The form of an operation behind a list of others, and the document that a list leads to. Lists have the
-- newest member first.
use Rattle.std.specs.Prelude.{ℕ, zero, suc, not, List, [], ◌∷◌, length, Option, Some, None, if◌then◌else◌}
use Rattle.std.specs.List.{find}
use Rattle.std.specs.Option.{option_and_then, option_map_or}
use Rattle.ot_model.specs.declared.cell.Cell.{Cell}
use Rattle.ot_model.specs.declared.op.Op.{Op}
use Rattle.ot_model.specs.Effect.{is_enabled, document_after}
use Rattle.fn_rules.specs.Functions.{Function}
use Rattle.fn_rules.specs.Transformation.{transform_of}
use Rattle.ot_causal.specs.Members.{without}
use Rattle.ot_causal.specs.Past.{Past}

-- the newest member that is not before the operation
abbrev pub newest_open : Past → ℕ → List ℕ → Option ℕ
newest_open past o l = find (λ x. not (past.before x o)) l

-- the first form, transformed against the second; none where one of them or the result does not exist
abbrev pub transformed : Function → Option Op → Option Op → Option Op
transformed f None b = None
transformed f (Some a) None = None
transformed f (Some a) (Some b) = transform_of f a b

-- the form with a bound on the depth: the length of the list is enough
unfoldable pub form_within : ℕ → Function → Past → ℕ → List ℕ → Option Op
form_within zero f past o l = Some (past.operation o)
form_within (suc depth) f past o l =
    option_map_or
    (λ x. transformed f (form_within depth f past o (without x l)) (form_within depth f past x (without x l)))
    (newest_open past o l)
    (Some (past.operation o))

-- the form of an operation behind a list that is ready for it: the operation itself if all of the list is
-- before it; otherwise, with the newest member that is not before it, the transform of its form by that
-- member's form, both behind the list without that member
unfoldable pub form : Function → Past → ℕ → List ℕ → Option Op
form f past o l = form_within (length l) f past o l

-- the document behind a form that exists and is enabled
abbrev pub executed : Function → Option Op → List Cell → Option (List Cell)
executed f None d = None
executed f (Some p) d = if is_enabled p (length d) then Some (document_after f.head.mode p d) else None

-- the document that a closed list leads to from the first one: its members' forms, each behind the older
-- members, executed in turn; none where one of them does not exist or is not enabled
unfoldable pub state : Function → Past → List Cell → List ℕ → Option (List Cell)
state f past first [] = Some first
state f past first (o ∷ l) = option_and_then (λ d. executed f (form f past o l) d) (state f past first l)
