-- The blocks after an edit are one for each declared pair, so the limits alone decide whether they make a function.
use Rattle.std.proofs.Common.{◌≡◌, Bool, true, false, ◌&&◌, List, [], ◌∷◌, if◌then◌else◌, refl, ap, ◌∙◌}
use Rattle.std.specs.List.{flat_map}
use Rattle.ot_model.specs.declared.op.Kind.{Kind}
use Rattle.ot_model.specs.declared.op.Mode.{Mode}
use Rattle.ot_model.specs.Kinds.{kind_pairs}
use Rattle.fn_rules.specs.declared.function.Head.{Head}
use Rattle.fn_rules.specs.Building.{PairCases, has_own_blocks, is_buildable}
use Rattle.fn_rules.specs.Functions.{Function, GuardedCase, cases_of, is_declared_of}
use Rattle.fn_rules.specs.Shipped.{block}
use Rattle.fn_rules.specs.Validity.{is_valid}
use Rattle.ot_mend.specs.declared.edit.Edit.{Edit}
use Rattle.ot_mend.specs.declared.edit.Edit.TheVariants.{InBlock, AssumeSites, AssumeChars}
use Rattle.ot_mend.specs.Edits.{block_after, blocks_after, edited_of, head_after}

-- a head of these parts
abbrev head_of : Mode → Bool → Bool → Bool → Bool → Bool → Head
head_of mode ins del upd sites chars =
    record { mode = mode; ins = ins; del = del; upd = upd; sites_differ = sites; chars_differ = chars }

-- the block of a declared pair
abbrev own : Head → (Kind → Kind → List GuardedCase) → Kind × Kind → List PairCases
own head cases pair = if is_declared_of head pair then block pair.0 pair.1 (cases pair.0 pair.1) ∷ [] else []

-- one block for each declared pair, whatever its cases are
own_blocks : (mode : Mode) (ins del upd sites chars : Bool) (cases : Kind → Kind → List GuardedCase) →
    has_own_blocks (head_of mode ins del upd sites chars)
    (flat_map (own (head_of mode ins del upd sites chars) cases) kind_pairs)
    ≡ true
own_blocks mode true true true sites chars cases = refl
own_blocks mode true true false sites chars cases = refl
own_blocks mode true false true sites chars cases = refl
own_blocks mode true false false sites chars cases = refl
own_blocks mode false true true sites chars cases = refl
own_blocks mode false true false sites chars cases = refl
own_blocks mode false false true sites chars cases = refl
own_blocks mode false false false sites chars cases = refl

-- an edit leaves one block for each declared pair
edits_leave_blocks : (edit : Edit) (f : Function) → has_own_blocks (head_after edit f.head) (blocks_after edit f) ≡ true
edits_leave_blocks (InBlock k l change) f =
    own_blocks f.head.mode f.head.ins f.head.del f.head.upd f.head.sites_differ f.head.chars_differ
    (λ m n. block_after (InBlock k l change) m n (cases_of f m n))
edits_leave_blocks AssumeSites f =
    own_blocks f.head.mode f.head.ins f.head.del f.head.upd true f.head.chars_differ (λ m n. cases_of f m n)
edits_leave_blocks AssumeChars f =
    own_blocks f.head.mode f.head.ins f.head.del f.head.upd f.head.sites_differ true (λ m n. cases_of f m n)

-- what a test of both comes to, where the first is true
second_decides : (first second both : Bool) → first ≡ true → both ≡ first && second → both ≡ second
second_decides true second both is said = said
second_decides false second both is said = absurd (cc)

-- the test of the blocks after an edit is that of the function
pub limits_decide : (edit : Edit) (f : Function) (head : Head) (blocks : List PairCases) (b : Bool) →
    head ≡ head_after edit f.head → blocks ≡ blocks_after edit f → b ≡ is_buildable head blocks
    → b ≡ is_valid (edited_of edit f)
limits_decide edit f head blocks b of_head of_blocks said =
    second_decides (has_own_blocks (head_after edit f.head) (blocks_after edit f)) (is_valid (edited_of edit f)) b
    (edits_leave_blocks edit f)
    (said ∙ (ap (λ h. is_buildable h blocks) of_head ∙ ap (λ bs. is_buildable (head_after edit f.head) bs) of_blocks))
