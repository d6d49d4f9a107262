-- The lines of what is found of a function, and of two.
use Rattle.std.specs.Prelude.{ℕ, Bool, ◌+◌, ◌&&◌, if◌then◌else◌, is_none, is_some, List, [], ◌∷◌, ◌++◌, codes, Option}
use Rattle.std.specs.Prelude.{Some, None}
use Rattle.std.specs.Fmt.{decimal}
use Rattle.std.specs.List.{flat_map, list_all}
use Rattle.ot_model.specs.declared.op.Kind.{Kind}
use Rattle.ot_model.specs.declared.op.Op.{Op}
use Rattle.fn_rules.specs.declared.function.ObName.TheVariants.{Pair}
use Rattle.cert_text.specs.Spelling.{name_text}
use Rattle.ot_audit.specs.declared.audits.Audit.{Audit}
use Rattle.ot_audit.specs.declared.audits.Audit.TheVariants as audits
use Rattle.ot_audit.specs.declared.audits.BlockAudit.{BlockAudit}
use Rattle.ot_audit.specs.declared.audits.Same.{Same}
use Rattle.ot_audit.specs.declared.audits.Same.TheVariants as sames
use Rattle.ot_counter.specs.Ways.{operation_result}
use Rattle.ot_replies.specs.CounterTexts.{line_of, op_lines, op_text, way_text}

-- each case is taken somewhere, and nowhere is the block open
abbrev pub is_total : BlockAudit → Bool
is_total b = list_all is_some b.cases && is_none b.gap

-- whether each case is taken and each block total, or a question list is too long
abbrev pub audit_status : Audit → ℕ
audit_status (audits.Blocks blocks) = if list_all is_total blocks then 0 else 1
audit_status audits.Spent = 8

-- whether two functions agree on each block, or a question list is too long
abbrev pub same_status : Same → ℕ
same_status sames.Everywhere = 0
same_status sames.Heads = 1
same_status (sames.Differ k l a b left right) = 1
same_status sames.Spent = 8

-- more is asked than is allowed
abbrev pub spent_text : List ℕ
spent_text = codes "spent" ++ 10 ∷ []

-- where it was found, behind its word, or the word of what is found nowhere
abbrev pub found_text : List ℕ → List ℕ → Option (Op × Op) → List ℕ
found_text word nowhere None = nowhere
found_text word nowhere (Some found) = word ++ op_text found.0 ++ codes " against " ++ op_text found.1

-- a case of the block of two kinds, by its number
abbrev pub case_line : Kind → Kind → ℕ → Option (Op × Op) → List ℕ
case_line k l i found =
    line_of (codes "case " ++ name_text (Pair k l) ++ codes " " ++ decimal i ++ codes " "
    ++ found_text (codes "taken ") (codes "never") found)

-- a line for each case, of which the first has this number
abbrev pub case_lines : Kind → Kind → ℕ → List (Option (Op × Op)) → List ℕ
case_lines k l i [] = []
case_lines k l i (found ∷ others) = case_line k l i found ++ case_lines k l (i + 1) others

-- the end of the block of two kinds
abbrev pub open_line : Kind → Kind → Option (Op × Op) → List ℕ
open_line k l found = line_of (codes "block " ++ name_text (Pair k l) ++ codes " "
    ++ found_text (codes "open ") (codes "total") found)

-- the lines of a block's cases, and of its end
abbrev pub block_text : BlockAudit → List ℕ
block_text b = case_lines b.first b.second 0 b.cases ++ open_line b.first b.second b.gap

-- the lines of each block
abbrev pub audit_text : Audit → List ℕ
audit_text (audits.Blocks blocks) = flat_map block_text blocks
audit_text audits.Spent = spent_text

-- the block of two kinds on which two functions differ, the operations, and what each function gives
abbrev pub difference_text : Kind → Kind → List Op → Option Op → Option Op → List ℕ
difference_text k l ops left right =
    line_of (codes "differ " ++ name_text (Pair k l)) ++ op_lines 1 ops
    ++ line_of (codes "left " ++ way_text (operation_result left))
    ++ line_of (codes "right " ++ way_text (operation_result right))

-- whether two functions agree, or where they do not
abbrev pub same_text : Same → List ℕ
same_text sames.Everywhere = codes "same" ++ 10 ∷ []
same_text sames.Heads = codes "differ head" ++ 10 ∷ []
same_text (sames.Differ k l a b left right) = difference_text k l (a ∷ b ∷ []) left right
same_text sames.Spent = spent_text
