-- The text of a mended function. Each of its comment lines tells an edit, with the numbers that cases have when it is
-- made.
use Rattle.std.specs.Prelude.{ℕ, suc, List, [], ◌∷◌, ◌++◌, slice_get, codes, Option, Some, None}
use Rattle.std.specs.Fmt.{decimal}
use Rattle.ot_model.specs.declared.op.Kind.{Kind}
use Rattle.fn_rules.specs.declared.guard.Atom.{Atom}
use Rattle.fn_rules.specs.declared.function.Res.{Res}
use Rattle.fn_rules.specs.Functions.{Function, GuardedCase, cases_of}
use Rattle.fn_rules.specs.Shipped.{when}
use Rattle.fn_tokens.specs.declared.token.Token.TheVariants.{Known}
use Rattle.fn_tokens.specs.declared.token.Word.TheVariants as words
use Rattle.fn_tokens.specs.Spelling.{spelled}
use Rattle.fn_grammar.specs.Print.{atom_tokens, printed, printed_case, result_tokens}
use Rattle.ot_mend.specs.declared.change.Change.{Change}
use Rattle.ot_mend.specs.declared.change.Change.TheVariants.{NewAtom, NewResult, TakeOut, Exchange, PutIn}
use Rattle.ot_mend.specs.declared.edit.Edit.{Edit}
use Rattle.ot_mend.specs.declared.edit.Edit.TheVariants.{InBlock, AssumeSites, AssumeChars}
use Rattle.ot_mend.specs.Edits.{edited_of, new_guard_of, place_of}
use Rattle.ot_mend.specs.Members.{function_after}

-- an atom, and what an operation of this kind becomes, as they stand in the canonical text
abbrev pub atom_text : Atom → List ℕ
atom_text atom = spelled (atom_tokens atom)

abbrev pub result_text : Kind → Res → List ℕ
result_text kind res = spelled (result_tokens kind res)

-- a case whose first operation is of this kind, where there is one
abbrev pub case_text : Kind → Option GuardedCase → List ℕ
case_text kind None = []
case_text kind (Some c) = codes "case " ++ printed_case kind c

-- what becomes of the cases of a block whose first kind this is
abbrev pub change_text : Kind → List GuardedCase → Change → List ℕ
change_text kind cs (NewAtom i n from to) = atom_text from ++ codes " becomes " ++ atom_text to
change_text kind cs (NewResult i from to) = result_text kind from ++ codes " becomes " ++ result_text kind to
change_text kind cs (TakeOut i) = case_text kind (slice_get cs i) ++ codes " taken out"
change_text kind cs (Exchange i) = codes "changes places with " ++ decimal (suc i)
change_text kind cs (PutIn i guard res) = case_text kind (Some (when (new_guard_of guard) res)) ++ codes " put in"

-- an edit of a function: the kinds of the block, the number that the case has in this function, and what becomes of it
abbrev pub edit_text : Function → Edit → List ℕ
edit_text f (InBlock k l change) =
    spelled (Known (words.Kind k) ∷ Known (words.Kind l) ∷ []) ++ codes " " ++ decimal (place_of change) ++ codes ": "
    ++ change_text k (cases_of f k l) change
edit_text f AssumeSites = codes "assumes more: sites differ"
edit_text f AssumeChars = codes "assumes more: chars differ"

-- a comment
abbrev pub comment_line : List ℕ → List ℕ
comment_line text = codes "# " ++ text ++ 10 ∷ []

-- a line for each edit, of the function that the edits before it lead to
abbrev pub edit_lines : Function → List Edit → List ℕ
edit_lines f [] = []
edit_lines f (edit ∷ edits) = comment_line (edit_text f edit) ++ edit_lines (edited_of edit f) edits

-- the comment lines of a function that these edits lead to
abbrev pub comment_lines : Function → List Edit → List ℕ
comment_lines f [] = comment_line (codes "as it was")
comment_lines f (edit ∷ edits) = edit_lines f (edit ∷ edits)

-- the text of the function that edits of this one lead to
abbrev pub mended_text : Function → List Edit → List ℕ
mended_text f edits = comment_lines f edits ++ printed (function_after edits f)
