-- The two languages of function files: their numbers, and the kinds for which they have words.
use Rattle.std.specs.Prelude.{ℕ, ◌==◌, Bool, true, not, ◌||◌, if◌then◌else◌, Option, Some, None}
use Rattle.std.specs.List.{list_all}
use Rattle.ot_model.specs.declared.op.Kind.{Kind}
use Rattle.ot_model.specs.declared.op.Kind.TheVariants.{Upd}
use Rattle.ot_model.specs.declared.op.TheConstants.{KINDS}
use Rattle.ot_model.specs.Kinds.{is_same_kind}
use Rattle.fn_rules.specs.declared.function.Head.{Head}
use Rattle.fn_rules.specs.Functions.{is_declared}
use Rattle.fn_tokens.specs.declared.language.Language.{Language}
use Rattle.fn_tokens.specs.declared.language.Language.TheVariants.{One, Two}

-- the language with this number
abbrev pub language_numbered : ℕ → Option Language
language_numbered n = if n == 1 then Some One else (if n == 2 then Some Two else None)

-- its number, which stands in the first line of a file
abbrev pub number_of : Language → ℕ
number_of One = 1
number_of Two = 2

-- the language has a word for the kind
abbrev pub has_word : Language → Kind → Bool
has_word One k = not (is_same_kind k Upd)
has_word Two k = true

-- it has a word for each kind that is declared
abbrev pub has_words : Language → Head → Bool
has_words language head = list_all (λ k. not (is_declared head k) || has_word language k) KINDS

-- the language of a function's canonical text: the first one that has
abbrev pub language_for : Head → Language
language_for head = if has_words One head then One else Two
