-- The one spelling of a certificate's parts, as bytes.
use Rattle.std.specs.Prelude.{ℕ, Bool, ◌||◌, if◌then◌else◌, List, [], ◌∷◌, ◌++◌, codes}
use Rattle.std.specs.List.{AllByRecursion, flat_map, list_any}
use Rattle.ot_model.specs.declared.op.Kind.{Kind}
use Rattle.ot_model.specs.declared.op.Kind.TheVariants.{Ins, Del, Upd}
use Rattle.ot_model.specs.Kinds.{is_same_kind}
use Rattle.fn_rules.specs.declared.function.Level.{Level}
use Rattle.fn_rules.specs.declared.function.Level.TheVariants.{Tp1, Tp2}
use Rattle.fn_rules.specs.declared.function.ObName.{ObName}
use Rattle.fn_rules.specs.declared.function.ObName.TheVariants.{Pair, Triple}
use Rattle.ask_core.specs.declared.tree.Tok.{Tok}
use Rattle.ask_core.specs.declared.tree.Tok.TheVariants as token
use Rattle.cert_text.specs.Numbers.{numbers_text, IsSpellableCycle}

-- a question is `?`, an end `.`, and a cycle `x`, its numbers, and `;`
abbrev pub token_text : Tok → List ℕ
token_text token.Ask = 63 ∷ []
token_text token.Holds = 46 ∷ []
token_text (token.Cycle picks) = 120 ∷ numbers_text picks ++ 59 ∷ []

-- the tokens of a tree, one after another
abbrev pub tokens_text : List Tok → List ℕ
tokens_text tokens = flat_map token_text tokens

-- the token has a spelling
abbrev pub IsSpellable : Tok → Type 0
IsSpellable token.Ask = Unit {0}
IsSpellable token.Holds = Unit {0}
IsSpellable (token.Cycle picks) = IsSpellableCycle picks

-- each token has one
abbrev pub AreSpellable : List Tok → Type 0
AreSpellable tokens = AllByRecursion IsSpellable tokens

abbrev pub kind_text : Kind → List ℕ
kind_text Ins = codes "ins"
kind_text Del = codes "del"
kind_text Upd = codes "upd"

abbrev pub level_text : Level → List ℕ
level_text Tp1 = codes "tp1"
level_text Tp2 = codes "tp2"

-- the obligation speaks of updates
abbrev pub has_update : ObName → Bool
has_update (Pair k l) = is_same_kind k Upd || is_same_kind l Upd
has_update (Triple k l m) = is_same_kind k Upd || is_same_kind l Upd || is_same_kind m Upd

-- the version of certificates: the second one where an obligation of the level speaks of updates
abbrev pub version_text : List ObName → List ℕ
version_text names = if list_any has_update names then codes "2" else codes "1"

-- the first line of a certificate of a level that has these obligations
abbrev pub header_text : List ObName → Level → List ℕ
header_text names level = codes "otcert " ++ version_text names ++ 32 ∷ level_text level ++ 10 ∷ []

-- the kinds of an obligation with one space between
abbrev pub name_text : ObName → List ℕ
name_text (Pair k l) = kind_text k ++ 32 ∷ kind_text l
name_text (Triple k l m) = kind_text k ++ 32 ∷ kind_text l ++ 32 ∷ kind_text m

-- the line before the tree of an obligation
abbrev pub ob_text : ObName → List ℕ
ob_text name = codes "ob " ++ name_text name ++ 10 ∷ []

-- the last line
abbrev pub end_text : List ℕ
end_text = codes "end" ++ 10 ∷ []
