-- The words of the languages, and the letters by which they are written.
use Rattle.std.specs.Prelude.{ℕ, if◌then◌else◌, List, [], ◌∷◌, codes}
use Rattle.std.specs.Str.{bytes_eq}
use Rattle.ot_model.specs.declared.op.Mode.TheVariants.{Plain, Tomb}
use Rattle.ot_model.specs.declared.op.Kind.TheVariants as kinds
use Rattle.fn_rules.specs.declared.guard.Sort.TheVariants.{Pos, Site, Char}
use Rattle.fn_rules.specs.declared.guard.Side.TheVariants.{First, Second}
use Rattle.fn_tokens.specs.declared.token.Word.{Word}
use Rattle.fn_tokens.specs.declared.token.Word.TheVariants.{Otfn, Text, Mode, Kinds, Kind, Assume, Sites, Chars, Differ}
use Rattle.fn_tokens.specs.declared.token.Word.TheVariants.{Block, Case, And, Or, Not, True, Thing, Nop, End}
use Rattle.fn_tokens.specs.declared.token.Token.{Token}
use Rattle.fn_tokens.specs.declared.token.Token.TheVariants.{Unknown, Known}

-- the letters of a word
abbrev pub spelling_of : Word → List ℕ
spelling_of Otfn = codes "otfn"
spelling_of Text = codes "text"
spelling_of (Mode Plain) = codes "plain"
spelling_of (Mode Tomb) = codes "tomb"
spelling_of Kinds = codes "kinds"
spelling_of (Kind kinds.Ins) = codes "ins"
spelling_of (Kind kinds.Del) = codes "del"
spelling_of (Kind kinds.Upd) = codes "upd"
spelling_of Assume = codes "assume"
spelling_of Sites = codes "sites"
spelling_of Chars = codes "chars"
spelling_of Differ = codes "differ"
spelling_of Block = codes "block"
spelling_of Case = codes "case"
spelling_of And = codes "and"
spelling_of Or = codes "or"
spelling_of Not = codes "not"
spelling_of True = codes "true"
spelling_of (Thing Pos First) = codes "p1"
spelling_of (Thing Pos Second) = codes "p2"
spelling_of (Thing Site First) = codes "s1"
spelling_of (Thing Site Second) = codes "s2"
spelling_of (Thing Char First) = codes "c1"
spelling_of (Thing Char Second) = codes "c2"
spelling_of Nop = codes "nop"
spelling_of End = codes "end"

-- the words of the languages
abbrev pub all_words : List Word
all_words =
    Thing Pos First ∷ Thing Pos Second ∷ And ∷ Or ∷ Thing Site First ∷ Thing Site Second ∷ Case
    ∷ Thing Char First ∷ Thing Char Second ∷ Not ∷ Nop ∷ True
    ∷ Block ∷ Kind kinds.Ins ∷ Kind kinds.Del ∷ Kind kinds.Upd
    ∷ Otfn ∷ Text ∷ Mode Plain ∷ Mode Tomb ∷ Kinds ∷ Assume ∷ Sites ∷ Chars ∷ Differ ∷ End ∷ []

-- the first of the words that is spelled so, as a token
abbrev pub known_among : List Word → List ℕ → Token
known_among [] letters = Unknown
known_among (word ∷ words) letters =
    if bytes_eq (spelling_of word) letters then Known word else known_among words letters

-- the token that letters and digits make
unfoldable pub word_token : List ℕ → Token
word_token letters = known_among all_words letters
