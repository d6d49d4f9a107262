-- The one spelling of a proof's parts, as bytes.
use Rattle.std.specs.Prelude.{ℕ, ◌+◌, ◌<◌, ◌≤◌, ℤ, pos, negsuc, List, [], ◌∷◌, ◌++◌, length, codes}
use Rattle.std.specs.Fmt.{decimal}
use Rattle.std.specs.List.{AllByRecursion}
use Rattle.diff_graph.specs.declared.lit.Lit.{Lit}
use Rattle.fn_rules.specs.declared.function.Level.{Level}
use Rattle.ask_core.specs.declared.tree.Tok.{Tok}
use Rattle.ask_core.specs.declared.tree.Tok.TheVariants as tok
use Rattle.cert_text.specs.Numbers.{numbers_text, IsSpellableCycle}
use Rattle.cert_text.specs.Spelling.{level_text}
use Rattle.proof_trees.specs.declared.limits.TheConstants.{MAX_LITERALS}
use Rattle.proof_trees.specs.declared.token.ProofTok.{ProofTok}
use Rattle.proof_trees.specs.declared.token.ProofTok.TheVariants as token

-- an integer, after `-` where it is negative
abbrev pub offset_text : ℤ → List ℕ
offset_text (pos n) = decimal n
offset_text (negsuc n) = 45 ∷ decimal (n + 1)

-- a name and the comma after it
abbrev pub literal_name_text : ℕ → List ℕ
literal_name_text n = decimal n ++ 44 ∷ []

-- a literal: its names and its offset, with commas between
abbrev pub literal_text : Lit → List ℕ
literal_text l = literal_name_text l.x ++ (literal_name_text l.y ++ offset_text l.k)

-- further literals, each after `/`
abbrev pub more_literals_text : List Lit → List ℕ
more_literals_text [] = []
more_literals_text (l ∷ ls) = 47 ∷ literal_text l ++ more_literals_text ls

-- literals with `/` between them
abbrev pub literals_text : List Lit → List ℕ
literals_text [] = []
literals_text (l ∷ ls) = literal_text l ++ more_literals_text ls

-- a question is `?`, an end `.`; a cycle is `x`, its numbers and `;`, a lemma `l`, its literals and `;`, and a citation
-- `c`, its number and `;`
abbrev pub proof_token_text : ProofTok → List ℕ
proof_token_text token.Ask = 63 ∷ []
proof_token_text token.Holds = 46 ∷ []
proof_token_text (token.Cycle picks) = 120 ∷ numbers_text picks ++ 59 ∷ []
proof_token_text (token.Lemma ls) = 108 ∷ literals_text ls ++ 59 ∷ []
proof_token_text (token.Cite number) = 99 ∷ decimal number ++ 59 ∷ []

-- an offset has at most four digits
abbrev pub IsShortOffset : ℤ → Type 0
IsShortOffset (pos n) = n < 10000
IsShortOffset (negsuc n) = n + 1 < 10000

-- a literal has names of at most two digits and an offset of at most four
abbrev pub IsShortLiteral : Lit → Type 0
IsShortLiteral l = (l.x < 100) × (l.y < 100) × IsShortOffset l.k

-- the token has a spelling: a cycle has 1 to 12 numbers of at most five digits, a lemma at most 24 short literals, and
-- the number of a citation at most six digits
abbrev pub IsSpellableInProof : ProofTok → Type 0
IsSpellableInProof token.Ask = Unit {0}
IsSpellableInProof token.Holds = Unit {0}
IsSpellableInProof (token.Cycle picks) = IsSpellableCycle picks
IsSpellableInProof (token.Lemma ls) = (length ls ≤ MAX_LITERALS) × AllByRecursion IsShortLiteral ls
IsSpellableInProof (token.Cite number) = number < 1000000

-- the first line of a proof
abbrev pub proof_header_text : Level → List ℕ
proof_header_text level = codes "otproof 1 " ++ level_text level ++ 10 ∷ []

-- the newline after a tree
abbrev pub newline_text : List ℕ
newline_text = 10 ∷ []

-- a token of a certificate, as one of a proof
abbrev pub proof_token : Tok → ProofTok
proof_token tok.Ask = token.Ask
proof_token tok.Holds = token.Holds
proof_token (tok.Cycle picks) = token.Cycle picks
