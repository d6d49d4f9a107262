-- How large the trees of a certificate are.
use Rattle.std.specs.Prelude.{ℕ, ◌+◌, ◌≤◌, List, [], ◌∷◌, length}
use Rattle.std.specs.List.{AllByRecursion}
use Rattle.ask_core.specs.declared.tree.Tok.TheVariants as token
use Rattle.ask_core.specs.Trees.{AnswerTree, Question, End, Impossible}
use Rattle.cert_text.specs.Spelling.{token_text}

-- how many leaves a tree has: ends, and cycles
abbrev pub leaf_count : AnswerTree → ℕ
leaf_count (Question t u) = leaf_count t + leaf_count u
leaf_count End = 1
leaf_count (Impossible picks) = 1

-- how many the trees have together
abbrev pub leaves_in : List AnswerTree → ℕ
leaves_in [] = 0
leaves_in (t ∷ trees) = leaf_count t + leaves_in trees

-- each leaf is spelled in at most so many bytes
abbrev pub HasShortLeaves : ℕ → AnswerTree → Type 0
HasShortLeaves limit (Question t u) = HasShortLeaves limit t × HasShortLeaves limit u
HasShortLeaves limit End = length (token_text token.Holds) ≤ limit
HasShortLeaves limit (Impossible picks) = length (token_text (token.Cycle picks)) ≤ limit

-- the trees have at most so many leaves, each of at most so many bytes
abbrev pub HaveFewLeaves : ℕ → ℕ → List AnswerTree → Type 0
HaveFewLeaves most limit trees = (leaves_in trees ≤ most) × AllByRecursion (HasShortLeaves limit) trees
