-- Rows of trees that are kept as their text: the tokens that are read of it.
use Rattle.std.specs.Prelude.{◌≡◌, [], ◌∷◌, codes, refl}
use Rattle.ask_core.specs.declared.tree.Tok.TheVariants as token
use Rattle.cert_text.specs.TreeTexts.{tokens_read, tree_at}

-- a question, two cycles and an end
tokens_read-each_kind :
    tokens_read (codes "?x11,4;x70;.")
    ≡ token.Ask ∷ token.Cycle (11 ∷ 4 ∷ []) ∷ token.Cycle (70 ∷ []) ∷ token.Holds ∷ []
tokens_read-each_kind = refl

-- what stands before a tree is no part of it
tree_at-behind_a_line :
    tree_at 3 (codes "ob?..") ≡ record { front = codes "ob?"; tokens = token.Holds ∷ token.Holds ∷ [] }
tree_at-behind_a_line = refl
