-- What the writers append.
use Rattle.std.specs.Prelude.{ℕ, List, [], ◌∷◌, ◌++◌}
use Rattle.fn_rules.specs.declared.function.ObName.{ObName}
use Rattle.ask_core.specs.declared.tree.Tok.{Tok}
use Rattle.cert_text.specs.Spelling.{ob_text, tokens_text}

-- an obligation's line, its tree, and a newline
abbrev pub section_text : ObName → List Tok → List ℕ
section_text name tokens = ob_text name ++ tokens_text tokens ++ 10 ∷ []
