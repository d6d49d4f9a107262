-- The lines of an accepted certificate and of a confirmed proof, in ASCII.
use Rattle.std.specs.Prelude.{ℕ, List, [], ◌∷◌, ◌++◌, codes}
use Rattle.fn_rules.specs.declared.function.Level.{Level}
use Rattle.cert_text.specs.Spelling.{level_text}

-- that a certificate is accepted at a level
abbrev pub accepted_text : Level → List ℕ
accepted_text level = codes "accepted " ++ level_text level ++ 10 ∷ []

-- that a proof is confirmed at a level
abbrev pub confirmed_text : Level → List ℕ
confirmed_text level = codes "confirmed " ++ level_text level ++ 10 ∷ []
