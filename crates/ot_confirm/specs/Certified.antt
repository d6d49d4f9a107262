-- The bytes of a certificate under the first line of a proof.
use Rattle.std.specs.Prelude.{ℕ, nat_eq, if◌then◌else◌, List, [], ◌∷◌, ◌++◌}
use Rattle.fn_rules.specs.declared.function.Level.{Level}
use Rattle.proof_text.specs.Spelling.{proof_header_text}

-- what comes after the first line
abbrev pub after_first_line : List ℕ → List ℕ
after_first_line [] = []
after_first_line (b ∷ bytes) = if nat_eq b 10 then bytes else after_first_line bytes

-- the bytes with the first line of a proof of the level in place of their own
abbrev pub under_proof_header : Level → List ℕ → List ℕ
under_proof_header level bytes = proof_header_text level ++ after_first_line bytes
