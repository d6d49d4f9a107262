-- A file with a wrong word in a case and a second block behind it: the fault is the word, and no other one is a fault
-- of the file.
use Rattle.std.proofs.Common.{◌≡◌, ℕ, List, [], ◌∷◌, ◌++◌, Result, Ok, Err, refl, ap, arith}
use Rattle.std.specs.Prelude.{codes}
use Rattle.fn_tokens.specs.Words.{word_token}
use Rattle.fn_tokens.specs.Tokens.{front_of, tokens_in}
use Rattle.fn_rules.specs.declared.function.Head.{Head}
use Rattle.fn_rules.specs.Building.{PairCases}
use Rattle.fn_tokens.specs.declared.fault.TextFault.{TextFault}
use Rattle.fn_tokens.specs.declared.fault.FaultKind.TheVariants as faults
use Rattle.fn_tokens.specs.Kinds.{has_seen}
use Rattle.fn_tokens.specs.Meaning.{to_formulas}
use Rattle.fn_text.specs.Reader.{read_from, first_state}
use Rattle.fn_text.specs.Refusals.{IsRefusedFor}
use Rattle.fn_text.proofs.Refusals.Told.{refused_is_read}

abbrev newline : List ℕ
newline = 10 ∷ []

abbrev block : List ℕ
block = codes "block ins ins" ++ newline

abbrev text : List ℕ
text =
    codes "otfn 1" ++ newline ++ codes "text plain" ++ newline ++ codes "kinds ins" ++ newline ++ block
    ++ codes "case true : zap" ++ newline ++ block ++ codes "end" ++ newline

abbrev wrong_word : TextFault
wrong_word = record { line = 5; column = 13; kind = faults.Word }

-- the fault of the file
word_is_read : read_from to_formulas (first_state to_formulas) (tokens_in text) ≡ Err wrong_word
unfolding front_of word_token has_seen
word_is_read = refl

one_fault : (read : Result (Head × List PairCases) TextFault) (one other : TextFault) → read ≡ Err one →
    read ≡ Err other → one ≡ other
one_fault (Ok parts) one other e f = absurd (cc)
one_fault (Err fault) one other e f = cc

only_word : (fault : TextFault) → IsRefusedFor (tokens_in text) fault → wrong_word ≡ fault
only_word fault refused = one_fault _ wrong_word fault word_is_read (refused_is_read (tokens_in text) fault refused)

not_later : (line : ℕ) → line ≡ 5 → line ≡ 6 → ⊥
not_later line five six = omega (arith, five, six)

-- the second block is no fault of it
second_block_is_no_fault : ¬ (IsRefusedFor (tokens_in text) (record { line = 6; column = 1; kind = faults.Double }))
second_block_is_no_fault refused = not_later _ refl (ap (λ fault. fault.line) (only_word _ refused))

-- nor is its first kind
first_kind_is_no_fault : ¬ (IsRefusedFor (tokens_in text) (record { line = 6; column = 7; kind = faults.Expected }))
first_kind_is_no_fault refused = not_later _ refl (ap (λ fault. fault.line) (only_word _ refused))
