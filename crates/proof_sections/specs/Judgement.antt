-- How the bytes of a proof are judged, part by part from the front. The plans of the obligations with their starts, and
-- how starts compare, are given. What is judged is how many bytes are left: those of all bytes that come after a part.
use Rattle.std.specs.Prelude.{◌≡◌, ℕ, ◌-◌, ◌<◌, ◌≤◌, zero, suc, List, [], ◌∷◌, length, drop, Result, Ok, Err}
use Rattle.fn_rules.specs.declared.function.Level.{Level}
use Rattle.fn_rules.specs.declared.function.ObName.{ObName}
use Rattle.cert_check.specs.declared.verdict.CheckError.TheVariants as check
use Rattle.cert_check.specs.declared.verdict.Progress.{Progress}
use Rattle.cert_check.specs.declared.verdict.Progress.TheVariants.{More, Done}
use Rattle.proof_trees.specs.Starts.{MarkedPlan, Comparison}
use Rattle.proof_trees.specs.Tokens.{Wanted, Tree}
use Rattle.proof_check.specs.declared.verdict.ProofError.{ProofError}
use Rattle.proof_check.specs.declared.verdict.ProofError.TheVariants as error
use Rattle.proof_check.specs.Steps.{Standing, after_proof_token}
use Rattle.proof_text.specs.declared.unread.Unread.{Unread}
use Rattle.proof_text.specs.declared.unread.Unread.TheVariants.{Misspelt, Cut}
use Rattle.proof_text.specs.Fronts.{Parsed, Found, Missing}
use Rattle.proof_text.specs.Lines.{header_front, ob_front, line_end_front, end_front}
use Rattle.proof_text.specs.Tokens.{token_front}
use Rattle.proof_sections.specs.declared.refusal.ProofRefusal.TheVariants as why
use Rattle.proof_sections.specs.declared.refusal.ConfirmError.{ConfirmError}
use Rattle.proof_sections.specs.declared.refusal.ConfirmError.TheVariants as confirm

-- where no part is read at an offset of so many bytes: by its spelling, or because the bytes end too early
abbrev pub unread_at : ℕ → ℕ → Unread → ConfirmError
unread_at total offset Misspelt = confirm.Refused offset why.Token
unread_at total offset Cut = confirm.Refused total why.Truncated

-- the refusal of a token at an offset
abbrev pub refused_at : ℕ → ProofError → ConfirmError
refused_at offset (error.Tree check.NotAQuestion) = confirm.Refused offset why.NotAQuestion
refused_at offset (error.Tree check.NotDone) = confirm.Refused offset why.NotDone
refused_at offset (error.Tree check.GoalFails) = confirm.Refused offset why.GoalFails
refused_at offset (error.Tree check.BadPick) = confirm.Refused offset why.BadPick
refused_at offset (error.Tree check.NotACycle) = confirm.Refused offset why.NotACycle
refused_at offset (error.Tree check.NotNegative) = confirm.Refused offset why.NotNegative
refused_at offset (error.Tree check.NoMemory) = confirm.NoMemory
refused_at offset error.NoStart = confirm.Refused offset why.NoStart
refused_at offset error.TooManyLemmas = confirm.Refused offset why.TooManyLemmas
refused_at offset error.UnknownLemma = confirm.Refused offset why.UnknownLemma
refused_at offset error.OtherStart = confirm.Refused offset why.OtherStart

-- what is judged after a part, where it stands at the front of the bytes that are left of so many
abbrev pub after_part :
    {A B : Type 0} → ℕ → List ℕ → Parsed A → (A → List ℕ → Result B ConfirmError) → Result B ConfirmError
after_part total left (Found a rest) next = next a rest
after_part total left (Missing unread) next = Err (unread_at total (total - length left) unread)

-- what is judged after what was accepted
abbrev pub and_then_judged : {A B : Type 0} → Result A ConfirmError → (A → Result B ConfirmError)
    → Result B ConfirmError
and_then_judged (Ok a) next = next a
and_then_judged (Err e) next = Err e

-- the tree has ended where nothing is wanted any more; else it goes on
abbrev pub ended_or : {S W : Type 0} → List (Wanted S W) → List ℕ → Result (List ℕ) ConfirmError
    → Result (List ℕ) ConfirmError
ended_or [] rest later = Ok rest
ended_or (x ∷ wanted) rest later = later

-- after a token at an offset, which is taken or refused
abbrev pub after_token :
    {S W : Type 0} → ℕ → List ℕ → (Standing S W → Result (List ℕ) ConfirmError) → Result (Standing S W) ProofError
    → Result (List ℕ) ConfirmError
after_token offset rest later (Ok next) = ended_or next.wanted rest (later next)
after_token offset rest later (Err e) = Err (refused_at offset e)

-- The tokens of a tree, of which something is wanted, and the bytes after the last one. A token has a byte at least, so
-- there are at most as many as bytes are left.
unfoldable pub tree_by :
    {S W : Type 0} → ℕ → Comparison S → ℕ → Standing S W → List ℕ → Result (List ℕ) ConfirmError
tree_by zero compare total at left = Err (confirm.Refused total why.Truncated)
tree_by (suc most) compare total at left =
    after_part total left (token_front left)
    (λ tok rest.
    after_token (total - length left) rest (λ next. tree_by most compare total next rest)
    (after_proof_token compare tok at.known at.wanted))

unfoldable pub tree_judged : {S W : Type 0} → Comparison S → ℕ → Standing S W → List ℕ → Result (List ℕ) ConfirmError
tree_judged compare total at left = tree_by (length left) compare total at left

-- a tree of the plan is wanted, under no literals, and no lemmas are known
abbrev pub opened_tree : {S W : Type 0} → MarkedPlan S W → Standing S W
opened_tree p = record { known = []; wanted = Tree p [] ∷ [] }

-- a line that is looked for at the front of the bytes that are left, and the bytes after it
abbrev pub line_judged : ℕ → (List ℕ → Parsed (Unit {0})) → List ℕ → Result (List ℕ) ConfirmError
line_judged total front left = after_part total left (front left) (λ line rest. Ok rest)

-- what a proof has for one obligation: its line, a tree and a newline
unfoldable pub section_judged :
    {S W : Type 0} → Comparison S → MarkedPlan S W → ObName → ℕ → List ℕ → Result (List ℕ) ConfirmError
section_judged compare p name total left =
    and_then_judged (line_judged total (ob_front name) left)
    (λ rest. and_then_judged (tree_judged compare total (opened_tree p) rest) (line_judged total line_end_front))

-- and for all obligations, in order
unfoldable pub sections_judged :
    {S W : Type 0} → Comparison S → (ObName → MarkedPlan S W) → List ObName → ℕ → List ℕ → Result (List ℕ) ConfirmError
sections_judged compare plan [] total left = Ok left
sections_judged compare plan (name ∷ names) total left =
    and_then_judged (section_judged compare (plan name) name total left) (sections_judged compare plan names total)

-- nothing stands after the last line
abbrev pub nothing_after : ℕ → List ℕ → Result (Unit {0}) ConfirmError
nothing_after total [] = Ok tt
nothing_after total (b ∷ rest) = Err (confirm.Refused (total - length (b ∷ rest)) why.Trailing)

-- the last line
unfoldable pub end_judged : ℕ → List ℕ → Result (Unit {0}) ConfirmError
end_judged total left = and_then_judged (line_judged total end_front left) (nothing_after total)

-- The judgement of bytes: the level of a proof, or the first refusal. The levels have these obligations, of which
-- each one has a plan with its starts.
unfoldable pub proof_judged :
    {S W : Type 0} → Comparison S → (ObName → MarkedPlan S W) → (Level → List ObName) → List ℕ
    → Result Level ConfirmError
proof_judged compare plan names bytes =
    after_part (length bytes) bytes (header_front bytes)
    (λ level rest.
    and_then_judged (sections_judged compare plan (names level) (length bytes) rest)
    (λ behind. and_then_judged (end_judged (length bytes) behind) (λ done. Ok level)))

-- a call answers so of the bytes from a place on, unless memory was wanting
abbrev pub Judges : List ℕ → Result (List ℕ) ConfirmError → Result ℕ ConfirmError → Type 0
Judges bytes judged (Ok at) = (at ≤ length bytes) × (judged ≡ Ok (drop at bytes))
Judges bytes judged (Err (confirm.Refused offset why)) = judged ≡ Err (confirm.Refused offset why)
Judges bytes judged (Err confirm.NoMemory) = Unit {0}

-- what is judged of some bytes leads to what is judged of those that are left of them: the tree goes on there, or has
-- ended
abbrev pub LeadsBehind : {S W : Type 0} → Comparison S → ℕ → Progress → Standing S W → List ℕ → Standing S W → List ℕ
    → Type 0
LeadsBehind compare total More old bytes new rest =
    tree_judged compare total old bytes ≡ tree_judged compare total new rest
LeadsBehind compare total Done old bytes new rest = tree_judged compare total old bytes ≡ Ok rest

-- a token at a place leads to another one
abbrev pub TokenLeadsTo : {S W : Type 0} → Comparison S → List ℕ → Progress → Standing S W → ℕ → Standing S W → ℕ
    → Type 0
TokenLeadsTo compare bytes p old at new next =
    LeadsBehind compare (length bytes) p old (drop at bytes) new (drop next bytes)

-- so do so many bytes at the front of some, whatever their number before that was
abbrev pub FrontLeadsTo : {S W : Type 0} → Comparison S → List ℕ → Progress → Standing S W → Standing S W → ℕ → Type 0
FrontLeadsTo compare bytes p old new len =
    (0 < len) × (len ≤ length bytes) × ((total : ℕ) → LeadsBehind compare total p old bytes new (drop len bytes))
