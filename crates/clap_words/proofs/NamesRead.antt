-- What is read, from what clap finds.
use Rattle.std.proofs.Common.{◌≡◌, ◌≢◌, ℕ, List, [], ◌∷◌, Some, None, refl, sym, ap, ◌∙◌, inl, inr}
use Rattle.clap.specs.declared.error.Error.{Error}
use Rattle.clap.specs.declared.error.kind.ErrorKind.TheVariants.{OutOfMemory}
use Rattle.clap.specs.Words.{HasKind, kind_of, App, Kinds, Row, matches_of, fault_of}
use Rattle.clap_words.specs.Found.{found_by, unless_refused}

unless_refused-none : (kinds : Kinds) (rows : List Row) → kinds ≢ [] → unless_refused kinds rows ≡ None
unless_refused-none [] rows some = absurd (some refl)
unless_refused-none (kind ∷ kinds) rows some = refl

pub found_by-refused : (app : App) (words : List (List ℕ)) → fault_of app words ≢ [] → found_by app words ≡ None
unfolding found_by
found_by-refused app words some = unless_refused-none (fault_of app words) (matches_of app words) some

pub found_by-taken : (app : App) (words : List (List ℕ)) (rows : List Row) → fault_of app words ≡ []
    → rows ≡ matches_of app words
    → Some rows ≡ found_by app words
unfolding found_by
found_by-taken app words rows none found =
    ap (λ (found : List Row). Some found) found
    ∙ ap (λ (kinds : Kinds). unless_refused kinds (matches_of app words)) (sym none)

-- where no other kind can come, an error is want of memory
pub only_memory : (kinds : Kinds) (e : Error) → kinds ≡ [] → HasKind kinds e → kind_of e ≡ OutOfMemory
only_memory [] e none (inl memory) = memory
only_memory [] e none (inr other) = absurd other
only_memory (kind ∷ kinds) e none h = cc
