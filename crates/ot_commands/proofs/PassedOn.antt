-- An error that a call gives and `?` passes on.
use Rattle.std.proofs.Common.{◌≡◌, Result, Ok, Err, IsErrAnd, sym, ap, ◌∙◌}

pub passed_on :
    {T E : Type 0} (r : Result T E) (given told : E) → IsErrAnd r (λ e. e ≡ given) → r ≡ Err told
    → ◌≡◌ {A = Result T E} (Err given) (Err told)
passed_on (Ok v) given told is same = absurd is
passed_on (Err e) given told is same = ap (λ x. Err x) (sym is) ∙ same
