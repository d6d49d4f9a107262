-- Pieces that are appended to bytes one after another.
use Rattle.std.proofs.Common.{◌≡◌, ℕ, ◌+◌, List, ◌++◌, take, drop, append_assoc}
use Rattle.std.proofs.Math.Seq.{take-add}

-- after the bytes before i, the next n bytes
pub append-take :
    (before between after bytes : List ℕ) (i n : ℕ) → between ≡ before ++ take i bytes
    → after ≡ between ++ take n (drop i bytes) → after ≡ before ++ take (i + n) bytes
append-take before between after bytes i n e f =
    rw (f, e, append_assoc before (take i bytes) (take n (drop i bytes)), take-add i n bytes)
