use Rattle.std.proofs.Common.{◌≡◌, ℕ, ◌+◌, ◌*◌, ◌<◌, ◌≤◌, ◌^◌, ◌++◌, List, length, vec_len, vec_capacity}
use Rattle.std.specs.List.{AllByRecursion}
use Rattle.cert_text.specs.Numbers.{more_numbers_text}
use Rattle.cert_text.proofs.writer.put_more_numbers.Given as goal

-- some numbers were put, and there is room for the others
abbrev pub invariant-loop-number : goal.invariant-loop-number
invariant-loop-number g l =
    (written : List ℕ) × (g.C.CycleNumbers.left l.fn.numbers ≡ written ++ g.C.CycleNumbers.left l.left)
    × (l.out.items ≡ l.fn.out.items ++ more_numbers_text written) × AllByRecursion (λ n. n < 2 ^ 32) written
    × (vec_len l.out + 11 * length (g.C.CycleNumbers.left l.left) + 1 ≤ vec_capacity l.out)

abbrev pub decreases-loop-number : goal.decreases-loop-number
decreases-loop-number g l = length (g.C.CycleNumbers.left l.left)
