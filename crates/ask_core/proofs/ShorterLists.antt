-- A question list is shorter than 2 to the number of questions on the longest path: by induction on the
-- plan, since a question has fewer before the answer yes, fewer before no, and itself.
use Rattle.std.proofs.Common.{◌≡◌, ℕ, suc, ◌+◌, ◌^◌, ◌<◌, ◌≤◌, max, true, false, List, length, Option, Some, None}
use Rattle.std.proofs.Common.{MatchOption, ap, subst, inl, inr, arith, lit<}
use Rattle.std.proofs.Math.Nat.{two-pow-succ, one-le-pow, pow-le-pow_right}
use Rattle.std.proofs.lemmas.List.{length-append}
use Rattle.diff_graph.specs.declared.lit.Lit.{Lit}
use Rattle.ask_core.specs.Plans.{Plan, Ask, Holds, Fails}
use Rattle.ask_core.specs.Askers.{longest_path}
use Rattle.ask_core.specs.Trees.{with_answer}
use Rattle.ask_core.specs.Questions.{Questions, FailingEnd, QuestionList, asked_with_yes, asked_with_both}

some_power : (k : ℕ) → 0 < 2 ^ k
some_power k =
    let one : 1 ≤ 2 ^ k = one-le-pow k 2 (lit< tt) in
    omega arith

-- the questions of two parts and the one before them
parts_are_shorter : (y n a b : ℕ) → y < 2 ^ a → n < 2 ^ b → suc (y + n) < 2 ^ (1 + max a b)
parts_are_shorter y n a b hy hn =
    let of_yes : 2 ^ a ≤ 2 ^ max a b = pow-le-pow_right {n = 2} (lit< tt) {i = a} {j = max a b} (omega arith) in
    let of_no : 2 ^ b ≤ 2 ^ max a b = pow-le-pow_right {n = 2} (lit< tt) {i = b} {j = max a b} (omega arith) in
    let next : suc (max a b) ≡ 1 + max a b = omega arith in
    let doubled : 2 ^ suc (max a b) ≡ 2 ^ max a b + 2 ^ max a b = two-pow-succ (max a b) in
    subst (λ (k : ℕ). suc (y + n) < 2 ^ k) next (omega arith)

module _ {W : Type 0} where
  -- the same of their lists, of which that for no is left out behind a failing end
  joined_is_shorter :
      (w : List Lit) (y q : Questions W) (IsNoPart : Questions W → Type 0) (a b : ℕ) (failing : Option (FailingEnd W))
      → length y.asked < 2 ^ a → ((n : Questions W) → IsNoPart n → length n.asked < 2 ^ b)
      → MatchOption failing ((n : Questions W) × IsNoPart n × (q ≡ asked_with_both w y n)) (λ _. q ≡ asked_with_yes w y)
      → length q.asked < 2 ^ (1 + max a b)
  joined_is_shorter w y q IsNoPart a b None of_yes of_no (n, is_no, is) =
      let whole = parts_are_shorter (length y.asked) (length n.asked) a b of_yes (of_no n is_no) in
      omega (arith, ap (λ (x : Questions W). length x.asked) is, length-append y.asked n.asked)
  joined_is_shorter w y q IsNoPart a b (Some end) of_yes of_no is =
      let whole = parts_are_shorter (length y.asked) 0 a b of_yes (some_power b) in
      omega (arith, ap (λ (x : Questions W). length x.asked) is)

  -- a question list is shorter than 2 to the number of questions on the longest path
  pub list_is_shorter :
      (p : Plan W) (w : List Lit) (q : Questions W) → QuestionList p w q → length q.asked < 2 ^ longest_path p
  list_is_shorter (Ask l on_yes on_no) w q (inl none) =
      let some = some_power (longest_path (Ask l on_yes on_no)) in
      omega (arith, ap (λ (x : Questions W). length x.asked) none.1)
  list_is_shorter (Ask l on_yes on_no) w q (inr (possible, (y, of_y, joins))) =
      joined_is_shorter w y q (QuestionList on_no (with_answer w l false)) (longest_path on_yes) (longest_path on_no)
      y.failing (list_is_shorter on_yes (with_answer w l true) y of_y)
      (λ n of_n. list_is_shorter on_no (with_answer w l false) n of_n) joins
  list_is_shorter Holds w q is =
      let some = some_power 0 in
      omega (arith, ap (λ (x : Questions W). length x.asked) is)
  list_is_shorter (Fails why) w q (inl none) =
      let some = some_power 0 in
      omega (arith, ap (λ (x : Questions W). length x.asked) none.1)
  list_is_shorter (Fails why) w q (inr fails) =
      let some = some_power 0 in
      omega (arith, ap (λ (x : Questions W). length x.asked) fails.1)
