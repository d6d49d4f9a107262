-- Trees that fit plans within the limits can be spelled, and their spelling is short.
use Rattle.std.specs.Prelude.{true, false, option_and_then}
use Rattle.std.specs.Fmt.{decimal}
use Rattle.std.specs.List.{AllByRecursion}
use Rattle.std.proofs.Common.{◌≡◌, ℕ, ◌+◌, ◌*◌, ◌<◌, ◌≤◌, List, [], ◌∷◌, ◌++◌, length, Option, Some, None, Ok}
use Rattle.std.proofs.Common.{slice_get, arith, refl, ap}
use Rattle.std.proofs.lemmas.Fmt.{length-decimal-le}
use Rattle.std.proofs.lemmas.Grind.{flat_map-append}
use Rattle.std.proofs.lemmas.List.{append-nil}
use Rattle.std.proofs.lemmas.Option.{slice_get_within}
use Rattle.std.proofs.Math.ListN.{length-append}
use Rattle.diff_graph.specs.declared.lit.Lit.{Lit}
use Rattle.diff_graph.specs.Cycles.{picked, verdict_of_picked}
use Rattle.ask_core.specs.declared.tree.Tok.{Tok}
use Rattle.ask_core.specs.declared.tree.Tok.TheVariants as token
use Rattle.ask_core.specs.declared.asker.TheConstants.{MAX_QUESTIONS}
use Rattle.ask_core.specs.Plans.{Plan, Ask, Holds, Fails}
use Rattle.ask_core.specs.Askers.{longest_path}
use Rattle.ask_core.specs.Trees.{AnswerTree, Question, End, Impossible, Fits, tokens_of, with_answer}
use Rattle.cert_text.specs.Numbers.{more_numbers_text, numbers_text, AreShort, PICK_LIMIT}
use Rattle.cert_text.specs.Spelling.{IsSpellable, AreSpellable, token_text, tokens_text}
use Rattle.ot_prove.specs.Outcomes.{asked_along}

-- each number is below the bound
abbrev AreBelow : ℕ → List ℕ → Type 0
AreBelow bound picks = AllByRecursion (λ n. n < bound) picks

first_below :
    (w : List Lit) (n : ℕ) (at : Option Lit) (tail : Option (List Lit)) (lits : List Lit) (Later : Type 0)
    → slice_get w n ≡ at → ((ls : List Lit) → tail ≡ Some ls → Later)
    → option_and_then (λ (l : Lit). option_and_then (λ (ls : List Lit). Some (l ∷ ls)) tail) at ≡ Some lits
    → (n < length w) × Later
first_below w n None tail lits Later is later all = absurd (cc)
first_below w n (Some l) None lits Later is later all = absurd (cc)
first_below w n (Some l) (Some ls) lits Later is later all = (slice_get_within w n l is, later ls refl)

-- picks that name answers are below their count
picks_below : (w : List Lit) (picks : List ℕ) (lits : List Lit) → picked w picks ≡ Some lits → AreBelow (length w) picks
picks_below w [] lits are = tt
picks_below w (n ∷ ns) lits are =
    first_below w n (slice_get w n) (picked w ns) lits (AreBelow (length w) ns) refl
    (λ ls is. picks_below w ns ls is) are

named : (o : Option (List Lit)) → verdict_of_picked o ≡ Ok tt → (lits : List Lit) × (o ≡ Some lits)
named None negative = absurd (cc)
named (Some lits) negative = (lits, refl)

short_picks : (bound : ℕ) (picks : List ℕ) → bound ≤ MAX_QUESTIONS → AreBelow bound picks → AreShort picks
short_picks bound [] few below = tt
short_picks bound (n ∷ ns) few below = (omega (arith, below.0), short_picks bound ns few below.1)

both_spellable : (ts us : List Tok) → AreSpellable ts → AreSpellable us → AreSpellable (ts ++ us)
both_spellable [] us first second = second
both_spellable (t ∷ ts) us first second = (first.0, both_spellable ts us first.1 second)

one_more : (w : List Lit) (l : Lit) → length (w ++ l ∷ []) ≡ length w + 1
one_more w l = length-append w (l ∷ [])

digits_few : (n : ℕ) → n < PICK_LIMIT → length (decimal n) ≤ 5
digits_few n small = length-decimal-le 5 n (omega arith) (omega (arith, small)) (omega (arith, small))

-- the text of further numbers has at most six bytes a number
more_numbers_few : (ns : List ℕ) → AreShort ns → length (more_numbers_text ns) ≤ 6 * length ns
more_numbers_few [] short = omega arith
more_numbers_few (n ∷ ns) short =
    let digits = digits_few n short.0 in
    let later = more_numbers_few ns short.1 in
    let both : length (decimal n ++ more_numbers_text ns) ≡ length (decimal n) + length (more_numbers_text ns) =
    length-append (decimal n) (more_numbers_text ns) in
    omega arith

numbers_few : (picks : List ℕ) → 1 ≤ length picks → length picks ≤ 12 → AreShort picks
    → length (numbers_text picks) ≤ 71
numbers_few [] some few short = omega arith
numbers_few (n ∷ ns) some few short =
    let digits = digits_few n short.0 in
    let later = more_numbers_few ns short.1 in
    let both : length (decimal n ++ more_numbers_text ns) ≡ length (decimal n) + length (more_numbers_text ns) =
    length-append (decimal n) (more_numbers_text ns) in
    omega arith

-- a cycle has at most 73 bytes
pub cycle_few : (picks : List ℕ) → IsSpellable (token.Cycle picks) → length (token_text (token.Cycle picks)) ≤ 73
cycle_few picks spellable =
    let numbers = numbers_few picks spellable.0 spellable.1 spellable.2 in
    let closed : length (numbers_text picks ++ 59 ∷ []) ≡ length (numbers_text picks) + 1 =
    length-append (numbers_text picks) (59 ∷ []) in
    omega arith

pub left_spellable : (ts us : List Tok) → AreSpellable (ts ++ us) → AreSpellable ts
left_spellable [] us all = tt
left_spellable (t ∷ ts) us all = (all.0, left_spellable ts us all.1)

pub right_spellable : (ts us : List Tok) → AreSpellable (ts ++ us) → AreSpellable us
right_spellable [] us all = all
right_spellable (t ∷ ts) us all = right_spellable ts us all.1

-- what the two parts of a question are spelled by, one after the other
question_text :
    (ts us : List Tok)
    → length (tokens_text (token.Ask ∷ (ts ++ us))) ≡ 1 + (length (tokens_text ts) + length (tokens_text us))
question_text ts us =
    let parts : length (tokens_text (ts ++ us)) ≡ length (tokens_text ts ++ tokens_text us) =
    ap length (flat_map-append token_text ts us) in
    let both : length (tokens_text ts ++ tokens_text us) ≡ length (tokens_text ts) + length (tokens_text us) =
    length-append (tokens_text ts) (tokens_text us) in
    omega arith

module _ {W : Type 0} where
  -- a tree that fits can be spelled: its picks are below the number of answers
  spelled :
      (t : AnswerTree) (p : Plan W) (w : List Lit) → length w + longest_path p ≤ MAX_QUESTIONS → Fits t p w
      → AreSpellable (tokens_of t)
  spelled (Question t u) (Ask l on_yes on_no) w short fits =
      let yes : length (with_answer w l true) + longest_path on_yes ≤ MAX_QUESTIONS =
      omega (arith, length-append {A = Lit}) in
      let no : length (with_answer w l false) + longest_path on_no ≤ MAX_QUESTIONS =
      omega (arith, length-append {A = Lit}) in (
        tt,
        both_spellable (tokens_of t) (tokens_of u) (spelled t on_yes (with_answer w l true) yes fits.0)
            (spelled u on_no (with_answer w l false) no fits.1),
      )
  spelled (Question t u) Holds w short fits = absurd fits
  spelled (Question t u) (Fails why) w short fits = absurd fits
  spelled End p w short fits = (tt, tt)
  spelled (Impossible picks) p w short fits =
      let lits = named (picked w picks) fits.2 in (
        (
          fits.0,
          fits.1,
          short_picks (length w) picks (omega arith) (picks_below w picks lits.0 lits.1),
        ),
        tt,
      )

  pub whole_spelled :
      (t : AnswerTree) (p : Plan W) → longest_path p ≤ MAX_QUESTIONS → Fits t p [] → AreSpellable (tokens_of t)
  whole_spelled t p short fits = spelled t p [] (omega (arith, short)) fits

  -- a tree has a byte a question and at most 73 bytes an end, and it has one end more than questions
  pub tree_text_few :
      (t : AnswerTree) (p : Plan W) (w : List Lit) → Fits t p w → AreSpellable (tokens_of t)
      → length (tokens_text (tokens_of t)) ≤ 74 * length (asked_along t p w) + 73
  tree_text_few (Question t u) (Ask l on_yes on_no) w fits spellable =
      let yes = tree_text_few t on_yes (with_answer w l true) fits.0
      (left_spellable (tokens_of t) (tokens_of u) spellable.1) in
      let no = tree_text_few u on_no (with_answer w l false) fits.1
      (right_spellable (tokens_of t) (tokens_of u) spellable.1) in
      let text = question_text (tokens_of t) (tokens_of u) in
      let asked :
      length (asked_along t on_yes (with_answer w l true) ++ asked_along u on_no (with_answer w l false))
      ≡ length (asked_along t on_yes (with_answer w l true)) + length (asked_along u on_no (with_answer w l false)) =
      length-append (asked_along t on_yes (with_answer w l true)) (asked_along u on_no (with_answer w l false)) in
      omega arith
  tree_text_few (Question t u) Holds w fits spellable = absurd fits
  tree_text_few (Question t u) (Fails why) w fits spellable = absurd fits
  tree_text_few End p w fits spellable = omega arith
  tree_text_few (Impossible picks) p w fits spellable =
      let few = cycle_few picks spellable.0 in
      let alone : length (tokens_text (token.Cycle picks ∷ [])) ≡ length (token_text (token.Cycle picks)) =
      ap length (append-nil (token_text (token.Cycle picks))) in
      omega arith
