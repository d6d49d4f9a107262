-- What words ask for is within its bounds.
use Rattle.std.proofs.Common.{◌≡◌, ℕ, ◌≤◌, ◌<◌, ◌^◌, Bool, true, false, ◌||◌, List, [], ◌∷◌, Option, Some, None, refl}
use Rattle.std.proofs.Common.{ap, subst, cond}
use Rattle.std.specs.Prelude.{option_map, option_and_then, codes}
use Rattle.std.specs.List.{list_any}
use Rattle.std.specs.Str.{bytes_eq}
use Rattle.std.specs.Str.Parse.{IsNumeral, digits_value, without_leading_plus}
use Rattle.clap.proofs.ValueTestLemmas.{Accepts-accepts, accepts-Accepts}
use Rattle.clap.specs.ValueTests.{is_unsigned_in}
use Rattle.clap.specs.Words.{Row, first_of}
use Rattle.clap.specs.declared.builder.value_parser.ValueParser.TheVariants.{Unsigned}
use Rattle.ot_model.specs.declared.op.Kind.{Kind}
use Rattle.ot_model.specs.declared.op.Kind.TheVariants as kinds
use Rattle.ot_model.specs.declared.op.Mode.{Mode}
use Rattle.ot_model.specs.declared.op.TheConstants.{KINDS}
use Rattle.fn_rules.specs.declared.function.Head.{Head}
use Rattle.fn_rules.specs.declared.function.Level.{Level}
use Rattle.fn_rules.specs.Functions.{is_declared}
use Rattle.fn_rules.specs.declared.limits.TheConstants.{MOST_ROUNDS}
use Rattle.ot_words.specs.Commands.{Asked, Prove, Settle, Check, Integrate, Replay, Hub, Audit, Same, Reverse, Least}
use Rattle.ot_words.specs.Commands.{Bound, Confirm, Template, Drill, Explain, Mend, Trace}
use Rattle.ot_words.specs.declared.command.TraceKind.{TraceKind}
use Rattle.clap_words.specs.Found.{found_by}
use Rattle.ot_words.specs.Words.{IsWithinBounds, asked_by, audit_in, deciding_app, decision_by, decision_in, drill_app}
use Rattle.ot_words.specs.Words.{drill_by, drill_in, explain_by, explain_in, flagged_app, is_given, least_by, least_in}
use Rattle.ot_words.specs.Words.{level_by, most_questions, most_settling_questions, name_by, names_by, number_by}
use Rattle.ot_words.specs.Words.{of_two, prove_in, settle_in, trace_app, trace_by, trace_in, trace_kind, two_in}
use Rattle.ot_words.specs.Words.{values_in, head_in, kind_named, mode_named, no_kinds, template_app, template_by}
use Rattle.ot_words.specs.Words.{mend_app, mend_by, mend_in, most_edits, most_members}
use Rattle.ot_words.specs.Words.{template_in, with_further, with_kind, with_named, with_new}

number_within : (most : ℕ) (text : List ℕ) (n : ℕ) → number_by most text ≡ Some n → n ≤ most
number_within most text n is = go (is_unsigned_in 1 most text) refl is
  where
    go : (test : Bool) → is_unsigned_in 1 most text ≡ test
        → cond test (Some (digits_value 10 (without_leading_plus text))) None ≡ Some n → n ≤ most
    go true passed some =
        let number : digits_value 10 (without_leading_plus text) ≡ n = cc in
        subst (λ (m : ℕ). m ≤ most) number (accepts-Accepts false (Unsigned 1 most) text passed).3
    go false passed some = absurd (cc)

where_passed : (test : Bool) (n value : ℕ) → test ≡ true → n ≡ value → Some n ≡ cond test (Some value) None
where_passed true n value passed is = ap (λ x. Some x) is
where_passed false n value passed is = absurd (cc)

where_not_passed : (test : Bool) (value : ℕ) → (test ≡ true → ⊥) → None ≡ cond test (Some value) None
where_not_passed true value refused = absurd (refused refl)
where_not_passed false value refused = refl

-- a number of 64 bits that is within the bounds is taken
pub is_taken :
    (most : ℕ) (text : List ℕ) (n : ℕ) → IsNumeral 10 (without_leading_plus text)
    → digits_value 10 (without_leading_plus text) < 2 ^ 64
    → n ≡ digits_value 10 (without_leading_plus text) → 1 ≤ n → n ≤ most
    → Some n ≡ number_by most text
is_taken most text n numeral small is some few =
    let value : ℕ = digits_value 10 (without_leading_plus text) in
    where_passed (is_unsigned_in 1 most text) n value
    (Accepts-accepts false (Unsigned 1 most) text
    (numeral, small, subst (λ (k : ℕ). 1 ≤ k) is some, subst (λ (k : ℕ). k ≤ most) is few)) is

-- a text that is no number of 64 bits is refused
pub is_refused :
    (most : ℕ) (text : List ℕ)
    → (IsNumeral 10 (without_leading_plus text) → digits_value 10 (without_leading_plus text) < 2 ^ 64 → ⊥)
    → None ≡ number_by most text
is_refused most text no_number =
    where_not_passed (is_unsigned_in 1 most text) (digits_value 10 (without_leading_plus text))
    (λ passed. let read = accepts-Accepts false (Unsigned 1 most) text passed in no_number read.0 read.1)

found_within :
    (most : ℕ) (text : Option (List ℕ)) (n : ℕ) → option_and_then (number_by most) text ≡ Some n → n ≤ most
found_within most None n is = absurd (cc)
found_within most (Some text) n is = number_within most text n is

-- what was found, if something was, is within its bounds
abbrev IsWithin : Option Asked → Type 0
IsWithin found = (asked : Asked) → found ≡ Some asked → IsWithinBounds asked

none_is_within : IsWithin None
none_is_within asked is = absurd (cc)

some_is_within : (asked : Asked) → IsWithinBounds asked → IsWithin (Some asked)
some_is_within asked within other is =
    let same : asked ≡ other = cc in subst (λ (a : Asked). IsWithinBounds a) same within

one_of : (test : Bool) (one other : Option Asked) → IsWithin one → IsWithin other → IsWithin (cond test one other)
one_of true one other first second = first
one_of false one other first second = second

names_are_within :
    {X : Type 0} (command : X → Asked) → ((x : X) → IsWithinBounds (command x)) → (names : Option X)
    → IsWithin (option_map command names)
names_are_within command free None = none_is_within
names_are_within command free (Some n) = some_is_within (command n) (free n)

-- a command of two files has no number
module _ (name : List ℕ) where
  named :
      (command : List ℕ) (asked : Asked) (other : Option Asked) → IsWithinBounds asked → IsWithin other
      → IsWithin (cond (bytes_eq name command) (Some asked) other)
  named command asked other free = one_of (bytes_eq name command) (Some asked) other (some_is_within asked free)

  twos_are_within : (files : Option (List ℕ × List ℕ)) → IsWithin (option_and_then (of_two name) files)
  twos_are_within None = none_is_within
  twos_are_within (Some f) =
      named (codes "check") (Check f.0 f.1) _ tt
      (named (codes "integrate") (Integrate f.0 f.1) _ tt
      (named (codes "replay") (Replay f.0 f.1) _ tt
      (named (codes "hub") (Hub f.0 f.1) _ tt
      (named (codes "same") (Same f.0 f.1) _ tt
      (named (codes "reverse") (Reverse f.0 f.1) _ tt
      (named (codes "bound") (Bound f.0 f.1) _ tt
      (named (codes "confirm") (Confirm f.0 f.1) None tt none_is_within)))))))

-- a command that decides a function is within its bounds where the budget that is found is
module _ (most : ℕ) (Asks : Level → ℕ → List ℕ → Asked)
    (within : (level : Level) (b : ℕ) (name : List ℕ) → b ≤ most → IsWithinBounds (Asks level b name)) where
  asked_is_within :
      (level : Level) (budget : Option ℕ) (file : Option (List ℕ)) → ((b : ℕ) → budget ≡ Some b → b ≤ most)
      → IsWithin (option_map (λ (found : Level × ℕ × List ℕ). Asks found.0 found.1 found.2)
      (option_and_then (λ b. option_map (λ name. (level, b, name)) file) budget))
  asked_is_within level None file few = none_is_within
  asked_is_within level (Some b) None few = none_is_within
  asked_is_within level (Some b) (Some name) few = some_is_within (Asks level b name) (within level b name (few b refl))

  -- what a deciding command asks for is within its bounds
  decisions_are_within :
      (name otherwise : List ℕ) (words : List (List ℕ))
      → IsWithin (option_map (λ (found : Level × ℕ × List ℕ). Asks found.0 found.1 found.2)
      (decision_by name most otherwise words))
  unfolding decision_by
  decisions_are_within name otherwise words = go (found_by (deciding_app name most otherwise) words)
    where
      go : (found : Option (List Row))
          → IsWithin (option_map (λ (d : Level × ℕ × List ℕ). Asks d.0 d.1 d.2)
          (option_and_then (decision_in most) found))
      go None = none_is_within
      go (Some rows) =
          asked_is_within (level_by (first_of (codes "tp1") rows))
          (option_and_then (number_by most) (first_of (codes "budget") rows))
          (first_of (codes "function") rows) (found_within most (first_of (codes "budget") rows))

mend_is_within :
    (edits : Option ℕ) (level : Level) (budget : Option ℕ) (file : Option (List ℕ))
    → ((e : ℕ) → edits ≡ Some e → e ≤ most_edits) → ((b : ℕ) → budget ≡ Some b → b ≤ most_members)
    → IsWithin (option_and_then (λ e. option_map (λ (found : Level × ℕ × List ℕ). Mend found.0 e found.1 found.2)
    (option_and_then (λ b. option_map (λ name. (level, b, name)) file) budget)) edits)
mend_is_within None level budget file few within = none_is_within
mend_is_within (Some e) level None file few within = none_is_within
mend_is_within (Some e) level (Some b) None few within = none_is_within
mend_is_within (Some e) level (Some b) (Some name) few within =
    some_is_within (Mend level e b name) (few e refl, within b refl)

mends_are_within : (words : List (List ℕ)) → IsWithin (mend_in words)
unfolding mend_in
mends_are_within words = go (found_by mend_app words)
  where
    go : (found : Option (List Row)) → IsWithin (option_and_then mend_by found)
    go None = none_is_within
    go (Some rows) =
        mend_is_within (option_and_then (number_by most_edits) (first_of (codes "edits") rows))
        (level_by (first_of (codes "tp1") rows)) (option_and_then (number_by most_members)
        (first_of (codes "budget") rows)) (first_of (codes "function") rows)
        (found_within most_edits (first_of (codes "edits") rows))
        (found_within most_members (first_of (codes "budget") rows))

leasts_are_within : (words : List (List ℕ)) → IsWithin (least_in words)
unfolding least_in
leasts_are_within words = go (found_by (flagged_app (codes "least") (codes "cert")) words)
  where
    go : (found : Option (List Row)) → IsWithin (option_and_then least_by found)
    go None = none_is_within
    go (Some rows) =
        names_are_within (Least (is_given (first_of (codes "cert") rows))) (λ n. tt) (first_of (codes "function") rows)

explains_are_within : (words : List (List ℕ)) → IsWithin (explain_in words)
unfolding explain_in
explains_are_within words = go (found_by (flagged_app (codes "explain") (codes "tp1")) words)
  where
    go : (found : Option (List Row)) → IsWithin (option_and_then explain_by found)
    go None = none_is_within
    go (Some rows) =
        names_are_within (Explain (level_by (first_of (codes "tp1") rows))) (λ n. tt) (first_of (codes "function") rows)

trace_is_within :
    (events : Option TraceKind) (names : Option (List ℕ × List ℕ))
    → IsWithin (option_and_then (λ e. option_map (λ (n : List ℕ × List ℕ). Trace e n.0 n.1) names) events)
trace_is_within None names = none_is_within
trace_is_within (Some events) names = names_are_within (λ (n : List ℕ × List ℕ). Trace events n.0 n.1) (λ n. tt) names

traces_are_within : (words : List (List ℕ)) → IsWithin (trace_in words)
unfolding trace_in
traces_are_within words = go (found_by trace_app words)
  where
    go : (found : Option (List Row)) → IsWithin (option_and_then trace_by found)
    go None = none_is_within
    go (Some rows) =
        trace_is_within (trace_kind (is_given (first_of (codes "session") rows))
        (is_given (first_of (codes "hub") rows))) (values_in rows)

drill_is_within : (number : Option ℕ) → ((n : ℕ) → number ≡ Some n → n ≤ MOST_ROUNDS)
    → IsWithin (option_map Drill number)
drill_is_within None few = none_is_within
drill_is_within (Some n) few = some_is_within (Drill n) (few n refl)

drills_are_within : (words : List (List ℕ)) → IsWithin (drill_in words)
unfolding drill_in
drills_are_within words = go (found_by drill_app words)
  where
    go : (found : Option (List Row)) → IsWithin (option_and_then drill_by found)
    go None = none_is_within
    go (Some rows) =
        drill_is_within (option_and_then (number_by MOST_ROUNDS) (first_of (codes "number") rows))
        (found_within MOST_ROUNDS (first_of (codes "number") rows))

-- a head with a kind more has a kind
abbrev HasKind : Head → Type 0
HasKind head = list_any (is_declared head) KINDS ≡ true

has_kind-with_kind : (head : Head) (k : Kind) → HasKind (with_kind head k)
has_kind-with_kind head kinds.Ins = refl
has_kind-with_kind head kinds.Del = go head.ins
  where
    go : (b : Bool) → (b || (true || (head.upd || false))) ≡ true
    go true = refl
    go false = refl
has_kind-with_kind head kinds.Upd = go head.ins head.del
  where
    go : (b d : Bool) → (b || (d || (true || false))) ≡ true
    go true d = refl
    go false true = refl
    go false false = refl

-- whatever head is told has a kind
abbrev HaveKind : Option Head → Type 0
HaveKind found = (head : Head) → found ≡ Some head → HasKind head

none_has_kind : HaveKind None
none_has_kind head is = absurd (cc)

some_has_kind : (h : Head) → HasKind h → HaveKind (Some h)
some_has_kind h has head is = let same : h ≡ head = cc in subst HasKind same has

new_has_kind : (head : Head) (k : Kind) → HaveKind (with_new head k)
new_has_kind head k = go (is_declared head k)
  where
    go : (b : Bool) → HaveKind (cond b None (Some (with_kind head k)))
    go true = none_has_kind
    go false = some_has_kind (with_kind head k) (has_kind-with_kind head k)

named_has_kind : (head : Head) (word : List ℕ) → HaveKind (with_named head word)
named_has_kind head word = go (kind_named word)
  where
    go : (k : Option Kind) → HaveKind (option_and_then (with_new head) k)
    go None = none_has_kind
    go (Some k) = new_has_kind head k

further_has_kind : (word : Option (List ℕ)) (found : Option Head) → HaveKind found
    → HaveKind (option_and_then (with_further word) found)
further_has_kind word None have = none_has_kind
further_has_kind None (Some head) have = have
further_has_kind (Some word) (Some head) have = named_has_kind head word

first_has_kind : (sites chars : Bool) (word : Option (List ℕ)) (mode : Option Mode)
    → HaveKind (option_and_then (λ m. option_and_then (with_named (no_kinds sites chars m)) word) mode)
first_has_kind sites chars word None = none_has_kind
first_has_kind sites chars None (Some mode) = none_has_kind
first_has_kind sites chars (Some word) (Some mode) = named_has_kind (no_kinds sites chars mode) word

head_has_kind : (rows : List Row) → HaveKind (head_in rows)
head_has_kind rows =
    further_has_kind (first_of (codes "third") rows) _
    (further_has_kind (first_of (codes "second") rows) _
    (first_has_kind (is_given (first_of (codes "sites-differ") rows)) (is_given (first_of (codes "chars-differ") rows))
    (first_of (codes "first") rows) (option_and_then mode_named (first_of (codes "mode") rows))))

template_is_within : (level : Level) (head : Option Head) → HaveKind head → IsWithin (option_map (Template level) head)
template_is_within level None have = none_is_within
template_is_within level (Some head) have = some_is_within (Template level head) (have head refl)

templates_are_within : (words : List (List ℕ)) → IsWithin (template_in words)
unfolding template_in
templates_are_within words = go (found_by template_app words)
  where
    go : (found : Option (List Row)) → IsWithin (option_and_then template_by found)
    go None = none_is_within
    go (Some rows) = template_is_within (level_by (first_of (codes "tp1") rows)) (head_in rows) (head_has_kind rows)

-- what words ask for is within its bounds, by the command that the first word names
pub within_bounds : (words : List (List ℕ)) (asked : Asked) → asked_by words ≡ Some asked → IsWithinBounds asked
within_bounds [] = none_is_within
within_bounds (word ∷ words) =
    one_of (bytes_eq word (codes "prove")) (prove_in words) _
    (decisions_are_within most_questions Prove (λ level b name few. few) (codes "prove") (codes "1000000") words)
    (one_of (bytes_eq word (codes "settle")) (settle_in words) _
    (decisions_are_within most_settling_questions Settle (λ level b name few. few) (codes "settle") (codes "30000000")
    words) (one_of (bytes_eq word (codes "mend")) (mend_in words) _ (mends_are_within words)
    (one_of (bytes_eq word (codes "explain")) (explain_in words) _ (explains_are_within words)
    (one_of (bytes_eq word (codes "trace")) (trace_in words) _ (traces_are_within words)
    (one_of (bytes_eq word (codes "audit")) (audit_in words) _ (names_are_within Audit (λ n. tt) (name_by
    (codes "audit") words)) (one_of (bytes_eq word (codes "least")) (least_in words) _ (leasts_are_within words)
    (one_of (bytes_eq word (codes "template")) (template_in words) _ (templates_are_within words)
    (one_of (bytes_eq word (codes "drill")) (drill_in words) (two_in word words) (drills_are_within words)
    (twos_are_within word (names_by word words))))))))))
