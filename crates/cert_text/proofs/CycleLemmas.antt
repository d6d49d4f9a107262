-- Fronts of cycles: how they grow, and which cycles they are fronts of.
use Rattle.std.proofs.Common.{◌≡◌, ◌≢◌, ℕ, zero, suc, ◌+◌, ◌-◌, ◌*◌, ◌^◌, ◌<◌, ◌≤◌, ◌⊎◌, inl, inr, ⊎_elim, true, false}
use Rattle.std.proofs.Common.{List, [], ◌∷◌, ◌++◌, length, get_or, take, Option, Some, None, refl, sym, ap, ◌∙◌, arith}
use Rattle.std.proofs.Common.{subst, append_assoc, length-append}
use Rattle.std.proofs.lemmas.Bool.Decides.{nat_tests}
use Rattle.std.proofs.lemmas.List.{append-nil, append_cancel_left, get_or_append_left}
use Rattle.std.proofs.Math.Seq.{take-append_seam, append_snoc}
use Rattle.std.proofs.lemmas.List.{take-append-le}
use Rattle.std.proofs.lemmas.Str.Parse.{IsNumeralModel, numerals_by_value, tells_digits, digit_at, digit_from_value}
use Rattle.std.proofs.lemmas.Str.Parse.{digits_value-take-le}
use Rattle.std.proofs.lemmas.Str.{digit_value_digit}
use Rattle.std.proofs.lemmas.Fmt.{digits_decimal, digits_value-decimal, decimal-digits_value, decimal_digit}
use Rattle.std.proofs.lemmas.Fmt.{decimal_nonempty, first_decimal}
use Rattle.std.specs.List.{prefix_len}
use Rattle.std.specs.Int.{IsInRange}
use Rattle.std.specs.Char.{is_ascii_digit, digit_value}
use Rattle.std.specs.Fmt.{decimal}
use Rattle.std.specs.Str.Parse.{AllDigits, digits_value, digits_value_after}
use Rattle.cert_text.specs.Numbers.{AreShort, IsBehindNumber, IsSpellableCycle, PICK_LIMIT, more_numbers_text}
use Rattle.cert_text.specs.Numbers.{numbers_text}
use Rattle.cert_text.specs.Cycles.{IsNoFront, IsShortNumber, cycle_text, numbers_before, number_text}
use Rattle.ask_core.specs.declared.tree.Tok.{Tok}
use Rattle.ask_core.specs.declared.tree.Tok.TheVariants as token
use Rattle.cert_text.specs.Spelling.{IsSpellable, token_text}
use Rattle.cert_text.proofs.Digits.{found_at}
use Rattle.cert_text.proofs.NumberLists.{Next, first_number, next_number}

-- two numbers with no digit behind them, at the front of the same bytes, are one
pub same_number :
    (n m : ℕ) (r s : List ℕ) → n < PICK_LIMIT → m < PICK_LIMIT → IsBehindNumber r → IsBehindNumber s
    → decimal n ++ r ≡ decimal m ++ s → (n ≡ m) × (r ≡ s)
same_number n m r s n_short m_short r_behind s_behind is =
    let one = found_at (decimal n ++ r) r n n_short r_behind refl in
    let two = found_at (decimal n ++ r) s m m_short s_behind is in
    let len : length (decimal n) ≡ length (decimal m) = sym one.count ∙ two.count in
    let texts : decimal n ≡ decimal m =
    sym one.front ∙ ap (λ k. take k (decimal n ++ r)) len ∙ two.front in
    let same : n ≡ m = sym one.value ∙ ap (λ (d : List ℕ). digits_value 10 d) texts ∙ two.value in
    let there : decimal n ++ r ≡ decimal n ++ s = is ∙ ap (λ (d : List ℕ). d ++ s) (sym texts) in
    (same, append_cancel_left (decimal n) r s there)

-- what stands behind the numbers that came whole: the others of the cycle
pub record Behind (picks qs left : List ℕ) : Type 0 where
  pub others : List ℕ
  pub count : length qs ≡ length picks + length others
  pub next : Next left others []

comma_is_no_end : ◌≢◌ {A = ℕ} 44 59
comma_is_no_end e = omega arith

-- where some numbers of a cycle stand at the front with their commas, the others stand behind them
pub numbers_behind :
    (picks qs bytes left : List ℕ) → AreShort picks → Next bytes qs [] → bytes ≡ numbers_before picks ++ left
    → Behind picks qs left
numbers_behind [] qs bytes left short h is =
    record { others = qs; count = omega arith; next = subst (λ (b : List ℕ). Next b qs []) is h }
numbers_behind (n ∷ picks) qs bytes left short h is =
    let parts = same_number n h.number (44 ∷ (numbers_before picks ++ left)) (more_numbers_text h.others ++ 59 ∷ [])
    short.0 h.short refl h.behind (sym (append_assoc (decimal n) (44 ∷ numbers_before picks) left) ∙ sym is ∙ h.text) in
    let next = next_number 44 h.others (numbers_before picks ++ left) [] comma_is_no_end h.others_short parts.1 in
    let more = numbers_behind picks h.others (numbers_before picks ++ left) left short.1 next.1 refl in
    record { others = more.others; count = omega (arith, more.count, ap length h.is); next = more.next }

numbers_before-push : (ns : List ℕ) (n : ℕ)
    → numbers_before (ns ++ n ∷ []) ≡ numbers_before ns ++ (decimal n ++ 44 ∷ [])
numbers_before-push [] n = refl
numbers_before-push (m ∷ ns) n =
    ap (λ (l : List ℕ). decimal m ++ 44 ∷ l) (numbers_before-push ns n)
    ∙ sym (append_assoc (decimal m) (44 ∷ numbers_before ns) (decimal n ++ 44 ∷ []))

more_numbers_text-push : (ns : List ℕ) (n : ℕ)
    → more_numbers_text (ns ++ n ∷ []) ≡ 44 ∷ (numbers_before ns ++ decimal n)
more_numbers_text-push [] n = ap (λ (l : List ℕ). 44 ∷ l) (append-nil (decimal n))
more_numbers_text-push (m ∷ ns) n =
    ap (λ (l : List ℕ). 44 ∷ (decimal m ++ l)) (more_numbers_text-push ns n)
    ∙ ap (λ (l : List ℕ). 44 ∷ l) (sym (append_assoc (decimal m) (44 ∷ numbers_before ns) (decimal n)))

numbers_text-push : (ns : List ℕ) (n : ℕ) → numbers_text (ns ++ n ∷ []) ≡ numbers_before ns ++ decimal n
numbers_text-push [] n = append-nil (decimal n)
numbers_text-push (m ∷ ns) n =
    ap (λ (l : List ℕ). decimal m ++ l) (more_numbers_text-push ns n)
    ∙ sym (append_assoc (decimal m) (44 ∷ numbers_before ns) (decimal n))

pub AreShort-push : (ns : List ℕ) (n : ℕ) → AreShort ns → n < PICK_LIMIT → AreShort (ns ++ n ∷ [])
AreShort-push [] n all last = (last, tt)
AreShort-push (m ∷ ns) n all last = (all.0, AreShort-push ns n all.1 last)

-- a number is whole with the comma behind it
pub with_comma : (picks : List ℕ) (n : ℕ) → cycle_text (picks ++ n ∷ []) None ≡ cycle_text picks (Some n) ++ 44 ∷ []
with_comma picks n =
    ap (λ (l : List ℕ). 120 ∷ l)
    (append-nil (numbers_before (picks ++ n ∷ [])) ∙ numbers_before-push picks n
    ∙ sym (append_assoc (numbers_before picks) (decimal n) (44 ∷ [])))

-- a cycle is whole with the semicolon behind its last number
pub with_end : (picks : List ℕ) (n : ℕ)
    → 120 ∷ numbers_text (picks ++ n ∷ []) ++ 59 ∷ [] ≡ cycle_text picks (Some n) ++ 59 ∷ []
with_end picks n = ap (λ (l : List ℕ). 120 ∷ (l ++ 59 ∷ [])) (numbers_text-push picks n)

-- the numeral model of decimal digits
own : IsNumeralModel (AllDigits 10) (digits_value 10)
own = numerals_by_value (AllDigits 10) tells_digits

AllDigits-push : (ds : List ℕ) (b : ℕ) → AllDigits 10 ds → 48 ≤ b → b ≤ 57 → AllDigits 10 (ds ++ b ∷ [])
AllDigits-push [] b all low high = (omega (arith, digit_value_digit b (low, high)), tt)
AllDigits-push (d ∷ ds) b all low high = (all.0, AllDigits-push ds b all.1 low high)

value_after-push : (n : ℕ) (ds : List ℕ) (b : ℕ)
    → digits_value_after 10 n (ds ++ b ∷ []) ≡ digits_value_after 10 n ds * 10 + digit_value b
value_after-push n [] b = refl
value_after-push n (d ∷ ds) b = value_after-push (n * 10 + digit_value d) ds b

-- one more digit
value-push : (ds : List ℕ) (b : ℕ) → 48 ≤ b → b ≤ 57
    → digits_value 10 (ds ++ b ∷ []) ≡ digits_value 10 ds * 10 + (b - 48)
value-push ds b low high = omega (arith, value_after-push 0 ds b, digit_value_digit b (low, high))

-- a number of a few digits, none of them a leading 0, grows by a digit
pub decimal-push :
    (n b : ℕ) → 0 < n → n < 10000 → 48 ≤ b → b ≤ 57 → decimal (n * 10 + (b - 48)) ≡ decimal n ++ b ∷ []
decimal-push n b some few low high =
    let big : n < 2 ^ 64 = omega arith in
    let all = AllDigits-push (decimal n) b (digits_decimal own n big) low high in
    let value : digits_value 10 (decimal n ++ b ∷ []) ≡ n * 10 + (b - 48) =
    value-push (decimal n) b low high ∙ ap (λ k. k * 10 + (b - 48)) (digits_value-decimal own n big) in
    let there : 0 < length (decimal n) = decimal_nonempty n big in
    let first : get_or (decimal n ++ b ∷ []) 0 0 ≡ get_or (decimal n) 0 0 =
    get_or_append_left (decimal n) (b ∷ []) 0 0 there in
    let large = first_decimal n some big in
    ap decimal (sym value)
    ∙ decimal-digits_value own (decimal n ++ b ∷ []) all (omega (arith, length-append (decimal n) (b ∷ [])))
    (λ z. absurd (omega arith)) (omega arith)

prefix_len-more : (ds rest : List ℕ) → AllDigits 10 ds
    → prefix_len is_ascii_digit (ds ++ rest) ≡ length ds + prefix_len is_ascii_digit rest
prefix_len-more [] rest all = omega arith
prefix_len-more (d ∷ ds) rest all =
    let range = digit_from_value d all.0 in
    let passes : is_ascii_digit d ≡ true = grind (arith, nat_tests, range.0, range.1) in
    rw (passes, prefix_len-more ds rest all.1) (omega arith)

-- a leading 0 is a whole number
no_leading_zero :
    (n q b : ℕ) (more s : List ℕ) → q < PICK_LIMIT → IsBehindNumber s → decimal n ++ b ∷ more ≡ decimal q ++ s
    → length (decimal n) + 1 ≤ length (decimal q) → 0 < length (decimal n) → 0 < n
no_leading_zero zero q b more s q_short behind is longer some =
    let found = found_at (decimal zero ++ b ∷ more) s q q_short behind is in
    let text : decimal zero ≡ 48 ∷ [] = decimal_digit zero (omega arith) in
    let first : get_or (decimal zero ++ b ∷ more) 0 0 ≡ 48 = rw text refl in
    absurd (omega (arith, found.first first))
no_leading_zero (suc n) q b more s q_short behind is longer some = omega arith

-- a digit behind the digits of a number that came in part is one of the whole number, which has no leading 0
pub digit_goes_on :
    (n q b : ℕ) (more s : List ℕ) → n < PICK_LIMIT → q < PICK_LIMIT → IsBehindNumber s → 48 ≤ b → b ≤ 57
    → decimal n ++ b ∷ more ≡ decimal q ++ s → (0 < n) × (n < 10000)
digit_goes_on n q b more s short q_short behind low high is =
    let big : n < 2 ^ 64 = omega arith in
    let q_big : q < 2 ^ 64 = omega arith in
    let digit : is_ascii_digit b ≡ true = grind (arith, nat_tests, low, high) in
    let found = found_at (decimal n ++ b ∷ more) s q q_short behind is in
    let front = prefix_len-more (decimal n) (b ∷ more) (digits_decimal own n big) in
    let rest : prefix_len is_ascii_digit (b ∷ more) ≡ 1 + prefix_len is_ascii_digit more = rw digit refl in
    let longer : length (decimal n) + 1 ≤ length (decimal q) = omega (arith, front, rest, found.count) in
    let len : length (decimal n ++ b ∷ []) ≡ length (decimal n) + 1 =
    omega (arith, length-append (decimal n) (b ∷ [])) in
    let taken : take (length (decimal n) + 1) (decimal q) ≡ decimal n ++ b ∷ [] =
    sym (take-append-le (length (decimal n) + 1) (decimal q) s longer)
    ∙ ap (λ (l : List ℕ). take (length (decimal n) + 1) l) (sym is ∙ sym (append_snoc (decimal n) b more))
    ∙ rw (← len) (take-append_seam (decimal n ++ b ∷ []) more) in
    let value : n * 10 + (b - 48) ≡ digits_value 10 (take (length (decimal n) + 1) (decimal q)) =
    ap (λ k. k * 10 + (b - 48)) (sym (digits_value-decimal own n big)) ∙ sym (value-push (decimal n) b low high)
    ∙ ap (λ (l : List ℕ). digits_value 10 l) (sym taken) in
    let at_most = digits_value-take-le 10 (decimal q) (length (decimal n) + 1) (omega arith) in (
      no_leading_zero n q b more s q_short behind is longer (decimal_nonempty n big),
      omega (arith, value, at_most, digits_value-decimal own q q_big),
    )

-- what stands behind the front of a cycle
pub cycle_goes_on :
    (picks qs more : List ℕ) (number : Option ℕ) (b : ℕ) → AreShort picks → IsSpellableCycle qs
    → 120 ∷ numbers_text qs ++ 59 ∷ [] ≡ cycle_text picks number ++ b ∷ more
    → Behind picks qs (number_text number ++ b ∷ more)
cycle_goes_on picks qs more number b short spellable is =
    let text : numbers_text qs ++ 59 ∷ [] ≡ numbers_before picks ++ (number_text number ++ b ∷ more) =
    (let e : numbers_text qs ++ 59 ∷ [] ≡ (numbers_before picks ++ number_text number) ++ b ∷ more = cc in e)
    ∙ append_assoc (numbers_before picks) (number_text number) (b ∷ more) in
    numbers_behind picks qs (numbers_text qs ++ 59 ∷ []) (number_text number ++ b ∷ more) short
    (first_number (numbers_text qs ++ 59 ∷ []) qs [] spellable refl) text

-- where no digit of a number came, the next byte is a digit
pub digit_next : (picks qs more : List ℕ) (b : ℕ) → Behind picks qs (b ∷ more) → (48 ≤ b) × (b ≤ 57)
digit_next picks qs more b h =
    let q : ℕ = h.next.number in
    let short : q < PICK_LIMIT = h.next.short in
    let big : q < 2 ^ 64 = omega arith in
    let some = decimal_nonempty q big in
    let range : IsInRange 48 57 (get_or (decimal q) 0 0) = digit_at (decimal q) 0 (digits_decimal own q big) some in
    let first : b ≡ get_or (decimal q) 0 0 =
    ap (λ (l : List ℕ). get_or l 0 0) h.next.text
    ∙ get_or_append_left (decimal q) (more_numbers_text h.next.others ++ 59 ∷ []) 0 0 some in
    (rw first range.0, rw first range.1)

-- a number and the comma of a further one leave room for it, or the end follows
pub no_digit_next :
    (picks qs more : List ℕ) (n b : ℕ) → length qs ≤ 12 → n < PICK_LIMIT → is_ascii_digit b ≡ false
    → Behind picks qs (decimal n ++ b ∷ more) → (b ≡ 59) ⊎ ((b ≡ 44) × (length picks + 1 < 12))
no_digit_next picks qs more n b few short other h =
    let parts = same_number n h.next.number (b ∷ more) (more_numbers_text h.next.others ++ 59 ∷ []) short h.next.short
    other h.next.behind h.next.text in
    last_or_more picks qs more b h.others h.next.number h.next.others few h.count h.next.is parts.1
  where
    last_or_more :
        (picks qs more : List ℕ) (b : ℕ) (others : List ℕ) (q : ℕ) (behind : List ℕ) → length qs ≤ 12
        → length qs ≡ length picks + length others → others ≡ q ∷ behind
        → b ∷ more ≡ more_numbers_text behind ++ 59 ∷ []
        → (b ≡ 59) ⊎ ((b ≡ 44) × (length picks + 1 < 12))
    last_or_more picks qs more b others q [] few count is text = inl cc
    last_or_more picks qs more b others q (r ∷ rs) few count is text = inr (cc, omega (arith, ap length is))

-- behind a comma or `x`, no digit
pub digit_is_wanted :
    (picks : List ℕ) (number : Option ℕ) (b : ℕ) → AreShort picks → number ≡ None → (48 ≤ b → b ≤ 57 → ⊥)
    → IsNoFront picks number b
digit_is_wanted picks None b short none other qs more spellable is =
    let range = digit_next picks qs more b (cycle_goes_on picks qs more None b short spellable is) in
    other range.0 range.1
digit_is_wanted picks (Some n) b short none other qs more spellable is = cc

-- behind a digit, a further digit that makes a leading 0 or a sixth digit
pub digit_is_too_much :
    (picks : List ℕ) (number : Option ℕ) (n b : ℕ) → AreShort picks → number ≡ Some n → n < PICK_LIMIT
    → (0 < n → n < 10000 → ⊥) → 48 ≤ b → b ≤ 57 → IsNoFront picks number b
digit_is_too_much picks None n b short some n_short wrong low high qs more spellable is = cc
digit_is_too_much picks (Some m) n b short some n_short wrong low high qs more spellable is =
    let same : m ≡ n = cc in
    let h = cycle_goes_on picks qs more (Some m) b short spellable is in
    let on = digit_goes_on m h.next.number b more (more_numbers_text h.next.others ++ 59 ∷ []) (omega arith)
    h.next.short h.next.behind low high h.next.text in
    wrong (omega (arith, on.0)) (omega (arith, on.1))

-- behind a digit, a byte that is no digit and neither the comma of a further number nor the end
pub byte_is_wrong :
    (picks : List ℕ) (number : Option ℕ) (n b : ℕ) → AreShort picks → number ≡ Some n → n < PICK_LIMIT
    → (48 ≤ b → b ≤ 57 → ⊥) → b ≢ 59 → (b ≡ 44 → length picks + 1 < 12 → ⊥) → IsNoFront picks number b
byte_is_wrong picks None n b short some n_short other no_end no_comma qs more spellable is = cc
byte_is_wrong picks (Some m) n b short some n_short other no_end no_comma qs more spellable is =
    let same : m ≡ n = cc in
    let digit : is_ascii_digit b ≡ false = grind (arith, nat_tests, other) in
    let h = cycle_goes_on picks qs more (Some m) b short spellable is in
    ⊎_elim no_end (λ two. no_comma two.0 two.1) (no_digit_next picks qs more m b spellable.1 (omega arith) digit h)

-- the same whether or not a digit came
pub other_byte_is_wrong :
    (picks : List ℕ) (number : Option ℕ) (b : ℕ) → AreShort picks → IsShortNumber number
    → (48 ≤ b → b ≤ 57 → ⊥) → b ≢ 59 → b ≢ 44 → IsNoFront picks number b
other_byte_is_wrong picks None b short n_short other no_end no_comma = digit_is_wanted picks None b short refl other
other_byte_is_wrong picks (Some n) b short n_short other no_end no_comma =
    byte_is_wrong picks (Some n) n b short refl n_short other no_end (λ e l. no_comma e)

-- the front that a comma makes
pub front_with_comma :
    (picks pushed : List ℕ) (number : Option ℕ) (n : ℕ) → pushed ≡ picks ++ n ∷ [] → number ≡ Some n
    → cycle_text pushed None ≡ cycle_text picks number ++ 44 ∷ []
front_with_comma picks pushed number n pushed_is number_is = rw (pushed_is, number_is) (with_comma picks n)

-- the cycle that a semicolon makes
pub whole_with_end :
    (picks pushed : List ℕ) (number : Option ℕ) (n : ℕ) → pushed ≡ picks ++ n ∷ [] → number ≡ Some n
    → 120 ∷ numbers_text pushed ++ 59 ∷ [] ≡ cycle_text picks number ++ 59 ∷ []
whole_with_end picks pushed number n pushed_is number_is = rw (pushed_is, number_is) (with_end picks n)

-- the front that a first digit makes
pub front_with_digit :
    (picks : List ℕ) (number : Option ℕ) (b : ℕ) → number ≡ None → 48 ≤ b → b ≤ 57
    → cycle_text picks (Some (b - 48)) ≡ cycle_text picks number ++ b ∷ []
front_with_digit picks number b none low high =
    let text : decimal (b - 48) ≡ b ∷ [] = decimal_digit (b - 48) (omega arith) ∙ ap (λ k. k ∷ []) (omega arith) in
    rw (none, text) (ap (λ (l : List ℕ). 120 ∷ (l ++ b ∷ [])) (sym (append-nil (numbers_before picks))))

-- the front that a further digit makes
pub front_with_more_digits :
    (picks : List ℕ) (number : Option ℕ) (n b : ℕ) → number ≡ Some n → 0 < n → n < 10000 → 48 ≤ b → b ≤ 57
    → cycle_text picks (Some (n * 10 + (b - 48))) ≡ cycle_text picks number ++ b ∷ []
front_with_more_digits picks number n b some positive few low high =
    rw (some, decimal-push n b positive few low high)
    (ap (λ (l : List ℕ). 120 ∷ l) (sym (append_assoc (numbers_before picks) (decimal n) (b ∷ []))))

-- the length of a front with one byte more
pub one_longer : (len b : ℕ) (text more : List ℕ) → len ≡ length text → more ≡ text ++ b ∷ [] → len + 1 ≡ length more
one_longer len b text more len_is more_is = omega (arith, ap length more_is, length-append text (b ∷ []))

-- a front of a cycle is one of a token, with more behind it
pub front_of_cycle :
    (picks : List ℕ) (number : Option ℕ) → length picks < 12 → AreShort picks → IsShortNumber number
    → (t : Tok) × (more : List ℕ) × IsSpellable t × (0 < length more) × (token_text t ≡ cycle_text picks number ++ more)
front_of_cycle picks None few short number_short =
    let zero_text : decimal 0 ≡ 48 ∷ [] = decimal_digit 0 (omega arith) in
    let text : 120 ∷ numbers_text (picks ++ 0 ∷ []) ++ 59 ∷ [] ≡ cycle_text picks None ++ 48 ∷ 59 ∷ [] =
    with_end picks 0
    ∙ rw (zero_text) (ap (λ (l : List ℕ). 120 ∷ l) (append_assoc (numbers_before picks) (48 ∷ []) (59 ∷ [])
    ∙ ap (λ (l : List ℕ). l ++ 48 ∷ 59 ∷ []) (sym (append-nil (numbers_before picks))))) in (
      token.Cycle (picks ++ 0 ∷ []),
      48 ∷ 59 ∷ [],
      (
        omega (arith, length-append picks (0 ∷ [])),
        omega (arith, length-append picks (0 ∷ [])),
        AreShort-push picks 0 short (omega arith),
      ),
      omega arith,
      text,
    )
front_of_cycle picks (Some n) few short number_short = (
  token.Cycle (picks ++ n ∷ []),
  59 ∷ [],
  (
    omega (arith, length-append picks (n ∷ [])),
    omega (arith, length-append picks (n ∷ [])),
    AreShort-push picks n short number_short,
  ),
  omega arith,
  with_end picks n,
)
