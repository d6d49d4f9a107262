use Rattle.std.proofs.Common.{◌≡◌, ℕ, ◌/◌, ◌%◌, ◌+◌, ◌<◌, ◌≤◌, ◌^◌, List, [], ◌∷◌, ◌++◌, arith, sym, ap, ◌∙◌}
use Rattle.std.proofs.Common.{append_assoc}
use Rattle.std.proofs.lemmas.Fmt.{decimal_digit, decimal_step}
use Rattle.std.specs.Fmt.{decimal}
use Rattle.cert_text.proofs.writer.put_led.Goals as goal

one_digit : (n digit : ℕ) → n < 10 → digit ≡ 48 + n → decimal n ≡ digit ∷ []
one_digit n digit below is = decimal_digit n below ∙ ap (λ (d : ℕ). d ∷ []) (sym is)

two_digits :
    (n first second : ℕ) → 10 ≤ n → n < 100 → first ≡ 48 + n / 10 → second ≡ 48 + n % 10
    → decimal n ≡ first ∷ second ∷ []
two_digits n first second above below first_is second_is =
    let tens : n / 10 < 10 = omega arith in
    let small : n < 2 ^ 64 = omega arith in
    decimal_step n above small
    ∙ ap (λ (ds : List ℕ). ds ++ (48 + n % 10) ∷ []) (one_digit (n / 10) first tens first_is)
    ∙ ap (λ (d : ℕ). first ∷ d ∷ []) (sym second_is)

-- bytes that were put behind others one by one
put_two : (old one two : List ℕ) (lead d : ℕ) → one ≡ old ++ lead ∷ [] → two ≡ one ++ d ∷ []
    → two ≡ old ++ lead ∷ d ∷ []
put_two old one two lead d one_is two_is = two_is ∙ ap (λ (l : List ℕ). l ++ d ∷ []) one_is
    ∙ append_assoc old (lead ∷ []) (d ∷ [])

put_three :
    (old one two three : List ℕ) (lead d e : ℕ) → one ≡ old ++ lead ∷ [] → two ≡ one ++ d ∷ [] → three ≡ two ++ e ∷ []
    → three ≡ old ++ lead ∷ d ∷ e ∷ []
put_three old one two three lead d e one_is two_is three_is =
    three_is ∙ ap (λ (l : List ℕ). l ++ e ∷ []) (put_two old one two lead d one_is two_is)
    ∙ append_assoc old (lead ∷ d ∷ []) (e ∷ [])

pub returns-then-number-lt10-clause-items : goal.returns-then-number-lt10-clause-items
returns-then-number-lt10-clause-items c =
    rw (one_digit c.args.number c.digit_of.result c.if-number-lt10.true c.digit_of.ensures)
    (put_two c.args.out.now.items c.push_reserved.new.self.items c.push_reserved-then-number-lt10.new.self.items
    c.args.lead c.digit_of.result c.push_reserved.ensures.items c.push_reserved-then-number-lt10.ensures.items)

pub returns-then-number-lt100-clause-items : goal.returns-then-number-lt100-clause-items
returns-then-number-lt100-clause-items c =
    let above : 10 ≤ c.args.number = omega (arith, c.if-number-lt10.false) in
    rw (two_digits c.args.number c.tens_of.result c.units_of.result above
    c.if-number-lt100.true c.tens_of.ensures c.units_of.ensures)
    (put_three c.args.out.now.items c.push_reserved-then-number-lt100.new.self.items
    c.push_reserved-then-number-lt100-2.new.self.items c.push_reserved-then-number-lt100-3.new.self.items c.args.lead
    c.tens_of.result c.units_of.result c.push_reserved-then-number-lt100.ensures.items
    c.push_reserved-then-number-lt100-2.ensures.items c.push_reserved-then-number-lt100-3.ensures.items)
