use Rattle.std.proofs.Common.{rules, Fits, w32, ◌≡◌, ℕ, ◌+◌, ◌<◌, ◌^◌, List, [], ◌∷◌, ◌++◌, length, arith, refl, sym}
use Rattle.std.proofs.Common.{ap, ◌∙◌, subst}
use Rattle.std.specs.List.{AllByRecursion}
use Rattle.std.proofs.lemmas.List.{append-nil}
use Rattle.std.proofs.Math.Seq.{append_snoc}
use Rattle.cert_text.specs.Numbers.{more_numbers_text}
use Rattle.cert_text.proofs.WriterLemmas.{one_more_number}
use Rattle.cert_text.proofs.writer.put_more_numbers.Goals as goal

longer : (left : List ℕ) (n : ℕ) (rest : List ℕ) → left ≡ n ∷ rest → length left ≡ length rest + 1
longer left n rest is = rw is (omega arith)

-- a further word
with_word :
    (written : List ℕ) (n : ℕ) → AllByRecursion (λ m. m < 2 ^ 32) written → n < 2 ^ 32
    → AllByRecursion (λ m. m < 2 ^ 32) (written ++ n ∷ [])
with_word [] n all last = (last, tt)
with_word (m ∷ written) n all last = (all.0, with_word written n all.1 last)

pub loop-number-init : goal.loop-number-init
loop-number-init g c = ([], refl, sym (append-nil c.args.out.now.items), tt, c.requires.room)

pub put_led-requires : goal.put_led-requires
put_led-requires g c =
    let h = c.loop-number.invariant in
    let more = longer _ _ _ c.in-Some.ensures in
    omega (arith, h.4, more)

pub loop-number-preserved : goal.loop-number-preserved
loop-number-preserved g c =
    let h = c.loop-number.invariant in
    let n = c.in-Some.number in
    let more = longer _ _ _ c.in-Some.ensures in (
      h.0 ++ n ∷ [],
      h.1 ∙ ap (λ l. h.0 ++ l) c.in-Some.ensures ∙ sym (append_snoc h.0 n _),
      one_more_number h.0 n c.args.out.now.items c.loop-number.out.items c.put_led.new.out.items
          h.2 c.put_led.ensures.items,
      with_word h.0 n h.3 (let fits : Fits w32 n = search rules in omega (arith, fits)),
      omega (arith, h.4, more, c.put_led.ensures.len, c.put_led.ensures.capacity),
    )

-- all have come
written_all :
    (all written left : List ℕ) → all ≡ written ++ left → left ≡ [] → written ≡ all
written_all all written left is none = sym (is ∙ ap (λ l. written ++ l) none ∙ append-nil written)

pub returns-clause-items : goal.returns-clause-items
returns-clause-items g c =
    let h = c.loop-number.invariant in
    h.2 ∙ ap (λ l. c.args.out.now.items ++ more_numbers_text l) (written_all _ h.0 _ h.1 c.in_default.ensures)

pub returns-clause-words : goal.returns-clause-words
returns-clause-words g c =
    let h = c.loop-number.invariant in
    subst (λ (l : List ℕ). AllByRecursion (λ n. n < 2 ^ 32) l) (written_all _ h.0 _ h.1 c.in_default.ensures) h.3

pub returns-clause-room : goal.returns-clause-room
returns-clause-room g c =
    let h = c.loop-number.invariant in
    omega (arith, h.4)
