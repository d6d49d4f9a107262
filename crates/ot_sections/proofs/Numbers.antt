-- The numbers of a cycle that are read one after another.
use Rattle.std.proofs.Common.{◌≡◌, ℕ, ◌+◌, ◌-◌, ◌<◌, List, [], ◌∷◌, ◌++◌, length, get_or, take, drop, take-add, sym, ap}
use Rattle.std.proofs.Common.{subst, ◌∙◌, arith, append_assoc, length-drop}
use Rattle.std.specs.Fmt.{decimal}
use Rattle.std.proofs.lemmas.List.{append-nil, take_more}
use Rattle.std.proofs.Math.Seq.{take-length}
use Rattle.cert_text.specs.Numbers.{AreShort, PICK_LIMIT, more_numbers_text, numbers_text}

-- a further number of a cycle
more_numbers_grow :
    (picks : List ℕ) (n : ℕ) → more_numbers_text (picks ++ n ∷ []) ≡ more_numbers_text picks ++ 44 ∷ decimal n
more_numbers_grow [] n = ap (λ (l : List ℕ). 44 ∷ l) (append-nil (decimal n))
more_numbers_grow (m ∷ picks) n =
    ap (λ (l : List ℕ). 44 ∷ (decimal m ++ l)) (more_numbers_grow picks n)
    ∙ ap (λ (l : List ℕ). 44 ∷ l) (sym (append_assoc (decimal m) (more_numbers_text picks) (44 ∷ decimal n)))

pub numbers_grow :
    (picks : List ℕ) (n : ℕ) → 0 < length picks → numbers_text (picks ++ n ∷ []) ≡ numbers_text picks ++ 44 ∷ decimal n
numbers_grow [] n some = absurd (omega arith)
numbers_grow (m ∷ picks) n some =
    ap (λ (l : List ℕ). decimal m ++ l) (more_numbers_grow picks n)
    ∙ sym (append_assoc (decimal m) (more_numbers_text picks) (44 ∷ decimal n))

pub short_with : (picks : List ℕ) (n : ℕ) → AreShort picks → n < PICK_LIMIT → AreShort (picks ++ n ∷ [])
short_with [] n all last = (last, tt)
short_with (m ∷ picks) n all last = (all.0, short_with picks n all.1 last)

-- the bytes up to the next number, and up to the end
pub next_byte :
    (bytes text : List ℕ) (at b : ℕ) → at < length bytes → get_or bytes at 0 ≡ b → text ≡ take at bytes
    → text ++ b ∷ [] ≡ take (at + 1) bytes
next_byte bytes text at b within byte text_is =
    ap (λ (l : List ℕ). l ++ b ∷ []) text_is
    ∙ subst (λ (x : ℕ). take at bytes ++ x ∷ [] ≡ take (at + 1) bytes) byte (sym (take_more bytes at 0 within))

pub next_number :
    (bytes text digits : List ℕ) (at len : ℕ) → at < length bytes → get_or bytes at 0 ≡ 44 → text ≡ take at bytes
    → digits ≡ take len (drop (at + 1) bytes) → text ++ 44 ∷ digits ≡ take (at + 1 + len) bytes
next_number bytes text digits at len within comma text_is digits_is =
    sym (append_assoc text (44 ∷ []) digits)
    ∙ ap (λ (l : List ℕ). l ++ digits) (next_byte bytes text at 44 within comma text_is)
    ∙ ap (λ (l : List ℕ). take (at + 1) bytes ++ l) digits_is ∙ sym (take-add (at + 1) len bytes)

-- the bytes from a place on
pub bytes_from : (bytes : List ℕ) (at : ℕ) → take (length bytes - at) (drop at bytes) ≡ drop at bytes
bytes_from bytes at = rw (← length-drop at bytes) (take-length (drop at bytes))
