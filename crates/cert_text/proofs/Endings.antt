-- Behind any place any bytes go on with a part, or end there: what they begin with is looked for among the parts that
-- may stand there.
use Rattle.std.proofs.Common.{◌≡◌, ◌≢◌, ℕ, ◌+◌, ◌-◌, ◌*◌, ◌<◌, ◌≤◌, eqb, leb, true, false, ◌⊎◌, inl, inr, ⊎_elim}
use Rattle.std.proofs.Common.{Option, Some, None, Result, Ok, Err, List, [], ◌∷◌, ◌++◌, length, get_or, refl, sym, ap}
use Rattle.std.proofs.Common.{◌∙◌, arith, subst, length-append, zero, suc}
use Rattle.std.proofs.lemmas.Bool.Decides.{eqb_tells, leb_tells}
use Rattle.std.proofs.lemmas.List.{append-nil}
use Rattle.std.proofs.Math.Seq.{append_snoc}
use Rattle.fn_rules.specs.declared.function.Level.{Level}
use Rattle.fn_rules.specs.declared.function.Level.TheVariants.{Tp1, Tp2}
use Rattle.fn_rules.specs.declared.function.ObName.{ObName}
use Rattle.ask_core.specs.declared.tree.Tok.{Tok}
use Rattle.ask_core.specs.declared.tree.Tok.TheVariants as token
use Rattle.cert_text.specs.declared.item.Part.{Part}
use Rattle.cert_text.specs.declared.item.Part.TheVariants as part
use Rattle.cert_text.specs.declared.item.Item.{Item}
use Rattle.cert_text.specs.declared.item.CertError.{CertError}
use Rattle.cert_text.specs.declared.item.CertError.TheVariants as cert
use Rattle.cert_text.specs.Cycles.{IsNoFront, IsShortNumber, cycle_text, number_text, numbers_before}
use Rattle.cert_text.specs.Numbers.{AreShort, IsSpellableCycle, PICK_LIMIT}
use Rattle.cert_text.specs.Places.{PartPlace, Start, Line, Tree, Finish, Stands, names_of, part_text, place_after}
use Rattle.cert_text.specs.Reading.{ReaderState, Reading, Refused, EndsThere, HasNoPart, IsFrontOfPart, ReadsParts}
use Rattle.cert_text.specs.Reading.{ReadsFrom}
use Rattle.cert_text.specs.Spelling.{IsSpellable, header_text, token_text}
use Rattle.cert_text.proofs.CycleLemmas.{AreShort-push, byte_is_wrong, digit_is_too_much, digit_is_wanted}
use Rattle.cert_text.proofs.CycleLemmas.{front_of_cycle, front_with_digit, front_with_more_digits, other_byte_is_wrong}
use Rattle.cert_text.proofs.CycleLemmas.{with_comma, with_end}
use Rattle.cert_text.proofs.PartLemmas.{end_part, ob_part, start_parts}
use Rattle.cert_text.proofs.ReadingLemmas.{more_has_no_part, some_text, wrong_byte}

-- the bytes begin with a part that may stand at the place
abbrev GoesOn : PartPlace → List ℕ → Type 0
GoesOn place bytes = (p : Part) × (rest : List ℕ) × Stands place p × (bytes ≡ part_text place p ++ rest)

-- they end there in some way
abbrev Ends : PartPlace → ℕ → List ℕ → Type 0
Ends place offset bytes = (end : Result (Unit {0}) CertError) × EndsThere place offset bytes end

abbrev GoesOnOrEnds : PartPlace → ℕ → List ℕ → Type 0
GoesOnOrEnds place offset bytes = GoesOn place bytes ⊎ Ends place offset bytes

-- one list is not a front of the other
abbrev AreApart : List ℕ → List ℕ → Type 0
AreApart text bytes = (more : List ℕ) → (text ≡ bytes ++ more → ⊥) × (bytes ≡ text ++ more → ⊥)

-- the bytes begin with a text, or are a front of it, or neither
abbrev Compared : List ℕ → List ℕ → Type 0
Compared text bytes =
    ((rest : List ℕ) × (bytes ≡ text ++ rest))
    ⊎ (((more : List ℕ) × (0 < length more) × (text ≡ bytes ++ more)) ⊎ AreApart text bytes)

compared_behind : (a : ℕ) (text bytes : List ℕ) → Compared text bytes → Compared (a ∷ text) (a ∷ bytes)
compared_behind a text bytes (inl (rest, is)) = inl (rest, ap (λ (l : List ℕ). a ∷ l) is)
compared_behind a text bytes (inr (inl (more, some, is))) = inr (inl (more, some, ap (λ (l : List ℕ). a ∷ l) is))
compared_behind a text bytes (inr (inr apart)) =
    inr (inr (λ more. (λ is. (apart more).0 (cc), λ is. (apart more).1 (cc))))

compared : (text bytes : List ℕ) → Compared text bytes
compared [] bytes = inl (bytes, refl)
compared (a ∷ text) [] = inr (inl (a ∷ text, omega arith, refl))
compared (a ∷ text) (b ∷ bytes) =
    ⊎_elim
    (λ (same : (eqb a b ≡ true) × (a ≡ b)).
    subst (λ (c : ℕ). Compared (a ∷ text) (c ∷ bytes)) same.1 (compared_behind a text bytes (compared text bytes)))
    (λ (other : (eqb a b ≡ false) × (a ≢ b)). inr (inr (λ more. (λ is. other.1 (cc), λ is. other.1 (cc)))))
    (eqb_tells a b)

module _ (place : PartPlace) (offset : ℕ) (still_open : place ≢ Finish) where
  -- bytes that are a front of a part end too early
  truncated : (bytes : List ℕ) → IsFrontOfPart place bytes → GoesOnOrEnds place offset bytes
  truncated bytes front = inr (Err (cert.Truncated (offset + length bytes)), (refl, still_open, front))

  -- bytes with which no part begins are refused
  refused : (bytes : List ℕ) → 0 < length bytes → HasNoPart place bytes → GoesOnOrEnds place offset bytes
  refused bytes some none = inr (Err (cert.BadToken offset), (refl, still_open, some, none))

  -- so are those with a byte behind a front with which no part goes on
  refused_at :
      (begun : List ℕ) (b : ℕ) (rest : List ℕ) → IsFrontOfPart place begun
      → ((p : Part) (more : List ℕ) → Stands place p → part_text place p ≡ begun ++ b ∷ more → ⊥)
      → GoesOnOrEnds place offset (begun ++ b ∷ rest)
  refused_at begun b rest front wrong =
      let none : HasNoPart place (begun ++ b ∷ rest) =
      subst (HasNoPart place) (append_snoc begun b rest)
      (more_has_no_part place (begun ++ b ∷ []) rest (wrong_byte place begun b front wrong)) in
      refused (begun ++ b ∷ rest) (omega (arith, length-append begun (b ∷ rest))) none

  -- where one part alone may stand
  one_line :
      (p : Part) (bytes : List ℕ) → Stands place p → ((q : Part) → Stands place q → q ≡ p)
      → GoesOnOrEnds place offset bytes
  one_line p bytes stands only = by (compared (part_text place p) bytes)
    where
      apart_is_none :
          (b : List ℕ) → AreApart (part_text place p) b → (q : Part) (more : List ℕ) → Stands place q
          → (part_text place q ≡ b ++ more → ⊥) × (b ≡ part_text place q ++ more → ⊥)
      apart_is_none b apart q more q_stands = rw (only q q_stands) (apart more)

      some_bytes : (b : List ℕ) → AreApart (part_text place p) b → 0 < length b
      some_bytes [] apart = absurd ((apart (part_text place p)).0 refl)
      some_bytes (x ∷ b) apart = omega arith

      by : Compared (part_text place p) bytes → GoesOnOrEnds place offset bytes
      by (inl (rest, is)) = inl (p, rest, stands, is)
      by (inr (inl (more, some, is))) = truncated bytes (inr (p, more, stands, some, is))
      by (inr (inr apart)) = refused bytes (some_bytes bytes apart) (apart_is_none bytes apart)

-- the header of a level, if the level has obligations
module _ (tp1 tp2 : List ObName) (offset : ℕ) where
  abbrev HasNoHeader : Level → List ℕ → Type 0
  HasNoHeader level bytes =
      0 < length (names_of tp1 tp2 level) → AreApart (header_text (names_of tp1 tp2 level) level) bytes

  -- bytes go on with the header of a level or end there, or they are apart from it
  before_a_header :
      (level : Level) (names : List ObName) (bytes : List ℕ) → names ≡ names_of tp1 tp2 level
      → GoesOnOrEnds (Start tp1 tp2) offset bytes ⊎ HasNoHeader level bytes
  before_a_header level [] bytes are = inr (λ some. absurd (omega (arith, some, ap length are)))
  before_a_header level (name ∷ names) bytes are =
      let stands : 0 < length (names_of tp1 tp2 level) = omega (arith, ap length are) in
      by stands (compared (header_text (names_of tp1 tp2 level) level) bytes)
    where
      by :
          0 < length (names_of tp1 tp2 level) → Compared (header_text (names_of tp1 tp2 level) level) bytes
          → GoesOnOrEnds (Start tp1 tp2) offset bytes ⊎ HasNoHeader level bytes
      by stands (inl (rest, is)) = inl (inl (part.Header level, rest, stands, is))
      by stands (inr (inl (more, some, is))) =
          inl (truncated (Start tp1 tp2) offset (λ e. cc) bytes (inr (part.Header level, more, stands, some, is)))
      by stands (inr (inr apart)) = inr (λ some. apart)

  -- bytes that go on with the header of neither level go on with no part
  neither_header :
      (bytes : List ℕ) → HasNoHeader Tp1 bytes → HasNoHeader Tp2 bytes → HasNoPart (Start tp1 tp2) bytes
  neither_header bytes one two p more stands =
      let header = start_parts tp1 tp2 p stands in
      rw header.1 (of_level header.0 (subst (Stands (Start tp1 tp2)) header.1 stands))
    where
      of_level :
          (level : Level) → 0 < length (names_of tp1 tp2 level)
          → (header_text (names_of tp1 tp2 level) level ≡ bytes ++ more → ⊥)
          × (bytes ≡ header_text (names_of tp1 tp2 level) level ++ more → ⊥)
      of_level Tp1 some = one some more
      of_level Tp2 some = two some more

  before_the_header : (bytes : List ℕ) → GoesOnOrEnds (Start tp1 tp2) offset bytes
  before_the_header [] = truncated (Start tp1 tp2) offset (λ e. cc) [] (inl refl)
  before_the_header (b ∷ bytes) =
      ⊎_elim (λ (h : GoesOnOrEnds (Start tp1 tp2) offset (b ∷ bytes)). h)
      (λ (one : HasNoHeader Tp1 (b ∷ bytes)).
      ⊎_elim (λ (h : GoesOnOrEnds (Start tp1 tp2) offset (b ∷ bytes)). h)
      (λ (two : HasNoHeader Tp2 (b ∷ bytes)).
      refused (Start tp1 tp2) offset (λ e. cc) (b ∷ bytes) (omega arith) (neither_header (b ∷ bytes) one two))
      (before_a_header Tp2 tp2 (b ∷ bytes) refl))
      (before_a_header Tp1 tp1 (b ∷ bytes) refl)

-- a newline stands behind a tree, and nothing else
line_end_part : (came : ℕ) (names : List ObName) (p : Part) → Stands (Tree came names 0) p → p ≡ part.LineEnd
line_end_part came names (part.Header level) s = absurd s
line_end_part came names (part.Ob n) s = absurd s
line_end_part came names (part.Tok t) s = absurd (omega (arith, s.0))
line_end_part came names part.LineEnd s = refl
line_end_part came names part.End s = absurd s

-- only a cycle begins with its first byte
abbrev IsNoCycle : List ℕ → Type 0
IsNoCycle text = (qs : List ℕ) → IsSpellableCycle qs → token_text (token.Cycle qs) ≡ 120 ∷ text → ⊥

heads_differ : (a b : ℕ) (xs ys : List ℕ) → a ≢ b → a ∷ xs ≡ b ∷ ys → ⊥
heads_differ a b xs ys other is = other (ap (λ (l : List ℕ). get_or l 0 0) is)

ask_is_no_cycle : ◌≢◌ {A = ℕ} 63 120
ask_is_no_cycle e = omega arith

end_is_no_cycle : ◌≢◌ {A = ℕ} 46 120
end_is_no_cycle e = omega arith

no_cycle_token : (text : List ℕ) → IsNoCycle text → (t : Tok) → IsSpellable t → token_text t ≡ 120 ∷ text → ⊥
no_cycle_token text wrong token.Ask spellable is = heads_differ 63 120 [] text ask_is_no_cycle is
no_cycle_token text wrong token.Holds spellable is = heads_differ 46 120 [] text end_is_no_cycle is
no_cycle_token text wrong (token.Cycle qs) spellable is = wrong qs spellable is

no_cycle_part :
    (came : ℕ) (names : List ObName) (branches : ℕ) → 0 < branches → (text : List ℕ) → IsNoCycle text
    → (p : Part) → Stands (Tree came names branches) p → part_text (Tree came names branches) p ≡ 120 ∷ text → ⊥
no_cycle_part came names branches some text wrong (part.Header level) s is = absurd s
no_cycle_part came names branches some text wrong (part.Ob n) s is = absurd s
no_cycle_part came names branches some text wrong (part.Tok t) s is = no_cycle_token text wrong t s.1 is
no_cycle_part came names branches some text wrong part.LineEnd s is = omega (arith, some, s)
no_cycle_part came names branches some text wrong part.End s is = absurd s

-- in a tree with an open branch
module _ (came : ℕ) (names : List ObName) (branches : ℕ) (some : 0 < branches) (offset : ℕ) where
  abbrev here : PartPlace
  here = Tree came names branches

  open_here : here ≢ Finish
  open_here e = cc

  cycle_front :
      (picks : List ℕ) (number : Option ℕ) → length picks < 12 → AreShort picks → IsShortNumber number
      → IsFrontOfPart here (cycle_text picks number)
  cycle_front picks number few short number_short =
      let front = front_of_cycle picks number few short number_short in
      inr (part.Tok front.0, front.1, (some, front.2), front.3, front.4)

  -- a byte with which no cycle goes on
  wrong_in_cycle :
      (picks : List ℕ) (number : Option ℕ) (b : ℕ) (rest : List ℕ) → length picks < 12
      → AreShort picks → IsShortNumber number
      → IsNoFront picks number b → GoesOnOrEnds here offset (cycle_text picks number ++ b ∷ rest)
  wrong_in_cycle picks number b rest few short number_short wrong =
      refused_at here offset open_here (cycle_text picks number) b rest
      (cycle_front picks number few short number_short)
      (λ p more s is.
      no_cycle_part came names branches some ((numbers_before picks ++ number_text number) ++ b ∷ more)
      (λ qs spellable e. wrong qs more spellable e) p s is)

  -- the byte belongs to what came
  moved :
      (front longer : List ℕ) (b : ℕ) (rest : List ℕ) → longer ≡ front ++ b ∷ []
      → GoesOnOrEnds here offset (longer ++ rest)
      → GoesOnOrEnds here offset (front ++ b ∷ rest)
  moved front longer b rest is on =
      subst (GoesOnOrEnds here offset) (ap (λ (l : List ℕ). l ++ rest) is ∙ append_snoc front b rest) on

  -- whether the byte is a digit
  digit_or_not : (b : ℕ) → ((48 ≤ b) × (b ≤ 57)) ⊎ (48 ≤ b → b ≤ 57 → ⊥)
  digit_or_not b =
      ⊎_elim
      (λ (low : (leb 48 b ≡ true) × (48 ≤ b)).
      ⊎_elim (λ (high : (leb b 57 ≡ true) × (b ≤ 57)). inl (low.1, high.1))
      (λ (high : (leb b 57 ≡ false) × (57 < b)). inr (λ l h. omega (arith, high.1, h)))
      (leb_tells b 57))
      (λ (low : (leb 48 b ≡ false) × (b < 48)). inr (λ l h. omega (arith, low.1, l)))
      (leb_tells 48 b)

  -- whatever front of a cycle came, the bytes go on with it or end
  abbrev AnyFront : List ℕ → Type 0
  AnyFront rest =
      (picks : List ℕ) (number : Option ℕ) → length picks < 12 → AreShort picks → IsShortNumber number
      → GoesOnOrEnds here offset (cycle_text picks number ++ rest)

  module _ (b : ℕ) (rest picks : List ℕ) (few : length picks < 12) (short : AreShort picks) (on : AnyFront rest) where
    -- a byte behind `x` or a comma
    no_digit_came : GoesOnOrEnds here offset (cycle_text picks None ++ b ∷ rest)
    no_digit_came =
        ⊎_elim
        (λ (digit : (48 ≤ b) × (b ≤ 57)).
        let small : b - 48 < PICK_LIMIT = omega (arith, digit.1) in
        moved (cycle_text picks None) (cycle_text picks (Some (b - 48))) b rest
        (front_with_digit picks None b refl digit.0 digit.1) (on picks (Some (b - 48)) few short small))
        (λ (other : 48 ≤ b → b ≤ 57 → ⊥).
        wrong_in_cycle picks None b rest few short tt (digit_is_wanted picks None b short refl other))
        (digit_or_not b)

    module _ (n : ℕ) (n_short : n < PICK_LIMIT) where
      abbrev Goal : Type 0
      Goal = GoesOnOrEnds here offset (cycle_text picks (Some n) ++ b ∷ rest)

      wrong_byte_came : IsNoFront picks (Some n) b → Goal
      wrong_byte_came wrong = wrong_in_cycle picks (Some n) b rest few short n_short wrong

      -- a further digit
      digit_came : 48 ≤ b → b ≤ 57 → Goal
      digit_came low high =
          ⊎_elim
          (λ (some : (leb 1 n ≡ true) × (1 ≤ n)).
          ⊎_elim
          (λ (small : (leb n 9999 ≡ true) × (n ≤ 9999)).
          let positive : 0 < n = omega (arith, some.1) in
          let few_digits : n < 10000 = omega (arith, small.1) in
          let grown : n * 10 + (b - 48) < PICK_LIMIT = omega (arith, small.1, high) in
          moved (cycle_text picks (Some n)) (cycle_text picks (Some (n * 10 + (b - 48)))) b rest
          (front_with_more_digits picks (Some n) n b refl positive few_digits low high)
          (on picks (Some (n * 10 + (b - 48))) few short grown))
          (λ (large : (leb n 9999 ≡ false) × (9999 < n)).
          wrong_byte_came
          (digit_is_too_much picks (Some n) n b short refl n_short (λ positive small. omega (arith, large.1, small)) low
          high)) (leb_tells n 9999))
          (λ (zero_came : (leb 1 n ≡ false) × (n < 1)).
          wrong_byte_came
          (digit_is_too_much picks (Some n) n b short refl n_short
          (λ positive small. omega (arith, zero_came.1, positive)) low high)) (leb_tells 1 n)

      -- a comma, behind which there is room for a further number
      comma_came : (48 ≤ b → b ≤ 57 → ⊥) → b ≡ 44 → Goal
      comma_came other comma =
          ⊎_elim
          (λ (room : (leb (length picks) 10 ≡ true) × (length picks ≤ 10)).
          let longer : length (picks ++ n ∷ []) < 12 = omega (arith, room.1, length-append picks (n ∷ [])) in
          let text : cycle_text (picks ++ n ∷ []) None ≡ cycle_text picks (Some n) ++ b ∷ [] =
          with_comma picks n ∙ ap (λ (x : ℕ). cycle_text picks (Some n) ++ x ∷ []) (sym comma) in
          moved (cycle_text picks (Some n)) (cycle_text (picks ++ n ∷ []) None) b rest text
          (on (picks ++ n ∷ []) None longer (AreShort-push picks n short n_short) tt))
          (λ (full : (leb (length picks) 10 ≡ false) × (10 < length picks)).
          wrong_byte_came
          (byte_is_wrong picks (Some n) n b short refl n_short other (λ e. omega (arith, e, comma))
          (λ e room. omega (arith, full.1, room))))
          (leb_tells (length picks) 10)

      -- the end of the cycle
      end_came : b ≡ 59 → Goal
      end_came is =
          let text : cycle_text picks (Some n) ++ b ∷ rest ≡ token_text (token.Cycle (picks ++ n ∷ [])) ++ rest =
          ap (λ (x : ℕ). cycle_text picks (Some n) ++ x ∷ rest) is
          ∙ sym (append_snoc (cycle_text picks (Some n)) 59 rest)
          ∙ ap (λ (l : List ℕ). l ++ rest) (sym (with_end picks n)) in
          let count = length-append picks (n ∷ []) in
          inl (
            part.Tok (token.Cycle (picks ++ n ∷ [])),
            rest,
            (some, (omega (arith, count), omega (arith, count, few), AreShort-push picks n short n_short)),
            text,
          )

      -- a byte behind a digit
      some_digit_came : Goal
      some_digit_came =
          ⊎_elim (λ (digit : (48 ≤ b) × (b ≤ 57)). digit_came digit.0 digit.1)
          (λ (other : 48 ≤ b → b ≤ 57 → ⊥).
          ⊎_elim (λ (comma : (eqb b 44 ≡ true) × (b ≡ 44)). comma_came other comma.1)
          (λ (no_comma : (eqb b 44 ≡ false) × (b ≢ 44)).
          ⊎_elim (λ (end : (eqb b 59 ≡ true) × (b ≡ 59)). end_came end.1)
          (λ (no_end : (eqb b 59 ≡ false) × (b ≢ 59)).
          wrong_byte_came (other_byte_is_wrong picks (Some n) b short n_short other no_end.1 no_comma.1))
          (eqb_tells b 59))
          (eqb_tells b 44))
          (digit_or_not b)

  -- what is left of a cycle of which a front came
  in_cycle : (rest : List ℕ) → AnyFront rest
  in_cycle [] picks number few short number_short =
      subst (GoesOnOrEnds here offset) (sym (append-nil (cycle_text picks number)))
      (truncated here offset open_here (cycle_text picks number) (cycle_front picks number few short number_short))
  in_cycle (b ∷ rest) picks None few short number_short = no_digit_came b rest picks few short (in_cycle rest)
  in_cycle (b ∷ rest) picks (Some n) few short number_short =
      some_digit_came b rest picks few short (in_cycle rest) n number_short

  -- no token begins with another byte
  no_token :
      (b : ℕ) (bytes : List ℕ) → b ≢ 63 → b ≢ 46 → b ≢ 120 → (p : Part) (more : List ℕ) → Stands here p
      → (part_text here p ≡ (b ∷ bytes) ++ more → ⊥) × (b ∷ bytes ≡ part_text here p ++ more → ⊥)
  no_token b bytes no_ask no_holds no_cycle (part.Header level) more s = absurd s
  no_token b bytes no_ask no_holds no_cycle (part.Ob n) more s = absurd s
  no_token b bytes no_ask no_holds no_cycle (part.Tok token.Ask) more s = (λ is. no_ask (cc), λ is. no_ask (cc))
  no_token b bytes no_ask no_holds no_cycle (part.Tok token.Holds) more s = (λ is. no_holds (cc), λ is. no_holds (cc))
  no_token b bytes no_ask no_holds no_cycle (part.Tok (token.Cycle qs)) more s =
      (λ is. no_cycle (cc), λ is. no_cycle (cc))
  no_token b bytes no_ask no_holds no_cycle part.LineEnd more s = absurd (omega (arith, some, s))
  no_token b bytes no_ask no_holds no_cycle part.End more s = absurd s

  -- before a token
  before_a_token : (bytes : List ℕ) → GoesOnOrEnds here offset bytes
  before_a_token [] = truncated here offset open_here [] (inl refl)
  before_a_token (b ∷ bytes) =
      ⊎_elim
      (λ (ask : (eqb b 63 ≡ true) × (b ≡ 63)).
      inl (part.Tok token.Ask, bytes, (some, tt), ap (λ (x : ℕ). x ∷ bytes) ask.1))
      (λ (no_ask : (eqb b 63 ≡ false) × (b ≢ 63)).
      ⊎_elim
      (λ (holds : (eqb b 46 ≡ true) × (b ≡ 46)).
      inl (part.Tok token.Holds, bytes, (some, tt), ap (λ (x : ℕ). x ∷ bytes) holds.1))
      (λ (no_holds : (eqb b 46 ≡ false) × (b ≢ 46)).
      ⊎_elim
      (λ (cycle : (eqb b 120 ≡ true) × (b ≡ 120)).
      subst (λ (x : ℕ). GoesOnOrEnds here offset (x ∷ bytes)) (sym cycle.1)
      (in_cycle bytes [] None (omega arith) tt tt))
      (λ (no_cycle : (eqb b 120 ≡ false) × (b ≢ 120)).
      refused here offset open_here (b ∷ bytes) (omega arith) (no_token b bytes no_ask.1 no_holds.1 no_cycle.1))
      (eqb_tells b 120))
      (eqb_tells b 46))
      (eqb_tells b 63)

-- before any part
goes_on_or_ends : (place : PartPlace) (offset : ℕ) (bytes : List ℕ) → GoesOnOrEnds place offset bytes
goes_on_or_ends (Start tp1 tp2) offset bytes = before_the_header tp1 tp2 offset bytes
goes_on_or_ends (Line came []) offset bytes =
    one_line (Line came []) offset (λ e. cc) part.End bytes tt (end_part came)
goes_on_or_ends (Line came (name ∷ names)) offset bytes =
    one_line (Line came (name ∷ names)) offset (λ e. cc) (part.Ob came) bytes refl (ob_part came name names)
goes_on_or_ends (Tree came names zero) offset bytes =
    one_line (Tree came names 0) offset (λ e. cc) part.LineEnd bytes refl (line_end_part came names)
goes_on_or_ends (Tree came names (suc branches)) offset bytes =
    before_a_token came names (suc branches) (omega arith) offset bytes
goes_on_or_ends Finish offset [] = inr (Ok tt, (refl, refl))
goes_on_or_ends Finish offset (b ∷ bytes) = inr (Err (cert.Trailing offset), (refl, refl, omega arith))

-- bytes give parts from a place on, and end
abbrev AreRead : PartPlace → ℕ → List ℕ → Type 0
AreRead place offset bytes =
    (items : List Item) × (end : Result (Unit {0}) CertError) × ReadsFrom place offset bytes items end

read_on :
    (place : PartPlace) (offset : ℕ) (bytes : List ℕ)
    → ((next : PartPlace) (at : ℕ) (rest : List ℕ) → length rest < length bytes → AreRead next at rest)
    → GoesOnOrEnds place offset bytes → AreRead place offset bytes
read_on place offset bytes later (inl (p, rest, stands, is)) =
    let shorter : length rest < length bytes =
    omega (arith, ap length is, length-append (part_text place p) rest, some_text place p stands) in
    let on = later (place_after place p) (offset + length (part_text place p)) rest shorter in
    (record { offset = offset; part = p } ∷ on.0, on.1, (refl, stands, (rest, is, on.2)))
read_on place offset bytes later (inr (end, ends)) = ([], end, ends)

read_within : (room : ℕ) (place : PartPlace) (offset : ℕ) (bytes : List ℕ) → length bytes ≤ room
    → AreRead place offset bytes
read_within zero place offset bytes few =
    read_on place offset bytes (λ next at rest less. absurd (omega (arith, few, less)))
    (goes_on_or_ends place offset bytes)
read_within (suc room) place offset bytes few =
    read_on place offset bytes (λ next at rest less. read_within room next at rest (omega (arith, few, less)))
    (goes_on_or_ends place offset bytes)

-- whatever bytes are still to come, they give a reader some parts, and end
pub all_read :
    (reader : ReaderState) (bytes : List ℕ)
    → (items : List Item) × (end : Result (Unit {0}) CertError) × ReadsParts reader bytes items end
all_read (Reading place offset begun) bytes =
    read_within (length (begun ++ bytes)) place offset (begun ++ bytes) (omega arith)
all_read (Refused refusal) bytes = ([], Err refusal, (refl, refl))
