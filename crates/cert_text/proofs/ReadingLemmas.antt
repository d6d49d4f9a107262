-- What a reader gives for a byte is what the bytes from there on give.
use Rattle.std.proofs.Common.{◌≡◌, ◌≢◌, ℕ, ◌+◌, ◌<◌, ◌⊎◌, ◌↔◌, inl, inr, ⊎_elim, Option, Some, None, Result, Ok, Err}
use Rattle.std.proofs.Common.{List, [], ◌∷◌, ◌++◌, length, refl, sym, ap, ◌∙◌, arith, subst, append_assoc}
use Rattle.std.proofs.Common.{length-append}
use Rattle.std.proofs.lemmas.List.{append-nil}
use Rattle.std.proofs.Math.Seq.{append_snoc}
use Rattle.ask_core.specs.declared.tree.Tok.{Tok}
use Rattle.ask_core.specs.declared.tree.Tok.TheVariants as token
use Rattle.cert_text.specs.declared.item.Part.{Part}
use Rattle.cert_text.specs.declared.item.Part.TheVariants as part
use Rattle.cert_text.specs.declared.item.Item.{Item}
use Rattle.cert_text.specs.declared.item.CertError.{CertError}
use Rattle.cert_text.specs.declared.item.CertError.TheVariants as cert
use Rattle.cert_text.specs.Spelling.{token_text}
use Rattle.cert_text.specs.Places.{PartPlace, Start, Line, Tree, Finish, Stands, part_text, place_after}
use Rattle.cert_text.specs.Reading.{ReaderState, Reading, Refused, EndsThere, Gives, HasNoPart, IsFrontOfPart}
use Rattle.cert_text.specs.Reading.{ReadsParts, ReadsFrom, ReadsOn}
use Rattle.cert_text.proofs.PartLemmas.{end_part, no_front, ob_part, start_parts}

-- of two fronts of the same bytes, one is a front of the other
fronts :
    (a b c d : List ℕ) → a ++ b ≡ c ++ d
    → ((m : List ℕ) × (a ≡ c ++ m) × (d ≡ m ++ b)) ⊎ ((m : List ℕ) × (c ≡ a ++ m) × (b ≡ m ++ d))
fronts [] b c d is = inr (c, refl, is)
fronts (x ∷ a) b [] d is = inl (x ∷ a, refl, sym is)
fronts (x ∷ a) b (y ∷ c) d is =
    let heads : x ≡ y = cc in
    let rests : a ++ b ≡ c ++ d = cc in
    ⊎_elim
    (λ (h : (m : List ℕ) × (a ≡ c ++ m) × (d ≡ m ++ b)). inl (h.0, let e = h.1 in cc, h.2))
    (λ (h : (m : List ℕ) × (c ≡ a ++ m) × (b ≡ m ++ d)). inr (h.0, let e = h.1 in cc, h.2))
    (fronts a b c d rests)

-- where a part stands, the last line is not over
not_over : (place : PartPlace) (p : Part) → Stands place p → place ≢ Finish
not_over place p stands over = subst (λ (l : PartPlace). Stands l p) over stands

-- two parts at the front of the same bytes are the same
pub same_part :
    (place : PartPlace) (p q : Part) (r s : List ℕ) → Stands place p → Stands place q
    → part_text place p ++ r ≡ part_text place q ++ s
    → (p ≡ q) × (r ≡ s)
same_part place p q r s a b is =
    ⊎_elim
    (λ (h : (m : List ℕ) × (part_text place p ≡ part_text place q ++ m) × (s ≡ m ++ r)).
    let same = no_front place p q h.0 a b h.1 in
    (same.0, sym (h.2 ∙ ap (λ (l : List ℕ). l ++ r) same.1)))
    (λ (h : (m : List ℕ) × (part_text place q ≡ part_text place p ++ m) × (r ≡ m ++ s)).
    let same = no_front place q p h.0 b a h.1 in
    (sym same.0, h.2 ∙ ap (λ (l : List ℕ). l ++ s) same.1))
    (fronts (part_text place p) r (part_text place q) s is)

-- where no part goes on so, none does with more bytes
pub more_has_no_part : (place : PartPlace) (bytes rest : List ℕ) → HasNoPart place bytes
    → HasNoPart place (bytes ++ rest)
more_has_no_part place bytes rest none p more stands = (
  λ is. (none p (rest ++ more) stands).0 (is ∙ append_assoc bytes rest more),
  λ is.
      ⊎_elim
      (λ (h : (m : List ℕ) × (bytes ≡ part_text place p ++ m) × (more ≡ m ++ rest)). (none p h.0 stands).1 h.1)
      (λ (h : (m : List ℕ) × (part_text place p ≡ bytes ++ m) × (rest ≡ m ++ more)). (none p h.0 stands).0 h.1)
      (fronts bytes rest (part_text place p) more is),
)

-- where the bytes are a front of a part, no whole part is a front of them
no_part_inside :
    (place : PartPlace) (bytes rest : List ℕ) (q : Part) → IsFrontOfPart place bytes → Stands place q
    → 0 < length (part_text place q)
    → bytes ≡ part_text place q ++ rest → ⊥
no_part_inside place bytes rest q (inl none) stands some is =
    omega (arith, ap length (sym is ∙ none), length-append (part_text place q) rest)
no_part_inside place bytes rest q (inr h) stands some is =
    let same = no_front place h.0 q (rest ++ h.1) h.2 stands (h.4 ∙ ap (λ (l : List ℕ). l ++ h.1) is
    ∙ append_assoc (part_text place q) rest h.1) in
    omega (arith, h.3, ap length same.1, length-append rest h.1)

-- a token has some bytes
some_bytes : (t : Tok) → 0 < length (token_text t)
some_bytes token.Ask = omega arith
some_bytes token.Holds = omega arith
some_bytes (token.Cycle picks) = omega arith

-- so has a part
pub some_text : (place : PartPlace) (p : Part) → Stands place p → 0 < length (part_text place p)
some_text (Start tp1 tp2) p stands = let one = start_parts tp1 tp2 p stands in rw one.1 (omega arith)
some_text (Line came []) p stands = rw (end_part came p stands) (omega arith)
some_text (Line came (name ∷ names)) p stands = rw (ob_part came name names p stands) (omega arith)
some_text (Tree came names branches) (part.Tok t) stands = some_bytes t
some_text (Tree came names branches) part.LineEnd stands = omega arith
some_text (Tree came names branches) (part.Header l) stands = absurd stands
some_text (Tree came names branches) (part.Ob n) stands = absurd stands
some_text (Tree came names branches) part.End stands = absurd stands
some_text Finish p stands = absurd stands

-- where a whole part is in front, the bytes do not end there
part_is_no_end :
    (place : PartPlace) (offset : ℕ) (bytes rest : List ℕ) (p : Part) (end : Result (Unit {0}) CertError)
    → Stands place p
    → bytes ≡ part_text place p ++ rest → EndsThere place offset bytes end → ⊥
part_is_no_end place offset bytes rest p (Ok x) stands is h = not_over place p stands h.0
part_is_no_end place offset bytes rest p (Err (cert.BadToken at)) stands is h = (h.3 p rest stands).1 is
part_is_no_end place offset bytes rest p (Err (cert.Truncated at)) stands is h =
    no_part_inside place bytes rest p h.2 stands (some_text place p stands) is
part_is_no_end place offset bytes rest p (Err (cert.Trailing at)) stands is h = not_over place p stands h.1

same_item : (a b : Item) → a.offset ≡ b.offset → a.part ≡ b.part → a ≡ b
same_item a b offsets parts =
    let item : ℕ → Part → Item = λ offset p. record { offset = offset; part = p } in
    ap (λ offset. item offset a.part) offsets ∙ ap (item b.offset) parts

-- reading goes on alike behind the same part
along :
    (place : PartPlace) (p q : Part) (a b : ℕ) (r s : List ℕ) (items : List Item) (end : Result (Unit {0}) CertError)
    → p ≡ q → a ≡ b → r ≡ s
    → ReadsFrom (place_after place p) a r items end → ReadsFrom (place_after place q) b s items end
along place p q a b r s items end parts offsets rests h = rw (← parts, ← offsets, ← rests) h

-- after a byte in a token
reads_more :
    (place : PartPlace) (offset byte : ℕ) (begun : List ℕ) (now : ReaderState)
    → now ≡ Reading place offset (begun ++ byte ∷ [])
    → (rest : List ℕ) (items : List Item) (end : Result (Unit {0}) CertError)
    → ReadsFrom place offset (begun ++ byte ∷ rest) items end ↔ ReadsParts now rest items end
reads_more place offset byte begun now is rest items end =
    let same : begun ++ byte ∷ rest ≡ (begun ++ byte ∷ []) ++ rest = sym (append_snoc begun byte rest) in
    rw is (
      λ h. subst (λ (l : List ℕ). ReadsFrom place offset l items end) same h,
      λ h. subst (λ (l : List ℕ). ReadsFrom place offset l items end) (sym same) h,
    )

-- after the byte that ends a part
reads_part :
    (place : PartPlace) (offset byte : ℕ) (begun : List ℕ) (item : Item) (now : ReaderState)
    → Gives (Reading place offset begun) byte (Ok (Some item)) now
    → (rest : List ℕ) (items : List Item) (end : Result (Unit {0}) CertError)
    → ReadsFrom place offset (begun ++ byte ∷ rest) items end ↔ ReadsOn (Ok (Some item)) now rest items end
reads_part place offset byte begun item now g rest [] end =
    let bytes : begun ++ byte ∷ rest ≡ part_text place item.part ++ rest =
    sym (append_snoc begun byte rest) ∙ ap (λ (l : List ℕ). l ++ rest) g.2 in
    (λ h. part_is_no_end place offset (begun ++ byte ∷ rest) rest item.part end g.1 bytes h, λ h. absurd h)
reads_part place offset byte begun item now g rest (first ∷ items) end =
    let bytes : begun ++ byte ∷ rest ≡ part_text place item.part ++ rest =
    sym (append_snoc begun byte rest) ∙ ap (λ (l : List ℕ). l ++ rest) g.2 in
    let behind : offset + length (part_text place item.part) ≡ offset + length begun + 1 =
    omega (arith, ap length g.2, length-append begun (byte ∷ [])) in (
      λ h.
          let same = same_part place item.part first.part rest h.2.0 g.1 h.1 (sym bytes ∙ h.2.1) in
          let lengths : offset + length (part_text place first.part) ≡ offset + length begun + 1 =
          ap (λ (p : Part). offset + length (part_text place p)) (sym same.0) ∙ behind in (
            same_item first item (h.0 ∙ sym g.0) (sym same.0),
            rw g.3 (along place first.part item.part _ _ h.2.0 rest items end (sym same.0) lengths (sym same.1) h.2.2),
          ),
      λ h.
          let parts : item.part ≡ first.part = ap (λ (i : Item). i.part) (sym h.0) in
          let reads : ReadsFrom (place_after place item.part) (offset + length begun + 1) rest items end =
          subst (λ (q : ReaderState). ReadsParts q rest items end) g.3 h.1 in (
            ap (λ (i : Item). i.offset) h.0 ∙ g.0,
            subst (λ (p : Part). Stands place p) parts g.1,
            (
              rest,
              bytes ∙ ap (λ (p : Part). part_text place p ++ rest) parts,
              along place item.part first.part _ _ rest rest items end parts
                  (sym behind ∙ ap (λ (p : Part). offset + length (part_text place p)) parts) refl reads,
            ),
          ),
    )

-- after the byte that no part goes on with
reads_bad :
    (place : PartPlace) (offset byte at : ℕ) (begun : List ℕ)
    → EndsThere place offset (begun ++ byte ∷ []) (Err (cert.BadToken at))
    → (rest : List ℕ) (items : List Item) (end : Result (Unit {0}) CertError)
    → ReadsFrom place offset (begun ++ byte ∷ rest) items end ↔ ((items ≡ []) × (end ≡ Err (cert.BadToken at)))
reads_bad place offset byte at begun g rest items end =
    let same : (begun ++ byte ∷ []) ++ rest ≡ begun ++ byte ∷ rest = append_snoc begun byte rest in
    let none : HasNoPart place (begun ++ byte ∷ rest) =
    subst (HasNoPart place) same (more_has_no_part place (begun ++ byte ∷ []) rest g.3) in
    let some : 0 < length (begun ++ byte ∷ rest) = omega (arith, length-append begun (byte ∷ rest)) in (
      to place offset at (begun ++ byte ∷ rest) items end g.0 g.1 some none,
      λ h. from place offset at (begun ++ byte ∷ rest) items end g.0 g.1 some none h.0 h.1,
    )
  where
    to :
        (place : PartPlace) (offset at : ℕ) (bytes : List ℕ) (items : List Item) (end : Result (Unit {0}) CertError)
        → at ≡ offset → place ≢ Finish
        → 0 < length bytes → HasNoPart place bytes → ReadsFrom place offset bytes items end
        → (items ≡ []) × (end ≡ Err (cert.BadToken at))
    to place offset at bytes [] (Ok x) is still_open some none h = absurd (still_open h.0)
    to place offset at bytes [] (Err (cert.BadToken k)) is still_open some none h =
        (refl, ap (λ n. Err (cert.BadToken n)) (h.0 ∙ sym is))
    to place offset at bytes [] (Err (cert.Truncated k)) is still_open some none h =
        absurd
        (⊎_elim (λ (e : bytes ≡ []). omega (arith, some, ap length e))
        (λ (f : (p : Part) × (more : List ℕ) × Stands place p × (0 < length more)
        × (part_text place p ≡ bytes ++ more)).
        (none f.0 f.1 f.2).0 f.4) h.2)
    to place offset at bytes [] (Err (cert.Trailing k)) is still_open some none h = absurd (still_open h.1)
    to place offset at bytes (first ∷ items) end is still_open some none h =
        absurd ((none first.part h.2.0 h.1).1 h.2.1)

    from :
        (place : PartPlace) (offset at : ℕ) (bytes : List ℕ) (items : List Item) (end : Result (Unit {0}) CertError)
        → at ≡ offset → place ≢ Finish
        → 0 < length bytes → HasNoPart place bytes → items ≡ [] → end ≡ Err (cert.BadToken at)
        → ReadsFrom place offset bytes items end
    from place offset at bytes items end is still_open some none items_are end_is =
        rw (items_are, end_is) (is, still_open, some, none)

-- after a byte behind the last line
reads_trailing :
    (place : PartPlace) (offset byte at : ℕ) (begun : List ℕ)
    → EndsThere place offset (begun ++ byte ∷ []) (Err (cert.Trailing at))
    → (rest : List ℕ) (items : List Item) (end : Result (Unit {0}) CertError)
    → ReadsFrom place offset (begun ++ byte ∷ rest) items end ↔ ((items ≡ []) × (end ≡ Err (cert.Trailing at)))
reads_trailing place offset byte at begun g rest items end =
    let some : 0 < length (begun ++ byte ∷ rest) = omega (arith, length-append begun (byte ∷ rest)) in
    (to place offset at (begun ++ byte ∷ rest) items end g.0 g.1 some, λ h. rw (h.0, h.1) (g.0, g.1, some))
  where
    to :
        (place : PartPlace) (offset at : ℕ) (bytes : List ℕ) (items : List Item) (end : Result (Unit {0}) CertError)
        → at ≡ offset → place ≡ Finish
        → 0 < length bytes → ReadsFrom place offset bytes items end → (items ≡ []) × (end ≡ Err (cert.Trailing at))
    to place offset at bytes [] (Ok x) is over some h = absurd (omega (arith, some, ap length h.1))
    to place offset at bytes [] (Err (cert.BadToken k)) is over some h = absurd (h.1 over)
    to place offset at bytes [] (Err (cert.Truncated k)) is over some h = absurd (h.1 over)
    to place offset at bytes [] (Err (cert.Trailing k)) is over some h =
        (refl, ap (λ n. Err (cert.Trailing n)) (h.0 ∙ sym is))
    to place offset at bytes (first ∷ items) end is over some h = absurd (not_over place first.part h.1 over)

-- what a reader gives for a byte, and the bytes behind it, is what they give together
pub reads_on :
    (old : ReaderState) (byte : ℕ) (result : Result (Option Item) CertError) (now : ReaderState)
    → Gives old byte result now
    → (rest : List ℕ) (items : List Item) (end : Result (Unit {0}) CertError)
    → ReadsParts old (byte ∷ rest) items end ↔ ReadsOn result now rest items end
reads_on (Reading place offset begun) byte (Ok None) now g = reads_more place offset byte begun now g
reads_on (Reading place offset begun) byte (Ok (Some item)) now g = reads_part place offset byte begun item now g
reads_on (Reading place offset begun) byte (Err (cert.BadToken at)) now g = reads_bad place offset byte at begun g.1
reads_on (Reading place offset begun) byte (Err (cert.Truncated at)) now g = absurd g
reads_on (Reading place offset begun) byte (Err (cert.Trailing at)) now g =
    reads_trailing place offset byte at begun g.1
reads_on (Refused refusal) byte (Ok found) now g = absurd (let e = g.0 in cc)
reads_on (Refused refusal) byte (Err e) now g =
    λ rest items end.
    let same : e ≡ refusal = let is = g.0 in cc in
    (λ h. (h.0, h.1 ∙ ap Err (sym same)), λ h. (h.0, h.1 ∙ ap Err same))

-- where no byte is left and the last line did not come
pub reads_truncated :
    (place : PartPlace) (offset : ℕ) (begun : List ℕ) → IsFrontOfPart place begun → place ≢ Finish
    → (items : List Item) (end : Result (Unit {0}) CertError)
    → ReadsFrom place offset (begun ++ []) items end
    ↔ ((items ≡ []) × (end ≡ Err (cert.Truncated (offset + length begun))))
reads_truncated place offset begun front still_open items end =
    rw (append-nil begun)
    (to place offset begun items end front still_open, λ h. rw (h.0, h.1) (refl, still_open, front))
  where
    to :
        (place : PartPlace) (offset : ℕ) (bytes : List ℕ) (items : List Item) (end : Result (Unit {0}) CertError)
        → IsFrontOfPart place bytes
        → place ≢ Finish → ReadsFrom place offset bytes items end
        → (items ≡ []) × (end ≡ Err (cert.Truncated (offset + length bytes)))
    to place offset bytes [] (Ok x) front still_open h = absurd (still_open h.0)
    to place offset bytes [] (Err (cert.BadToken k)) front still_open h =
        absurd
        (⊎_elim (λ (e : bytes ≡ []). omega (arith, h.2, ap length e))
        (λ (f : (p : Part) × (more : List ℕ) × Stands place p × (0 < length more)
        × (part_text place p ≡ bytes ++ more)).
        (h.3 f.0 f.1 f.2).0 f.4) front)
    to place offset bytes [] (Err (cert.Truncated k)) front still_open h = (refl, ap (λ n. Err (cert.Truncated n)) h.0)
    to place offset bytes [] (Err (cert.Trailing k)) front still_open h = absurd (still_open h.1)
    to place offset bytes (first ∷ items) end front still_open h =
        absurd (no_part_inside place bytes h.2.0 first.part front h.1 (some_text place first.part h.1) h.2.1)

-- where no byte is left and the last line came
pub reads_whole :
    (offset : ℕ) (items : List Item) (end : Result (Unit {0}) CertError)
    → ReadsFrom Finish offset [] items end ↔ ((items ≡ []) × (end ≡ Ok tt))
reads_whole offset items end = (to offset items end, λ h. rw (h.0, h.1) (refl, refl))
  where
    to : (offset : ℕ) (items : List Item) (end : Result (Unit {0}) CertError) → ReadsFrom Finish offset [] items end
        → (items ≡ []) × (end ≡ Ok tt)
    to offset [] (Ok x) h = (refl, refl)
    to offset [] (Err (cert.BadToken k)) h = absurd (h.1 refl)
    to offset [] (Err (cert.Truncated k)) h = absurd (h.1 refl)
    to offset [] (Err (cert.Trailing k)) h = absurd (omega (arith, h.2))
    to offset (first ∷ items) end h = absurd h.1

-- a byte that no part goes on with
pub wrong_byte :
    (place : PartPlace) (begun : List ℕ) (byte : ℕ) → IsFrontOfPart place begun
    → ((p : Part) (more : List ℕ) → Stands place p → part_text place p ≡ begun ++ byte ∷ more → ⊥)
    → HasNoPart place (begun ++ byte ∷ [])
wrong_byte place begun byte front wrong p more stands = (
  λ is. wrong p more stands (is ∙ append_snoc begun byte more),
  λ is.
      ⊎_elim
      (λ (h : (m : List ℕ) × (begun ≡ part_text place p ++ m) × (more ≡ m ++ byte ∷ [])).
      no_part_inside place begun h.0 p front stands (some_text place p stands) h.1)
      (λ (h : (m : List ℕ) × (part_text place p ≡ begun ++ m) × (byte ∷ [] ≡ m ++ more)).
      longer place begun byte p h.0 more stands front wrong h.1 h.2)
      (fronts begun (byte ∷ []) (part_text place p) more is),
)
  where
    longer :
        (place : PartPlace) (begun : List ℕ) (byte : ℕ) (p : Part) (m more : List ℕ) → Stands place p
        → IsFrontOfPart place begun
        → ((p : Part) (more : List ℕ) → Stands place p → part_text place p ≡ begun ++ byte ∷ more → ⊥)
        → part_text place p ≡ begun ++ m → byte ∷ [] ≡ m ++ more → ⊥
    longer place begun byte p [] more stands front wrong text is =
        no_part_inside place begun [] p front stands (some_text place p stands)
        (sym (append-nil begun) ∙ sym text ∙ sym (append-nil (part_text place p)))
    longer place begun byte p (x ∷ m) more stands front wrong text is =
        let first : byte ≡ x = cc in
        wrong p m stands (text ∙ ap (λ b. begun ++ b ∷ m) (sym first))
