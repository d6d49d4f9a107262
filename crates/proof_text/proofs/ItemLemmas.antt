-- Lists are found exactly where their items stand with a byte between two of them and one that ends them.
use Rattle.std.proofs.Common.{◌≡◌, ◌≢◌, ⊎_elim, ℕ, zero, suc, ◌+◌, ◌-◌, ◌<◌, ◌≤◌, true, false, List, [], ◌∷◌, ◌++◌}
use Rattle.std.proofs.Common.{length, refl, sym, ap, ◌∙◌, arith, subst, append_assoc}
use Rattle.std.proofs.lemmas.List.{append-nil, length_push}
use Rattle.std.specs.List.{AllByRecursion}
use Rattle.std.specs.Prelude.{nat_eq}
use Rattle.proof_text.specs.declared.unread.Unread.{Unread}
use Rattle.proof_text.specs.declared.unread.Unread.TheVariants.{Misspelt, Cut}
use Rattle.proof_text.specs.Fronts.{Parsed, Found, Missing, after_item, and_then, found_as, items_front}
use Rattle.proof_text.proofs.Spells.{Spells, IsAnything, and_then_found, and_then_missing, cut_is_not_misspelt}
use Rattle.proof_text.proofs.Spells.{found_as_found, found_as_missing, found_is_not_missing, found_stays, same_found}
use Rattle.proof_text.proofs.FixedLemmas.{other_byte, same_byte, same_byte_or_not}

-- what stands behind an item: the others, each after the byte between, and the last byte
abbrev pub closed_text : {A : Type 0} → (A → List ℕ) → ℕ → ℕ → List A → List ℕ
closed_text text between stop [] = stop ∷ []
closed_text text between stop (a ∷ more) = between ∷ (text a ++ closed_text text between stop more)

-- the items and the last byte
abbrev pub items_text : {A : Type 0} → (A → List ℕ) → ℕ → ℕ → List A → List ℕ
items_text text between stop [] = stop ∷ []
items_text text between stop (a ∷ more) = text a ++ closed_text text between stop more

pub items_step :
    {A : Type 0} (item : List ℕ → Parsed A) (between stop room : ℕ) (bytes : List ℕ)
    → items_front item between stop (suc room) bytes
    ≡ and_then (item bytes) (after_item between stop (items_front item between stop room))
unfolding items_front
items_step {A} item between stop room bytes = refl

pub items_none :
    {A : Type 0} (item : List ℕ → Parsed A) (between stop : ℕ) (bytes : List ℕ)
    → items_front item between stop zero bytes ≡ Missing Misspelt
unfolding items_front
items_none {A} item between stop bytes = refl

-- behind an item
pub at_stop :
    {A : Type 0} (between stop b : ℕ) (others : List ℕ → Parsed (List A)) (a : A) (rest : List ℕ) → nat_eq b stop ≡ true
    → after_item between stop others a (b ∷ rest) ≡ Found (a ∷ []) rest
at_stop {A} between stop b others a rest is = rw is refl

pub at_between :
    {A : Type 0} (between stop b : ℕ) (others : List ℕ → Parsed (List A)) (a : A) (rest : List ℕ)
    → nat_eq b stop ≡ false
    → nat_eq b between ≡ true → after_item between stop others a (b ∷ rest) ≡ found_as (λ more. a ∷ more) (others rest)
at_between {A} between stop b others a rest other is = rw (other, is) refl

pub at_other :
    {A : Type 0} (between stop b : ℕ) (others : List ℕ → Parsed (List A)) (a : A) (rest : List ℕ)
    → nat_eq b stop ≡ false
    → nat_eq b between ≡ false → after_item between stop others a (b ∷ rest) ≡ Missing Misspelt
at_other {A} between stop b others a rest other wrong = rw (other, wrong) refl

-- behind an item something stands: the last byte, the byte between, or another one
data Next (between stop b : ℕ) : Type 0 where
  Stop : nat_eq b stop ≡ true → b ≡ stop → Next between stop b
  Between : nat_eq b stop ≡ false → nat_eq b between ≡ true → b ≡ between → Next between stop b
  Other : nat_eq b stop ≡ false → nat_eq b between ≡ false → Next between stop b

next_of : (between stop b : ℕ) → Next between stop b
next_of between stop b =
    ⊎_elim (λ (h : (nat_eq b stop ≡ true) × (b ≡ stop)). Stop h.0 h.1)
    (λ (h : (nat_eq b stop ≡ false) × (b ≢ stop)).
    ⊎_elim (λ (g : (nat_eq b between ≡ true) × (b ≡ between)). Between h.0 g.0 g.1)
    (λ (g : (nat_eq b between ≡ false) × (b ≢ between)). Other h.0 g.0)
    (same_byte_or_not b between))
    (same_byte_or_not b stop)

closed_some :
    {A : Type 0} (text : A → List ℕ) (between stop : ℕ) (more : List A) → 1 ≤ length more
    → closed_text text between stop more ≡ between ∷ items_text text between stop more
closed_some {A} text between stop [] some = absurd (omega arith)
closed_some {A} text between stop (a ∷ more) some = refl

-- at least one item, and at most so many, each of which is spelled
abbrev pub AreItems : {A : Type 0} → (A → Type 0) → ℕ → List A → Type 0
AreItems S room items = (1 ≤ length items) × (length items ≤ room) × AllByRecursion S items

-- a list is found exactly where its items stand, with a byte between two of them and one that ends them
pub items_spelled :
    {A : Type 0} {item : List ℕ → Parsed A} {text : A → List ℕ} {S : A → Type 0} {N : List ℕ
    → Type 0} (between stop : ℕ)
    → Spells item text S N → ((rest : List ℕ) → N (between ∷ rest)) → ((rest : List ℕ) → N (stop ∷ rest))
    → nat_eq between stop ≡ false → (room : ℕ)
    → Spells (items_front item between stop room) (items_text text between stop) (AreItems S room) IsAnything
items_spelled {A} {item} {text} {S} {N} between stop s between_next stop_next differ room =
    record {
      written = λ items rest are behind. written room items rest are;
      read = λ items bytes rest is. let r = read room items bytes rest is in (r.0, tt, r.1);
      behind = λ rest more h. tt;
      cut = λ bytes is. cut room bytes is;
      misspelt = λ bytes more is. misspelt room bytes more is;
    }
  where
    written :
        (room : ℕ) (items : List A) (rest : List ℕ) → AreItems S room items
        → items_front item between stop room (items_text text between stop items ++ rest) ≡ Found items rest
    written zero items rest are = absurd (omega (arith, are.0, are.1))
    written (suc room) [] rest are = absurd (omega (arith, are.0))
    written (suc room) (a ∷ []) rest are =
        items_step item between stop room ((text a ++ stop ∷ []) ++ rest)
        ∙ ap (λ (l : List ℕ). and_then (item l) (after_item between stop (items_front item between stop room)))
        (append_assoc (text a) (stop ∷ []) rest)
        ∙ ap (λ (x : Parsed A). and_then x (after_item between stop (items_front item between stop room)))
        (s.written a (stop ∷ rest) are.2.0 (stop_next rest))
        ∙ at_stop between stop stop (items_front item between stop room) a rest (same_byte stop)
    written (suc room) (a ∷ b ∷ more) rest are =
        let behind : List ℕ = items_text text between stop (b ∷ more) in
        items_step item between stop room ((text a ++ between ∷ behind) ++ rest)
        ∙ ap (λ (l : List ℕ). and_then (item l) (after_item between stop (items_front item between stop room)))
        (append_assoc (text a) (between ∷ behind) rest)
        ∙ ap (λ (x : Parsed A). and_then x (after_item between stop (items_front item between stop room)))
        (s.written a (between ∷ (behind ++ rest)) are.2.0 (between_next (behind ++ rest)))
        ∙ at_between between stop between (items_front item between stop room) a (behind ++ rest)
        differ (same_byte between)
        ∙ ap (found_as (λ (l : List A). a ∷ l))
        (written room (b ∷ more) rest (omega arith, omega (arith, are.1), are.2.1))

    -- an item, and the others behind it
    more_items :
        (room : ℕ) (a : A) (more : List A) (bytes between_bytes rest : List ℕ) → S a
        → bytes ≡ text a ++ between ∷ between_bytes
        → AreItems S room more × (between_bytes ≡ items_text text between stop more ++ rest)
        → AreItems S (suc room) (a ∷ more) × (bytes ≡ items_text text between stop (a ∷ more) ++ rest)
    more_items room a more bytes between_bytes rest spelled is h = (
      (omega arith, omega (arith, h.0.1), (spelled, h.0.2)),
      is ∙ ap (λ (l : List ℕ). text a ++ between ∷ l) h.1
          ∙ ap (λ (l : List ℕ). text a ++ (l ++ rest)) (sym (closed_some text between stop more h.0.0))
          ∙ sym (append_assoc (text a) (closed_text text between stop more) rest),
    )

    -- behind an item that was found the list ends, or further items stand
    read_next :
        (room : ℕ) (items : List A) (a : A) (bytes behind rest : List ℕ)
        → ((more : List A) (b r : List ℕ) → items_front item between stop room b ≡ Found more r
        → AreItems S room more × (b ≡ items_text text between stop more ++ r))
        → S a → bytes ≡ text a ++ behind
        → after_item between stop (items_front item between stop room) a behind ≡ Found items rest
        → AreItems S (suc room) items × (bytes ≡ items_text text between stop items ++ rest)
    read_next room items a bytes [] rest ih spelled text_is is = absurd (found_is_not_missing items rest Cut (sym is))
    read_next room items a bytes (b ∷ behind) rest ih spelled text_is is =
        elim (next_of between stop b) [
          | Stop test same ↦
              let found = same_found (a ∷ []) items behind rest
              (sym (at_stop between stop b (items_front item between stop room) a behind test) ∙ is) in
              subst (λ (l : List A). AreItems S (suc room) l
              × (bytes ≡ items_text text between stop l ++ rest)) found.0 (
                (omega arith, omega arith, (spelled, tt)),
                text_is ∙ ap (λ (k : ℕ). text a ++ k ∷ behind) same ∙ ap (λ (l : List ℕ). text a ++ stop ∷ l) found.1
                    ∙ sym (append_assoc (text a) (stop ∷ []) rest),
              )
          | Between other test same ↦
              let found = found_as_found (λ (l : List A). a ∷ l) (items_front item between stop room behind) items rest
              (sym (at_between between stop b (items_front item between stop room) a behind other test) ∙ is) in
              subst (λ (l : List A). AreItems S (suc room) l × (bytes ≡ items_text text between stop l ++ rest)) found.2
              (more_items room a found.0 bytes behind rest spelled (text_is ∙ ap (λ (k : ℕ). text a ++ k ∷ behind) same)
              (ih found.0 behind rest found.1))
          | Other other wrong ↦
              absurd (found_is_not_missing items rest Misspelt
              (sym is ∙ at_other between stop b (items_front item between stop room) a behind other wrong))
        ]

    read :
        (room : ℕ) (items : List A) (bytes rest : List ℕ) → items_front item between stop room bytes ≡ Found items rest
        → AreItems S room items × (bytes ≡ items_text text between stop items ++ rest)
    read zero items bytes rest is =
        absurd (found_is_not_missing items rest Misspelt (sym is ∙ items_none item between stop bytes))
    read (suc room) items bytes rest is =
        let found = and_then_found (item bytes) (after_item between stop (items_front item between stop room)) items
        rest (sym (items_step item between stop room bytes) ∙ is) in
        let r = s.read found.0 bytes found.1 found.2 in
        read_next room items found.0 bytes found.1 rest (λ more b r e. read room more b r e) r.0 r.2 found.3

    -- bytes that end behind an item are a front of some list
    cut_next :
        (room : ℕ) (a : A) (bytes behind : List ℕ)
        → ((b : List ℕ) → items_front item between stop room b ≡ Missing Cut
        → (more : List A) × (r : List ℕ) × AreItems S room more × (items_text text between stop more ≡ b ++ r))
        → S a → bytes ≡ text a ++ behind
        → after_item between stop (items_front item between stop room) a behind ≡ Missing Cut
        → (items : List A) × (more : List ℕ) × AreItems S (suc room) items
        × (items_text text between stop items ≡ bytes ++ more)
    cut_next room a bytes [] ih spelled text_is is = (
      a ∷ [],
      stop ∷ [],
      (omega arith, omega arith, (spelled, tt)),
      ap (λ (l : List ℕ). l ++ stop ∷ []) (sym (text_is ∙ append-nil (text a))),
    )
    cut_next room a bytes (b ∷ behind) ih spelled text_is is =
        elim (next_of between stop b) [
          | Stop test same ↦
              absurd (found_is_not_missing (a ∷ []) behind Cut
              (sym (at_stop between stop b (items_front item between stop room) a behind test) ∙ is))
          | Between other test same ↦
              let c =
              ih behind (found_as_missing (λ (l : List A). a ∷ l) (items_front item between stop room behind) Cut
              (sym (at_between between stop b (items_front item between stop room) a behind other test) ∙ is)) in (
                a ∷ c.0,
                c.1,
                (omega arith, omega (arith, c.2.1), (spelled, c.2.2)),
                ap (λ (l : List ℕ). text a ++ l) (closed_some text between stop c.0 c.2.0)
                    ∙ ap (λ (l : List ℕ). text a ++ between ∷ l) c.3
                    ∙ ap (λ (k : ℕ). text a ++ k ∷ (behind ++ c.1)) (sym same)
                    ∙ sym (append_assoc (text a) (b ∷ behind) c.1)
                    ∙ ap (λ (l : List ℕ). l ++ c.1) (sym text_is),
              )
          | Other other wrong ↦
              absurd (cut_is_not_misspelt (after_item between stop (items_front item between stop room) a (b ∷ behind))
              is (at_other between stop b (items_front item between stop room) a behind other wrong))
        ]

    -- bytes that end too early are a front of some list
    cut :
        (room : ℕ) (bytes : List ℕ) → items_front item between stop room bytes ≡ Missing Cut
        → (items : List A) × (more : List ℕ) × AreItems S room items
        × (items_text text between stop items ≡ bytes ++ more)
    cut zero bytes is =
        absurd (cut_is_not_misspelt (items_front item between stop zero bytes) is (items_none item between stop bytes))
    cut (suc room) bytes is =
        ⊎_elim
        (λ (front : item bytes ≡ Missing Cut).
        let c = s.cut bytes front in (
          c.0 ∷ [],
          c.1 ++ stop ∷ [],
          (omega arith, omega arith, (c.2, tt)),
          ap (λ (l : List ℕ). l ++ stop ∷ []) c.3 ∙ append_assoc bytes c.1 (stop ∷ []),
        ))
        (λ (h : (a : A) × (r : List ℕ) × (item bytes ≡ Found a r)
        × (after_item between stop (items_front item between stop room) a r ≡ Missing Cut)).
        let r = s.read h.0 bytes h.1 h.2 in
        cut_next room h.0 bytes h.1 (λ b e. cut room b e) r.0 r.2 h.3)
        (and_then_missing (item bytes) (after_item between stop (items_front item between stop room)) Cut
        (sym (items_step item between stop room bytes) ∙ is))

    -- what is misspelt behind an item stays so, whatever follows
    misspelt_next :
        (room : ℕ) (a : A) (behind more : List ℕ)
        → ((b : List ℕ) → items_front item between stop room b ≡ Missing Misspelt
        → items_front item between stop room (b ++ more) ≡ Missing Misspelt)
        → after_item between stop (items_front item between stop room) a behind ≡ Missing Misspelt
        → after_item between stop (items_front item between stop room) a (behind ++ more) ≡ Missing Misspelt
    misspelt_next room a [] more ih is =
        absurd (cut_is_not_misspelt (after_item between stop (items_front item between stop room) a []) refl is)
    misspelt_next room a (b ∷ behind) more ih is =
        elim (next_of between stop b) [
          | Stop test same ↦
              absurd (found_is_not_missing (a ∷ []) behind Misspelt
              (sym (at_stop between stop b (items_front item between stop room) a behind test) ∙ is))
          | Between other test same ↦
              at_between between stop b (items_front item between stop room) a (behind ++ more) other test
              ∙ ap (found_as (λ (l : List A). a ∷ l))
              (ih behind (found_as_missing (λ (l : List A). a ∷ l) (items_front item between stop room behind) Misspelt
              (sym (at_between between stop b (items_front item between stop room) a behind other test) ∙ is)))
          | Other other wrong ↦
              at_other between stop b (items_front item between stop room) a (behind ++ more) other wrong
        ]

    -- a misspelt list stays so, whatever follows
    misspelt :
        (room : ℕ) (bytes more : List ℕ) → items_front item between stop room bytes ≡ Missing Misspelt
        → items_front item between stop room (bytes ++ more) ≡ Missing Misspelt
    misspelt zero bytes more is = items_none item between stop (bytes ++ more)
    misspelt (suc room) bytes more is =
        items_step item between stop room (bytes ++ more)
        ∙ ⊎_elim
        (λ (front : item bytes ≡ Missing Misspelt).
        ap (λ (x : Parsed A). and_then x (after_item between stop (items_front item between stop room)))
        (s.misspelt bytes more front))
        (λ (h : (a : A) × (r : List ℕ) × (item bytes ≡ Found a r)
        × (after_item between stop (items_front item between stop room) a r ≡ Missing Misspelt)).
        ap (λ (x : Parsed A). and_then x (after_item between stop (items_front item between stop room)))
        (found_stays s h.0 bytes h.1 more h.2)
        ∙ misspelt_next room h.0 h.1 more (λ b e. misspelt room b more e) h.3)
        (and_then_missing (item bytes) (after_item between stop (items_front item between stop room)) Misspelt
        (sym (items_step item between stop room bytes) ∙ is))

-- one item further, where some room is left
room_step :
    {A : Type 0} (item : List ℕ → Parsed A) (between stop room : ℕ) (bytes : List ℕ) → 0 < room
    → items_front item between stop room bytes
    ≡ and_then (item bytes) (after_item between stop (items_front item between stop (room - 1)))
room_step {A} item between stop zero bytes some = absurd (omega arith)
room_step {A} item between stop (suc room) bytes some =
    let less : room ≡ suc room - 1 = omega arith in
    items_step item between stop room bytes
    ∙ ap (λ k. and_then (item bytes) (after_item between stop (items_front item between stop k))) less

found_step :
    {A : Type 0} (item : List ℕ → Parsed A) (between stop room : ℕ) (bytes rest : List ℕ) (a : A) → 0 < room
    → item bytes ≡ Found a rest
    → items_front item between stop room bytes
    ≡ after_item between stop (items_front item between stop (room - 1)) a rest
found_step {A} item between stop room bytes rest a some is =
    room_step item between stop room bytes some
    ∙ ap (λ (x : Parsed A). and_then x (after_item between stop (items_front item between stop (room - 1)))) is

-- a list with an item behind it is longer by one
pub one_more : {A : Type 0} (old new : List A) (a : A) → new ≡ old ++ a ∷ [] → length new ≡ length old + 1
one_more old new a is = ap length is ∙ length_push old a

-- no item is found
pub item_missing :
    {A : Type 0} (item : List ℕ → Parsed A) (between stop room : ℕ) (bytes : List ℕ) (why : Unread) → 0 < room
    → item bytes ≡ Missing why → items_front item between stop room bytes ≡ Missing why
item_missing {A} item between stop room bytes why some is =
    room_step item between stop room bytes some
    ∙ ap (λ (x : Parsed A). and_then x (after_item between stop (items_front item between stop (room - 1)))) is

-- nothing stands behind an item
pub item_alone :
    {A : Type 0} (item : List ℕ → Parsed A) (between stop room : ℕ) (bytes rest : List ℕ) (a : A) → 0 < room
    → item bytes ≡ Found a rest → length rest ≡ 0 → items_front item between stop room bytes ≡ Missing Cut
item_alone {A} item between stop room bytes [] a some is none = found_step item between stop room bytes [] a some is
item_alone {A} item between stop room bytes (b ∷ rest) a some is none = absurd (omega arith)

-- the last byte stands behind an item
pub item_last :
    {A : Type 0} (item : List ℕ → Parsed A) (between stop room b : ℕ) (bytes rest behind : List ℕ) (a : A) → 0 < room
    → item bytes ≡ Found a rest → rest ≡ b ∷ behind → b ≡ stop
    → items_front item between stop room bytes ≡ Found (a ∷ []) behind
item_last {A} item between stop room b bytes rest behind a some is rest_is same =
    found_step item between stop room bytes rest a some is
    ∙ ap (after_item between stop (items_front item between stop (room - 1)) a) rest_is
    ∙ at_stop between stop b (items_front item between stop (room - 1)) a behind (rw same (same_byte stop))

-- a byte that may not stand behind an item does
pub item_wrong :
    {A : Type 0} (item : List ℕ → Parsed A) (between stop room b : ℕ) (bytes rest behind : List ℕ) (a : A) → 0 < room
    → item bytes ≡ Found a rest → rest ≡ b ∷ behind → b ≢ stop → b ≢ between
    → items_front item between stop room bytes ≡ Missing Misspelt
item_wrong {A} item between stop room b bytes rest behind a some is rest_is no_stop no_between =
    found_step item between stop room bytes rest a some is
    ∙ ap (after_item between stop (items_front item between stop (room - 1)) a) rest_is
    ∙ at_other between stop b (items_front item between stop (room - 1)) a behind (other_byte b stop no_stop)
    (other_byte b between no_between)

-- the byte between items does
pub item_more :
    {A : Type 0} (item : List ℕ → Parsed A) (between stop room b : ℕ) (bytes rest behind : List ℕ) (a : A) → 0 < room
    → item bytes ≡ Found a rest → rest ≡ b ∷ behind → b ≢ stop → b ≡ between
    → items_front item between stop room bytes
    ≡ found_as (λ more. a ∷ more) (items_front item between stop (room - 1) behind)
item_more {A} item between stop room b bytes rest behind a some is rest_is no_stop same =
    found_step item between stop room bytes rest a some is
    ∙ ap (after_item between stop (items_front item between stop (room - 1)) a) rest_is
    ∙ at_between between stop b (items_front item between stop (room - 1)) a behind (other_byte b stop no_stop)
    (rw same (same_byte between))

-- the same where no further item may come
pub item_over :
    {A : Type 0} (item : List ℕ → Parsed A) (between stop room b : ℕ) (bytes rest behind : List ℕ) (a : A) → room ≡ 1
    → item bytes ≡ Found a rest → rest ≡ b ∷ behind → b ≢ stop → b ≡ between
    → items_front item between stop room bytes ≡ Missing Misspelt
item_over {A} item between stop room b bytes rest behind a one is rest_is no_stop same =
    let none : room - 1 ≡ 0 = omega arith in
    item_more item between stop room b bytes rest behind a (omega arith) is rest_is no_stop same
    ∙ ap (λ k. found_as (λ (l : List A). a ∷ l) (items_front item between stop k behind)) none
    ∙ ap (found_as (λ (l : List A). a ∷ l)) (items_none item between stop behind)

-- and what the other items come to
pub item_more_found :
    {A : Type 0} (item : List ℕ → Parsed A) (between stop room left b : ℕ)
    (bytes rest behind last : List ℕ) (a : A) (more : List A)
    → 0 < room → left ≡ room - 1 → item bytes ≡ Found a rest → rest ≡ b ∷ behind → b ≢ stop → b ≡ between
    → items_front item between stop left behind ≡ Found more last
    → items_front item between stop room bytes ≡ Found (a ∷ more) last
item_more_found {A} item between stop room left b bytes rest behind last a more some less is
    rest_is no_stop same found =
    item_more item between stop room b bytes rest behind a some is rest_is no_stop same
    ∙ ap (λ k. found_as (λ (l : List A). a ∷ l) (items_front item between stop k behind)) (sym less)
    ∙ ap (found_as (λ (l : List A). a ∷ l)) found

pub item_more_missing :
    {A : Type 0} (item : List ℕ → Parsed A) (between stop room left b : ℕ)
    (bytes rest behind : List ℕ) (a : A) (why : Unread)
    → 0 < room → left ≡ room - 1 → item bytes ≡ Found a rest → rest ≡ b ∷ behind → b ≢ stop → b ≡ between
    → items_front item between stop left behind ≡ Missing why
    → items_front item between stop room bytes ≡ Missing why
item_more_missing {A} item between stop room left b bytes rest behind a why some less is rest_is no_stop same missing =
    item_more item between stop room b bytes rest behind a some is rest_is no_stop same
    ∙ ap (λ k. found_as (λ (l : List A). a ∷ l) (items_front item between stop k behind)) (sym less)
    ∙ ap (found_as (λ (l : List A). a ∷ l)) missing
