-- Certificates that were written are read, and those that are read were written.
use Rattle.std.proofs.Common.{◌≡◌, ℕ, ◌+◌, ◌-◌, ◌<◌, Result, Ok, List, [], ◌∷◌, ◌++◌, length, map, refl, sym, ap, ◌∙◌}
use Rattle.std.proofs.Common.{arith, subst, append_assoc}
use Rattle.std.proofs.lemmas.List.{append-nil}
use Rattle.std.proofs.lemmas.Grind.{flat_map-append}
use Rattle.std.specs.List.{AllByRecursion, flat_map}
use Rattle.fn_rules.specs.declared.function.Level.{Level}
use Rattle.fn_rules.specs.declared.function.ObName.{ObName}
use Rattle.ask_core.specs.declared.tree.Tok.{Tok}
use Rattle.ask_core.specs.declared.tree.Tok.TheVariants as token
use Rattle.ask_core.specs.Trees.{AnswerTree, Question, End, Impossible, tokens_of}
use Rattle.cert_text.specs.declared.item.Part.{Part}
use Rattle.cert_text.specs.declared.item.Part.TheVariants as part
use Rattle.cert_text.specs.declared.item.Item.{Item}
use Rattle.cert_text.specs.declared.item.CertError.{CertError}
use Rattle.cert_text.specs.Spelling.{AreSpellable, token_text, tokens_text, ob_text, end_text, header_text}
use Rattle.cert_text.specs.Places.{PartPlace, Start, Line, Tree, Finish, Stands, names_of, part_text, place_after}
use Rattle.cert_text.specs.Reading.{Reading, ReadsParts, ReadsFrom}
use Rattle.cert_text.specs.Certificates.{HasTrees, certificate_parts, certificate_text, placed_parts, section_parts}
use Rattle.cert_text.specs.Certificates.{sections_text}
use Rattle.cert_text.proofs.PartLemmas.{end_part, ob_part, start_parts}

tok_parts-append : (ts us : List Tok) (parts : List Part)
    → map part.Tok (ts ++ us) ++ parts ≡ map part.Tok ts ++ (map part.Tok us ++ parts)
tok_parts-append [] us parts = refl
tok_parts-append (t ∷ ts) us parts = ap (λ (l : List Part). part.Tok t ∷ l) (tok_parts-append ts us parts)

AreSpellable-parts : (ts us : List Tok) → AreSpellable (ts ++ us) → AreSpellable ts × AreSpellable us
AreSpellable-parts [] us all = (tt, all)
AreSpellable-parts (t ∷ ts) us all = let more = AreSpellable-parts ts us all.1 in ((all.0, more.0), more.1)

-- the text of a tree is read, and then what stands behind it, with one open branch less
tree_read :
    (t : AnswerTree) (came : ℕ) (names : List ObName) (branches b : ℕ) (bytes : List ℕ) (parts : List Part)
    (end : Result (Unit {0}) CertError)
    → branches ≡ b + 1 → AreSpellable (tokens_of t)
    → ((o : ℕ) → ReadsFrom (Tree came names b) o bytes (placed_parts (Tree came names b) o parts) end)
    → (o : ℕ) → ReadsFrom (Tree came names branches) o (tokens_text (tokens_of t) ++ bytes)
    (placed_parts (Tree came names branches) o (map part.Tok (tokens_of t) ++ parts)) end
tree_read (Question t u) came names branches b bytes parts end is spellable behind o =
    let both = AreSpellable-parts (tokens_of t) (tokens_of u) spellable.1 in
    let texts : tokens_text (tokens_of t ++ tokens_of u) ++ bytes
    ≡ tokens_text (tokens_of t) ++ (tokens_text (tokens_of u) ++ bytes) =
    ap (λ (l : List ℕ). l ++ bytes) (flat_map-append token_text (tokens_of t) (tokens_of u))
    ∙ append_assoc (tokens_text (tokens_of t)) (tokens_text (tokens_of u)) bytes in
    let rest = tree_read t came names (branches + 1) branches (tokens_text (tokens_of u) ++ bytes)
    (map part.Tok (tokens_of u) ++ parts) end refl both.0
    (tree_read u came names branches b bytes parts end is both.1 behind) (o + 1) in (
      refl,
      (omega arith, tt),
      (
        tokens_text (tokens_of t ++ tokens_of u) ++ bytes,
        refl,
        subst (λ (l : List ℕ). ReadsFrom (Tree came names (branches + 1)) (o + 1) l
            (placed_parts (Tree came names (branches + 1)) (o + 1) (map part.Tok (tokens_of t ++ tokens_of u) ++ parts))
            end) (sym texts)
            (subst (λ (l : List Part). ReadsFrom (Tree came names (branches + 1)) (o + 1)
            (tokens_text (tokens_of t) ++ (tokens_text (tokens_of u) ++ bytes))
            (placed_parts (Tree came names (branches + 1)) (o + 1) l) end)
            (sym (tok_parts-append (tokens_of t) (tokens_of u) parts)) rest),
      ),
    )
tree_read End came names branches b bytes parts end is spellable behind o =
    let less : b ≡ branches - 1 = omega arith in (
      refl,
      (omega arith, tt),
      (
        bytes,
        refl,
        subst (λ n. ReadsFrom (Tree came names n) (o + 1) bytes
            (placed_parts (Tree came names n) (o + 1) parts) end) less (behind (o + 1)),
      ),
    )
tree_read (Impossible picks) came names branches b bytes parts end is spellable behind o =
    let less : b ≡ branches - 1 = omega arith in
    let text : List ℕ = token_text (token.Cycle picks) in (
      refl,
      (omega arith, spellable.0),
      (
        bytes,
        ap (λ (l : List ℕ). l ++ bytes) (append-nil (token_text (token.Cycle picks))),
        subst (λ n. ReadsFrom (Tree came names n) (o + length (token_text (token.Cycle picks))) bytes
            (placed_parts (Tree came names n) (o + length (token_text (token.Cycle picks))) parts) end) less
            (behind (o + length (token_text (token.Cycle picks)))),
      ),
    )

regroup : (a b c d : List ℕ) (x : ℕ) → (((a ++ b) ++ x ∷ []) ++ c) ++ d ≡ a ++ (b ++ x ∷ (c ++ d))
regroup a b c d x = simp append_assoc

-- the sections behind the header are read
sections_read :
    (came : ℕ) (names : List ObName) (trees : List AnswerTree) → HasTrees names trees → (o : ℕ)
    → ReadsFrom (Line came names) o (sections_text names trees ++ end_text)
    (placed_parts (Line came names) o (section_parts came trees)) (Ok tt)
sections_read came [] [] has o = (refl, tt, ([], sym (append-nil end_text), (refl, refl)))
sections_read came [] (t ∷ trees) has o = absurd has
sections_read came (name ∷ names) [] has o = absurd has
sections_read came (name ∷ names) (t ∷ trees) has o = (
  refl,
  refl,
  (
    tokens_text (tokens_of t) ++ 10 ∷ (sections_text names trees ++ end_text),
    regroup (ob_text name) (tokens_text (tokens_of t)) (sections_text names trees) end_text 10,
    tree_read t (came + 1) names 1 0 (10 ∷ (sections_text names trees ++ end_text))
        (part.LineEnd ∷ section_parts (came + 1) trees) (Ok tt) (omega arith) has.0
        (λ k. (
          refl,
          refl,
          (sections_text names trees ++ end_text, refl, sections_read (came + 1) names trees has.1 (k + 1)),
        ))
        (o + length (ob_text name)),
  ),
)

-- a whole certificate is read
pub certificate_read :
    (tp1 tp2 : List ObName) (level : Level) (trees : List AnswerTree) → 0 < length (names_of tp1 tp2 level)
    → HasTrees (names_of tp1 tp2 level) trees
    → ReadsParts (Reading (Start tp1 tp2) 0 []) (certificate_text (names_of tp1 tp2 level) level trees)
    (placed_parts (Start tp1 tp2) 0 (certificate_parts level trees)) (Ok tt)
certificate_read tp1 tp2 level trees some has =
    let names : List ObName = names_of tp1 tp2 level in (
      refl,
      some,
      (
        sections_text (names_of tp1 tp2 level) trees ++ end_text,
        append_assoc (header_text (names_of tp1 tp2 level) level)
            (sections_text (names_of tp1 tp2 level) trees) end_text,
        sections_read 0 (names_of tp1 tp2 level) trees has (0 + length (header_text (names_of tp1 tp2 level) level)),
      ),
    )

-- the parts from a place on stand where they are, up to behind the last line
AreParts : PartPlace → List Part → Type 0
AreParts place [] = place ≡ Finish
AreParts place (p ∷ parts) = Stands place p × AreParts (place_after place p) parts

-- their text
parts_text : PartPlace → List Part → List ℕ
parts_text place [] = []
parts_text place (p ∷ parts) = part_text place p ++ parts_text (place_after place p) parts

part_of : Item → Part
part_of item = item.part

-- the parts that bytes give, where they end with Ok
record Given (place : PartPlace) (offset : ℕ) (bytes : List ℕ) (items : List Item) : Type 0 where
  parts : List Part
  stand : AreParts place parts
  text : bytes ≡ parts_text place parts
  are : items ≡ placed_parts place offset parts

-- items that are read from a place on are parts that stand there, one behind the other
given : (items : List Item) (place : PartPlace) (offset : ℕ) (bytes : List ℕ)
    → ReadsFrom place offset bytes items (Ok tt) → Given place offset bytes items
unfolding AreParts parts_text
given [] place offset bytes h = record { parts = []; stand = h.0; text = h.1; are = refl }
given (item ∷ items) place offset bytes h =
    let more = given items (place_after place item.part) (offset + length (part_text place item.part)) h.2.0 h.2.2 in
    let make : ℕ → Item = λ o. record { offset = o; part = item.part } in
    record {
      parts = item.part ∷ more.parts;
      stand = (h.1, more.stand);
      text = h.2.1 ∙ ap (λ (l : List ℕ). part_text place item.part ++ l) more.text;
      are = ap (λ o. make o ∷ items) h.0 ∙ ap (λ (l : List Item). make offset ∷ l) more.are;
    }

-- what is placed has the parts that were placed
parts_placed : (parts : List Part) (place : PartPlace) (offset : ℕ)
    → map part_of (placed_parts place offset parts) ≡ parts
unfolding part_of
parts_placed [] place offset = refl
parts_placed (p ∷ parts) place offset =
    ap (λ (l : List Part). p ∷ l) (parts_placed parts (place_after place p) (offset + length (part_text place p)))

-- trees, one for each open branch, and the parts behind them
record Forest (came : ℕ) (names : List ObName) (branches : ℕ) (parts : List Part) : Type 0 where
  trees : List AnswerTree
  rest : List Part
  count : length trees ≡ branches
  spellable : AllByRecursion (λ t. AreSpellable (tokens_of t)) trees
  are : parts ≡ map part.Tok (flat_map tokens_of trees) ++ part.LineEnd ∷ rest
  stand : AreParts (Line came names) rest

AreSpellable-both : (ts us : List Tok) → AreSpellable ts → AreSpellable us → AreSpellable (ts ++ us)
AreSpellable-both [] us one two = two
AreSpellable-both (t ∷ ts) us one two = (one.0, AreSpellable-both ts us one.1 two)

-- two trees behind a question are one
join_question :
    (came : ℕ) (names : List ObName) (branches : ℕ) (parts : List Part) (trees : List AnswerTree) (rest : List Part)
    → 0 < branches
    → length trees ≡ branches + 1 → AllByRecursion (λ t. AreSpellable (tokens_of t)) trees
    → parts ≡ map part.Tok (flat_map tokens_of trees) ++ part.LineEnd ∷ rest → AreParts (Line came names) rest
    → Forest came names branches (part.Tok token.Ask ∷ parts)
join_question came names branches parts [] rest some count spellable are stand = absurd (omega arith)
join_question came names branches parts (t ∷ []) rest some count spellable are stand = absurd (omega arith)
join_question came names branches parts (t ∷ u ∷ trees) rest some count spellable are stand =
    record {
      trees = Question t u ∷ trees;
      rest = rest;
      count = omega arith;
      spellable = ((tt, AreSpellable-both (tokens_of t) (tokens_of u) spellable.0 spellable.1.0), spellable.1.1);
      are =
          ap (λ (l : List Part). part.Tok token.Ask ∷ l)
          (are ∙ ap (λ (l : List Tok). map part.Tok l ++ part.LineEnd ∷ rest)
          (sym (append_assoc (tokens_of t) (tokens_of u) (flat_map tokens_of trees))));
      stand = stand;
    }

-- the parts from within a tree on are a tree for each open branch, and then the line's end
forest_of : (parts : List Part) (came : ℕ) (names : List ObName) (branches : ℕ)
    → AreParts (Tree came names branches) parts → Forest came names branches parts
unfolding AreParts
forest_of [] came names branches h = absurd (let e = h in cc)
forest_of (part.Tok token.Ask ∷ parts) came names branches h =
    let f = forest_of parts came names (branches + 1) h.1 in
    join_question came names branches parts f.trees f.rest h.0.0 f.count f.spellable f.are f.stand
forest_of (part.Tok token.Holds ∷ parts) came names branches h =
    let f = forest_of parts came names (branches - 1) h.1 in
    record {
      trees = End ∷ f.trees;
      rest = f.rest;
      count = omega (arith, f.count, h.0.0);
      spellable = ((tt, tt), f.spellable);
      are = ap (λ (l : List Part). part.Tok token.Holds ∷ l) f.are;
      stand = f.stand;
    }
forest_of (part.Tok (token.Cycle picks) ∷ parts) came names branches h =
    let f = forest_of parts came names (branches - 1) h.1 in
    record {
      trees = Impossible picks ∷ f.trees;
      rest = f.rest;
      count = omega (arith, f.count, h.0.0);
      spellable = ((h.0.1, tt), f.spellable);
      are = ap (λ (l : List Part). part.Tok (token.Cycle picks) ∷ l) f.are;
      stand = f.stand;
    }
forest_of (part.LineEnd ∷ parts) came names branches h =
    record { trees = []; rest = parts; count = sym h.0; spellable = tt; are = refl; stand = h.1 }
forest_of (part.Header l ∷ parts) came names branches h = absurd h.0
forest_of (part.Ob n ∷ parts) came names branches h = absurd h.0
forest_of (part.End ∷ parts) came names branches h = absurd h.0

-- one tree for each obligation that is to come
record Sections (names : List ObName) (came : ℕ) (parts : List Part) : Type 0 where
  trees : List AnswerTree
  has : HasTrees names trees
  are : parts ≡ section_parts came trees

-- the parts of an obligation's line, of its one tree and of the sections behind it are sections
one_tree :
    (name : ObName) (names : List ObName) (came : ℕ) (parts : List Part) (trees : List AnswerTree) (rest : List Part)
    → length trees ≡ 1
    → AllByRecursion (λ t. AreSpellable (tokens_of t)) trees
    → parts ≡ map part.Tok (flat_map tokens_of trees) ++ part.LineEnd ∷ rest
    → Sections names (came + 1) rest → Sections (name ∷ names) came (part.Ob came ∷ parts)
one_tree name names came parts [] rest count spellable are more = absurd (omega arith)
one_tree name names came parts (t ∷ []) rest count spellable are more =
    record {
      trees = t ∷ more.trees;
      has = (spellable.0, more.has);
      are =
          ap (λ (l : List Part). part.Ob came ∷ l)
          (are ∙ ap (λ (l : List Tok). map part.Tok l ++ part.LineEnd ∷ rest) (append-nil (tokens_of t))
          ∙ ap (λ (l : List Part). map part.Tok (tokens_of t) ++ part.LineEnd ∷ l) more.are);
    }
one_tree name names came parts (t ∷ u ∷ trees) rest count spellable are more = absurd (omega arith)

nothing_behind : (parts : List Part) → AreParts Finish parts → parts ≡ []
unfolding AreParts
nothing_behind [] h = refl
nothing_behind (p ∷ parts) h = absurd h.0

-- the parts from a line on are a section for each name that is left
sections_of : (names : List ObName) (came : ℕ) (parts : List Part) → AreParts (Line came names) parts
    → Sections names came parts
unfolding AreParts
sections_of [] came [] h = absurd (let e = h in cc)
sections_of [] came (p ∷ parts) h =
    let first = end_part came p h.0 in
    let rest : parts ≡ [] = nothing_behind parts
    (subst (λ (q : Part). AreParts (place_after (Line came []) q) parts) first h.1) in
    record {
      trees = [];
      has = tt;
      are = ap (λ (q : Part). q ∷ parts) first
          ∙ ap (λ (l : List Part). part.End ∷ l) rest;
    }
sections_of (name ∷ names) came [] h = absurd (let e = h in cc)
sections_of (name ∷ names) came (p ∷ parts) h =
    let first = ob_part came name names p h.0 in
    let f = forest_of parts (came + 1) names 1
    (subst (λ (q : Part). AreParts (place_after (Line came (name ∷ names)) q) parts) first h.1) in
    let more = one_tree name names came parts f.trees f.rest f.count f.spellable f.are
    (sections_of names (came + 1) f.rest f.stand) in
    record { trees = more.trees; has = more.has; are = ap (λ (q : Part). q ∷ parts) first ∙ more.are }

-- the parts of a whole certificate
whole_of :
    (tp1 tp2 : List ObName) (parts : List Part) → AreParts (Start tp1 tp2) parts
    → (level : Level) × (trees : List AnswerTree) × (0 < length (names_of tp1 tp2 level))
    × HasTrees (names_of tp1 tp2 level) trees
    × (parts ≡ certificate_parts level trees)
unfolding AreParts
whole_of tp1 tp2 [] h = absurd (let e = h in cc)
whole_of tp1 tp2 (p ∷ parts) h =
    let first = start_parts tp1 tp2 p h.0 in
    let sections =
    sections_of (names_of tp1 tp2 first.0) 0 parts
    (subst (λ (q : Part). AreParts (place_after (Start tp1 tp2) q) parts) first.1 h.1) in (
      first.0,
      sections.trees,
      subst (Stands (Start tp1 tp2)) first.1 h.0,
      sections.has,
      ap (λ (q : Part). q ∷ parts) first.1 ∙ ap (λ (l : List Part). part.Header first.0 ∷ l) sections.are,
    )

-- what is read was written
pub certificate_written :
    (tp1 tp2 : List ObName) (bytes : List ℕ) (items : List Item)
    → ReadsParts (Reading (Start tp1 tp2) 0 []) bytes items (Ok tt)
    → (level : Level) × (trees : List AnswerTree) × (0 < length (names_of tp1 tp2 level))
    × HasTrees (names_of tp1 tp2 level) trees
    × (bytes ≡ certificate_text (names_of tp1 tp2 level) level trees)
    × (items ≡ placed_parts (Start tp1 tp2) 0 (certificate_parts level trees))
certificate_written tp1 tp2 bytes items h =
    let g = given items (Start tp1 tp2) 0 bytes h in
    let whole = whole_of tp1 tp2 g.parts g.stand in
    let level : Level = whole.0 in
    let trees : List AnswerTree = whole.1 in
    let written =
    given (placed_parts (Start tp1 tp2) 0 (certificate_parts whole.0 whole.1)) (Start tp1 tp2) 0 (certificate_text
    (names_of tp1 tp2 whole.0) whole.0 whole.1) (certificate_read tp1 tp2 whole.0 whole.1 whole.2 whole.3) in
    let same : written.parts ≡ certificate_parts whole.0 whole.1 =
    sym (parts_placed written.parts (Start tp1 tp2) 0) ∙ ap (map part_of) (sym written.are)
    ∙ parts_placed (certificate_parts whole.0 whole.1) (Start tp1 tp2) 0 in (
      whole.0,
      whole.1,
      whole.2,
      whole.3,
      g.text ∙ ap (parts_text (Start tp1 tp2)) (whole.4 ∙ sym same) ∙ sym written.text,
      g.are ∙ ap (placed_parts (Start tp1 tp2) 0) whole.4,
    )
