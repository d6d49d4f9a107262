-- Tokens that are taken where they are read.
use Rattle.std.proofs.Common.{◌≡◌, ℕ, suc, ◌+◌, ◌≤◌, ◌<◌, List, [], ◌∷◌, ◌++◌, length, take, add-zero, Result, Ok, refl}
use Rattle.std.proofs.Common.{sym, ap, subst, ◌∙◌, arith, append_assoc, length-append}
use Rattle.std.proofs.lemmas.List.{append-nil}
use Rattle.fn_rules.specs.declared.function.ObName.{ObName}
use Rattle.diff_graph.specs.declared.lit.Lit.{Lit}
use Rattle.ask_core.specs.declared.tree.Tok.{Tok}
use Rattle.ask_core.specs.declared.tree.Tok.TheVariants as token
use Rattle.ask_core.specs.Plans.{Plan}
use Rattle.ask_core.specs.Trees.{Branch}
use Rattle.cert_check.specs.Steps.{after}
use Rattle.cert_text.specs.declared.item.Part.TheVariants as part
use Rattle.cert_text.specs.Spelling.{AreSpellable, IsSpellable, token_text, tokens_text}
use Rattle.cert_text.specs.Places.{PartPlace, Start, Line, Tree, Finish, open_after}
use Rattle.cert_text.specs.Passing.{AreOpen, IsPassed, passed}
use Rattle.cert_text.specs.Reading.{ReaderState, Reading, Refused, fed_to}
use Rattle.ot_outside.specs.declared.feed.Feed.{Ghosts}
use Rattle.refusals.specs.declared.refusal.JudgeError.{JudgeError}
use Rattle.ot_sections.specs.Feeding.{Fed, fed}
use Rattle.ot_sections.specs.Parts.{IsJudged, Point}
use Rattle.ot_sections.specs.Stands.{IsBetween, IsTreeOf, LeadsAnyway, reader_offset_of, reader_place_of, point_of}
use Rattle.ot_sections.specs.Stands.{stand, tree_with}
use Rattle.cert_check.specs.Questions.{SkipsTo}
use Rattle.ot_sections.specs.Taking.{AreTaken, AreTakenFront, LeaveOpen}
use Rattle.ot_sections.specs.Cycles.{IsCycleFront}
use Rattle.ot_sections.proofs.Coming.{Consumes, IsAsked, Took, given_of, took_of}
use Rattle.ot_sections.proofs.Fitting.{judged_behind}
use Rattle.ot_sections.proofs.Leaving.{GoesOn, KeepsFeed}
use Rattle.ot_sections.proofs.Tokens.{open_as_counted}

-- some tokens and further ones
tokens_text-append : (tokens more : List Tok) → tokens_text (tokens ++ more) ≡ tokens_text tokens ++ tokens_text more
tokens_text-append [] more = refl
tokens_text-append (t ∷ tokens) more =
    ap (λ (l : List ℕ). token_text t ++ l) (tokens_text-append tokens more)
    ∙ sym (append_assoc (token_text t) (tokens_text tokens) (tokens_text more))

AreSpellable-append : (tokens more : List Tok) → AreSpellable tokens → AreSpellable more → AreSpellable (tokens ++ more)
AreSpellable-append [] more all rest = rest
AreSpellable-append (t ∷ tokens) more all rest = (all.0, AreSpellable-append tokens more all.1 rest)

-- the first of some bytes and those behind it
take_behind : (b : ℕ) (bytes : List ℕ) (len : ℕ) → take (len + 1) (b ∷ bytes) ≡ b ∷ take len bytes
take_behind b bytes len = let e : len + 1 ≡ suc len = omega arith in rw e refl

take_behind_two : (b c : ℕ) (bytes : List ℕ) (len : ℕ) → take (len + 2) (b ∷ c ∷ bytes) ≡ b ∷ take (len + 1) (c ∷ bytes)
take_behind_two b c bytes len = let e : len + 2 ≡ suc (len + 1) = omega arith in rw e refl

module _ {W : Type 0} where
  LeaveOpen-append :
      (tokens more : List Tok) (old between new : List (Branch W)) → LeaveOpen tokens old between
      → LeaveOpen more between new
      → LeaveOpen (tokens ++ more) old new
  LeaveOpen-append [] more old between new leave rest = subst (λ (b : List (Branch W)). LeaveOpen more b new) leave rest
  LeaveOpen-append (t ∷ tokens) more old between new leave rest =
      (leave.0, leave.1, LeaveOpen-append tokens more leave.0 between new leave.2 rest)

  -- none is taken yet
  pub none_taken : (bytes : List ℕ) (old new : List (Branch W)) → bytes ≡ [] → new ≡ old → AreTaken bytes old new
  none_taken bytes old new none same = ([], tt, sym none, same)

  -- some more are
  pub more_taken :
      (front more bytes : List ℕ) (len : ℕ) (old between new : List (Branch W)) → AreTaken front old between
      → AreTakenFront between new more len → bytes ≡ front ++ take len more → AreTaken bytes old new
  more_taken front more bytes len old between new (tokens, spellable, text, leave)
      (within, (others, fine, others_text, rest)) is = (
        tokens ++ others,
        AreSpellable-append tokens others spellable fine,
        tokens_text-append tokens others ∙ ap (λ (l : List ℕ). l ++ tokens_text others) text
            ∙ ap (λ (l : List ℕ). front ++ l) others_text ∙ sym is,
        LeaveOpen-append tokens others old between new leave rest,
      )

  -- one token at the front
  pub one_taken :
      (bytes : List ℕ) (len : ℕ) (t : Tok) (old new : List (Branch W)) → len ≤ length bytes → IsSpellable t
      → token_text t ≡ take len bytes → after t old ≡ Ok new → AreTakenFront old new bytes len
  one_taken bytes len t old new within fine text taken =
      (within, (t ∷ [], (fine, tt), append-nil (token_text t) ∙ text, (new, taken, refl)))

  -- one that is a byte
  pub byte_taken :
      (b : ℕ) (bytes : List ℕ) (t : Tok) (old new : List (Branch W)) → IsSpellable t
      → token_text t ≡ b ∷ [] → after t old ≡ Ok new
      → AreTakenFront old new (b ∷ bytes) 1
  byte_taken b bytes t old new fine text taken = one_taken (b ∷ bytes) 1 t old new (omega arith) fine text taken

  -- a cycle behind its `x`, and with a question before it
  pub cycle_taken :
      (lits : List Lit) (bytes : List ℕ) (len : ℕ) (old new : List (Branch W)) (front : IsCycleFront lits bytes len)
      → after (token.Cycle front.1.0) old ≡ Ok new → AreTakenFront old new (120 ∷ bytes) (len + 1)
  cycle_taken lits bytes len old new (within, (picks, fine, text, cycle)) taken =
      one_taken (120 ∷ bytes) (len + 1) (token.Cycle picks) old new (omega (arith, within)) fine
      (text ∙ sym (take_behind 120 bytes len)) taken

  pub skip_taken :
      (lits : List Lit) (bytes : List ℕ) (len : ℕ) (old new : List (Branch W)) (front : IsCycleFront lits bytes len)
      → SkipsTo front.1.0 old new → AreTakenFront old new (63 ∷ 120 ∷ bytes) (len + 2)
  skip_taken lits bytes len old new (within, (picks, fine, text, cycle)) (next, asked, closed) = (
    omega (arith, within),
    more_taken (63 ∷ []) (120 ∷ bytes) (take (len + 2) (63 ∷ 120 ∷ bytes)) (len + 1) old next new
        (byte_taken 63 bytes token.Ask old next tt refl asked).1
        (cycle_taken lits bytes len next new (within, (picks, fine, text, cycle)) closed)
        (take_behind_two 63 120 bytes len),
  )

  -- a token is taken only where a branch is open
  some_open : (t : Tok) (branches next : List (Branch W)) → after t branches ≡ Ok next → 0 < length branches
  some_open t [] next taken = absurd (cc)
  some_open t (b ∷ branches) next taken = omega arith

  -- tokens that are taken may stand there
  pub taken_are_open :
      (tokens : List Tok) (old new : List (Branch W)) → AreSpellable tokens → LeaveOpen tokens old new
      → AreOpen (length old) tokens (length new)
  taken_are_open [] old new spellable leave = ap length leave
  taken_are_open (t ∷ tokens) old new spellable leave =
      let next = leave.0 in (
        some_open t old next leave.1,
        spellable.0,
        subst (λ (n : ℕ). AreOpen n tokens (length new)) (open_as_counted t old next leave.1)
            (taken_are_open tokens next new spellable.1 leave.2),
      )

  pub taken_passed :
      (reader : ReaderState) (bytes : List ℕ) (old new : List (Branch W)) → IsBetween reader
      → IsTreeOf (length old) (reader_place_of reader)
      → AreTaken bytes old new → IsPassed reader bytes (length new)
  taken_passed (Reading (Tree came names branches) offset begun) bytes old new between tree
      (tokens, spellable, text, leave) = (
        (cc),
        (
          tokens,
          subst (λ (n : ℕ). AreOpen n tokens (length new)) (sym tree)
              (taken_are_open tokens old new spellable leave),
          text,
        ),
      )
  taken_passed (Reading (Start tp1 tp2) offset begun) bytes old new between tree taken = absurd tree
  taken_passed (Reading (Line came names) offset begun) bytes old new between tree taken = absurd tree
  taken_passed (Reading Finish offset begun) bytes old new between tree taken = absurd tree
  taken_passed (Refused e) bytes old new between tree taken = absurd tree

-- a reader that passed tokens is behind them in the same tree
pub behind_passed :
    (reader now : ReaderState) (len old new : ℕ) → IsBetween reader → IsTreeOf old (reader_place_of reader)
    → now ≡ passed reader len new
    → now ≡ Reading (tree_with new (reader_place_of reader)) (reader_offset_of reader + len) []
behind_passed (Reading (Tree came names branches) offset begun) now len old new between tree is =
    let none : begun ≡ [] = cc in is ∙ ap (λ (l : List ℕ). Reading (Tree came names new) (offset + len) l) none
behind_passed (Reading (Start tp1 tp2) offset begun) now len old new between tree is = absurd tree
behind_passed (Reading (Line came names) offset begun) now len old new between tree is = absurd tree
behind_passed (Reading Finish offset begun) now len old new between tree is = absurd tree
behind_passed (Refused e) now len old new between tree is = absurd tree

pub tree_there : (place : PartPlace) (old new : ℕ) → IsTreeOf old place → IsTreeOf new (tree_with new place)
    × (tree_with 0 (tree_with new place) ≡ tree_with 0 place)
tree_there (Tree came names branches) old new is = (refl, refl)
tree_there (Start tp1 tp2) old new is = absurd is
tree_there (Line came names) old new is = absurd is
tree_there Finish old new is = absurd is

module _ {W : Type 0} (plan : ObName → Plan W) (end : Result (Unit {0}) JudgeError) where
  point_at : PartPlace → ℕ → List (Branch W) → Point W
  point_at place offset branches = record { place = place; offset = offset; branches = branches }

  -- what is judged behind tokens that are taken is judged of them and what is behind them
  judged_tokens :
      (tokens : List Tok) (came : ℕ) (names : List ObName) (branches offset : ℕ)
      (old new : List (Branch W)) (rest : List ℕ)
      → branches ≡ length old → AreSpellable tokens → LeaveOpen tokens old new
      → IsJudged plan end (record {
        place = Tree came names (length new);
        offset = offset + length (tokens_text tokens);
        branches = new;
      }) rest
      → IsJudged plan end (record { place = Tree came names branches; offset = offset; branches = old })
      (tokens_text tokens ++ rest)
  judged_tokens [] came names branches offset old new rest is spellable leave judged =
      let here =
      subst (λ (b : List (Branch W)). IsJudged plan end
      (record { place = Tree came names (length b); offset = offset + 0; branches = b }) rest) leave judged in
      subst (λ (n : ℕ). IsJudged plan end (record { place = Tree came names n; offset = offset; branches = old }) rest)
      (sym is) (subst (λ (n : ℕ). IsJudged plan end
      (record { place = Tree came names (length old); offset = n; branches = old }) rest) (add-zero offset) here)
  judged_tokens (t ∷ tokens) came names branches offset old new rest is spellable leave judged =
      let next = leave.0 in
      let counted : open_after branches t ≡ length next = rw is (sym (open_as_counted t old next leave.1)) in
      let offset_is : offset + length (tokens_text (t ∷ tokens))
      ≡ (offset + length (token_text t)) + length (tokens_text tokens) =
      omega (arith, length-append (token_text t) (tokens_text tokens)) in
      let behind =
      judged_tokens tokens came names (open_after branches t) (offset + length (token_text t)) next new rest
      counted spellable.1 leave.2
      (subst (λ (n : ℕ). IsJudged plan end (record { place = Tree came names (length new); offset = n; branches = new })
      rest) offset_is judged) in
      let some : 0 < branches = rw is (some_open t old next leave.1) in
      rw (append_assoc (token_text t) (tokens_text tokens) rest)
      (judged_behind plan end (record { place = Tree came names branches; offset = offset; branches = old })
      (part.Tok t)
      (token_text t ++ (tokens_text tokens ++ rest)) (tokens_text tokens ++ rest) next
      (some, spellable.0) refl leave.1 behind)

  -- so it is at each place, since tokens are taken within a tree alone
  judged_at :
      (place : PartPlace) (offset : ℕ) (bytes rest : List ℕ) (old new : List (Branch W)) → IsTreeOf (length old) place
      → AreTaken bytes old new
      → IsJudged plan end
      (record { place = tree_with (length new) place; offset = offset + length bytes; branches = new }) rest
      → IsJudged plan end (record { place = place; offset = offset; branches = old }) (bytes ++ rest)
  judged_at (Tree came names branches) offset bytes rest old new tree (tokens, spellable, text, leave) judged =
      subst (λ (l : List ℕ). IsJudged plan end (record {
        place = Tree came names branches;
        offset = offset;
        branches =
            old;
      }) (l ++ rest)) text (judged_tokens tokens came names branches offset old new rest tree spellable leave
      (subst (λ (l : List ℕ). IsJudged plan end (record {
        place = Tree came names (length new);
        offset = offset + length l;
        branches = new;
      }) rest) (sym text) judged))
  judged_at (Start tp1 tp2) offset bytes rest old new tree taken judged = absurd tree
  judged_at (Line came names) offset bytes rest old new tree taken judged = absurd tree
  judged_at Finish offset bytes rest old new tree taken judged = absurd tree

module _ {F W : Type 0} (feeds : Ghosts F) (was now : Fed F) (bytes : List ℕ) (old new : List (Branch W)) where
  -- tokens that are taken of a feed lead behind them
  pub leads_taken :
      IsTreeOf (length old) (reader_place_of was.reader) → Took feeds was.feed now.feed bytes → AreTaken bytes old new
      → now.reader ≡ Reading (tree_with (length new) (reader_place_of was.reader))
      (reader_offset_of was.reader + length bytes) []
      → LeadsAnyway feeds (stand was old) (stand now new)
  leads_taken tree took taken there plan all rest may = (
    bytes ++ rest,
    given_of feeds was.feed now.feed bytes took all rest may,
    λ end judged.
        judged_at plan end (reader_place_of was.reader) (reader_offset_of was.reader) bytes rest old new tree taken
        (subst (λ (r : ReaderState). IsJudged plan end (point_of (stand (fed r now.feed) new)) rest) there judged),
  )

module _ {F W : Type 0} (feeds : Ghosts F) (was now : Fed F) (old new : List (Branch W)) where
  -- a reader and its feed behind tokens that were taken at hand
  pub record IsBehindTokens : Type 0 where
    pub between : IsBetween now.reader
    pub tree : IsTreeOf (length new) (reader_place_of now.reader)
    pub same_tree : tree_with 0 (reader_place_of now.reader) ≡ tree_with 0 (reader_place_of was.reader)
    pub leads : LeadsAnyway feeds (stand was old) (stand now new)
    pub leaves : GoesOn feeds was now

  -- behind tokens that were taken from what is at hand, the reader is between parts of the same tree
  pub behind_tokens :
      (bytes : List ℕ) (count behind : ℕ) → IsBetween was.reader → IsTreeOf (length old) (reader_place_of was.reader)
      → (bytes ≡ feeds.hand was.feed) × (count ≤ length bytes) → Consumes feeds was.feed now.feed count
      → KeepsFeed feeds was.feed now.feed
      → AreTaken (take count bytes) old new → behind ≡ length new
      → now.reader ≡ passed was.reader (length (take count bytes)) behind
      → IsBehindTokens
  behind_tokens bytes count behind between tree at_hand consumes kept taken counted is =
      let there =
      behind_passed was.reader now.reader (length (take count bytes)) (length old) (length new) between tree
      (is ∙ ap (λ (n : ℕ). passed was.reader (length (take count bytes)) n) counted) in
      let same : IsAsked feeds was.feed was.feed = record { left = refl; bound = refl; gave = refl } in
      let took = took_of feeds was.feed was.feed now.feed bytes count at_hand same consumes in
      let place : reader_place_of now.reader ≡ tree_with (length new) (reader_place_of was.reader) =
      ap reader_place_of there in
      let in_tree = tree_there (reader_place_of was.reader) (length old) (length new) tree in
      let fed_was : fed_to was.reader ≡ reader_offset_of was.reader + 0 = ap fed_to between in
      let fed_now : fed_to now.reader ≡ (reader_offset_of was.reader + length (take count bytes)) + 0 =
      ap fed_to there in
      record {
        between = there ∙ ap (λ (r : ReaderState). Reading (reader_place_of r) (reader_offset_of r) []) (sym there);
        tree = subst (λ (p : PartPlace). IsTreeOf (length new) p) (sym place) in_tree.0;
        same_tree = ap (tree_with 0) place ∙ in_tree.1;
        leads = leads_taken feeds was now (take count bytes) old new tree took taken there;
        leaves = record {
          kept = kept;
          room = omega (arith, fed_was, fed_now, took.bound);
          spent = tt;
          failed = tt;
        };
      }
