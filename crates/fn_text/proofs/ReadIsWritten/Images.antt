-- Reading makes of tokens what the phrases that they write are made into: with any maker the reader goes
-- through the images of the states that it goes through where it keeps phrases.
use Rattle.std.proofs.Common.{◌≡◌, ℕ, zero, suc, Bool, true, false, List, [], ◌∷◌, ◌++◌, map, cond, Option, Some, None}
use Rattle.std.proofs.Common.{option_map, Result, Ok, Err, refl, sym, ap, ◌∙◌}
use Rattle.std.proofs.lemmas.List.{map-append}
use Rattle.fn_rules.specs.declared.guard.Tightness.{Tightness}
use Rattle.fn_rules.specs.declared.guard.Tightness.TheVariants.{Loose, Joined, Tight}
use Rattle.fn_rules.specs.declared.function.Head.{Head}
use Rattle.fn_tokens.specs.declared.fault.TextFault.{TextFault}
use Rattle.fn_tokens.specs.declared.token.Placed.{Placed}
use Rattle.fn_tokens.specs.declared.control.Want.{Want}
use Rattle.fn_tokens.specs.declared.control.Want.TheVariants as wants
use Rattle.fn_tokens.specs.declared.control.TokenMove.{TokenMove}
use Rattle.fn_tokens.specs.declared.control.TokenMove.TheVariants as moves
use Rattle.fn_tokens.specs.Moves.{move_for}
use Rattle.fn_tokens.specs.Meaning.{Maker}
use Rattle.fn_text.specs.Reader.{Nesting, State, negate, join, choose, conjunction, disjunction, blocks_of}
use Rattle.fn_text.specs.Reader.{closed_parentheses, moved, after_move, ended, read_from}
use Rattle.fn_grammar.specs.Grammar.{Phrase, made, WrittenBlock, case_made, block_made}
use Rattle.fn_text.proofs.WrittenIsRead.Guards.{going}
use Rattle.fn_text.proofs.ReadIsWritten.States.{to_phrases, Phrases}

module _ {V : Tightness → Type 0} {K B : Type 0} (m : Maker V K B) where
  abbrev pub level_made : Nesting Phrase → Nesting V
  level_made level = record {
    outside = level.outside;
    nots = level.nots;
    any = option_map (made m) level.any;
    all = option_map (made m) level.all;
  }

  -- the image of a state
  abbrev pub state_made : Phrases → State V K B
  state_made s = record {
    control = s.control;
    any = option_map (made m) s.any;
    all = option_map (made m) s.all;
    last = made m s.last;
    outer = map (level_made) s.outer;
    guard = made m s.guard;
    cases = map (case_made m) s.cases;
    done = map (block_made m) s.done;
  }

  negate_made : (n : ℕ) (u : Phrase Tight) → negate m n (made m u) ≡ made m (negate to_phrases n u)
  negate_made zero u = refl
  negate_made (suc n) u = ap (λ x. m.negated x) (negate_made n u)

  join_made : (all : Option (Phrase Joined)) (u : Phrase Tight) →
      join m (option_map (made m) all) (made m u) ≡ made m (join to_phrases all u)
  join_made None u = refl
  join_made (Some c) u = refl

  choose_made : (any : Option (Phrase Loose)) (c : Phrase Joined) →
      choose m (option_map (made m) any) (made m c) ≡ made m (choose to_phrases any c)
  choose_made None c = refl
  choose_made (Some d) c = refl

  conjunction_made : (s : Phrases) → conjunction m (state_made s) ≡ made m (conjunction to_phrases s)
  conjunction_made s =
      ap (λ x. join m (option_map (made m) s.all) x) (negate_made s.control.nots s.last)
      ∙ join_made s.all (negate to_phrases s.control.nots s.last)

  disjunction_made : (s : Phrases) → disjunction m (state_made s) ≡ made m (disjunction to_phrases s)
  disjunction_made s =
      ap (λ x. choose m (option_map (made m) s.any) x) (conjunction_made s)
      ∙ choose_made s.any (conjunction to_phrases s)

  begun_made : (begun : Bool) (done : List WrittenBlock) (block : WrittenBlock) →
      cond begun (map (block_made m) done ++ block_made m block ∷ []) (map (block_made m) done)
      ≡ map (block_made m) (cond begun (done ++ block ∷ []) done)
  begun_made true done block = sym (map-append (block_made m) done (block ∷ []))
  begun_made false done block = refl

  blocks_made : (s : Phrases) → blocks_of m (state_made s) ≡ map (block_made m) (blocks_of to_phrases s)
  blocks_made s =
      begun_made s.control.begun s.done (record { first = s.control.first; second = s.control.second; cases = s.cases })

  closed_made : (s : Phrases) (levels : List (Nesting Phrase)) →
      closed_parentheses m (state_made s) (map (level_made) levels)
      ≡ state_made (closed_parentheses to_phrases s levels)
  closed_made s [] = refl
  closed_made s (level ∷ levels) =
      ap (λ x. record (state_made (closed_parentheses to_phrases s (level ∷ levels))) { last = m.round x })
      (disjunction_made s)

  -- a move on the image of a state is the image of the move
  pub moved_made : (s : Phrases) (move : TokenMove) → moved m (state_made s) move ≡ state_made (moved to_phrases s move)
  moved_made s (moves.Skip want) = refl
  moved_made s (moves.SetLanguage language) = refl
  moved_made s (moves.SetMode mode) = refl
  moved_made s (moves.Declare kind) = refl
  moved_made s moves.AssumeSites = refl
  moved_made s moves.AssumeChars = refl
  moved_made s (moves.BlockWord line column) = refl
  moved_made s (moves.BeginBlock k l) =
      ap (λ x. record (state_made (moved to_phrases s (moves.BeginBlock k l))) { done = x }) (blocks_made s)
  moved_made s moves.BeginCase = refl
  moved_made s moves.Open = refl
  moved_made s moves.Negate = refl
  moved_made s moves.Always = refl
  moved_made s (moves.BeginAtom sort left) = refl
  moved_made s (moves.Compare sort left cmp) = refl
  moved_made s (moves.Shift left cmp sign n) = refl
  moved_made s moves.And =
      ap (λ x. record (state_made (moved to_phrases s moves.And)) { all = Some x }) (conjunction_made s)
  moved_made s moves.Or =
      ap (λ x. record (state_made (moved to_phrases s moves.Or)) { any = Some x }) (disjunction_made s)
  moved_made s moves.Close = closed_made s s.outer
  moved_made s moves.Colon =
      ap (λ x. record (state_made (moved to_phrases s moves.Colon)) { guard = x }) (disjunction_made s)
  moved_made s (moves.EndCase result) =
      ap (λ x. record (state_made (moved to_phrases s (moves.EndCase result))) { cases = x })
      (sym (map-append (case_made m) s.cases (record { guard = s.guard; result = result } ∷ [])))
  moved_made s moves.End =
      ap (λ x. record (state_made (moved to_phrases s moves.End)) { done = x }) (blocks_made s)

  -- what blocks are made into
  abbrev pub parts_made : Result (Head × List WrittenBlock) TextFault → Result (Head × List B) TextFault
  parts_made (Ok parts) = Ok (parts.0, map (block_made m) parts.1)
  parts_made (Err fault) = Err fault

  ended_made : (s : Phrases) (want : Want) → ended (state_made s) want ≡ parts_made (ended s want)
  ended_made s wants.Nothing = refl
  ended_made s _ = refl

  going_made : (s : Phrases) (at : Placed) (rest : List Placed) →
      ((after : Phrases) → read_from m (state_made after) rest ≡ parts_made (read_from to_phrases after rest)) →
      (move : Option TokenMove) →
      going m rest (after_move m (state_made s) at move)
      ≡ parts_made (going to_phrases rest (after_move to_phrases s at move))
  going_made s at rest others None = refl
  going_made s at rest others (Some move) =
      ap (λ x. read_from m x rest) (moved_made s move) ∙ others (moved to_phrases s move)

  -- reading from an image gives the image
  pub read_made : (s : Phrases) (ps : List Placed)
      → read_from m (state_made s) ps ≡ parts_made (read_from to_phrases s ps)
  read_made s [] = ended_made s s.control.want
  read_made s (at ∷ rest) =
      going_made s at rest (λ after. read_made after rest) (move_for s.control at s.control.want at.token)
