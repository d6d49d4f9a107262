-- A token that goes on in a guard: what is known of the state behind it.
use Rattle.std.proofs.lemmas.Bool.{and_from, ltb-true, eqb-true}
use Rattle.fn_tokens.specs.declared.token.Token.TheVariants as tokens
use Rattle.std.proofs.Common.{◌≡◌, ℕ, zero, suc, ◌+◌, ◌<◌, ◌≤◌, Bool, true, List, [], ◌∷◌, ◌++◌, Option, Some, None}
use Rattle.std.proofs.Common.{refl, sym, ap, ◌∙◌, append_assoc, append-nil, add-one, arith}
use Rattle.fn_rules.specs.declared.guard.Sort.{Sort}
use Rattle.fn_rules.specs.declared.guard.Sort.TheVariants.{Pos, Site, Char}
use Rattle.fn_rules.specs.declared.guard.Side.{Side}
use Rattle.fn_rules.specs.declared.guard.Cmp.{Cmp}
use Rattle.fn_rules.specs.declared.guard.Tightness.{Tightness}
use Rattle.fn_rules.specs.declared.guard.Tightness.TheVariants.{Loose, Joined, Tight}
use Rattle.fn_rules.specs.Formulas.{other_side}
use Rattle.fn_tokens.specs.declared.token.Token.{Token}
use Rattle.fn_tokens.specs.declared.token.Token.TheVariants.{Known, Number, Open, Close, Colon}
use Rattle.fn_tokens.specs.declared.token.Word.TheVariants as words
use Rattle.fn_tokens.specs.declared.token.Sign.{Sign}
use Rattle.fn_tokens.specs.declared.control.Want.TheVariants as wants
use Rattle.fn_tokens.specs.declared.control.TokenMove.{TokenMove}
use Rattle.fn_tokens.specs.declared.control.TokenMove.TheVariants as moves
use Rattle.fn_tokens.specs.Controls.{has_chars}
use Rattle.fn_tokens.specs.FixedMoves.{at_fixed}
use Rattle.fn_tokens.specs.GuardMoves.{at_operand, at_operator, at_offset}
use Rattle.fn_text.specs.Reader.{Nesting, negate, join, choose, disjunction, closed_parentheses, moved}
use Rattle.fn_grammar.specs.Grammar.{Phrase, Compare, Shifted, written_as, atoms_in, nesting_in, is_allowed_phrase}
use Rattle.fn_text.proofs.ReadIsWritten.Moves.{by_operand, by_comparison, by_right, by_operator, by_offset, by_number}
use Rattle.fn_text.proofs.ReadIsWritten.States.{to_phrases, Phrases, front_of, allowed_part, atoms_part, nesting_part}
use Rattle.fn_text.proofs.ReadIsWritten.States.{nots_front, level_front, levels_front, atoms_of_level, atoms_of_levels}
use Rattle.fn_text.proofs.ReadIsWritten.States.{here, guard_front, IsNesting, AreNestings, IsOperand, lines_of, Reached}

-- behind a token and its move the state is reached by one token more
abbrev pub Steps : Phrases → List Token → Token → TokenMove → Type 0
Steps s ts t move = Reached (moved to_phrases s move) (moved to_phrases s move).control.want (ts ++ t ∷ [])

-- operands behind `not`
nots_written : (n : ℕ) (u : Phrase Tight) → written_as (negate to_phrases n u) ≡ nots_front n ++ written_as u
nots_written zero u = refl
nots_written (suc n) u = ap (λ x. Known words.Not ∷ x) (nots_written n u)

nots_more : (n : ℕ) → nots_front (suc n) ≡ nots_front n ++ Known words.Not ∷ []
nots_more zero = refl
nots_more (suc n) = ap (λ x. Known words.Not ∷ x) (nots_more n)

-- what parentheses have told, with an operand behind it
abbrev pub conjunction_at : Nesting Phrase → Phrase Tight → Phrase Joined
conjunction_at level last = join to_phrases level.all (negate to_phrases level.nots last)

abbrev pub disjunction_at : Nesting Phrase → Phrase Tight → Phrase Loose
disjunction_at level last = choose to_phrases level.any (conjunction_at level last)

behind_and : (c nots last : List Token)
    → c ++ Known words.And ∷ (nots ++ last) ≡ c ++ Known words.And ∷ [] ++ nots ++ last
behind_and c nots last = simp append_assoc

join_written : (all : Option (Phrase Joined)) (n : ℕ) (u : Phrase Tight) →
    written_as (join to_phrases all (negate to_phrases n u))
    ≡ front_of (Known words.And) all ++ nots_front n ++ written_as u
join_written None n u = nots_written n u
join_written (Some c) n u =
    ap (λ x. written_as c ++ Known words.And ∷ x) (nots_written n u)
    ∙ behind_and (written_as c) (nots_front n) (written_as u)

choose_written : (any : Option (Phrase Loose)) (c : Phrase Joined) →
    written_as (choose to_phrases any c) ≡ front_of (Known words.Or) any ++ written_as c
choose_written None c = refl
choose_written (Some d) c = sym (append_assoc (written_as d) (Known words.Or ∷ []) (written_as c))

-- a phrase that was read in its parentheses
pub record IsPhrase {t : Tightness} (chars : Bool) (outside : ℕ) (atoms : ℕ) (p : Phrase t) : Type 0 where
  pub allowed : is_allowed_phrase chars p ≡ true
  pub nested : outside + nesting_in p ≤ 32
  pub counted : atoms_in p ≡ atoms

-- operands behind `not` are phrases where the operand is one, inside the `not` too
nots_is : (chars : Bool) (outside atoms n : ℕ) (u : Phrase Tight) → IsPhrase chars (outside + n) atoms u →
    IsPhrase chars outside atoms (negate to_phrases n u)
nots_is chars outside atoms zero u p =
    let nested = p.nested in record { allowed = p.allowed; nested = omega (arith, nested); counted = p.counted }
nots_is chars outside atoms (suc n) u p =
    let nested = p.nested in
    let inner = nots_is chars (outside + 1) atoms n u
    record { allowed = p.allowed; nested = omega (arith, nested); counted = p.counted } in
    let depth = inner.nested in
    record { allowed = inner.allowed; nested = omega (arith, depth); counted = inner.counted }

-- so is what an operand ends, behind what stands before the last `and`
join_is : (chars : Bool) (outside atoms : ℕ) (all : Option (Phrase Joined)) (u : Phrase Tight)
    → allowed_part chars all ≡ true → outside + nesting_part all ≤ 32 → IsPhrase chars outside atoms u →
    IsPhrase chars outside (atoms_part all + atoms) (join to_phrases all u)
join_is chars outside atoms None u before around p =
    let count = p.counted in record { allowed = p.allowed; nested = p.nested; counted = omega (arith, count) }
join_is chars outside atoms (Some c) u before around p =
    let nested = p.nested in
    let count = p.counted in
    record {
      allowed = and_from _ _ before p.allowed;
      nested = omega (arith, around, nested);
      counted = omega (arith, count);
    }

-- and behind what stands before the last `or`
choose_is : (chars : Bool) (outside atoms : ℕ) (any : Option (Phrase Loose)) (c : Phrase Joined)
    → allowed_part chars any ≡ true → outside + nesting_part any ≤ 32 → IsPhrase chars outside atoms c →
    IsPhrase chars outside (atoms_part any + atoms) (choose to_phrases any c)
choose_is chars outside atoms None c before around p =
    let count = p.counted in record { allowed = p.allowed; nested = p.nested; counted = omega (arith, count) }
choose_is chars outside atoms (Some d) c before around p =
    let nested = p.nested in
    let count = p.counted in
    record {
      allowed = and_from _ _ before p.allowed;
      nested = omega (arith, around, nested);
      counted = omega (arith, count);
    }

-- the conjunction that an operand ends is within the limits, where its level and the operand are
conjunction_is : (chars : Bool) (level : Nesting Phrase) (last : Phrase Tight) → IsNesting chars level → IsOperand chars
    level last → IsPhrase chars level.outside (atoms_part level.all + atoms_in last) (conjunction_at level last)
conjunction_is chars level last inner operand =
    join_is chars level.outside (atoms_in last) level.all (negate to_phrases level.nots last) inner.all_allowed
    inner.all_nested (nots_is chars level.outside (atoms_in last) level.nots last
    record { allowed = operand.last_allowed; nested = operand.last_nested; counted = refl })

-- so is the disjunction that it ends
pub disjunction_is : (chars : Bool) (level : Nesting Phrase) (last : Phrase Tight) → IsNesting chars level →
    IsOperand chars level last
    → IsPhrase chars level.outside (atoms_of_level level + atoms_in last) (disjunction_at level last)
disjunction_is chars level last inner operand =
    let whole = choose_is chars level.outside (atoms_part level.all + atoms_in last) level.any
    (conjunction_at level last) inner.any_allowed inner.any_nested (conjunction_is chars level last inner operand) in
    let count = whole.counted in
    record { allowed = whole.allowed; nested = whole.nested; counted = omega (arith, count) }

pub disjunction_written : (level : Nesting Phrase) (last : Phrase Tight) →
    written_as (disjunction_at level last) ≡ level_front level ++ written_as last
disjunction_written level last =
    choose_written level.any (conjunction_at level last)
    ∙ (ap (λ x. front_of (Known words.Or) level.any ++ x) (join_written level.all level.nots last)
    ∙ (regrouped (front_of (Known words.Or) level.any) (front_of (Known words.And) level.all)
    (nots_front level.nots) (written_as last)))
  where
    regrouped : (a b c d : List Token) → a ++ (b ++ c ++ d) ≡ a ++ b ++ c ++ d
    regrouped a b c d = simp append_assoc

-- more tokens in the guard of a case
pub in_case : (lines ts guard more : List Token) → ts ≡ lines ++ Known words.Case ∷ guard →
    ts ++ more ≡ lines ++ Known words.Case ∷ (guard ++ more)
in_case lines ts guard more e =
    ap (λ x. x ++ more) e ∙ append_assoc lines (Known words.Case ∷ guard) more

-- the same, where the tokens of the guard are told otherwise then
pub retold : (lines ts guard more whole : List Token) → ts ≡ lines ++ Known words.Case ∷ guard → guard ++ more ≡ whole →
    ts ++ more ≡ lines ++ Known words.Case ∷ whole
retold lines ts guard more whole e f =
    in_case lines ts guard more e ∙ ap (λ x. lines ++ Known words.Case ∷ x) f

opened_front : (levels level : List Token) → (levels ++ level) ++ Open ∷ [] ≡ (levels ++ level ++ Open ∷ []) ++ []
opened_front levels level = simp (append_assoc, append-nil)

negated_front : (levels any all : List Token) (n : ℕ) →
    levels ++ (any ++ all ++ nots_front n) ++ Known words.Not ∷ [] ≡ levels ++ (any ++ all ++ nots_front (n + 1))
negated_front levels any all n = rw (add-one, nots_more n) (simp append_assoc)

-- a token that goes on where an operand is wanted
pub operand_steps : (s : Phrases) (ts : List Token) (t : Token) (move : TokenMove) → Reached s wants.Operand ts →
    at_operand s.control t ≡ Some move → Steps s ts t move
operand_steps s ts t move h e =
    let guard = h.0.1 in
    let atoms = h.0.2 in
    let few = h.0.3 in
    let depth = guard.depth in
    let inner = guard.inner in
    let front = guard_front s in
    by_operand (Steps s ts) s.control t move e
    (λ test.
    let room : s.control.outside + s.control.nots < 32 = ltb-true _ _ test in (
      (
        h.0.0,
        record {
          inner =
              record {
                any_allowed = refl;
                all_allowed = refl;
                any_nested = omega (arith, room);
                all_nested = omega (arith, room);
              };
          around = (refl, inner, guard.around);
          depth = omega (arith, room);
        },
        omega (arith, atoms),
        few,
      ),
      retold (lines_of s) ts front (Open ∷ []) _ h.1 (opened_front (levels_front s.outer) (level_front (here s))),
    ))
    (λ test.
    let room : s.control.outside + s.control.nots < 32 = ltb-true _ _ test in (
      (
        h.0.0,
        record {
          inner =
              record {
                any_allowed = inner.any_allowed;
                all_allowed = inner.all_allowed;
                any_nested = inner.any_nested;
                all_nested =
                    inner.all_nested;
              };
          around = guard.around;
          depth = omega (arith, room);
        },
        atoms,
        few,
      ),
      retold (lines_of s) ts front (Known words.Not ∷ []) _ h.1
          (negated_front (levels_front s.outer) (front_of (Known words.Or) s.any)
          (front_of (Known words.And) s.all) s.control.nots),
    ))
    (λ test.
    let room : s.control.atoms < 16 = ltb-true _ _ test in (
      (
        (h.0.0, guard, omega (arith, atoms), omega (arith, room)),
        record { last_allowed = refl; last_nested = omega (arith, depth) },
      ),
      in_case (lines_of s) ts front (Known words.True ∷ []) h.1,
    ))
    (λ sort side test chars.
    let room : s.control.atoms < 16 = ltb-true _ _ test in (
      (h.0.0, guard, omega (arith, atoms), omega (arith, room)),
      chars,
      in_case (lines_of s) ts front (Known (words.Thing sort side) ∷ []) h.1,
    ))

pub comparison_steps : (s : Phrases) (sort : Sort) (left : Side) (ts : List Token) (t : Token) (move : TokenMove) →
    Reached s (wants.Comparison sort left) ts → at_fixed (wants.Comparison sort left) t ≡ Some move → Steps s ts t move
comparison_steps s sort left ts t move h e =
    by_comparison (Steps s ts) sort left t move e
    (λ cmp. (
      h.0,
      h.1,
      retold (lines_of s) ts _ (tokens.Comparison cmp ∷ []) _ h.2
          (append_assoc (guard_front s) (Known (words.Thing sort left) ∷ []) (tokens.Comparison cmp ∷ [])),
    ))

-- an atom without an offset
compared_steps : (s : Phrases) (sort : Sort) (left : Side) (cmp : Cmp) (ts : List Token) →
    Reached s (wants.Right sort left cmp) ts
    → Steps s ts (Known (words.Thing sort (other_side left))) (moves.Compare sort left cmp)
compared_steps s Pos left cmp ts h =
    let depth = h.0.1.depth in (
      ((h.0.0, h.0.1, h.0.2, h.0.3), record { last_allowed = h.1; last_nested = omega (arith, depth) }),
      refl,
      retold (lines_of s) ts _ _ _ h.2
          (append_assoc (guard_front s) (Known (words.Thing Pos left) ∷ tokens.Comparison cmp ∷ [])
          (Known (words.Thing Pos (other_side left)) ∷ [])),
    )
compared_steps s Site left cmp ts h =
    let depth = h.0.1.depth in (
      ((h.0.0, h.0.1, h.0.2, h.0.3), record { last_allowed = h.1; last_nested = omega (arith, depth) }),
      retold (lines_of s) ts _ _ _ h.2
          (append_assoc (guard_front s) (Known (words.Thing Site left) ∷ tokens.Comparison cmp ∷ [])
          (Known (words.Thing Site (other_side left)) ∷ [])),
    )
compared_steps s Char left cmp ts h =
    let depth = h.0.1.depth in (
      ((h.0.0, h.0.1, h.0.2, h.0.3), record { last_allowed = h.1; last_nested = omega (arith, depth) }),
      retold (lines_of s) ts _ _ _ h.2
          (append_assoc (guard_front s) (Known (words.Thing Char left) ∷ tokens.Comparison cmp ∷ [])
          (Known (words.Thing Char (other_side left)) ∷ [])),
    )

pub right_steps : (s : Phrases) (sort : Sort) (left : Side) (cmp : Cmp) (ts : List Token) (t : Token) (move : TokenMove)
    → Reached s (wants.Right sort left cmp) ts → at_fixed (wants.Right sort left cmp) t ≡ Some move → Steps s ts t move
right_steps s sort left cmp ts t move h e =
    by_right (Steps s ts) sort left cmp t move e (compared_steps s sort left cmp ts h)

both_front : (levels any all nots conjunction last : List Token) (t : Token) → conjunction ≡ all ++ nots ++ last →
    levels ++ (any ++ all ++ nots) ++ last ++ t ∷ [] ≡ levels ++ (any ++ (conjunction ++ t ∷ []) ++ [])
both_front levels any all nots conjunction last t e = rw e (simp (append_assoc, append-nil))

either_front : (levels disjunction front last : List Token) (t : Token) → disjunction ≡ front ++ last →
    levels ++ front ++ last ++ t ∷ [] ≡ levels ++ ((disjunction ++ t ∷ []) ++ [] ++ [])
either_front levels disjunction front last t e = rw e (simp (append_assoc, append-nil))

-- `and` behind an operand
and_steps : (s : Phrases) (ts : List Token) → Reached s wants.Operator ts → Steps s ts (Known words.And) moves.And
and_steps s ts h =
    let guard = h.0.0.1 in
    let inner = guard.inner in
    let atoms = h.0.0.2 in
    let whole = conjunction_is (has_chars s.control) (here s) s.last inner h.0.1 in
    let count = whole.counted in
    let depth = guard.depth in (
      (
        h.0.0.0,
        record {
          inner =
              record {
                any_allowed = inner.any_allowed;
                all_allowed = whole.allowed;
                any_nested = inner.any_nested;
                all_nested =
                    whole.nested;
              };
          around = guard.around;
          depth = omega (arith, depth);
        },
        omega (arith, atoms, count),
        h.0.0.3,
      ),
      retold (lines_of s) ts _ (Known words.And ∷ []) _ h.1
          (both_front (levels_front s.outer) (front_of (Known words.Or) s.any) _ _ _ (written_as s.last)
          (Known words.And) (join_written s.all s.control.nots s.last)),
    )

-- `or` behind an operand
or_steps : (s : Phrases) (ts : List Token) → Reached s wants.Operator ts → Steps s ts (Known words.Or) moves.Or
or_steps s ts h =
    let guard = h.0.0.1 in
    let inner = guard.inner in
    let atoms = h.0.0.2 in
    let whole = disjunction_is (has_chars s.control) (here s) s.last inner h.0.1 in
    let count = whole.counted in
    let depth = guard.depth in
    let top : s.control.outside + 0 ≤ 32 = omega (arith, depth) in (
      (
        h.0.0.0,
        record {
          inner =
              record { any_allowed = whole.allowed; all_allowed = refl; any_nested = whole.nested; all_nested = top };
          around =
              guard.around;
          depth = top;
        },
        omega (arith, atoms, count),
        h.0.0.3,
      ),
      retold (lines_of s) ts _ (Known words.Or ∷ []) _ h.1
          (either_front (levels_front s.outer) _ _ (written_as s.last) (Known words.Or)
          (disjunction_written (here s) s.last)),
    )

-- `)` behind an operand
closed_front : (levels level inner front last : List Token) → inner ≡ front ++ last →
    (((levels ++ level ++ Open ∷ []) ++ front) ++ last) ++ Close ∷ []
    ≡ (levels ++ level) ++ Open ∷ (inner ++ Close ∷ [])
closed_front levels level inner front last e = rw e (simp append_assoc)

abbrev within : Phrases → List (Nesting Phrase) → Phrases
within s levels = record s { outer = levels }

-- `)` ends the innermost level, and what stood in it is an operand of the next one
closed_steps : (s : Phrases) (levels : List (Nesting Phrase)) (ts : List Token)
    → Reached (within s levels) wants.Operator ts → 0 < s.control.outside →
    Reached (closed_parentheses to_phrases (within s levels) levels)
    (closed_parentheses to_phrases (within s levels) levels).control.want (ts ++ Close ∷ [])
closed_steps s [] ts h some = let none : s.control.outside ≡ 0 = h.0.0.1.around in absurd (omega (arith, none, some))
closed_steps s (level ∷ levels) ts h some =
    let guard = h.0.0.1 in
    let atoms = h.0.0.2 in
    let around = guard.around in
    let outside : s.control.outside ≡ level.outside + level.nots + 1 = around.0 in
    let whole = disjunction_is (has_chars s.control) (here s) s.last guard.inner h.0.1 in
    let count = whole.counted in
    let nested = whole.nested in
    let depth = guard.depth in (
      (
        (
          h.0.0.0,
          record { inner = around.1; around = around.2; depth = omega (arith, depth, outside) },
          omega (arith, atoms, count),
          h.0.0.3,
        ),
        record { last_allowed = whole.allowed; last_nested = omega (arith, nested, outside) },
      ),
      retold (lines_of s) ts _ (Close ∷ []) _ h.1
          (closed_front (levels_front levels) (level_front level) _ _ (written_as s.last)
          (disjunction_written (here s) s.last)),
    )

no_levels : (chars : Bool) (outside : ℕ) (levels : List (Nesting Phrase)) → AreNestings chars outside levels
    → outside ≡ 0 → levels ≡ []
no_levels chars outside [] h none = refl
no_levels chars outside (level ∷ levels) h none = let some = h.0 in absurd (omega (arith, some, none))

colon_front : (levels inner front last : List Token) → levels ≡ [] → inner ≡ front ++ last →
    ((levels ++ front) ++ last) ++ Colon ∷ [] ≡ inner ++ Colon ∷ []
colon_front levels inner front last none e = rw (none, e) refl

-- `:` behind a guard
colon_steps : (s : Phrases) (ts : List Token) → Reached s wants.Operator ts → s.control.outside ≡ 0
    → Steps s ts Colon moves.Colon
colon_steps s ts h none =
    let guard = h.0.0.1 in
    let atoms = h.0.0.2 in
    let few = h.0.0.3 in
    let whole = disjunction_is (has_chars s.control) (here s) s.last guard.inner h.0.1 in
    let count = whole.counted in
    let nested = whole.nested in
    let top : s.outer ≡ [] = no_levels _ _ s.outer guard.around none in
    let counted : s.control.atoms ≡ atoms_of_levels s.outer + atoms_of_level (here s) + atoms_in s.last = atoms in (
      (
        h.0.0.0,
        record { any = refl; all = refl; nots = refl; outside = none; outer_none = top },
        record {
          allowed = whole.allowed;
          few = omega (arith, counted, few, count);
          shallow = omega (arith, nested, none);
        },
      ),
      retold (lines_of s) ts _ (Colon ∷ []) _ h.1
          (colon_front (levels_front s.outer) _ _ (written_as s.last) (ap levels_front top)
          (disjunction_written (here s) s.last)),
    )

pub operator_steps : (s : Phrases) (ts : List Token) (t : Token) (move : TokenMove) → Reached s wants.Operator ts →
    at_operator s.control t ≡ Some move → Steps s ts t move
operator_steps s ts t move h e =
    by_operator (Steps s ts) s.control t move e
    (and_steps s ts h)
    (or_steps s ts h)
    (λ test. closed_steps s s.outer ts h (ltb-true _ _ test))
    (λ test. colon_steps s ts h (eqb-true _ 0 test))

pub offset_steps : (s : Phrases) (left : Side) (cmp : Cmp) (ts : List Token) (t : Token) (move : TokenMove) →
    Reached s (wants.Offset left cmp) ts → at_offset s.control left cmp t ≡ Some move → Steps s ts t move
offset_steps s left cmp ts t move h e =
    by_offset (Steps s ts) s.control left cmp t move e
    (λ sign. (h.0, h.1, in_case (lines_of s) ts (guard_front s ++ written_as s.last) (tokens.Sign sign ∷ []) h.2))
    (operator_steps s ts t move (h.0, h.2))

pub shifted_front : (front : List Token) (left : Side) (cmp : Cmp) (sign : Sign) (n : ℕ) (last : Phrase Tight) →
    last ≡ Compare Pos left cmp →
    front ++ written_as last ++ tokens.Sign sign ∷ [] ++ Number n ∷ [] ≡ front ++ written_as (Shifted left cmp sign n)
shifted_front front left cmp sign n last e =
    ap (λ p. front ++ written_as p ++ tokens.Sign sign ∷ [] ++ Number n ∷ []) e ∙ simp append_assoc

-- the number that ends an atom with an offset
pub number_steps : (s : Phrases) (left : Side) (cmp : Cmp) (sign : Sign) (ts : List Token)
    (t : Token) (move : TokenMove) →
    Reached s (wants.Number left cmp sign) ts → at_fixed (wants.Number left cmp sign) t ≡ Some move → Steps s ts t move
number_steps s left cmp sign ts t move h e =
    let guard = h.0.0.1 in
    let depth = guard.depth in
    let one : atoms_in s.last ≡ 1 = ap (λ p. atoms_in p) h.1 in
    let atoms = h.0.0.2 in
    by_number (Steps s ts) left cmp sign t move e
    (λ n small. (
      (
        (h.0.0.0, guard, omega (arith, atoms, one), h.0.0.3),
        record { last_allowed = small; last_nested = omega (arith, depth) },
      ),
      retold (lines_of s) ts _ (Number n ∷ []) _ h.2 (shifted_front (guard_front s) left cmp sign n s.last h.1),
    ))
