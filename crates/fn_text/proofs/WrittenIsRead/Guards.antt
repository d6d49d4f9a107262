-- What is written by the grammar is read: the guards.
use Rattle.std.proofs.lemmas.Bool.{and_parts, and_from, lt-ltb}
use Rattle.fn_tokens.specs.declared.token.Token.TheVariants as tokens
use Rattle.std.proofs.Common.{◌≡◌, ℕ, zero, suc, ◌+◌, ◌<◌, ◌≤◌, Bool, true, false, List, [], ◌∷◌, ◌++◌, Some, None}
use Rattle.std.proofs.Common.{Result, Ok, Err, refl, sym, ap, ◌∙◌, append_assoc, add-one, arith}
use Rattle.fn_rules.specs.declared.guard.Sort.{Sort}
use Rattle.fn_rules.specs.declared.guard.Sort.TheVariants.{Pos, Site, Char}
use Rattle.fn_rules.specs.declared.guard.Side.{Side}
use Rattle.fn_rules.specs.declared.guard.Side.TheVariants.{First, Second}
use Rattle.fn_rules.specs.declared.guard.Cmp.{Cmp}
use Rattle.fn_rules.specs.declared.guard.Tightness.{Tightness}
use Rattle.fn_rules.specs.declared.guard.Tightness.TheVariants.{Loose, Joined, Tight}
use Rattle.fn_rules.specs.declared.function.Head.{Head}
use Rattle.fn_rules.specs.Formulas.{other_side}
use Rattle.fn_tokens.specs.declared.fault.TextFault.{TextFault}
use Rattle.fn_tokens.specs.declared.token.Token.{Token}
use Rattle.fn_tokens.specs.declared.token.Token.TheVariants.{Known, Number, Open, Close}
use Rattle.fn_tokens.specs.declared.token.Word.TheVariants as words
use Rattle.fn_tokens.specs.declared.token.Placed.{Placed}
use Rattle.fn_tokens.specs.Tokens.{bare}
use Rattle.fn_tokens.specs.declared.control.Want.{Want}
use Rattle.fn_tokens.specs.declared.control.Want.TheVariants as wants
use Rattle.fn_tokens.specs.declared.control.Control.{Control}
use Rattle.fn_tokens.specs.declared.control.TokenMove.{TokenMove}
use Rattle.fn_tokens.specs.declared.control.TokenMove.TheVariants as moves
use Rattle.fn_tokens.specs.Moves.{move_for}
use Rattle.fn_tokens.specs.Meaning.{Maker, may_compare}
use Rattle.fn_tokens.specs.Controls.{allowed, has_chars, depth_of}
use Rattle.fn_tokens.specs.FixedMoves.{at_fixed}
use Rattle.fn_tokens.specs.GuardMoves.{at_operator, at_offset}
use Rattle.fn_text.specs.Reader.{Nesting, State, negate, join, choose, conjunction, disjunction, moved}
use Rattle.fn_text.specs.Reader.{closed_parentheses, read_from, after_move, want_behind}
use Rattle.fn_grammar.specs.Grammar.{Phrase, Always, Compare, Shifted, Negated, Round, One, Both, Single, Either}
use Rattle.fn_grammar.specs.Grammar.{written_as, made, atoms_in, nesting_in, is_allowed_phrase}

-- the same in other parentheses
abbrev pub around : {V : Tightness → Type 0} {K B : Type 0} → State V K B → ℕ → List (Nesting V) → State V K B
around x outside levels = record x { control = record x.control { outside = outside }; outer = levels }

-- behind a phrase an operator is wanted, or an offset in place of it
pub data IsBehind (want : Want) : Type 0 where
  plainly : want ≡ wants.Operator → IsBehind want
  shiftable : (left : Side) (cmp : Cmp) → want ≡ wants.Offset left cmp → IsBehind want

atom_is_behind : (sort : Sort) (left : Side) (cmp : Cmp) → IsBehind (want_behind sort left cmp)
atom_is_behind Pos left cmp = shiftable left cmp refl
atom_is_behind Site left cmp = plainly refl
atom_is_behind Char left cmp = plainly refl

pub allowed_true : (test : Bool) (move : TokenMove) → test ≡ true → allowed test move ≡ Some move
allowed_true true move h = refl
allowed_true false move h = absurd (cc)

-- what is wanted is known
pub at_wanted : (c : Control) (at : Placed) (want : Want) (t : Token) (move : TokenMove) → c.want ≡ want →
    move_for c at want t ≡ Some move → move_for c at c.want t ≡ Some move
at_wanted c at want t move e h = ap (λ w. move_for c at w t) e ∙ h

offset_goes : (c : Control) (left : Side) (cmp : Cmp) (t : Token) (move : TokenMove) → at_operator c t ≡ Some move →
    at_offset c left cmp t ≡ Some move
offset_goes c left cmp (tokens.Sign sign) move h = absurd (cc)
offset_goes c left cmp t move h = h

-- behind a phrase an operator goes on, though an offset might stand there too
pub operator_goes : (c : Control) (at : Placed) (t : Token) (move : TokenMove) → IsBehind c.want
    → at_operator c t ≡ Some move → move_for c at c.want t ≡ Some move
operator_goes c at t move (plainly e) h = at_wanted c at wants.Operator t move e h
operator_goes c at t move (shiftable left cmp e) h =
    at_wanted c at (wants.Offset left cmp) t move e (offset_goes c left cmp t move h)

right_goes : (sort : Sort) (left : Side) (cmp : Cmp) →
    at_fixed (wants.Right sort left cmp) (Known (words.Thing sort (other_side left)))
    ≡ Some (moves.Compare sort left cmp)
right_goes Pos First cmp = refl
right_goes Pos Second cmp = refl
right_goes Site First cmp = refl
right_goes Site Second cmp = refl
right_goes Char First cmp = refl
right_goes Char Second cmp = refl

still_allowed : {t : Tightness} (before now : Bool) (p : Phrase t) → now ≡ before → is_allowed_phrase before p ≡ true
    → is_allowed_phrase now p ≡ true
still_allowed before now p e h = ap (λ x. is_allowed_phrase x p) e ∙ h

module _ {V : Tightness → Type 0} {K B : Type 0} (m : Maker V K B) where
  -- reading goes on, behind some first tokens, in another state
  pub record Leads (s : State V K B) (ps : List Placed) (after : State V K B) (more : List Token) : Type 0 where
    pub rest : List Placed
    pub told : bare rest ≡ more
    pub reads : read_from m s ps ≡ read_from m after rest

  -- reading goes on behind a token that could go on
  abbrev pub going : List Placed → Result (State V K B) TextFault → Result (Head × List B) TextFault
  going rest (Ok after) = read_from m after rest
  going rest (Err fault) = Err fault

  -- one token that can go on
  pub leads_by : (s : State V K B) (ps : List Placed) (t : Token) (more : List Token) (move : TokenMove) → bare ps ≡ t
      ∷ more → ((at : Placed) → move_for s.control at s.control.want t ≡ Some move) → Leads s ps (moved m s move) more
  leads_by s [] t more move e h = absurd (cc)
  leads_by s (at ∷ rest) t more move e h =
      let same : at.token ≡ t = cc in
      let told : bare rest ≡ more = cc in
      let goes : move_for s.control at s.control.want at.token ≡ Some move =
      ap (λ x. move_for s.control at s.control.want x) same ∙ h at in
      record { rest = rest; told = told; reads = ap (λ x. going rest (after_move m s at x)) goes }

  -- first some tokens, and then others
  pub leads_on : (s : State V K B) (ps : List Placed) (middle after : State V K B) (some more : List Token) →
      Leads s ps middle some
      → ((rest : List Placed) → bare rest ≡ some → Leads middle rest after more) → Leads s ps after more
  leads_on s ps middle after some more first others =
      let next = others first.rest first.told in
      record { rest = next.rest; told = next.told; reads = first.reads ∙ next.reads }

  -- the state behind a phrase
  abbrev pub behind : {t : Tightness} → State V K B → Phrase t → State V K B
  behind s Always = moved m s moves.Always
  behind s (Compare sort left cmp) =
      moved m (moved m (moved m s (moves.BeginAtom sort left)) (moves.Skip (wants.Right sort left cmp)))
      (moves.Compare sort left cmp)
  behind s (Shifted left cmp sign n) =
      moved m (moved m (moved m (moved m (moved m s (moves.BeginAtom Pos left)) (moves.Skip (wants.Right Pos left cmp)))
      (moves.Compare Pos left cmp)) (moves.Skip (wants.Number left cmp sign))) (moves.Shift left cmp sign n)
  behind s (Negated u) = behind (moved m s moves.Negate) u
  behind s (Round d) = moved m (behind (moved m s moves.Open) d) moves.Close
  behind s (One u) = behind s u
  behind s (Both c u) = behind (moved m (behind s c) moves.And) u
  behind s (Single c) = behind s c
  behind s (Either d c) = behind (moved m (behind s d) moves.Or) c

  -- what a phrase leaves as it was
  abbrev pub forget : State V K B → State V K B
  forget s = record s {
    control = record s.control { want = wants.Operator; atoms = 0; nots = 0 };
    any = None;
    all = None;
    last = m.always;
  }

  -- closing a level that was opened here leaves all but the last operand as it was
  closed_keeps : (s : State V K B) (inner : State V K B) (levels : List (Nesting V)) → levels ≡ inner.outer →
      forget inner ≡ forget (moved m s moves.Open) → forget (closed_parentheses m inner levels) ≡ forget s
  closed_keeps s inner [] same kept =
      let outer = ap (λ x. x.outer) kept in absurd (cc)
  closed_keeps s inner (level ∷ levels) same kept =
      let whole : level ∷ levels
      ≡ record { outside = s.control.outside; nots = s.control.nots; any = s.any; all = s.all } ∷ s.outer = same
      ∙ ap (λ x. x.outer) kept in
      let here : level ≡ record { outside = s.control.outside; nots = s.control.nots; any = s.any; all = s.all } = cc in
      let others : levels ≡ s.outer = cc in
      ap (λ x. around x level.outside levels) kept
      ∙ (ap (λ n. around (forget s) n levels) (ap (λ x. x.outside) here)
      ∙ ap (λ l. around (forget s) s.control.outside l) others)

  -- so does reading a whole phrase
  pub behind_keeps : {t : Tightness} (s : State V K B) (p : Phrase t) → forget (behind s p) ≡ forget s
  behind_keeps s Always = refl
  behind_keeps s (Compare sort left cmp) = refl
  behind_keeps s (Shifted left cmp sign n) = refl
  behind_keeps s (Negated u) = behind_keeps (moved m s moves.Negate) u
  behind_keeps s (Round d) =
      closed_keeps s (behind (moved m s moves.Open) d) _ refl (behind_keeps (moved m s moves.Open) d)
  behind_keeps s (One u) = behind_keeps s u
  behind_keeps s (Both c u) =
      behind_keeps (moved m (behind s c) moves.And) u ∙ behind_keeps s c
  behind_keeps s (Single c) = behind_keeps s c
  behind_keeps s (Either d c) =
      behind_keeps (moved m (behind s d) moves.Or) c ∙ behind_keeps s d

  closed_atoms : (s : State V K B) (levels : List (Nesting V))
      → (closed_parentheses m s levels).control.atoms ≡ s.control.atoms
  closed_atoms s [] = refl
  closed_atoms s (level ∷ levels) = refl

  -- the atoms behind a phrase
  pub behind_atoms : {t : Tightness} (s : State V K B) (p : Phrase t)
      → (behind s p).control.atoms ≡ s.control.atoms + atoms_in p
  behind_atoms s Always = refl
  behind_atoms s (Compare sort left cmp) = refl
  behind_atoms s (Shifted left cmp sign n) = refl
  behind_atoms s (Negated u) = behind_atoms (moved m s moves.Negate) u
  behind_atoms s (Round d) =
      closed_atoms (behind (moved m s moves.Open) d) _ ∙ behind_atoms (moved m s moves.Open) d
  behind_atoms s (One u) = behind_atoms s u
  behind_atoms s (Both c u) =
      let left = behind_atoms s c in
      let right = behind_atoms (moved m (behind s c) moves.And) u in
      omega (arith, left, right)
  behind_atoms s (Single c) = behind_atoms s c
  behind_atoms s (Either d c) =
      let left = behind_atoms s d in
      let right = behind_atoms (moved m (behind s d) moves.Or) c in
      omega (arith, left, right)

  closed_is_behind : (s : State V K B) (levels : List (Nesting V))
      → (closed_parentheses m s levels).control.want ≡ wants.Operator
  closed_is_behind s [] = refl
  closed_is_behind s (level ∷ levels) = refl

  pub want_is_behind : {t : Tightness} (s : State V K B) (p : Phrase t) → IsBehind (behind s p).control.want
  want_is_behind s Always = plainly refl
  want_is_behind s (Compare sort left cmp) = atom_is_behind sort left cmp
  want_is_behind s (Shifted left cmp sign n) = plainly refl
  want_is_behind s (Negated u) = want_is_behind (moved m s moves.Negate) u
  want_is_behind s (Round d) = plainly (closed_is_behind (behind (moved m s moves.Open) d) _)
  want_is_behind s (One u) = want_is_behind s u
  want_is_behind s (Both c u) = want_is_behind (moved m (behind s c) moves.And) u
  want_is_behind s (Single c) = want_is_behind s c
  want_is_behind s (Either d c) = want_is_behind (moved m (behind s d) moves.Or) c

  -- the three tokens of an atom without an offset
  leads_atom : (s : State V K B) (sort : Sort) (left : Side) (cmp : Cmp) (ps : List Placed) (more : List Token) →
      s.control.want ≡ wants.Operand → s.control.atoms < 16 → may_compare (has_chars s.control) sort ≡ true →
      bare ps ≡ written_as (Compare sort left cmp) ++ more → Leads s ps (behind s (Compare sort left cmp)) more
  leads_atom s sort left cmp ps more want atoms chars e =
      let s1 = moved m s (moves.BeginAtom sort left) in
      let s2 = moved m s1 (moves.Skip (wants.Right sort left cmp)) in
      leads_on s ps s1 (behind s (Compare sort left cmp)) _ more
      (leads_by s ps (Known (words.Thing sort left)) _ (moves.BeginAtom sort left) e
      (λ at. at_wanted s.control at wants.Operand _ _ want (allowed_true _ _ (and_from _ _ (lt-ltb _ _ atoms) chars))))
      (λ rest e1. leads_on s1 rest s2 (behind s (Compare sort left cmp)) _ more
      (leads_by s1 rest (tokens.Comparison cmp) _ (moves.Skip (wants.Right sort left cmp)) e1 (λ at. refl))
      (λ rest2 e2. leads_by s2 rest2 (Known (words.Thing sort (other_side left))) more (moves.Compare sort left cmp) e2
      (λ at. right_goes sort left cmp)))

  pub same_chars : {t : Tightness} (s : State V K B) (p : Phrase t)
      → has_chars (behind s p).control ≡ has_chars s.control
  same_chars s p = ap (λ x. has_chars x.control) (behind_keeps s p)

  pub same_outside : {t : Tightness} (s : State V K B) (p : Phrase t) → (behind s p).control.outside ≡ s.control.outside
  same_outside s p = ap (λ x. x.control.outside) (behind_keeps s p)

  -- what is written as a phrase is read as that phrase
  pub leads : {t : Tightness} (s : State V K B) (p : Phrase t) (ps : List Placed) (more : List Token) →
      s.control.want ≡ wants.Operand → depth_of s.control + nesting_in p ≤ 32 → s.control.atoms + atoms_in p ≤ 16 →
      is_allowed_phrase (has_chars s.control) p ≡ true → bare ps ≡ written_as p ++ more → Leads s ps (behind s p) more
  leads s Always ps more want depth atoms ok e =
      let room : s.control.atoms < 16 = omega arith in
      leads_by s ps (Known words.True) more moves.Always e
      (λ at. at_wanted s.control at wants.Operand _ _ want (allowed_true _ _ (lt-ltb _ _ room)))
  leads s (Compare sort left cmp) ps more want depth atoms ok e =
      let room : s.control.atoms < 16 = omega arith in
      leads_atom s sort left cmp ps more want room ok e
  leads s (Shifted left cmp sign n) ps more want depth atoms ok e =
      let room : s.control.atoms < 16 = omega arith in
      let s1 = behind s (Compare Pos left cmp) in
      let s2 = moved m s1 (moves.Skip (wants.Number left cmp sign)) in
      leads_on s ps s1 (behind s (Shifted left cmp sign n)) (tokens.Sign sign ∷ Number n ∷ more) more
      (leads_atom s Pos left cmp ps (tokens.Sign sign ∷ Number n ∷ more) want room refl e)
      (λ rest e1. leads_on s1 rest s2 (behind s (Shifted left cmp sign n)) (Number n ∷ more) more
      (leads_by s1 rest (tokens.Sign sign) _ (moves.Skip (wants.Number left cmp sign)) e1 (λ at. refl))
      (λ rest2 e2. leads_by s2 rest2 (Number n) more (moves.Shift left cmp sign n) e2 (λ at. allowed_true _ _ ok)))
  leads s (Negated u) ps more want depth atoms ok e =
      let room : depth_of s.control < 32 = omega arith in
      let inner : depth_of (moved m s moves.Negate).control + nesting_in u ≤ 32 = omega arith in
      leads_on s ps (moved m s moves.Negate) (behind s (Negated u)) (written_as u ++ more) more
      (leads_by s ps (Known words.Not) _ moves.Negate e
      (λ at. at_wanted s.control at wants.Operand _ _ want (allowed_true _ _ (lt-ltb _ _ room))))
      (λ rest e1. leads (moved m s moves.Negate) u rest more refl inner atoms ok e1)
  leads s (Round d) ps more want depth atoms ok e =
      let room : depth_of s.control < 32 = omega arith in
      let s1 = moved m s moves.Open in
      let inner : depth_of s1.control + nesting_in d ≤ 32 = omega arith in
      let s2 = behind s1 d in
      let around : 0 < s2.control.outside = let same = same_outside s1 d in omega (arith, same) in
      leads_on s ps s1 (behind s (Round d)) ((written_as d ++ Close ∷ []) ++ more) more
      (leads_by s ps Open _ moves.Open e
      (λ at. at_wanted s.control at wants.Operand _ _ want (allowed_true _ _ (lt-ltb _ _ room))))
      (λ rest e1. leads_on s1 rest s2 (behind s (Round d)) (Close ∷ more) more
      (leads s1 d rest (Close ∷ more) refl inner atoms ok (e1 ∙ append_assoc (written_as d) (Close ∷ []) more))
      (λ rest2 e2. leads_by s2 rest2 Close more moves.Close e2
      (λ at. operator_goes s2.control at Close moves.Close (want_is_behind s1 d)
      (allowed_true _ _ (lt-ltb _ _ around)))))
  leads s (One u) ps more want depth atoms ok e = leads s u ps more want depth atoms ok e
  leads s (Both c u) ps more want depth atoms ok e =
      let s1 = behind s c in
      let s2 = moved m s1 moves.And in
      let first : depth_of s.control + nesting_in c ≤ 32 = omega arith in
      let few : s.control.atoms + atoms_in c ≤ 16 = omega arith in
      let second : depth_of s2.control + nesting_in u ≤ 32 = let same = same_outside s c in omega (arith, same) in
      let fewer : s2.control.atoms + atoms_in u ≤ 16 = let count = behind_atoms s c in omega (arith, count) in
      leads_on s ps s1 (behind s (Both c u)) (Known words.And ∷ (written_as u ++ more)) more
      (leads s c ps (Known words.And ∷ (written_as u ++ more)) want first few (and_parts _ _ ok).0 (e
      ∙ append_assoc (written_as c) (Known words.And ∷ written_as u) more))
      (λ rest e1. leads_on s1 rest s2 (behind s (Both c u)) (written_as u ++ more) more
      (leads_by s1 rest (Known words.And) _ moves.And e1
      (λ at. operator_goes s1.control at (Known words.And) moves.And (want_is_behind s c) refl))
      (λ rest2 e2. leads s2 u rest2 more refl second fewer
      (still_allowed _ _ u (same_chars s c) (and_parts _ _ ok).1) e2))
  leads s (Single c) ps more want depth atoms ok e = leads s c ps more want depth atoms ok e
  leads s (Either d c) ps more want depth atoms ok e =
      let s1 = behind s d in
      let s2 = moved m s1 moves.Or in
      let first : depth_of s.control + nesting_in d ≤ 32 = omega arith in
      let few : s.control.atoms + atoms_in d ≤ 16 = omega arith in
      let second : depth_of s2.control + nesting_in c ≤ 32 = let same = same_outside s d in omega (arith, same) in
      let fewer : s2.control.atoms + atoms_in c ≤ 16 = let count = behind_atoms s d in omega (arith, count) in
      leads_on s ps s1 (behind s (Either d c)) (Known words.Or ∷ (written_as c ++ more)) more
      (leads s d ps (Known words.Or ∷ (written_as c ++ more)) want first few (and_parts _ _ ok).0 (e
      ∙ append_assoc (written_as d) (Known words.Or ∷ written_as c) more))
      (λ rest e1. leads_on s1 rest s2 (behind s (Either d c)) (written_as c ++ more) more
      (leads_by s1 rest (Known words.Or) _ moves.Or e1
      (λ at. operator_goes s1.control at (Known words.Or) moves.Or (want_is_behind s d) refl))
      (λ rest2 e2. leads s2 c rest2 more refl second fewer
      (still_allowed _ _ c (same_chars s d) (and_parts _ _ ok).1) e2))

  -- what a phrase that was read leaves behind, by how tightly it holds together
  abbrev pub Says : (t : Tightness) → State V K B → State V K B → V t → Type 0
  Says Tight s after value =
      (after.any ≡ s.any) × (after.all ≡ s.all)
      × (negate m after.control.nots after.last ≡ negate m s.control.nots value)
  Says Joined s after value =
      s.all ≡ None → s.control.nots ≡ 0 → (after.any ≡ s.any) × (conjunction m after ≡ value)
  Says Loose s after value =
      s.any ≡ None → s.all ≡ None → s.control.nots ≡ 0 → disjunction m after ≡ value

  negate_inside : (n : ℕ) (u : V Tight) → negate m n (m.negated u) ≡ m.negated (negate m n u)
  negate_inside zero u = refl
  negate_inside (suc n) u = ap (λ x. m.negated x) (negate_inside n u)

  negate_more : (n : ℕ) (u : V Tight) → negate m (n + 1) u ≡ negate m n (m.negated u)
  negate_more n u = rw add-one (sym (negate_inside n u))

  closed_says : (s inner : State V K B) (levels : List (Nesting V)) (value : V Loose) →
      levels ≡ record { outside = s.control.outside; nots = s.control.nots; any = s.any; all = s.all } ∷ s.outer →
      disjunction m inner ≡ value → Says Tight s (closed_parentheses m inner levels) (m.round value)
  closed_says s inner [] value same inside = absurd (cc)
  closed_says s inner (level ∷ levels) value same inside =
      let here : level ≡ record { outside = s.control.outside; nots = s.control.nots; any = s.any; all = s.all } = cc in
      let any : level.any ≡ s.any = ap (λ x. x.any) here in
      let all : level.all ≡ s.all = ap (λ x. x.all) here in
      let nots : level.nots ≡ s.control.nots = ap (λ x. x.nots) here in (
        any,
        all,
        ap (λ n. negate m n (m.round (disjunction m inner))) nots
            ∙ ap (λ d. negate m s.control.nots (m.round d)) inside,
      )

  -- a phrase that was read is made
  pub says : {t : Tightness} (s : State V K B) (p : Phrase t) → Says t s (behind s p) (made m p)
  says s Always = (refl, refl, refl)
  says s (Compare sort left cmp) = (refl, refl, refl)
  says s (Shifted left cmp sign n) = (refl, refl, refl)
  says s (Negated u) =
      let inner = says (moved m s moves.Negate) u in
      (inner.0, inner.1, inner.2 ∙ negate_more s.control.nots (made m u))
  says s (Round d) =
      let s1 = moved m s moves.Open in
      closed_says s (behind s1 d) _ (made m d) (ap (λ x. x.outer) (behind_keeps s1 d)) (says s1 d refl refl refl)
  says s (One u) = λ all nots.
      let inner = says s u in (
        inner.0,
        ap (λ x. join m x (negate m (behind s u).control.nots (behind s u).last)) (inner.1 ∙ all)
            ∙ ap (λ x. m.one x) (inner.2 ∙ ap (λ n. negate m n (made m u)) nots),
      )
  says s (Both c u) = λ all nots.
      let s1 = behind s c in
      let s2 = moved m s1 moves.And in
      let left = says s c all nots in
      let right = says s2 u in (
        right.0 ∙ left.0,
        ap (λ x. join m x (negate m (behind s2 u).control.nots (behind s2 u).last)) (right.1
            ∙ ap (λ x. Some x) left.1) ∙ ap (λ x. m.both (made m c) x) right.2,
      )
  says s (Single c) = λ any all nots.
      let inner = says s c all nots in
      ap (λ x. choose m x (conjunction m (behind s c))) (inner.0 ∙ any) ∙ ap (λ x. m.single x) inner.1
  says s (Either d c) = λ any all nots.
      let s1 = behind s d in
      let s2 = moved m s1 moves.Or in
      let left = says s d any all nots in
      let right = says s2 c refl refl in
      ap (λ x. choose m x (conjunction m (behind s2 c))) (right.0 ∙ ap (λ x. Some x) left)
      ∙ ap (λ x. m.either (made m d) x) right.1
