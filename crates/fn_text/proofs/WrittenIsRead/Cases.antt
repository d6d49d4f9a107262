-- What is written by the grammar is read: the lines of cases.
use Rattle.std.proofs.lemmas.Bool.{and_parts, and_from, lt-ltb, leb-true}
use Rattle.fn_tokens.specs.declared.token.Token.TheVariants as tokens
use Rattle.std.proofs.Common.{◌≡◌, ◌+◌, ◌<◌, ◌≤◌, ◌==◌, true, List, [], ◌∷◌, ◌++◌, None, refl, sym, ap, ◌∙◌}
use Rattle.std.proofs.Common.{append_assoc, arith}
use Rattle.fn_rules.specs.declared.guard.Sort.TheVariants.{Pos}
use Rattle.fn_rules.specs.declared.guard.Side.{Side}
use Rattle.fn_rules.specs.declared.guard.Tightness.{Tightness}
use Rattle.fn_tokens.specs.declared.token.Token.{Token}
use Rattle.fn_tokens.specs.declared.token.Token.TheVariants.{Known, Number, Colon, LineEnd}
use Rattle.fn_tokens.specs.declared.token.Word.TheVariants as words
use Rattle.fn_tokens.specs.declared.token.Placed.{Placed}
use Rattle.fn_tokens.specs.declared.control.Written.{Written}
use Rattle.fn_tokens.specs.declared.control.Written.TheVariants as written
use Rattle.fn_tokens.specs.declared.control.Want.TheVariants as wants
use Rattle.fn_tokens.specs.declared.control.TokenMove.TheVariants as moves
use Rattle.fn_tokens.specs.Meaning.{Maker}
use Rattle.fn_tokens.specs.Controls.{has_chars}
use Rattle.fn_text.specs.Reader.{State, disjunction, moved}
use Rattle.fn_grammar.specs.Grammar.{written_as, made, atoms_in, nesting_in, is_allowed_phrase, WrittenCase}
use Rattle.fn_grammar.specs.Grammar.{result_written_as, case_written_as, case_made, is_allowed_result, is_allowed_case}
use Rattle.fn_tokens.specs.Tokens.{bare}
use Rattle.fn_grammar.proofs.KindLists.{is_same_kind-itself}
use Rattle.fn_text.proofs.WrittenIsRead.Guards.{Leads, leads_by, leads_on, behind, behind_keeps, want_is_behind}
use Rattle.fn_text.proofs.WrittenIsRead.Guards.{same_outside, leads, says, at_wanted, allowed_true, operator_goes}

-- between two lines
pub record AtLine {V : Tightness → Type 0} {K B : Type 0} (s : State V K B) : Type 0 where
  pub want : s.control.want ≡ wants.Line
  pub any : s.any ≡ None
  pub all : s.all ≡ None
  pub nots : s.control.nots ≡ 0
  pub outside : s.control.outside ≡ 0

regroup : (guard result more : List Token) →
    (Known words.Case ∷ guard ++ Colon ∷ result ++ LineEnd ∷ []) ++ more
    ≡ Known words.Case ∷ (guard ++ Colon ∷ (result ++ LineEnd ∷ more))
regroup guard result more = simp append_assoc

module _ {V : Tightness → Type 0} {K B : Type 0} (m : Maker V K B) where
  -- a kind and a position, to which an offset may be added
  leads_position : (s : State V K B) (side : Side) (ps : List Placed) (more : List Token) → s.control.want
      ≡ wants.Result → bare ps ≡ Known (words.Kind s.control.first) ∷ Known (words.Thing Pos side) ∷ more →
      Leads m s ps (moved m s (moves.Skip (wants.ResultOffset side))) more
  leads_position s side ps more want e =
      let s1 = moved m s (moves.Skip wants.ResultPosition) in
      leads_on m s ps s1 (moved m s (moves.Skip (wants.ResultOffset side))) (Known (words.Thing Pos side) ∷ more) more
      (leads_by m s ps (Known (words.Kind s.control.first)) _ (moves.Skip wants.ResultPosition) e
      (λ at. at_wanted s.control at wants.Result _ _ want (allowed_true _ _ (is_same_kind-itself s.control.first))))
      (λ rest e1. leads_by m s1 rest (Known (words.Thing Pos side)) more
      (moves.Skip (wants.ResultOffset side)) e1 (λ at. refl))

  -- a result and the end of its line
  leads_result : (s : State V K B) (w : Written) (ps : List Placed) (more : List Token) → s.control.want ≡ wants.Result
      → is_allowed_result w ≡ true → bare ps ≡ result_written_as s.control.first w ++ LineEnd ∷ more →
      Leads m s ps (moved m s (moves.EndCase w)) more
  leads_result s written.Nop ps more want ok e =
      let s1 = moved m s (moves.Skip (wants.ResultEnd written.Nop)) in
      leads_on m s ps s1 (moved m s (moves.EndCase written.Nop)) (LineEnd ∷ more) more
      (leads_by m s ps (Known words.Nop) _ (moves.Skip (wants.ResultEnd written.Nop)) e
      (λ at. at_wanted s.control at wants.Result _ _ want refl))
      (λ rest e1. leads_by m s1 rest LineEnd more (moves.EndCase written.Nop) e1 (λ at. refl))
  leads_result s (written.At side) ps more want ok e =
      let s1 = moved m s (moves.Skip (wants.ResultOffset side)) in
      leads_on m s ps s1 (moved m s (moves.EndCase (written.At side))) (LineEnd ∷ more) more
      (leads_position s side ps (LineEnd ∷ more) want e)
      (λ rest e1. leads_by m s1 rest LineEnd more (moves.EndCase (written.At side)) e1 (λ at. refl))
  leads_result s (written.Moved side sign n) ps more want ok e =
      let w = written.Moved side sign n in
      let s1 = moved m s (moves.Skip (wants.ResultOffset side)) in
      let s2 = moved m s (moves.Skip (wants.ResultNumber side sign)) in
      let s3 = moved m s (moves.Skip (wants.ResultEnd w)) in
      leads_on m s ps s1 (moved m s (moves.EndCase w)) (tokens.Sign sign ∷ Number n ∷ LineEnd ∷ more) more
      (leads_position s side ps (tokens.Sign sign ∷ Number n ∷ LineEnd ∷ more) want e)
      (λ rest e1. leads_on m s1 rest s2 (moved m s (moves.EndCase w)) (Number n ∷ LineEnd ∷ more) more
      (leads_by m s1 rest (tokens.Sign sign) _ (moves.Skip (wants.ResultNumber side sign)) e1 (λ at. refl))
      (λ rest2 e2. leads_on m s2 rest2 s3 (moved m s (moves.EndCase w)) (LineEnd ∷ more) more
      (leads_by m s2 rest2 (Number n) _ (moves.Skip (wants.ResultEnd w)) e2 (λ at. allowed_true _ _ ok))
      (λ rest3 e3. leads_by m s3 rest3 LineEnd more (moves.EndCase w) e3 (λ at. refl))))

  -- the states of a case: at its guard, behind it, and behind the line
  abbrev guarded : State V K B → WrittenCase → State V K B
  guarded s c = moved m (behind m (moved m s moves.BeginCase) c.guard) moves.Colon

  abbrev pub behind_case : State V K B → WrittenCase → State V K B
  behind_case s c = moved m (guarded s c) (moves.EndCase c.result)

  -- the line of a case
  pub leads_case : (s : State V K B) (c : WrittenCase) (ps : List Placed) (more : List Token)
      → AtLine s → s.control.begun ≡ true → s.control.cases < 64 → is_allowed_case (has_chars s.control) c ≡ true
      → bare ps ≡ case_written_as s.control.first c ++ more → Leads m s ps (behind_case s c) more
  leads_case s c ps more line begun room ok e =
      let s1 = moved m s moves.BeginCase in
      let s2 = behind m s1 c.guard in
      let s3 = guarded s c in
      let front = (and_parts _ _ (and_parts _ _ ok).0).0 in
      let valid : is_allowed_phrase (has_chars s.control) c.guard ≡ true = (and_parts _ _ front).0 in
      let few : atoms_in c.guard ≤ 16 = leb-true _ _ (and_parts _ _ front).1 in
      let shallow : nesting_in c.guard ≤ 32 = leb-true _ _ (and_parts _ _ (and_parts _ _ ok).0).1 in
      let depth : s1.control.outside + s1.control.nots + nesting_in c.guard ≤ 32 = let o = line.outside in
      let n = line.nots in
      omega (arith, o, n) in
      let atoms : s1.control.atoms + atoms_in c.guard ≤ 16 = omega (arith, few) in
      let result = result_written_as s.control.first c.result in
      let top : s2.control.outside ≡ 0 = same_outside m s1 c.guard ∙ line.outside in
      let kind : s.control.first ≡ s3.control.first = sym (ap (λ x. x.control.first) (behind_keeps m s1 c.guard)) in
      leads_on m s ps s1 (behind_case s c) (written_as c.guard ++ Colon ∷ (result ++ LineEnd ∷ more)) more
      (leads_by m s ps (Known words.Case) _ moves.BeginCase (e
      ∙ regroup (written_as c.guard) result more)
      (λ at. at_wanted s.control at wants.Line _ _ line.want (allowed_true _ _ (and_from _ _ begun (lt-ltb _ _ room)))))
      (λ rest e1. leads_on m s1 rest s2 (behind_case s c) (Colon ∷ (result ++ LineEnd ∷ more)) more
      (leads m s1 c.guard rest (Colon ∷ (result ++ LineEnd ∷ more)) refl depth atoms valid e1)
      (λ rest2 e2. leads_on m s2 rest2 s3 (behind_case s c) (result ++ LineEnd ∷ more) more
      (leads_by m s2 rest2 Colon _ moves.Colon e2
      (λ at. operator_goes s2.control at Colon moves.Colon (want_is_behind m s1 c.guard)
      (allowed_true _ _ (ap (λ n. n == 0) top))))
      (λ rest3 e3. leads_result s3 c.result rest3 more refl (and_parts _ _ ok).1 (e3
      ∙ ap (λ k. result_written_as k c.result ++ LineEnd ∷ more) kind))))

  -- what the line of a case leaves
  pub case_is_made : (s : State V K B) (c : WrittenCase) → AtLine s
      → (behind_case s c).cases ≡ s.cases ++ case_made m c ∷ []
  case_is_made s c line =
      let s1 = moved m s moves.BeginCase in
      let guard : disjunction m (behind m s1 c.guard) ≡ made m c.guard =
      says m s1 c.guard line.any line.all line.nots in
      let cases : (behind m s1 c.guard).cases ≡ s.cases = ap (λ x. x.cases) (behind_keeps m s1 c.guard) in
      ap (λ x. x ++ m.cased (disjunction m (behind m s1 c.guard)) c.result ∷ []) cases
      ∙ ap (λ g. s.cases ++ m.cased g c.result ∷ []) guard

  pub case_is_at_line : (s : State V K B) (c : WrittenCase) → AtLine s → AtLine (behind_case s c)
  case_is_at_line s c line = record {
    want = refl;
    any = refl;
    all = refl;
    nots = refl;
    outside = same_outside m (moved m s moves.BeginCase) c.guard ∙ line.outside;
  }
