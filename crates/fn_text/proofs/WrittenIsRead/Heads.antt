-- What is written by the grammar is read: the head of a file.
use Rattle.std.proofs.Common.{◌≡◌, Bool, true, false, List, [], ◌∷◌, ◌++◌, refl, ap, ◌∙◌, append_assoc, append-nil}
use Rattle.std.specs.Prelude.{option_map}
use Rattle.std.proofs.lemmas.Bool.{and_from}
use Rattle.std.specs.List.{flat_map}
use Rattle.ot_model.specs.declared.op.Kind.{Kind}
use Rattle.ot_model.specs.declared.op.Kind.TheVariants as kinds
use Rattle.ot_model.specs.declared.op.TheConstants.{KINDS}
use Rattle.ot_model.specs.declared.op.Mode.{Mode}
use Rattle.ot_model.specs.declared.op.Mode.TheVariants as modes
use Rattle.fn_rules.specs.declared.guard.Tightness.{Tightness}
use Rattle.fn_rules.specs.declared.function.Head.{Head}
use Rattle.fn_tokens.specs.declared.token.Token.{Token}
use Rattle.fn_tokens.specs.declared.token.Token.TheVariants.{Known, Number, LineEnd}
use Rattle.fn_tokens.specs.declared.token.Word.TheVariants as words
use Rattle.fn_tokens.specs.declared.token.Placed.{Placed}
use Rattle.fn_tokens.specs.declared.control.AfterLine.TheVariants as nexts
use Rattle.fn_tokens.specs.declared.control.Want.{Want}
use Rattle.fn_tokens.specs.declared.control.Want.TheVariants as wants
use Rattle.fn_tokens.specs.declared.control.TokenMove.TheVariants as moves
use Rattle.fn_tokens.specs.declared.language.Language.{Language}
use Rattle.fn_tokens.specs.declared.language.Language.TheVariants as languages
use Rattle.fn_tokens.specs.Kinds.{with_kind, declares_some, comes_next}
use Rattle.fn_tokens.specs.Languages.{number_of, has_word, has_words}
use Rattle.fn_grammar.specs.Print.{present, kind_tokens, assumption_tokens, first_lines, head_tokens}
use Rattle.fn_tokens.specs.Meaning.{Maker}
use Rattle.fn_text.specs.Reader.{State, first_state, first_control}
use Rattle.fn_tokens.specs.Tokens.{bare}
use Rattle.fn_grammar.proofs.OwnBlocks.{head_of}
use Rattle.fn_text.proofs.Languages.{numbered, word_of_declared}
use Rattle.fn_text.proofs.WrittenIsRead.Guards.{Leads, leads_by, leads_on, allowed_true}

regroup : (first kinds sites chars more : List Token) →
    first ++ Known words.Kinds ∷ kinds ++ LineEnd ∷ [] ++ sites ++ chars ++ more
    ≡ first ++ (Known words.Kinds ∷ (kinds ++ (LineEnd ∷ (sites ++ (chars ++ more)))))
regroup first kinds sites chars more =
    let line = Known words.Kinds ∷ kinds in
    append_assoc (first ++ line ++ LineEnd ∷ [] ++ sites) chars more
    ∙ (append_assoc (first ++ line ++ LineEnd ∷ []) sites (chars ++ more)
    ∙ (append_assoc (first ++ line) (LineEnd ∷ []) (sites ++ (chars ++ more))
    ∙ append_assoc first line (LineEnd ∷ (sites ++ (chars ++ more)))))

regroup_kinds : (ins del upd more : List Token) → (ins ++ (del ++ (upd ++ []))) ++ more ≡ ins ++ (del ++ (upd ++ more))
regroup_kinds ins del upd more = simp (append_assoc, append-nil)

module _ {V : Tightness → Type 0} {K B : Type 0} (m : Maker V K B) where
  -- the state before the first block, where this is wanted and this language and head were read
  abbrev pub before_blocks : Want → Language → Head → State V K B
  before_blocks want language head =
      record (first_state m) { control = record first_control { want = want; language = language; head = head } }

  -- the lines of the language and the mode
  leads_first_lines : (language : Language) (mode : Mode) (ps : List Placed) (more : List Token) →
      bare ps ≡ first_lines language mode ++ more →
      Leads m (first_state m) ps (before_blocks wants.Kinds language (head_of mode false false false false false)) more
  leads_first_lines language mode ps more e =
      let empty = head_of modes.Plain false false false false false in
      let full = head_of mode false false false false false in
      let after = before_blocks wants.Kinds language full in
      let s0 = first_state m in
      let s1 = before_blocks wants.Version languages.One empty in
      let s2 = before_blocks (wants.LineEnd nexts.Text) language empty in
      let s3 = before_blocks wants.Text language empty in
      let s4 = before_blocks wants.Mode language empty in
      let s5 = before_blocks (wants.LineEnd nexts.Kinds) language full in
      leads_on m s0 ps s1 after (Number (number_of language) ∷ LineEnd ∷ Known words.Text ∷ Known (words.Mode mode)
      ∷ LineEnd ∷ more) more (leads_by m s0 ps (Known words.Otfn) _ (moves.Skip wants.Version) e (λ at. refl))
      (λ rest e1. leads_on m s1 rest s2 after (LineEnd ∷ Known words.Text ∷ Known (words.Mode mode) ∷ LineEnd ∷ more)
      more (leads_by m s1 rest (Number (number_of language)) _ (moves.SetLanguage language) e1
      (λ at. ap (λ x. option_map (λ y. moves.SetLanguage y) x) (numbered language)))
      (λ rest2 e2. leads_on m s2 rest2 s3 after (Known words.Text ∷ Known (words.Mode mode) ∷ LineEnd ∷ more) more
      (leads_by m s2 rest2 LineEnd _ (moves.Skip wants.Text) e2 (λ at. refl))
      (λ rest3 e3. leads_on m s3 rest3 s4 after (Known (words.Mode mode) ∷ LineEnd ∷ more) more
      (leads_by m s3 rest3 (Known words.Text) _ (moves.Skip wants.Mode) e3 (λ at. refl))
      (λ rest4 e4. leads_on m s4 rest4 s5 after (LineEnd ∷ more) more
      (leads_by m s4 rest4 (Known (words.Mode mode)) _ (moves.SetMode mode) e4 (λ at. refl))
      (λ rest5 e5. leads_by m s5 rest5 LineEnd more (moves.Skip wants.Kinds) e5 (λ at. refl))))))

  -- a kind behind those that are declared
  leads_kind : (language : Language) (head : Head) (k : Kind) (ps : List Placed) (more : List Token) →
      has_word language k ≡ true → comes_next head k ≡ true → bare ps ≡ Known (words.Kind k) ∷ more →
      Leads m (before_blocks wants.NextKind language head) ps
      (before_blocks wants.NextKind language (with_kind head k)) more
  leads_kind language head k ps more word next e =
      leads_by m (before_blocks wants.NextKind language head) ps (Known (words.Kind k)) more (moves.Declare k) e
      (λ at. allowed_true _ _ (and_from _ _ word next))

  -- the end of the line of the kinds
  leads_kinds_end : (language : Language) (head : Head) (ps : List Placed) (more : List Token) →
      declares_some head ≡ true → bare ps ≡ LineEnd ∷ more →
      Leads m (before_blocks wants.NextKind language head) ps (before_blocks wants.Line language head) more
  leads_kinds_end language head ps more some e =
      leads_by m (before_blocks wants.NextKind language head) ps LineEnd more (moves.Skip wants.Line) e
      (λ at. allowed_true _ _ some)

  -- a kind, if it is declared
  leads_ins : (language : Language) (mode : Mode) (ins : Bool) (ps : List Placed) (more : List Token) →
      (ins ≡ true → has_word language kinds.Ins ≡ true) → bare ps ≡ present ins (Known (words.Kind kinds.Ins) ∷ [])
      ++ more → Leads m (before_blocks wants.NextKind language (head_of mode false false false false false)) ps
      (before_blocks wants.NextKind language (head_of mode ins false false false false)) more
  leads_ins language mode false ps more word e = record { rest = ps; told = e; reads = refl }
  leads_ins language mode true ps more word e =
      leads_kind language (head_of mode false false false false false) kinds.Ins ps more (word refl) refl e

  -- the deletion, if it is declared
  leads_del : (language : Language) (mode : Mode) (ins del : Bool) (ps : List Placed) (more : List Token) →
      (del ≡ true → has_word language kinds.Del ≡ true) → bare ps ≡ present del (Known (words.Kind kinds.Del) ∷ [])
      ++ more → Leads m (before_blocks wants.NextKind language (head_of mode ins false false false false)) ps
      (before_blocks wants.NextKind language (head_of mode ins del false false false)) more
  leads_del language mode ins false ps more word e = record { rest = ps; told = e; reads = refl }
  leads_del language mode ins true ps more word e =
      leads_kind language (head_of mode ins false false false false) kinds.Del ps more (word refl) (next ins) e
    where
      next : (ins : Bool) → comes_next (head_of mode ins false false false false) kinds.Del ≡ true
      next true = refl
      next false = refl

  -- the update, if it is declared
  leads_upd : (language : Language) (mode : Mode) (ins del upd : Bool) (ps : List Placed) (more : List Token) →
      (upd ≡ true → has_word language kinds.Upd ≡ true) → bare ps ≡ present upd (Known (words.Kind kinds.Upd) ∷ [])
      ++ more → Leads m (before_blocks wants.NextKind language (head_of mode ins del false false false)) ps
      (before_blocks wants.NextKind language (head_of mode ins del upd false false)) more
  leads_upd language mode ins del false ps more word e = record { rest = ps; told = e; reads = refl }
  leads_upd language mode ins del true ps more word e =
      leads_kind language (head_of mode ins del false false false) kinds.Upd ps more (word refl) (next ins del) e
    where
      next : (ins del : Bool) → comes_next (head_of mode ins del false false false) kinds.Upd ≡ true
      next true true = refl
      next true false = refl
      next false true = refl
      next false false = refl

  -- the kinds, of which there is one at least, and the end of their line
  leads_kinds : (language : Language) (mode : Mode) (ins del upd : Bool) (ps : List Placed) (more : List Token) →
      declares_some (head_of mode ins del upd false false) ≡ true → has_words language (head_of mode ins del upd false
      false) ≡ true → bare ps ≡ flat_map (kind_tokens (head_of mode ins del upd false false)) KINDS ++ LineEnd ∷ more →
      Leads m (before_blocks wants.NextKind language (head_of mode false false false false false)) ps
      (before_blocks wants.Line language (head_of mode ins del upd false false)) more
  leads_kinds language mode ins del upd ps more some speaks e =
      let head = head_of mode ins del upd false false in
      let s0 = before_blocks wants.NextKind language (head_of mode false false false false false) in
      let s1 = before_blocks wants.NextKind language (head_of mode ins false false false false) in
      let s2 = before_blocks wants.NextKind language (head_of mode ins del false false false) in
      let s3 = before_blocks wants.NextKind language head in
      let after = before_blocks wants.Line language head in
      let last = LineEnd ∷ more in
      let upds = kind_tokens head kinds.Upd ++ last in
      let dels = kind_tokens head kinds.Del ++ upds in
      leads_on m s0 ps s1 after dels more
      (leads_ins language mode ins ps dels (word_of_declared language head kinds.Ins speaks)
      (e ∙ regroup_kinds (kind_tokens head kinds.Ins) (kind_tokens head kinds.Del) (kind_tokens head kinds.Upd) last))
      (λ rest e1. leads_on m s1 rest s2 after upds more
      (leads_del language mode ins del rest upds (word_of_declared language head kinds.Del speaks) e1)
      (λ rest2 e2. leads_on m s2 rest2 s3 after last more
      (leads_upd language mode ins del upd rest2 last (word_of_declared language head kinds.Upd speaks) e2)
      (λ rest3 e3. leads_kinds_end language head rest3 more some e3)))

  -- the line that the sites differ, if it is there
  leads_sites : (language : Language) (mode : Mode) (ins del upd sites : Bool) (ps : List Placed) (more : List Token) →
      bare ps ≡ assumption_tokens sites words.Sites ++ more →
      Leads m (before_blocks wants.Line language (head_of mode ins del upd false false)) ps
      (before_blocks wants.Line language (head_of mode ins del upd sites false)) more
  leads_sites language mode ins del upd false ps more e = record { rest = ps; told = e; reads = refl }
  leads_sites language mode ins del upd true ps more e =
      let after = before_blocks wants.Line language (head_of mode ins del upd true false) in
      let s0 = before_blocks wants.Line language (head_of mode ins del upd false false) in
      let s1 = before_blocks wants.Assumed language (head_of mode ins del upd false false) in
      let s2 = before_blocks wants.Differ language (head_of mode ins del upd true false) in
      let s3 = before_blocks (wants.LineEnd nexts.Line) language (head_of mode ins del upd true false) in
      leads_on m s0 ps s1 after (Known words.Sites ∷ Known words.Differ ∷ LineEnd ∷ more) more
      (leads_by m s0 ps (Known words.Assume) _ (moves.Skip wants.Assumed) e (λ at. refl))
      (λ rest e1. leads_on m s1 rest s2 after (Known words.Differ ∷ LineEnd ∷ more) more
      (leads_by m s1 rest (Known words.Sites) _ moves.AssumeSites e1 (λ at. refl))
      (λ rest2 e2. leads_on m s2 rest2 s3 after (LineEnd ∷ more) more
      (leads_by m s2 rest2 (Known words.Differ) _ (moves.Skip (wants.LineEnd nexts.Line)) e2 (λ at. refl))
      (λ rest3 e3. leads_by m s3 rest3 LineEnd more (moves.Skip wants.Line) e3 (λ at. refl))))

  -- the line that the characters differ, if it is there
  leads_chars : (language : Language) (mode : Mode) (ins del upd sites chars : Bool) (ps : List Placed)
      (more : List Token) → bare ps ≡ assumption_tokens chars words.Chars ++ more →
      Leads m (before_blocks wants.Line language (head_of mode ins del upd sites false)) ps
      (before_blocks wants.Line language (head_of mode ins del upd sites chars)) more
  leads_chars language mode ins del upd sites false ps more e = record { rest = ps; told = e; reads = refl }
  leads_chars language mode ins del upd sites true ps more e =
      let after = before_blocks wants.Line language (head_of mode ins del upd sites true) in
      let s0 = before_blocks wants.Line language (head_of mode ins del upd sites false) in
      let s1 = before_blocks wants.Assumed language (head_of mode ins del upd sites false) in
      let s2 = before_blocks wants.Differ language (head_of mode ins del upd sites true) in
      let s3 = before_blocks (wants.LineEnd nexts.Line) language (head_of mode ins del upd sites true) in
      leads_on m s0 ps s1 after (Known words.Chars ∷ Known words.Differ ∷ LineEnd ∷ more) more
      (leads_by m s0 ps (Known words.Assume) _ (moves.Skip wants.Assumed) e (λ at. refl))
      (λ rest e1. leads_on m s1 rest s2 after (Known words.Differ ∷ LineEnd ∷ more) more
      (leads_by m s1 rest (Known words.Chars) _ moves.AssumeChars e1 (λ at. refl))
      (λ rest2 e2. leads_on m s2 rest2 s3 after (LineEnd ∷ more) more
      (leads_by m s2 rest2 (Known words.Differ) _ (moves.Skip (wants.LineEnd nexts.Line)) e2 (λ at. refl))
      (λ rest3 e3. leads_by m s3 rest3 LineEnd more (moves.Skip wants.Line) e3 (λ at. refl))))

  -- the lines before the blocks
  pub leads_head : (language : Language) (head : Head) (ps : List Placed) (more : List Token)
      → declares_some head ≡ true → has_words language head ≡ true → bare ps ≡ head_tokens language head ++ more →
      Leads m (first_state m) ps (before_blocks wants.Line language head) more
  unfolding head_tokens
  leads_head language head ps more some speaks e =
      let mode = head.mode in
      let ins = head.ins in
      let del = head.del in
      let upd = head.upd in
      let sites = head.sites_differ in
      let chars = head.chars_differ in
      let after = before_blocks wants.Line language head in
      let s1 = before_blocks wants.Kinds language (head_of mode false false false false false) in
      let s2 = before_blocks wants.NextKind language (head_of mode false false false false false) in
      let s3 = before_blocks wants.Line language (head_of mode ins del upd false false) in
      let s4 = before_blocks wants.Line language (head_of mode ins del upd sites false) in
      let last = assumption_tokens chars words.Chars ++ more in
      let lines = assumption_tokens sites words.Sites ++ last in
      let kinds_line = flat_map (kind_tokens head) KINDS ++ LineEnd ∷ lines in
      leads_on m (first_state m) ps s1 after (Known words.Kinds ∷ kinds_line) more
      (leads_first_lines language mode ps _
      (e ∙ regroup (first_lines language mode) (flat_map (kind_tokens head) KINDS) (assumption_tokens sites words.Sites)
      (assumption_tokens chars words.Chars) more))
      (λ rest e1. leads_on m s1 rest s2 after kinds_line more
      (leads_by m s1 rest (Known words.Kinds) kinds_line (moves.Skip wants.NextKind) e1 (λ at. refl))
      (λ rest2 e2. leads_on m s2 rest2 s3 after lines more
      (leads_kinds language mode ins del upd rest2 lines some speaks e2)
      (λ rest3 e3. leads_on m s3 rest3 s4 after last more
      (leads_sites language mode ins del upd sites rest3 last e3)
      (λ rest4 e4. leads_chars language mode ins del upd sites chars rest4 more e4))))
