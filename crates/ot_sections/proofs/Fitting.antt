-- Sections of trees that fit are made of parts that fit, and back.
use Rattle.std.proofs.Common.{◌≡◌, ℕ, ◌+◌, ◌<◌, List, [], ◌∷◌, ◌++◌, length, Result, Ok, arith, refl, sym, ap, subst}
use Rattle.std.proofs.Common.{◌∙◌, append_assoc}
use Rattle.std.proofs.lemmas.List.{append-nil}
use Rattle.fn_rules.specs.declared.function.ObName.{ObName}
use Rattle.ask_core.specs.declared.tree.Tok.{Tok}
use Rattle.ask_core.specs.Plans.{Plan}
use Rattle.ask_core.specs.Trees.{AnswerTree, Branch, Completes, tokens_of}
use Rattle.cert_check.specs.Steps.{after}
use Rattle.cert_text.specs.declared.item.Part.{Part}
use Rattle.cert_text.specs.declared.item.Part.TheVariants as part
use Rattle.cert_text.specs.Spelling.{IsSpellable, AreSpellable, token_text, tokens_text, ob_text, end_text}
use Rattle.cert_text.specs.Places.{PartPlace, Start, Line, Tree, Finish, Stands, part_text, place_after, open_after}
use Rattle.refusals.specs.declared.refusal.JudgeError.{JudgeError}
use Rattle.ot_sections.specs.Certificates.{AreAnswers}
use Rattle.cert_text.specs.Certificates.{sections_text}
use Rattle.ot_sections.specs.Parts.{Point, branches_behind, point_behind, FitThen, IsJudged}
use Rattle.ot_sections.proofs.Tokens.{ByToken, few_picks, first_taken, open_as_counted, same_ok, some_tokens}

joined :
    (line text more tail : List ℕ)
    → ((line ++ text ++ 10 ∷ []) ++ more) ++ tail ≡ line ++ (text ++ 10 ∷ (more ++ tail))
joined line text more tail = simp append_assoc

module _ {W : Type 0} (plan : ObName → Plan W) where
  abbrev pub point_at : PartPlace → ℕ → List (Branch W) → Point W
  point_at place offset branches = record { place = place; offset = offset; branches = branches }

  -- a part that fits, and what is judged behind it
  pub judged_behind :
      (end : Result (Unit {0}) JudgeError) (point : Point W) (p : Part) (bytes rest : List ℕ)
      (branches : List (Branch W))
      → Stands point.place p → bytes ≡ part_text point.place p ++ rest → branches_behind plan point p ≡ Ok branches
      → IsJudged plan end (point_behind point p branches) rest → IsJudged plan end point bytes
  judged_behind end point p bytes rest branches stands is opens judged =
      (p ∷ judged.0, (stands, (rest, branches, is, opens, judged.1)))

  module _ (by_token : ByToken W) (end : Result (Unit {0}) JudgeError) where
    -- tokens that complete the open branches lead to the end of the tree
    pub tokens_fit :
        (came : ℕ) (names : List ObName) (tokens : List Tok) (branches : List (Branch W)) (offset : ℕ) (tail : List ℕ)
        → AreSpellable tokens → Completes tokens branches
        → ((o : ℕ) → IsJudged plan end (point_at (Tree came names 0) o []) tail)
        → IsJudged plan end (point_at (Tree came names (length branches)) offset branches) (tokens_text tokens ++ tail)
    tokens_fit came names [] [] offset tail spellable whole go = go offset
    tokens_fit came names [] (b ∷ branches) offset tail spellable whole go =
        absurd (some_tokens whole.0 whole.1 whole.3)
    tokens_fit came names (t ∷ tokens) [] offset tail spellable whole go = absurd (cc)
    tokens_fit came names (t ∷ tokens) (b ∷ branches) offset tail spellable whole go =
        let taken = first_taken by_token t tokens (b ∷ branches) (few_picks t spellable.0) whole in
        let behind = tokens_fit came names tokens taken.next (offset + length (token_text t)) tail
        spellable.1 taken.rest go in
        let some : 0 < length (b ∷ branches) = omega arith in
        judged_behind end (point_at (Tree came names (length (b ∷ branches))) offset (b ∷ branches)) (part.Tok t)
        (tokens_text (t ∷ tokens) ++ tail) (tokens_text tokens ++ tail) taken.next (some, spellable.0)
        (append_assoc (token_text t) (tokens_text tokens) tail) taken.taken
        (subst (λ (k : ℕ). IsJudged plan end (point_at (Tree came names k) (offset + length (token_text t)) taken.next)
        (tokens_text tokens ++ tail))
        (open_as_counted t (b ∷ branches) taken.next taken.taken) behind)

    -- a tree for each obligation leads to the last line
    pub sections_fit :
        (obs : List ObName) (trees : List AnswerTree) (came offset : ℕ) (tail : List ℕ) → AreAnswers plan obs trees
        → ((c o : ℕ) → IsJudged plan end (point_at (Line c []) o []) tail)
        → IsJudged plan end (point_at (Line came obs) offset []) (sections_text obs trees ++ tail)
    sections_fit [] [] came offset tail answers go = go came offset
    sections_fit [] (t ∷ trees) came offset tail answers go = absurd answers
    sections_fit (ob ∷ obs) [] came offset tail answers go = absurd answers
    sections_fit (ob ∷ obs) (t ∷ trees) came offset tail answers go =
        let later : (o : ℕ)
        → IsJudged plan end (point_at (Line (came + 1) obs) o []) (sections_text obs trees ++ tail) =
        λ o. sections_fit obs trees (came + 1) o tail answers.2 go in
        let closed : (o : ℕ)
        → IsJudged plan end (point_at (Tree (came + 1) obs 0) o []) (10 ∷ (sections_text obs trees ++ tail)) =
        λ o. judged_behind end (point_at (Tree (came + 1) obs 0) o []) part.LineEnd
        (10 ∷ (sections_text obs trees ++ tail)) (sections_text obs trees ++ tail) [] refl refl refl (later (o + 1)) in
        let first : Branch W = record { plan = plan ob; answers = [] } in
        let opened = tokens_fit (came + 1) obs (tokens_of t) (first ∷ []) (offset + length (ob_text ob))
        (10 ∷ (sections_text obs trees ++ tail)) answers.1
        (t, [], answers.0, sym (append-nil (tokens_of t)), refl) closed in
        judged_behind end (point_at (Line came (ob ∷ obs)) offset []) (part.Ob came)
        (sections_text (ob ∷ obs) (t ∷ trees) ++ tail)
        (tokens_text (tokens_of t) ++ 10 ∷ (sections_text obs trees ++ tail)) (first ∷ []) refl
        (joined (ob_text ob) (tokens_text (tokens_of t)) (sections_text obs trees) tail) refl opened

  -- no further part comes behind the last line
  pub last_line_fits : (came offset : ℕ) → IsJudged plan (Ok tt) (point_at (Line came []) offset []) end_text
  last_line_fits came offset =
      judged_behind (Ok tt) (point_at (Line came []) offset []) part.End end_text [] [] tt
      (sym (append-nil end_text)) refl
      ([], (refl, refl))

  -- what parts that fit up to the end show of the bytes from a place on
  abbrev pub Shows : PartPlace → List (Branch W) → List ℕ → Type 0
  Shows (Start tp1 tp2) branches bytes = Unit {0}
  Shows (Line came obs) branches bytes =
      (trees : List AnswerTree) × AreAnswers plan obs trees × (bytes ≡ sections_text obs trees ++ end_text)
  Shows (Tree came obs waiting) branches bytes =
      waiting ≡ length branches
      → (tokens : List Tok) × (trees : List AnswerTree) × AreSpellable tokens × Completes tokens branches
      × AreAnswers plan obs trees × (bytes ≡ tokens_text tokens ++ 10 ∷ (sections_text obs trees ++ end_text))
  Shows Finish branches bytes = bytes ≡ []

  stopped : (place : PartPlace) (branches : List (Branch W)) (bytes : List ℕ) → place ≡ Finish → bytes ≡ []
      → Shows place branches bytes
  stopped (Start tp1 tp2) branches bytes at nothing = tt
  stopped (Line came obs) branches bytes at nothing = absurd (cc)
  stopped (Tree came obs waiting) branches bytes at nothing = absurd (cc)
  stopped Finish branches bytes at nothing = nothing

  end_shows : (bytes rest : List ℕ) → bytes ≡ end_text ++ rest → rest ≡ [] → bytes ≡ end_text
  end_shows bytes rest is nothing = is ∙ ap (λ (l : List ℕ). end_text ++ l) nothing ∙ append-nil end_text

  -- the line of an obligation, before its tree and the sections behind it
  line_shows :
      (ob : ObName) (obs : List ObName) (came : ℕ) (bytes rest : List ℕ) (branches : List (Branch W))
      → bytes ≡ ob_text ob ++ rest → branches ≡ record { plan = plan ob; answers = [] } ∷ []
      → Shows (Tree (came + 1) obs 1) branches rest → Shows (Line came (ob ∷ obs)) [] bytes
  line_shows ob obs came bytes rest branches is opens shows =
      let one : 1 ≡ length branches = ap length (sym opens) in
      let tree = shows one in
      let whole : Completes tree.0 (record { plan = plan ob; answers = [] } ∷ []) =
      subst (λ (x : List (Branch W)). Completes tree.0 x) opens tree.3 in
      let tokens : tree.0 ≡ tokens_of whole.0 =
      whole.3 ∙ ap (λ (l : List Tok). tokens_of whole.0 ++ l) whole.4 ∙ append-nil (tokens_of whole.0) in
      let spellable : AreSpellable (tokens_of whole.0) = subst (λ (x : List Tok). AreSpellable x) tokens tree.2 in (
        whole.0 ∷ tree.1,
        (whole.2, spellable, tree.4),
        is ∙ ap (λ (l : List ℕ). ob_text ob ++ l)
            (tree.5 ∙ ap (λ (ts : List Tok). tokens_text ts ++ 10 ∷ (sections_text obs tree.1 ++ end_text)) tokens)
            ∙ sym (joined (ob_text ob) (tokens_text (tokens_of whole.0)) (sections_text obs tree.1) end_text),
      )

  -- a token that is taken, before the tokens that complete what it leaves
  token_shows :
      ByToken W
      → (t : Tok) (obs : List ObName) (came waiting : ℕ) (bytes rest : List ℕ) (branches next : List (Branch W))
      → (0 < waiting) × IsSpellable t → bytes ≡ token_text t ++ rest → after t branches ≡ Ok next
      → Shows (Tree came obs (open_after waiting t)) next rest → Shows (Tree came obs waiting) branches bytes
  token_shows by_token t obs came waiting bytes rest branches next stands is taken shows counted =
      let as_counted : open_after waiting t ≡ length next =
      ap (λ (k : ℕ). open_after k t) counted ∙ sym (open_as_counted t branches next taken) in
      let tree = shows as_counted in (
        t ∷ tree.0,
        tree.1,
        (stands.1, tree.2),
        (by_token.taken t tree.0 branches next (few_picks t stands.1) taken).1 tree.3,
        tree.4,
        is ∙ ap (λ (l : List ℕ). token_text t ++ l) tree.5
            ∙ sym (append_assoc (token_text t) (tokens_text tree.0) (10 ∷ (sections_text obs tree.1 ++ end_text))),
      )

  none_open : (branches : List (Branch W)) → 0 ≡ length branches → Completes [] branches
  none_open [] counted = refl
  none_open (b ∷ branches) counted = absurd (omega arith)

  closed_shows :
      (obs : List ObName) (came waiting : ℕ) (bytes rest : List ℕ) (branches : List (Branch W))
      → waiting ≡ 0 → bytes ≡ 10 ∷ rest → Shows (Line came obs) branches rest
      → Shows (Tree came obs waiting) branches bytes
  closed_shows obs came waiting bytes rest branches closed is shows counted =
      ([], shows.0, tt, none_open branches (sym closed ∙ counted), shows.1, is ∙ ap (λ (l : List ℕ). 10 ∷ l) shows.2)

  -- any part that fits, before what is shown of the bytes behind it
  shows_behind :
      ByToken W → (place : PartPlace) (p : Part) (offset : ℕ) (bytes rest : List ℕ) (branches next : List (Branch W))
      → Stands place p → bytes ≡ part_text place p ++ rest
      → branches_behind plan (point_at place offset branches) p ≡ Ok next
      → Shows (place_after place p) next rest → Shows place branches bytes
  shows_behind by_token (Start tp1 tp2) p offset bytes rest branches next stands is opens shows = tt
  shows_behind by_token (Line came []) part.End offset bytes rest branches next stands is opens shows =
      ([], tt, end_shows bytes rest is shows)
  shows_behind by_token (Line came []) p offset bytes rest branches next stands is opens shows = absurd stands
  shows_behind by_token (Line came (ob ∷ obs)) (part.Ob number) offset bytes rest branches next stands is opens shows =
      line_shows ob obs came bytes rest next is (sym (same_ok _ _ opens)) shows
  shows_behind by_token (Line came (ob ∷ obs)) p offset bytes rest branches next stands is opens shows = absurd stands
  shows_behind by_token (Tree came obs waiting) (part.Tok t) offset bytes rest branches next stands is opens shows =
      token_shows by_token t obs came waiting bytes rest branches next stands is opens shows
  shows_behind by_token (Tree came obs waiting) part.LineEnd offset bytes rest branches next stands is opens shows =
      closed_shows obs came waiting bytes rest branches stands is shows
  shows_behind by_token (Tree came obs waiting) p offset bytes rest branches next stands is opens shows = absurd stands
  shows_behind by_token Finish p offset bytes rest branches next stands is opens shows = absurd stands

  pub parts_show :
      ByToken W → (parts : List Part) (place : PartPlace) (offset : ℕ) (branches : List (Branch W)) (bytes : List ℕ)
      → FitThen plan (Ok tt) (point_at place offset branches) bytes parts → Shows place branches bytes
  parts_show by_token [] place offset branches bytes fits = stopped place branches bytes fits.0 fits.1
  parts_show by_token (p ∷ parts) place offset branches bytes fits =
      shows_behind by_token place p offset bytes fits.1.0 branches fits.1.1 fits.0 fits.1.2 fits.1.3
      (parts_show by_token parts (place_after place p) (offset + length (part_text place p)) fits.1.1 fits.1.0 fits.1.4)
