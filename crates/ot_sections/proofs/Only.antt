-- Bytes have one judgement: the parts that fit are determined by the bytes, and so is where they stop.
use Rattle.std.proofs.Common.{◌≡◌, ℕ, ◌<◌, List, [], ◌∷◌, ◌++◌, length, Result, Ok, Err, inl, inr, arith, refl, sym, ap}
use Rattle.std.proofs.Common.{subst, ◌∙◌, append_assoc, length-append}
use Rattle.std.proofs.lemmas.List.{append-nil}
use Rattle.fn_rules.specs.declared.function.ObName.{ObName}
use Rattle.ask_core.specs.declared.tree.Tok.{Tok}
use Rattle.ask_core.specs.Plans.{Plan}
use Rattle.ask_core.specs.Trees.{Branch}
use Rattle.cert_check.specs.declared.verdict.CheckError.{CheckError}
use Rattle.cert_check.specs.Steps.{after}
use Rattle.cert_text.specs.declared.item.Part.{Part}
use Rattle.cert_text.specs.declared.item.Part.TheVariants as part
use Rattle.cert_text.specs.declared.item.CertError.{CertError}
use Rattle.cert_text.specs.declared.item.CertError.TheVariants as cert
use Rattle.cert_text.specs.Places.{PartPlace, Start, Line, Tree, Finish, Stands, part_text}
use Rattle.cert_text.specs.Reading.{EndsThere, HasNoPart, IsFrontOfPart}
use Rattle.refusals.specs.declared.refusal.JudgeError.{JudgeError}
use Rattle.ot_sections.specs.Parts.{Point, branches_behind, end_of_token, point_behind, FitThen, StopsThere}
use Rattle.ot_sections.specs.Parts.{IsRefusedToken}
use Rattle.refusals.specs.Spelling.{end_of_spelling}
use Rattle.ot_sections.proofs.Tokens.{same_ok}

-- two parts that may stand at a place and begin the same bytes are one
abbrev pub OnePart : Type 0
OnePart =
    (place : PartPlace) (p q : Part) (rest more : List ℕ) → Stands place p → Stands place q
    → part_text place p ++ rest ≡ part_text place q ++ more → (p ≡ q) × (rest ≡ more)

pub same_err : {A E : Type 0} (a b : E) → ◌≡◌ {A = Result A E} (Err a) (Err b) → a ≡ b
same_err a b e = cc

same_token : (t u : Tok) → part.Tok t ≡ part.Tok u → t ≡ u
same_token t u e = cc

nothing_stands_behind : (place : PartPlace) (p : Part) → place ≡ Finish → Stands place p → ⊥
nothing_stands_behind (Start tp1 tp2) p at stands = cc
nothing_stands_behind (Line came names) p at stands = cc
nothing_stands_behind (Tree came names waiting) p at stands = cc
nothing_stands_behind Finish p at stands = stands

-- a part takes bytes
abbrev pub TakesBytes : Type 0
TakesBytes = (place : PartPlace) (p : Part) → Stands place p → 0 < length (part_text place p)

module _ (one_part : OnePart) (takes_bytes : TakesBytes) where
  not_a_front :
      (place : PartPlace) (bytes rest : List ℕ) (p : Part) → Stands place p → bytes ≡ part_text place p ++ rest
      → IsFrontOfPart place bytes → ⊥
  not_a_front place bytes rest p stands is (inl nothing) =
      omega (arith, takes_bytes place p stands, ap length (sym is ∙ nothing), length-append (part_text place p) rest)
  not_a_front place bytes rest p stands is (inr (q, more, other_stands, some, text)) =
      let whole : part_text place q ++ [] ≡ part_text place p ++ (rest ++ more) =
      append-nil (part_text place q) ∙ text ∙ ap (λ (l : List ℕ). l ++ more) is
      ∙ append_assoc (part_text place p) rest more in
      let same = one_part place q p [] (rest ++ more) other_stands stands whole in
      omega (arith, some, ap length same.1, length-append rest more)

  -- where a part begins the bytes they do not end there by their spelling
  part_goes_on :
      (place : PartPlace) (offset : ℕ) (bytes rest : List ℕ) (p : Part) (e : Result (Unit {0}) CertError)
      → Stands place p → bytes ≡ part_text place p ++ rest → EndsThere place offset bytes e → ⊥
  part_goes_on place offset bytes rest p (Ok done) stands is end = nothing_stands_behind place p end.0 stands
  part_goes_on place offset bytes rest p (Err (cert.BadToken at)) stands is end = (end.3 p rest stands).1 is
  part_goes_on place offset bytes rest p (Err (cert.Truncated at)) stands is end =
      not_a_front place bytes rest p stands is end.2
  part_goes_on place offset bytes rest p (Err (cert.Trailing at)) stands is end =
      nothing_stands_behind place p end.1 stands

  bad_is_no_front : (place : PartPlace) (bytes : List ℕ) → 0 < length bytes → HasNoPart place bytes
      → IsFrontOfPart place bytes → ⊥
  bad_is_no_front place bytes some none (inl nothing) = omega (arith, some, ap length nothing)
  bad_is_no_front place bytes some none (inr (q, more, stands, left, text)) = (none q more stands).0 text

  -- bytes end in one way by their spelling
  spelling_ends_once :
      (place : PartPlace) (offset : ℕ) (bytes : List ℕ) (a b : Result (Unit {0}) CertError)
      → EndsThere place offset bytes a → EndsThere place offset bytes b → a ≡ b
  spelling_ends_once place offset bytes (Ok x) (Ok y) a b = refl
  spelling_ends_once place offset bytes (Ok x) (Err (cert.BadToken at)) a b = absurd (b.1 a.0)
  spelling_ends_once place offset bytes (Ok x) (Err (cert.Truncated at)) a b = absurd (b.1 a.0)
  spelling_ends_once place offset bytes (Ok x) (Err (cert.Trailing at)) a b = absurd (omega (arith, b.2, ap length a.1))
  spelling_ends_once place offset bytes (Err (cert.BadToken at)) (Ok y) a b = absurd (a.1 b.0)
  spelling_ends_once place offset bytes (Err (cert.BadToken at)) (Err (cert.BadToken there)) a b =
      ap (λ (n : ℕ). Err (cert.BadToken n)) (a.0 ∙ sym b.0)
  spelling_ends_once place offset bytes (Err (cert.BadToken at)) (Err (cert.Truncated there)) a b =
      absurd (bad_is_no_front place bytes a.2 a.3 b.2)
  spelling_ends_once place offset bytes (Err (cert.BadToken at)) (Err (cert.Trailing there)) a b = absurd (a.1 b.1)
  spelling_ends_once place offset bytes (Err (cert.Truncated at)) (Ok y) a b = absurd (a.1 b.0)
  spelling_ends_once place offset bytes (Err (cert.Truncated at)) (Err (cert.BadToken there)) a b =
      absurd (bad_is_no_front place bytes b.2 b.3 a.2)
  spelling_ends_once place offset bytes (Err (cert.Truncated at)) (Err (cert.Truncated there)) a b =
      ap (λ (n : ℕ). Err (cert.Truncated n)) (a.0 ∙ sym b.0)
  spelling_ends_once place offset bytes (Err (cert.Truncated at)) (Err (cert.Trailing there)) a b = absurd (a.1 b.1)
  spelling_ends_once place offset bytes (Err (cert.Trailing at)) (Ok y) a b = absurd (omega (arith, a.2, ap length b.1))
  spelling_ends_once place offset bytes (Err (cert.Trailing at)) (Err (cert.BadToken there)) a b = absurd (b.1 a.1)
  spelling_ends_once place offset bytes (Err (cert.Trailing at)) (Err (cert.Truncated there)) a b = absurd (b.1 a.1)
  spelling_ends_once place offset bytes (Err (cert.Trailing at)) (Err (cert.Trailing there)) a b =
      ap (λ (n : ℕ). Err (cert.Trailing n)) (a.0 ∙ sym b.0)

  module _ {W : Type 0} (plan : ObName → Plan W) where
    -- where a part fits they do not stop
    fit_goes_on :
        (end : Result (Unit {0}) JudgeError) (point : Point W) (bytes rest : List ℕ) (p : Part)
        (branches : List (Branch W))
        → StopsThere end point bytes → Stands point.place p → bytes ≡ part_text point.place p ++ rest
        → branches_behind plan point p ≡ Ok branches → ⊥
    fit_goes_on (Ok done) point bytes rest p branches stops stands is opens =
        part_goes_on point.place point.offset bytes rest p (Ok tt) stands is stops
    fit_goes_on (Err end) point bytes rest p branches (inl (e, ends, named)) stands is opens =
        part_goes_on point.place point.offset bytes rest p (Err e) stands is ends
    fit_goes_on (Err end) point bytes rest p branches
        (inr (t, left, e, there, begins, refused, named)) stands is opens =
        let same = one_part point.place p (part.Tok t) rest left stands there (sym is ∙ begins) in
        let taken : after t point.branches ≡ Ok branches =
        subst (λ (q : Part). branches_behind plan point q ≡ Ok branches) same.0 opens in
        cc

    tokens_refused_once :
        (point : Point W) (bytes : List ℕ) (d e : JudgeError) → IsRefusedToken d point bytes
        → IsRefusedToken e point bytes → d ≡ e
    tokens_refused_once point bytes d e (t, rest, why, stands, begins, refused, named)
        (u, more, other, there, is, answered, called) =
        let same = one_part point.place (part.Tok t) (part.Tok u) rest more stands there (sym begins ∙ is) in
        let tokens : t ≡ u = same_token t u same.0 in
        let causes : why ≡ other =
        same_err why other (sym refused ∙ ap (λ (x : Tok). after x point.branches) tokens ∙ answered) in
        named ∙ ap (λ (x : CheckError). end_of_token point.offset x) causes ∙ sym called

    -- bytes stop at a point in one way: all is judged, or they are refused for one cause
    stop_once :
        (point : Point W) (bytes : List ℕ) (a b : Result (Unit {0}) JudgeError)
        → StopsThere a point bytes → StopsThere b point bytes → a ≡ b
    stop_once point bytes (Ok x) (Ok y) a b = refl
    stop_once point bytes (Ok x) (Err e) a (inl (c, ends, named)) =
        let no : ◌≡◌ {A = Result (Unit {0}) CertError} (Ok tt) (Err c) =
        spelling_ends_once point.place point.offset bytes (Ok tt) (Err c) a ends in
        absurd (cc)
    stop_once point bytes (Ok x) (Err e) a (inr (t, rest, why, stands, begins, refused, named)) =
        absurd (part_goes_on point.place point.offset bytes rest (part.Tok t) (Ok tt) stands begins a)
    stop_once point bytes (Err d) (Ok y) (inl (c, ends, named)) b =
        let no : ◌≡◌ {A = Result (Unit {0}) CertError} (Ok tt) (Err c) =
        spelling_ends_once point.place point.offset bytes (Ok tt) (Err c) b ends in
        absurd (cc)
    stop_once point bytes (Err d) (Ok y) (inr (t, rest, why, stands, begins, refused, named)) b =
        absurd (part_goes_on point.place point.offset bytes rest (part.Tok t) (Ok tt) stands begins b)
    stop_once point bytes (Err d) (Err e) (inl (c, ends, named)) (inl (o, stops, called)) =
        let same : c ≡ o =
        same_err c o (spelling_ends_once point.place point.offset bytes (Err c) (Err o) ends stops) in
        ap Err (named ∙ ap end_of_spelling same ∙ sym called)
    stop_once point bytes (Err d) (Err e) (inl (c, ends, named)) (inr (t, rest, why, stands, begins, refused, called)) =
        absurd (part_goes_on point.place point.offset bytes rest (part.Tok t) (Err c) stands begins ends)
    stop_once point bytes (Err d) (Err e) (inr (t, rest, why, stands, begins, refused, named)) (inl (c, ends, called)) =
        absurd (part_goes_on point.place point.offset bytes rest (part.Tok t) (Err c) stands begins ends)
    stop_once point bytes (Err d) (Err e) (inr one) (inr other) = ap Err (tokens_refused_once point bytes d e one other)

    -- bytes are made of one list of parts, and they stop in one way
    pub judged_once :
        (parts others : List Part) (point : Point W) (bytes : List ℕ) (a b : Result (Unit {0}) JudgeError)
        → FitThen plan a point bytes parts → FitThen plan b point bytes others → (a ≡ b) × (parts ≡ others)
    judged_once [] [] point bytes a b one other = (stop_once point bytes a b one other, refl)
    judged_once [] (q ∷ others) point bytes a b one other =
        absurd (fit_goes_on a point bytes other.1.0 q other.1.1 one other.0 other.1.2 other.1.3)
    judged_once (p ∷ parts) [] point bytes a b one other =
        absurd (fit_goes_on b point bytes one.1.0 p one.1.1 other one.0 one.1.2 one.1.3)
    judged_once (p ∷ parts) (q ∷ others) point bytes a b one other =
        let same = one_part point.place p q one.1.0 other.1.0 one.0 other.0 (sym one.1.2 ∙ other.1.2) in
        let branches : one.1.1 ≡ other.1.1 =
        same_ok one.1.1 other.1.1 (sym one.1.3 ∙ ap (λ (x : Part). branches_behind plan point x) same.0 ∙ other.1.3) in
        let later = judged_once parts others (point_behind point p one.1.1) one.1.0 a b one.1.4
        (subst (λ (x : Part). FitThen plan b (point_behind point x one.1.1) one.1.0 others) (sym same.0)
        (subst (λ (x : List (Branch W)). FitThen plan b (point_behind point q x) one.1.0 others) (sym branches)
        (subst (λ (x : List ℕ). FitThen plan b (point_behind point q other.1.1) x others) (sym same.1) other.1.4))) in
        (later.0, ap (λ (x : Part). x ∷ parts) same.0 ∙ ap (λ (l : List Part). q ∷ l) later.1)
