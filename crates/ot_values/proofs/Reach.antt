-- How far apart a literal holds two names of positions: at most 101 either way, or at most 397 where neither is zero or
-- the length.
use Rattle.std.proofs.Common.{◌≡◌, ◌⊎◌, ℕ, ◌+◌, ◌≤◌, ℤ, pos, negsuc, ◌-ℤ◌, ◌≤ℤ◌, ◌<ℤ◌, true, Some, List, [], ◌∷◌, sym}
use Rattle.std.proofs.Common.{◌∙◌, subst, inl, inr, arith}
use Rattle.std.specs.Prelude.{neg_ℤ}
use Rattle.std.specs.List.{AllByRecursion}
use Rattle.std.proofs.lemmas.Int.{ints}
use Rattle.diff_graph.specs.declared.lit.Lit.{Lit}
use Rattle.diff_graph.specs.Literals.{negated}
use Rattle.ot_model.specs.declared.op.Kind.{Kind}
use Rattle.ot_model.specs.declared.op.Kind.TheVariants as kinds
use Rattle.fn_rules.specs.declared.guard.Side.TheVariants.{First, Second}
use Rattle.fn_rules.specs.declared.guard.Sort.{Sort}
use Rattle.fn_rules.specs.declared.guard.Sort.TheVariants.{Pos, Site, Char}
use Rattle.fn_rules.specs.declared.function.Res.{Res}
use Rattle.fn_rules.specs.declared.function.Res.TheVariants as results
use Rattle.fn_rules.specs.Validity.{is_valid_res}
use Rattle.ask_core.specs.Plans.{Plan, Ask, Holds, Fails}
use Rattle.ask_core.specs.Leading.{LeadTo}
use Rattle.ot_questions.specs.declared.name.Who.{Who}
use Rattle.ot_questions.specs.declared.place.Place.{Place}
use Rattle.ot_questions.specs.declared.place.SymOp.{SymOp}
use Rattle.ot_questions.specs.declared.place.SymOp.TheVariants.{Ins, Del, Upd, Nop}
use Rattle.ot_questions.specs.declared.why.Why.{Why}
use Rattle.ot_questions.specs.Names.{position_name, site_name, char_name}
use Rattle.ot_questions.specs.Nears.{IsNear}
use Rattle.ot_questions.specs.Sorts.{sort_name}
use Rattle.ot_questions.specs.Places.{plus, sym_op, sym_at, sym_kind, sym_placed, sym_result, sym_thing}
use Rattle.ot_questions.proofs.Nears.{IsNear-more, IsNear-plus, IsNear-zero, IsNear-res}
use Rattle.ot_questions.proofs.Placed.{HasThing, char_sort, site_sort}

-- an offset from minus so many to one less than so many: what an answer and its negation both have
pub record IsAcross (n : ℕ) (k : ℤ) : Type 0 where
  pub low : neg_ℤ (pos n) ≤ℤ k
  pub high : k <ℤ pos n

-- one of three names
abbrev pub IsOneOf : ℕ → ℕ → ℕ → ℕ → Type 0
IsOneOf p q r x = (x ≡ p) ⊎ ((x ≡ q) ⊎ (x ≡ r))

-- the name is of no position
abbrev pub IsOther : ℕ → Type 0
IsOther x = sort_name x ≡ Pos → ⊥

site_other : (who : Who) → IsOther (site_name who)
site_other who e = absurd (let not : Site ≡ Pos = sym (site_sort who) ∙ e in cc)

char_other : (who : Who) → IsOther (char_name who)
char_other who e = absurd (let not : Char ≡ Pos = sym (char_sort who) ∙ e in cc)

-- with names that stand for places within the document
module _ (Inner : ℕ → Type 0) where
  -- such a name, or zero or the length
  abbrev pub IsNamed : ℕ → Type 0
  IsNamed x = ((x ≡ 0) ⊎ (x ≡ 1)) ⊎ Inner x

  -- how far apart a literal holds two names
  abbrev pub Spans : Lit → Type 0
  Spans l = (IsNamed l.x × IsNamed l.y × IsAcross 101 l.k) ⊎ (Inner l.x × Inner l.y × IsAcross 397 l.k)

  abbrev pub IsShort : Lit → Type 0
  IsShort l = sort_name l.x ≡ Pos → sort_name l.y ≡ Pos → Spans l

  abbrev pub AsksShort : Plan Why → Type 0
  AsksShort (Ask l on_yes on_no) = IsShort l × AsksShort on_yes × AsksShort on_no
  AsksShort Holds = Unit {0}
  AsksShort (Fails why) = Unit {0}

  across_negated : (n : ℕ) (k : ℤ) → IsAcross n k → IsAcross n (negsuc 0 -ℤ k)
  across_negated n k h = record { low = omega (arith, ints); high = omega (arith, ints) }

  short_negated : (l : Lit) → IsShort l → IsShort (negated l)
  short_negated l h ex ey =
      elim (h ey ex) [
        | inl near ↦ inl (near.1, near.0, across_negated 101 l.k near.2)
        | inr far ↦ inr (far.1, far.0, across_negated 397 l.k far.2)
      ]

  pub answers_are_short : (why : Why) (p : Plan Why) (w : List Lit) → AsksShort p → LeadTo why p w
      → AllByRecursion IsShort w
  answers_are_short why (Ask l p q) [] asks lead = absurd lead
  answers_are_short why (Ask l p q) (m ∷ w) asks (inl (same, lead)) =
      (subst (λ n. IsShort n) (sym same) asks.0, answers_are_short why p w asks.1 lead)
  answers_are_short why (Ask l p q) (m ∷ w) asks (inr (same, lead)) =
      (subst (λ n. IsShort n) (sym same) (short_negated l asks.0), answers_are_short why q w asks.2 lead)
  answers_are_short why Holds w asks lead = absurd lead
  answers_are_short why (Fails cause) [] asks lead = tt
  answers_are_short why (Fails cause) (m ∷ w) asks lead = absurd lead

  -- a place within the document
  pub record InnerAt (n : ℕ) (p : Place) : Type 0 where
    pub inner : Inner p.var
    pub near : IsNear n p.off

  -- what an atom compares: a place within the document, or what is no position
  abbrev pub IsThing : ℕ → Place → Type 0
  IsThing n p = InnerAt n p ⊎ IsOther p.var

  -- a form of an operation
  abbrev pub IsForm : ℕ → SymOp → Type 0
  IsForm n (Ins at ch site) = InnerAt n at × IsOther ch × IsOther site
  IsForm n (Del at site) = InnerAt n at × IsOther site
  IsForm n (Upd at ch site) = InnerAt n at × IsOther ch × IsOther site
  IsForm n Nop = Unit {0}

  pub inner_more : (m n : ℕ) (p : Place) → m ≤ n → InnerAt m p → InnerAt n p
  inner_more m n p h g = record { inner = g.inner; near = IsNear-more m n p.off h g.near }

  pub inner_plus : (m n : ℕ) (p : Place) (off : ℤ) → InnerAt m p → IsNear n off → InnerAt (m + n) (plus p off)
  inner_plus m n p off g h = record { inner = g.inner; near = IsNear-plus m n p.off off g.near h }

  pub thing_more : (m n : ℕ) (p : Place) → m ≤ n → IsThing m p → IsThing n p
  thing_more m n p h (inl inner) = inl (inner_more m n p h inner)
  thing_more m n p h (inr other) = inr other

  pub thing_plus : (m n : ℕ) (p : Place) (off : ℤ) → IsThing m p → IsNear n off → IsThing (m + n) (plus p off)
  thing_plus m n p off (inl inner) h = inl (inner_plus m n p off inner h)
  thing_plus m n p off (inr other) h = inr other

  pub form_more : (m n : ℕ) (o : SymOp) → m ≤ n → IsForm m o → IsForm n o
  form_more m n (Ins at ch site) h g = (inner_more m n at h g.0, g.1, g.2)
  form_more m n (Del at site) h g = (inner_more m n at h g.0, g.1)
  form_more m n (Upd at ch site) h g = (inner_more m n at h g.0, g.1, g.2)
  form_more m n Nop h g = tt

  -- where an operation that is not nop stands
  pub form_at : (n : ℕ) (o : SymOp) (k : Kind) → sym_kind o ≡ Some k → IsForm n o → InnerAt n (sym_at o)
  form_at n (Ins at ch site) k e h = h.0
  form_at n (Del at site) k e h = h.0
  form_at n (Upd at ch site) k e h = h.0
  form_at n Nop k e h = absurd (cc)

  -- what a guard compares of a form is its position, or a site or character
  pub form_thing :
      (n : ℕ) (sort : Sort) (o : SymOp) (k : Kind) → sym_kind o ≡ Some k → HasThing sort o → IsForm n o
      → IsThing n (sym_thing sort o)
  form_thing n Pos o k e there h = inl (form_at n o k e h)
  form_thing n Site (Ins at ch site) k e there h = inr h.2
  form_thing n Site (Del at site) k e there h = inr h.1
  form_thing n Site (Upd at ch site) k e there h = inr h.2
  form_thing n Site Nop k e there h = absurd (cc)
  form_thing n Char (Ins at ch site) k e there h = inr h.1
  form_thing n Char (Del at site) k e (c, none) h = absurd (cc)
  form_thing n Char (Upd at ch site) k e there h = inr h.1
  form_thing n Char Nop k e there h = absurd (cc)

  form_placed : (m n : ℕ) (o : SymOp) (p : Place) → IsForm n o → InnerAt m p → IsForm m (sym_placed o p)
  form_placed m n (Ins at ch site) p h g = (g, h.1, h.2)
  form_placed m n (Del at site) p h g = (g, h.1)
  form_placed m n (Upd at ch site) p h g = (g, h.1, h.2)
  form_placed m n Nop p h g = tt

  -- what a result makes of two operations that are not nop
  pub form_result :
      (n : ℕ) (res : Res) (a b : SymOp) (k l : Kind) → sym_kind a ≡ Some k → sym_kind b ≡ Some l
      → is_valid_res res ≡ true
      → IsForm n a → IsForm n b → IsForm (n + 99) (sym_result res a b)
  form_result n (results.Keep First off) a b k l ea eb h ha hb =
      form_placed (n + 99) n a (plus (sym_at a) off) ha
      (inner_plus n 99 (sym_at a) off (form_at n a k ea ha) (IsNear-res (results.Keep First off) h))
  form_result n (results.Keep Second off) a b k l ea eb h ha hb =
      form_placed (n + 99) n a (plus (sym_at b) off) ha
      (inner_plus n 99 (sym_at b) off (form_at n b l eb hb) (IsNear-res (results.Keep Second off) h))
  form_result n results.Nop a b k l ea eb h ha hb = tt

  -- the operations of an obligation
  pub form_made : (k : Kind) (who : Who) → Inner (position_name who) → IsForm 0 (sym_op k who)
  form_made kinds.Ins who h = (record { inner = h; near = IsNear-zero 0 }, char_other who, site_other who)
  form_made kinds.Del who h = (record { inner = h; near = IsNear-zero 0 }, site_other who)
  form_made kinds.Upd who h = (record { inner = h; near = IsNear-zero 0 }, char_other who, site_other who)
