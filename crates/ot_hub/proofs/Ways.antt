-- A client and the server stay on two ways to one document, whatever step is taken.
use Rattle.std.proofs.Common.{◌≡◌, ◌≢◌, ◌+◌, ℕ, zero, suc, false, List, [], ◌∷◌, ◌++◌, length, take, drop, Option, Some}
use Rattle.std.proofs.Common.{None, refl, sym, ap, ◌∙◌, subst, inl, inr, add-one}
use Rattle.std.specs.Prelude.{slice_get}
use Rattle.std.specs.List.{AllByRecursion}
use Rattle.std.proofs.lemmas.Bool.{false≢true}
use Rattle.std.proofs.lemmas.List.{drop_more}
use Rattle.std.proofs.lemmas.Option.{slice_get_within, get_or_from_slice_get}
use Rattle.ot_model.specs.declared.cell.Cell.{Cell}
use Rattle.ot_model.specs.declared.op.Mode.{Mode}
use Rattle.ot_model.specs.declared.op.Op.{Op}
use Rattle.ot_model.specs.Operations.{site_of}
use Rattle.ot_model.specs.Effect.{document_after}
use Rattle.fn_rules.specs.Functions.{Function}
use Rattle.fn_rules.specs.Transformation.{transform_of, Differ, IsAllowed}
use Rattle.fn_rules.specs.Conditions.{IsIntegrable, IsFormOf}
use Rattle.fn_rules.specs.Forms.{KeepsForms}
use Rattle.ot_hub.specs.declared.placed.PlacedOp.{PlacedOp}
use Rattle.ot_hub.specs.declared.placed.Entry.{Entry}
use Rattle.ot_hub.specs.Chains.{document_after_all, IsChain, IsAllowedWith}
use Rattle.ot_hub.specs.InStep.{IsOf, IsOfOthers, operations}
use Rattle.ot_hub.specs.Meeting.{BecomesForm, Ups}
use Rattle.ot_hub.specs.Steps.{Step, To}

-- the document after a list and one more
pub document_after_all-push : (mode : Mode) (xs : List PlacedOp) (b : PlacedOp) (d : List Cell)
    → document_after_all mode (xs ++ b ∷ []) d ≡ document_after mode b.op (document_after_all mode xs d)
document_after_all-push mode [] b d = refl
document_after_all-push mode (x ∷ xs) b d = document_after_all-push mode xs b (document_after mode x.op d)

pub IsChain-push : (f : Function) (d : List Cell) (xs : List PlacedOp) (b : PlacedOp) → IsChain f d xs
    → IsIntegrable f (length (document_after_all f.head.mode xs d)) b.op → IsChain f d (xs ++ b ∷ [])
IsChain-push f d [] b chain next = (next, tt)
IsChain-push f d (x ∷ xs) b chain next = (chain.0, IsChain-push f (document_after f.head.mode x.op d) xs b chain.1 next)

-- the next entry of the log
module _ (f : Function) where
  pub integrable_next : (d : List Cell) (log : List Entry) (r : ℕ) (entry : Entry) → slice_get log r ≡ Some entry
      → IsChain f d (operations log)
      → IsIntegrable f (length (document_after_all f.head.mode (operations (take r log)) d)) entry.op
  integrable_next d [] r entry next chain = cc
  integrable_next d (e ∷ log) zero entry next chain =
      let same : e ≡ entry = cc in subst (λ (x : Entry). IsIntegrable f (length d) x.op) same chain.0
  integrable_next d (e ∷ log) (suc r) entry next chain =
      integrable_next (document_after f.head.mode e.op d) log r entry next chain.1

  after_suc : (d : List Cell) (log : List Entry) (r : ℕ) (entry : Entry) → slice_get log r ≡ Some entry
      → document_after_all f.head.mode (operations (take (suc r) log)) d
      ≡ document_after f.head.mode entry.op (document_after_all f.head.mode (operations (take r log)) d)
  after_suc d [] r entry next = cc
  after_suc d (e ∷ log) zero entry next =
      let same : e ≡ entry = cc in ap (λ (x : Entry). document_after f.head.mode x.op d) same
  after_suc d (e ∷ log) (suc r) entry next = after_suc (document_after f.head.mode e.op d) log r entry next

  pub after_next : (d : List Cell) (log : List Entry) (r : ℕ) (entry : Entry) → slice_get log r ≡ Some entry
      → document_after_all f.head.mode (operations (take (r + 1) log)) d
      ≡ document_after f.head.mode entry.op (document_after_all f.head.mode (operations (take r log)) d)
  after_next d log r entry next =
      ap (λ (n : ℕ). document_after_all f.head.mode (operations (take n log)) d) (add-one r)
      ∙ after_suc d log r entry next

pub own_next : (log : List Entry) (r : ℕ) (entry : Entry) → slice_get log r ≡ Some entry
    → AllByRecursion (λ e. IsOf e.client e.op) log → IsOf entry.client entry.op
own_next [] r entry next own = cc
own_next (e ∷ log) zero entry next own = let same : e ≡ entry = cc in
    subst (λ (x : Entry). IsOf x.client x.op) same own.0
own_next (e ∷ log) (suc r) entry next own = own_next log r entry next own.1

pub drop_next : (log : List Entry) (r : ℕ) (entry : Entry) → slice_get log r ≡ Some entry
    → drop r log ≡ entry ∷ drop (r + 1) log
drop_next log r entry next =
    drop_more log r entry (slice_get_within log r entry next)
    ∙ ap (λ (x : Entry). x ∷ drop (r + 1) log) (get_or_from_slice_get log r entry entry next)

pub own-push : (log : List Entry) (e : Entry) → AllByRecursion (λ x. IsOf x.client x.op) log → IsOf e.client e.op
    → AllByRecursion (λ x. IsOf x.client x.op) (log ++ e ∷ [])
own-push [] e own is = (is, tt)
own-push (x ∷ log) e own is = (own.0, own-push log e own.1 is)

-- a step leads on, to what has a property
pub record LeadsTo {X : Type 0} (P : X → Type 0) (step : Step X) : Type 0 where
  pub to : X
  pub is : step ≡ To to
  pub holds : P to

-- what the oldest message becomes, and the younger ones after it
pub record FirstUp (f : Function) (message : PlacedOp) (messages ahead all kept : List PlacedOp) : Type 0 where
  pub form : PlacedOp
  pub forms : List PlacedOp
  pub is : all ≡ form ∷ forms
  pub first : BecomesForm f message ahead form (λ behind. Ups f messages behind forms kept)

pub first_up : (f : Function) (message : PlacedOp) (messages ahead forms kept : List PlacedOp)
    → Ups f (message ∷ messages) ahead forms kept
    → FirstUp f message messages ahead forms kept
first_up f message messages ahead [] kept ups = absurd ups
first_up f message messages ahead (form ∷ forms) kept ups =
    record { form = form; forms = forms; is = refl; first = ups }

-- operations of a client and of others differ in their sites
differ_sites : (a b : Option ℕ) (c : ℕ) → ((site : ℕ) → a ≡ Some site → site ≡ c) → b ≢ Some c → Differ a b
differ_sites None b c of others = tt
differ_sites (Some x) None c of others = tt
differ_sites (Some x) (Some y) c of others = λ same. others (ap Some (sym same ∙ of x refl))

pub of_other : (c d : ℕ) (o : Op) → d ≢ c → IsOf d o → IsOfOthers c o
of_other c d o other of = λ has. other (sym (of c has))

module _ (f : Function) (keeps : KeepsForms f) (any_chars : f.head.chars_differ ≡ false)
    (is_form : (a b form : Op) → transform_of f a b ≡ Some form → IsFormOf a form) where
  -- whose an operation is stays with its forms
  pub of-kept : (c : ℕ) (a b form : Op) → transform_of f a b ≡ Some form → IsOf c a → IsOf c form
  of-kept c a b form is of = λ site has. elim (is_form a b form is) [
    | inl nop ↦ absurd (let none : site_of form ≡ None = ap site_of nop in cc)
    | inr moved ↦ of site (sym moved.site ∙ has)
  ]

  pub others-kept : (c : ℕ) (a b form : Op) → transform_of f a b ≡ Some form → IsOfOthers c a → IsOfOthers c form
  others-kept c a b form is others = λ has. elim (is_form a b form is) [
    | inl nop ↦ (let none : site_of form ≡ None = ap site_of nop in cc)
    | inr moved ↦ others (sym moved.site ∙ has)
  ]

  allowed : (c : ℕ) (a b : Op) → IsOf c a → IsOfOthers c b → IsAllowed f a b
  allowed c a b of others = record {
    sites = λ _. differ_sites (site_of a) (site_of b) c of others;
    chars = λ is. absurd (false≢true (sym any_chars ∙ is));
  }

  -- an operation of a client with those of others, and one of others with those of the client
  pub allowed_with_others : (c : ℕ) (o : Op) (list : List PlacedOp) → IsOf c o
      → AllByRecursion (λ b. IsOfOthers c b.op) list → IsAllowedWith f o list
  allowed_with_others c o [] of all = tt
  allowed_with_others c o (b ∷ list) of all = (allowed c o b.op of all.0, allowed_with_others c o list of all.1)

  pub allowed_with_own : (c : ℕ) (o : Op) (list : List PlacedOp) → IsOfOthers c o
      → AllByRecursion (λ b. IsOf c b.op) list → IsAllowedWith f o list
  allowed_with_own c o [] others all = tt
  allowed_with_own c o (b ∷ list) others all =
      (keeps.allowed_back b.op o (allowed c b.op o all.0 others), allowed_with_own c o list others all.1)
