-- What both transformation properties give of a session, whatever was made and integrated in whichever order.
use Rattle.std.specs.Prelude.{◌≡◌, ℕ, List, length, Some}
use Rattle.ot_model.specs.declared.cell.Cell.{Cell}
use Rattle.ot_model.specs.declared.op.Op.{Op}
use Rattle.ot_model.specs.Effect.{IsEnabled}
use Rattle.fn_rules.specs.Functions.{Function}
use Rattle.ot_causal.specs.Members.{HaveOneSet}
use Rattle.ot_causal.specs.Past.{Past, IsNext, IsClosed, IsReady}
use Rattle.ot_causal.specs.Forms.{form, state}
use Rattle.ot_causal.specs.Sessions.{SessionData, IsSite}

-- the list leads to a document
pub record HasState (f : Function) (past : Past) (first : List Cell) (l : List ℕ) : Type 0 where
  pub document : List Cell
  pub is : state f past first l ≡ Some document

-- the operation has a form behind the list, which is enabled on the document
pub record HasEnabledForm (f : Function) (past : Past) (d : List Cell) (o : ℕ) (l : List ℕ) : Type 0 where
  pub there : Op
  pub is : form f past o l ≡ Some there
  pub enabled : IsEnabled there (length d)

-- each closed list leads to a document, on which each operation that the list is ready for has an enabled
-- form; documents and forms are the same for any two lists of one set
pub record HasOneCourse (f : Function) (past : Past) (first : List Cell) : Type 0 where
  pub documents : (l : List ℕ) → IsClosed past l → HasState f past first l
  pub forms : (o : ℕ) (l : List ℕ) (d : List Cell) → IsReady past o l → state f past first l ≡ Some d
      → HasEnabledForm f past d o l
  pub one_document : (l m : List ℕ) → IsClosed past l → IsClosed past m → HaveOneSet l m
      → state f past first l ≡ state f past first m
  pub one_form : (o : ℕ) (l m : List ℕ) → IsReady past o l → IsReady past o m → HaveOneSet l m
      → form f past o l ≡ form f past o m

-- an operation that is next at a site has a form that exists and is enabled there, and two sites that have
-- integrated the same set hold one document
pub record Converges (f : Function) (session : SessionData) : Type 0 where
  pub never_stuck : (s o : ℕ) → IsSite session.sites s → IsNext session.past (session.seen s) o
      → HasEnabledForm f session.past (session.document s) o (session.seen s)
  pub one_document : (s u : ℕ) → IsSite session.sites s → IsSite session.sites u
      → HaveOneSet (session.seen s) (session.seen u)
      → session.document s ≡ session.document u
