-- A tree that is judged token by token.
use Rattle.std.proofs.Common.{◌≡◌, ◌↔◌, ℕ, ◌<◌, Bool, true, false, IsTrue, List, [], ◌∷◌, length, Ok, arith, refl, sym}
use Rattle.std.proofs.Common.{ap, subst}
use Rattle.std.proofs.lemmas.List.{length-map}
use Rattle.ask_core.specs.declared.tree.Tok.{Tok}
use Rattle.ask_core.specs.Plans.{Plan}
use Rattle.ask_core.specs.Trees.{Branch}
use Rattle.ask_core.specs.Paths.{OpenPlace, branch_at, branches_at}
use Rattle.cert_check.specs.declared.verdict.CheckError.{CheckError}
use Rattle.cert_check.specs.Steps.{after}
use Rattle.cert_check.specs.Judging.{IsCauseOf}
use Rattle.cert_text.specs.declared.item.Part.TheVariants as part
use Rattle.cert_text.specs.Places.{PartPlace, Start, Line, Tree, Finish}
use Rattle.ot_outside.specs.declared.feed.Feed.{Ghosts}
use Rattle.refusals.specs.declared.refusal.JudgeError.{JudgeError}
use Rattle.ot_sections.specs.Parts.{end_of_token}
use Rattle.ot_sections.specs.Feeding.{Fed}
use Rattle.ot_sections.specs.Stands.{Came, IsMisspeltBehind, IsRefusedAnyway, IsTreeOf, StandLeads, LeadsAnyway, Stand}
use Rattle.ot_sections.specs.Stands.{opened, stand, tree_with}
use Rattle.ot_sections.proofs.Leading.{leads_on, leads_same, misspelt_refused, part_leads, refused_through}
use Rattle.ot_sections.proofs.Leading.{token_refused}

module _ {N W : Type 0} (plan : N → Plan W) where
  -- as many places as branches are open
  pub counted : (places : List (OpenPlace N)) → length (branches_at plan places) ≡ length places
  counted places = length-map places (branch_at plan)

  pub one_place : (places : List (OpenPlace N)) (root : Plan W)
      → branches_at plan places ≡ opened root → length places ≡ 1
  one_place places root is = omega (arith, counted places, ap length is)

  pub no_branch : (places : List (OpenPlace N)) → places ≡ [] → branches_at plan places ≡ []
  no_branch places none = ap (λ (p : List (OpenPlace N)). branches_at plan p) none

-- no place is open
pub none_open : {N : Type 0} (test : Bool) (places : List (OpenPlace N)) → test ≡ false
    → (IsTrue test ↔ (0 < length places)) → places ≡ []
none_open test [] closed opened = refl
none_open test (p ∷ places) closed opened =
    let one : 0 < length (p ∷ places) = omega arith in let e : test ≡ true = opened.1 one in absurd (cc)

-- a place in a tree, by its open branches
pub tree_is : (place : PartPlace) (count : ℕ) → IsTreeOf count place → place ≡ tree_with count place
tree_is (Tree came names branches) count is = ap (λ (n : ℕ). Tree came names n) is
tree_is (Start tp1 tp2) count is = refl
tree_is (Line came names) count is = refl
tree_is Finish count is = refl

module _ {F W : Type 0} (feeds : Ghosts F) where
  pub leads_first :
      (at : Fed F) (branches first : List (Branch W)) → branches ≡ first
      → LeadsAnyway feeds (stand at first) (stand at branches)
  leads_first at branches first is plan =
      subst (λ (b : List (Branch W)). StandLeads feeds plan (stand at first) (stand at b)) (sym is)
      (leads_same feeds plan (stand at first))

  module _ (first : Stand F W) (was : Fed F) (branches : List (Branch W))
      (leads : LeadsAnyway feeds first (stand was branches)) where
    -- a token that is taken leads behind it
    pub leads_token :
        (now : Fed F) (offset : ℕ) (t : Tok) (next : List (Branch W))
        → Came feeds was now (record { offset = offset; part = part.Tok t }) → after t branches ≡ Ok next
        → LeadsAnyway feeds first (stand now next)
    leads_token now offset t next comes taken plan =
        leads_on feeds plan first (stand was branches) (stand now next) (leads plan)
        (part_leads feeds plan was now (record { offset = offset; part = part.Tok t }) branches next comes taken)

    -- one that is refused, and bytes that are no token, are refused
    pub refused_token :
        (now : Fed F) (offset : ℕ) (t : Tok) (why : CheckError)
        → Came feeds was now (record { offset = offset; part = part.Tok t }) → IsCauseOf why t branches
        → IsRefusedAnyway feeds first now.feed (end_of_token offset why)
    refused_token now offset t why comes cause plan =
        refused_through feeds plan first (stand was branches) now.feed (end_of_token offset why) (leads plan)
        (token_refused feeds plan was now offset t branches why comes cause)

    pub refused_bytes : (now : F) (e : JudgeError) → IsMisspeltBehind feeds was now e
        → IsRefusedAnyway feeds first now e
    refused_bytes now e misspelt plan =
        refused_through feeds plan first (stand was branches) now e (leads plan)
        (misspelt_refused feeds plan was branches now e misspelt)
