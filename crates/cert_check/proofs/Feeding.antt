-- What feeding a token keeps of a checker.
use Rattle.std.proofs.Common.{◌≡◌, ℕ, ℤ, ◌<◌, List, [], ◌∷◌, length, Bool, true, false, Ok, IsTrue, ◌↔◌, arith, refl}
use Rattle.std.proofs.Common.{sym, ap, ◌∙◌, subst}
use Rattle.diff_graph.specs.Literals.{AreMet}
use Rattle.ask_core.specs.declared.tree.Tok.{Tok}
use Rattle.ask_core.specs.Plans.{Plan, value}
use Rattle.ask_core.specs.Trees.{Branch, Completes}
use Rattle.ask_core.specs.Paths.{OpenPlace, AreOwn, branches_at}
use Rattle.cert_check.specs.Steps.{after, HasFewPicks}
use Rattle.cert_check.specs.Judging.{IsUnderWay}
use Rattle.cert_check.proofs.Completing.{ByToken, Completes-step}

-- a checker begins with one place, at which the asker's own plan is still to be answered
pub IsUnderWay-begun :
    {N W : Type 0} (is_own : N → Type 0) (plan : N → Plan W) (root : Plan W) (first : N) (places : List (OpenPlace N))
    → ((tokens : List Tok) (b : Branch W) (v : ℕ → ℤ) → AreMet v b.answers
    → Completes tokens (b ∷ []) → value b.plan v ≡ true)
    → is_own first × (plan first ≡ root) → places ≡ record { node = first; answers = [] } ∷ []
    → IsUnderWay is_own plan root places
IsUnderWay-begun is_own plan root first places completed begins begun =
    subst (λ (x : List (OpenPlace _)). IsUnderWay is_own plan root x) (sym begun)
    (record {
      own = (begins.0, tt);
      follows = λ tokens whole v.
          ap (λ (p : Plan _). value p v) (sym begins.1)
          ∙ completed tokens (record { plan = plan first; answers = [] }) v tt whole;
    })

module _ {N W : Type 0} {was_own is_own : N → Type 0} {old new : N → Plan W} (places : List (OpenPlace N)) (tok : Tok)
    {was_root root : Plan W} (way : IsUnderWay was_own old was_root places) (next : List (OpenPlace N))
    (own : AreOwn is_own next) (same_root : root ≡ was_root) where
  -- a token that is taken keeps that the asker's plan follows from the open places
  pub IsUnderWay-taken :
      ByToken W → HasFewPicks tok → after tok (branches_at old places) ≡ Ok (branches_at new next)
      → IsUnderWay is_own new root next
  IsUnderWay-taken by_token few taken = record {
    own = own;
    follows = λ tokens rest v.
        ap (λ (p : Plan W). value p v) same_root
        ∙ way.follows (tok ∷ tokens)
        ((Completes-step by_token tok (branches_at old places) (branches_at new next) tokens few taken).1 rest) v;
  }

  -- so does a token that is refused, which leaves the branches as they were
  pub IsUnderWay-refused : branches_at new next ≡ branches_at old places → IsUnderWay is_own new root next
  IsUnderWay-refused stays = record {
    own = own;
    follows = λ tokens rest v.
        ap (λ (p : Plan W). value p v) same_root
        ∙ way.follows tokens (subst (λ (x : List (Branch W)). Completes tokens x) stays rest) v;
  }

-- nothing is open
pub none_open : {N : Type 0} (test : Bool) (places : List (OpenPlace N)) → test ≡ false
    → (IsTrue test ↔ (0 < length places)) → places ≡ []
none_open test [] closed opened = refl
none_open test (p ∷ places) closed opened =
    let one : 0 < length (p ∷ places) = omega arith in let e : test ≡ true = opened.1 one in absurd (cc)
