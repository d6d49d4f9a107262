-- What a list of events comes to: behind some of them, and once.
use Rattle.std.proofs.Common.{◌≡◌, ◌≢◌, ℕ, ◌+◌, List, [], ◌∷◌, drop, sym, subst, inl, inr}
use Rattle.ot_replies.specs.declared.reply.Reply.{Reply}
use Rattle.ot_replies.specs.Texts.{status_of}
use Rattle.ot_commands.specs.Running.{RunsBy}

module _ {S E : Type 0} (Tells : S → Reply → Type 0) (IsRefused : S → ℕ → E → Reply → Type 0)
    (IsDone : S → E → S → Type 0) where
  -- an event is done, and the events after it get a reply
  pub goes_on :
      (s new : S) (i : ℕ) (events : List E) (event : E) (r : Reply) → drop i events ≡ event ∷ drop (i + 1) events
      → IsDone s event new → RunsBy Tells IsRefused IsDone new (i + 1) (drop (i + 1) events) r
      → RunsBy Tells IsRefused IsDone s i (drop i events) r
  goes_on s new i events event r is done runs =
      subst (λ (l : List E). RunsBy Tells IsRefused IsDone s i l r) (sym is) (inr (new, done, runs))

  -- an event is refused
  pub stops :
      (s : S) (i : ℕ) (events : List E) (event : E) (r : Reply) → drop i events ≡ event ∷ drop (i + 1) events
      → IsRefused s i event r → RunsBy Tells IsRefused IsDone s i (drop i events) r
  stops s i events event r is refused =
      subst (λ (l : List E). RunsBy Tells IsRefused IsDone s i l r) (sym is) (inl refused)

  -- what events come to is one, where each of them is done in one way or refused with one reply
  pub runs_once :
      ((s : S) (r q : Reply) → Tells s r → Tells s q → r ≡ q)
      → ((s : S) (i : ℕ) (event : E) (r q : Reply) → IsRefused s i event r → IsRefused s i event q → r ≡ q)
      → ((s : S) (event : E) (one other : S) → IsDone s event one → IsDone s event other → one ≡ other)
      → ((s : S) (i : ℕ) (event : E) (r : Reply) (new : S) → IsRefused s i event r → ¬ (IsDone s event new))
      → (s : S) (i : ℕ) (events : List E) (r q : Reply) → RunsBy Tells IsRefused IsDone s i events r
      → RunsBy Tells IsRefused IsDone s i events q → r ≡ q
  runs_once told refused done both s i [] r q first second = told s r q first second
  runs_once told refused done both s i (event ∷ events) r q (inl stop) (inl again) = refused s i event r q stop again
  runs_once told refused done both s i (event ∷ events) r q (inl stop) (inr (new, was, more)) =
      absurd (both s i event r new stop was)
  runs_once told refused done both s i (event ∷ events) r q (inr (new, was, more)) (inl stop) =
      absurd (both s i event q new stop was)
  runs_once told refused done both s i (event ∷ events) r q (inr (one, was, rest)) (inr (other, again, more)) =
      runs_once told refused done both one (i + 1) events r q rest
      (subst (λ (w : S). RunsBy Tells IsRefused IsDone w (i + 1) events q) (done s event other one again was) more)

  -- no reply to events has a status that none to one of them and none to what stands after the last has
  pub runs_other :
      (status : ℕ) → ((s : S) (r : Reply) → Tells s r → status_of r ≢ status)
      → ((s : S) (i : ℕ) (event : E) (r : Reply) → IsRefused s i event r → status_of r ≢ status)
      → (s : S) (i : ℕ) (events : List E) (r : Reply)
      → RunsBy Tells IsRefused IsDone s i events r → status_of r ≢ status
  runs_other status told refused s i [] r tells = told s r tells
  runs_other status told refused s i (event ∷ events) r (inl stop) = refused s i event r stop
  runs_other status told refused s i (event ∷ events) r (inr done) =
      runs_other status told refused done.0 (i + 1) events r done.2
