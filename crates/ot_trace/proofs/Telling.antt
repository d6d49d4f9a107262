-- What is told of a list of events, one after the other.
use Rattle.std.proofs.Common.{◌≡◌, ℕ, ◌+◌, Bool, true, false, List, ◌∷◌, drop, sym, subst, inl, inr}
use Rattle.ot_trace.specs.Events.{IsTold, TracesBy}

module _ {S E : Type 0} (IsDone : S → ℕ → E → S → List ℕ → Type 0) (IsRefused : S → ℕ → E → List ℕ → Type 0) where
  -- an event is done, and the events after it are told
  pub goes_on :
      (s new : S) (i : ℕ) (events : List E) (event : E) (before mid after : List ℕ)
      → drop i events ≡ event ∷ drop (i + 1) events
      → IsTold IsDone IsRefused s i event new true before mid
      → TracesBy IsDone IsRefused new (i + 1) (drop (i + 1) events) mid after
      → TracesBy IsDone IsRefused s i (drop i events) before after
  goes_on s new i events event before mid after is (line, done, written) rest =
      subst (λ (l : List E). TracesBy IsDone IsRefused s i l before after) (sym is)
      (inr (
        new,
        line,
        done,
        subst (λ (m : List ℕ). TracesBy IsDone IsRefused new (i + 1) (drop (i + 1) events) m after) written rest,
      ))

  -- an event is refused
  pub stops :
      (s new : S) (i : ℕ) (events : List E) (event : E) (before after : List ℕ)
      → drop i events ≡ event ∷ drop (i + 1) events
      → IsTold IsDone IsRefused s i event new false before after
      → TracesBy IsDone IsRefused s i (drop i events) before after
  stops s new i events event before after is told =
      subst (λ (l : List E). TracesBy IsDone IsRefused s i l before after) (sym is) (inl told)

  -- an event that was done was told so
  pub told_done : (s new : S) (i : ℕ) (event : E) (went : Bool) (before after : List ℕ) → went ≡ true
      → IsTold IsDone IsRefused s i event new went before after
      → IsTold IsDone IsRefused s i event new true before after
  told_done s new i event went before after is told =
      subst (λ (w : Bool). IsTold IsDone IsRefused s i event new w before after) is told

  -- an event that was refused was told so
  pub told_stopped : (s new : S) (i : ℕ) (event : E) (went : Bool) (before after : List ℕ) → went ≡ false
      → IsTold IsDone IsRefused s i event new went before after
      → IsTold IsDone IsRefused s i event new false before after
  told_stopped s new i event went before after is told =
      subst (λ (w : Bool). IsTold IsDone IsRefused s i event new w before after) is told
