-- What a list of events comes to that are run one after the other, whatever they are events of.
use Rattle.std.specs.Prelude.{ℕ, ◌+◌, ◌⊎◌, List, [], ◌∷◌}
use Rattle.ot_replies.specs.declared.reply.Reply.{Reply}

-- the events are done one after the other, up to the first that is refused, and this is the reply: that of the first
-- one that is refused, or the one that tells what stands after the last; the first of them has this number
abbrev pub RunsBy :
    {S E : Type 0} → (S → Reply → Type 0) → (S → ℕ → E → Reply → Type 0) → (S → E → S → Type 0) → S → ℕ → List E → Reply
    → Type 0
RunsBy {S = S} Tells IsRefused IsDone s i [] r = Tells s r
RunsBy {S = S} Tells IsRefused IsDone s i (event ∷ events) r =
    IsRefused s i event r ⊎ ((new : S) × IsDone s event new × RunsBy Tells IsRefused IsDone new (i + 1) events r)
