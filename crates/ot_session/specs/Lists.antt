-- Lists of numbers of operations, newest first.
use Rattle.std.specs.Prelude.{ℕ, List, map}
use Rattle.std.specs.List.{range_with_len}
use Rattle.ot_causal.specs.Members.{IsSublist}
use Rattle.ot_causal.specs.Past.{Past, IsReady}
use Rattle.ot_causal.specs.Counting.{from_site}
use Rattle.ot_session.specs.declared.limits.TheConstants.{MAX_SITES}

-- how many members each site made, from site 1 on
abbrev pub clock : Past → List ℕ → List ℕ
clock past l = map (λ t. from_site past t l) (range_with_len 1 MAX_SITES)

-- the form of the operation can be sought behind the list, which is part of what a site has integrated
pub record CanBeSought (past : Past) (seen : List ℕ) (o : ℕ) (l : List ℕ) : Type 0 where
  pub ready : IsReady past o l
  pub sublist : IsSublist l seen
