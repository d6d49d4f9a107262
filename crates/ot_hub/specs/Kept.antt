-- What is kept of a hub: what is on its way can be transformed.
use Rattle.std.specs.Prelude.{◌≡◌, ℕ, ◌+◌, ◌≤◌, List, length}
use Rattle.std.specs.List.{All, sum_by}
use Rattle.ot_model.specs.declared.limits.TheConstants.{MAX_CELLS}
use Rattle.fn_rules.specs.Functions.{Function}
use Rattle.ot_hub.specs.declared.client.Client.{Client}
use Rattle.ot_hub.specs.declared.limits.TheConstants.{MAX_EDITS, MAX_CLIENTS}
use Rattle.ot_hub.specs.declared.server.Server.{Server}
use Rattle.ot_hub.specs.Usable.{IsUsable, AreUsable, most_hub_cells, reach}

-- each entry of the log was carried as often as there are entries, at most
pub record IsServerKept (f : Function) (server : Server) : Type 0 where
  pub few : length server.log ≤ MAX_EDITS
  pub log : All (λ entry. IsUsable f (reach (length server.log)) entry.op) server.log
  pub ahead : All (λ list. AreUsable f (reach (length server.log)) list) server.ahead
  pub short : All (λ list. length list ≤ length server.log) server.ahead
  pub cells : length server.doc ≤ MAX_CELLS + length server.log

-- what is pending was carried as often as there are entries and entries were received, at most
pub record IsClientKept (f : Function) (entries : ℕ) (client : Client) : Type 0 where
  pub few : client.edits ≤ MAX_EDITS
  pub received : client.received ≤ entries
  pub pending : AreUsable f (reach (entries + client.received)) client.pending
  pub short : length client.pending ≤ client.edits
  pub messages : AreUsable f most_hub_cells client.messages
  pub cells : length client.doc ≤ MAX_CELLS + client.edits + client.received

-- so much can be on its way: no more than was made
pub record IsHubKept (f : Function) (count : ℕ) (s : Server) (all : List Client) : Type 0 where
  pub server : IsServerKept f s
  pub clients : All (IsClientKept f (length s.log)) all
  pub sides : length s.ahead ≡ length all
  pub most : length all ≤ MAX_CLIENTS
  pub few : count ≤ MAX_EDITS
  pub made : count ≡ sum_by (λ client. client.edits) all
  pub moved : length s.log + sum_by (λ client. length client.messages) all ≡ count
