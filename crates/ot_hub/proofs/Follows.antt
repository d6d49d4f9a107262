-- What a hub in step tells of its documents. Documents are lists, so the facts are no more than facts.
use Rattle.std.proofs.Common.{ℕ, Bool, List, take, refl, sym, ap, ◌∙◌, arith}
use Rattle.std.specs.Coded.{Coded, Coded-set, code_by, coded×, coded_ℕ, coded_bool, coded_list}
use Rattle.std.proofs.lemmas.List.{take_all}
use Rattle.std.proofs.Math.Logic.{∥∥₁_elim}
use Rattle.ot_model.specs.declared.cell.Cell.{Cell}
use Rattle.ot_hub.specs.declared.placed.Entry.{Entry}
use Rattle.ot_hub.specs.declared.placed.PlacedOp.{PlacedOp}
use Rattle.ot_hub.specs.Chains.{document_after_all}
use Rattle.ot_hub.specs.InStep.{operations, AreInStep}
use Rattle.ot_hub.specs.Theorem.{FollowsLog}
use Rattle.ot_hub.specs.Views.{HubData, client_of}

cell_code : Coded Cell
cell_code = code_by (ℕ × Bool) (coded× coded_ℕ coded_bool) (λ c. (c.ch, c.live))
    (λ p. record { ch = p.0; live = p.1 }) (λ _. refl)

document_code : Coded (List Cell)
document_code = coded_list cell_code

module _ (hub : HubData) where
  -- in a hub in step a client that received all and made nothing has the server's document
  pub follows : AreInStep hub.function hub.first hub.server hub.clients → FollowsLog hub
  follows s = record {
    clients = λ c there. (s.each c there).doc;
    one_document = λ c there received nothing.
        (s.each c there).doc
        ∙ ap (λ (l : List PlacedOp). document_after_all hub.function.head.mode l
        (document_after_all hub.function.head.mode
        (operations (take (client_of hub c).received hub.server.log)) hub.first)) nothing
        ∙ ap (λ (l : List Entry). document_after_all hub.function.head.mode (operations l) hub.first)
        (take_all (client_of hub c).received hub.server.log (omega (arith, received)))
        ∙ sym s.log.doc;
  }

  -- each of them is an equation of documents
  pub FollowsLog-in_step : ∥ AreInStep hub.function hub.first hub.server hub.clients ∥₁ → FollowsLog hub
  FollowsLog-in_step s = record {
    clients = λ c there. ∥∥₁_elim s (Coded-set document_code _ _) (λ kept. (follows kept).clients c there);
    one_document = λ c there received nothing.
        ∥∥₁_elim s (Coded-set document_code _ _) (λ kept. (follows kept).one_document c there received nothing);
  }
