-- The lines of orders. Texts are bytes; all but those of documents are ASCII.
use Rattle.std.specs.Prelude.{ℕ, Bool, ◌+◌, if◌then◌else◌, List, [], ◌∷◌, ◌++◌, codes}
use Rattle.std.specs.Fmt.{decimal}
use Rattle.fn_rules.specs.Orders.{Outcome, Document, StuckAt}
use Rattle.ot_replies.specs.DocumentTexts.{document_text}

-- where an order ended: its document in brackets, or the place at which it is stuck
abbrev pub outcome_text : Outcome → List ℕ
outcome_text (Document d) = document_text d
outcome_text (StuckAt place) = codes "stuck " ++ decimal place

abbrev pub order_line : ℕ → Outcome → List ℕ
order_line i outcome = codes "order " ++ decimal i ++ codes " " ++ outcome_text outcome ++ 10 ∷ []

-- a line for each order, of which the first has this number
abbrev pub order_lines : ℕ → List Outcome → List ℕ
order_lines i [] = []
order_lines i (outcome ∷ outcomes) = order_line i outcome ++ order_lines (i + 1) outcomes

-- the lines of all orders, and whether all ended with one document
abbrev pub orders_text : List Outcome → Bool → List ℕ
orders_text outcomes same = order_lines 0 outcomes ++ (if same then codes "same" else codes "differ") ++ 10 ∷ []
