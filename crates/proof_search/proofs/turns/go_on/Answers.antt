use Rattle.std.proofs.Common.{inl, inr, refl, sym, ap, ◌∙◌, [], ◌∷◌, ◌++◌}
use Rattle.proof_search.specs.declared.under_way.Search.{Search}
use Rattle.proof_search.proofs.turns.go_on.Goals as goal

-- the innermost part was taken out, and is open
pub returns-then-branch-clause-opens : goal.returns-then-branch-clause-opens
returns-then-branch-clause-opens g c =
    let kept = c.answer.ensures in
    record {
      taken =
          inr
          (record {
            part = c.in-Some.part;
            parts = c.in-Some.ensures.items
                ∙ ap (λ (s : Search g.row.N.Denot). s.waiting.items ++ c.in-Some.part ∷ []) (sym kept);
            at = inl refl;
          });
      levels = ap (λ (s : Search g.row.N.Denot). s.levels.items) kept;
      lemmas = ap (λ (s : Search g.row.N.Denot). s.lemmas) kept;
      asked = ap (λ (s : Search g.row.N.Denot). s.asked) kept;
    }

-- the innermost part was taken out, and what was open stays
pub returns-clause-opens : goal.returns-clause-opens
returns-clause-opens g c =
    let kept = c.answer.ensures in
    record {
      taken =
          inr
          (record {
            part = c.in-Some.part;
            parts = c.in-Some.ensures.items
                ∙ ap (λ (s : Search g.row.N.Denot). s.waiting.items ++ c.in-Some.part ∷ []) (sym kept);
            at = inr (ap (λ (s : Search g.row.N.Denot). s.at) kept);
          });
      levels = ap (λ (s : Search g.row.N.Denot). s.levels.items) kept;
      lemmas = ap (λ (s : Search g.row.N.Denot). s.lemmas) kept;
      asked = ap (λ (s : Search g.row.N.Denot). s.asked) kept;
    }
