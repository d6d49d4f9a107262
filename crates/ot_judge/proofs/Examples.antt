-- A certificate that is refused, part by part, and the bytes that a feed may give.
use Rattle.std.proofs.Common.{◌≡◌, ℕ, List, [], ◌∷◌, ◌++◌, Some, None, inr, arith, refl}
use Rattle.std.specs.Prelude.{codes}
use Rattle.ask_core.specs.declared.tree.Tok.TheVariants as token
use Rattle.cert_check.specs.declared.verdict.CheckError.TheVariants as check
use Rattle.cert_text.specs.declared.item.Part.TheVariants as part
use Rattle.fn_rules.specs.declared.function.Level.TheVariants.{Tp1}
use Rattle.fn_rules.specs.Functions.{Function}
use Rattle.fn_rules.specs.Shipped.{marks}
use Rattle.ot_questions.specs.Obligation.{plan_of, ask_pair, ask_all_enabled, ask_converge, ask_ways, ask_lengths}
use Rattle.ot_questions.specs.Obligation.{ask_documents}
use Rattle.ot_questions.specs.Questions.{ask_le, ask_lt, ask_eq, ask_compared, ask_atom, ask_guard, ask_transform}
use Rattle.ot_questions.specs.Questions.{ask_enabled, ask_differ, ask_allowed}
use Rattle.refusals.specs.declared.refusal.Refusal.TheVariants as why
use Rattle.ot_sections.specs.Feeding.{MayGive}
use Rattle.ot_judge.specs.Refusals.{IsRefusal}

-- deletions without a case
abbrev no_case : Function
no_case = record { head = marks.head; cases = λ k l. [] }

-- the header and the line of the one obligation, of 24 bytes
abbrev lines : List ℕ
lines = codes "otcert 1 tp1" ++ 10 ∷ codes "ob del del" ++ 10 ∷ []

-- after five questions both deletions are enabled, and there is no case
fails_at_29 : IsRefusal no_case (lines ++ codes "?????." ++ 10 ∷ codes "end" ++ 10 ∷ []) 29 why.GoalFails
unfolding plan_of ask_pair ask_all_enabled ask_converge ask_ways ask_lengths ask_documents ask_le ask_lt ask_eq
    ask_compared ask_atom ask_guard ask_transform ask_enabled ask_differ ask_allowed
fails_at_29 = (
  part.Header Tp1 ∷ part.Ob 0 ∷ part.Tok token.Ask ∷ part.Tok token.Ask ∷ part.Tok token.Ask ∷ part.Tok token.Ask
      ∷ part.Tok token.Ask ∷ [],
  (
    omega arith,
    (
      _,
      _,
      refl,
      refl,
      (
        refl,
        (
          _,
          _,
          refl,
          refl,
          (
            (omega arith, tt),
            (
              _,
              _,
              refl,
              refl,
              (
                (omega arith, tt),
                (
                  _,
                  _,
                  refl,
                  refl,
                  (
                    (omega arith, tt),
                    (
                      _,
                      _,
                      refl,
                      refl,
                      (
                        (omega arith, tt),
                        (
                          _,
                          _,
                          refl,
                          refl,
                          (
                            (omega arith, tt),
                            (
                              _,
                              _,
                              refl,
                              refl,
                              inr (token.Holds, _, check.GoalFails, (omega arith, tt), refl, refl, refl),
                            ),
                          ),
                        ),
                      ),
                    ),
                  ),
                ),
              ),
            ),
          ),
        ),
      ),
    ),
  ),
)

-- a feed that tells no bytes may give any that are no more than its bound
untold_bytes : MayGive {F = Unit {0}} (λ feed. None) (λ feed. 2) tt (7 ∷ 9 ∷ [])
unfolding MayGive
untold_bytes = (λ told is. absurd (cc), λ none. omega arith)

-- one that tells them gives those alone
told_bytes : (bytes : List ℕ) → MayGive {F = Unit {0}} (λ feed. Some (7 ∷ [])) (λ feed. 2) tt bytes → bytes ≡ 7 ∷ []
unfolding MayGive
told_bytes bytes may = may.0 (7 ∷ []) refl
