-- Small proofs, of plans that hold at once and begin at the one start that there is.
use Rattle.std.proofs.Common.{◌≡◌, ℕ, List, [], ◌∷◌, ◌++◌, Some, Err, refl, arith}
use Rattle.std.specs.Prelude.{codes}
use Rattle.ot_model.specs.declared.op.Kind.TheVariants.{Ins, Del}
use Rattle.fn_rules.specs.declared.function.Level.{Level}
use Rattle.fn_rules.specs.declared.function.Level.TheVariants.{Tp1}
use Rattle.fn_rules.specs.declared.function.ObName.{ObName}
use Rattle.fn_rules.specs.declared.function.ObName.TheVariants.{Pair}
use Rattle.cert_text.specs.Spelling.{ob_text, end_text}
use Rattle.proof_trees.specs.Starts.{MarkedPlan, Holds, Comparison}
use Rattle.proof_trees.specs.Proofs.{ProofTree, Lemma, End, Citation}
use Rattle.proof_text.specs.Fronts.{items_front}
use Rattle.proof_text.specs.Spelling.{proof_header_text}
use Rattle.proof_sections.specs.declared.refusal.ProofRefusal.TheVariants as why
use Rattle.proof_sections.specs.declared.refusal.ConfirmError.TheVariants as confirm
use Rattle.proof_sections.specs.Judgement.{end_judged, proof_judged, section_judged, sections_judged, tree_by}
use Rattle.proof_sections.specs.Judgement.{tree_judged}
use Rattle.proof_sections.specs.Spelled.{IsProof, proof_text}

-- the start compares with itself under no condition
one_start : Comparison (Unit {0})
one_start s here = Some []

held : ObName → MarkedPlan (Unit {0}) (Unit {0})
held name = Holds (Some tt)

two : Level → List ObName
two level = Pair Ins Ins ∷ Pair Ins Del ∷ []

-- a lemma of no literals is shown and cited, and the next obligation has an end
cited : List ProofTree
cited = Lemma [] End (Citation 0 []) ∷ End ∷ []

cited_is_proof : IsProof one_start held two (proof_text (two Tp1) Tp1 cited) Tp1
unfolding one_start held two cited
cited_is_proof = (
  cited,
  (((omega arith, omega arith), tt, tt), ((omega arith, tt), (tt, (omega arith, tt))), (tt, (tt, tt), tt)),
  refl,
)

-- the next obligation cites the lemma of the one before
later_text : List ℕ
later_text = proof_header_text Tp1
    ++ (ob_text (Pair Ins Ins) ++ (codes "l;.c0;" ++ 10 ∷ (ob_text (Pair Ins Del) ++ (codes "c0;" ++ 10 ∷ end_text))))

later_is_refused : proof_judged one_start held two later_text ≡ Err (confirm.Refused 43 why.UnknownLemma)
unfolding one_start held two later_text proof_judged sections_judged section_judged tree_judged
    tree_by end_judged items_front
later_is_refused = refl
