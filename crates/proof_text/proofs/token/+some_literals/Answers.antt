use Rattle.std.proofs.Common.{◌≡◌, ◌-◌, List, [], ◌∷◌, ◌++◌, length, arith, ap, ◌∙◌, append_assoc}
use Rattle.diff_graph.specs.declared.lit.Lit.{Lit}
use Rattle.proof_trees.specs.declared.limits.TheConstants.{MAX_LITERALS}
use Rattle.proof_text.specs.Tokens.{literal_front}
use Rattle.proof_text.proofs.ItemLemmas.{item_alone, item_last, item_missing, item_more_found, item_more_missing}
use Rattle.proof_text.proofs.ItemLemmas.{item_over, item_wrong, one_more}
use Rattle.proof_text.proofs.Places.{map_err, map_ok}
use Rattle.proof_text.proofs.token.+some_literals.Goals as goal

pub returns-in-Err-clause-missing : goal.returns-in-Err-clause-missing
returns-in-Err-clause-missing t c =
    item_missing literal_front 47 59 (MAX_LITERALS - length c.args.literals.now) c.args.bytes.now c.in-Err.why
    (omega arith) c.in-Err.ensures.missing

pub returns-in_default-clause-missing : goal.returns-in_default-clause-missing
returns-in_default-clause-missing t c =
    let none : length c.in-Ok.found.1.now ≡ 0 = omega (arith, c.in_default.ensures.cases) in
    item_alone literal_front 47 59 (MAX_LITERALS - length c.args.literals.now) c.args.bytes.now c.in-Ok.found.1.now
    c.in-Ok.found.0 (omega arith) c.in-Ok.ensures.found none

pub returns-then-byte-eq59-clause-found : goal.returns-then-byte-eq59-clause-found
returns-then-byte-eq59-clause-found t c = (
  c.in-Ok.found.0 ∷ [],
  c.push.ensures,
  item_last literal_front 47 59 (MAX_LITERALS - length c.args.literals.now) c.in-Some.byte.now
      c.args.bytes.now c.in-Ok.found.1.now
      c.in-Some.behind.now c.in-Ok.found.0 (omega arith) c.in-Ok.ensures.found
      c.in-Some.ensures.cases.0 c.if-byte-eq59.true,
)

pub returns-then-byte-ne47-clause-missing : goal.returns-then-byte-ne47-clause-missing
returns-then-byte-ne47-clause-missing t c =
    item_wrong literal_front 47 59 (MAX_LITERALS - length c.args.literals.now) c.in-Some.byte.now
    c.args.bytes.now c.in-Ok.found.1.now c.in-Some.behind.now c.in-Ok.found.0 (omega arith) c.in-Ok.ensures.found
    c.in-Some.ensures.cases.0 c.if-byte-eq59.false c.if-byte-ne47.true

pub returns-then-as_slice-eq-MAX_LITERALS-clause-missing : goal.returns-then-as_slice-eq-MAX_LITERALS-clause-missing
returns-then-as_slice-eq-MAX_LITERALS-clause-missing t c =
    let count = one_more c.args.literals.now c.push.new.self c.in-Ok.found.0 c.push.ensures in
    item_over literal_front 47 59 (MAX_LITERALS - length c.args.literals.now) c.in-Some.byte.now c.args.bytes.now
    c.in-Ok.found.1.now c.in-Some.behind.now c.in-Ok.found.0
    (omega (arith, count, ap length c.as_slice.ensures.value, c.if-as_slice-eq-MAX_LITERALS.true)) c.in-Ok.ensures.found
    c.in-Some.ensures.cases.0 c.if-byte-eq59.false c.if-byte-ne47.false

-- the first literal, and those that are found behind it
pub returns-clause-found : goal.returns-clause-found
returns-clause-found t c =
    let count = one_more c.args.literals.now c.push.new.self c.in-Ok.found.0 c.push.ensures in
    map_ok c.some_literals.result
    (λ rest h. (
      c.in-Ok.found.0 ∷ h.0,
      h.1 ∙ ap (λ (l : List Lit). l ++ h.0) c.push.ensures
          ∙ append_assoc c.args.literals.now (c.in-Ok.found.0 ∷ []) h.0,
      item_more_found literal_front 47 59 (MAX_LITERALS - length c.args.literals.now)
          (MAX_LITERALS - length c.push.new.self) c.in-Some.byte.now
          c.args.bytes.now c.in-Ok.found.1.now c.in-Some.behind.now rest.now c.in-Ok.found.0 h.0 (omega arith) (omega
          (arith, count)) c.in-Ok.ensures.found c.in-Some.ensures.cases.0 c.if-byte-eq59.false c.if-byte-ne47.false h.2,
    ))
    c.some_literals.ensures.found

pub returns-clause-missing : goal.returns-clause-missing
returns-clause-missing t c =
    let count = one_more c.args.literals.now c.push.new.self c.in-Ok.found.0 c.push.ensures in
    map_err c.some_literals.result
    (λ why h. item_more_missing literal_front 47 59 (MAX_LITERALS - length c.args.literals.now)
    (MAX_LITERALS - length c.push.new.self) c.in-Some.byte.now c.args.bytes.now c.in-Ok.found.1.now c.in-Some.behind.now
    c.in-Ok.found.0 why (omega arith) (omega (arith, count)) c.in-Ok.ensures.found c.in-Some.ensures.cases.0
    c.if-byte-eq59.false c.if-byte-ne47.false h) c.some_literals.ensures.missing
