use Rattle.std.proofs.Common.{IsTrue, subst}
use Rattle.fn_rules.specs.Obligations.{is_obligation}
use Rattle.fn_rules.specs.Rules.{function_of}
use Rattle.fn_rules.specs.Properties.{AreConcurrent}
use Rattle.diff_tables.specs.Solutions.{valuation_of}
use Rattle.ot_values.specs.Values.{ops_at}
use Rattle.ot_counter.specs.Documents.{document_at}
use Rattle.ot_counter.proofs.Instances.{parts_of_pair, parts_of_triple}
use Rattle.ot_counter.proofs.building.read_off.Goals as goal

-- what is known of the obligation, said of a pair
pub of_pair-requires : goal.of_pair-requires
of_pair-requires c =
    let head = (function_of c.args.rules.now).head in
    let v = valuation_of c.args.values.now in
    let parts = parts_of_pair c.args.values.now c.args.ob c.requires.parts c.in-Pair.k c.in-Pair.l c.in-Pair.is in
    record {
      declared = subst (λ ob. IsTrue (is_obligation head ob)) c.in-Pair.is c.requires.declared;
      concurrent =
          subst (λ ob. AreConcurrent (function_of c.args.rules.now) (document_at v c.args.why) (ops_at v ob))
          c.in-Pair.is c.requires.concurrent;
      first = parts.0;
      second = parts.1;
      cells = c.requires.cells;
    }

pub of_triple-requires : goal.of_triple-requires
of_triple-requires c =
    let head = (function_of c.args.rules.now).head in
    let parts = parts_of_triple c.args.values.now c.args.ob c.requires.parts c.in-Triple.k c.in-Triple.l
    c.in-Triple.m c.in-Triple.is in
    record {
      declared = subst (λ ob. IsTrue (is_obligation head ob)) c.in-Triple.is c.requires.declared;
      first = parts.0;
      second = parts.1;
      third = parts.2;
      cells = c.requires.cells;
    }
