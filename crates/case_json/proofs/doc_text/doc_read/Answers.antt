use Rattle.std.proofs.Common.{◌≡◌, ◌<◌, [], ◌∷◌, ◌++◌, length, length-append, Ok, Err, refl, sym, ap, arith, rules}
use Rattle.std.proofs.Common.{lit≤, ◌∙◌}
use Rattle.std.specs.Str.{chars}
use Rattle.std.proofs.lemmas.Str.{chars-nil}
use Rattle.std.proofs.lemmas.List.{nil_from_length}
use Rattle.ot_model.specs.declared.limits.TheConstants.{MAX_CELLS}
use Rattle.case_json.specs.declared.fault.CaseFault.TheVariants.{Field, Limit}
use Rattle.case_json.specs.declared.fault.Name.TheVariants.{Doc, Cells}
use Rattle.case_json.specs.declared.stop.CaseError.TheVariants.{Fault}
use Rattle.case_json.proofs.Reading.{chars_some, reading_goes_on, reading_stops, reading_is_full, reading_ends}
use Rattle.case_json.proofs.Reading.{written_reads}
use Rattle.case_json.proofs.doc_text.doc_read.Goals as goal

pub loop-rest-init : goal.loop-rest-init
loop-rest-init c =
    record { text = c.utf8.text; room = rw c.new-doc.ensures (lit≤ tt); read = rw c.new-doc.ensures refl }

pub loop-rest-preserved : goal.loop-rest-preserved
loop-rest-preserved c =
    let i = c.loop-rest.invariant in
    let room : length c.loop-rest.doc < MAX_CELLS = omega arith in
    let next : c.push.new.self ≡ c.loop-rest.doc ++ c.in-Some.cell ∷ [] = c.in_ok-push.ensures.ok in
    record {
      text = c.in-Some.ensures.utf8;
      room = rw (ap length next ∙ length-append c.loop-rest.doc (c.in-Some.cell ∷ [])) (omega arith);
      read = reading_goes_on MAX_CELLS c.loop-rest.doc (chars c.args.text.now) (chars c.loop-rest.rest.now) i.read
          c.push.new.self c.in-Some.cell (chars c.in-Some.behind.now) room (sym c.in-Some.ensures.reads) next;
    }

pub returns-in_default-clause-reading : goal.returns-in_default-clause-reading
returns-in_default-clause-reading c =
    let l = c.loop-rest in
    reading_stops MAX_CELLS l.doc (chars c.args.text.now) (chars l.rest.now) l.invariant.read
    (chars_some l.rest.now l.invariant.text (search rules)) (sym c.in_default.ensures.reads)

pub returns-then-len-eq-MAX_CELLS-clause-reading : goal.returns-then-len-eq-MAX_CELLS-clause-reading
returns-then-len-eq-MAX_CELLS-clause-reading c =
    let l = c.loop-rest in
    reading_is_full MAX_CELLS l.doc (chars c.args.text.now) (chars l.rest.now) l.invariant.read
    c.in-Some.cell (chars c.in-Some.behind.now) (omega arith) (sym c.in-Some.ensures.reads)

pub returns-clause-reading : goal.returns-clause-reading
returns-clause-reading c =
    let l = c.loop-rest in
    reading_ends MAX_CELLS l.doc (chars c.args.text.now) (chars l.rest.now) l.invariant.read
    (ap chars (nil_from_length l.rest.now (search rules)) ∙ chars-nil)

pub returns-in_default-clause-written : goal.returns-in_default-clause-written
returns-in_default-clause-written c =
    written_reads (Err (Fault (Field Doc))) (chars c.args.text.now) (returns-in_default-clause-reading c)

pub returns-then-len-eq-MAX_CELLS-clause-written : goal.returns-then-len-eq-MAX_CELLS-clause-written
returns-then-len-eq-MAX_CELLS-clause-written c =
    written_reads (Err (Fault (Limit Cells))) (chars c.args.text.now) (returns-then-len-eq-MAX_CELLS-clause-reading c)

pub returns-clause-written : goal.returns-clause-written
returns-clause-written c = written_reads (Ok c.loop-rest.doc) (chars c.args.text.now) (returns-clause-reading c)
