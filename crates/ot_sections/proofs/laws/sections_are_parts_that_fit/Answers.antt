-- Sections are parts that fit, and back.
use Rattle.std.proofs.Common.{Ok}
use Rattle.cert_text.specs.Places.{Line}
use Rattle.cert_text.specs.Spelling.{end_text}
use Rattle.ot_sections.proofs.Fitting.{last_line_fits, parts_show, sections_fit}
use Rattle.ot_sections.proofs.laws.sections_are_parts_that_fit.Goals as goal

pub returns-clause-parts : goal.returns-clause-parts
returns-clause-parts g c plan obs trees came offset answers =
    sections_fit plan
    (record {
      taken = c.tokens_are_taken_one_by_one.ensures.taken;
      refused = c.tokens_are_taken_one_by_one.ensures.refused;
    })
    (Ok tt) obs trees came offset end_text answers (last_line_fits plan)

pub returns-clause-sections : goal.returns-clause-sections
returns-clause-sections g c plan obs came offset branches bytes judged =
    parts_show plan
    (record {
      taken = c.tokens_are_taken_one_by_one.ensures.taken;
      refused = c.tokens_are_taken_one_by_one.ensures.refused;
    }) judged.0 (Line came obs) offset branches bytes judged.1
