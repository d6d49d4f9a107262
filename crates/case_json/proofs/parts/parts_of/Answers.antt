use Rattle.std.proofs.Common.{codes}
use Rattle.std.specs.Option.{option_and_then}
use Rattle.serde_json.specs.Find.{get, as_str, as_number, as_u64}
use Rattle.serde_json.specs.View.{view}
use Rattle.case_json.specs.declared.fault.Name.TheVariants.{Events}
use Rattle.case_json.specs.declared.limits.TheConstants.{MAX_EVENTS}
use Rattle.case_json.specs.Json.{elements_of}
use Rattle.case_json.proofs.Elements.{elements_from-few}
use Rattle.case_json.proofs.Readings.{document_from-few}
use Rattle.case_json.proofs.Scripts.{sites_from-within}
use Rattle.case_json.proofs.parts.parts_of.Goals as goal

-- the document, the sites and the events that were read are within their limits
pub returns-clause-limits : goal.returns-clause-limits
returns-clause-limits g c =
    let json = view c.args.json.now in
    let sites = sites_from-within (option_and_then as_u64 (option_and_then as_number (get (codes "sites") json)))
    c.in_ok-sites.sites c.in_ok-sites.ensures in
    record {
      few_cells =
          document_from-few (option_and_then as_str (get (codes "doc") json)) c.in_ok-doc.doc
          c.in_ok-doc.ensures;
      some_sites = sites.0;
      few_sites = sites.1;
      few_events =
          elements_from-few Events MAX_EVENTS g.E.Element.meant
          (option_and_then elements_of (get (codes "events") json)) c.in_ok-events.events c.in_ok-events.ensures;
    }
