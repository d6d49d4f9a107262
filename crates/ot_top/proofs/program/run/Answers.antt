-- What a reply that was written shows, by its status.
use Rattle.std.proofs.Common.{◌≡◌, ℕ, ◌++◌, List, map, refl}
use Rattle.std.specs.Prelude.{string_bytes}
use Rattle.ot_top.proofs.Bounded.{bounded, sought}
use Rattle.ot_top.proofs.Confirmed.{confirmed_level}
use Rattle.ot_top.proofs.Explained.{explained}
use Rattle.ot_top.proofs.Followed.{followed}
use Rattle.ot_top.proofs.Proving.{broken, counter_found, evidence_level}
use Rattle.ot_top.proofs.Showing.{has_level}
use Rattle.ot_top.proofs.Shows.{reply_known, shows}
use Rattle.ot_top.proofs.Mended.{mended}
use Rattle.ot_top.proofs.Templated.{template_has_level, templated}
use Rattle.ot_heads.specs.Templates.{template_of}
use Rattle.ot_top.proofs.Told.{named, whole}
use Rattle.ot_top.proofs.program.run.Goals as goal

-- what the status shows, by the laws of the layers below
pub returns-clause-shows : goal.returns-clause-shows
returns-clause-shows g c =
    λ holds known.
    let words = map string_bytes c.args.words.now in
    let is_written : List ℕ → Type 0 =
    λ text. g.S.Sink.took c.write_answer.new.out ≡ g.S.Sink.took c.args.out.now ++ text in
    let laws = c.certificates_show_the_properties.ensures in
    let confirms = c.proofs_show_the_properties.ensures in
    let grammar = c.what_is_read_is_in_the_grammar.ensures in
    let counters = c.failing_ends_have_counterexamples.ensures in
    shows words holds is_written c.write_answer.result
    (λ of_a_reply.
    let told = c.write_answer.ensures.replied of_a_reply.0 of_a_reply.1 of_a_reply.2 in
    let reply = reply_known words (g.H.Shelf.holds c.args.shelf.now) holds (g.H.Shelf.reads c.args.shelf.now)
    (g.H.Shelf.reads c.write_answer.new.shelf) told.0 told.1 told.2 told.3 known in
    (told.0, reply.0, reply.1, told.4, told.5)) (has_level laws.tp1 laws.tp2 laws.one_outcome)
    (confirmed_level confirms.tp1 confirms.tp2 confirms.one_outcome) grammar.text grammar.valid
    c.texts_of_functions_are_read.ensures.read c.bytes_have_one_judgement.ensures
    c.plain_functions_lack_a_property.ensures c.plans_have_one_question_list.ensures.one
    (explained
    (evidence_level (has_level laws.tp1 laws.tp2 laws.one_outcome)
    (confirmed_level confirms.tp1 confirms.tp2 confirms.one_outcome))
    (counter_found grammar.text grammar.valid counters.broken counters.by_the_cause c.failing_triples_show_tp1.ensures)
    c.texts_of_functions_are_read.ensures.read grammar.valid words holds c.write_answer.result is_written)
    (mended c.question_lists_tell_where_plans_fail.ensures
    (λ f valid. (c.pair_plans_mean_tp1.ensures.whole f valid).1)
    (λ f valid. (c.triple_plans_mean_tp2.ensures.whole f valid).1)
    (evidence_level (has_level laws.tp1 laws.tp2 laws.one_outcome)
    (confirmed_level confirms.tp1 confirms.tp2 confirms.one_outcome)) c.members_are_made.ensures
    (λ head. (c.the_test_decides_the_fact.ensures head).0)
    (λ head is t keeps. c.plain_text_has_no_transformation.ensures head t is keeps)
    (λ level head test. (
      template_of head,
      refl,
      template_has_level (λ h. (c.the_test_decides_the_fact.ensures h).0)
          (λ h. (c.the_test_decides_the_fact.ensures h).1)
          (λ h is t keeps. c.plain_text_has_no_transformation.ensures h t is keeps)
          c.templates_have_what_can_be_had.ensures.tp1 c.templates_have_what_can_be_had.ensures.tp2
          c.both_properties_give_one_outcome.ensures grammar.text level head test,
    ))
    c.texts_of_functions_are_read.ensures.read grammar.valid words holds c.write_answer.result is_written)
    (templated (λ head. (c.the_test_decides_the_fact.ensures head).0)
    (λ head. (c.the_test_decides_the_fact.ensures head).1)
    (λ head is t keeps. c.plain_text_has_no_transformation.ensures head t is keeps)
    c.templates_have_what_can_be_had.ensures.tp1
    c.templates_have_what_can_be_had.ensures.tp2 c.both_properties_give_one_outcome.ensures grammar.text words holds
    c.write_answer.result is_written)
    (λ e r. broken grammar.text grammar.valid counters.broken counters.by_the_cause c.failing_triples_show_tp1.ensures e
    words holds r is_written)
    (λ r. bounded grammar.text grammar.valid c.texts_of_functions_are_read.ensures.read
    c.low_certificates_show_shorter_documents.ensures c.bytes_have_one_low_judgement.ensures words holds r is_written)
    (λ r. sought grammar.text grammar.valid c.texts_of_functions_are_read.ensures.read
    c.low_certificates_show_shorter_documents.ensures
    c.bytes_have_one_low_judgement.ensures counters.broken counters.by_the_cause
    c.first_documents_are_never_too_long.ensures words holds r is_written)
    (λ r. followed grammar.text c.hubs_follow_their_logs.ensures.log c.hubs_follow_their_logs.ensures.clients
    words holds r is_written)

-- status and text are those of a reply, and no status is above 10
pub returns-clause-answered : goal.returns-clause-answered
returns-clause-answered g c =
    record {
      replied =
          λ of_a_reply.
          let told = c.write_answer.ensures.replied of_a_reply.0 of_a_reply.1 of_a_reply.2 in
          (told.0, told.1, told.3, told.4, told.5);
      named =
          named c.write_answer.result
          (λ no_shelf_fault no_sink_fault no_want.
          let told = c.write_answer.ensures.replied no_shelf_fault no_sink_fault no_want in (told.0, told.4));
    }

-- when the statuses of faults and of want of memory come, and what was written then
pub returns-clause-faults : goal.returns-clause-faults
returns-clause-faults g c =
    record {
      shelf_fault = c.write_answer.ensures.shelf_fault;
      sink_fault = c.write_answer.ensures.sink_fault;
      no_memory = c.write_answer.ensures.no_memory;
      whole =
          whole c.write_answer.result _ _ _ _ (λ six. (c.write_answer.ensures.shelf_fault six).0)
          (λ seven. (c.write_answer.ensures.sink_fault seven).0) c.write_answer.ensures.no_memory
          (λ no_shelf_fault no_sink_fault no_want.
          let told = c.write_answer.ensures.replied no_shelf_fault no_sink_fault no_want in
          (told.0, told.1, told.4, told.5));
      sink_faults = c.write_answer.ensures.sink_faults;
    }
