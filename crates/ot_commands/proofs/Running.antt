-- What stands after an event of a session that is done.
use Rattle.std.proofs.Common.{◌≡◌, length, true, ap, ◌∙◌}
use Rattle.std.proofs.lemmas.List.{length-set}
use Rattle.case_json.specs.declared.script.Event.{Event}
use Rattle.case_json.specs.declared.script.Event.TheVariants.{Make, Take}
use Rattle.ot_session.specs.Views.{View}
use Rattle.ot_commands.specs.Replay.{IsDone}

pub done_is_open : (v new : View) (event : Event) → IsDone v event new → v.is_open ≡ true → new.is_open ≡ true
done_is_open v new (Make t o) done was = done.1.is_open ∙ was
done_is_open v new (Take t n) done was = ap (λ (w : View). w.is_open) done.1.is

pub done_keeps_function : (v new : View) (event : Event) → IsDone v event new → new.function ≡ v.function
done_keeps_function v new (Make t o) done = done.1.function
done_keeps_function v new (Take t n) done = ap (λ (w : View). w.function) done.1.is

pub done_keeps_sites : (v new : View) (event : Event) → IsDone v event new → length new.sites ≡ length v.sites
done_keeps_sites v new (Make t o) done = done.1.makes.keeps.sites
done_keeps_sites v new (Take t n) done = ap (λ (w : View). length w.sites) done.1.is ∙ length-set _ _ _
