use Rattle.fn_hints.proofs.Refused.{refused_files_have_hints, read_files_have_none}
use Rattle.fn_hints.proofs.laws.refused_files_have_hints.Goals as goal

pub returns-clause-refused : goal.returns-clause-refused
returns-clause-refused c = refused_files_have_hints

pub returns-clause-read : goal.returns-clause-read
returns-clause-read c = read_files_have_none
