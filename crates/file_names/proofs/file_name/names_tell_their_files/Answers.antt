use Rattle.file_names.proofs.Escapes.{apart, back, plain}
use Rattle.file_names.proofs.file_name.names_tell_their_files.Goals as goal

pub returns-clause-back : goal.returns-clause-back
returns-clause-back c = back

pub returns-clause-apart : goal.returns-clause-apart
returns-clause-apart c = apart

pub returns-clause-plain : goal.returns-clause-plain
returns-clause-plain c = plain
