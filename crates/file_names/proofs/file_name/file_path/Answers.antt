use Rattle.std.proofs.Common.{rules}
use Rattle.file_names.proofs.Escapes.{decoded_ends}
use Rattle.file_names.proofs.file_name.file_path.Goals as goal

pub returns : goal.returns
returns c = decoded_ends _ _ _ (search rules) c.loop-byte.invariant
