use Rattle.module_semantics.proofs.LongestPieces.{no_longer}
use Rattle.module_semantics.proofs.tokens.none_is_longer.Goals as goal

pub returns : goal.returns
returns c = record { longest = no_longer }
