use Rattle.hmr_hub.proofs.Moves.{knows_moved, moved_then}
use Rattle.hmr_hub.proofs.laws.moves_follow_one_another.Goals as goal

pub returns-clause-both : goal.returns-clause-both
returns-clause-both c = moved_then

pub returns-clause-knows : goal.returns-clause-knows
returns-clause-knows c = knows_moved
