use Rattle.hmr_hub.proofs.Fullness.{nearly_full, nearly_full_longer}
use Rattle.hmr_hub.proofs.laws.a_full_transcript_is_nearly_full.Goals as goal

pub returns-clause-full : goal.returns-clause-full
returns-clause-full c = nearly_full

pub returns-clause-longer : goal.returns-clause-longer
returns-clause-longer c = nearly_full_longer
