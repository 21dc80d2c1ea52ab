use Rattle.std.proofs.Common.{◌∙◌, ap}
use Rattle.std.specs.Prelude.{map, reverse}
use Rattle.std.proofs.lemmas.Result.{IfOk-weaker}
use Rattle.world_parts.specs.Jobs.{key_of}
use Rattle.world_parts.proofs.JobRows.{keys_are}
use Rattle.world_parts.proofs.jobs.Jobs.keys.Goals as goal

pub returns : goal.returns
returns c = IfOk-weaker c.keys_in.result _ _ (λ keys e. e ∙ keys_are c.self.inside.rows.entries ∙ ap (λ l. map key_of (reverse l)) c.self.view_is) c.keys_in.ensures
