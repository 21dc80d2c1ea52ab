use Rattle.std.proofs.Common.{◌<◌, sym, ◌∙◌, ap, ◌∷◌}
use Rattle.std.specs.List.{AllByRecursion}
use Rattle.std.proofs.Math.Path.{subst}
use Rattle.world_model.specs.World.{Job}
use Rattle.world_parts.specs.Jobs.{issued_of}
use Rattle.world_parts.proofs.JobRows.{added_is}
use Rattle.world_parts.proofs.jobs.Jobs.add.Goals as goal

pub returns : goal.returns
returns c = λ h. ap issued_of c.in_ok-insert.ensures.entries ∙ added_is c.args.version (record { name = c.args.name; text = c.args.text }) c.self.inside.rows.entries (subst (AllByRecursion (λ (j : Job). j.version < c.args.version)) (sym c.self.view_is) h) ∙ ap (λ l. record { name = c.args.name; version = c.args.version; text = c.args.text.items } ∷ l) c.self.view_is
