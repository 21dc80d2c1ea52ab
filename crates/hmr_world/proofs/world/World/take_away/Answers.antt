use Rattle.std.proofs.Common.{None, refl, ap}
use Rattle.core_model.specs.Core.{change}
use Rattle.core_model.specs.Sources.{edit}
use Rattle.hmr_world.proofs.Edited.{taken_away}
use Rattle.hmr_world.proofs.world.World.take_away.Goals as goal

pub returns-clause-step : goal.returns-clause-step
returns-clause-step g c = λ run h.
    taken_away run c.args.name c.args.self.now (record c.args.self.now { core = c.tell.new.core }) h c.tell.ensures.roots refl refl
    c.in_ok-reply.reply c.remove_line.result c.in_ok-one_line.field-0 c.in_ok-one_line.ensures (change (edit c.in_ok-copy_name.field-0 None))
    (ap (λ m. change (edit m None)) c.in_ok-copy_name.ensures) c.in_ok-reply.ensures.stands c.in_ok-reply.ensures.reply refl c.remove_line.ensures
