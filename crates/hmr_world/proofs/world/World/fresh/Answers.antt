use Rattle.hmr_world.proofs.Looking.{fresh_step}
use Rattle.hmr_world.proofs.world.World.fresh.Goals as goal

pub returns : goal.returns
returns g c = λ run s.
    fresh_step run c.args.self.now s c.in_ok-load.load c.in_ok-load_lines.field-0
    c.in_ok-load.ensures.stands c.in_ok-load_lines.ensures
