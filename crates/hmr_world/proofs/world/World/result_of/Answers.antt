use Rattle.std.proofs.Common.{None, Some, ap, ◌∙◌}
use Rattle.hmr_world.proofs.Telling.{told_result}
use Rattle.hmr_world.proofs.Settling.{short_text}
use Rattle.hmr_world.proofs.world.World.result_of.Goals as goal

pub result_for-requires : goal.result_for-requires
result_for-requires g c = record {
  short = short_text c.args.self.now c.requires.running c.args.name.now c.args.version c.in-Some.text.now
      c.in-Some.ensures;
}

pub returns-in_ok-result_for-in-Some : goal.returns-in_ok-result_for-in-Some
returns-in_ok-result_for-in-Some g c = λ run s.
    ap Some c.in_ok-result_for-in-Some.ensures
    ∙ told_result run c.args.self.now s c.args.name.now c.args.version (Some c.in-Some.text.now) c.in-Some.ensures

pub returns-in-None : goal.returns-in-None
returns-in-None g c = λ run s.
    told_result run c.args.self.now s c.args.name.now c.args.version None c.in-None.ensures
