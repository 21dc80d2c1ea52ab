use Rattle.std.proofs.Common.{◌∙◌, sym}
use Rattle.hmr_hub.proofs.Calls.{half}
use Rattle.hmr_hub.proofs.pass.Hub.split.Goals as goal

pub returns-clause-half : goal.returns-clause-half
returns-clause-half g c =
    half c.args.pass.now (record { pass = c.in_ok-half.half }) (c.in_ok-half.ensures.new ∙ sym c.requires) c.in_ok-half.ensures.range c.in_ok-half.ensures.told c.in_ok-half.ensures.fresh
