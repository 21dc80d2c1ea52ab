use Rattle.std.proofs.Common.{take, ◌++◌}
use Rattle.std.proofs.KnownBytes.{Consumes-trans}
use Rattle.hmr_base.proofs.read.read_all.Goals as goal

pub returns-then-count-limit-clause-rest : goal.returns-then-count-limit-clause-rest
returns-then-count-limit-clause-rest g c = (
  c.loop-text.text.items ++ take c.in_ok-count.count c.read.new.into,
  Consumes-trans _ _ _ _ _ c.loop-text.invariant.front c.in_ok-count.ensures.bytes.0,
)

pub returns-in_err-extend_from_slice-clause-rest : goal.returns-in_err-extend_from_slice-clause-rest
returns-in_err-extend_from_slice-clause-rest g c = (
  c.loop-text.text.items ++ take c.in_ok-count.count c.read.new.into,
  Consumes-trans _ _ _ _ _ c.loop-text.invariant.front c.in_ok-count.ensures.bytes.0,
)
