use Rattle.std.proofs.Common.{ap, arith}
use Rattle.std.specs.Int.RustNames.{count_ones}
use Rattle.byte_lanes.proofs.Feeds.{block}
use Rattle.byte_lanes.proofs.lines.count_newlines.Goals as goal

pub loop-at-preserved : goal.loop-at-preserved
loop-at-preserved c =
    let there = block c.args.text.now c.loop-at.at 64 (omega arith) in
    let ones = ap count_ones c.newline_mask.ensures in
    (omega arith, omega (arith, ones, there.1), omega (arith, ones, there.0, c.loop-at.invariant.2))
