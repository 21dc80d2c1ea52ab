use Rattle.std.proofs.Common.{sym, ap, ◌∙◌, arith}
use lib.Count.{count_trailing_zeros}
use Rattle.byte_lanes.proofs.Runs.{run_through, run_stops}
use Rattle.byte_lanes.specs.Sought.{is_sought}
use Rattle.byte_lanes.proofs.search.run.Goals as goal

pub returns-then-found-ne0 : goal.returns-then-found-ne0
returns-then-found-ne0 c =
    let found = c.sought_mask-found in
    let before = run_stops (is_sought c.args.class c.args.sought) c.args.text.now c.loop-at.at 64 (omega arith) (omega arith) (omega (arith, found.ensures)) ∙ ap (count_trailing_zeros 64) (sym found.ensures) in
    omega (arith, before, c.loop-at.invariant.1)

pub loop-at-preserved : goal.loop-at-preserved
loop-at-preserved c =
    let through = run_through (is_sought c.args.class c.args.sought) c.args.text.now c.loop-at.at 64 (omega arith) (omega (arith, c.sought_mask-found.ensures)) in
    (omega arith, omega (arith, through, c.loop-at.invariant.1))
