use Rattle.std.proofs.Common.{◌≡◌, ◌+◌, suc, arith}
use Rattle.page_plan.proofs.Numbering.{numbered_more}
use Rattle.page_plan.proofs.numbers.Numbers.of.Goals as goal

pub loop-name-preserved : goal.loop-name-preserved
loop-name-preserved c =
    let next : c.loop-name.number + 1 ≡ suc c.args.made + c.loop-name.name-index = omega (arith, c.loop-name.invariant.0) in (
      omega (arith, c.loop-name.invariant.0),
      λ n. numbered_more c.args.made c.args.names.now c.loop-name.name-index c.name-item.result (c.loop-name.number + 1) c.loop-name.numbers.entries c.keep_first.new.values.entries n c.loop-name-test.true c.name-item.is next (c.loop-name.invariant.1 n) (c.in_ok-keep_first.ensures n),
    )
