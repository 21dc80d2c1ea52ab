use Rattle.std.proofs.Common.{arith}
use Rattle.play_script.proofs.Digits.{too_large}
use Rattle.play_script.proofs.numbers.value_of.Goals as goal

pub returns-then-next-from-clause-number : goal.returns-then-next-from-clause-number
returns-then-next-from-clause-number c =
    too_large c.args.most c.args.digits.now c.loop-digit.digit-index c.loop-digit.value c.loop-digit-test.true c.loop-digit.invariant.same
    (omega (arith, c.from.ensures, c.saturating_sub.ensures, c.from-in-loop-digit.ensures, c.from-in-loop-digit-2.ensures, c.if-next-from.true))
