use Rattle.std.proofs.Common.{sym, ◌∙◌}
use Rattle.live_answers.proofs.Steps.{slash_on}
use Rattle.live_answers.proofs.paths.hides_slash.Goals as goal

pub loop-at-preserved : goal.loop-at-preserved
loop-at-preserved c =
    slash_on c.args.target.now _ c.loop-at.at c.loop-at-test.true c.behind-here.ensures.rest
    (sym c.begins.ensures ∙ c.if-begins.false)
    c.loop-at.invariant
