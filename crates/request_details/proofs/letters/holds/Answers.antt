use Rattle.std.proofs.Common.{sym, ◌∙◌}
use Rattle.request_details.proofs.Words.{word_on}
use Rattle.request_details.proofs.letters.holds.Goals as goal

pub loop-at-preserved : goal.loop-at-preserved
loop-at-preserved c =
    word_on c.args.word.now c.args.text.now _ c.loop-at.at c.loop-at-test.true c.behind-here.ensures
    (sym c.begins.ensures ∙ c.if-begins.false)
    c.loop-at.invariant
