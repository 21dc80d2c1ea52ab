use Rattle.std.proofs.Common.{arith, ◌++◌, sym, ap, ◌∙◌}
use Rattle.std.specs.Prelude.{filter}
use Rattle.text_splices.specs.Places.{ends_line}
use Rattle.browser_texts.proofs.Walks.{kept_ends, kept_on}
use Rattle.browser_texts.proofs.specifiers.put_line_feeds.Goals as goal

pub loop-i-preserved : goal.loop-i-preserved
loop-i-preserved c =
    kept_on c.loop-i.by.items c.put_if_line_feed.new.by.items c.range_of-bytes.result.now c.loop-i.i (omega arith) c.in_ok-put_if_line_feed.ensures ∙ c.loop-i.invariant

pub returns : goal.returns
returns c =
    sym (kept_ends c.loop-i.by.items c.range_of-bytes.result.now c.loop-i.i (omega arith)) ∙ c.loop-i.invariant
    ∙ ap (λ bs. c.args.by.now.items ++ filter ends_line bs) c.range_of-bytes.ensures
