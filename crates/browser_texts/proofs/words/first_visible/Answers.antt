use Rattle.std.proofs.Common.{rules, arith, sym, ◌∙◌}
use Rattle.std.proofs.lemmas.List.{at_drop_all}
use Rattle.browser_texts.specs.Words.{first_visible}
use Rattle.browser_texts.proofs.Walks.{passed, seen}
use Rattle.browser_texts.proofs.words.first_visible.Goals as goal

pub loop-i-preserved : goal.loop-i-preserved
loop-i-preserved c = passed c.args.text.now c.loop-i.i (omega arith) (search rules) ∙ c.loop-i.invariant

pub returns-then-not-is_blank : goal.returns-then-not-is_blank
returns-then-not-is_blank c = seen c.args.text.now c.loop-i.i (omega arith) (search rules) ∙ c.loop-i.invariant

pub returns : goal.returns
returns c = sym (at_drop_all first_visible c.args.text.now c.loop-i.i (omega arith)) ∙ c.loop-i.invariant
