use Rattle.std.proofs.Common.{rules, arith, sym, ◌∙◌}
use Rattle.std.proofs.lemmas.List.{at_drop_all}
use Rattle.page_addresses.specs.Addresses.{first_mark}
use Rattle.page_addresses.proofs.Marks.{passed, seen}
use Rattle.page_addresses.proofs.address.first_mark.Goals as goal

pub loop-i-preserved : goal.loop-i-preserved
loop-i-preserved c = passed c.args.address.now c.loop-i.i (omega arith) (search rules) ∙ c.loop-i.invariant

pub returns-then-is_mark : goal.returns-then-is_mark
returns-then-is_mark c = seen c.args.address.now c.loop-i.i (omega arith) (search rules) ∙ c.loop-i.invariant

pub returns : goal.returns
returns c = sym (at_drop_all first_mark c.args.address.now c.loop-i.i (omega arith)) ∙ c.loop-i.invariant
