use Rattle.std.proofs.Common.{rules, ◌∙◌, arith}
use Rattle.skeletons.proofs.Gathering.{list_ends, list_on}
use Rattle.skeletons.proofs.listing.first_names.Goals as goal

pub loop-name-preserved : goal.loop-name-preserved
loop-name-preserved c =
    list_on c.args.names.now c.loop-name.name-index c.name-item.result c.loop-name.made.items c.add_import.new.names.items (search rules) (search rules) (search rules)
    ∙ c.loop-name.invariant

pub returns : goal.returns
returns c = list_ends c.args.names.now c.loop-name.name-index c.loop-name.made.items (omega arith) c.loop-name.invariant
