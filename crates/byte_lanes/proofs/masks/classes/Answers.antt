use Rattle.byte_lanes.proofs.Lanes.{said}
use Rattle.byte_lanes.proofs.masks.classes.Goals as goal

pub returns-clause-word : goal.returns-clause-word
returns-clause-word c = said _ c.args.block.now _ c.word_mask.ensures

pub returns-clause-space : goal.returns-clause-space
returns-clause-space c = said _ c.args.block.now _ c.space_mask.ensures

pub returns-clause-newline : goal.returns-clause-newline
returns-clause-newline c = said _ c.args.block.now _ c.newline_mask.ensures

pub returns-clause-quote : goal.returns-clause-quote
returns-clause-quote c = said _ c.args.block.now _ c.quote_mask.ensures
