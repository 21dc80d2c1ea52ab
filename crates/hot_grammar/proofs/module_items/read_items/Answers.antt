use Rattle.raw_trees.specs.Raw.{raw_items_of}
use Rattle.hot_grammar.proofs.Places.{stands_within}
use Rattle.hot_grammar.proofs.module_items.read_items.Goals as goal

pub returns-clause-place : goal.returns-clause-place
returns-clause-place c = stands_within (λ items. raw_items_of items.items) c.read_module.result c.args.tokens.now c.read_module.ensures
