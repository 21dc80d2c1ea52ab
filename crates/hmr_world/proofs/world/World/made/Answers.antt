use Rattle.hmr_world.proofs.Words.{words_stay}
use Rattle.hmr_world.proofs.world.World.made.Goals as goal

pub returns-in-Edit-clause-words : goal.returns-in-Edit-clause-words
returns-in-Edit-clause-words g c =
    words_stay (goal.F-post g) c.args.self.now c.edit.new.self
    c.edit.ensures.clients c.edit.ensures.shelves c.requires.words

pub returns-in-Settle-clause-words : goal.returns-in-Settle-clause-words
returns-in-Settle-clause-words g c =
    words_stay (goal.F-post g) c.args.self.now c.settle.new.self
    c.settle.ensures.clients c.settle.ensures.shelves c.requires.words
