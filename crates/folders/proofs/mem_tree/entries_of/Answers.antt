use Rattle.std.proofs.Common.{subst}
use Rattle.folders.specs.Memory.{IsOneMore}
use Rattle.folders.proofs.Listings.{listed_turn}
use Rattle.folders.proofs.mem_tree.entries_of.Goals as goal

pub loop-file-preserved : goal.loop-file-preserved
loop-file-preserved c = listed_turn c.args.files.now c.loop-file.file-index c.file-item.result c.args.folder.now c.loop-file.entries.items c.enter.new.entries.items
    c.loop-file-test.true c.file-item.is c.loop-file.invariant
    (subst (λ p. IsOneMore c.args.folder.now p c.loop-file.entries.items c.enter.new.entries.items) c.deref.ensures c.in_ok-enter.ensures)
