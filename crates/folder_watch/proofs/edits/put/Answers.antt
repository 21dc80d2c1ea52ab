use Rattle.folder_watch.proofs.Looking.{edit_added}
use Rattle.folder_watch.proofs.edits.put.Goals as goal

pub returns : goal.returns
returns c = edit_added c.args.name c.args.edit c.args.edits.now.entries c.insert.new.self.entries c.in_ok-insert.ensures.updates.0
