use Rattle.folder_watch.proofs.Walking.{root_stands, told_coming}
use Rattle.folder_watch.proofs.walk.scan.Goals as goal

pub returns-clause-told : goal.returns-clause-told
returns-clause-told g c =
    let stands = root_stands g.T.Tree.dir_path c.in_ok-dir.dir c.new.result.items c.new-level.result.items c.add_folder.new.folders.items c.in_ok-add_folder.ensures c.new-level.ensures.items c.new.ensures.items c.in_ok-dir.ensures.root in
    told_coming (g.T.Tree.coming c.args.tree.now) (g.T.Tree.files c.open.new.self) c.look_below.result c.in_ok-dir.ensures.files
    (λ files e. c.look_below.ensures.told files e stands.0 stands.1)
