use Rattle.std.proofs.Common.{◌≡◌, sym, ap, ◌∙◌, string_bytes}
use Rattle.std.proofs.lemmas.Result.{on_ok_weaker}
use Rattle.hmr_types.specs.ModName.{parts}
use Rattle.folders.specs.Entries.{has_slash}
use Rattle.folders.specs.Files.{below}
use Rattle.folder_watch.specs.Watched.{are_looked_into}
use Rattle.folder_watch.proofs.Watching.{looked_below}
use Rattle.folder_watch.proofs.Walking.{dir_covers, dir_stands, file_covers, file_stands, grown_deep, grown_placed}
use Rattle.folder_watch.proofs.walk.take_entry.Goals as goal

pub returns-in-File-clause-covers : goal.returns-in-File-clause-covers
returns-in-File-clause-covers g c = λ files e p.
    let name = string_bytes c.args.entry.name in
    let at : c.deref.result.now ≡ below c.args.folder.now name = c.deref.ensures.value ∙ c.in_ok-path.ensures ∙ ap (below c.args.folder.now) c.as_bytes-name.ensures.value in
    let stands = file_stands g.T.Tree.dir_path g.T.Tree.file_path files c.args.folder.now c.args.entry c.in-File.file c.in-File.is p ∙ sym at in
    on_ok_weaker c.take_file.result
    (file_covers g.T.Tree.dir_path g.T.Tree.file_path files c.args.folder.now c.args.entry c.in-File.file c.deref.result.now c.args.found.now c.take_file.new.found _ c.in-File.is stands)
    (c.take_file.ensures.reads files e stands (ap (λ path. are_looked_into (parts path)) at ∙ looked_below c.args.folder.now name c.requires.open p.plain))

pub returns-in-File-clause-stops : goal.returns-in-File-clause-stops
returns-in-File-clause-stops g c = λ files e p h.
    let name = string_bytes c.args.entry.name in
    let at : c.deref.result.now ≡ below c.args.folder.now name = c.deref.ensures.value ∙ c.in_ok-path.ensures ∙ ap (below c.args.folder.now) c.as_bytes-name.ensures.value in
    let stands = file_stands g.T.Tree.dir_path g.T.Tree.file_path files c.args.folder.now c.args.entry c.in-File.file c.in-File.is p ∙ sym at in
    c.take_file.ensures.stops files e stands (ap (λ path. are_looked_into (parts path)) at ∙ looked_below c.args.folder.now name c.requires.open p.plain) h

pub returns-clause-deeper : goal.returns-clause-deeper
returns-clause-deeper g c = λ depth d all.
    grown_deep c.args.folder.now c.as_bytes-name.result.now c.in-Dir.dir c.args.next.now.items c.take_folder.new.folders.items depth c.in_ok-take_folder-in-Dir.ensures d all

pub returns-clause-placed : goal.returns-clause-placed
returns-clause-placed g c = λ files p all.
    let stands = dir_stands g.T.Tree.dir_path g.T.Tree.file_path files c.args.folder.now c.args.entry c.in-Dir.dir c.in-Dir.is p ∙ ap (below c.args.folder.now) (sym c.as_bytes-name.ensures.value) in
    grown_placed c.args.folder.now c.as_bytes-name.result.now c.in-Dir.dir c.args.next.now.items c.take_folder.new.folders.items g.T.Tree.dir_path c.in_ok-take_folder-in-Dir.ensures stands all

pub returns-clause-covers : goal.returns-clause-covers
returns-clause-covers g c = λ files e p.
    let stands = dir_stands g.T.Tree.dir_path g.T.Tree.file_path files c.args.folder.now c.args.entry c.in-Dir.dir c.in-Dir.is p ∙ ap (below c.args.folder.now) (sym c.as_bytes-name.ensures.value) in
    dir_covers g.T.Tree.dir_path g.T.Tree.file_path files c.args.folder.now c.args.entry c.in-Dir.dir c.as_bytes-name.result.now c.args.found.now c.args.next.now.items c.take_folder.new.folders.items
    c.in-Dir.is stands (ap has_slash c.as_bytes-name.ensures.value ∙ p.plain) c.in_ok-take_folder-in-Dir.ensures
