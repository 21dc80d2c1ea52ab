use Rattle.std.proofs.Common.{arith}
use Rattle.folders.proofs.Listings.{dir_entry_for, file_entry_for}
use Rattle.folders.proofs.mem_tree.entry_of.Goals as goal

pub returns-in_ok-dir_entry-in-Some-split_once-clause-entry : goal.returns-in_ok-dir_entry-in-Some-split_once-clause-entry
returns-in_ok-dir_entry-in-Some-split_once-clause-entry c =
    let s = c.in-Some-split_once.ensures.byte (omega arith) (λ w o h. h) in
    dir_entry_for c.args.folder.now c.args.path.now c.in-Some.rest.now c.in-Some-split_once.name.now c.in_ok-dir_entry-in-Some-split_once.field-0 c.in-Some.ensures s.0 s.2 c.in_ok-dir_entry-in-Some-split_once.ensures.name c.in_ok-dir_entry-in-Some-split_once.ensures.node

pub returns-in_ok-file_entry-in-None-clause-entry : goal.returns-in_ok-file_entry-in-None-clause-entry
returns-in_ok-file_entry-in-None-clause-entry c =
    file_entry_for c.args.folder.now c.args.path.now c.in-Some.rest.now c.in_ok-file_entry-in-None.field-0 c.in-Some.ensures (c.in-None.ensures.byte (omega arith) (λ w o h. h)) c.in_ok-file_entry-in-None.ensures.name c.in_ok-file_entry-in-None.ensures.node
