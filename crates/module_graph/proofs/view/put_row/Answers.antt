use Rattle.std.proofs.Common.{◌≡◌, false, refl, ap, ◌∙◌}
use Rattle.std.specs.Prelude.{OnOk}
use Rattle.std.proofs.Math.Path.{subst}
use Rattle.indexmap.specs.IndexMap.{insert_entry}
use Rattle.core_model.specs.Names.{at, has, same_name}
use Rattle.core_model.specs.View.{accepted_of, imports_of}
use Rattle.module_graph.specs.declared.view_rows.Row.{Row}
use Rattle.module_graph.specs.ReverseIndex.{Places}
use Rattle.module_graph.specs.Rows.{Rows, view_of}
use Rattle.module_graph.proofs.Marking.{inserted, put_indexed, refused_indexed}
use Rattle.module_graph.proofs.view.put_row.Goals as goal

pub returns-clause-ok : goal.returns-clause-ok
returns-clause-ok c =
    let n = c.args.name in
    let row : Row = record { entry = c.args.entry; leaving = false } in
    let new = c.insert.new.self.entries in
    ap view_of (subst (λ r. OnOk r (new ≡ insert_entry same_name c.reserve.new.self.entries n row)) c.unwrap.ensures c.insert.ensures.entries
    ∙ ap (λ (r : Rows). insert_entry same_name r n row) c.in_ok-reserve.ensures.entries)
    ∙ inserted n row c.args.rows.now.entries

pub returns-clause-indexed : goal.returns-clause-indexed
returns-clause-indexed c =
    let n = c.args.name in
    let row : Row = record { entry = c.args.entry; leaving = false } in
    let new = c.insert.new.self.entries in
    let was = c.args.indexes.now in
    let now = c.replace.new.self in
    put_indexed n row c.args.rows.now.entries new was.importers.sets.entries was.acceptors.sets.entries now.importers.sets.entries now.acceptors.sets.entries refl
    (subst (λ r. OnOk r (new ≡ insert_entry same_name c.reserve.new.self.entries n row)) c.unwrap.ensures c.insert.ensures.entries
    ∙ ap (λ (r : Rows). insert_entry same_name r n row) c.in_ok-reserve.ensures.entries)
    (subst (λ l. Places n (has l) was.importers.sets.entries now.importers.sets.entries) c.lists.ensures.imports c.in_ok-replace.ensures.imports)
    (subst (λ l. Places n (has l) was.acceptors.sets.entries now.acceptors.sets.entries) c.lists.ensures.accepted c.in_ok-replace.ensures.accepted)
    c.requires

pub returns-in_err-replace-clause-indexed : goal.returns-in_err-replace-clause-indexed
returns-in_err-replace-clause-indexed c =
    let n = c.args.name in
    let was = c.args.indexes.now in
    let now = c.replace.new.self in
    refused_indexed n c.args.rows.now.entries c.reserve.new.self.entries was.importers.sets.entries was.acceptors.sets.entries now.importers.sets.entries now.acceptors.sets.entries c.in_ok-reserve.ensures.entries
    (subst (λ l. Places n (has l) was.importers.sets.entries now.importers.sets.entries) (c.lists_of-before.ensures.imports ∙ ap (λ (r : Rows). imports_of (at (view_of r) n)) c.in_ok-reserve.ensures.entries) c.in_err-replace.ensures.imports_err)
    (subst (λ l. Places n (has l) was.acceptors.sets.entries now.acceptors.sets.entries) (c.lists_of-before.ensures.accepted ∙ ap (λ (r : Rows). accepted_of (at (view_of r) n)) c.in_ok-reserve.ensures.entries) c.in_err-replace.ensures.accepted_err)
    c.requires
