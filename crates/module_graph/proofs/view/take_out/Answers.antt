use Rattle.std.proofs.Common.{[]}
use Rattle.std.proofs.Math.Path.{subst}
use Rattle.core_model.specs.Names.{at}
use Rattle.core_model.specs.View.{accepted_of, imports_of}
use Rattle.module_graph.specs.ReverseIndex.{Leaves}
use Rattle.module_graph.specs.Rows.{view_of}
use Rattle.module_graph.proofs.Marking.{gone_more, none_gone}
use Rattle.module_graph.proofs.view.take_out.Goals as goal

pub loop-name-init : goal.loop-name-init
loop-name-init c = (none_gone c.args.names.now _, none_gone c.args.names.now _)

pub loop-name-preserved : goal.loop-name-preserved
loop-name-preserved c =
    let view = view_of c.args.rows.now.entries in
    let names = c.args.names.now in
    let i = c.loop-name.name-index in
    let x = c.name-item.result in
    let was = c.args.indexes.now in
    let cur = c.loop-name.indexes in
    let new = c.remove.new.self in (
      gone_more imports_of view names i x was.importers.sets.entries cur.importers.sets.entries new.importers.sets.entries c.requires.imports c.loop-name-test.true c.loop-name.invariant.0
          (subst (λ y. Leaves y (imports_of (at view y)) [] cur.importers.sets.entries new.importers.sets.entries) c.name-item.is
          (subst (λ l. Leaves x l [] cur.importers.sets.entries new.importers.sets.entries) c.lists_of.ensures.imports c.remove.ensures.imports)),
      gone_more accepted_of view names i x was.acceptors.sets.entries cur.acceptors.sets.entries new.acceptors.sets.entries c.requires.accepted c.loop-name-test.true c.loop-name.invariant.1
          (subst (λ y. Leaves y (accepted_of (at view y)) [] cur.acceptors.sets.entries new.acceptors.sets.entries) c.name-item.is
          (subst (λ l. Leaves x l [] cur.acceptors.sets.entries new.acceptors.sets.entries) c.lists_of.ensures.accepted c.remove.ensures.accepted)),
    )
