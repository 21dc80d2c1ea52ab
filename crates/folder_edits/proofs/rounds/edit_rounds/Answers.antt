use Rattle.std.proofs.Common.{arith, ◌+◌, [], ap, sym, ◌∙◌, subst}
use Rattle.std.specs.Prelude.{Err}
use Rattle.hub_editor.specs.Edits.{edits_in}
use Rattle.hub_editor.proofs.Calls.{knower_self, knower_then}
use Rattle.std.proofs.lemmas.Result.{err_from_is_err_and}
use Rattle.folder_edits.specs.Causes.{IsEditCause}
use Rattle.folder_edits.specs.Rounds.{MakesEdits}
use Rattle.folder_edits.specs.Stops.{stop_of_edit, stop_of_scan}
use Rattle.folder_edits.proofs.Causes.{came_more, came_none, edit_cause, passed, scan_cause, tree_of_edit, tree_of_scan}
use Rattle.folder_edits.proofs.Makings.{Rounds, each_made, round_stopped, rounds_all, rounds_memory, rounds_more, rounds_none, rounds_scan, scan_stops}
use Rattle.folder_edits.proofs.rounds.edit_rounds.Goals as goal

pub loop-init : goal.loop-init
loop-init g c = record {
  of = c.requires.of;
  same = knower_self c.args.pass.now;
  transcript = λ h. h;
  edited = λ p x. x;
  going = c.requires.going;
  rounds = rounds_none (g.T.Tree.coming c.args.tree.now) c.args.listing c.args.editing.now.editor.works.items;
  came = came_none (g.T.Tree.coming c.args.tree.now);
  of_queue = c.requires.of_queue;
  puts = c.requires.puts;
  unclosed = c.requires.unclosed;
  may = c.requires.may;
  later = omega arith;
}

pub edit_each-requires-clause-short : goal.edit_each-requires-clause-short
edit_each-requires-clause-short g c = c.in_ok-edits.ensures.short

pub loop-preserved : goal.loop-preserved
loop-preserved g c =
    let i = c.loop.invariant in
    let coming = g.T.Tree.coming c.args.tree.now in
    let start = c.args.editing.now.editor.works.items in
    let old = c.loop.editing.editor.works.items in
    let new = c.edit_each.new.editing.editor.works.items in
    let next = c.in_ok-next.next in
    let edits = edits_in c.in_ok-edits.edits.items in
    record {
      of = c.edit_each.ensures.of;
      same = knower_then c.args.pass.now c.loop.pass c.edit_each.new.pass i.same c.edit_each.ensures.same;
      transcript = λ h. c.edit_each.ensures.transcript (i.transcript h);
      edited = λ p x. c.edit_each.ensures.edited p (i.edited p x);
      going = c.edit_each.ensures.going;
      rounds =
          subst (λ x. Rounds coming x c.args.listing next (c.loop.counter + 1) start new) (sym c.in_ok-next.ensures.coming)
          (rounds_more coming (g.T.Tree.coming c.loop.tree) c.args.listing c.loop.listing next c.loop.counter start old new edits i.rounds
          (record { scanned = c.in_ok-next.ensures.told; edits_are = c.in_ok-edits.ensures.are; rising = c.in_ok-edits.ensures.rising })
          (each_made edits old new c.in_ok-edit_each.ensures.makes));
      came = came_more c.loop.counter coming (g.T.Tree.coming c.loop.tree) (g.T.Tree.coming c.scan.new.tree) i.came c.in_ok-next.ensures.coming;
      of_queue = c.edit_each.ensures.of_queue;
      puts = c.edit_each.ensures.puts;
      unclosed = c.edit_each.ensures.unclosed;
      may = c.scan.ensures.no_other;
      later = omega (arith, i.later, c.scan.ensures.later);
    }

pub returns-in_err-next-clause-makes : goal.returns-in_err-next-clause-makes
returns-in_err-next-clause-makes g c =
    let told = err_from_is_err_and c.from_residual.result c.from_residual.ensures.1 in
    let coming = g.T.Tree.coming c.args.tree.now in
    let stop = c.in_err-next.field-0.0 in
    subst (λ r. MakesEdits coming c.args.listing [] c.args.rounds c.args.editing.now.editor.works.items c.loop.editing.editor.works.items r) (sym (told.1 ∙ ap Err told.2))
    (rounds_scan coming (g.T.Tree.coming c.loop.tree) c.args.listing c.loop.listing c.loop.counter c.args.rounds c.args.editing.now.editor.works.items c.loop.editing.editor.works.items stop c.loop.invariant.rounds
    (omega (arith, c.loop-test.true)) (scan_stops c.loop.counter coming (g.T.Tree.coming c.loop.tree) stop c.loop.invariant.came c.in_err-next.ensures.limits))

pub returns-in_err-next-clause-cause : goal.returns-in_err-next-clause-cause
returns-in_err-next-clause-cause g c =
    let stop = c.in_err-next.field-0.0 in
    passed (IsEditCause c.loop.pass) c.from_residual.result (stop_of_scan stop) (err_from_is_err_and c.from_residual.result c.from_residual.ensures.1) (scan_cause c.loop.pass stop)

pub returns-in_err-next-clause-tree_fault : goal.returns-in_err-next-clause-tree_fault
returns-in_err-next-clause-tree_fault g c =
    tree_of_scan c.from_residual.result c.in_err-next.field-0.0 _ _ _ (err_from_is_err_and c.from_residual.result c.from_residual.ensures.1) c.loop.invariant.later c.in_err-next.ensures.tree_fault

pub returns-in_err-edits-clause-makes : goal.returns-in_err-edits-clause-makes
returns-in_err-edits-clause-makes g c =
    let told = err_from_is_err_and c.from_residual-in_err-edits.result c.from_residual-in_err-edits.ensures.1 in
    let coming = g.T.Tree.coming c.args.tree.now in
    subst (λ r. MakesEdits coming c.args.listing [] c.args.rounds c.args.editing.now.editor.works.items c.loop.editing.editor.works.items r) (sym (told.1 ∙ ap Err told.2))
    (rounds_memory coming (g.T.Tree.coming c.loop.tree) c.args.listing c.loop.listing c.loop.counter c.args.rounds c.args.editing.now.editor.works.items c.loop.editing.editor.works.items c.loop.invariant.rounds
    (omega (arith, c.loop-test.true)))

pub returns-in_err-edit_each-clause-makes : goal.returns-in_err-edit_each-clause-makes
returns-in_err-edit_each-clause-makes g c =
    let told = err_from_is_err_and c.from_residual-in_err-edit_each.result c.from_residual-in_err-edit_each.ensures.1 in
    let coming = g.T.Tree.coming c.args.tree.now in
    subst (λ r. MakesEdits coming c.args.listing [] c.args.rounds c.args.editing.now.editor.works.items c.edit_each.new.editing.editor.works.items r) (sym (told.1 ∙ ap Err told.2))
    (round_stopped coming (g.T.Tree.coming c.loop.tree) c.args.listing c.loop.listing c.in_ok-next.next c.loop.counter c.args.rounds
    c.args.editing.now.editor.works.items c.loop.editing.editor.works.items c.edit_each.new.editing.editor.works.items (edits_in c.in_ok-edits.edits.items) c.in_err-edit_each.field-0.0 c.loop.invariant.rounds
    (omega (arith, c.loop-test.true))
    (record { scanned = c.in_ok-next.ensures.told; edits_are = c.in_ok-edits.ensures.are; rising = c.in_ok-edits.ensures.rising })
    c.in_err-edit_each.ensures.makes)

pub returns-in_err-edit_each-clause-edited : goal.returns-in_err-edit_each-clause-edited
returns-in_err-edit_each-clause-edited g c = λ p x. c.edit_each.ensures.edited p (c.loop.invariant.edited p x)

pub returns-in_err-edit_each-clause-same : goal.returns-in_err-edit_each-clause-same
returns-in_err-edit_each-clause-same g c = knower_then c.args.pass.now c.loop.pass c.edit_each.new.pass c.loop.invariant.same c.edit_each.ensures.same

pub returns-in_err-edit_each-clause-cause : goal.returns-in_err-edit_each-clause-cause
returns-in_err-edit_each-clause-cause g c =
    let stop = c.in_err-edit_each.field-0.0 in
    passed (IsEditCause c.edit_each.new.pass) c.from_residual-in_err-edit_each.result (stop_of_edit stop) (err_from_is_err_and c.from_residual-in_err-edit_each.result c.from_residual-in_err-edit_each.ensures.1)
    (edit_cause c.edit_each.new.pass stop c.in_err-edit_each.ensures.cause)

pub returns-in_err-edit_each-clause-tree_fault : goal.returns-in_err-edit_each-clause-tree_fault
returns-in_err-edit_each-clause-tree_fault g c = tree_of_edit c.from_residual-in_err-edit_each.result c.in_err-edit_each.field-0.0 (err_from_is_err_and c.from_residual-in_err-edit_each.result c.from_residual-in_err-edit_each.ensures.1)

pub returns-clause-makes : goal.returns-clause-makes
returns-clause-makes g c =
    rounds_all (g.T.Tree.coming c.args.tree.now) (g.T.Tree.coming c.loop.tree) c.args.listing c.loop.listing c.args.rounds c.args.editing.now.editor.works.items c.loop.editing.editor.works.items
    (subst (λ n. Rounds (g.T.Tree.coming c.args.tree.now) (g.T.Tree.coming c.loop.tree) c.args.listing c.loop.listing n c.args.editing.now.editor.works.items c.loop.editing.editor.works.items) (omega arith) c.loop.invariant.rounds)
