use Rattle.std.proofs.Common.{rules, arith, ◌++◌, ◌∷◌, [], List, sym, ap, ◌∙◌, append_assoc}
use Rattle.std.specs.Prelude.{IfErr, option_map}
use Rattle.std.specs.Vec.Iter.{into_iter_items}
use Rattle.core_model.specs.Sources.{Change, edit_answer, sources_after}
use Rattle.folder_watch.specs.Edits.{rows_of}
use Rattle.version_map.specs.Standing.{StandsFor}
use Rattle.page_command.specs.Opening.{opened}
use Rattle.page_command.specs.Stops.{IsEditStop}
use Rattle.page_command.proofs.FirstEdits.{all_accepted_then, if_err_then, stands_then, stops_at, unspent, yielded_few}
use Rattle.page_command.proofs.opening.open_each.Goals as goal

pub loop-name-init : goal.loop-name-init
loop-name-init c = record {
  all = c.into_iter-name-iterator.ensures.into_iter_gives.0;
  stands = c.requires.fresh;
  accepted = tt;
}

pub open_edit-requires-clause-made : goal.open_edit-requires-clause-made
open_edit-requires-clause-made c = (opened [] (rows_of c.loop-name.yielded), c.loop-name.invariant.stands)

pub open_edit-requires-clause-unspent : goal.open_edit-requires-clause-unspent
open_edit-requires-clause-unspent c =
    let few = yielded_few c.loop-name.yielded (into_iter_items c.loop-name.name-iterator) c.args.edits.items c.loop-name.invariant.all in
    unspent c.loop-name.yielded c.loop-name.map c.loop-name.invariant.stands (omega (arith, few, c.requires.few))

pub loop-name-preserved : goal.loop-name-preserved
loop-name-preserved c =
    let i = c.loop-name.invariant in
    let edits = c.loop-name.yielded in
    let past = opened [] (rows_of edits) in
    record {
      all = append_assoc edits ((c.in-Some.name, c.in-Some.text) ∷ []) (into_iter_items c.next.new.self) ∙ (ap (λ es. edits ++ es) (sym c.in-Some.ensures.steps.0) ∙ i.all);
      stands = stands_then edits (c.in-Some.name, c.in-Some.text) c.open_edit.new.map (c.in_ok-open_edit.ensures.stands past i.stands);
      accepted = all_accepted_then edits (c.in-Some.name, c.in-Some.text) i.accepted (c.in_ok-open_edit.ensures.accepted past i.stands);
    }

pub returns-in_err-open_edit-clause-stops : goal.returns-in_err-open_edit-clause-stops
returns-in_err-open_edit-clause-stops c =
    let i = c.loop-name.invariant in
    let stopped : IfErr c.from_residual.result (λ stop. (past : List Change) → StandsFor past c.loop-name.map
    → IsEditStop (edit_answer (sources_after past) c.in-Some.name (option_map (λ t. t.items) c.in-Some.text)) stop) = search rules in
    if_err_then c.from_residual.result stopped
    (λ stop h. stops_at c.loop-name.yielded (c.in-Some.name, c.in-Some.text) (into_iter_items c.next.new.self) c.args.edits.items stop
    (ap (λ es. c.loop-name.yielded ++ es) (sym c.in-Some.ensures.steps.0) ∙ i.all) i.accepted (h (opened [] (rows_of c.loop-name.yielded)) i.stands))
