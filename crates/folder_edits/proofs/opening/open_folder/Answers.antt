use Rattle.std.proofs.Common.{arith, subst}
use Rattle.folder_watch.specs.Edits.{AreEdits}
use Rattle.folder_edits.specs.Rounds.{Files}
use Rattle.std.proofs.lemmas.Result.{err_from_is_err_and}
use Rattle.hub_editor.specs.Edits.{edits_in}
use Rattle.folder_edits.specs.Causes.{IsFirstCause}
use Rattle.folder_edits.specs.Stops.{stop_of_edit, stop_of_scan}
use Rattle.folder_edits.proofs.Causes.{came_none, first_edit, first_scan, passed, tree_of_edit, tree_of_scan}
use Rattle.folder_edits.proofs.Makings.{scan_stops}
use Rattle.folder_edits.proofs.Shortness.{short_rows}
use Rattle.folder_edits.proofs.opening.open_folder.Goals as goal

pub returns-in_err-listing-clause-cause : goal.returns-in_err-listing-clause-cause
returns-in_err-listing-clause-cause g c =
    let coming = g.T.Tree.coming c.args.tree.now in
    let stop = c.in_err-listing.field-0.0 in
    passed (IsFirstCause coming c.args.pass.now) c.from_residual.result (stop_of_scan stop) (err_from_is_err_and c.from_residual.result c.from_residual.ensures.1)
    (first_scan coming c.args.pass.now stop c.requires.fresh (scan_stops 0 coming coming stop (came_none coming) c.in_err-listing.ensures.limits))

pub returns-in_err-listing-clause-tree_fault : goal.returns-in_err-listing-clause-tree_fault
returns-in_err-listing-clause-tree_fault g c =
    tree_of_scan c.from_residual.result c.in_err-listing.field-0.0 _ _ _ (err_from_is_err_and c.from_residual.result c.from_residual.ensures.1) (omega arith) c.in_err-listing.ensures.tree_fault

pub returns-in_err-open_sources-clause-cause : goal.returns-in_err-open_sources-clause-cause
returns-in_err-open_sources-clause-cause g c =
    let coming = g.T.Tree.coming c.args.tree.now in
    let stop = c.in_err-open_sources.field-0.0 in
    let first = edits_in c.in_ok-edits.edits.items in
    passed (IsFirstCause coming c.open_sources.new.pass) c.from_residual-in_err-open_sources.result (stop_of_edit stop) (err_from_is_err_and c.from_residual-in_err-open_sources.result c.from_residual-in_err-open_sources.ensures.1)
    (first_edit coming c.open_sources.new.pass stop
    (record {
      listing = c.in_ok-listing.listing;
      first = first;
      round = record { scanned = c.in_ok-listing.ensures.told; edits_are = subst (λ (old : Files). AreEdits old c.in_ok-listing.listing first) c.new-none.ensures c.in_ok-edits.ensures.are; rising = c.in_ok-edits.ensures.rising };
      begins = c.in_err-open_sources.ensures.front;
      stops = c.in_err-open_sources.ensures.stopped;
    })
    c.in_err-open_sources.ensures.cause)

pub returns-in_err-open_sources-clause-tree_fault : goal.returns-in_err-open_sources-clause-tree_fault
returns-in_err-open_sources-clause-tree_fault g c =
    tree_of_edit c.from_residual-in_err-open_sources.result c.in_err-open_sources.field-0.0 (err_from_is_err_and c.from_residual-in_err-open_sources.result c.from_residual-in_err-open_sources.ensures.1)

pub returns-clause-opens : goal.returns-clause-opens
returns-clause-opens g c = record {
  first = edits_in c.in_ok-edits.edits.items;
  round = record { scanned = c.in_ok-listing.ensures.told; edits_are = subst (λ (old : Files). AreEdits old c.in_ok-listing.listing (edits_in c.in_ok-edits.edits.items)) c.new-none.ensures c.in_ok-edits.ensures.are; rising = c.in_ok-edits.ensures.rising };
  accepted = c.in_ok-open_sources.ensures.accepted;
  opening_is = c.in_ok-open_sources.ensures.opened;
}

pub open_sources-requires-clause-short : goal.open_sources-requires-clause-short
open_sources-requires-clause-short g c = λ κs s. short_rows c.in_ok-edits.edits.items c.in_ok-edits.ensures.short
