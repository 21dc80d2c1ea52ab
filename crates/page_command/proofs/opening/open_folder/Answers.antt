use Rattle.std.proofs.Common.{subst}
use Rattle.std.proofs.lemmas.Result.{err_from_is_err_and}
use Rattle.folder_watch.specs.Edits.{AreEdits, rows_of}
use Rattle.page_command.specs.Folder.{Files}
use Rattle.page_command.proofs.Stopping.{at_edits, at_memory, at_scan, rising_rows, tree_of_edits, tree_of_memory, tree_of_scan}
use Rattle.page_command.proofs.opening.open_folder.Goals as goal

pub returns-in_err-listing-clause-stops : goal.returns-in_err-listing-clause-stops
returns-in_err-listing-clause-stops g c =
    at_scan (g.T.Tree.coming c.args.tree.now) c.from_residual.result c.in_err-listing.field-0.0 (err_from_is_err_and c.from_residual.result c.from_residual.ensures.1)
    c.in_err-listing.ensures.limits

pub returns-in_err-listing-clause-tree_fault : goal.returns-in_err-listing-clause-tree_fault
returns-in_err-listing-clause-tree_fault g c =
    tree_of_scan c.from_residual.result c.in_err-listing.field-0.0 _ _ (err_from_is_err_and c.from_residual.result c.from_residual.ensures.1)
    c.in_err-listing.ensures.tree_fault

pub returns-in_err-edits-clause-stops : goal.returns-in_err-edits-clause-stops
returns-in_err-edits-clause-stops g c =
    at_memory (g.T.Tree.coming c.args.tree.now) c.from_residual-in_err-edits.result
    (err_from_is_err_and c.from_residual-in_err-edits.result c.from_residual-in_err-edits.ensures.1)

pub returns-in_err-edits-clause-tree_fault : goal.returns-in_err-edits-clause-tree_fault
returns-in_err-edits-clause-tree_fault g c =
    tree_of_memory c.from_residual-in_err-edits.result
    (err_from_is_err_and c.from_residual-in_err-edits.result c.from_residual-in_err-edits.ensures.1)

pub returns-in_err-map-clause-stops : goal.returns-in_err-map-clause-stops
returns-in_err-map-clause-stops g c =
    let edits = rows_of c.in_ok-edits.edits.items in
    at_edits (g.T.Tree.coming c.args.tree.now) c.from_residual-in_err-map.result edits c.in_err-map.field-0.0
    (record {
      listing = c.in_ok-listing.listing;
      scanned = c.in_ok-listing.ensures.told;
      edits_are = subst (λ (old : Files). AreEdits old c.in_ok-listing.listing edits) c.new-none.ensures c.in_ok-edits.ensures.exact;
      rising = rising_rows c.in_ok-edits.edits.items c.in_ok-edits.ensures.rising;
    })
    (err_from_is_err_and c.from_residual-in_err-map.result c.from_residual-in_err-map.ensures.1) c.in_err-map.ensures.stops

pub returns-in_err-map-clause-tree_fault : goal.returns-in_err-map-clause-tree_fault
returns-in_err-map-clause-tree_fault g c =
    tree_of_edits c.from_residual-in_err-map.result (rows_of c.in_ok-edits.edits.items) c.in_err-map.field-0.0
    (err_from_is_err_and c.from_residual-in_err-map.result c.from_residual-in_err-map.ensures.1) c.in_err-map.ensures.stops

pub returns-clause-opens : goal.returns-clause-opens
returns-clause-opens g c =
    let edits = rows_of c.in_ok-edits.edits.items in (
      edits,
      record {
        first = record {
          listing = c.in_ok-listing.listing;
          scanned = c.in_ok-listing.ensures.told;
          edits_are = subst (λ (old : Files). AreEdits old c.in_ok-listing.listing edits) c.new-none.ensures c.in_ok-edits.ensures.exact;
          rising = rising_rows c.in_ok-edits.edits.items c.in_ok-edits.ensures.rising;
        };
        accepted = c.in_ok-map.ensures.accepted;
      },
      c.in_ok-map.ensures.stands,
    )
