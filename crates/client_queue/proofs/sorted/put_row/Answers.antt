use Rattle.std.proofs.Common.{◌≡◌, List, sym, ◌∙◌}
use Rattle.std.specs.Prelude.{slice_set}
use Rattle.std.specs.List.{insert}
use Rattle.std.proofs.Math.Path.{subst}
use Rattle.hmr_types.specs.declared.analysis.TextFault.{TextFault}
use Rattle.core_model.specs.Names.{Name}
use Rattle.client_queue.specs.Queue.{put_row}
use Rattle.client_queue.proofs.Placing.{row_rises}
use Rattle.client_queue.proofs.sorted.put_row.Goals as goal

pub returns-in-Ok-clause-rising : goal.returns-in-Ok-clause-rising
returns-in-Ok-clause-rising c =
    let n = c.args.name in
    let f = c.args.fault in
    row_rises n f c.args.rows.now.items (slice_set c.args.rows.now.items c.in-Ok.place (n, f))
    (sym (subst (λ (l : List (Name × TextFault)). put_row n f l ≡ slice_set l c.in-Ok.place (n, f)) c.deref.ensures.value (c.in-Ok.ensures.there f)))

pub returns-in_ok-insert-in-Err-clause-rising : goal.returns-in_ok-insert-in-Err-clause-rising
returns-in_ok-insert-in-Err-clause-rising c =
    let n = c.args.name in
    let f = c.args.fault in
    row_rises n f c.args.rows.now.items c.insert.new.self.items
    (c.in_ok-insert-in-Err.ensures.items ∙ sym (subst (λ (l : List (Name × TextFault)). put_row n f l ≡ insert l c.in-Err.place (n, f)) c.deref.ensures.value (c.in-Err.ensures.free f)))
