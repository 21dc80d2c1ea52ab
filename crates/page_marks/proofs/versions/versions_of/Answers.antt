use Rattle.std.proofs.Common.{◌++◌, ap, ◌∙◌}
use Rattle.std.specs.Prelude.{slice_get}
use Rattle.core_model.specs.View.{table_of}
use Rattle.page_marks.specs.Listed.{listed}
use Rattle.page_marks.proofs.Tabling.{taken_more}
use Rattle.page_marks.proofs.versions.versions_of.Goals as goal

pub loop-place-preserved : goal.loop-place-preserved
loop-place-preserved c = c.in_ok-push_row.ensures ∙ ap (λ l. l ++ table_of (listed (slice_get c.args.view.now c.loop-place.place))) c.loop-place.invariant ∙ taken_more c.args.view.now c.loop-place.place
