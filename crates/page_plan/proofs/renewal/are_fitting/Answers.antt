use Rattle.std.proofs.Common.{arith, ◌≡◌, length, ap, sym, ◌∙◌}
use Rattle.std.specs.Prelude.{slice_get}
use Rattle.std.proofs.lemmas.Grind.{common_steps}
use Rattle.page_plan.proofs.Renewals.{fitting_end, fitting_fails, fitting_more}
use Rattle.page_plan.proofs.renewal.are_fitting.Goals as goal

pub returns-then-not-is_fitting_at : goal.returns-then-not-is_fitting_at
returns-then-not-is_fitting_at c = fitting_fails c.args.plan.now c.args.rows.now c.args.view.now c.loop-place.place c.index-rows-place.result _ c.is_fitting_at.result c.loop-place-test.true c.index-rows-place.is c.at.ensures c.is_fitting_at.ensures c.if-not-is_fitting_at.true c.loop-place.invariant

pub loop-place-preserved : goal.loop-place-preserved
loop-place-preserved c = fitting_more c.args.plan.now c.args.rows.now c.args.view.now c.loop-place.place c.index-rows-place.result _ c.is_fitting_at.result c.loop-place-test.true c.index-rows-place.is c.at.ensures c.is_fitting_at.ensures c.if-not-is_fitting_at.false c.loop-place.invariant

pub returns : goal.returns
returns c =
    let end : c.loop-place.place ≡ length c.args.rows.now = grind (arith, common_steps) in
    fitting_end c.args.plan.now c.args.rows.now c.args.view.now c.loop-place.place _ _ c.is_none.result end (c.at-2.ensures ∙ ap (slice_get c.args.view.now) (sym end)) c.is_none.ensures c.loop-place.invariant
