use Rattle.std.proofs.Common.{◌++◌, ◌∷◌, Some, ap, map, sym, ◌∙◌}
use Rattle.std.proofs.Math.Path.{subst}
use Rattle.hmr_types.specs.declared.words.PlanKind.TheVariants.{Update}
use Rattle.output_lines.specs.declared.out_line.OutLine.TheVariants as line
use Rattle.core_model.specs.Names.{in_order}
use Rattle.core_model.specs.Page.{new_plan}
use Rattle.client_model.specs.Answering.{begin, pair_of}
use Rattle.client_plan.specs.Telling.{accept_lines, batch_lines}
use Rattle.client_plan.specs.UnderWay.{IsUnderWay}
use Rattle.client_plan.specs.Whole.{IsWhole}
use Rattle.runtime_state.specs.Standing.{IsPlan, IsPlannedWell}
use Rattle.plan_starts.proofs.Started.{update_becomes}
use Rattle.plan_starts.proofs.beginning.start_update.Goals as goal

pub returns-clause-becomes : goal.returns-clause-becomes
returns-clause-becomes g c = λ r k s.
    let replaced = c.args.replaced in
    let updates = c.args.updates in
    let u = c.in_ok-update.update in
    let begun : IsUnderWay (begin Update replaced (map pair_of updates) r) (new_plan Update replaced) u =
    subst (λ names. IsUnderWay (begin Update names (map pair_of updates) r) (new_plan Update names) u) c.as_slice-2.ensures
    (subst (λ told. IsUnderWay (begin Update c.as_slice-2.result.now (map pair_of told) r) (new_plan Update c.as_slice-2.result.now) u) c.as_slice-3.ensures
    (c.in_ok-update.ensures.under_way r (k.roots ∙ sym c.as_slice.ensures) k.view (λ e. subst (λ roots. IsWhole roots c.args.runtime.now.view) (sym c.as_slice.ensures) (s.whole e)))) in
    update_becomes replaced c.args.batch c.args.triggered (map pair_of updates) r c.args.runtime.now _ _ k s
    (subst (IsPlan (begin Update replaced (map pair_of updates) r) (Some (new_plan Update replaced))) (sym c.put.ensures) begun)
    (subst (IsPlannedWell c.args.runtime.now.loaded) (sym c.put.ensures) (c.in_ok-update.ensures.planned c.args.runtime.now.loaded))
    (c.in_ok-lines.ensures
    ∙ ap (λ pairs. batch_lines c.args.runtime.now.page.client c.args.batch c.args.triggered ++ line.Update c.args.runtime.now.page.client (in_order replaced) ∷ accept_lines c.args.runtime.now.page.client pairs)
    (c.as_slice-4.ensures.value ∙ c.in_ok-update.ensures.pairs ∙ ap (map pair_of) c.as_slice-3.ensures))
