use Rattle.std.proofs.Common.{ap, sym, ◌∙◌}
use Rattle.std.specs.Cmp.Lexicographic.{slice_cmp}
use Rattle.std.specs.List.Sorted.{IsStrictlySortedBy}
use Rattle.std.specs.Ordering.{nat_cmp}
use Rattle.std.proofs.Math.Path.{subst}
use Rattle.core_model.specs.Names.{names_of}
use Rattle.core_model.specs.Requests.{unfetched}
use Rattle.core_model.specs.View.{View}
use Rattle.page_plan.proofs.Comparing.{lacking, compared_applied}
use Rattle.page_plan.proofs.Renewals.{made_rises}
use Rattle.page_plan.proofs.plan.Plan.apply.Goals as goal

pub returns-in-Some : goal.returns-in-Some
returns-in-Some c = lacking c.args.roots.now c.args.self.now c.args.view.now c.deref.result.now c.in-Some.name.now c.args.told.now (c.deref.ensures.value ∙ c.in_ok-names.ensures) c.in-Some.ensures
    ∙ ap unfetched (sym c.in_ok-copy_name-in-Some.ensures)

pub returns : goal.returns
returns c = compared_applied c.args.roots.now c.args.self.now c.args.view.now c.in_ok-made-in-None.made c.deref.result.now c.args.told.now c.in_ok-answer-in-None.answer (c.deref.ensures.value ∙ c.in_ok-names.ensures) c.in-None.ensures
    (c.in_ok-made-in-None.ensures c.args.roots.now (c.deref-in-None.ensures.value ∙ c.in_ok-names.ensures)) c.in_ok-answer-in-None.ensures

pub compared-requires : goal.compared-requires
compared-requires c = subst (λ (v : View). IsStrictlySortedBy (slice_cmp nat_cmp) (names_of v))
    (sym (c.in_ok-made-in-None.ensures c.args.roots.now (c.deref-in-None.ensures.value ∙ c.in_ok-names.ensures)))
    (made_rises c.args.roots.now c.args.self.now c.args.view.now)
