use Rattle.std.proofs.Common.{length, ap, sym, ◌∙◌}
use Rattle.std.specs.List.{AllZip}
use Rattle.std.proofs.Math.Path.{subst}
use Rattle.plan_changes.specs.Changing.{AreNumbers, IsMadeOf}
use Rattle.plan_changes.proofs.Foreseen.{have_number, made_are, numbers_are}
use Rattle.plan_changes.proofs.Gathering.{zip_length}
use Rattle.plan_changes.proofs.finding.found_of.Goals as goal

pub change_of-requires : goal.change_of-requires
change_of-requires g c = have_number _ _ _ c.in_ok-numbers.ensures

pub returns-clause-count : goal.returns-clause-count
returns-clause-count g c = zip_length (IsMadeOf c.args.plan.now c.args.view.now c.in_ok-numbers.numbers c.args.page.now.live c.args.trees.now.entries) c.as_slice-names.result.now c.in_ok-births.births.items c.in_ok-births.ensures
    ∙ ap length c.as_slice-names.ensures.value

pub returns-clause-found : goal.returns-clause-found
returns-clause-found g c = λ r p s t.
    let are : AreNumbers r p c.in_ok-numbers.numbers = numbers_are r p c.as_slice-names.result.now _ c.in_ok-numbers.numbers (c.as_slice-names.ensures.value ∙ t.ends.names) (sym s.stands.instances.count) c.in_ok-numbers.ensures in
    record {
      changes = c.in_ok-change.ensures.change r p s.stands t.plan are (c.as_slice-names.ensures.value ∙ t.ends.names) t.pairs s.forcing;
      made = made_are r p c.args.plan.now c.args.page.now c.args.view.now c.args.forced.now c.args.ready.now c.args.trees.now.entries c.args.pairs.now c.in_ok-numbers.numbers c.in_ok-births.births.items s t are
          (subst (λ ns. AllZip (IsMadeOf c.args.plan.now c.args.view.now c.in_ok-numbers.numbers c.args.page.now.live c.args.trees.now.entries) ns c.in_ok-births.births.items) c.as_slice-names.ensures.value c.in_ok-births.ensures);
    }
