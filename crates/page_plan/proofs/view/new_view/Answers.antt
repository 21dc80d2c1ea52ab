use Rattle.std.proofs.Common.{◌++◌, ap, ◌∙◌}
use Rattle.core_model.specs.Names.{names_of, rising}
use Rattle.core_model.proofs.Rising.{sorted_rises}
use Rattle.page_plan.proofs.Making.{made_is}
use Rattle.page_plan.proofs.view.new_view.Goals as goal

pub collect-requires : goal.collect-requires
collect-requires c = ap rising (c.deref.ensures.value ∙ c.in_ok-names.ensures) ∙ sorted_rises (c.args.met.now ++ names_of c.args.view.now)

pub returns : goal.returns
returns c = λ roots is. made_is roots c.args.plan.now c.args.view.now c.args.met.now c.in_ok-set.set c.deref.result.now c.in_ok-made.made is c.in_ok-set.ensures (c.deref.ensures.value ∙ c.in_ok-names.ensures) c.in_ok-made.ensures
