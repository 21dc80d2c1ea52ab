use Rattle.std.proofs.Common.{refl, ◌∙◌, sym}
use Rattle.page_instances.proofs.Taking.{prune_taken, prune_lacks}
use Rattle.page_instances.proofs.instance.Instance.take_prune.Goals as goal

pub returns-in-Some-clause-some : goal.returns-in-Some-clause-some
returns-in-Some-clause-some g c = λ i s. prune_taken i c.args.self.now _ s _ (sym c.take_prune.ensures.taken ∙ c.in-Some.is) refl c.take_prune.ensures.left c.spend_mark.ensures

pub returns-in-None-clause-none : goal.returns-in-None-clause-none
returns-in-None-clause-none g c = λ i s. prune_lacks i c.args.self.now _ s (sym c.take_prune.ensures.taken ∙ c.in-None.is) refl c.take_prune.ensures.left
