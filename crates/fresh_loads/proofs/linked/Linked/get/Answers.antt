use Rattle.std.proofs.Common.{ap, sym, ◌∙◌}
use Rattle.fresh_loads.specs.Searching.{kept_or_none}
use Rattle.fresh_loads.proofs.Linking.{found}
use Rattle.fresh_loads.proofs.linked.Linked.get.Goals as goal

pub returns : goal.returns
returns c = rw (← c.self.view_is) (c.as_slice.ensures ∙ ap kept_or_none (c.in-Some.ensures.value ∙ sym (found c.self.inside.names.entries c.args.name.now)))

pub returns-in_default : goal.returns-in_default
returns-in_default c = rw (← c.self.view_is) (ap kept_or_none (c.in_default.ensures.value ∙ sym (found c.self.inside.names.entries c.args.name.now)))
