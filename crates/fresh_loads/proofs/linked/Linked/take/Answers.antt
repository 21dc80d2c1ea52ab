use Rattle.std.proofs.Common.{ap, sym, ◌∙◌}
use Rattle.std.specs.Prelude.{None}
use Rattle.fresh_loads.specs.Searching.{kept_or_none}
use Rattle.fresh_loads.proofs.Linking.{changed, found}
use Rattle.fresh_loads.proofs.linked.Linked.take.Goals as goal

pub returns-clause-names : goal.returns-clause-names
returns-clause-names c = rw (← c.self.view_is) (c.into_vec.ensures ∙ ap kept_or_none (c.in-Some.ensures.value ∙ sym (found c.self.inside.names.entries c.args.name.now)))

pub returns-clause-left : goal.returns-clause-left
returns-clause-left c = rw (← c.self.view_is) (changed c.args.name.now None c.self.inside.names.entries c.remove.new.self.entries c.in-Some.ensures.updates.0)

pub returns-in_default-clause-names : goal.returns-in_default-clause-names
returns-in_default-clause-names c = rw (← c.self.view_is) (c.new.ensures.items ∙ ap kept_or_none (c.in_default.ensures.value ∙ sym (found c.self.inside.names.entries c.args.name.now)))

pub returns-in_default-clause-left : goal.returns-in_default-clause-left
returns-in_default-clause-left c = rw (← c.self.view_is) (changed c.args.name.now None c.self.inside.names.entries c.remove.new.self.entries c.in_default.ensures.updates.0)
