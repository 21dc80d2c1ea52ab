use Rattle.std.proofs.Common.{ap, ◌∙◌}
use Rattle.std.specs.Prelude.{not}
use Rattle.core_model.specs.Names.{has}
use Rattle.module_graph.proofs.Sets.{set_has, insert_has}
use Rattle.module_graph.proofs.name_set.NameSet.add.Goals as goal

pub returns-clause-new : goal.returns-clause-new
returns-clause-new c = rw (← c.self.view_is) (c.in_ok-new.ensures.added ∙ ap not (set_has c.self.inside.names.keys c.args.name))

pub returns-clause-ok : goal.returns-clause-ok
returns-clause-ok c = rw (← c.self.view_is) (λ n. ap (λ l. has l n) c.in_ok-new.ensures.keys ∙ insert_has c.self.inside.names.keys c.args.name n)
