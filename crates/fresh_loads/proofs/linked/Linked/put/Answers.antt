use Rattle.std.proofs.Common.{if◌then◌else◌, ap, ◌∙◌}
use Rattle.std.specs.Prelude.{Some}
use Rattle.core_model.specs.Names.{at, same_name}
use Rattle.fresh_loads.proofs.Linking.{changed}
use Rattle.fresh_loads.proofs.linked.Linked.put.Goals as goal

pub returns : goal.returns
returns c = rw (← c.self.view_is) (λ m. changed c.args.name (Some c.from_vec.result) c.self.inside.names.entries c.insert.new.self.entries c.in_ok-insert.ensures.updates.0 m
    ∙ ap (λ v. if same_name c.args.name m then Some v else at c.self.inside.names.entries m) c.from_vec.ensures)
