use Rattle.std.proofs.Common.{◌↔◌, Contains}
use Rattle.std.proofs.Math.Path.{subst}
use Rattle.core_model.specs.FreshLoad.{imports}
use Rattle.core_model.specs.Names.{Name}
use Rattle.core_model.specs.Paths.{Reaches}
use Rattle.fresh_loads.proofs.Reaching.{found_is}
use Rattle.fresh_loads.proofs.reach.reached_names.Goals as goal

pub returns : goal.returns
returns c =
    let known = c.in_ok-known.known.items in
    found_is c.args.versions.now.served c.args.roots.now known c.in_ok-names.names.items
    (subst (λ v. (m : Name) → Contains known m ↔ Reaches (imports v.served) c.args.roots.now m) c.of.ensures c.in_ok-known.ensures.exact)
    c.in_ok-names.ensures
