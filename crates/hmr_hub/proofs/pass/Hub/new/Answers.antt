use Rattle.std.proofs.Common.{sym, subst}
use Rattle.core_model.specs.Roots.{AreRoots}
use Rattle.server_core.specs.declared.new_fault.NewFault.TheVariants.{DuplicateRoot, NoRoots, TooManyRoots}
use Rattle.hmr_hub.proofs.Rooting.{are_roots, same_fault}
use Rattle.hmr_hub.proofs.pass.Hub.new.Goals as goal

pub hub_of-requires-clause-roots : goal.hub_of-requires-clause-roots
hub_of-requires-clause-roots c =
    let made = c.new.ensures in
    subst AreRoots (sym c.in-Ok.ensures.roots) (are_roots c.new.result c.in-Ok.core c.in-Ok.is c.args.roots.items made.none made.many made.twice)

pub returns-in-Err-clause-none : goal.returns-in-Err-clause-none
returns-in-Err-clause-none c = same_fault c.new.result c.in-Err.fault NoRoots _ c.in-Err.is c.new.ensures.none

pub returns-in-Err-clause-many : goal.returns-in-Err-clause-many
returns-in-Err-clause-many c = same_fault c.new.result c.in-Err.fault TooManyRoots _ c.in-Err.is c.new.ensures.many

pub returns-in-Err-clause-twice : goal.returns-in-Err-clause-twice
returns-in-Err-clause-twice c = same_fault c.new.result c.in-Err.fault DuplicateRoot _ c.in-Err.is c.new.ensures.twice
