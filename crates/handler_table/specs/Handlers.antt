-- What an instance holds.
use Rattle.std.specs.Prelude.{List, Option, IfSome}
use Rattle.std.specs.List.{All}
use Rattle.handler_table.specs.Held.{Answers}
use Rattle.handler_table.specs.Handler.{KeepsItsWord}
use Rattle.handler_table.specs.declared.dep.Dep.{Dep}
use Rattle.handler_table.specs.declared.handler.Handler.{Handler}

-- the disposer, the prune handler, the callbacks on the module itself and those on its dependencies,
-- both in the order of registration
pub record Holdings (F : Type 0) : Type 0 where
  pub dispose : Option (Handler F)
  pub prune : Option (Handler F)
  pub own : List (Handler F)
  pub deps : List Dep

-- each closure among the handlers answers what is stated for it
pub record KeepTheirWord {F : Type 0} (answers : Answers F) (held : Holdings F) : Type 0 where
  pub dispose : IfSome held.dispose (KeepsItsWord answers)
  pub prune : IfSome held.prune (KeepsItsWord answers)
  pub own : All (KeepsItsWord answers) held.own
