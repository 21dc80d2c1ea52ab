-- What is known of a client's closures.
use Rattle.std.specs.Prelude.{List, All}
use Rattle.handler_table.specs.Held.{Answers, Closure, IsHost}

-- its closures may be called, and answer what is stated for them
pub record IsReady {F : Type 0} (answers : Answers F) (callable : Type 0)
    (shelf : List (Closure F)) : Type 0 where
  pub hosts : All (IsHost answers) shelf
  pub call : callable
