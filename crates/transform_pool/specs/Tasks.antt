-- What contracts see of a job, and its result.
use Rattle.std.specs.Prelude.{ℕ, List}

-- a text of a module of this name, under the version of its edit
pub record Task : Type 0 where
  pub name : List ℕ
  pub text : List ℕ
  pub ver : ℕ
