-- What contracts see of the result of a transform.
use Rattle.std.specs.Prelude.{ℕ, List}
use Rattle.hmr_types.specs.declared.analysis.Outcome.{Outcome}

-- the module's name, the bytes of its text, and what is told of it
pub record Transform : Type 0 where
  pub name : List ℕ
  pub text : List ℕ
  pub outcome : Outcome
