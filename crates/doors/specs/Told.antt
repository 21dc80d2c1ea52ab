-- What is told of bytes that were written.
use Rattle.std.specs.Prelude.{◌≡◌, ℕ, List, ◌++◌, Option}
use Rattle.transport.specs.Told.{told_and}

-- a front of the text was written, and nothing else
pub record TellsFront (old new : Option (List ℕ)) (text : List ℕ) : Type 0 where
  pub front : List ℕ
  pub rest : List ℕ
  pub whole : front ++ rest ≡ text
  pub new_is : new ≡ told_and old front
