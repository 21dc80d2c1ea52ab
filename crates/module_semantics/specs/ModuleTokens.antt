-- Which tokens are a module, and the first token at which others leave the grammar.
use Rattle.std.specs.Prelude.{◌≡◌, ℕ, ◌≤◌, List, [], ◌∷◌, ◌++◌, length, Some, suc, ◌<◌}
use Rattle.module_semantics.specs.Token.{LineToken}
use Rattle.module_semantics.specs.Raw.{RawItem}
use Rattle.module_semantics.specs.Grammar.{ModuleD, module_spelt, module_raw, module_depth}

-- some derivation, of any depth, is spelled by exactly these tokens
pub record IsModule (ts : List LineToken) : Type 0 where
  pub by : ModuleD
  pub spelt : module_spelt by ts ≡ Some []

-- some derivation of at most this depth is spelled by exactly these tokens, and says these items
pub record Says (most : ℕ) (ts : List LineToken) (items : List RawItem) : Type 0 where
  pub by : ModuleD
  pub spelt : module_spelt by ts ≡ Some []
  pub says : module_raw by ≡ items
  pub shallow : module_depth by ≤ most

-- some module begins with these tokens
pub record Continues (ts : List LineToken) : Type 0 where
  pub more : List LineToken
  pub whole : IsModule (ts ++ more)

-- no module goes on with the next token, and what stands before the end is no module
abbrev pub Stops : List LineToken → List LineToken → Type 0
Stops before [] = ¬ (IsModule before)
Stops before (t ∷ after) = ¬ (Continues (before ++ (t ∷ [])))

-- n tokens are left at the first token after which no module continues the tokens up to it, or at the end
pub record FirstUnexpected (ts : List LineToken) (n : ℕ) : Type 0 where
  pub before : List LineToken
  pub after : List LineToken
  pub split : ts ≡ before ++ after
  pub left : length after ≡ n
  pub begins : Continues before
  pub stops : Stops before after

-- n tokens are left at a token up to which the tokens begin a module, but each module that begins so is
-- deeper than this
pub record TooDeepAt (most : ℕ) (ts : List LineToken) (n : ℕ) : Type 0 where
  pub before : List LineToken
  pub at : LineToken
  pub after : List LineToken
  pub split : ts ≡ before ++ (at ∷ after)
  pub left : suc (length after) ≡ n
  pub begins : Continues (before ++ (at ∷ []))
  pub deep : (d : ModuleD) (more : List LineToken) →
      module_spelt d (before ++ (at ∷ more)) ≡ Some [] → most < module_depth d
