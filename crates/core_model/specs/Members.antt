-- What the computed lists of names are of: missing and unlinked modules of a fresh load, and what a plan
-- still has to fetch.
use Rattle.std.specs.Prelude.{◌≡◌, ℕ, List, None, Some, Contains}
use Prim.{⊥}
use Rattle.core_model.specs.Names.{Name, at}
use Rattle.core_model.specs.Paths.{Reaches}
use Rattle.core_model.specs.Sources.{Text, Serving}
use Rattle.core_model.specs.FreshLoad.{Served, imports, version_in}
use Rattle.core_model.specs.View.{View}
use Rattle.core_model.specs.Page.{Plan, plan_imports, entry_at}

-- imports of served sources reach n, which isn't served
pub record IsMissing (served : Served) (roots : List Name) (n : Name) : Type 0 where
  pub reached : Reaches (imports served) roots n
  pub unserved : at served n ≡ None

-- n is reached, and its served text imports x from m, which is served and doesn't export x
pub record IsUnlinked (links : Name → Text → List (Name × Name)) (served : Served) (roots : List Name)
    (n m x : Name) : Type 0 where
  pub importer : Serving
  pub dependency : Serving
  pub reached : Reaches (imports served) roots n
  pub of_importer : at served n ≡ Some importer
  pub imported : Contains importer.analysis.imports m
  pub linked : Contains (links n importer.text) (m, x)
  pub of_dependency : at served m ≡ Some dependency
  pub unexported : Contains dependency.analysis.exports x → ⊥

-- the plan's walk meets n, which has no entry in the plan
pub record IsUnfetched (roots : List Name) (p : Plan) (view : View) (n : Name) : Type 0 where
  pub met : Reaches (plan_imports p view) roots n
  pub without : entry_at p view n ≡ None

-- imports of served sources reach n, and v is served of it
pub record IsLoaded (served : Served) (roots : List Name) (n : Name) (v : ℕ) : Type 0 where
  pub reached : Reaches (imports served) roots n
  pub version : version_in (at served n) ≡ Some v
