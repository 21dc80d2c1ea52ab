-- What a page would load anew: the names that imports lead to from its roots, among what is served.
use Rattle.std.specs.Prelude.{◌≡◌, []}
use Rattle.std.specs.Prelude.{ℕ, Bool, not, List, filter, map, flat_map, Option, Some, None, is_some}
use Rattle.core_model.specs.Names.{Name, same_name, has, at, collect, sorted}
use Rattle.core_model.specs.Rounds.{reached_of}
use Rattle.core_model.specs.Sources.{Text, Serving}

-- what is served, by name
abbrev pub Served : Type 0
Served = List (Name × Serving)

-- what a served source imports
abbrev pub imports_in : Option Serving → List Name
imports_in None = []
imports_in (Some s) = s.analysis.imports

-- the served source of n imports m
abbrev pub imports : Served → Name → Name → Bool
imports served n m = has (imports_in (at served n)) m

-- all names that served sources import
abbrev pub imported_by_served : Served → List Name
imported_by_served served = flat_map (λ row. row.1.analysis.imports) served

-- the names that lists of imports reach from the roots, each once, rising by bytes
abbrev pub reached_by : Served → List Name → List Name
reached_by served roots = sorted (reached_of (imports served) (imported_by_served served) roots)

-- the version that is served
abbrev pub version_in : Option Serving → Option ℕ
version_in None = None
version_in (Some s) = Some s.version

-- the reached names that are served, with their versions
abbrev pub fresh_table : Served → List Name → List (Name × ℕ)
fresh_table served roots = collect (λ n. version_in (at served n)) (reached_by served roots)

-- the reached names that aren't served
abbrev pub missing_of : Served → List Name → List Name
missing_of served roots = filter (λ n. not (is_some (at served n))) (reached_by served roots)

-- the names that a text imports from a dependency
abbrev pub linked_from : List (Name × Name) → Name → List Name
linked_from links m = map (λ link. link.1) (filter (λ link. same_name link.0 m) links)

-- the imports of n from a served m that m doesn't export
abbrev pub unlinked_edge : List (Name × Name) → Option Serving → Name → Name → List (Name × Name × Name)
unlinked_edge links None n m = []
unlinked_edge links (Some s) n m =
    map (λ x. (n, m, x)) (sorted (filter (λ x. not (has s.analysis.exports x)) (linked_from links m)))

-- the imports of n from served modules that they don't export
abbrev pub unlinked_module : (Name → Text → List (Name × Name)) → Served → Name → Option Serving →
    List (Name × Name × Name)
unlinked_module links served n None = []
unlinked_module links served n (Some s) =
    flat_map (λ m. unlinked_edge (links n s.text) (at served m) n m) (sorted s.analysis.imports)

-- n, m and x for each reached n that imports x from a served m that doesn't export it, rising
abbrev pub unlinked_of : (Name → Text → List (Name × Name)) → Served → List Name → List (Name × Name × Name)
unlinked_of links served roots =
    flat_map (λ n. unlinked_module links served n (at served n)) (reached_by served roots)

-- a page load of what is served
pub record FreshLoad : Type 0 where
  pub table : List (Name × ℕ)
  pub missing : List Name
  pub unlinked : List (Name × Name × Name)

-- The fresh load. What a text imports from which dependency only its tree tells: links gives for a
-- module's name and text each dependency with the name that is imported from it, in the text's order.
abbrev pub fresh_load : (Name → Text → List (Name × Name)) → Served → List Name → FreshLoad
fresh_load links served roots = record {
  table = fresh_table served roots;
  missing = missing_of served roots;
  unlinked = unlinked_of links served roots;
}

-- everything reached is served, and every import is exported
pub record IsWhole (fresh : FreshLoad) : Type 0 where
  pub served : fresh.missing ≡ []
  pub linked : fresh.unlinked ≡ []
