-- A module as it is served: each import names the version that is served of what it imports.
use Rattle.std.specs.Prelude.{ℕ, ◌<◌, ◌^◌, List, ◌++◌, map, codes, decimal, IfSome, Option, Some, None, Result, Ok, Err, if◌then◌else◌}
use Rattle.module_tree.specs.Syntax as tree
use Rattle.module_tree.specs.Syntax.{ItemTree, ModuleTree}
use Rattle.hmr_types.specs.Specifier.{resolve}
use Rattle.hmr_types.specs.ModName.{is_name}
use Rattle.hmr_types.specs.declared.specifier.SpecFault.{SpecFault}
use Rattle.hmr_types.specs.declared.analysis.TextFault.{TextFault}
use Rattle.core_model.specs.Names.{at}
use Rattle.core_model.specs.Sources.{Serving, Sources}
use Rattle.module_semantics.specs.Canon.{canon}
use Rattle.module_semantics.specs.ModuleText.{parsing}

-- a name, and the version that is served of it
abbrev pub with_version : List ℕ → Option Serving → List ℕ
with_version name None = name
with_version name (Some s) = name ++ (codes "?v=" ++ decimal s.version)

-- what stands for a specifier: the name that it means, with its version
abbrev pub versioned : Sources → List ℕ → Result (List ℕ) SpecFault → List ℕ
versioned map spec (Ok name) = with_version name (at map.served name)
versioned map spec (Err fault) = spec

-- an item: an import by what stands for its specifier, and every other as it is
abbrev pub rewrite_item : List ℕ → Sources → ItemTree → ItemTree
rewrite_item base map (tree.import spec names) = tree.import (versioned map spec (resolve base spec)) names
rewrite_item base map (tree.declare exported mutable n e) = tree.declare exported mutable n e
rewrite_item base map (tree.act s) = tree.act s
rewrite_item base map (tree.own o) = tree.own o
rewrite_item base map (tree.deps list specs call) = tree.deps list specs call
rewrite_item base map (tree.dispose o) = tree.dispose o
rewrite_item base map (tree.prune o) = tree.prune o
rewrite_item base map tree.decline = tree.decline

-- the module of this name, rewritten
abbrev pub rewrite : List ℕ → ModuleTree → Sources → ModuleTree
rewrite base m sources = map (rewrite_item base sources) m

-- the canonical text of the rewritten module, of a text that reads as one
abbrev pub rewritten_text : List ℕ → Sources → Result ModuleTree TextFault → Option (List ℕ)
rewritten_text base map (Ok m) = Some (canon (rewrite base m map))
rewritten_text base map (Err fault) = None

-- the same of what is served
abbrev pub served_text : List ℕ → Sources → Option Serving → Option (List ℕ)
served_text name map None = None
served_text name map (Some s) = rewritten_text name map (parsing s.text)

-- the body under bytes, which are to be a name that is served
abbrev pub body_of : Sources → List ℕ → Option (List ℕ)
body_of map bytes = if is_name bytes then served_text bytes map (at map.served bytes) else None

-- each version that is served is a 64-bit number, as those of a version map are
abbrev pub HasVersions : Sources → Type 0
HasVersions map = (name : List ℕ) → IfSome (at map.served name) (λ s. s.version < 2 ^ 64)
