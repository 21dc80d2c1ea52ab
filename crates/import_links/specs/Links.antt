-- Which names a module imports from which dependency.
use Rattle.std.specs.Prelude.{ℕ, List, [], flat_map, map, Result, Ok, Err}
use Rattle.module_tree.specs.Syntax as tree
use Rattle.module_tree.specs.Syntax.{ItemTree, ModuleTree}
use Rattle.hmr_types.specs.Specifier.{resolve}
use Rattle.hmr_types.specs.declared.specifier.SpecFault.{SpecFault}
use Rattle.hmr_types.specs.declared.analysis.TextFault.{TextFault}
use Rattle.module_tree.specs.declared.tree.ImportName.{ImportName}
use Rattle.module_semantics.specs.ModuleText.{parsing}

-- the dependency with each of the names
abbrev pub with_names : List ℕ → List ImportName → List (List ℕ × List ℕ)
with_names dependency names = map (λ n. (dependency, n.exported)) names

-- the dependency with each of the names, where the specifier means one
abbrev pub linked : Result (List ℕ) SpecFault → List ImportName → List (List ℕ × List ℕ)
linked (Ok dependency) names = with_names dependency names
linked (Err fault) names = []

-- what an item imports
abbrev pub linked_by : List ℕ → ItemTree → List (List ℕ × List ℕ)
linked_by base (tree.import spec names) = linked (resolve base spec) names
linked_by base (tree.declare exported mutable n e) = []
linked_by base (tree.act a) = []
linked_by base (tree.own what) = []
linked_by base (tree.deps list specs code) = []
linked_by base (tree.dispose what) = []
linked_by base (tree.prune what) = []
linked_by base tree.decline = []

-- what a module of this name imports: each dependency with a name of it, in order
abbrev pub links_of : List ℕ → ModuleTree → List (List ℕ × List ℕ)
links_of base m = flat_map (linked_by base) m

-- none where the text is no module
abbrev pub links_in : List ℕ → Result ModuleTree TextFault → List (List ℕ × List ℕ)
links_in base (Ok m) = links_of base m
links_in base (Err fault) = []

-- what the text of a module of this name imports
abbrev pub links : List ℕ → List ℕ → List (List ℕ × List ℕ)
links base text = links_in base (parsing text)
