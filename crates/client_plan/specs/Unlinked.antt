-- The imports of new instances that aren't exported, over the trees of texts.
use Rattle.std.specs.Prelude.{List, [], map, filter, flat_map, Option, Some, None}
use Rattle.module_tree.specs.Tree.{module_of}
use Rattle.module_tree.specs.declared.tree.Module.{Module}
use Rattle.core_model.specs.Names.{Name, at}
use Rattle.core_model.specs.Page.{Plan}
use Rattle.core_model.specs.View.{View}
use Rattle.client_model.specs.Language.{Binding}
use Rattle.client_model.specs.Linking.{is_unlinked}
use Rattle.client_model.specs.Runtime.{Cause, unlinked}
use Rattle.module_language.specs.ModuleLanguage.{bound_in}

-- what a module of this name imports, nothing where no text was fetched
abbrev pub bound_of : Name → Option Module → List Binding
bound_of n None = []
bound_of n (Some tree) = bound_in n (module_of tree)

-- the causes that imports of a module of this name give
abbrev pub unlinked_among : Plan → View → Name → List Binding → List Cause
unlinked_among p view n bindings =
    map (λ b. unlinked n b.dependency b.exported) (filter (is_unlinked p view) bindings)

-- the causes that the imports of these modules give, in order
abbrev pub unlinked_by : Plan → View → List (Name × Module) → List Name → List Cause
unlinked_by p view trees names = flat_map (λ n. unlinked_among p view n (bound_of n (at trees n))) names
