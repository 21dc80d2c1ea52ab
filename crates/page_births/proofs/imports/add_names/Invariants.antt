use Rattle.std.proofs.Common.{◌≡◌, ◌++◌, drop, map}
use Rattle.module_language.specs.ModuleLanguage.{binding_to}
use Rattle.page_instances.specs.Seeing.{binding_of}
use Rattle.page_births.proofs.imports.add_names.Given as goal

abbrev pub invariant-loop-name : goal.invariant-loop-name
invariant-loop-name l = map binding_of l.bounds.items ++ map (binding_to l.dependency) (drop l.name-index l.names) ≡ map binding_of l.fn.bounds.items ++ map (binding_to l.dependency) l.names
