use Rattle.std.proofs.Common.{◌≡◌, drop, map}
use Rattle.core_model.specs.Names.{first_of}
use Rattle.module_language.specs.ModuleLanguage.{binding_to}
use Rattle.client_plan.specs.Unlinked.{unlinked_among}
use Rattle.client_plan.proofs.linking.unlinked_names.Given as goal

-- those before are exported
abbrev pub invariant-loop-name : goal.invariant-loop-name
invariant-loop-name l = first_of (unlinked_among l.plan l.view l.base (map (binding_to l.dependency) (drop l.name-index l.names))) ≡ first_of (unlinked_among l.plan l.view l.base (map (binding_to l.dependency) l.names))
