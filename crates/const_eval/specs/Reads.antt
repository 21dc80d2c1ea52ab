-- What the scope of the code stands for.
use Rattle.std.specs.Prelude.{◌++◌}
use Rattle.const_eval.specs.declared.scope.Scope as code
use Rattle.module_semantics.specs.Scope.{Scope}
use Rattle.const_eval.specs.Places.{variables}

-- the module's own variables stand before its imports
abbrev pub scope_of : code.Scope → Scope
scope_of s =
    record { vars = variables s.vars.now s.given.now ++ s.imports.now; mods = s.mods.now; bag = s.bag.now }
