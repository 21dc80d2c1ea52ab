-- Texts of a small language whose bindings are from their imports.
use Rattle.std.specs.Prelude.{Bool}
use Rattle.std.specs.List.{list_all}
use Rattle.core_model.specs.Names.{has}
use Rattle.world_model.specs.SmallLanguage.{Module, Texts}

-- each binding is from one of the module's imports
abbrev pub binds_imports : Module → Bool
binds_imports m = list_all (λ b. has m.analysis.imports b.dependency) m.bindings

-- the same of each module that a text stands for
abbrev pub all_bind_imports : Texts → Bool
all_bind_imports texts = list_all (λ row. binds_imports row.1) texts
