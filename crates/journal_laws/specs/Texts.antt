-- What the law on fresh values asks of the texts of the module language.
use Rattle.std.specs.Prelude.{◌≡◌, true, Some, is_some, Ok}
use Rattle.module_tree.specs.Syntax.{ModuleTree}
use Rattle.module_semantics.specs.ModuleText.{parsing}
use Rattle.module_language.specs.Bagless.{is_bagless_module}
use Rattle.core_model.specs.Names.{Name, at}
use Rattle.core_model.specs.Sources.{Serving}
use Rattle.core_model.specs.FreshLoad.{Served}
use Rattle.client_model.specs.Instance.{live_at}
use Rattle.client_model.specs.Runtime.{Runtime}

-- each text that is served uses `data` in handlers alone
abbrev pub UseDataInHandlersAlone : Served → Type 0
UseDataInHandlersAlone served =
    (n : Name) (s : Serving) (m : ModuleTree) → at served n ≡ Some s → parsing s.text ≡ Ok m →
    is_bagless_module m ≡ true

-- each text that is served of a module that is live in a client does
abbrev pub UseLiveDataInHandlersAlone : Served → Runtime → Type 0
UseLiveDataInHandlersAlone served r =
    (n : Name) (s : Serving) (m : ModuleTree) →
    is_some (live_at r.instances n) ≡ true → at served n ≡ Some s → parsing s.text ≡ Ok m →
    is_bagless_module m ≡ true
