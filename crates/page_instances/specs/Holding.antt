-- A handler is registered with an instance.
use Rattle.std.specs.Prelude.{List, [], ◌∷◌, ◌++◌}
use Rattle.hmr_types.specs.declared.words.HandlerKind.{HandlerKind}
use Rattle.output_lines.specs.declared.words.HandlerEnd.TheVariants.{Held}
use Rattle.core_model.specs.Names.{Name}
use Rattle.client_model.specs.Instance as model
use Rattle.client_model.specs.Instance.{Deed, with_dropped}
use Rattle.client_model.specs.Making.{is_displaced_by}

-- a handler that is held
abbrev pub held_handler : HandlerKind → List Name → Deed → model.Handler
held_handler k deps deed = record { kind = k; deps = deps; deed = deed; end = Held }

-- the instance with one handler more, and with what that displaces dropped
abbrev pub with_held : HandlerKind → List Name → Deed → model.Instance → model.Instance
with_held k deps deed i =
    record i { handlers = with_dropped (is_displaced_by k) i.handlers ++ held_handler k deps deed ∷ [] }
