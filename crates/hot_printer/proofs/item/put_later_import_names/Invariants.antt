use Rattle.std.proofs.Common.{◌≡◌, ◌++◌, drop, map}
use Rattle.module_semantics.specs.Canon.{comma_then, import_name_text}
use Rattle.hot_printer.proofs.item.put_later_import_names.Given as goal

-- what is written, and the text of what is left, is the whole
abbrev pub invariant-loop-name : goal.invariant-loop-name
invariant-loop-name l =
    l.out.items ++ comma_then (map import_name_text (drop l.name-index l.names)) ≡ l.initial.out.items ++ comma_then (map import_name_text l.names)
