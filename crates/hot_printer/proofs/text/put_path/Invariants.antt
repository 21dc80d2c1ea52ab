use Rattle.std.proofs.Common.{◌≡◌, ◌++◌, drop}
use Rattle.hmr_types.specs.Event.{colon, with_mark}
use Rattle.hmr_types.specs.ModName.{slash}
use Rattle.module_semantics.specs.Canon.{all_escaped}
use Rattle.hot_printer.proofs.text.put_path.Given as goal

-- what is written, and the text of what is left, is the whole
abbrev pub invariant-loop-byte : goal.invariant-loop-byte
invariant-loop-byte l = l.out.items ++ all_escaped (with_mark slash colon (drop l.byte-index l.path)) ≡ l.initial.out.items ++ all_escaped (with_mark slash colon l.path)
