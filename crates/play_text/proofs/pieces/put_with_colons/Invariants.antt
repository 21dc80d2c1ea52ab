use Rattle.std.proofs.Common.{◌≡◌, ◌++◌, drop}
use Rattle.hmr_types.specs.Event.{colon, with_mark}
use Rattle.hmr_types.specs.ModName.{slash}
use Rattle.play_text.proofs.pieces.put_with_colons.Given as goal

-- what is written, and the marks of what is left, is the whole
abbrev pub invariant-loop-byte : goal.invariant-loop-byte
invariant-loop-byte l = l.out.items ++ with_mark slash colon (drop l.byte-index l.path) ≡ l.initial.out.items ++ with_mark slash colon l.path
