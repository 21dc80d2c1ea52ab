use Rattle.std.proofs.Common.{◌≡◌, ◌++◌, drop}
use Rattle.play_script.specs.Texts.{names_text}
use Rattle.record_text.proofs.pieces.put_names.Given as goal

-- what is written, and the text of the names that are left, is the whole
abbrev pub invariant-loop-name : goal.invariant-loop-name
invariant-loop-name l = l.out.items ++ names_text (drop l.name-index l.names) ≡ l.initial.out.items ++ names_text l.names
