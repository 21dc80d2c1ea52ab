use Rattle.std.proofs.Common.{◌≡◌, map, take}
use Rattle.text_commands.proofs.report.words_of_names.Given as goal

-- the words so far are those of the names so far
abbrev pub invariant-loop-name : goal.invariant-loop-name
invariant-loop-name l = map (λ w. w.now) l.words.items ≡ take l.name-index l.names
