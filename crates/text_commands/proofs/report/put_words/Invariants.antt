use Rattle.std.proofs.Common.{◌≡◌, ◌++◌, drop, map}
use Rattle.play_script.specs.Texts.{names_text}
use Rattle.text_commands.proofs.report.put_words.Given as goal

-- what is written, and the text of the words that are left, is the whole
abbrev pub invariant-loop-word : goal.invariant-loop-word
invariant-loop-word l =
    l.out.items ++ names_text (map (λ w. w.now) (drop l.word-index l.words))
    ≡ l.initial.out.items ++ names_text (map (λ w. w.now) l.words)
