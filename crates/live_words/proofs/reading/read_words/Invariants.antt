use Rattle.live_words.specs.Words.{Fits}
use Rattle.live_words.proofs.reading.read_words.Given as goal

-- what came so far fits
abbrev pub invariant-loop-word : goal.invariant-loop-word
invariant-loop-word l = Fits l.came
