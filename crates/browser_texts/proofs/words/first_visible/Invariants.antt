use Rattle.std.proofs.Common.{◌≡◌, drop}
use Rattle.browser_texts.specs.Words.{first_visible}
use Rattle.browser_texts.proofs.words.first_visible.Given as goal

abbrev pub invariant-loop-i : goal.invariant-loop-i
invariant-loop-i l = first_visible (drop l.i l.text) ≡ first_visible l.text
