-- The word of a cause for which a plan was given up.
use Rattle.std.specs.Prelude.{ℕ, List, codes}
use Rattle.update_msgs.specs.declared.message.AbortCause.{AbortCause}
use Rattle.update_msgs.specs.declared.message.AbortCause.TheVariants.{Missing, Broken, Link}

abbrev pub abort_word : AbortCause → List ℕ
abort_word Missing = codes "missing"
abort_word Broken = codes "broken"
abort_word Link = codes "link"
