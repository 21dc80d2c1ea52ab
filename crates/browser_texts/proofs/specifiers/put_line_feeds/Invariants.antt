use Rattle.std.proofs.Common.{◌≡◌, ◌++◌, drop}
use Rattle.std.specs.Prelude.{filter}
use Rattle.text_splices.specs.Places.{ends_line}
use Rattle.browser_texts.proofs.specifiers.put_line_feeds.Given as goal

abbrev pub invariant-loop-i : goal.invariant-loop-i
invariant-loop-i l = l.by.items ++ filter ends_line (drop l.i l.bytes) ≡ l.fn.by.items ++ filter ends_line l.bytes
