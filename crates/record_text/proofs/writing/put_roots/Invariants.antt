use Rattle.std.proofs.Common.{◌≡◌, ◌++◌, drop}
use Rattle.record_text.specs.Texts.{roots_text}
use Rattle.record_text.proofs.writing.put_roots.Given as goal

-- what is written, and the lines of the roots that are left, is the whole
abbrev pub invariant-loop-root : goal.invariant-loop-root
invariant-loop-root l = l.out.items ++ roots_text (drop l.root-index l.roots) ≡ l.initial.out.items ++ roots_text l.roots
