use Rattle.std.proofs.Common.{◌≡◌, drop}
use Rattle.module_semantics.specs.Entries.{entry_at}
use Rattle.retained_data.proofs.entries.entry_at.Given as goal

-- what is left has the same first entry of that name
abbrev pub invariant-loop-key : goal.invariant-loop-key
invariant-loop-key g l = entry_at l.name (drop l.key-index l.entries) ≡ entry_at l.fn.name l.fn.entries
