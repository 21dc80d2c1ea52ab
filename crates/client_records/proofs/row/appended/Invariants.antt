use Rattle.std.proofs.Common.{◌≡◌, ◌++◌, take}
use Rattle.client_records.proofs.row.appended.Given as goal

abbrev pub invariant-loop-name : goal.invariant-loop-name
invariant-loop-name l = l.all.items ≡ l.fn.names.items ++ take l.name-index l.more
