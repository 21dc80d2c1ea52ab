use Rattle.std.proofs.Common.{◌≡◌, [], drop}
use Rattle.import_scan.proofs.Firsts.{all_among}
use Rattle.import_scan.proofs.analysis.among.Given as goal

-- what is left, put behind what was found, is all of it
abbrev pub invariant-loop-name : goal.invariant-loop-name
invariant-loop-name l = all_among l.others l.found.items (drop l.name-index l.names) ≡ all_among l.others [] l.names
