use Rattle.std.proofs.Common.{◌≡◌, ◌++◌, drop}
use Rattle.std.specs.Prelude.{flat_map}
use Rattle.propagate.specs.Pairs.{told}
use Rattle.propagate.proofs.pairs.all_told.Given as goal

abbrev pub invariant-loop-name : goal.invariant-loop-name
invariant-loop-name l = l.pairs.items ++ flat_map (told l.view l.replaced l.forced) (drop l.name-index l.names) ≡ flat_map (told l.view l.replaced l.forced) l.names
