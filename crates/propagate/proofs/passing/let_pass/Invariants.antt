use Rattle.std.proofs.Common.{◌≡◌, ◌++◌, drop}
use Rattle.std.specs.Prelude.{filter}
use Rattle.propagate.specs.Passing.{lets_pass}
use Rattle.propagate.proofs.passing.let_pass.Given as goal

abbrev pub invariant-loop-importer : goal.invariant-loop-importer
invariant-loop-importer l = l.names.items ++ filter (lets_pass l.view l.forced l.name) (drop l.importer-index l.importers) ≡ filter (lets_pass l.view l.forced l.name) l.importers
