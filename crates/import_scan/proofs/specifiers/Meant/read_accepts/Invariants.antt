use Rattle.std.proofs.Common.{◌≡◌, drop}
use Rattle.import_scan.specs.Scanning.{meant_of, with_accepts}
use Rattle.import_scan.proofs.specifiers.Meant.read_accepts.Given as goal

-- what is left, from here, means what all of it means from the beginning
abbrev pub invariant-loop-spec : goal.invariant-loop-spec
invariant-loop-spec l = with_accepts l.base (meant_of l.self) (drop l.spec-index l.specs) ≡ with_accepts l.base (meant_of l.initial.self) l.specs
