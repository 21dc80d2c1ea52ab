use Rattle.std.proofs.Common.{◌≡◌, drop}
use Rattle.es_scan.specs.StringLiteral.{end_from, literal_at}
use Rattle.es_scan.proofs.string_literal.string_end.Given as goal

abbrev pub invariant-loop-i : goal.invariant-loop-i
invariant-loop-i l = end_from l.i l.quote l.inside (drop l.i l.text) ≡ literal_at l.text l.at
