use Rattle.std.proofs.Common.{◌≡◌, ◌≤◌, drop, suc}
use Rattle.hmr_types.specs.declared.limits.TheConstants.{LARGEST_NUMBER}
use Rattle.module_semantics.specs.Lexing.{number_from}
use Rattle.hot_lexer.proofs.number.read_digits.Given as goal

abbrev pub invariant-loop-i : goal.invariant-loop-i
invariant-loop-i l = record {
  same : number_from l.at l.value (suc l.i) (drop l.i l.rest) ≡ number_from l.at l.first 1 l.rest;
  small : l.value ≤ LARGEST_NUMBER;
}
