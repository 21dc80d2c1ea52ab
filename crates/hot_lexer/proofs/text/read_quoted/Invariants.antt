use Rattle.std.proofs.Common.{◌≡◌, ◌≤◌, ◌-◌, ◌++◌, drop, length, [], false}
use Rattle.std.specs.Str.{IsUtf8}
use Rattle.module_semantics.specs.Lexing.{text_from}
use Rattle.hot_lexer.proofs.text.read_quoted.Given as goal

abbrev pub invariant-loop-plain : goal.invariant-loop-plain
invariant-loop-plain l = record {
  same : text_from l.at l.quote l.out.items l.start false (drop l.start l.rest) ≡ text_from l.at l.quote [] 0 false l.rest;
  utf8 : IsUtf8 (l.out.items ++ drop l.start l.rest);
  within : l.start ≤ length l.rest;
}

abbrev pub decreases-loop-plain : goal.decreases-loop-plain
decreases-loop-plain l = length l.rest - l.start
