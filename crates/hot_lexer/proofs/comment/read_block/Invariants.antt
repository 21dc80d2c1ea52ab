use Rattle.std.proofs.Common.{◌≡◌, ◌≤◌, ◌-◌, drop, length, suc}
use Rattle.module_semantics.specs.Lexing.{comment_from}
use Rattle.hot_lexer.proofs.comment.read_block.Given as goal

abbrev pub invariant-loop-before : goal.invariant-loop-before
invariant-loop-before l = record {
  same : comment_from l.at (suc (suc l.start)) (drop l.start l.rest) ≡ comment_from l.at 2 l.rest;
  within : l.start ≤ length l.rest;
}

abbrev pub decreases-loop-before : goal.decreases-loop-before
decreases-loop-before l = length l.rest - l.start
