use Rattle.std.proofs.Common.{◌≤◌, ◌-◌, length}
use Rattle.hot_lexer.specs.Token.{lexemes_of}
use Rattle.hot_lexer.proofs.LexTurns.{Going}
use Rattle.hot_lexer.proofs.lexer.lex_bytes.Given as goal

abbrev pub invariant-loop-at : goal.invariant-loop-at
invariant-loop-at l = record {
  going : Going l.at l.last (lexemes_of l.tokens.items) l.bytes;
  within : l.at ≤ length l.bytes;
}

abbrev pub decreases-loop-at : goal.decreases-loop-at
decreases-loop-at l = length l.bytes - l.at
