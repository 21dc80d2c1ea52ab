use Rattle.std.proofs.Common.{◌≡◌, ◌++◌, length}
use Rattle.std.specs.Vec.Iter.{into_iter_items, into_iter_len}
use Rattle.module_semantics.specs.Lines.{line_tokens, line_tokens_from}
use Rattle.hot_lexer.specs.Order.{AreBetween}
use Rattle.hot_lexer.specs.Token.{lexemes_of}
use Rattle.token_lines.proofs.line_token.line_tokens_of.Given as goal

-- the tokens so far, and then those that are left, are all of them
abbrev pub invariant-loop-token : goal.invariant-loop-token
invariant-loop-token l = record {
  going : l.made.items ++ line_tokens_from l.text l.end (lexemes_of (into_iter_items l.rest)) ≡ line_tokens l.text (lexemes_of l.fn.tokens.items);
  count : into_iter_len l.rest ≡ length (into_iter_items l.rest);
  order : AreBetween l.end (length l.text) (lexemes_of (into_iter_items l.rest));
}

abbrev pub decreases-loop-token : goal.decreases-loop-token
decreases-loop-token l = into_iter_len l.rest
