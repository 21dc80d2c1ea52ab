use Rattle.std.proofs.Common.{sym}
use Rattle.hot_lexer.proofs.LexTurns.{name_front}
use Rattle.hot_lexer.proofs.piece.read_piece.Goals as goal

pub returns-then-is_name_start-clause-exact : goal.returns-then-is_name_start-clause-exact
returns-then-is_name_start-clause-exact c = name_front c.args.at c.args.first c.args.rest.now c.read_name-name.result.now c.requires.part (sym (c.if-is_name_start.ensures).exact) c.read_name-name.ensures
