use Rattle.module_semantics.proofs.PiecesLex.{is_lexed}
use Rattle.module_semantics.proofs.LexedPieces.{was_lexed, one_lexing}
use Rattle.module_semantics.proofs.tokens.lexing_is_the_pieces.Goals as goal

pub returns-clause-same : goal.returns-clause-same
returns-clause-same c = λ bytes ts. (was_lexed bytes ts, is_lexed bytes ts)

pub returns-clause-one : goal.returns-clause-one
returns-clause-one c = one_lexing
