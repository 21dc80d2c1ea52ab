use Rattle.std.proofs.Common.{length, subst}
use Rattle.std.proofs.lemmas.Result.{err_from_is_err_and}
use Rattle.module_semantics.specs.Lexing.{lexing}
use Rattle.module_semantics.specs.Pieces.{IsLexing}
use Rattle.module_semantics.proofs.LexedPieces.{was_lexed}
use Rattle.hot_lexer.specs.Order.{AreBetween}
use Rattle.hot_lexer.specs.Stop.{Stops}
use Rattle.hot_lexer.specs.Token.{lexemes_of}
use Rattle.hot_lexer.proofs.Outcomes.{first_fault, memory_at_zero}
use Rattle.hot_lexer.proofs.Places.{in_order}
use Rattle.hot_lexer.proofs.lexer.lex.Goals as goal

pub returns-in_err-lex_bytes-clause-fault : goal.returns-in_err-lex_bytes-clause-fault
returns-in_err-lex_bytes-clause-fault c =
    let e = c.in_err-lex_bytes.field-0.0 in
    let told = err_from_is_err_and c.from_residual.result c.from_residual.ensures.1 in
    rw (told.1, told.2) (first_fault e c.args.text.now (subst (λ text. Stops e (lexing text)) (c.as_bytes.ensures).value c.in_err-lex_bytes.ensures))

pub returns-in_err-lex_bytes-clause-memory : goal.returns-in_err-lex_bytes-clause-memory
returns-in_err-lex_bytes-clause-memory c =
    let told = err_from_is_err_and c.from_residual.result c.from_residual.ensures.1 in
    rw (told.1, told.2) (memory_at_zero c.in_err-lex_bytes.field-0.0 c.as_bytes.result.now c.in_err-lex_bytes.ensures)

pub returns-clause-pieces : goal.returns-clause-pieces
returns-clause-pieces c =
    let ts = lexemes_of c.in_ok-lex_bytes.field-0.items in
    subst (λ text. IsLexing text ts) (c.as_bytes.ensures).value (was_lexed c.as_bytes.result.now ts c.in_ok-lex_bytes.ensures)

pub returns-clause-order : goal.returns-clause-order
returns-clause-order c =
    let ts = lexemes_of c.in_ok-lex_bytes.field-0.items in
    subst (λ text. AreBetween 0 (length text) ts) (c.as_bytes.ensures).value (in_order c.as_bytes.result.now ts c.in_ok-lex_bytes.ensures)
