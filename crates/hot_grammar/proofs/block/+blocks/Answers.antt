use Rattle.std.proofs.Common.{rules, arith, ◌≡◌, ◌++◌, ◌∷◌, [], ◌-◌, ◌+◌, map, false, true, ap, ◌∙◌}
use Rattle.std.proofs.lemmas.List.{map-append}
use Rattle.std.proofs.lemmas.Result.{err_from_is_err_and}
use Rattle.module_semantics.specs.Readers.{next_in}
use Rattle.module_semantics.specs.Reading.{inner, stmt, stmt_firsts}
use Rattle.raw_trees.specs.Raw.{raw_stmt_of}
use Rattle.hot_grammar.proofs.Repeats.{turned, failed, stopped, spent}
use Rattle.hot_grammar.proofs.block.+blocks.Goals as goal

pub read_stmts-returns-then-not-next_in : goal.read_stmts-returns-then-not-next_in
read_stmts-returns-then-not-next_in t c =
    let l = c.loop-turn in
    let stop : next_in stmt_firsts l.tokens ≡ false = search rules in
    stopped stmt_firsts (stmt (inner c.args.depth)) (c.len-turn-end.result - l.turn) l.tokens (map raw_stmt_of l.stmts.items) _ stop l.invariant

pub read_stmts-returns-in_err-read_stmt : goal.read_stmts-returns-in_err-read_stmt
read_stmts-returns-in_err-read_stmt t c =
    let l = c.loop-turn in
    let go : next_in stmt_firsts l.tokens ≡ true = search rules in
    let told = err_from_is_err_and c.from_residual.result c.from_residual.ensures.1 in
    rw (told.1, told.2) (failed stmt_firsts (stmt (inner c.args.depth)) (c.len-turn-end.result - l.turn) (c.len-turn-end.result - (l.turn + 1)) l.tokens (map raw_stmt_of l.stmts.items) _ c.in_err-read_stmt.field-0.0
    (omega (arith, c.loop-turn-test.true)) go c.in_err-read_stmt.ensures l.invariant)

pub read_stmts-loop-turn-preserved : goal.read_stmts-loop-turn-preserved
read_stmts-loop-turn-preserved t c =
    let l = c.loop-turn in
    let go : next_in stmt_firsts l.tokens ≡ true = search rules in
    let x = c.in_ok-read_stmt.field-0 in
    let longer : map raw_stmt_of c.push.new.self.items ≡ map raw_stmt_of l.stmts.items ++ (raw_stmt_of x ∷ []) = ap (map raw_stmt_of) c.in_ok-push.ensures.items ∙ map-append raw_stmt_of l.stmts.items (x ∷ []) in
    turned stmt_firsts (stmt (inner c.args.depth)) (c.len-turn-end.result - l.turn) (c.len-turn-end.result - (l.turn + 1)) l.tokens c.read_stmt.new.tokens (raw_stmt_of x) (map raw_stmt_of l.stmts.items) (map raw_stmt_of c.push.new.self.items) _
    (omega (arith, c.loop-turn-test.true)) go c.in_ok-read_stmt.ensures longer l.invariant

pub read_stmts-returns : goal.read_stmts-returns
read_stmts-returns t c =
    let l = c.loop-turn in
    spent stmt_firsts (stmt (inner c.args.depth)) (c.len-turn-end.result - l.turn) l.tokens (map raw_stmt_of l.stmts.items) _ (omega (arith, c.loop-turn-test.false)) l.invariant
