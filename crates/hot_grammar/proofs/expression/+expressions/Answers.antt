use Rattle.std.proofs.Common.{rules, arith, ◌≡◌, ◌++◌, ◌∷◌, [], ◌-◌, ◌+◌, map, false, true, ap, ◌∙◌}
use Rattle.std.proofs.lemmas.List.{map-append}
use Rattle.std.proofs.lemmas.Result.{err_from_is_err_and}
use Rattle.module_semantics.specs.Readers.{next_in}
use Rattle.module_semantics.specs.Reading.{expr}
use Rattle.hot_grammar.specs.Levels.{operators_at, operation_at}
use Rattle.raw_trees.specs.Raw.{operation_of, raw_expr_of}
use Rattle.hot_grammar.proofs.Levels.{row_read, first_stops, rest_stops}
use Rattle.hot_grammar.proofs.Repeats.{turned, failed, stopped, spent}
use Rattle.hot_grammar.proofs.expression.+expressions.Goals as goal

pub read_operations-returns-then-not-is_next : goal.read_operations-returns-then-not-is_next
read_operations-returns-then-not-is_next t c =
    let l = c.loop-turn in
    let stop : next_in (operators_at c.args.level) l.tokens ≡ false = search rules in
    stopped (operators_at c.args.level) (operation_at c.args.level (expr c.args.depth)) (c.len-turn-end.result - l.turn) l.tokens (map operation_of l.rest.items) _ stop l.invariant

pub read_operations-returns-in_err-read_operation : goal.read_operations-returns-in_err-read_operation
read_operations-returns-in_err-read_operation t c =
    let l = c.loop-turn in
    let go : next_in (operators_at c.args.level) l.tokens ≡ true = search rules in
    let told = err_from_is_err_and c.from_residual.result c.from_residual.ensures.1 in
    rw (told.1, told.2) (failed (operators_at c.args.level) (operation_at c.args.level (expr c.args.depth)) (c.len-turn-end.result - l.turn) (c.len-turn-end.result - (l.turn + 1)) l.tokens (map operation_of l.rest.items) _ c.in_err-read_operation.field-0.0
    (omega (arith, c.loop-turn-test.true)) go c.in_err-read_operation.ensures l.invariant)

pub read_operations-loop-turn-preserved : goal.read_operations-loop-turn-preserved
read_operations-loop-turn-preserved t c =
    let l = c.loop-turn in
    let go : next_in (operators_at c.args.level) l.tokens ≡ true = search rules in
    let x = c.in_ok-read_operation.field-0 in
    let longer : map operation_of c.push.new.self.items ≡ map operation_of l.rest.items ++ (operation_of x ∷ []) = ap (map operation_of) c.in_ok-push.ensures.items ∙ map-append operation_of l.rest.items (x ∷ []) in
    turned (operators_at c.args.level) (operation_at c.args.level (expr c.args.depth)) (c.len-turn-end.result - l.turn) (c.len-turn-end.result - (l.turn + 1)) l.tokens c.read_operation.new.tokens (operation_of x) (map operation_of l.rest.items) (map operation_of c.push.new.self.items) _
    (omega (arith, c.loop-turn-test.true)) go c.in_ok-read_operation.ensures longer l.invariant

pub read_operations-returns : goal.read_operations-returns
read_operations-returns t c =
    let l = c.loop-turn in
    spent (operators_at c.args.level) (operation_at c.args.level (expr c.args.depth)) (c.len-turn-end.result - l.turn) l.tokens (map operation_of l.rest.items) _ (omega (arith, c.loop-turn-test.false)) l.invariant

pub read_row-returns-in_err-first : goal.read_row-returns-in_err-first
read_row-returns-in_err-first t c =
    let told = err_from_is_err_and c.from_residual.result c.from_residual.ensures.1 in
    rw (told.1, told.2) (first_stops c.args.level (expr c.args.depth) c.args.tokens.now c.in_err-first.field-0.0 c.in_err-first.ensures)

pub read_row-returns-in_err-rest : goal.read_row-returns-in_err-rest
read_row-returns-in_err-rest t c =
    let told = err_from_is_err_and c.from_residual-in_err-rest.result c.from_residual-in_err-rest.ensures.1 in
    rw (told.1, told.2) (rest_stops c.args.level (expr c.args.depth) c.args.tokens.now c.read_operand.new.tokens c.in_err-rest.field-0.0 (raw_expr_of c.in_ok-first.first) c.in_ok-first.ensures c.in_err-rest.ensures)

pub read_row-returns : goal.read_row-returns
read_row-returns t c =
    row_read c.args.level (expr c.args.depth) c.args.tokens.now c.read_operand.new.tokens c.read_operations.new.tokens (raw_expr_of c.in_ok-first.first) _ (map operation_of c.in_ok-rest.rest.items) c.in_ok-first.ensures c.in_ok-rest.ensures c.in_ok-row.ensures
