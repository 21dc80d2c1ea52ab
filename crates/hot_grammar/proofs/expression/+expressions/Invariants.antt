use Rattle.std.proofs.Common.{◌≡◌, ◌+◌, ◌-◌, ◌*◌, map}
use Rattle.module_semantics.specs.Readers.{many, many_from}
use Rattle.module_semantics.specs.Reading.{expr}
use Rattle.hot_grammar.specs.Levels.{operators_at, operation_at}
use Rattle.raw_trees.specs.Raw.{operation_of}
use Rattle.hot_grammar.proofs.Levels.{rank}
use Rattle.hot_grammar.proofs.Repeats.{after}
use Rattle.hot_grammar.proofs.expression.+expressions.Given as goal

abbrev pub decreases-read_expr : goal.decreases-read_expr
decreases-read_expr l = 16 * l.depth

abbrev pub decreases-read_row : goal.decreases-read_row
decreases-read_row l = 16 * l.depth + 4 * rank l.level + 6

abbrev pub decreases-read_operations : goal.decreases-read_operations
decreases-read_operations l = 16 * l.depth + 4 * rank l.level + 5

abbrev pub decreases-read_operation : goal.decreases-read_operation
decreases-read_operation l = 16 * l.depth + 4 * rank l.level + 4

abbrev pub decreases-read_operand : goal.decreases-read_operand
decreases-read_operand l = 16 * l.depth + 4 * rank l.level + 3

abbrev pub decreases-read_unary : goal.decreases-read_unary
decreases-read_unary l = 16 * l.depth + 2

abbrev pub decreases-read_prim : goal.decreases-read_prim
decreases-read_prim l = 16 * l.depth + 1

-- the operations so far, and then what stands from here, are all of them
abbrev pub invariant-read_operations-loop-turn : goal.invariant-read_operations-loop-turn
invariant-read_operations-loop-turn l =
    after (map operation_of l.rest.items) (many_from (operators_at l.level) (operation_at l.level (expr l.depth)) (l.turn-end - l.turn) l.tokens)
    ≡ many (operators_at l.level) (operation_at l.level (expr l.depth)) l.initial.tokens
