use Rattle.std.proofs.Common.{◌≡◌, ◌+◌, ◌-◌, ◌*◌, map}
use Rattle.module_semantics.specs.Readers.{many, many_from}
use Rattle.module_semantics.specs.Reading.{inner, stmt, stmt_firsts}
use Rattle.raw_trees.specs.Raw.{raw_stmt_of}
use Rattle.hot_grammar.proofs.Repeats.{after}
use Rattle.hot_grammar.proofs.block.+blocks.Given as goal

abbrev pub decreases-read_block : goal.decreases-read_block
decreases-read_block l = 8 * l.depth

abbrev pub decreases-read_else_if : goal.decreases-read_else_if
decreases-read_else_if l = 8 * l.depth

abbrev pub decreases-read_else : goal.decreases-read_else
decreases-read_else l = 8 * l.depth + 1

abbrev pub decreases-read_branches : goal.decreases-read_branches
decreases-read_branches l = 8 * l.depth + 2

abbrev pub decreases-read_if : goal.decreases-read_if
decreases-read_if l = 8 * l.depth + 3

abbrev pub decreases-read_stmt : goal.decreases-read_stmt
decreases-read_stmt l = 8 * l.depth + 4

abbrev pub decreases-read_stmts : goal.decreases-read_stmts
decreases-read_stmts l = 8 * l.depth + 5

abbrev pub decreases-read_braces : goal.decreases-read_braces
decreases-read_braces l = 8 * l.depth + 6

-- the statements so far, and then what stands from here, are all of them
abbrev pub invariant-read_stmts-loop-turn : goal.invariant-read_stmts-loop-turn
invariant-read_stmts-loop-turn l =
    after (map raw_stmt_of l.stmts.items) (many_from stmt_firsts (stmt (inner l.depth)) (l.turn-end - l.turn) l.tokens)
    ≡ many stmt_firsts (stmt (inner l.depth)) l.initial.tokens
