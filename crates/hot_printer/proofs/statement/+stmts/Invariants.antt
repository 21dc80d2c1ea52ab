use Rattle.std.proofs.Common.{◌≡◌, ◌++◌, drop}
use Rattle.module_tree.specs.Tree.{stmts_of}
use Rattle.module_semantics.specs.Canon.{stmts_text}
use Rattle.hot_printer.proofs.statement.+stmts.Given as goal

-- what is written, and the text of what is left, is the whole
abbrev pub invariant-put_stmts-loop-stmt : goal.invariant-put_stmts-loop-stmt
invariant-put_stmts-loop-stmt l =
    l.out.items ++ stmts_text l.params l.depth (stmts_of (drop l.stmt-index l.stmts)) ≡ l.initial.out.items ++ stmts_text l.params l.depth (stmts_of l.stmts)
