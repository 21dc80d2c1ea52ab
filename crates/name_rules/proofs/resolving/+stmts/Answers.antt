use Rattle.std.proofs.Common.{arith, ◌≡◌, ◌++◌, map, ap, sym, ◌∙◌}
use Rattle.std.proofs.lemmas.List.{append-nil, at_drop_all}
use Rattle.module_tree.specs.Tree.{stmt_of, stmts}
use Rattle.raw_trees.specs.Raw.{raw_stmt_of}
use Rattle.module_semantics.specs.NameRules.{Within}
use Rattle.module_semantics.specs.Resolving.{stmt_tree}
use Rattle.name_rules.specs.Within.{within_of}
use Rattle.name_rules.proofs.Rows.{stmts_are}
use Rattle.name_rules.proofs.resolving.+stmts.Goals as goal

pub stmts_tree-returns : goal.stmts_tree-returns
stmts_tree-returns t c =
    let w : Within = within_of c.args.within.now in
    let all : map stmt_of c.loop-stmt.tree.items ≡ map (stmt_tree w) (map raw_stmt_of c.args.stmts.now) =
    sym (append-nil (map stmt_of c.loop-stmt.tree.items))
    ∙ (sym (at_drop_all (λ ss. map stmt_of c.loop-stmt.tree.items ++ map (stmt_tree w) (map raw_stmt_of ss)) c.args.stmts.now c.loop-stmt.stmt-index (omega arith)) ∙ c.loop-stmt.invariant) in
    ap stmts all ∙ stmts_are w (map raw_stmt_of c.args.stmts.now)
