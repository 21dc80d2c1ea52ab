use Rattle.std.proofs.Common.{rules, ◌≡◌, map, ap, ◌∙◌}
use Rattle.raw_trees.specs.Raw.{operation_of, raw_expr_of}
use Rattle.module_semantics.specs.NameRules.{Within}
use Rattle.module_semantics.specs.Resolving.{expr_tree}
use Rattle.name_rules.specs.Rows.{rowed}
use Rattle.name_rules.specs.Within.{within_of}
use Rattle.name_rules.proofs.Rows.{raw_expr_of-Row, row_is}
use Rattle.name_rules.proofs.resolving.+exprs.Goals as goal

pub expr_tree-returns-in_ok-first-in-Row : goal.expr_tree-returns-in_ok-first-in-Row
expr_tree-returns-in_ok-first-in-Row t c =
    let w : Within = within_of c.args.within.now in
    let whole : expr_tree w (raw_expr_of c.args.e.now) ≡ rowed w (expr_tree w (raw_expr_of c.in-Row.first.value)) (map operation_of c.in-Row.rest.items) =
    ap (λ e. expr_tree w (raw_expr_of e)) c.in-Row.is ∙ (ap (expr_tree w) (raw_expr_of-Row c.in-Row.first c.in-Row.rest) ∙ row_is w (raw_expr_of c.in-Row.first.value) (map operation_of c.in-Row.rest.items)) in
    search (rules, whole)
