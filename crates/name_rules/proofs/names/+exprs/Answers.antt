use Rattle.std.proofs.Common.{rules, ◌≡◌, map, ap, ◌∙◌}
use Rattle.raw_trees.specs.Raw.{operation_of, raw_expr_of}
use Rattle.module_semantics.specs.NameRules.{Within}
use Rattle.name_rules.specs.Firsts.{expr_first, rowed_first}
use Rattle.name_rules.specs.Within.{within_of}
use Rattle.name_rules.proofs.Firsts.{row_first_is}
use Rattle.name_rules.proofs.Rows.{raw_expr_of-Row}
use Rattle.name_rules.proofs.names.+exprs.Goals as goal

pub expr_first-returns-in-Row : goal.expr_first-returns-in-Row
expr_first-returns-in-Row t c =
    let w : Within = within_of c.args.within.now in
    let whole : expr_first w (raw_expr_of c.args.e.now) ≡ rowed_first w (expr_first w (raw_expr_of c.in-Row.first.value)) (map operation_of c.in-Row.rest.items) =
    ap (λ e. expr_first w (raw_expr_of e)) c.in-Row.is ∙ (ap (expr_first w) (raw_expr_of-Row c.in-Row.first c.in-Row.rest) ∙ row_first_is w (raw_expr_of c.in-Row.first.value) (map operation_of c.in-Row.rest.items)) in
    search (rules, whole)
