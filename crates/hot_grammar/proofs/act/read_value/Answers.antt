use Rattle.std.proofs.Common.{sym, subst}
use Rattle.raw_trees.specs.Raw.{raw_expr_of}
use Rattle.hot_grammar.specs.Reads.{Gives}
use Rattle.hot_grammar.proofs.Inners.{inner_expr}
use Rattle.hot_grammar.proofs.act.read_value.Goals as goal

pub returns : goal.returns
returns c = subst (λ f. Gives (λ e. (raw_expr_of e, c.read_expr.new.tokens)) c.read_expr.result (f c.args.tokens.now)) (sym (inner_expr c.args.depth)) c.read_expr.ensures
