use Rattle.std.proofs.Common.{true, false, sym, ◌∙◌}
use Rattle.std.proofs.lemmas.List.{take_rest}
use Rattle.hot_lexer.proofs.CommentTurns.{star_turned, unended}
use Rattle.hot_lexer.proofs.comment.read_block.Goals as goal

pub loop-before-preserved : goal.loop-before-preserved
loop-before-preserved c =
    let l = c.loop-before in
    let turn = star_turned c.args.at l.start c.in-Some.before false c.args.rest.now (sym (rw take_rest at c.in-Some.ensures)) (sym (c.if-stands.ensures).exact) in
    record { same = sym turn.1 ∙ l.invariant.same; within = turn.0 }

pub returns-then-stands-clause-exact : goal.returns-then-stands-clause-exact
returns-then-stands-clause-exact c =
    let l = c.loop-before in
    let turn = star_turned c.args.at l.start c.in-Some.before true c.args.rest.now (sym (rw take_rest at c.in-Some.ensures)) (sym (c.if-stands.ensures).exact) in
    sym l.invariant.same ∙ turn.1

pub returns-clause-exact : goal.returns-clause-exact
returns-clause-exact c =
    let l = c.loop-before in
    rw c.fault.ensures (sym l.invariant.same ∙ unended c.args.at _ _ (sym (rw take_rest at c.in_default.ensures)))
