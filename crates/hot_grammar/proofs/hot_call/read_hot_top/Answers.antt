use Rattle.std.proofs.lemmas.Result.{err_from_is_err_and}
use Rattle.module_semantics.specs.Reading.{inner}
use Rattle.hot_grammar.proofs.Hots.{top_front_stops, top_item_stops, top_gives}
use Rattle.hot_grammar.proofs.hot_call.read_hot_top.Goals as goal

pub returns-in_err-pass_hot : goal.returns-in_err-pass_hot
returns-in_err-pass_hot c =
    let told = err_from_is_err_and c.from_residual.result c.from_residual.ensures.1 in
    rw (told.1, told.2) (top_front_stops c.in_err-pass_hot.field-0.0 (inner c.args.depth) c.args.tokens.now c.in_err-pass_hot.ensures)

pub returns-in_err-item : goal.returns-in_err-item
returns-in_err-item c =
    let told = err_from_is_err_and c.from_residual-in_err-item.result c.from_residual-in_err-item.ensures.1 in
    rw (told.1, told.2) (top_item_stops c.in_err-item.field-0.0 (inner c.args.depth) c.args.tokens.now c.pass_hot.new.tokens c.in_ok-pass_hot.ensures c.in_err-item.ensures)

pub returns : goal.returns
returns c = top_gives (inner c.args.depth) c.in_ok-item.item c.end_after.result c.args.tokens.now c.pass_hot.new.tokens c.read_told_hot.new.tokens c.end_after.new.self c.in_ok-pass_hot.ensures c.in_ok-item.ensures c.end_after.ensures.passed c.end_after.ensures.same
