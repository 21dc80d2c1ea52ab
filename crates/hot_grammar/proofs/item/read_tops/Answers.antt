use Rattle.std.proofs.Common.{rules, arith, ◌≡◌, ◌++◌, ◌∷◌, [], ◌-◌, ◌+◌, map, false, true, ap, ◌∙◌}
use Rattle.std.proofs.lemmas.List.{map-append}
use Rattle.std.proofs.lemmas.Result.{err_from_is_err_and}
use Rattle.module_semantics.specs.Readers.{next_in}
use Rattle.module_semantics.specs.Reading.{inner, top, top_firsts}
use Rattle.raw_trees.specs.Raw.{raw_item_of}
use Rattle.hot_grammar.proofs.Repeats.{turned, failed, stopped, spent}
use Rattle.hot_grammar.proofs.item.read_tops.Goals as goal

pub returns-then-not-next_in : goal.returns-then-not-next_in
returns-then-not-next_in c =
    let l = c.loop-turn in
    let stop : next_in top_firsts l.tokens ≡ false = search rules in
    stopped top_firsts (top (inner c.args.depth)) (c.len-turn-end.result - l.turn) l.tokens (map raw_item_of l.items.items) _ stop l.invariant

pub returns-in_err-read_top : goal.returns-in_err-read_top
returns-in_err-read_top c =
    let l = c.loop-turn in
    let go : next_in top_firsts l.tokens ≡ true = search rules in
    let told = err_from_is_err_and c.from_residual.result c.from_residual.ensures.1 in
    rw (told.1, told.2) (failed top_firsts (top (inner c.args.depth)) (c.len-turn-end.result - l.turn) (c.len-turn-end.result - (l.turn + 1)) l.tokens (map raw_item_of l.items.items) _ c.in_err-read_top.field-0.0
    (omega (arith, c.loop-turn-test.true)) go c.in_err-read_top.ensures l.invariant)

pub loop-turn-preserved : goal.loop-turn-preserved
loop-turn-preserved c =
    let l = c.loop-turn in
    let go : next_in top_firsts l.tokens ≡ true = search rules in
    let x = c.in_ok-read_top.field-0 in
    let longer : map raw_item_of c.push.new.self.items ≡ map raw_item_of l.items.items ++ (raw_item_of x ∷ []) = ap (map raw_item_of) c.in_ok-push.ensures.items ∙ map-append raw_item_of l.items.items (x ∷ []) in
    turned top_firsts (top (inner c.args.depth)) (c.len-turn-end.result - l.turn) (c.len-turn-end.result - (l.turn + 1)) l.tokens c.read_top.new.tokens (raw_item_of x) (map raw_item_of l.items.items) (map raw_item_of c.push.new.self.items) _
    (omega (arith, c.loop-turn-test.true)) go c.in_ok-read_top.ensures longer l.invariant

pub returns : goal.returns
returns c =
    let l = c.loop-turn in
    spent top_firsts (top (inner c.args.depth)) (c.len-turn-end.result - l.turn) l.tokens (map raw_item_of l.items.items) _ (omega (arith, c.loop-turn-test.false)) l.invariant
