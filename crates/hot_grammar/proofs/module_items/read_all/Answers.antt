use Rattle.std.proofs.Common.{rules, arith, ◌≡◌, ◌++◌, ◌-◌, ◌+◌, false, true, ap, ◌∙◌}
use Rattle.std.proofs.lemmas.List.{map-append}
use Rattle.std.proofs.lemmas.Result.{err_from_is_err_and}
use Rattle.module_semantics.specs.Readers.{next_in}
use Rattle.module_semantics.specs.Reading.{inner, item, item_firsts}
use Rattle.raw_trees.specs.Raw.{raw_item_of, raw_items_of}
use Rattle.hot_grammar.proofs.Flattened.{flat_turned, flat_failed, flat_stopped, flat_spent}
use Rattle.hot_grammar.proofs.module_items.read_all.Goals as goal

pub returns-then-not-next_in : goal.returns-then-not-next_in
returns-then-not-next_in c =
    let l = c.loop-turn in
    let stop : next_in item_firsts l.tokens ≡ false = search rules in
    flat_stopped item_firsts (item (inner c.args.depth)) (c.len-turn-end.result - l.turn) l.tokens (raw_items_of l.items.items) _ stop l.invariant

pub returns-in_err-more : goal.returns-in_err-more
returns-in_err-more c =
    let l = c.loop-turn in
    let go : next_in item_firsts l.tokens ≡ true = search rules in
    let told = err_from_is_err_and c.from_residual.result c.from_residual.ensures.1 in
    rw (told.1, told.2) (flat_failed item_firsts (item (inner c.args.depth)) (c.len-turn-end.result - l.turn) (c.len-turn-end.result - (l.turn + 1)) l.tokens (raw_items_of l.items.items) _ c.in_err-more.field-0.0
    (omega (arith, c.loop-turn-test.true)) go c.in_err-more.ensures l.invariant)

pub loop-turn-preserved : goal.loop-turn-preserved
loop-turn-preserved c =
    let l = c.loop-turn in
    let go : next_in item_firsts l.tokens ≡ true = search rules in
    let all : c.append.new.self.items ≡ l.items.items ++ c.in_ok-more.more.items = search rules in
    let longer : raw_items_of c.append.new.self.items ≡ raw_items_of l.items.items ++ raw_items_of c.in_ok-more.more.items = ap raw_items_of all ∙ map-append raw_item_of l.items.items c.in_ok-more.more.items in
    flat_turned item_firsts (item (inner c.args.depth)) (c.len-turn-end.result - l.turn) (c.len-turn-end.result - (l.turn + 1)) l.tokens c.read_item.new.tokens (raw_items_of c.in_ok-more.more.items) (raw_items_of l.items.items) (raw_items_of c.append.new.self.items) _
    (omega (arith, c.loop-turn-test.true)) go c.in_ok-more.ensures longer l.invariant

pub returns : goal.returns
returns c =
    let l = c.loop-turn in
    flat_spent item_firsts (item (inner c.args.depth)) (c.len-turn-end.result - l.turn) l.tokens (raw_items_of l.items.items) _ (omega (arith, c.loop-turn-test.false)) l.invariant
