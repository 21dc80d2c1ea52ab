use Rattle.std.proofs.Common.{rules, arith, ◌≡◌, ◌++◌, ◌∷◌, [], ◌-◌, ◌+◌, map, length, false, true, ap, ◌∙◌}
use Rattle.std.proofs.lemmas.List.{map-append}
use Rattle.std.proofs.lemmas.Result.{err_from_is_err_and}
use Rattle.module_semantics.specs.Kinds.{COMMA}
use Rattle.module_semantics.specs.Readers.{next_in, mark, ◌▷◌}
use Rattle.module_semantics.specs.Reading.{expr_firsts, inner}
use Rattle.raw_trees.specs.Raw.{raw_expr_of}
use Rattle.hot_grammar.proofs.Repeats.{turned, failed, stopped, spent, separated_begins}
use Rattle.hot_grammar.proofs.act.read_values.Goals as goal

pub loop-turn-init : goal.loop-turn-init
loop-turn-init c =
    let go : next_in expr_firsts c.args.tokens.now ≡ true = search rules in
    let one : map raw_expr_of c.push.new.self.items ≡ raw_expr_of c.in_ok-read_value.field-0 ∷ [] = search rules in
    let all : c.len-turn-end.result - 0 ≡ length c.read_value.new.tokens = search rules in
    rw (one, all) (separated_begins expr_firsts (inner c.args.depth).expr c.args.tokens.now c.read_value.new.tokens (raw_expr_of c.in_ok-read_value.field-0) go c.in_ok-read_value.ensures)

pub returns-then-not-next_is : goal.returns-then-not-next_is
returns-then-not-next_is c =
    let l = c.loop-turn in
    let stop : next_in (COMMA ∷ []) l.tokens ≡ false = search rules in
    stopped (COMMA ∷ []) (mark COMMA ▷ (inner c.args.depth).expr) (c.len-turn-end.result - l.turn) l.tokens (map raw_expr_of l.values.items) _ stop l.invariant

pub returns-in_err-read_next_value : goal.returns-in_err-read_next_value
returns-in_err-read_next_value c =
    let l = c.loop-turn in
    let go : next_in (COMMA ∷ []) l.tokens ≡ true = search rules in
    let told = err_from_is_err_and c.from_residual-in_err-read_next_value.result c.from_residual-in_err-read_next_value.ensures.1 in
    rw (told.1, told.2) (failed (COMMA ∷ []) (mark COMMA ▷ (inner c.args.depth).expr) (c.len-turn-end.result - l.turn) (c.len-turn-end.result - (l.turn + 1)) l.tokens (map raw_expr_of l.values.items) _ c.in_err-read_next_value.field-0.0
    (omega (arith, c.loop-turn-test.true)) go c.in_err-read_next_value.ensures l.invariant)

pub loop-turn-preserved : goal.loop-turn-preserved
loop-turn-preserved c =
    let l = c.loop-turn in
    let go : next_in (COMMA ∷ []) l.tokens ≡ true = search rules in
    let x = c.in_ok-read_next_value.field-0 in
    let longer : map raw_expr_of c.push-in-loop-turn.new.self.items ≡ map raw_expr_of l.values.items ++ (raw_expr_of x ∷ []) = ap (map raw_expr_of) c.in_ok-push-2.ensures.items ∙ map-append raw_expr_of l.values.items (x ∷ []) in
    turned (COMMA ∷ []) (mark COMMA ▷ (inner c.args.depth).expr) (c.len-turn-end.result - l.turn) (c.len-turn-end.result - (l.turn + 1)) l.tokens c.read_next_value.new.tokens (raw_expr_of x) (map raw_expr_of l.values.items) (map raw_expr_of c.push-in-loop-turn.new.self.items) _
    (omega (arith, c.loop-turn-test.true)) go c.in_ok-read_next_value.ensures longer l.invariant

pub returns : goal.returns
returns c =
    let l = c.loop-turn in
    spent (COMMA ∷ []) (mark COMMA ▷ (inner c.args.depth).expr) (c.len-turn-end.result - l.turn) l.tokens (map raw_expr_of l.values.items) _ (omega (arith, c.loop-turn-test.false)) l.invariant
