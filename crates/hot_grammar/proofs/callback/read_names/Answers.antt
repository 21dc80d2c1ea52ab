use Rattle.std.proofs.Common.{rules, arith, ◌≡◌, ◌++◌, ◌∷◌, [], ◌-◌, ◌+◌, map, length, false, true, ap, ◌∙◌}
use Rattle.std.proofs.lemmas.List.{map-append}
use Rattle.std.proofs.lemmas.Result.{err_from_is_err_and}
use Rattle.module_semantics.specs.Kinds.{COMMA, free_names}
use Rattle.module_semantics.specs.Readers.{next_in, mark, ◌▷◌}
use Rattle.module_semantics.specs.Reading.{free_name}
use Rattle.raw_trees.specs.Raw.{name_at_of}
use Rattle.hot_grammar.proofs.Repeats.{turned, failed, stopped, spent, separated_begins}
use Rattle.hot_grammar.proofs.callback.read_names.Goals as goal

pub loop-turn-init : goal.loop-turn-init
loop-turn-init c =
    let go : next_in free_names c.args.tokens.now ≡ true = search rules in
    let one : map name_at_of c.push.new.self.items ≡ name_at_of c.in_ok-name_at.field-0 ∷ [] = search rules in
    let all : c.len-turn-end.result - 0 ≡ length c.name_at.new.self = search rules in
    rw (one, all) (separated_begins free_names free_name c.args.tokens.now c.name_at.new.self (name_at_of c.in_ok-name_at.field-0) go c.in_ok-name_at.ensures)

pub returns-then-not-next_is : goal.returns-then-not-next_is
returns-then-not-next_is c =
    let l = c.loop-turn in
    let stop : next_in (COMMA ∷ []) l.tokens ≡ false = search rules in
    stopped (COMMA ∷ []) (mark COMMA ▷ free_name) (c.len-turn-end.result - l.turn) l.tokens (map name_at_of l.names.items) _ stop l.invariant

pub returns-in_err-read_next_name : goal.returns-in_err-read_next_name
returns-in_err-read_next_name c =
    let l = c.loop-turn in
    let go : next_in (COMMA ∷ []) l.tokens ≡ true = search rules in
    let told = err_from_is_err_and c.from_residual-in_err-read_next_name.result c.from_residual-in_err-read_next_name.ensures.1 in
    rw (told.1, told.2) (failed (COMMA ∷ []) (mark COMMA ▷ free_name) (c.len-turn-end.result - l.turn) (c.len-turn-end.result - (l.turn + 1)) l.tokens (map name_at_of l.names.items) _ c.in_err-read_next_name.field-0.0
    (omega (arith, c.loop-turn-test.true)) go c.in_err-read_next_name.ensures l.invariant)

pub loop-turn-preserved : goal.loop-turn-preserved
loop-turn-preserved c =
    let l = c.loop-turn in
    let go : next_in (COMMA ∷ []) l.tokens ≡ true = search rules in
    let x = c.in_ok-read_next_name.field-0 in
    let longer : map name_at_of c.push-in-loop-turn.new.self.items ≡ map name_at_of l.names.items ++ (name_at_of x ∷ []) = ap (map name_at_of) c.in_ok-push-2.ensures.items ∙ map-append name_at_of l.names.items (x ∷ []) in
    turned (COMMA ∷ []) (mark COMMA ▷ free_name) (c.len-turn-end.result - l.turn) (c.len-turn-end.result - (l.turn + 1)) l.tokens c.read_next_name.new.tokens (name_at_of x) (map name_at_of l.names.items) (map name_at_of c.push-in-loop-turn.new.self.items) _
    (omega (arith, c.loop-turn-test.true)) go c.in_ok-read_next_name.ensures longer l.invariant

pub returns : goal.returns
returns c =
    let l = c.loop-turn in
    spent (COMMA ∷ []) (mark COMMA ▷ free_name) (c.len-turn-end.result - l.turn) l.tokens (map name_at_of l.names.items) _ (omega (arith, c.loop-turn-test.false)) l.invariant
