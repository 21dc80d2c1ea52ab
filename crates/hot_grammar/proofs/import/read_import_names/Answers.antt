use Rattle.std.proofs.Common.{rules, arith, ◌≡◌, ◌++◌, ◌∷◌, [], ◌-◌, ◌+◌, map, false, true, ap, ◌∙◌}
use Rattle.std.proofs.lemmas.List.{map-append}
use Rattle.std.proofs.lemmas.Result.{err_from_is_err_and}
use Rattle.module_semantics.specs.Kinds.{COMMA, all_names}
use Rattle.module_semantics.specs.Readers.{next_in}
use Rattle.module_semantics.specs.Reading.{import_name}
use Rattle.raw_trees.specs.Raw.{raw_import_of}
use Rattle.hot_grammar.proofs.Listed.{listed_turned, listed_last, listed_failed, listed_comma_failed, listed_stopped, listed_spent}
use Rattle.hot_grammar.proofs.import.read_import_names.Goals as goal

pub returns-then-not-next_in : goal.returns-then-not-next_in
returns-then-not-next_in c =
    let l = c.loop-turn in
    let stop : next_in all_names l.tokens ≡ false = search rules in
    listed_stopped all_names import_name (c.len-turn-end.result - l.turn) l.tokens (map raw_import_of l.names.items) _ stop l.invariant

pub returns-in_err-read_import_name : goal.returns-in_err-read_import_name
returns-in_err-read_import_name c =
    let l = c.loop-turn in
    let go : next_in all_names l.tokens ≡ true = search rules in
    let told = err_from_is_err_and c.from_residual.result c.from_residual.ensures.1 in
    rw (told.1, told.2) (listed_failed all_names import_name (c.len-turn-end.result - l.turn) (c.len-turn-end.result - (l.turn + 1)) l.tokens (map raw_import_of l.names.items) _ c.in_err-read_import_name.field-0.0
    (omega (arith, c.loop-turn-test.true)) go c.in_err-read_import_name.ensures l.invariant)

pub returns-then-not-next_is : goal.returns-then-not-next_is
returns-then-not-next_is c =
    let l = c.loop-turn in
    let go : next_in all_names l.tokens ≡ true = search rules in
    let last : next_in (COMMA ∷ []) c.read_import_name.new.tokens ≡ false = search rules in
    let x = c.in_ok-read_import_name.field-0 in
    let longer : map raw_import_of c.push.new.self.items ≡ map raw_import_of l.names.items ++ (raw_import_of x ∷ []) = ap (map raw_import_of) c.in_ok-push.ensures.items ∙ map-append raw_import_of l.names.items (x ∷ []) in
    listed_last all_names import_name (c.len-turn-end.result - l.turn) (c.len-turn-end.result - (l.turn + 1)) l.tokens c.read_import_name.new.tokens (raw_import_of x) (map raw_import_of l.names.items) (map raw_import_of c.push.new.self.items) _
    (omega (arith, c.loop-turn-test.true)) go c.in_ok-read_import_name.ensures last longer l.invariant

pub returns-in_err-mark : goal.returns-in_err-mark
returns-in_err-mark c =
    let l = c.loop-turn in
    let go : next_in all_names l.tokens ≡ true = search rules in
    let comma : next_in (COMMA ∷ []) c.read_import_name.new.tokens ≡ true = search rules in
    let x = c.in_ok-read_import_name.field-0 in
    let told = err_from_is_err_and c.from_residual-in_err-mark.result c.from_residual-in_err-mark.ensures.1 in
    rw (told.1, told.2) (listed_comma_failed all_names import_name (c.len-turn-end.result - l.turn) (c.len-turn-end.result - (l.turn + 1)) l.tokens c.read_import_name.new.tokens (raw_import_of x) (map raw_import_of l.names.items) _ c.in_err-mark.field-0.0
    (omega (arith, c.loop-turn-test.true)) go c.in_ok-read_import_name.ensures comma c.in_err-mark.ensures l.invariant)

pub loop-turn-preserved : goal.loop-turn-preserved
loop-turn-preserved c =
    let l = c.loop-turn in
    let go : next_in all_names l.tokens ≡ true = search rules in
    let comma : next_in (COMMA ∷ []) c.read_import_name.new.tokens ≡ true = search rules in
    let x = c.in_ok-read_import_name.field-0 in
    let longer : map raw_import_of c.push.new.self.items ≡ map raw_import_of l.names.items ++ (raw_import_of x ∷ []) = ap (map raw_import_of) c.in_ok-push.ensures.items ∙ map-append raw_import_of l.names.items (x ∷ []) in
    listed_turned all_names import_name (c.len-turn-end.result - l.turn) (c.len-turn-end.result - (l.turn + 1)) l.tokens c.read_import_name.new.tokens c.mark.new.self (raw_import_of x) (map raw_import_of l.names.items) (map raw_import_of c.push.new.self.items) _
    (omega (arith, c.loop-turn-test.true)) go c.in_ok-read_import_name.ensures comma c.in_ok-mark.ensures longer l.invariant

pub returns : goal.returns
returns c =
    let l = c.loop-turn in
    listed_spent all_names import_name (c.len-turn-end.result - l.turn) l.tokens (map raw_import_of l.names.items) _ (omega (arith, c.loop-turn-test.false)) l.invariant
