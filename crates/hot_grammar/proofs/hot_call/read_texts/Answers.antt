use Rattle.std.proofs.Common.{rules, arith, ◌≡◌, ◌++◌, ◌∷◌, [], ◌-◌, ◌+◌, false, true}
use Rattle.std.proofs.lemmas.Result.{err_from_is_err_and}
use Rattle.module_semantics.specs.Kinds.{COMMA, TEXT}
use Rattle.module_semantics.specs.Readers.{next_in}
use Rattle.module_semantics.specs.Reading.{text_token}
use Rattle.hot_grammar.proofs.Listed.{listed_turned, listed_last, listed_failed, listed_comma_failed, listed_stopped, listed_spent}
use Rattle.hot_grammar.proofs.hot_call.read_texts.Goals as goal

pub returns-then-not-next_is : goal.returns-then-not-next_is
returns-then-not-next_is c =
    let l = c.loop-turn in
    let stop : next_in (TEXT ∷ []) l.tokens ≡ false = search rules in
    listed_stopped (TEXT ∷ []) text_token (c.len-turn-end.result - l.turn) l.tokens l.texts.items _ stop l.invariant

pub returns-in_err-text : goal.returns-in_err-text
returns-in_err-text c =
    let l = c.loop-turn in
    let go : next_in (TEXT ∷ []) l.tokens ≡ true = search rules in
    let told = err_from_is_err_and c.from_residual.result c.from_residual.ensures.1 in
    rw (told.1, told.2) (listed_failed (TEXT ∷ []) text_token (c.len-turn-end.result - l.turn) (c.len-turn-end.result - (l.turn + 1)) l.tokens l.texts.items _ c.in_err-text.field-0.0
    (omega (arith, c.loop-turn-test.true)) go c.in_err-text.ensures l.invariant)

pub returns-then-not-next_is-2 : goal.returns-then-not-next_is-2
returns-then-not-next_is-2 c =
    let l = c.loop-turn in
    let go : next_in (TEXT ∷ []) l.tokens ≡ true = search rules in
    let last : next_in (COMMA ∷ []) c.text.new.self ≡ false = search rules in
    let x = c.in_ok-text.field-0 in
    let longer : c.push.new.self.items ≡ l.texts.items ++ (x ∷ []) = c.in_ok-push.ensures.items in
    listed_last (TEXT ∷ []) text_token (c.len-turn-end.result - l.turn) (c.len-turn-end.result - (l.turn + 1)) l.tokens c.text.new.self x l.texts.items c.push.new.self.items _
    (omega (arith, c.loop-turn-test.true)) go c.in_ok-text.ensures last longer l.invariant

pub returns-in_err-mark : goal.returns-in_err-mark
returns-in_err-mark c =
    let l = c.loop-turn in
    let go : next_in (TEXT ∷ []) l.tokens ≡ true = search rules in
    let comma : next_in (COMMA ∷ []) c.text.new.self ≡ true = search rules in
    let x = c.in_ok-text.field-0 in
    let told = err_from_is_err_and c.from_residual-in_err-mark.result c.from_residual-in_err-mark.ensures.1 in
    rw (told.1, told.2) (listed_comma_failed (TEXT ∷ []) text_token (c.len-turn-end.result - l.turn) (c.len-turn-end.result - (l.turn + 1)) l.tokens c.text.new.self x l.texts.items _ c.in_err-mark.field-0.0
    (omega (arith, c.loop-turn-test.true)) go c.in_ok-text.ensures comma c.in_err-mark.ensures l.invariant)

pub loop-turn-preserved : goal.loop-turn-preserved
loop-turn-preserved c =
    let l = c.loop-turn in
    let go : next_in (TEXT ∷ []) l.tokens ≡ true = search rules in
    let comma : next_in (COMMA ∷ []) c.text.new.self ≡ true = search rules in
    let x = c.in_ok-text.field-0 in
    let longer : c.push.new.self.items ≡ l.texts.items ++ (x ∷ []) = c.in_ok-push.ensures.items in
    listed_turned (TEXT ∷ []) text_token (c.len-turn-end.result - l.turn) (c.len-turn-end.result - (l.turn + 1)) l.tokens c.text.new.self c.mark.new.self x l.texts.items c.push.new.self.items _
    (omega (arith, c.loop-turn-test.true)) go c.in_ok-text.ensures comma c.in_ok-mark.ensures longer l.invariant

pub returns : goal.returns
returns c =
    let l = c.loop-turn in
    listed_spent (TEXT ∷ []) text_token (c.len-turn-end.result - l.turn) l.tokens l.texts.items _ (omega (arith, c.loop-turn-test.false)) l.invariant
