use Rattle.std.proofs.Common.{◌+◌, ◌-◌, drop, length, length-drop, length-take, arith, sym, subst}
use Rattle.std.proofs.lemmas.Result.{err_from_is_err_and}
use Rattle.std.specs.Str.{IsUtf8}
use Rattle.hot_lexer.specs.Token.{lexemes_of}
use Rattle.hot_lexer.proofs.LexTurns.{blanks_turned, started, ended, stopped, turned, some_bytes, passed, tail}
use Rattle.hot_lexer.proofs.Utf8.{after_ascii}
use Rattle.hot_lexer.proofs.lexer.lex_bytes.Goals as goal

pub loop-at-init : goal.loop-at-init
loop-at-init c = record { going = rw (c.new-tokens.ensures).items (started c.args.bytes.now); within = omega arith }

pub step-requires-clause-utf8 : goal.step-requires-clause-utf8
step-requires-clause-utf8 c = λ small. subst IsUtf8 (sym (tail c.args.bytes.now c.loop-at.at)) (after_ascii c.args.bytes.now c.loop-at.at c.requires.utf8 c.loop-at-test.true small)

pub returns-in_err-len : goal.returns-in_err-len
returns-in_err-len c =
    let l = c.loop-at in
    let text = c.args.bytes.now in
    let told = err_from_is_err_and c.from_residual.result c.from_residual.ensures.1 in
    rw (told.1, told.2) (passed c.in_err-len.field-0.0 _ _ (c.in_err-len.ensures).exact
    (λ f h. stopped l.at l.last (lexemes_of l.tokens.items) text _ f l.invariant.going c.loop-at-test.true (tail text l.at) h))

pub loop-at-smaller : goal.loop-at-smaller
loop-at-smaller c =
    let l = c.loop-at in
    omega (arith, c.loop-at-test.true, some_bytes l.at l.last (lexemes_of l.tokens.items) _ _ (c.in_ok-len.len, (c.in_ok-len.next, lexemes_of c.step.new.tokens.items)) (c.in_ok-len.ensures).exact)

pub loop-at-preserved-then-is_blank : goal.loop-at-preserved-then-is_blank
loop-at-preserved-then-is_blank c =
    let l = c.loop-at in
    let bytes = c.args.bytes.now in
    record {
      going = blanks_turned c.blank_run.result l.at l.last (lexemes_of l.tokens.items) bytes _ l.invariant.going c.loop-at-test.true (sym c.if-is_blank.ensures) (tail bytes l.at) (c.blank_run.ensures).count;
      within = omega (arith, (c.blank_run.ensures).within, length-drop (l.at + 1) bytes, c.loop-at-test.true, length-take (length bytes - (l.at + 1)) (drop (l.at + 1) bytes));
    }

pub loop-at-preserved : goal.loop-at-preserved
loop-at-preserved c =
    let l = c.loop-at in
    let text = c.args.bytes.now in
    record {
      going = turned l.at l.last (lexemes_of l.tokens.items) text _ (c.in_ok-len.len, (c.in_ok-len.next, lexemes_of c.step.new.tokens.items)) l.invariant.going c.loop-at-test.true (tail text l.at) (c.in_ok-len.ensures).exact;
      within = omega (arith, (c.in_ok-len.ensures).within, length-drop (l.at + 1) text, c.loop-at-test.true, length-take (length text - (l.at + 1)) (drop (l.at + 1) text));
    }

pub returns : goal.returns
returns c =
    let l = c.loop-at in
    ended l.at l.last (lexemes_of l.tokens.items) c.args.bytes.now l.invariant.going (omega (arith, c.loop-at-test.false))
