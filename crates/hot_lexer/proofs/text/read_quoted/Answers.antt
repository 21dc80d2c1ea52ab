use Rattle.std.proofs.Common.{◌≡◌, ◌+◌, ◌++◌, ◌∷◌, [], ap, arith, get_or, subst, sym, ◌∙◌}
use Rattle.std.proofs.lemmas.List.{take_rest}
use Rattle.std.specs.Str.{IsUtf8}
use Rattle.module_semantics.specs.Bytes.{unescape}
use Rattle.hot_lexer.proofs.TextTurns.{at_stop, backslash_turned, closing_quote, ends_escaped, escape_turned, line_ended, no_escape, other_quote, unclosed}
use Rattle.hot_lexer.proofs.Utf8.{closed_utf8, plain_utf8, quote_small}
use Rattle.hot_lexer.proofs.text.read_quoted.Goals.{then-stop-rest-via-then-stop-rest, then-stop-rest-via-else-stop-rest+then-not-is_escape}
use Rattle.hot_lexer.proofs.text.read_quoted.Goals as goal

pub returns-then-b-quote-clause-exact : goal.returns-then-b-quote-clause-exact
returns-then-b-quote-clause-exact c =
    let l = c.loop-plain in
    let s = at_stop c.args.at c.args.quote l.out.items l.start c.in-Some.plain c.args.rest.now c.extend_from_slice.new.self.items c.requires.quote (sym (rw take_rest at c.in-Some.ensures)) (c.in_ok-extend_from_slice.ensures).items in
    sym l.invariant.same ∙ closing_quote s c.if-b-quote.true

pub returns-then-b-quote-clause-utf8 : goal.returns-then-b-quote-clause-utf8
returns-then-b-quote-clause-utf8 c =
    let l = c.loop-plain in
    let s = at_stop c.args.at c.args.quote l.out.items l.start c.in-Some.plain c.args.rest.now c.extend_from_slice.new.self.items c.requires.quote (sym (rw take_rest at c.in-Some.ensures)) (c.in_ok-extend_from_slice.ensures).items in
    closed_utf8 _ (l.start + c.in-Some.plain) c.args.rest.now s.inside (omega (arith, quote_small c.args.quote c.requires.quote, c.if-b-quote.true)) (subst IsUtf8 (sym s.whole) l.invariant.utf8)

pub returns-then-is_line_end-clause-exact : goal.returns-then-is_line_end-clause-exact
returns-then-is_line_end-clause-exact c =
    let l = c.loop-plain in
    let s = at_stop c.args.at c.args.quote l.out.items l.start c.in-Some.plain c.args.rest.now c.extend_from_slice.new.self.items c.requires.quote (sym (rw take_rest at c.in-Some.ensures)) (c.in_ok-extend_from_slice.ensures).items in
    rw c.fault.ensures (sym l.invariant.same ∙ line_ended s c.if-b-quote.false (sym c.if-is_line_end.ensures))

pub loop-plain-preserved-then-b-ne92 : goal.loop-plain-preserved-then-b-ne92
loop-plain-preserved-then-b-ne92 c =
    let l = c.loop-plain in
    let s = at_stop c.args.at c.args.quote l.out.items l.start c.in-Some.plain c.args.rest.now c.extend_from_slice.new.self.items c.requires.quote (sym (rw take_rest at c.in-Some.ensures)) (c.in_ok-extend_from_slice.ensures).items in
    record {
      same = sym (other_quote s c.push.new.self.items c.if-b-quote.false (sym c.if-is_line_end.ensures) c.if-b-ne92.true (c.in_ok-push.ensures).items) ∙ l.invariant.same;
      utf8 = plain_utf8 _ (l.start + c.in-Some.plain) c.args.rest.now c.push.new.self.items s.inside (c.in_ok-push.ensures).items (subst IsUtf8 (sym s.whole) l.invariant.utf8);
      within = omega (arith, s.inside);
    }

pub returns-then-stop-rest-clause-exact : goal.returns-then-stop-rest-clause-exact
returns-then-stop-rest-clause-exact c =
    let l = c.loop-plain in
    let s = at_stop c.args.at c.args.quote l.out.items l.start c.in-Some.plain c.args.rest.now c.extend_from_slice.new.self.items c.requires.quote (sym (rw take_rest at c.in-Some.ensures)) (c.in_ok-extend_from_slice.ensures).items in
    let escaped = sym l.invariant.same ∙ backslash_turned s c.if-b-quote.false (sym c.if-is_line_end.ensures) c.if-b-ne92.false in
    rw c.fault-then-stop-rest.ensures (elim c.then-stop-rest.branch [
      | then-stop-rest-via-then-stop-rest w ↦ escaped ∙ ends_escaped c.args.at c.args.quote _ (l.start + c.in-Some.plain) c.args.rest.now w.if-stop-rest.true
      | then-stop-rest-via-else-stop-rest+then-not-is_escape w ↦ escaped ∙ no_escape s w.if-stop-rest.false (sym (w.if-not-is_escape.ensures).exact)
    ])

pub returns-clause-exact : goal.returns-clause-exact
returns-clause-exact c =
    let l = c.loop-plain in
    rw c.fault-2.ensures (sym l.invariant.same ∙ unclosed c.args.at c.args.quote l.out.items l.start c.args.rest.now c.requires.quote (sym (rw take_rest at c.in_default.ensures)))

pub loop-plain-preserved : goal.loop-plain-preserved
loop-plain-preserved c =
    let l = c.loop-plain in
    let rest = c.args.rest.now in
    let stop = l.start + c.in-Some.plain in
    let s = at_stop c.args.at c.args.quote l.out.items l.start c.in-Some.plain rest c.extend_from_slice.new.self.items c.requires.quote (sym (rw take_rest at c.in-Some.ensures)) (c.in_ok-extend_from_slice.ensures).items in
    let escaped = backslash_turned s c.if-b-quote.false (sym c.if-is_line_end.ensures) c.if-b-ne92.false in
    let more : c.push-in-Some.new.self.items ≡ c.extend_from_slice.new.self.items ++ (unescape (get_or rest (stop + 1) 0) ∷ []) = (c.in_ok-push-2.ensures).items ∙ ap (λ b. c.extend_from_slice.new.self.items ++ (b ∷ [])) (c.unescape.ensures).exact in
    let turned = escape_turned s c.push-in-Some.new.self.items c.if-stop-rest.false c.if-b-ne92.false (sym (c.if-not-is_escape.ensures).exact) more in
    record {
      same = sym (escaped ∙ turned.0) ∙ l.invariant.same;
      utf8 = turned.1 (subst IsUtf8 (sym s.whole) l.invariant.utf8);
      within = turned.2;
    }
