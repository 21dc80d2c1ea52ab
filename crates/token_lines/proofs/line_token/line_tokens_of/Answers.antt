use Rattle.std.proofs.Common.{◌≡◌, ◌++◌, ◌∷◌, [], arith, length, suc, ap, ◌∙◌, sym}
use Rattle.std.proofs.lemmas.List.{append-nil}
use Rattle.std.specs.Vec.Iter.{into_iter_items, into_iter_len}
use Rattle.token_lines.proofs.LineTurns.{next_between, none_left, token_turned, tokens_ended}
use Rattle.token_lines.proofs.line_token.line_tokens_of.Goals as goal

pub line_token-requires-clause-within : goal.line_token-requires-clause-within
line_token-requires-clause-within c =
    let l = c.loop-token in
    (next_between l.end (length c.args.text.now) c.in-Some.token (into_iter_items l.rest) (into_iter_items c.next.new.self) c.in-Some.ensures.items l.invariant.order).1

pub loop-token-preserved : goal.loop-token-preserved
loop-token-preserved c =
    let l = c.loop-token in
    let more : c.push.new.self.items ≡ l.made.items ++ (_ ∷ []) = c.in_ok-push.ensures.items ∙ ap (λ x. l.made.items ++ (x ∷ [])) c.line_token.ensures in
    let fewer : suc (into_iter_len c.next.new.self) ≡ into_iter_len l.rest = omega (arith, c.in-Some.ensures.len) in
    let shorter : length (into_iter_items l.rest) ≡ suc (length (into_iter_items c.next.new.self)) = ap length c.in-Some.ensures.items in
    record {
      count = omega (arith, fewer, shorter, l.invariant.count);
      going = token_turned c.args.text.now l.end c.in-Some.token (into_iter_items l.rest) (into_iter_items c.next.new.self) l.made.items c.push.new.self.items _ c.in-Some.ensures.items more l.invariant.going;
      order = (next_between l.end (length c.args.text.now) c.in-Some.token (into_iter_items l.rest) (into_iter_items c.next.new.self) c.in-Some.ensures.items l.invariant.order).2;
    }

pub returns : goal.returns
returns c =
    let l = c.loop-token in
    let empty : into_iter_items l.rest ≡ [] = none_left (into_iter_items l.rest) (sym l.invariant.count ∙ c.in_default.ensures.cases.0) in
    sym (append-nil l.made.items) ∙ tokens_ended c.args.text.now l.end (into_iter_items l.rest) l.made.items _ empty l.invariant.going
