use Rattle.std.proofs.Common.{List, [], ◌∷◌, codes, decimal}
use Rattle.json.specs.Token.{Token}
use Rattle.json.specs.Token as token
use Rattle.message_text.proofs.Written.{then_put}
use Rattle.message_text.proofs.client.put_rootless.Goals as goal

pub returns-clause-tokens : goal.returns-clause-tokens
returns-clause-tokens c =
    let r = c.end_object.result in
    let t : List Token = c.args.out.now.tokens in
    let u1 : List Token = c.begin_object.new.self.tokens in
    let u2 : List Token = c.key.new.self.tokens in
    let u3 : List Token = c.u64.new.self.tokens in
    let u4 : List Token = c.put_text.new.out.tokens in
    let v : List Token = c.end_object.new.self.tokens in
    let y4 : List Token = token.end_object ∷ [] in
    let y3 : List Token = token.key (codes "type") ∷ token.string (codes "hello") ∷ y4 in
    let y2 : List Token = token.number (decimal c.args.format) ∷ y3 in
    let y1 : List Token = token.key (codes "format") ∷ y2 in
    then_put r t u1 v (token.begin_object ∷ []) y1 c.in_ok-begin_object.ensures.ok (
    then_put r u1 u2 v (token.key (codes "format") ∷ []) y2 c.in_ok-key.ensures.ok (
    then_put r u2 u3 v (token.number (decimal c.args.format) ∷ []) y3 c.in_ok-u64.ensures.ok (
    then_put r u3 u4 v (token.key (codes "type") ∷ token.string (codes "hello") ∷ []) y4 c.in_ok-put_text.ensures.tokens (
    c.end_object.ensures.ok))))
