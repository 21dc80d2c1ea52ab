use Rattle.std.proofs.Common.{ℕ, List, [], ◌∷◌, codes, ◌++◌, ap, ◌∙◌, decimal}
use Rattle.json.specs.Token.{Token}
use Rattle.json.specs.Token as token
use Rattle.message_text.proofs.Written.{then_put}
use Rattle.message_text.proofs.client.put_invalidate.Goals as goal

pub returns-clause-tokens : goal.returns-clause-tokens
returns-clause-tokens c =
    let r = c.end_object.result in
    let t : List Token = c.args.out.now.tokens in
    let u1 : List Token = c.begin_object.new.self.tokens in
    let u2 : List Token = c.key.new.self.tokens in
    let u3 : List Token = c.string.new.self.tokens in
    let u4 : List Token = c.key-2.new.self.tokens in
    let u5 : List Token = c.string-2.new.self.tokens in
    let u6 : List Token = c.put_text.new.out.tokens in
    let u7 : List Token = c.key-3.new.self.tokens in
    let u8 : List Token = c.u64.new.self.tokens in
    let v : List Token = c.end_object.new.self.tokens in
    let y8 : List Token = token.end_object ∷ [] in
    let y7 : List Token = token.number (decimal c.args.version) ∷ y8 in
    let y6 : List Token = token.key (codes "version") ∷ y7 in
    let y5 : List Token = token.key (codes "type") ∷ token.string (codes "invalidate") ∷ y6 in
    let y4 : List Token = token.string c.args.path.now ∷ y5 in
    let y3 : List Token = token.key (codes "path") ∷ y4 in
    let y2 : List Token = token.string c.args.message.now ∷ y3 in
    let y1 : List Token = token.key (codes "message") ∷ y2 in
    then_put r t u1 v (token.begin_object ∷ []) y1 c.in_ok-begin_object.ensures.ok (
    then_put r u1 u2 v (token.key (codes "message") ∷ []) y2 c.in_ok-key.ensures.ok (
    then_put r u2 u3 v (token.string c.args.message.now ∷ []) y3 (c.in_ok-string.ensures.ok ∙ ap (λ (s : List ℕ). u2 ++ token.string s ∷ []) c.as_str.ensures) (
    then_put r u3 u4 v (token.key (codes "path") ∷ []) y4 c.in_ok-key-2.ensures.ok (
    then_put r u4 u5 v (token.string c.args.path.now ∷ []) y5 (c.in_ok-string-2.ensures.ok ∙ ap (λ (s : List ℕ). u4 ++ token.string s ∷ []) c.as_str-2.ensures.value) (
    then_put r u5 u6 v (token.key (codes "type") ∷ token.string (codes "invalidate") ∷ []) y6 c.in_ok-put_text.ensures.tokens (
    then_put r u6 u7 v (token.key (codes "version") ∷ []) y7 c.in_ok-key-3.ensures.ok (
    then_put r u7 u8 v (token.number (decimal c.args.version) ∷ []) y8 c.in_ok-u64.ensures.ok (
    c.end_object.ensures.ok))))))))
