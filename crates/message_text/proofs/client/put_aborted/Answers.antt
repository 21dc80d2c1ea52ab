use Rattle.std.proofs.Common.{ℕ, List, [], ◌∷◌, codes, ◌++◌, ap, ◌∙◌}
use Rattle.json.specs.Token.{Token}
use Rattle.json.specs.Token as token
use Rattle.message_text.specs.Values.{or_null, tokens_of}
use Rattle.message_text.specs.Words.{abort_word}
use Rattle.message_text.proofs.Written.{then_put}
use Rattle.message_text.proofs.client.put_aborted.Goals as goal

pub returns-clause-tokens : goal.returns-clause-tokens
returns-clause-tokens c =
    let r = c.end_object.result in
    let t : List Token = c.args.out.now.tokens in
    let u1 : List Token = c.begin_object.new.self.tokens in
    let u2 : List Token = c.key.new.self.tokens in
    let u3 : List Token = c.string.new.self.tokens in
    let u4 : List Token = c.key-2.new.self.tokens in
    let u5 : List Token = c.put_name_or_null.new.out.tokens in
    let u6 : List Token = c.key-3.new.self.tokens in
    let u7 : List Token = c.put_text_or_null.new.out.tokens in
    let u8 : List Token = c.key-4.new.self.tokens in
    let u9 : List Token = c.string-2.new.self.tokens in
    let u10 : List Token = c.put_text.new.out.tokens in
    let v : List Token = c.end_object.new.self.tokens in
    let y10 : List Token = token.end_object ∷ [] in
    let y9 : List Token = token.key (codes "type") ∷ token.string (codes "aborted") ∷ y10 in
    let y8 : List Token = token.string c.args.path.now ∷ y9 in
    let y7 : List Token = token.key (codes "path") ∷ y8 in
    let y6 : List Token = tokens_of (or_null c.args.name.now) ++ y7 in
    let y5 : List Token = token.key (codes "name") ∷ y6 in
    let y4 : List Token = tokens_of (or_null c.args.from.now) ++ y5 in
    let y3 : List Token = token.key (codes "from") ∷ y4 in
    let y2 : List Token = token.string (abort_word c.args.cause) ∷ y3 in
    let y1 : List Token = token.key (codes "cause") ∷ y2 in
    then_put r t u1 v (token.begin_object ∷ []) y1 c.in_ok-begin_object.ensures.ok (
    then_put r u1 u2 v (token.key (codes "cause") ∷ []) y2 c.in_ok-key.ensures.ok (
    then_put r u2 u3 v (token.string (abort_word c.args.cause) ∷ []) y3 (c.in_ok-string.ensures.ok ∙ ap (λ (s : List ℕ). u2 ++ token.string s ∷ []) c.abort_str.ensures) (
    then_put r u3 u4 v (token.key (codes "from") ∷ []) y4 c.in_ok-key-2.ensures.ok (
    then_put r u4 u5 v (tokens_of (or_null c.args.from.now)) y5 c.in_ok-put_name_or_null.ensures.tokens (
    then_put r u5 u6 v (token.key (codes "name") ∷ []) y6 c.in_ok-key-3.ensures.ok (
    then_put r u6 u7 v (tokens_of (or_null c.args.name.now)) y7 c.in_ok-put_text_or_null.ensures.tokens (
    then_put r u7 u8 v (token.key (codes "path") ∷ []) y8 c.in_ok-key-4.ensures.ok (
    then_put r u8 u9 v (token.string c.args.path.now ∷ []) y9 (c.in_ok-string-2.ensures.ok ∙ ap (λ (s : List ℕ). u8 ++ token.string s ∷ []) c.as_str.ensures.value) (
    then_put r u9 u10 v (token.key (codes "type") ∷ token.string (codes "aborted") ∷ []) y10 c.in_ok-put_text.ensures.tokens (
    c.end_object.ensures.ok))))))))))
