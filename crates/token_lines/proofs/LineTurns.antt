-- Line feeds between tokens, and the turns of the loop over the tokens of a text.
use Rattle.std.proofs.Common.{◌≡◌, ℕ, zero, suc, ◌+◌, ◌-◌, ◌≤◌, ◌==◌, List, [], ◌∷◌, ◌++◌, take, drop, length, append_assoc, nat_lt, Bool, true, false, if◌then◌else◌, refl, sym, ap, ◌∙◌, subst, arith}
use Rattle.std.proofs.Math.Seq.{take-add}
use Rattle.std.proofs.lemmas.Bool.{lt-ltb, le-ltb}
use Rattle.module_semantics.specs.Lines.{line_feeds, line_tokens_from}
use Rattle.module_semantics.specs.Token.{Lexeme, LineToken}
use Rattle.hot_lexer.specs.declared.token.Token.{Token}
use Rattle.hot_lexer.specs.Order.{AreBetween}
use Rattle.hot_lexer.specs.Token.{lexeme_of, lexemes_of}
use Rattle.token_lines.specs.Lines.{line_token_of}

one_more : (b : Bool) (m n k : ℕ) → k ≡ m + n → (if b then suc k else k) ≡ (if b then suc m else m) + n
one_more true m n k is = omega (arith, is)
one_more false m n k is = is

feeds_append : (xs ys : List ℕ) → line_feeds (xs ++ ys) ≡ line_feeds xs + line_feeds ys
unfolding line_feeds
feeds_append [] ys = omega arith
feeds_append (x ∷ xs) ys = one_more (x == 10) (line_feeds xs) (line_feeds ys) (line_feeds (xs ++ ys)) (feeds_append xs ys)

some_more : (m n : ℕ) → nat_lt 0 n ≡ nat_lt (suc m) (suc (m + n))
some_more m zero = sym (le-ltb (suc m) (suc (m + zero)) (omega arith))
some_more m (suc n) = lt-ltb 0 (suc n) (omega arith) ∙ sym (lt-ltb (suc m) (suc (m + suc n)) (omega arith))

-- a later line begins exactly where a line feed stands between
pub later_is : (text : List ℕ) (end at : ℕ) → end ≤ at → nat_lt 0 (line_feeds (take (at - end) (drop end text))) ≡ nat_lt (suc (line_feeds (take end text))) (suc (line_feeds (take at text)))
later_is text end at before =
    let is : at ≡ end + (at - end) = omega (arith, before) in
    let whole : line_feeds (take at text) ≡ line_feeds (take end text) + line_feeds (take (at - end) (drop end text)) = ap (λ n. line_feeds (take n text)) is ∙ ap line_feeds (take-add end (at - end) text) ∙ feeds_append (take end text) (take (at - end) (drop end text)) in
    some_more (line_feeds (take end text)) (line_feeds (take (at - end) (drop end text))) ∙ ap (λ n. nat_lt (suc (line_feeds (take end text))) (suc n)) (sym whole)

-- one token more
pub token_turned : (text : List ℕ) (end : ℕ) (t : Token) (items rest : List Token) (made next whole : List LineToken) → items ≡ t ∷ rest → next ≡ made ++ (line_token_of text end (lexeme_of t) ∷ [])
    → made ++ line_tokens_from text end (lexemes_of items) ≡ whole → next ++ line_tokens_from text (t.at + t.len) (lexemes_of rest) ≡ whole
unfolding line_tokens_from
token_turned text end t items rest made next whole is more so_far =
    ap (λ l. l ++ line_tokens_from text (t.at + t.len) (lexemes_of rest)) more ∙ append_assoc made (line_token_of text end (lexeme_of t) ∷ []) (line_tokens_from text (t.at + t.len) (lexemes_of rest)) ∙ sym (ap (λ l. made ++ line_tokens_from text end (lexemes_of l)) is) ∙ so_far

-- no token more
pub tokens_ended : (text : List ℕ) (end : ℕ) (items : List Token) (made whole : List LineToken) → items ≡ [] → made ++ line_tokens_from text end (lexemes_of items) ≡ whole → made ++ [] ≡ whole
unfolding line_tokens_from
tokens_ended text end items made whole is so_far = sym (ap (λ l. made ++ line_tokens_from text end (lexemes_of l)) is) ∙ so_far

pub rises : (a b : ℕ) (ts : List Lexeme) → AreBetween a b ts → a ≤ b
rises a b [] h = h
rises a b (t ∷ ts) h = omega (arith, h.0, rises (t.at + t.len) b ts h.2)

-- the next token stands after the end of the one before, and within the text
pub next_between : (a b : ℕ) (t : Token) (items rest : List Token) → items ≡ t ∷ rest → AreBetween a b (lexemes_of items) → (a ≤ t.at) × (t.at ≤ b) × AreBetween (t.at + t.len) b (lexemes_of rest)
next_between a b t items rest is h =
    let whole : AreBetween a b (lexemes_of (t ∷ rest)) = subst (λ l. AreBetween a b (lexemes_of l)) is h in
    (whole.0, omega (arith, rises (t.at + t.len) b (lexemes_of rest) whole.2), whole.2)

pub none_left : (items : List Token) → length items ≡ 0 → items ≡ []
none_left [] h = refl
none_left (t ∷ ts) h = absurd (omega (arith, h))
