-- The tokens of a text without their places: they are those of its pieces, in whatever way it is cut into pieces.
use Rattle.std.proofs.Common.{◌≡◌, ℕ, ◌+◌, List, [], ◌∷◌, drop, map, length, Option, Some, None, Result, Ok, refl, sym, ap, ◌∙◌, arith}
use Rattle.module_semantics.specs.Token.{Token, Lexeme}
use Rattle.module_semantics.specs.Lexing.{after_token, front}
use Rattle.module_semantics.specs.Lines.{line_tokens, line_tokens_from}
use Rattle.module_semantics.specs.Pieces.{Piece, first, more, spelled, spelled_all, token_of, size, Fit, with_token, tokens_from}
use Rattle.module_semantics.specs.declared.tokens.After.{After}
use Rattle.module_semantics.specs.declared.tokens.LexFault.{LexFault}
use Rattle.module_semantics.proofs.PiecesLex.{front_reads, drop_size}
use Rattle.module_semantics.proofs.CanonLevels.{tokens_in}
use Rattle.module_semantics.proofs.Layouts.{and_token, tokens_of}

unfoldable pub lexeme_tokens : List Lexeme → List Token
lexeme_tokens ts = map (λ t. t.token) ts

one_lexeme : (at : ℕ) (t : Option Token) (n : ℕ) (ts : List Lexeme) (us : List Token) → lexeme_tokens ts ≡ us → lexeme_tokens (with_token at t n ts) ≡ and_token t us
unfolding lexeme_tokens
one_lexeme at None n ts us h = h
one_lexeme at (Some t) n ts us h = ap (λ v. t ∷ v) h

pub piece_tokens : (at : ℕ) (ps : List Piece) → lexeme_tokens (tokens_from at ps) ≡ tokens_of ps
unfolding lexeme_tokens
piece_tokens at [] = refl
piece_tokens at (p ∷ ps) = one_lexeme at (token_of p) (size p) (tokens_from (at + size p) ps) (tokens_of ps) (piece_tokens (at + size p) ps)

pub same_length : (ts : List Lexeme) → length (lexeme_tokens ts) ≡ length ts
unfolding lexeme_tokens
same_length [] = refl
same_length (t ∷ ts) = omega (arith, same_length ts)

line_tokens_same : (text : List ℕ) (end : ℕ) (ts : List Lexeme) → tokens_in (line_tokens_from text end ts) ≡ lexeme_tokens ts
unfolding lexeme_tokens line_tokens_from
line_tokens_same text end [] = refl
line_tokens_same text end (t ∷ ts) = ap (λ v. t.token ∷ v) (line_tokens_same text (t.at + t.len) ts)

pub all_line_tokens : (text : List ℕ) (ts : List Lexeme) → tokens_in (line_tokens text ts) ≡ lexeme_tokens ts
unfolding line_tokens
all_line_tokens text ts = line_tokens_same text 0 ts

-- a text is pieces in one way, as far as their tokens go, however many they are
first_same : (o p : Option Token) (n m : ℕ) → ◌≡◌ {A = Result (Option Token × ℕ) LexFault} (Ok (o, n)) (Ok (p, m)) → (o ≡ p) × (n ≡ m)
first_same o p n m h = let e : ◌≡◌ {A = Option Token × ℕ} (o, n) (p, m) = cc in (ap (λ v. v.0) e, ap (λ v. v.1) e)

pub same_tokens : (before other : After) (ps qs : List Piece) → Fit before ps [] → Fit other qs [] → spelled_all ps [] ≡ spelled_all qs [] → tokens_of ps ≡ tokens_of qs
same_tokens before other [] [] f g h = refl
same_tokens before other [] (q ∷ qs) f g h = absurd cc
same_tokens before other (p ∷ ps) [] f g h = absurd cc
same_tokens before other (p ∷ ps) (q ∷ qs) f g h =
    let k = spelled_all ps [] in
    let j = spelled_all qs [] in
    let byte : first p ≡ first q = cc in
    let bytes : more p k ≡ more q j = cc in
    let one = first_same _ _ _ _ (sym (front_reads 0 p k f.0 f.1) ∙ ap (λ b. front 0 b (more p k)) byte ∙ ap (front 0 (first q)) bytes ∙ front_reads 0 q j g.0 g.1) in
    let rest : k ≡ j = sym (drop_size p k) ∙ ap (λ n. drop n (spelled p k)) one.1 ∙ ap (drop (size q)) h ∙ drop_size q j in
    let others = same_tokens (after_token (token_of p)) (after_token (token_of q)) ps qs f.3 g.3 rest in
    rw (one.0, others) refl
