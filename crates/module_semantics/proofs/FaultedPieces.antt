-- What is wrong by the rules is a fault of lexing.
use Rattle.std.proofs.Common.{◌≡◌, ℕ, suc, ◌+◌, ◌*◌, ◌-◌, ◌<◌, ◌≤◌, List, [], ◌∷◌, ◌++◌, length, Bool, true, false, not, ◌&&◌, ◌==◌, nat_lt, inl, inr, Option, Some, None, Result, Ok, Err, refl, sym, ap, ◌∙◌, arith}
use Rattle.std.proofs.lemmas.List.{append-nil}
use Rattle.std.specs.Prelude.{if◌then◌else◌}
use Rattle.std.proofs.lemmas.Bool.{eqb-true}
use Rattle.module_semantics.specs.Token.{Token, Lexeme}
use Rattle.module_semantics.specs.Bytes.{is_digit, is_quote, is_line_end, not_line_end, is_escape, unescape}
use Rattle.module_semantics.specs.Lexing.{begins, single, double, barred, after_token, front, number_at, number_from, text_at, text_from, comment_at, comment_from, punct_at, marked, step, added, lex_from, lexing}
use Rattle.module_semantics.specs.Pieces.{Part, plain, escaped, Piece, spelled_parts, parts_size, first, spelled, size, value, token_of, all, opens, unclosed, are_inside, IsPiece, IsLongest, spelled_all, Fit, with_token, tokens_from, IsLexing}
use Rattle.module_semantics.specs.declared.tokens.After.{After}
use Rattle.module_semantics.specs.declared.tokens.After.TheVariants.{Other}
use Rattle.hmr_types.specs.declared.limits.TheConstants.{TOKENS, LARGEST_NUMBER}
use Rattle.module_semantics.proofs.PiecesLex.{both, nots, drop_size, longer, with_more, is_lexed}
use Rattle.module_semantics.specs.declared.tokens.LexFault.{LexFault}
use Rattle.module_semantics.proofs.LexedPieces.{large_not, digit_small}
use Rattle.module_semantics.specs.LexFaults.{BeginsNothing, WrongPiece, Wrong, IsFirstLexFault}
use Rattle.module_semantics.specs.Pieces.{last_of, size_all}
use Rattle.module_semantics.specs.Lexing.{lex_fault}
use Rattle.module_semantics.specs.declared.tokens.LexKind.{LexKind}
use Rattle.module_semantics.specs.declared.tokens.LexKind.TheVariants.{BadByte, OpenString, OpenComment, BadEscape, NumberTooLarge, TooManyTokens, NoMemory}
use Rattle.module_semantics.proofs.PiecesLex.{front_reads, token_added, quote_not, digit_not, no_line_end, went_some, slash_front, is_lexed}

zero_plus : (n : ℕ) → 0 + n ≡ n
zero_plus n = omega arith

plus_zero : (n : ℕ) → n + 0 ≡ n
plus_zero n = omega arith

one_turn : (n at : ℕ) (last : After) (done : List Lexeme) (p : Piece) (k : List ℕ) (ts : List Lexeme) → IsPiece p → IsLongest p k → barred last (first p) ≡ false → length (done ++ with_token at (token_of p) (size p) ts) ≤ TOKENS
    → lex_from (suc n) at last done (spelled p k) ≡ lex_from n (at + size p) (after_token (token_of p)) (done ++ with_token at (token_of p) (size p) []) k
unfolding lex_from step
one_turn n at last done p k ts good long free few =
    rw (free, front_reads at p k good long, token_added at done (token_of p) (size p) ts few) (ap (lex_from n (at + size p) (after_token (token_of p)) (done ++ with_token at (token_of p) (size p) [])) (drop_size p k))

-- the turns of pieces, whatever follows them
lex_runs : (n at : ℕ) (last : After) (done : List Lexeme) (ps : List Piece) (k : List ℕ) → Fit last ps k → length (done ++ tokens_from at ps) ≤ TOKENS
    → lex_from (length ps + n) at last done (spelled_all ps k) ≡ lex_from n (at + size_all ps) (last_of last ps) (done ++ tokens_from at ps) k
lex_runs n at last done [] k f few = rw (zero_plus n, plus_zero at, append-nil done) refl
lex_runs n at last done (p ∷ ps) k f few =
    let rest = spelled_all ps k in
    let next = done ++ with_token at (token_of p) (size p) [] in
    let whole = with_more at done (token_of p) (size p) (tokens_from (at + size p) ps) in
    let few' : length (next ++ tokens_from (at + size p) ps) ≤ TOKENS = rw whole few in
    let ih = lex_runs n (at + size p) (after_token (token_of p)) next ps k f.3 few' in
    let place : at + size p + size_all ps ≡ at + (size p + size_all ps) = omega arith in
    let turns : suc (length ps) + n ≡ suc (length ps + n) = omega arith in
    ap (λ m. lex_from m at last done (spelled p rest)) turns ∙ one_turn (length ps + n) at last done p rest (tokens_from (at + size p) ps) f.0 f.1 f.2 few ∙ ih ∙ rw (place, whole) refl

fewer : (ps : List Piece) (k : List ℕ) → length ps + length k ≤ length (spelled_all ps k)
fewer [] k = omega arith
fewer (p ∷ ps) k = omega (arith, longer p (spelled_all ps k), fewer ps k)

-- a fault of the step is one of the whole
runs_into : (ps : List Piece) (b : ℕ) (k : List ℕ) (f : LexFault) (last : After) → Fit last ps (b ∷ k) → length (tokens_from 0 ps) ≤ TOKENS
    → step (size_all ps) (last_of last ps) (tokens_from 0 ps) b k ≡ Err f → lex_from (length (spelled_all ps (b ∷ k))) 0 last [] (spelled_all ps (b ∷ k)) ≡ Err f
unfolding lex_from
runs_into ps b k f last fit few h =
    let n : ℕ = length (spelled_all ps (b ∷ k)) - length ps - 1 in
    let turns : length (spelled_all ps (b ∷ k)) ≡ length ps + suc n = omega (arith, fewer ps (b ∷ k)) in
    let run = lex_runs (suc n) 0 last [] ps (b ∷ k) fit few in
    let place : 0 + size_all ps ≡ size_all ps = omega arith in
    ap (λ m. lex_from m 0 last [] (spelled_all ps (b ∷ k))) turns ∙ run ∙ rw (place, h) refl

number_by : (at v n d : ℕ) (ds k : List ℕ) (t : Bool) → nat_lt LARGEST_NUMBER (10 * v + (d - 48)) ≡ t → (10 * v + (d - 48) ≤ LARGEST_NUMBER → number_from at (10 * v + (d - 48)) (suc n) (ds ++ k) ≡ Err (lex_fault NumberTooLarge at))
    → ◌≡◌ {A = Result (ℕ × ℕ) LexFault} (if nat_lt LARGEST_NUMBER (10 * v + (d - 48)) then Err (lex_fault NumberTooLarge at) else number_from at (10 * v + (d - 48)) (suc n) (ds ++ k)) (Err (lex_fault NumberTooLarge at))
number_by at v n d ds k true h ih = rw h refl
number_by at v n d ds k false h ih = rw h (ih (large_not _ h))

not_false : (a : Bool) → not a ≡ false → a ≡ true
not_false true h = refl
not_false false h = cc

ends_line : (c : ℕ) (k : List ℕ) → opens not_line_end (c ∷ k) ≡ false → is_line_end c ≡ true
unfolding opens not_line_end
ends_line c k h = not_false _ h

line_end_no_quote : (q c : ℕ) → is_quote q ≡ true → is_line_end c ≡ true → (c == q) ≡ false
unfolding is_quote is_line_end
line_end_no_quote q c h e = grind arith

large_yes : (v : ℕ) → LARGEST_NUMBER < v → nat_lt LARGEST_NUMBER v ≡ true
large_yes v h = search (arith)

number_fails : (at v n : ℕ) (ds k : List ℕ) → all is_digit ds ≡ true → v ≤ LARGEST_NUMBER → LARGEST_NUMBER < value v ds → number_from at v n (ds ++ k) ≡ Err (lex_fault NumberTooLarge at)
unfolding number_from all
number_fails at v n [] k h few long = absurd (omega (arith, few, long))
number_fails at v n (d ∷ ds) k h few long =
    let t = both (is_digit d) (all is_digit ds) h in
    rw t.0 (number_by at v n d ds k (nat_lt LARGEST_NUMBER (10 * v + (d - 48))) refl (λ small. number_fails at (10 * v + (d - 48)) (suc n) ds k t.1 small long))

comment_fails : (at n : ℕ) (k : List ℕ) → unclosed k ≡ true → comment_from at n k ≡ Err (lex_fault OpenComment at)
unfolding comment_from unclosed
comment_fails at n [] h = refl
comment_fails at n (b ∷ k) h =
    let t = both (not (b == 42 && begins 47 k)) (unclosed k) h in
    rw (nots _ t.0) (comment_fails at (suc n) k t.1)

text_opens : (at q : ℕ) (out : List ℕ) (n : ℕ) (ps : List Part) (k : List ℕ) → is_quote q ≡ true → are_inside q ps ≡ true → opens not_line_end k ≡ false → text_from at q out n false (spelled_parts ps k) ≡ Err (lex_fault OpenString at)
unfolding text_from are_inside
text_opens at q out n [] [] is h e = refl
text_opens at q out n [] (c ∷ k) is h e = rw (line_end_no_quote q c is (ends_line c k e), ends_line c k e) refl
text_opens at q out n (plain b ∷ ps) k is h e =
    let t = both (not (b == q) && not (is_line_end b) && not (b == 92)) (are_inside q ps) h in
    let u = both (not (b == q) && not (is_line_end b)) (not (b == 92)) t.0 in
    let f = both (not (b == q)) (not (is_line_end b)) u.0 in
    rw (nots _ f.0, nots _ f.1, nots _ u.1) (text_opens at q (out ++ (b ∷ [])) (suc n) ps k is t.1 e)
text_opens at q out n (escaped b ∷ ps) k is h e =
    let t = both (is_escape b) (are_inside q ps) h in
    rw ((quote_not q is).3, no_line_end, t.0) (text_opens at q (out ++ (unescape b ∷ [])) (suc (suc n)) ps k is t.1 e)

bad_escape : (at n : ℕ) (q : ℕ) (out k : List ℕ) → opens is_escape k ≡ false → text_from at q out n true k ≡ Err (lex_fault BadEscape (at + n))
unfolding text_from opens
bad_escape at n q out [] h = refl
bad_escape at n q out (c ∷ k) h = rw h refl

text_breaks : (at q : ℕ) (out : List ℕ) (n : ℕ) (ps : List Part) (k : List ℕ) → is_quote q ≡ true → are_inside q ps ≡ true → opens is_escape k ≡ false → text_from at q out n false (spelled_parts ps (92 ∷ k)) ≡ Err (lex_fault BadEscape (at + suc (n + parts_size ps)))
unfolding text_from are_inside
text_breaks at q out n [] k is h e = rw ((quote_not q is).3, no_line_end) (bad_escape at (suc n) q out k e ∙ ap (λ m. Err (lex_fault BadEscape (at + m))) (omega arith))
text_breaks at q out n (plain b ∷ ps) k is h e =
    let t = both (not (b == q) && not (is_line_end b) && not (b == 92)) (are_inside q ps) h in
    let u = both (not (b == q) && not (is_line_end b)) (not (b == 92)) t.0 in
    let f = both (not (b == q)) (not (is_line_end b)) u.0 in
    rw (nots _ f.0, nots _ f.1, nots _ u.1) (text_breaks at q (out ++ (b ∷ [])) (suc n) ps k is t.1 e ∙ ap (λ m. Err (lex_fault BadEscape (at + m))) (omega arith))
text_breaks at q out n (escaped b ∷ ps) k is h e =
    let t = both (is_escape b) (are_inside q ps) h in
    rw ((quote_not q is).3, no_line_end, t.0) (text_breaks at q (out ++ (unescape b ∷ [])) (suc (suc n)) ps k is t.1 e ∙ ap (λ m. Err (lex_fault BadEscape (at + m))) (omega arith))

double_single : (b c p : ℕ) → double b c ≡ Some p → (m : ℕ) × (single b ≡ Some m)
unfolding double single marked
double_single b c p h = elim (went_some (b == 61 && c == 62) 15 _ p h) [
  | inl w ↦ (9, rw (eqb-true b 61 (both (b == 61) (c == 62) w).0) refl)
  | inr w ↦ elim (went_some (b == 63 && c == 46) 16 _ p w) [
    | inl v ↦ (13, rw (eqb-true b 63 (both (b == 63) (c == 46) v).0) refl)
    | inr v ↦ elim (went_some (b == 63 && c == 63) 17 _ p v) [
      | inl u ↦ (13, rw (eqb-true b 63 (both (b == 63) (c == 63) u).0) refl)
      | inr u ↦ cc
    ]
  ]
]

double_none : (b c : ℕ) (o : Option ℕ) → double b c ≡ o → single b ≡ None → double b c ≡ None
double_none b c None e h = e
double_none b c (Some p) e h = let s = double_single b c p e in cc

punct_fails : (at b : ℕ) (bs : List ℕ) → single b ≡ None → punct_at at b bs ≡ Err (lex_fault BadByte at)
unfolding punct_at
punct_fails at b [] h = rw h refl
punct_fails at b (c ∷ bs) h = rw (double_none b c (double b c) refl h, h) refl

blank_fails : (at b : ℕ) (bs : List ℕ) → begins 47 bs ≡ false → begins 42 bs ≡ false → comment_at at bs ≡ Err (lex_fault BadByte at)
unfolding comment_at begins
blank_fails at b [] h k = refl
blank_fails at b (c ∷ bs) h k = rw (h, k) refl

open_comment : (at b : ℕ) (k : List ℕ) → unclosed k ≡ true → comment_at at (42 ∷ k) ≡ Err (lex_fault OpenComment at)
unfolding comment_at
open_comment at b k h = rw (comment_fails at 2 k h) refl

nothing_fails : (at b : ℕ) (bs : List ℕ) (t : Bool) → (b == 47) ≡ t → BeginsNothing b bs → front at b bs ≡ Err (lex_fault BadByte at)
unfolding front
nothing_fails at b bs true e n = rw (n.blank, n.name, n.digit, n.quote, e) (blank_fails at b bs (n.comment e).0 (n.comment e).1)
nothing_fails at b bs false e n = rw (n.blank, n.name, n.digit, n.quote, e) (punct_fails at b bs n.mark)

quote_front : (at b : ℕ) (bs : List ℕ) (f : LexFault) → is_quote b ≡ true → text_from at b [] 0 false bs ≡ Err f → front at b bs ≡ Err f
unfolding front text_at
quote_front at b bs f is h = rw ((quote_not b is).0, (quote_not b is).1, (quote_not b is).2, is, h) refl

digit_front : (at b : ℕ) (bs : List ℕ) (f : LexFault) → is_digit b ≡ true → (b == 48) ≡ false → number_from at (b - 48) 1 bs ≡ Err f → front at b bs ≡ Err f
unfolding front number_at
digit_front at b bs f is z h = rw ((digit_not b is).0, (digit_not b is).1, is, z, h) refl

front_fails : (at b : ℕ) (bs : List ℕ) (kind : LexKind) (place : ℕ) → WrongPiece at b bs kind place → front at b bs ≡ Err (lex_fault kind place)
front_fails at b bs BadByte place w = nothing_fails at b bs (b == 47) refl w.1 ∙ ap (λ m. Err (lex_fault BadByte m)) (sym w.0)
front_fails at b bs OpenString place w =
    quote_front at b bs (lex_fault OpenString at) w.3 (ap (text_from at b [] 0 false) w.4 ∙ text_opens at b [] 0 w.0 w.1 w.3 w.5 w.6) ∙ ap (λ m. Err (lex_fault OpenString m)) (sym w.2)
front_fails at b bs BadEscape place w =
    quote_front at b bs (lex_fault BadEscape (at + suc (0 + parts_size w.0))) w.3 (ap (text_from at b [] 0 false) w.4 ∙ text_breaks at b [] 0 w.0 w.1 w.3 w.5 w.6) ∙ ap (λ m. Err (lex_fault BadEscape m)) (omega (arith, w.2))
front_fails at b bs OpenComment place w =
    rw (w.2, w.3) (slash_front at (42 ∷ w.0) ∙ open_comment at 47 w.0 w.4 ∙ ap (λ m. Err (lex_fault OpenComment m)) (sym w.1))
front_fails at b bs NumberTooLarge place w =
    digit_front at b bs (lex_fault NumberTooLarge at) w.3 w.4 (ap (number_from at (b - 48) 1) w.5 ∙ number_fails at (b - 48) 1 w.0 w.1 w.6 (digit_small b w.3) w.8) ∙ ap (λ m. Err (lex_fault NumberTooLarge m)) (sym w.2)
front_fails at b bs TooManyTokens place w = absurd w
front_fails at b bs NoMemory place w = absurd w

step_barred : (at : ℕ) (last : After) (done : List Lexeme) (b : ℕ) (bs : List ℕ) → barred last b ≡ true → step at last done b bs ≡ Err (lex_fault BadByte at)
unfolding step
step_barred at last done b bs h = rw h refl

step_front : (at : ℕ) (last : After) (done : List Lexeme) (b : ℕ) (bs : List ℕ) (f : LexFault) → barred last b ≡ false → front at b bs ≡ Err f → step at last done b bs ≡ Err f
unfolding step
step_front at last done b bs f h e = rw (h, e) refl

no_room : (n : ℕ) → TOKENS ≤ n → nat_lt n TOKENS ≡ false
no_room n h = search (arith)

step_full : (at : ℕ) (last : After) (done : List Lexeme) (b : ℕ) (bs : List ℕ) (t : Token) (n : ℕ) → barred last b ≡ false → front at b bs ≡ Ok (Some t, n) → TOKENS ≤ length done → step at last done b bs ≡ Err (lex_fault TooManyTokens at)
unfolding step added
step_full at last done b bs t n h e m = rw (h, e, no_room (length done) m) refl

same_fault : (f : LexFault) (kind : LexKind) (place : ℕ) → f.kind ≡ kind → f.at ≡ place → lex_fault kind place ≡ f
same_fault f kind place h k = rw (← h, ← k) refl

step_fails : (at : ℕ) (last : After) (done : List Lexeme) (b : ℕ) (bs : List ℕ) (f : LexFault) → Wrong last (length done) at b bs f → step at last done b bs ≡ Err f
step_fails at last done b bs f (inl w) = step_barred at last done b bs w.2 ∙ ap Err (same_fault f BadByte at w.0 w.1)
step_fails at last done b bs f (inr (inl w)) = step_front at last done b bs f w.0 (front_fails at b bs f.kind f.at w.1)
step_fails at last done b bs f (inr (inr w)) =
    let reads : front at b bs ≡ Ok (Some w.6, size w.4) = rw (← w.7, w.8, ← w.9) (front_reads at w.4 w.5 w.10 w.11) in
    step_full at last done b bs w.6 (size w.4) w.2 reads w.3 ∙ ap Err (same_fault f TooManyTokens at w.0 w.1)

pub is_faulted : (bytes : List ℕ) (f : LexFault) → IsFirstLexFault bytes f → lexing bytes ≡ Err f
unfolding lexing
is_faulted bytes f l =
    rw l.whole (runs_into l.pieces l.b l.rest f Other l.fit l.few (step_fails (size_all l.pieces) (last_of Other l.pieces) (tokens_from 0 l.pieces) l.b l.rest f l.wrong))

pub one_fault : (bytes : List ℕ) (f g : LexFault) → IsFirstLexFault bytes f → IsFirstLexFault bytes g → f ≡ g
one_fault bytes f g a b = let one = is_faulted bytes f a in let other = is_faulted bytes g b in cc

pub not_both : (bytes : List ℕ) (ts : List Lexeme) (f : LexFault) → IsLexing bytes ts → IsFirstLexFault bytes f → ⊥
not_both bytes ts f a b = let one = is_lexed bytes ts a in let other = is_faulted bytes f b in cc
