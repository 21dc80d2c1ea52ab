-- What is made of pieces is lexed so.
use Rattle.std.proofs.Common.{◌≡◌, ℕ, zero, suc, ◌+◌, ◌*◌, ◌-◌, ◌≤◌, List, [], ◌∷◌, ◌++◌, length, drop, take, Bool, true, false, not, cond, ◌&&◌, ◌==◌, ◌||◌, eqb, nat_lt, ◌⊎◌, inl, inr, Option, Some, None, Ok, refl, sym, ap, ◌∙◌, arith, append_assoc, length-append, length-drop, map, subst}
use Rattle.std.proofs.lemmas.List.{append-nil}
use Rattle.std.proofs.lemmas.Bool.{eqb-true}
use Rattle.module_semantics.specs.Token.{Token, number, text, punct, Lexeme}
use Rattle.module_semantics.specs.Bytes.{is_blank, is_digit, is_name_start, is_name_byte, is_quote, is_line_end, is_escape, unescape, not_line_feed, span}
use Rattle.module_semantics.specs.Lexing.{begins, single, double, after_token, front, number_at, number_from, text_at, text_from, comment_at, comment_from, punct_at, marked, marks, step, added, lex_from, lexing}
use Rattle.module_semantics.specs.Pieces.{Part, plain, escaped, Piece, blank, line, block, word, nought, digits, quoted, mark, pair, spelled_parts, parts_size, parts_text, first, more, spelled, size, value, token_of, all, opens, unclosed, are_inside, IsPiece, IsLongest, spelled_all, Fit, with_token, tokens_from, IsLexing}
use Rattle.module_semantics.specs.declared.tokens.After.{After}
use Rattle.hmr_types.specs.declared.limits.TheConstants.{TOKENS, LARGEST_NUMBER}

pub both : (a b : Bool) → (a && b) ≡ true → (a ≡ true) × (b ≡ true)
both true b h = (refl, h)
both false b h = cc

pub either : (a b : Bool) → (a || b) ≡ true → (a ≡ true) ⊎ (b ≡ true)
either true b h = inl refl
either false b h = inr h

eqb_refl : (n : ℕ) → eqb n n ≡ true
eqb_refl n = search arith

pub nots : (a : Bool) → not a ≡ true → a ≡ false
nots true h = cc
nots false h = refl

-- a run of a class
pub run_span : (p : ℕ → Bool) (cs k : List ℕ) → all p cs ≡ true → opens p k ≡ false → span p (cs ++ k) ≡ length cs
unfolding span all opens
run_span p [] [] h e = refl
run_span p [] (c ∷ k) h e = rw e refl
run_span p (b ∷ cs) k h e = let t = both (p b) (all p cs) h in rw t.0 (ap suc (run_span p cs k t.1 e))

take_run : (cs k : List ℕ) → take (length cs) (cs ++ k) ≡ cs
take_run [] k = refl
take_run (c ∷ cs) k = ap (λ r. c ∷ r) (take_run cs k)

drop_run : (cs k : List ℕ) → drop (length cs) (cs ++ k) ≡ k
drop_run [] k = refl
drop_run (c ∷ cs) k = drop_run cs k

pub value_ge : (v : ℕ) (ds : List ℕ) → v ≤ value v ds
value_ge v [] = omega arith
value_ge v (d ∷ ds) = omega (arith, value_ge (10 * v + (d - 48)) ds)

pub not_large : (v : ℕ) → v ≤ LARGEST_NUMBER → nat_lt LARGEST_NUMBER v ≡ false
not_large v h = search (arith)

number_run : (at v n : ℕ) (ds k : List ℕ) → all is_digit ds ≡ true → value v ds ≤ LARGEST_NUMBER → opens is_digit k ≡ false → number_from at v n (ds ++ k) ≡ Ok (value v ds, n + length ds)
unfolding number_from all opens
number_run at v n [] [] h few e = ap (λ m. Ok (v, m)) (omega arith)
number_run at v n [] (c ∷ k) h few e = rw e (ap (λ m. Ok (v, m)) (omega arith))
number_run at v n (d ∷ ds) k h few e =
    let t = both (is_digit d) (all is_digit ds) h in
    let w : ℕ = 10 * v + (d - 48) in
    let small : nat_lt LARGEST_NUMBER w ≡ false = not_large w (omega (arith, value_ge w ds, few)) in
    let m : suc n + length ds ≡ n + suc (length ds) = omega arith in
    rw (t.0, small) (number_run at w (suc n) ds k t.1 few e ∙ ap (λ m. Ok (value w ds, m)) m)

drop_block : (cs k : List ℕ) → drop (suc (suc (length cs))) (cs ++ (42 ∷ 47 ∷ k)) ≡ k
drop_block [] k = refl
drop_block (c ∷ cs) k = drop_block cs k

drop_parts : (q : ℕ) (ps : List Part) (k : List ℕ) → drop (suc (parts_size ps)) (spelled_parts ps (q ∷ k)) ≡ k
drop_parts q [] k = refl
drop_parts q (plain b ∷ ps) k = drop_parts q ps k
drop_parts q (escaped b ∷ ps) k = drop_parts q ps k

-- the bytes of a piece, left out
pub drop_size : (p : Piece) (k : List ℕ) → drop (size p) (spelled p k) ≡ k
drop_size (blank b) k = refl
drop_size (line cs) k = drop_run cs k
drop_size (block cs) k = drop_block cs k
drop_size (word b cs) k = drop_run cs k
drop_size nought k = refl
drop_size (digits b ds) k = drop_run ds k
drop_size (quoted q ps) k = drop_parts q ps k
drop_size (mark b p) k = refl
drop_size (pair b c p) k = refl

name_not_blank : (b : ℕ) → is_name_start b ≡ true → is_blank b ≡ false
unfolding is_name_start is_blank
name_not_blank b h = grind arith

-- a digit is none of these
pub digit_not : (b : ℕ) → is_digit b ≡ true → (is_blank b ≡ false) × (is_name_start b ≡ false)
unfolding is_name_start is_blank is_digit
digit_not b h = (grind arith, grind arith)

pub quote_not : (b : ℕ) → is_quote b ≡ true → (is_blank b ≡ false) × (is_name_start b ≡ false) × (is_digit b ≡ false) × ((92 == b) ≡ false)
unfolding is_name_start is_blank is_digit is_quote
quote_not b h = elim (either (b == 34) (b == 39) h) [
  | inl w ↦ let is = eqb-true b 34 w in (rw is refl, rw is refl, rw is refl, rw is refl)
  | inr w ↦ let is = eqb-true b 39 w in (rw is refl, rw is refl, rw is refl, rw is refl)
]

-- in no other class
pub is_other : ℕ → Bool
is_other b = not (is_blank b) && not (is_name_start b) && not (is_digit b) && not (is_quote b) && not (b == 47)

pub went_some : (t : Bool) (x : ℕ) (y : Option ℕ) (p : ℕ) → cond t (Some x) y ≡ Some p → (t ≡ true) ⊎ (y ≡ Some p)
went_some true x y p h = inl refl
went_some false x y p h = inr h

marked_other : (b : ℕ) (ms : List (ℕ × ℕ)) (p : ℕ) → all is_other (map (λ m. m.0) ms) ≡ true → marked b ms ≡ Some p → is_other b ≡ true
unfolding marked all
marked_other b [] p h e = cc
marked_other b (m ∷ ms) p h e =
    let t = both (is_other m.0) (all is_other (map (λ m. m.0) ms)) h in
    elim (went_some (b == m.0) m.1 (marked b ms) p e) [
      | inl w ↦ rw (eqb-true b m.0 w) t.0
      | inr w ↦ marked_other b ms p t.1 w
    ]

pub begins_before : (cs k : List ℕ) → begins 47 (cs ++ (42 ∷ 47 ∷ k)) ≡ begins 47 cs
unfolding begins
begins_before [] k = refl
begins_before (c ∷ cs) k = refl

block_run : (at n : ℕ) (cs k : List ℕ) → unclosed cs ≡ true → comment_from at n (cs ++ (42 ∷ 47 ∷ k)) ≡ Ok (n + suc (suc (length cs)))
unfolding comment_from unclosed begins
block_run at n [] k h = ap Ok (omega arith)
block_run at n (b ∷ cs) k h =
    let t = both (not (b == 42 && begins 47 cs)) (unclosed cs) h in
    let same : (b == 42 && begins 47 (cs ++ (42 ∷ 47 ∷ k))) ≡ false = ap (λ x. b == 42 && x) (begins_before cs k) ∙ nots (b == 42 && begins 47 cs) t.0 in
    let m : suc n + suc (suc (length cs)) ≡ n + suc (suc (suc (length cs))) = omega arith in
    rw same (block_run at (suc n) cs k t.1 ∙ ap Ok m)

pub no_line_end : is_line_end 92 ≡ false
unfolding is_line_end
no_line_end = refl

text_run : (at q : ℕ) (out : List ℕ) (n : ℕ) (ps : List Part) (k : List ℕ) (no_quote : (92 == q) ≡ false) → are_inside q ps ≡ true → text_from at q out n false (spelled_parts ps (q ∷ k)) ≡ Ok (out ++ parts_text ps, n + suc (suc (parts_size ps)))
unfolding text_from are_inside
text_run at q out n [] k no_quote h = rw (eqb_refl q, append-nil out) (ap (λ m. Ok (out, m)) (omega arith))
text_run at q out n (plain b ∷ ps) k no_quote h =
    let t = both (not (b == q) && not (is_line_end b) && not (b == 92)) (are_inside q ps) h in
    let e = both (not (b == q) && not (is_line_end b)) (not (b == 92)) t.0 in
    let f = both (not (b == q)) (not (is_line_end b)) e.0 in
    let m : suc n + suc (suc (parts_size ps)) ≡ n + suc (suc (suc (parts_size ps))) = omega arith in
    rw (nots _ f.0, nots _ f.1, nots _ e.1) (text_run at q (out ++ (b ∷ [])) (suc n) ps k no_quote t.1 ∙ rw (m, append_assoc out (b ∷ []) (parts_text ps)) refl)
text_run at q out n (escaped b ∷ ps) k no_quote h =
    let t = both (is_escape b) (are_inside q ps) h in
    let m : suc (suc n) + suc (suc (parts_size ps)) ≡ n + suc (suc (suc (suc (parts_size ps)))) = omega arith in
    rw (no_quote, no_line_end, t.0) (text_run at q (out ++ (unescape b ∷ [])) (suc (suc n)) ps k no_quote t.1 ∙ rw (m, append_assoc out (unescape b ∷ []) (parts_text ps)) refl)

other_front : (at b : ℕ) (bs : List ℕ) → is_other b ≡ true → front at b bs ≡ punct_at at b bs
unfolding front is_other
other_front at b bs h =
    let o = both (not (is_blank b) && not (is_name_start b) && not (is_digit b) && not (is_quote b)) (not (b == 47)) h in
    let q = both (not (is_blank b) && not (is_name_start b) && not (is_digit b)) (not (is_quote b)) o.0 in
    let d = both (not (is_blank b) && not (is_name_start b)) (not (is_digit b)) q.0 in
    let n = both (not (is_blank b)) (not (is_name_start b)) d.0 in
    rw (nots _ n.0, nots _ n.1, nots _ d.1, nots _ q.1, nots _ o.1) refl

mark_reads : (at b p : ℕ) (k : List ℕ) → single b ≡ Some p → ((c : ℕ) (cs : List ℕ) → k ≡ c ∷ cs → double b c ≡ None) → punct_at at b k ≡ Ok (Some (punct p), 1)
unfolding punct_at
mark_reads at b p [] g l = rw g refl
mark_reads at b p (c ∷ k) g l = rw (l c k refl, g) refl

double_other : (b c p : ℕ) → double b c ≡ Some p → is_other b ≡ true
unfolding double is_other is_blank is_name_start is_digit is_quote
double_other b c p h = elim (went_some (b == 61 && c == 62) 15 _ p h) [
  | inl w ↦ rw (eqb-true b 61 (both (b == 61) (c == 62) w).0) refl
  | inr w ↦ elim (went_some (b == 63 && c == 46) 16 _ p w) [
    | inl v ↦ rw (eqb-true b 63 (both (b == 63) (c == 46) v).0) refl
    | inr v ↦ elim (went_some (b == 63 && c == 63) 17 _ p v) [
      | inl u ↦ rw (eqb-true b 63 (both (b == 63) (c == 63) u).0) refl
      | inr u ↦ cc
    ]
  ]
]

pub slash_front : (at : ℕ) (bs : List ℕ) → front at 47 bs ≡ comment_at at bs
unfolding front is_blank is_name_start is_digit is_quote
slash_front at bs = refl

zero_front : (at : ℕ) (bs : List ℕ) → front at 48 bs ≡ Ok (Some (number 0), 1)
unfolding front number_at is_blank is_name_start is_digit is_quote
zero_front at bs = refl

single_other : (b p : ℕ) → single b ≡ Some p → is_other b ≡ true
unfolding single all is_other is_blank is_name_start is_digit is_quote
single_other b p h = marked_other b marks p refl h

line_reads : (at : ℕ) (cs k : List ℕ) → span not_line_feed (cs ++ k) ≡ length cs → comment_at at (47 ∷ (cs ++ k)) ≡ Ok (None, suc (suc (length cs)))
unfolding comment_at
line_reads at cs k h = rw h refl

block_reads : (at : ℕ) (cs k : List ℕ) → comment_from at 2 (cs ++ (42 ∷ 47 ∷ k)) ≡ Ok (suc (suc (suc (suc (length cs))))) → comment_at at (42 ∷ (cs ++ (42 ∷ 47 ∷ k))) ≡ Ok (None, suc (suc (suc (suc (length cs)))))
unfolding comment_at
block_reads at cs k h = rw h refl

pair_reads : (at b c p : ℕ) (k : List ℕ) → double b c ≡ Some p → punct_at at b (c ∷ k) ≡ Ok (Some (punct p), 2)
unfolding punct_at
pair_reads at b c p k h = rw h refl

pub front_reads : (at : ℕ) (p : Piece) (k : List ℕ) → IsPiece p → IsLongest p k → front at (first p) (more p k) ≡ Ok (token_of p, size p)
unfolding front number_at text_at
front_reads at (blank b) k g l = rw g refl
front_reads at (line cs) k g l = slash_front at (47 ∷ (cs ++ k)) ∙ line_reads at cs k (run_span not_line_feed cs k g l)
front_reads at (block cs) k g l = slash_front at (42 ∷ (cs ++ (42 ∷ 47 ∷ k))) ∙ block_reads at cs k (block_run at 2 cs k g ∙ ap Ok (omega arith))
front_reads at (word b cs) k g l = rw (name_not_blank b g.0, g.0, run_span is_name_byte cs k g.1 l, take_run cs k) refl
front_reads at nought k g l = zero_front at k
front_reads at (digits b ds) k g l = rw ((digit_not b g.0).0, (digit_not b g.0).1, g.0, g.1, number_run at (b - 48) 1 ds k g.2 g.3 l) (ap (λ n. Ok (Some (number (value (b - 48) ds)), n)) (omega arith))
front_reads at (quoted q ps) k g l = rw ((quote_not q g.0).0, (quote_not q g.0).1, (quote_not q g.0).2, g.0, text_run at q [] 0 ps k (quote_not q g.0).3 g.1) (ap (λ n. Ok (Some (text (parts_text ps)), n)) (omega arith))
front_reads at (mark b p) k g l = other_front at b k (single_other b p g) ∙ mark_reads at b p k g l
front_reads at (pair b c p) k g l = other_front at b (c ∷ k) (double_other b c p g) ∙ pair_reads at b c p k g

pub token_added : (at : ℕ) (done : List Lexeme) (t : Option Token) (n : ℕ) (ts : List Lexeme) → length (done ++ with_token at t n ts) ≤ TOKENS → added at done (t, n) ≡ Ok (done ++ with_token at t n [])
unfolding added
token_added at done None n ts few = ap Ok (sym (append-nil done))
token_added at done (Some t) n ts few =
    let room : nat_lt (length done) TOKENS ≡ true = search (arith, length-append done (record { token = t; at = at; len = n } ∷ ts)) in
    rw room refl

pub with_more : (at : ℕ) (done : List Lexeme) (t : Option Token) (n : ℕ) (ts : List Lexeme) → (done ++ with_token at t n []) ++ ts ≡ done ++ with_token at t n ts
with_more at done None n ts = ap (λ r. r ++ ts) (append-nil done)
with_more at done (Some t) n ts = append_assoc done _ ts

pub size_pos : (p : Piece) → 1 ≤ size p
size_pos (blank b) = omega arith
size_pos (line cs) = omega arith
size_pos (block cs) = omega arith
size_pos (word b cs) = omega arith
size_pos nought = omega arith
size_pos (digits b ds) = omega arith
size_pos (quoted q ps) = omega arith
size_pos (mark b p) = omega arith
size_pos (pair b c p) = omega arith

pub longer : (p : Piece) (k : List ℕ) → length k ≤ length (more p k)
longer p k = omega (arith, ap length (drop_size p k), length-drop (size p) (spelled p k), size_pos p)

pub lex_reads : (k at : ℕ) (last : After) (done : List Lexeme) (ps : List Piece) → Fit last ps [] → length (spelled_all ps []) ≤ k → length (done ++ tokens_from at ps) ≤ TOKENS → lex_from k at last done (spelled_all ps []) ≡ Ok (done ++ tokens_from at ps)
unfolding lex_from step
lex_reads zero at last done [] f long few = ap Ok (sym (append-nil done))
lex_reads (suc k) at last done [] f long few = ap Ok (sym (append-nil done))
lex_reads zero at last done (p ∷ ps) f long few = absurd (omega (arith, long))
lex_reads (suc k) at last done (p ∷ ps) f long few =
    let rest = spelled_all ps [] in
    let next = done ++ with_token at (token_of p) (size p) [] in
    let whole = with_more at done (token_of p) (size p) (tokens_from (at + size p) ps) in
    let short : length rest ≤ k = omega (arith, long, longer p rest) in
    let few' : length (next ++ tokens_from (at + size p) ps) ≤ TOKENS = rw whole few in
    let ih = lex_reads k (at + size p) (after_token (token_of p)) next ps f.3 short few' in
    rw (f.2, front_reads at p rest f.0 f.1, token_added at done (token_of p) (size p) (tokens_from (at + size p) ps) few, drop_size p rest) (ih ∙ ap Ok whole)

pub is_lexed : (bytes : List ℕ) (ts : List Lexeme) → IsLexing bytes ts → lexing bytes ≡ Ok ts
unfolding lexing
is_lexed bytes ts l =
    rw (l.whole, l.tokens) (lex_reads (length (spelled_all l.pieces [])) 0 _ [] l.pieces l.fit (omega arith) (subst (λ us. length us ≤ TOKENS) l.tokens l.few))
