-- The faults of lexing are what the rules say.
use Rattle.module_semantics.specs.Steps.{◌>>=◌}
use Rattle.std.proofs.Common.{◌≡◌, ℕ, zero, suc, ◌+◌, ◌*◌, ◌-◌, ◌<◌, ◌≤◌, List, [], ◌∷◌, ◌++◌, length, drop, true, false, ◌&&◌, ◌==◌, nat_lt, ◌⊎◌, inl, inr, Option, Some, None, Result, Ok, Err, refl, sym, ap, ◌∙◌, arith, subst}
use Rattle.std.proofs.lemmas.List.{append-nil}
use Rattle.std.proofs.lemmas.Bool.{eqb-true}
use Rattle.module_semantics.specs.Token.{Token, number, text, Lexeme}
use Rattle.module_semantics.specs.Bytes.{is_blank, is_digit, is_name_start, is_quote, is_line_end, not_line_end, is_escape, unescape}
use Rattle.module_semantics.specs.Lexing.{Front, begins, single, double, barred, after_token, front, number_at, number_from, text_at, text_from, comment_at, comment_from, punct_at, single_at, double_at, marked, step, added, lex_from, lexing}
use Rattle.module_semantics.specs.Pieces.{Part, plain, escaped, Piece, spelled_parts, parts_size, first, more, spelled, size, value, token_of, all, opens, unclosed, are_inside, IsPiece, IsLongest, spelled_all, Fit, with_token, tokens_from}
use Rattle.module_semantics.specs.declared.tokens.After.{After}
use Rattle.module_semantics.specs.declared.tokens.After.TheVariants.{Other}
use Rattle.hmr_types.specs.declared.limits.TheConstants.{TOKENS, LARGEST_NUMBER}
use Rattle.module_semantics.proofs.PiecesLex.{value_ge, both, drop_size, longer, with_more}
use Rattle.module_semantics.specs.declared.tokens.LexFault.{LexFault}
use Rattle.module_semantics.proofs.LexedPieces.{went, and_yes, not_yes, cons_same, run_of, plain_yes, front_made, step_ok, added_made}
use Rattle.module_semantics.specs.LexFaults.{WrongPiece, Wrong, IsFirstLexFault}
use Rattle.module_semantics.specs.Pieces.{last_of, size_all}
use Rattle.module_semantics.specs.Lexing.{lex_fault}
use Rattle.module_semantics.specs.declared.tokens.LexKind.{LexKind}
use Rattle.module_semantics.specs.declared.tokens.LexKind.TheVariants.{BadByte, OpenString, OpenComment, BadEscape, NumberTooLarge, TooManyTokens}

bind_err : {A B : Type 0} (r : Result A LexFault) (f : A → Result B LexFault) (e : LexFault) → (r >>= f) ≡ Err e → (r ≡ Err e) ⊎ ((x : A) × (r ≡ Ok x) × (f x ≡ Err e))
bind_err (Ok x) f e h = inr (x, refl, h)
bind_err (Err d) f e h = inl cc

large_is : (v : ℕ) → nat_lt LARGEST_NUMBER v ≡ true → LARGEST_NUMBER < v
large_is v h = search (arith)

abbrev pub NumberFailed : ℕ → ℕ → List ℕ → LexFault → Type 0
NumberFailed at v bs f = (f ≡ lex_fault NumberTooLarge at) × (ds : List ℕ) × (k : List ℕ) × (bs ≡ ds ++ k) × (all is_digit ds ≡ true) × (opens is_digit k ≡ false) × (LARGEST_NUMBER < value v ds)

number_failed : (at v n : ℕ) (bs : List ℕ) (f : LexFault) → number_from at v n bs ≡ Err f → NumberFailed at v bs f
unfolding number_from all
number_failed at v n [] f h = cc
number_failed at v n (b ∷ bs) f h = elim (went (is_digit b) _ _ (Err f) h) [
  | inl w ↦ elim (went (nat_lt LARGEST_NUMBER (10 * v + (b - 48))) _ _ (Err f) w.1) [
    | inl u ↦
        let r = run_of is_digit bs in
        (cc, b ∷ r.run, r.rest, ap (λ t. b ∷ t) r.split, and_yes _ _ w.0 r.each, r.ends, omega (arith, large_is _ u.0, value_ge (10 * v + (b - 48)) r.run))
    | inr u ↦
        let r = number_failed at (10 * v + (b - 48)) (suc n) bs f u.1 in
        (r.0, b ∷ r.1, r.2, ap (λ t. b ∷ t) r.3, and_yes _ _ w.0 r.4, r.5, r.6)
  ]
  | inr w ↦ cc
]

comment_failed : (at n : ℕ) (bs : List ℕ) (f : LexFault) → comment_from at n bs ≡ Err f → (f ≡ lex_fault OpenComment at) × (unclosed bs ≡ true)
unfolding comment_from unclosed
comment_failed at n [] f h = (cc, refl)
comment_failed at n (b ∷ bs) f h = elim (went (b == 42 && begins 47 bs) _ _ (Err f) h) [
  | inl w ↦ cc
  | inr w ↦ let r = comment_failed at (suc n) bs f w.1 in (r.0, and_yes _ _ (not_yes _ w.0) r.1)
]

abbrev pub TextFailed : ℕ → ℕ → ℕ → List ℕ → LexFault → Type 0
TextFailed at q n bs f =
    ((f ≡ lex_fault OpenString at) × (ps : List Part) × (k : List ℕ) × (bs ≡ spelled_parts ps k) × (are_inside q ps ≡ true) × (opens not_line_end k ≡ false))
    ⊎ ((ps : List Part) × (k : List ℕ) × (f ≡ lex_fault BadEscape (at + suc (n + parts_size ps))) × (bs ≡ spelled_parts ps (92 ∷ k)) × (are_inside q ps ≡ true) × (opens is_escape k ≡ false))

stops_line : (b : ℕ) (bs : List ℕ) → is_line_end b ≡ true → opens not_line_end (b ∷ bs) ≡ false
unfolding opens not_line_end
stops_line b bs h = rw h refl

place_same : (at n m : ℕ) (f : LexFault) → n ≡ m → f ≡ lex_fault BadEscape (at + n) → f ≡ lex_fault BadEscape (at + m)
place_same at n m f h e = e ∙ ap (λ x. lex_fault BadEscape (at + x)) h

part_failed : (at q n : ℕ) (p : Part) (bs : List ℕ) (f : LexFault) (m : ℕ) → m ≡ n + parts_size (p ∷ []) → are_inside q (p ∷ []) ≡ true → TextFailed at q m bs f → TextFailed at q n (spelled_parts (p ∷ []) bs) f
unfolding are_inside
part_failed at q n (plain b) bs f m is good (inl r) = inl (r.0, plain b ∷ r.1, r.2, ap (λ t. b ∷ t) r.3, and_yes _ _ (both _ true good).0 r.4, r.5)
part_failed at q n (plain b) bs f m is good (inr r) = inr (plain b ∷ r.0, r.1, place_same at _ _ f (omega (arith, is)) r.2, ap (λ t. b ∷ t) r.3, and_yes _ _ (both _ true good).0 r.4, r.5)
part_failed at q n (escaped b) bs f m is good (inl r) = inl (r.0, escaped b ∷ r.1, r.2, ap (λ t. 92 ∷ b ∷ t) r.3, and_yes _ _ (both _ true good).0 r.4, r.5)
part_failed at q n (escaped b) bs f m is good (inr r) = inr (escaped b ∷ r.0, r.1, place_same at _ _ f (omega (arith, is)) r.2, ap (λ t. 92 ∷ b ∷ t) r.3, and_yes _ _ (both _ true good).0 r.4, r.5)

text_failed : (at q : ℕ) (out : List ℕ) (n : ℕ) (bs : List ℕ) (f : LexFault) → text_from at q out n false bs ≡ Err f → TextFailed at q n bs f
unfolding text_from are_inside opens
text_failed at q out n [] f h = inl (cc, [], [], refl, refl, refl)
text_failed at q out n (b ∷ []) f h = elim (went (b == q) _ _ (Err f) h) [
  | inl w ↦ cc
  | inr w ↦ elim (went (is_line_end b) _ _ (Err f) w.1) [
    | inl u ↦ inl (cc, [], b ∷ [], refl, refl, stops_line b [] u.0)
    | inr u ↦ elim (went (b == 92) _ _ (Err f) u.1) [
      | inl v ↦ inr ([], [], place_same at (suc n) _ f (omega arith) (cc), cons_same b 92 [] [] (eqb-true b 92 v.0) refl, refl, refl)
      | inr v ↦ inl (cc, plain b ∷ [], [], refl, and_yes _ _ (plain_yes _ _ _ w.0 u.0 v.0) refl, refl)
    ]
  ]
]
text_failed at q out n (b ∷ e ∷ bs) f h = elim (went (b == q) _ _ (Err f) h) [
  | inl w ↦ cc
  | inr w ↦ elim (went (is_line_end b) _ _ (Err f) w.1) [
    | inl u ↦ inl (cc, [], b ∷ e ∷ bs, refl, refl, stops_line b (e ∷ bs) u.0)
    | inr u ↦ elim (went (b == 92) _ _ (Err f) u.1) [
      | inl v ↦ elim (went (is_escape e) _ _ (Err f) v.1) [
        | inl z ↦
            let r = text_failed at q (out ++ (unescape e ∷ [])) (suc (suc n)) bs f z.1 in
            subst (λ t. TextFailed at q n t f) (cons_same 92 b (e ∷ bs) (e ∷ bs) (sym (eqb-true b 92 v.0)) refl) (part_failed at q n (escaped e) bs f (suc (suc n)) (omega arith) (and_yes _ _ z.0 refl) r)
        | inr z ↦ inr ([], e ∷ bs, place_same at (suc n) _ f (omega arith) (cc), cons_same b 92 _ _ (eqb-true b 92 v.0) refl, refl, z.0)
      ]
      | inr v ↦
          let r = text_failed at q (out ++ (b ∷ [])) (suc n) (e ∷ bs) f v.1 in
          part_failed at q n (plain b) (e ∷ bs) f (suc n) (omega arith) (and_yes _ _ (plain_yes _ _ _ w.0 u.0 v.0) refl) r
    ]
  ]
]

at_fault : (at b : ℕ) (bs : List ℕ) (f : LexFault) (kind : LexKind) (place : ℕ) → f ≡ lex_fault kind place → WrongPiece at b bs kind place → WrongPiece at b bs f.kind f.at
at_fault at b bs f kind place e w = subst (λ g. WrongPiece at b bs g.kind g.at) (sym e) w

no_mark_47 : (b : ℕ) → (b == 47) ≡ true → single b ≡ None
unfolding single marked
no_mark_47 b h = rw (eqb-true b 47 h) refl

abbrev pub Rest : ℕ → Type 0
Rest b = (is_blank b ≡ false) × (is_name_start b ≡ false) × (is_digit b ≡ false) × (is_quote b ≡ false)

blank_failed : (at b : ℕ) (bs : List ℕ) (f : LexFault) → Rest b → (b == 47) ≡ true → comment_at at bs ≡ Err f → WrongPiece at b bs f.kind f.at
unfolding comment_at begins
blank_failed at b [] f c is h = at_fault at b [] f BadByte at (cc) (refl, record { blank = c.0; name = c.1; digit = c.2; quote = c.3; mark = no_mark_47 b is; comment = λ _. (refl, refl) })
blank_failed at b (d ∷ bs) f c is h = elim (went (d == 47) _ _ (Err f) h) [
  | inl w ↦ cc
  | inr w ↦ elim (went (d == 42) _ _ (Err f) w.1) [
    | inl u ↦ elim (bind_err (comment_from at 2 bs) (λ n. Ok (None, n)) f u.1) [
      | inl z ↦
          let r = comment_failed at 2 bs f z in
          at_fault at b (d ∷ bs) f OpenComment at r.0 (bs, refl, eqb-true b 47 is, cons_same d 42 bs bs (eqb-true d 42 u.0) refl, r.1)
      | inr z ↦ cc
    ]
    | inr u ↦ at_fault at b (d ∷ bs) f BadByte at (cc) (refl, record { blank = c.0; name = c.1; digit = c.2; quote = c.3; mark = no_mark_47 b is; comment = λ _. (w.0, u.0) })
  ]
]

single_failed : (at : ℕ) (o : Option ℕ) (f : LexFault) → single_at at o ≡ Err f → (f ≡ lex_fault BadByte at) × (o ≡ None)
single_failed at None f h = (cc, refl)
single_failed at (Some p) f h = cc

double_failed : (o : Option ℕ) (r : Front) (f : LexFault) → double_at o r ≡ Err f → r ≡ Err f
double_failed None r f h = h
double_failed (Some p) r f h = cc

punct_fault : (at b : ℕ) (bs : List ℕ) (f : LexFault) → punct_at at b bs ≡ Err f → (f ≡ lex_fault BadByte at) × (single b ≡ None)
unfolding punct_at
punct_fault at b [] f h = single_failed at (single b) f h
punct_fault at b (c ∷ bs) f h = single_failed at (single b) f (double_failed (double b c) _ f h)

number_at_failed : (at b : ℕ) (bs : List ℕ) (f : LexFault) → is_digit b ≡ true → number_at at b bs ≡ Err f → WrongPiece at b bs f.kind f.at
unfolding number_at
number_at_failed at b bs f is h = elim (went (b == 48) _ _ (Err f) h) [
  | inl w ↦ cc
  | inr w ↦ elim (bind_err (number_from at (b - 48) 1 bs) (λ n. Ok (Some (number n.0), n.1)) f w.1) [
    | inl z ↦
        let r = number_failed at (b - 48) 1 bs f z in
        at_fault at b bs f NumberTooLarge at r.0 (r.1, r.2, refl, is, w.0, r.3, r.4, r.5, r.6)
    | inr z ↦ cc
  ]
]

text_wrong : (at b : ℕ) (bs : List ℕ) (f : LexFault) → is_quote b ≡ true → TextFailed at b 0 bs f → WrongPiece at b bs f.kind f.at
text_wrong at b bs f is (inl r) = at_fault at b bs f OpenString at r.0 (r.1, r.2, refl, is, r.3, r.4, r.5)
text_wrong at b bs f is (inr r) = at_fault at b bs f BadEscape (at + suc (0 + parts_size r.0)) r.2 (r.0, r.1, omega arith, is, r.3, r.4, r.5)

text_at_failed : (at b : ℕ) (bs : List ℕ) (f : LexFault) → is_quote b ≡ true → text_at at b bs ≡ Err f → WrongPiece at b bs f.kind f.at
unfolding text_at
text_at_failed at b bs f is h = elim (bind_err (text_from at b [] 0 false bs) (λ n. Ok (Some (text n.0), n.1)) f h) [
  | inl z ↦ text_wrong at b bs f is (text_failed at b [] 0 bs f z)
  | inr z ↦ cc
]

pub front_failed : (at b : ℕ) (bs : List ℕ) (f : LexFault) → front at b bs ≡ Err f → WrongPiece at b bs f.kind f.at
unfolding front
front_failed at b bs f h = elim (went (is_blank b) _ _ (Err f) h) [
  | inl w ↦ cc
  | inr w ↦ elim (went (is_name_start b) _ _ (Err f) w.1) [
    | inl u ↦ cc
    | inr u ↦ elim (went (is_digit b) _ _ (Err f) u.1) [
      | inl v ↦ number_at_failed at b bs f v.0 v.1
      | inr v ↦ elim (went (is_quote b) _ _ (Err f) v.1) [
        | inl z ↦ text_at_failed at b bs f z.0 z.1
        | inr z ↦ elim (went (b == 47) _ _ (Err f) z.1) [
          | inl y ↦ blank_failed at b bs f (w.0, u.0, v.0, z.0) y.0 y.1
          | inr y ↦
              let r = punct_fault at b bs f y.1 in
              at_fault at b bs f BadByte at r.0 (refl, record { blank = w.0; name = u.0; digit = v.0; quote = z.0; mark = r.1; comment = λ is. absurd (cc) })
        ]
      ]
    ]
  ]
]

full : (done : List Lexeme) → nat_lt (length done) TOKENS ≡ false → TOKENS ≤ length done
full done h = search (arith)

added_failed : (at : ℕ) (done : List Lexeme) (t : Option Token) (n : ℕ) (f : LexFault) → added at done (t, n) ≡ Err f → (f ≡ lex_fault TooManyTokens at) × (TOKENS ≤ length done) × (tok : Token) × (t ≡ Some tok)
unfolding added
added_failed at done None n f h = cc
added_failed at done (Some t) n f h = elim (went (nat_lt (length done) TOKENS) _ _ (Err f) h) [
  | inl w ↦ cc
  | inr w ↦ (cc, full done w.0, t, refl)
]

step_failed : (at : ℕ) (last : After) (done : List Lexeme) (b : ℕ) (bs : List ℕ) (f : LexFault) → step at last done b bs ≡ Err f → Wrong last (length done) at b bs f
unfolding step
step_failed at last done b bs f h = elim (went (barred last b) _ _ (Err f) h) [
  | inl w ↦ let e : f ≡ lex_fault BadByte at = cc in inl (ap (λ g. g.kind) e, ap (λ g. g.at) e, w.0)
  | inr w ↦ elim (bind_err (front at b bs) (λ piece. added at done piece >>= λ next. Ok (piece.1, (after_token piece.0, next))) f w.1) [
    | inl z ↦ inr (inl (w.0, front_failed at b bs f z))
    | inr z ↦ elim (bind_err (added at done z.0) (λ next. Ok (z.0.1, (after_token z.0.0, next))) f z.2) [
      | inl y ↦
          let r = added_failed at done z.0.0 z.0.1 f y in
          let m = front_made at b bs z.0 z.1 in
          inr (inr (ap (λ g. g.kind) r.0, ap (λ g. g.at) r.0, w.0, r.1, m.0, m.1, r.2, m.2, m.3, m.4 ∙ r.3, m.6, m.7))
      | inr y ↦ cc
    ]
  ]
]

abbrev pub LexFailed : ℕ → After → List Lexeme → List ℕ → LexFault → Type 0
LexFailed at last done bs f =
    (ps : List Piece) × (b : ℕ) × (k : List ℕ) × (place : ℕ) × (count : List Lexeme)
    × (bs ≡ spelled_all ps (b ∷ k)) × Fit last ps (b ∷ k) × (place ≡ at + size_all ps) × (count ≡ done ++ tokens_from at ps) × (length count ≤ TOKENS) × Wrong (last_of last ps) (length count) place b k f

piece_failed : (at : ℕ) (last : After) (done : List Lexeme) (p : Piece) (k : List ℕ) (f : LexFault) → barred last (first p) ≡ false → IsPiece p → IsLongest p k
    → LexFailed (at + size p) (after_token (token_of p)) (done ++ with_token at (token_of p) (size p) []) k f → LexFailed at last done (spelled p k) f
piece_failed at last done p k f free good long r = (
  p ∷ r.0,
  r.1,
  r.2,
  r.3,
  r.4,
  ap (spelled p) r.5,
  (good, subst (IsLongest p) r.5 long, free, r.6),
  omega (arith, r.7),
  r.8 ∙ with_more at done (token_of p) (size p) (tokens_from (at + size p) r.0),
  r.9,
  r.10,
)

lex_failed : (n at : ℕ) (last : After) (done : List Lexeme) (bs : List ℕ) (f : LexFault) → length bs ≤ n → length done ≤ TOKENS → lex_from n at last done bs ≡ Err f → LexFailed at last done bs f
unfolding lex_from
lex_failed zero at last done [] f long few h = cc
lex_failed (suc n) at last done [] f long few h = cc
lex_failed zero at last done (b ∷ bs) f long few h = absurd (omega (arith, long))
lex_failed (suc n) at last done (b ∷ bs) f long few h = elim (bind_err (step at last done b bs) (λ s. lex_from n (at + s.0) s.1.0 s.1.1 (drop s.0 (b ∷ bs))) f h) [
  | inl w ↦ ([], b, bs, at, done, refl, tt, omega arith, sym (append-nil done), few, step_failed at last done b bs f w)
  | inr s ↦
      let o = step_ok at last done b bs s.0 s.1 in
      let m = front_made at b bs o.0 o.2 in
      let p = m.0 in
      let k = m.1 in
      let a = added_made at done o.0.0 o.0.1 s.0.1.1 few o.3 in
      let whole : spelled p k ≡ b ∷ bs = cons_same (first p) b (more p k) bs m.2 (sym m.3) in
      let len : size p ≡ s.0.0 = m.5 ∙ o.4 in
      let aft : after_token (token_of p) ≡ s.0.1.0 = ap after_token m.4 ∙ o.5 in
      let nxt : s.0.1.1 ≡ done ++ with_token at (token_of p) (size p) [] = a.0 ∙ rw (m.4, m.5) refl in
      let cut : k ≡ drop s.0.0 (b ∷ bs) = sym (drop_size p k) ∙ rw (len, whole) refl in
      let inner : lex_from n (at + size p) (after_token (token_of p)) s.0.1.1 k ≡ Err f = rw (len, aft, cut) s.2 in
      let shorter : length k ≤ n = omega (arith, long, longer p k, ap length whole) in
      let ih = lex_failed n (at + size p) (after_token (token_of p)) s.0.1.1 k f shorter a.1 inner in
      let ih' = subst (λ z. LexFailed (at + size p) (after_token (token_of p)) z k f) nxt ih in
      let free : barred last (first p) ≡ false = rw m.2 o.1 in
      subst (λ z. LexFailed at last done z f) whole (piece_failed at last done p k f free m.6 m.7 ih')
]

pub was_faulted : (bytes : List ℕ) (f : LexFault) → lexing bytes ≡ Err f → IsFirstLexFault bytes f
unfolding lexing
was_faulted bytes f h =
    let r = lex_failed (length bytes) 0 Other [] bytes f (omega arith) (omega arith) h in
    let place : r.3 ≡ size_all r.0 = omega (arith, r.7) in
    record {
      pieces = r.0;
      b = r.1;
      rest = r.2;
      whole = r.5;
      fit = r.6;
      few = subst (λ (z : List Lexeme). length z ≤ TOKENS) r.8 r.9;
      wrong = subst (λ z. Wrong (last_of Other r.0) (length (tokens_from 0 r.0)) z r.1 r.2 f) place (subst (λ (z : List Lexeme). Wrong (last_of Other r.0) (length z) r.3 r.1 r.2 f) r.8 r.10);
    }
