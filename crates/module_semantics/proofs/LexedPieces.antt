-- What is lexed is made of pieces.
use Rattle.module_semantics.specs.Steps.{◌>>=◌}
use Rattle.std.proofs.Common.{◌≡◌, ℕ, zero, suc, ◌+◌, ◌*◌, ◌-◌, ◌≤◌, List, [], ◌∷◌, ◌++◌, length, drop, take, Bool, true, false, not, cond, ◌&&◌, ◌==◌, nat_lt, ◌⊎◌, inl, inr, Option, Some, None, Result, Ok, Err, refl, sym, ap, ◌∙◌, arith, append_assoc, length-append, subst}
use Rattle.std.proofs.lemmas.List.{append-nil}
use Rattle.std.proofs.lemmas.Bool.{eqb-true}
use Rattle.module_semantics.specs.Token.{Token, name, number, text, punct, Lexeme}
use Rattle.module_semantics.specs.Bytes.{is_blank, is_digit, is_name_start, is_name_byte, is_quote, is_line_end, is_escape, unescape, not_line_feed, span}
use Rattle.module_semantics.specs.Lexing.{begins, single, double, barred, after_token, front, number_at, number_from, text_at, text_from, comment_at, comment_from, punct_at, single_at, double_at, step, added, lex_from, lexing}
use Rattle.module_semantics.specs.Pieces.{Part, plain, escaped, Piece, blank, line, block, word, nought, digits, quoted, mark, pair, spelled_parts, parts_size, parts_text, first, more, spelled, size, value, token_of, all, opens, unclosed, are_inside, IsPiece, IsLongest, spelled_all, Fit, with_token, tokens_from, IsLexing}
use Rattle.module_semantics.specs.declared.tokens.After.{After}
use Rattle.hmr_types.specs.declared.limits.TheConstants.{TOKENS, LARGEST_NUMBER}
use Rattle.module_semantics.proofs.PiecesLex.{both, drop_size, begins_before, longer, with_more, is_lexed}
use Rattle.module_semantics.specs.declared.tokens.LexFault.{LexFault}

pub went : {A : Type 0} (b : Bool) (x y z : Result A LexFault) → cond b x y ≡ z → ((b ≡ true) × (x ≡ z)) ⊎ ((b ≡ false) × (y ≡ z))
went true x y z h = inl (refl, h)
went false x y z h = inr (refl, h)

pub bind_ok : {A B : Type 0} (r : Result A LexFault) (f : A → Result B LexFault) (y : B) → (r >>= f) ≡ Ok y → (x : A) × (r ≡ Ok x) × (f x ≡ Ok y)
bind_ok (Ok x) f y h = (x, refl, h)
bind_ok (Err e) f y h = cc

pub and_yes : (a b : Bool) → a ≡ true → b ≡ true → (a && b) ≡ true
and_yes a b h k = rw (h, k) refl

pub not_yes : (a : Bool) → a ≡ false → not a ≡ true
not_yes a h = rw h refl

-- a run of a class at the front
pub record Run (p : ℕ → Bool) (bs : List ℕ) : Type 0 where
  pub run : List ℕ
  pub rest : List ℕ
  pub split : bs ≡ run ++ rest
  pub each : all p run ≡ true
  pub ends : opens p rest ≡ false
  pub len : length run ≡ span p bs
  pub taken : take (span p bs) bs ≡ run

run_more : (p : ℕ → Bool) (b : ℕ) (bs : List ℕ) (yes_ : p b ≡ true) → Run p bs → Run p (b ∷ bs)
unfolding span all
run_more p b bs h r = record { run = b ∷ r.run; rest = r.rest; split = ap (λ t. b ∷ t) r.split; each = and_yes _ _ h r.each; ends = r.ends; len = rw h (ap suc r.len); taken = rw h (ap (λ t. b ∷ t) r.taken) }

run_none : (p : ℕ → Bool) (b : ℕ) (bs : List ℕ) (no_ : p b ≡ false) → Run p (b ∷ bs)
unfolding span all opens
run_none p b bs h = record { run = []; rest = b ∷ bs; split = refl; each = refl; ends = h; len = rw h refl; taken = rw h refl }

run_by : (p : ℕ → Bool) (b : ℕ) (bs : List ℕ) (t : Bool) → p b ≡ t → Run p bs → Run p (b ∷ bs)
run_by p b bs true h r = run_more p b bs h r
run_by p b bs false h r = run_none p b bs h

pub run_of : (p : ℕ → Bool) (bs : List ℕ) → Run p bs
unfolding span all opens
run_of p [] = record { run = []; rest = []; split = refl; each = refl; ends = refl; len = refl; taken = refl }
run_of p (b ∷ bs) = run_by p b bs (p b) refl (run_of p bs)

abbrev pub NumberMade : ℕ → ℕ → List ℕ → ℕ × ℕ → Type 0
NumberMade v n bs x = (ds : List ℕ) × (k : List ℕ) × (bs ≡ ds ++ k) × (all is_digit ds ≡ true) × (value v ds ≡ x.0) × (n + length ds ≡ x.1) × (value v ds ≤ LARGEST_NUMBER) × (opens is_digit k ≡ false)

pub large_not : (v : ℕ) → nat_lt LARGEST_NUMBER v ≡ false → v ≤ LARGEST_NUMBER
large_not v h = search (arith)

pub number_made : (at v n : ℕ) (bs : List ℕ) (x : ℕ × ℕ) → v ≤ LARGEST_NUMBER → number_from at v n bs ≡ Ok x → NumberMade v n bs x
unfolding number_from all opens
number_made at v n [] x few h =
    let same : (v, n) ≡ x = cc in
    subst (λ y. NumberMade v n [] y) same ([], [], refl, refl, refl, omega arith, few, refl)
number_made at v n (b ∷ bs) x few h = elim (went (is_digit b) _ _ (Ok x) h) [
  | inl w ↦ elim (went (nat_lt LARGEST_NUMBER (10 * v + (b - 48))) _ _ (Ok x) w.1) [
    | inl u ↦ cc
    | inr u ↦
        let r = number_made at (10 * v + (b - 48)) (suc n) bs x (large_not _ u.0) u.1 in
        (b ∷ r.0, r.1, ap (λ t. b ∷ t) r.2, and_yes _ _ w.0 r.3, r.4, omega (arith, r.5), r.6, r.7)
  ]
  | inr w ↦
      let same : (v, n) ≡ x = cc in
      subst (λ y. NumberMade v n (b ∷ bs) y) same ([], b ∷ bs, refl, refl, refl, omega arith, few, w.0)
]

pub cons_same : (b c : ℕ) (bs cs : List ℕ) → b ≡ c → bs ≡ cs → ◌≡◌ {A = List ℕ} (b ∷ bs) (c ∷ cs)
cons_same b c bs cs h k = rw (h, k) refl

pub begins_is : (c : ℕ) (bs : List ℕ) → begins c bs ≡ true → (k : List ℕ) × (bs ≡ c ∷ k)
unfolding begins
begins_is c [] h = cc
begins_is c (b ∷ bs) h = (bs, ap (λ x. x ∷ bs) (eqb-true b c h))

abbrev pub CommentMade : ℕ → List ℕ → ℕ → Type 0
CommentMade n bs m = (cs : List ℕ) × (k : List ℕ) × (bs ≡ cs ++ (42 ∷ 47 ∷ k)) × (unclosed cs ≡ true) × (n + suc (suc (length cs)) ≡ m)

comment_made : (at n : ℕ) (bs : List ℕ) (m : ℕ) → comment_from at n bs ≡ Ok m → CommentMade n bs m
unfolding comment_from unclosed
comment_made at n [] m h = cc
comment_made at n (b ∷ bs) m h = elim (went (b == 42 && begins 47 bs) _ _ (Ok m) h) [
  | inl w ↦
      let t = both (b == 42) (begins 47 bs) w.0 in
      let k = begins_is 47 bs t.1 in
      let same : suc (suc n) ≡ m = cc in
      ([], k.0, cons_same b 42 bs (47 ∷ k.0) (eqb-true b 42 t.0) k.1, refl, omega (arith, same))
  | inr w ↦
      let r = comment_made at (suc n) bs m w.1 in
      let clear : (b == 42 && begins 47 r.0) ≡ false = ap (λ x. b == 42 && x) (sym (begins_before r.0 r.1) ∙ ap (begins 47) (sym r.2)) ∙ w.0 in
      (b ∷ r.0, r.1, ap (λ t. b ∷ t) r.2, and_yes _ _ (not_yes _ clear) r.3, omega (arith, r.4))
]

abbrev pub TextMade : ℕ → List ℕ → ℕ → List ℕ → List ℕ × ℕ → Type 0
TextMade q out n bs x = (ps : List Part) × (k : List ℕ) × (bs ≡ spelled_parts ps (q ∷ k)) × (out ++ parts_text ps ≡ x.0) × (n + suc (suc (parts_size ps)) ≡ x.1) × (are_inside q ps ≡ true)

text_ends : (q b : ℕ) (out : List ℕ) (n : ℕ) (bs : List ℕ) (x : List ℕ × ℕ) → (b == q) ≡ true → ◌≡◌ {A = Result (List ℕ × ℕ) LexFault} (Ok (out, suc (suc n))) (Ok x) → TextMade q out n (b ∷ bs) x
unfolding are_inside
text_ends q b out n bs x e h =
    let same : (out, suc (suc n)) ≡ x = cc in
    subst (λ y. TextMade q out n (b ∷ bs) y) same ([], bs, cons_same b q bs bs (eqb-true b q e) refl, append-nil out, omega arith, refl)

pub plain_yes : (a b c : Bool) → a ≡ false → b ≡ false → c ≡ false → (not a && not b && not c) ≡ true
plain_yes a b c h k l = rw (h, k, l) refl

text_made : (at q : ℕ) (out : List ℕ) (n : ℕ) (bs : List ℕ) (x : List ℕ × ℕ) → text_from at q out n false bs ≡ Ok x → TextMade q out n bs x
unfolding text_from are_inside
text_made at q out n [] x h = cc
text_made at q out n (b ∷ []) x h = elim (went (b == q) _ _ (Ok x) h) [
  | inl w ↦ text_ends q b out n [] x w.0 w.1
  | inr w ↦ elim (went (is_line_end b) _ _ (Ok x) w.1) [
    | inl u ↦ cc
    | inr u ↦ elim (went (b == 92) _ _ (Ok x) u.1) [
      | inl v ↦ cc
      | inr v ↦ cc
    ]
  ]
]
text_made at q out n (b ∷ e ∷ bs) x h = elim (went (b == q) _ _ (Ok x) h) [
  | inl w ↦ text_ends q b out n (e ∷ bs) x w.0 w.1
  | inr w ↦ elim (went (is_line_end b) _ _ (Ok x) w.1) [
    | inl u ↦ cc
    | inr u ↦ elim (went (b == 92) _ _ (Ok x) u.1) [
      | inl v ↦ elim (went (is_escape e) _ _ (Ok x) v.1) [
        | inl z ↦
            let r = text_made at q (out ++ (unescape e ∷ [])) (suc (suc n)) bs x z.1 in
            (escaped e ∷ r.0, r.1, cons_same b 92 _ _ (eqb-true b 92 v.0) (ap (λ t. e ∷ t) r.2), sym (append_assoc out (unescape e ∷ []) (parts_text r.0)) ∙ r.3, omega (arith, r.4), and_yes _ _ z.0 r.5)
        | inr z ↦ cc
      ]
      | inr v ↦
          let r = text_made at q (out ++ (b ∷ [])) (suc n) (e ∷ bs) x v.1 in
          (plain b ∷ r.0, r.1, ap (λ t. b ∷ t) r.2, sym (append_assoc out (b ∷ []) (parts_text r.0)) ∙ r.3, omega (arith, r.4), and_yes _ _ (plain_yes _ _ _ w.0 u.0 v.0) r.5)
    ]
  ]
]

-- the piece at the front
abbrev pub Made : ℕ → List ℕ → Option Token × ℕ → Type 0
Made b bs x = (p : Piece) × (k : List ℕ) × (first p ≡ b) × (bs ≡ more p k) × (token_of p ≡ x.0) × (size p ≡ x.1) × IsPiece p × IsLongest p k

blank_made : (at b : ℕ) (bs : List ℕ) (x : Option Token × ℕ) → (b == 47) ≡ true → comment_at at bs ≡ Ok x → Made b bs x
unfolding comment_at
blank_made at b [] x is h = cc
blank_made at b (c ∷ bs) x is h = elim (went (c == 47) _ _ (Ok x) h) [
  | inl w ↦
      let r = run_of not_line_feed bs in
      let same : (None, suc (suc (span not_line_feed bs))) ≡ x = cc in
      subst (λ y. Made b (c ∷ bs) y) same (line r.run, r.rest, sym (eqb-true b 47 is), cons_same c 47 bs _ (eqb-true c 47 w.0) r.split, refl, ap (λ n. suc (suc n)) r.len, r.each, r.ends)
  | inr w ↦ elim (went (c == 42) _ _ (Ok x) w.1) [
    | inl u ↦
        let n = bind_ok (comment_from at 2 bs) (λ n. Ok (None, n)) x u.1 in
        let r = comment_made at 2 bs n.0 n.1 in
        let same : (None, n.0) ≡ x = cc in
        subst (λ y. Made b (c ∷ bs) y) same (block r.0, r.1, sym (eqb-true b 47 is), cons_same c 42 bs _ (eqb-true c 42 u.0) r.2, refl, omega (arith, r.4), r.3, tt)
    | inr u ↦ cc
  ]
]

pub digit_small : (b : ℕ) → is_digit b ≡ true → b - 48 ≤ LARGEST_NUMBER
unfolding is_digit
digit_small b h = grind arith

number_at_made : (at b : ℕ) (bs : List ℕ) (x : Option Token × ℕ) → is_digit b ≡ true → number_at at b bs ≡ Ok x → Made b bs x
unfolding number_at
number_at_made at b bs x is h = elim (went (b == 48) _ _ (Ok x) h) [
  | inl w ↦
      let same : (Some (number 0), 1) ≡ x = cc in
      subst (λ y. Made b bs y) same (nought, bs, sym (eqb-true b 48 w.0), refl, refl, refl, tt, tt)
  | inr w ↦
      let n = bind_ok (number_from at (b - 48) 1 bs) (λ n. Ok (Some (number n.0), n.1)) x w.1 in
      let r = number_made at (b - 48) 1 bs n.0 (digit_small b is) n.1 in
      let same : (Some (number n.0.0), n.0.1) ≡ x = cc in
      subst (λ y. Made b bs y) same (digits b r.0, r.1, refl, r.2, ap (λ v. Some (number v)) r.4, omega (arith, r.5), (is, w.0, r.3, r.6), r.7)
]

text_at_made : (at b : ℕ) (bs : List ℕ) (x : Option Token × ℕ) → is_quote b ≡ true → text_at at b bs ≡ Ok x → Made b bs x
unfolding text_at
text_at_made at b bs x is h =
    let n = bind_ok (text_from at b [] 0 false bs) (λ n. Ok (Some (text n.0), n.1)) x h in
    let r = text_made at b [] 0 bs n.0 n.1 in
    let same : (Some (text n.0.0), n.0.1) ≡ x = cc in
    subst (λ y. Made b bs y) same (quoted b r.0, r.1, refl, r.2, ap (λ v. Some (text v)) r.3, omega (arith, r.4), (is, r.5), tt)

single_made : (at b : ℕ) (o : Option ℕ) (x : Option Token × ℕ) → single_at at o ≡ Ok x → (p : ℕ) × (o ≡ Some p) × ((Some (punct p), 1) ≡ x)
single_made at b None x h = cc
single_made at b (Some p) x h = (p, refl, cc)

mark_made : (at b : ℕ) (bs : List ℕ) (x : Option Token × ℕ) → single_at at (single b) ≡ Ok x → ((c : ℕ) (cs : List ℕ) → bs ≡ c ∷ cs → double b c ≡ None) → Made b bs x
mark_made at b bs x h l =
    let s = single_made at b (single b) x h in
    subst (λ y. Made b bs y) s.2 (mark b s.0, bs, refl, refl, refl, refl, s.1, l)

pub none_pair : (b c : ℕ) (bs : List ℕ) → double b c ≡ None → (d : ℕ) (ds : List ℕ) → ◌≡◌ {A = List ℕ} (c ∷ bs) (d ∷ ds) → double b d ≡ None
none_pair b c bs h d ds e = let same : c ≡ d = cc in subst (λ z. double b z ≡ None) same h

pair_made : (at b c : ℕ) (bs : List ℕ) (x : Option Token × ℕ) (o : Option ℕ) → double b c ≡ o → double_at o (single_at at (single b)) ≡ Ok x → Made b (c ∷ bs) x
pair_made at b c bs x None e h = mark_made at b (c ∷ bs) x h (none_pair b c bs e)
pair_made at b c bs x (Some p) e h =
    let same : (Some (punct p), 2) ≡ x = cc in
    subst (λ y. Made b (c ∷ bs) y) same (pair b c p, bs, refl, refl, refl, refl, e, tt)

pub no_second : (b : ℕ) (c : ℕ) (cs : List ℕ) → ◌≡◌ {A = List ℕ} [] (c ∷ cs) → double b c ≡ None
no_second b c cs h = cc

punct_made : (at b : ℕ) (bs : List ℕ) (x : Option Token × ℕ) → punct_at at b bs ≡ Ok x → Made b bs x
unfolding punct_at
punct_made at b [] x h = mark_made at b [] x h (no_second b)
punct_made at b (c ∷ bs) x h = pair_made at b c bs x (double b c) refl h

pub front_made : (at b : ℕ) (bs : List ℕ) (x : Option Token × ℕ) → front at b bs ≡ Ok x → Made b bs x
unfolding front
front_made at b bs x h = elim (went (is_blank b) _ _ (Ok x) h) [
  | inl w ↦
      let same : (None, 1) ≡ x = cc in
      subst (λ y. Made b bs y) same (blank b, bs, refl, refl, refl, refl, w.0, tt)
  | inr w ↦ elim (went (is_name_start b) _ _ (Ok x) w.1) [
    | inl u ↦
        let r = run_of is_name_byte bs in
        let same : (Some (name (b ∷ take (span is_name_byte bs) bs)), suc (span is_name_byte bs)) ≡ x = cc in
        subst (λ y. Made b bs y) same (word b r.run, r.rest, refl, r.split, ap (λ t. Some (name (b ∷ t))) (sym r.taken), ap suc r.len, (u.0, r.each), r.ends)
    | inr u ↦ elim (went (is_digit b) _ _ (Ok x) u.1) [
      | inl v ↦ number_at_made at b bs x v.0 v.1
      | inr v ↦ elim (went (is_quote b) _ _ (Ok x) v.1) [
        | inl z ↦ text_at_made at b bs x z.0 z.1
        | inr z ↦ elim (went (b == 47) _ _ (Ok x) z.1) [
          | inl y ↦ blank_made at b bs x y.0 y.1
          | inr y ↦ punct_made at b bs x y.1
        ]
      ]
    ]
  ]
]

pub step_ok : (at : ℕ) (last : After) (done : List Lexeme) (b : ℕ) (bs : List ℕ) (s : ℕ × (After × List Lexeme)) → step at last done b bs ≡ Ok s
    → (piece : Option Token × ℕ) × (barred last b ≡ false) × (front at b bs ≡ Ok piece) × (added at done piece ≡ Ok s.1.1) × (piece.1 ≡ s.0) × (after_token piece.0 ≡ s.1.0)
unfolding step
step_ok at last done b bs s h = elim (went (barred last b) _ _ (Ok s) h) [
  | inl w ↦ cc
  | inr w ↦
      let piece = bind_ok (front at b bs) (λ piece. added at done piece >>= λ next. Ok (piece.1, (after_token piece.0, next))) s w.1 in
      let next = bind_ok (added at done piece.0) (λ next. Ok (piece.0.1, (after_token piece.0.0, next))) s piece.2 in
      let same : (piece.0.1, (after_token piece.0.0, next.0)) ≡ s = cc in
      (piece.0, w.0, piece.1, next.1 ∙ ap (λ z. Ok z.1.1) same, ap (λ z. z.0) same, ap (λ z. z.1.0) same)
]

room_for : (done : List Lexeme) (l : Lexeme) → nat_lt (length done) TOKENS ≡ true → length (done ++ (l ∷ [])) ≤ TOKENS
room_for done l h = search (arith, length-append done (l ∷ []))

pub added_made : (at : ℕ) (done : List Lexeme) (t : Option Token) (n : ℕ) (next : List Lexeme) → length done ≤ TOKENS → added at done (t, n) ≡ Ok next → (next ≡ done ++ with_token at t n []) × (length next ≤ TOKENS)
unfolding added
added_made at done None n next few h = let same : done ≡ next = cc in (sym same ∙ sym (append-nil done), subst (λ z. length z ≤ TOKENS) same few)
added_made at done (Some t) n next few h = elim (went (nat_lt (length done) TOKENS) _ _ (Ok next) h) [
  | inl w ↦
      let same : done ++ (record { token = t; at = at; len = n } ∷ []) ≡ next = cc in
      (sym same, subst (λ z. length z ≤ TOKENS) same (room_for done _ w.0))
  | inr w ↦ cc
]

abbrev pub LexMade : ℕ → After → List Lexeme → List ℕ → List Lexeme → Type 0
LexMade at last done bs ts = (ps : List Piece) × (bs ≡ spelled_all ps []) × Fit last ps [] × (ts ≡ done ++ tokens_from at ps) × (length ts ≤ TOKENS)

-- one piece, and what comes of the rest
piece_made : (at : ℕ) (last : After) (done : List Lexeme) (p : Piece) (k : List ℕ) (ts : List Lexeme) → barred last (first p) ≡ false → IsPiece p → IsLongest p k
    → LexMade (at + size p) (after_token (token_of p)) (done ++ with_token at (token_of p) (size p) []) k ts → LexMade at last done (spelled p k) ts
piece_made at last done p k ts free good long r =
    (p ∷ r.0, ap (spelled p) r.1, (good, subst (IsLongest p) r.1 long, free, r.2), r.3 ∙ with_more at done (token_of p) (size p) (tokens_from (at + size p) r.0), r.4)

lex_made : (n at : ℕ) (last : After) (done : List Lexeme) (bs : List ℕ) (ts : List Lexeme) → length bs ≤ n → length done ≤ TOKENS → lex_from n at last done bs ≡ Ok ts → LexMade at last done bs ts
unfolding lex_from
lex_made zero at last done [] ts long few h = let same : done ≡ ts = cc in subst (λ z. LexMade at last done [] z) same ([], refl, tt, sym (append-nil done), few)
lex_made (suc n) at last done [] ts long few h = let same : done ≡ ts = cc in subst (λ z. LexMade at last done [] z) same ([], refl, tt, sym (append-nil done), few)
lex_made zero at last done (b ∷ bs) ts long few h = absurd (omega (arith, long))
lex_made (suc n) at last done (b ∷ bs) ts long few h =
    let s = bind_ok (step at last done b bs) (λ s. lex_from n (at + s.0) s.1.0 s.1.1 (drop s.0 (b ∷ bs))) ts h in
    let o = step_ok at last done b bs s.0 s.1 in
    let m = front_made at b bs o.0 o.2 in
    let p = m.0 in
    let k = m.1 in
    let a = added_made at done o.0.0 o.0.1 s.0.1.1 few o.3 in
    let whole : spelled p k ≡ b ∷ bs = cons_same (first p) b (more p k) bs m.2 (sym m.3) in
    let len : size p ≡ s.0.0 = m.5 ∙ o.4 in
    let aft : after_token (token_of p) ≡ s.0.1.0 = ap after_token m.4 ∙ o.5 in
    let nxt : s.0.1.1 ≡ done ++ with_token at (token_of p) (size p) [] = a.0 ∙ rw (m.4, m.5) refl in
    let cut : k ≡ drop s.0.0 (b ∷ bs) = sym (drop_size p k) ∙ rw (len, whole) refl in
    let inner : lex_from n (at + size p) (after_token (token_of p)) s.0.1.1 k ≡ Ok ts = rw (len, aft, cut) s.2 in
    let shorter : length k ≤ n = omega (arith, long, longer p k, ap length whole) in
    let ih = lex_made n (at + size p) (after_token (token_of p)) s.0.1.1 k ts shorter a.1 inner in
    let ih' = subst (λ z. LexMade (at + size p) (after_token (token_of p)) z k ts) nxt ih in
    let free : barred last (first p) ≡ false = rw m.2 o.1 in
    subst (λ z. LexMade at last done z ts) whole (piece_made at last done p k ts free m.6 m.7 ih')

pub was_lexed : (bytes : List ℕ) (ts : List Lexeme) → lexing bytes ≡ Ok ts → IsLexing bytes ts
unfolding lexing
was_lexed bytes ts h =
    let r = lex_made (length bytes) 0 _ [] bytes ts (omega arith) (omega arith) h in
    record { pieces = r.0; whole = r.1; fit = r.2; tokens = r.3; few = r.4 }

pub one_lexing : (bytes : List ℕ) (ts us : List Lexeme) → IsLexing bytes ts → IsLexing bytes us → ts ≡ us
one_lexing bytes ts us a b = let one = is_lexed bytes ts a in let other = is_lexed bytes us b in cc
