-- None longer begins so.
use Rattle.module_semantics.specs.Steps.{◌>>=◌}
use Rattle.std.proofs.Common.{◌≡◌, ℕ, suc, ◌-◌, ◌≤◌, List, [], ◌∷◌, ◌++◌, length, Bool, true, false, ◌==◌, Option, Some, None, Ok, refl, sym, ap, ◌∙◌, arith, append_assoc, length-append, subst}
use Rattle.module_semantics.specs.Token.{Token, number}
use Rattle.module_semantics.specs.Bytes.{is_digit, is_name_byte, not_line_feed}
use Rattle.module_semantics.specs.Lexing.{Front, single, double, front, number_at, number_from}
use Rattle.module_semantics.specs.Pieces.{Piece, blank, line, block, word, nought, digits, quoted, mark, pair, first, more, spelled, size, no_number, token_of, all, opens, IsPiece, IsLongest}
use Rattle.module_semantics.proofs.PiecesLex.{both}
use Rattle.module_semantics.proofs.LexedPieces.{bind_ok, and_yes, run_of, digit_small}
use Rattle.module_semantics.proofs.PiecesLex.{front_reads, digit_not}
use Rattle.module_semantics.proofs.LexedPieces.{no_second, none_pair, number_made}
use Rattle.std.proofs.lemmas.List.{length-append, append_assoc}

heads : (b c : ℕ) (bs cs : List ℕ) → ◌≡◌ {A = List ℕ} (b ∷ bs) (c ∷ cs) → (b ≡ c) × (bs ≡ cs)
heads b c bs cs h = (cc, cc)

sizes_same : (x y : Option Token × ℕ) → ◌≡◌ {A = Front} (Ok x) (Ok y) → x.1 ≡ y.1
sizes_same x y h = let same : x ≡ y = cc in ap (λ z. z.1) same

one_size : (p q : Piece) (k j : List ℕ) → IsPiece p → IsLongest p k → IsPiece q → IsLongest q j → spelled q j ≡ spelled p k → size q ≡ size p
one_size p q k j gp lp gq lq h =
    let e = heads (first q) (first p) (more q j) (more p k) h in
    let a : front 0 (first p) (more p k) ≡ Ok (token_of q, size q) = rw (← e.0, ← e.1) (front_reads 0 q j gq lq) in
    sizes_same (token_of q, size q) (token_of p, size p) (sym a ∙ front_reads 0 p k gp lp)

all_append : (p : ℕ → Bool) (cs ds : List ℕ) → all p cs ≡ true → all p ds ≡ true → all p (cs ++ ds) ≡ true
unfolding all
all_append p [] ds h k = k
all_append p (c ∷ cs) ds h k = let t = both (p c) (all p cs) h in and_yes _ _ t.0 (all_append p cs ds t.1 k)

abbrev pub Grown : Piece → List ℕ → Type 0
Grown q j = (r : Piece) × (k : List ℕ) × IsPiece r × IsLongest r k × (spelled q j ≡ spelled r k) × (size q ≤ size r)

mark_grown : (b p c : ℕ) (j : List ℕ) (o : Option ℕ) → double b c ≡ o → single b ≡ Some p → Grown (mark b p) (c ∷ j)
mark_grown b p c j None e g = (mark b p, c ∷ j, g, none_pair b c j e, refl, omega arith)
mark_grown b p c j (Some n) e g = (pair b c n, j, e, tt, refl, omega arith)

grown : (q : Piece) (j : List ℕ) → no_number q ≡ true → IsPiece q → Grown q j
grown (blank b) j n g = (blank b, j, g, tt, refl, omega arith)
grown (line cs) j n g =
    let r = run_of not_line_feed j in
    (line (cs ++ r.run), r.rest, all_append _ cs r.run g r.each, r.ends, ap (λ t. 47 ∷ 47 ∷ t) (ap (λ t. cs ++ t) r.split ∙ sym (append_assoc cs r.run r.rest)), omega (arith, length-append cs r.run))
grown (block cs) j n g = (block cs, j, g, tt, refl, omega arith)
grown (word b cs) j n g =
    let r = run_of is_name_byte j in
    (word b (cs ++ r.run), r.rest, (g.0, all_append _ cs r.run g.1 r.each), r.ends, ap (λ t. b ∷ t) (ap (λ t. cs ++ t) r.split ∙ sym (append_assoc cs r.run r.rest)), omega (arith, length-append cs r.run))
grown nought j n g = (nought, j, g, tt, refl, omega arith)
grown (digits b ds) j n g = cc
grown (quoted q ps) j n g = (quoted q ps, j, g, tt, refl, omega arith)
grown (mark b p) [] n g = (mark b p, [], g, no_second b, refl, omega arith)
grown (mark b p) (c ∷ j) n g = mark_grown b p c j (double b c) refl g
grown (pair b c p) j n g = (pair b c p, j, g, tt, refl, omega arith)

pub none_longer : (p q : Piece) (k j : List ℕ) → IsPiece p → IsLongest p k → no_number q ≡ true → IsPiece q → spelled q j ≡ spelled p k → size q ≤ size p
none_longer p q k j gp lp n gq h =
    let r = grown q j n gq in
    omega (arith, r.5, one_size p r.0 k r.1 gp lp r.2 r.3 (sym r.4 ∙ h))

run_le : (p : ℕ → Bool) (cs ds j k : List ℕ) → all p cs ≡ true → opens p k ≡ false → cs ++ j ≡ ds ++ k → length cs ≤ length ds
unfolding all opens
run_le p [] ds j k h e is = omega arith
run_le p (c ∷ cs) [] j k h e is =
    let t = both (p c) (all p cs) h in
    let no_ : p c ≡ false = subst (λ z. opens p z ≡ false) (sym is) e in
    absurd (cc)
run_le p (c ∷ cs) (d ∷ ds) j k h e is =
    let t = both (p c) (all p cs) h in
    omega (arith, run_le p cs ds j k t.1 e (heads c d (cs ++ j) (ds ++ k) is).1)

digits_at : (b : ℕ) (ds j : List ℕ) (x : Option Token × ℕ) → is_digit b ≡ true → (b == 48) ≡ false → all is_digit ds ≡ true → front 0 b (ds ++ j) ≡ Ok x → suc (length ds) ≤ x.1
unfolding front number_at
digits_at b ds j x is z h e =
    let inner : (number_from 0 (b - 48) 1 (ds ++ j) >>= λ n. Ok (Some (number n.0), n.1)) ≡ Ok x = subst (λ t. t ≡ Ok x) (rw ((digit_not b is).0, (digit_not b is).1, is, z) refl) e in
    let n = bind_ok (number_from 0 (b - 48) 1 (ds ++ j)) (λ n. Ok (Some (number n.0), n.1)) x inner in
    let r = number_made 0 (b - 48) 1 (ds ++ j) n.0 (digit_small b is) n.1 in
    let same : (Some (number n.0.0), n.0.1) ≡ x = cc in
    omega (arith, run_le is_digit ds r.0 j r.1 h r.7 r.2, r.5, ap (λ y. y.1) same)

pub none_longer_number : (p : Piece) (b : ℕ) (ds k j : List ℕ) → IsPiece p → IsLongest p k → IsPiece (digits b ds) → spelled (digits b ds) j ≡ spelled p k → size (digits b ds) ≤ size p
none_longer_number p b ds k j gp lp gq h =
    let e = heads b (first p) (ds ++ j) (more p k) h in
    let a : front 0 b (ds ++ j) ≡ Ok (token_of p, size p) = rw (e.0, e.1) (front_reads 0 p k gp lp) in
    digits_at b ds j (token_of p, size p) gq.0 gq.1 gq.2 a

pub no_longer : (p q : Piece) (k j : List ℕ) → IsPiece p → IsLongest p k → IsPiece q → spelled q j ≡ spelled p k → size q ≤ size p
no_longer p (blank b) k j gp lp gq h = none_longer p (blank b) k j gp lp refl gq h
no_longer p (line cs) k j gp lp gq h = none_longer p (line cs) k j gp lp refl gq h
no_longer p (block cs) k j gp lp gq h = none_longer p (block cs) k j gp lp refl gq h
no_longer p (word b cs) k j gp lp gq h = none_longer p (word b cs) k j gp lp refl gq h
no_longer p nought k j gp lp gq h = none_longer p nought k j gp lp refl gq h
no_longer p (quoted c ps) k j gp lp gq h = none_longer p (quoted c ps) k j gp lp refl gq h
no_longer p (mark b m) k j gp lp gq h = none_longer p (mark b m) k j gp lp refl gq h
no_longer p (pair b c m) k j gp lp gq h = none_longer p (pair b c m) k j gp lp refl gq h
no_longer p (digits b ds) k j gp lp gq h = none_longer_number p b ds k j gp lp gq h
