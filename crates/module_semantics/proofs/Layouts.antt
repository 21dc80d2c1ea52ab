-- Texts laid out in pieces: what tokens they have, and what may follow them.
use Rattle.std.proofs.Common.{◌≡◌, ℕ, List, [], ◌∷◌, ◌++◌, Bool, true, false, not, ◌&&◌, ◌==◌, Option, Some, None, refl, sym, ap, ◌∙◌, subst, arith}
use Rattle.std.specs.Str.{IsUtf8}
use Rattle.std.proofs.lemmas.List.{append_assoc, append-nil}
use Rattle.std.proofs.lemmas.Str.{IsUtf8-append, IsUtf8-nil}
use Rattle.module_semantics.specs.Token as token
use Rattle.module_semantics.specs.Token.{Token}
use Rattle.module_semantics.specs.Bytes.{is_name_byte}
use Rattle.module_semantics.specs.Lexing.{after_token, barred, single, double, marked}
use Rattle.module_semantics.specs.Pieces.{Piece, mark, first, spelled, spelled_all, token_of, IsLongest, Fit, last_of, opens}
use Rattle.module_semantics.specs.declared.tokens.After.{After}
use Rattle.module_semantics.specs.declared.tokens.After.TheVariants as after
use Rattle.module_semantics.proofs.PiecesLex.{both, nots}
use Rattle.module_semantics.proofs.EscapedTexts.{byte_utf8}

-- a byte that makes no name or number longer, and that may follow each token
abbrev pub closer : ℕ → Bool
closer b = not (is_name_byte b) && not (b == 43) && not (b == 45)

-- one more token, where there is one
abbrev pub and_token : Option Token → List Token → List Token
and_token None ts = ts
and_token (Some t) ts = t ∷ ts

-- the tokens of pieces, without their places
abbrev pub tokens_of : List Piece → List Token
tokens_of [] = []
tokens_of (p ∷ ps) = and_token (token_of p) (tokens_of ps)

-- a text that is these tokens; where it is tight, a closer is to follow, and otherwise anything may
pub record Laid (tight : Bool) (text : List ℕ) (ts : List Token) : Type 0 where
  pub pieces : List Piece
  pub whole : (k : List ℕ) → spelled_all pieces k ≡ text ++ k
  pub tokens : tokens_of pieces ≡ ts
  pub fit : (k : List ℕ) → (tight ≡ true → opens closer k ≡ true) → Fit after.Other pieces k
  pub ends : tight ≡ false → last_of after.Other pieces ≡ after.Other
  pub utf8 : IsUtf8 text

spelled_two : (ps qs : List Piece) (k : List ℕ) → spelled_all (ps ++ qs) k ≡ spelled_all ps (spelled_all qs k)
spelled_two [] qs k = refl
spelled_two (p ∷ ps) qs k = ap (spelled p) (spelled_two ps qs k)

and_token_two : (t : Option Token) (xs ys : List Token) → and_token t (xs ++ ys) ≡ and_token t xs ++ ys
and_token_two None xs ys = refl
and_token_two (Some t) xs ys = refl

tokens_two : (ps qs : List Piece) → tokens_of (ps ++ qs) ≡ tokens_of ps ++ tokens_of qs
tokens_two [] qs = refl
tokens_two (p ∷ ps) qs = ap (and_token (token_of p)) (tokens_two ps qs) ∙ and_token_two (token_of p) (tokens_of ps) (tokens_of qs)

last_two : (last : After) (ps qs : List Piece) → last_of last (ps ++ qs) ≡ last_of (last_of last ps) qs
last_two last [] qs = refl
last_two last (p ∷ ps) qs = last_two (after_token (token_of p)) ps qs

fit_two : (last : After) (ps qs : List Piece) (k : List ℕ) → Fit last ps (spelled_all qs k) → Fit (last_of last ps) qs k → Fit last (ps ++ qs) k
fit_two last [] qs k h i = i
fit_two last (p ∷ ps) qs k h i = (h.0, subst (IsLongest p) (sym (spelled_two ps qs k)) h.1, h.2, fit_two (after_token (token_of p)) ps qs k h.3 i)

pub closer_is : (b : ℕ) → closer b ≡ true → (is_name_byte b ≡ false) × ((b == 43) ≡ false) × ((b == 45) ≡ false)
closer_is b h =
    let t = both (not (is_name_byte b) && not (b == 43)) (not (b == 45)) h in
    let u = both (not (is_name_byte b)) (not (b == 43)) t.0 in
    (nots (is_name_byte b) u.0, nots (b == 43) u.1, nots (b == 45) t.1)

closer_follows : (last : After) (b : ℕ) → closer b ≡ true → barred last b ≡ false
unfolding barred
closer_follows after.Other b h = refl
closer_follows after.Number b h = (closer_is b h).0
closer_follows after.Plus b h = (closer_is b h).1
closer_follows after.Minus b h = (closer_is b h).2

fit_after : (last : After) (qs : List Piece) (k : List ℕ) → opens closer (spelled_all qs []) ≡ true → Fit after.Other qs k → Fit last qs k
unfolding opens
fit_after last [] k h f = tt
fit_after last (q ∷ qs) k h f = (f.0, f.1, closer_follows last (first q) h, f.3)

last_after : (last : After) (qs : List Piece) → opens closer (spelled_all qs []) ≡ true → last_of last qs ≡ last_of after.Other qs
unfolding opens
last_after last [] h = absurd cc
last_after last (q ∷ qs) h = refl

opens_more : (p : ℕ → Bool) (bs k : List ℕ) → opens p bs ≡ true → opens p (bs ++ k) ≡ true
unfolding opens
opens_more p [] k h = absurd cc
opens_more p (b ∷ bs) k h = h

pub then_laid : {t : Bool} {a b : List ℕ} {xs ys : List Token} → Laid false a xs → Laid t b ys → Laid t (a ++ b) (xs ++ ys)
then_laid {t} {a} {b} {xs} {ys} x y = record {
  pieces = x.pieces ++ y.pieces;
  whole = λ k. spelled_two x.pieces y.pieces k ∙ ap (spelled_all x.pieces) (y.whole k) ∙ x.whole (b ++ k) ∙ sym (append_assoc a b k);
  tokens = tokens_two x.pieces y.pieces ∙ ap (λ v. v ++ tokens_of y.pieces) x.tokens ∙ ap (λ v. xs ++ v) y.tokens;
  fit = λ k e. fit_two after.Other x.pieces y.pieces k (x.fit (spelled_all y.pieces k) (λ h. absurd cc)) (subst (λ l. Fit l y.pieces k) (sym (x.ends refl)) (y.fit k e));
  ends = λ h. last_two after.Other x.pieces y.pieces ∙ ap (λ l. last_of l y.pieces) (x.ends refl) ∙ y.ends h;
  utf8 = IsUtf8-append a b x.utf8 y.utf8;
}

pub closed_laid : {t : Bool} {a b : List ℕ} {xs ys : List Token} → Laid true a xs → opens closer b ≡ true → Laid t b ys → Laid t (a ++ b) (xs ++ ys)
closed_laid {t} {a} {b} {xs} {ys} x c y =
    let begins : opens closer (spelled_all y.pieces []) ≡ true = ap (opens closer) (y.whole [] ∙ append-nil b) ∙ c in
    record {
      pieces = x.pieces ++ y.pieces;
      whole = λ k. spelled_two x.pieces y.pieces k ∙ ap (spelled_all x.pieces) (y.whole k) ∙ x.whole (b ++ k) ∙ sym (append_assoc a b k);
      tokens = tokens_two x.pieces y.pieces ∙ ap (λ v. v ++ tokens_of y.pieces) x.tokens ∙ ap (λ v. xs ++ v) y.tokens;
      fit = λ k e. fit_two after.Other x.pieces y.pieces k (x.fit (spelled_all y.pieces k) (λ h. ap (opens closer) (y.whole k) ∙ opens_more closer b k c)) (fit_after (last_of after.Other x.pieces) y.pieces k begins (y.fit k e));
      ends = λ h. last_two after.Other x.pieces y.pieces ∙ last_after (last_of after.Other x.pieces) y.pieces begins ∙ y.ends h;
      utf8 = IsUtf8-append a b x.utf8 y.utf8;
    }

pub tight_laid : {a : List ℕ} {xs : List Token} → Laid false a xs → Laid true a xs
tight_laid x = record { pieces = x.pieces; whole = x.whole; tokens = x.tokens; fit = λ k e. x.fit k (λ h. absurd cc); ends = λ h. absurd cc; utf8 = x.utf8 }

pub no_text : Laid false [] []
no_text = record { pieces = []; whole = λ k. refl; tokens = refl; fit = λ k e. tt; ends = λ h. refl; utf8 = IsUtf8-nil }

-- a minus before what begins with none
minus_single : single 45 ≡ Some 11
unfolding single marked
minus_single = refl

minus_alone : (c : ℕ) → double 45 c ≡ None
unfolding double
minus_alone c = refl

minus_after : after_token (Some (token.punct 11)) ≡ after.Minus
unfolding after_token
minus_after = refl

minus_first : barred after.Other 45 ≡ false
unfolding barred
minus_first = refl

fit_minus : (qs : List Piece) (k : List ℕ) → opens (λ b. b == 45) (spelled_all qs []) ≡ false → Fit after.Other qs k → Fit after.Minus qs k
unfolding opens barred
fit_minus [] k h f = tt
fit_minus (q ∷ qs) k h f = (f.0, f.1, h, f.3)

pub minus_laid : {b : List ℕ} {ys : List Token} → opens (λ c. c == 45) b ≡ false → Laid true b ys → Laid true (45 ∷ b) (token.punct 11 ∷ ys)
minus_laid {b} {ys} other y =
    let begins : opens (λ c. c == 45) (spelled_all y.pieces []) ≡ false = ap (opens (λ c. c == 45)) (y.whole [] ∙ append-nil b) ∙ other in
    record {
      pieces = mark 45 11 ∷ y.pieces;
      whole = λ k. ap (λ v. 45 ∷ v) (y.whole k);
      tokens = ap (λ v. token.punct 11 ∷ v) y.tokens;
      fit = λ k e. (minus_single, λ c cs h. minus_alone c, minus_first, subst (λ l. Fit l y.pieces k) (sym minus_after) (fit_minus y.pieces k begins (y.fit k e)));
      ends = λ h. absurd cc;
      utf8 = IsUtf8-append (45 ∷ []) b (byte_utf8 45 (omega arith)) y.utf8;
    }
