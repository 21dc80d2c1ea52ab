-- The canonical text of an expression is laid out in its canonical tokens.
use Rattle.std.proofs.Common.{◌≡◌, ℕ, zero, suc, List, [], ◌∷◌, ◌++◌, drop, map, Bool, true, false, cond, ◌==◌, nat_lt, nat_le, refl, sym, ap, ◌∙◌, subst, codes}
use Rattle.std.specs.Str.{is_utf8}
use Rattle.std.specs.List.{list_all}
use Rattle.std.proofs.lemmas.List.{append-nil}
use Rattle.std.proofs.lemmas.List.Folds.{list_all-append}
use Rattle.hmr_types.specs.declared.limits.TheConstants.{LARGEST_NUMBER}
use Rattle.module_tree.specs.Syntax as tree
use Rattle.module_tree.specs.Syntax.{ExprTree}
use Rattle.module_tree.specs.declared.tree.Op.{Op}
use Rattle.module_tree.specs.declared.tree.Op.TheVariants as ops
use Rattle.module_semantics.specs.Token as token
use Rattle.module_semantics.specs.Token.{Token}
use Rattle.module_semantics.specs.Bytes.{is_name_start, is_name_byte, is_digit}
use Rattle.module_semantics.specs.Pieces.{opens, all}
use Rattle.module_semantics.specs.Canon.{placed, op_level, op_text, level, nth, expr_text, comma_then, commas}
use Rattle.module_semantics.specs.CanonTokens.{placed_tokens, op_token, expr_tokens}
use Rattle.module_semantics.specs.CanonItems.{after_commas, between_commas}
use Rattle.module_semantics.specs.Fitting.{is_name, writable}
use Rattle.module_semantics.proofs.PiecesLex.{both}
use Rattle.module_semantics.proofs.Layouts.{closer, Laid, then_laid, closed_laid, tight_laid, no_text, minus_laid}
use Rattle.module_semantics.proofs.LaidLeaves.{not_of, name_laid, number_laid, quoted_laid, decimal_opens}
use Rattle.module_semantics.proofs.Literals.{laid_data, laid_dot, laid_safe_dot, laid_null, laid_plus, laid_minus, laid_times, laid_question, laid_colon, laid_open, laid_close, laid_comma}

-- what a closing mark or a space begins closes
pub space_closes : (k : List ℕ) → opens closer (32 ∷ k) ≡ true
unfolding opens is_name_byte is_name_start is_digit
space_closes k = refl

pub paren_closes : (k : List ℕ) → opens closer (41 ∷ k) ≡ true
unfolding opens is_name_byte is_name_start is_digit
paren_closes k = refl

pub comma_closes : (k : List ℕ) → opens closer (44 ∷ k) ≡ true
unfolding opens is_name_byte is_name_start is_digit
comma_closes k = refl

pub dot_closes : (k : List ℕ) → opens closer (46 ∷ k) ≡ true
unfolding opens is_name_byte is_name_start is_digit
dot_closes k = refl

pub safe_closes : (k : List ℕ) → opens closer (63 ∷ k) ≡ true
unfolding opens is_name_byte is_name_start is_digit
safe_closes k = refl

pub bracket_closes : (k : List ℕ) → opens closer (93 ∷ k) ≡ true
unfolding opens is_name_byte is_name_start is_digit
bracket_closes k = refl

pub semicolon_closes : (k : List ℕ) → opens closer (59 ∷ k) ≡ true
unfolding opens is_name_byte is_name_start is_digit
semicolon_closes k = refl

pub open_closes : (k : List ℕ) → opens closer (40 ∷ k) ≡ true
unfolding opens is_name_byte is_name_start is_digit
open_closes k = refl

-- each of the tokens can be written
pub record Writable (ts : List Token) : Type 0 where
  pub each : list_all writable ts ≡ true

pub two_writable : (xs ys : List Token) → Writable (xs ++ ys) → Writable xs × Writable ys
two_writable xs ys h = let t = both (list_all writable xs) (list_all writable ys) (sym (list_all-append writable xs ys) ∙ h.each) in (record { each = t.0 }, record { each = t.1 })

all_after : (n : ℕ) (ts : List Token) → list_all writable ts ≡ true → list_all writable (drop n ts) ≡ true
all_after zero ts h = h
all_after (suc n) [] h = h
all_after (suc n) (t ∷ ts) h = all_after n ts (both (writable t) (list_all writable ts) h).1

pub rest_writable : (n : ℕ) (ts : List Token) → Writable ts → Writable (drop n ts)
rest_writable n ts h = record { each = all_after n ts h.each }

pub name_first : (n : List ℕ) (ts : List Token) → Writable (token.name n ∷ ts) → is_name n ≡ true
name_first n ts h = (both (is_name n) (list_all writable ts) h.each).0

pub text_first : (s : List ℕ) (ts : List Token) → Writable (token.text s ∷ ts) → is_utf8 s ≡ true
text_first s ts h = (both (is_utf8 s) (list_all writable ts) h.each).0

number_first : (n : ℕ) (ts : List Token) → Writable (token.number n ∷ ts) → nat_le n LARGEST_NUMBER ≡ true
number_first n ts h = (both (nat_le n LARGEST_NUMBER) (list_all writable ts) h.each).0

-- parts with commas between them
pub nothing_more : {a : List ℕ} {xs : List Token} → Laid true a xs → Laid true (a ++ []) (xs ++ [])
nothing_more {a} {xs} x = subst (λ v. Laid true v (xs ++ [])) (sym (append-nil a)) (subst (λ v. Laid true a v) (sym (append-nil xs)) x)

abbrev pub EachLaid : {T : Type 0} → (T → List ℕ) → (T → List Token) → Type 0
EachLaid {T} text toks = (t : T) → Writable (toks t) → Laid true (text t) (toks t)

after_laid : {T : Type 0} (text : T → List ℕ) (toks : T → List Token) → EachLaid text toks → (ts : List T) → Writable (after_commas toks ts) → (a : List ℕ) (xs : List Token) → Laid true a xs → Laid true (a ++ comma_then (map text ts)) (xs ++ after_commas toks ts)
after_laid text toks each [] h a xs x = nothing_more x
after_laid text toks each (t ∷ ts) h a xs x =
    let w = two_writable (toks t) (after_commas toks ts) (rest_writable 1 _ h) in
    closed_laid x (comma_closes _) (then_laid laid_comma (after_laid text toks each ts w.1 (text t) (toks t) (each t w.0)))

pub commas_laid : {T : Type 0} (text : T → List ℕ) (toks : T → List Token) → EachLaid text toks → (ts : List T) → Writable (between_commas toks ts) → Laid true (commas (map text ts)) (between_commas toks ts)
commas_laid text toks each [] h = tight_laid no_text
commas_laid text toks each (t ∷ ts) h =
    let w = two_writable (toks t) (after_commas toks ts) h in
    after_laid text toks each ts w.1 (text t) (toks t) (each t w.0)

-- parentheses
paren_laid : (low : Bool) (b : List ℕ) (ts : List Token) → Laid true b ts → Laid true (cond low (codes "(" ++ (b ++ codes ")")) b) (cond low (token.punct 2 ∷ (ts ++ (token.punct 3 ∷ []))) ts)
paren_laid true b ts x = then_laid laid_open (closed_laid x (paren_closes _) (tight_laid laid_close))
paren_laid false b ts x = x

paren_writable : (low : Bool) (ts : List Token) → Writable (cond low (token.punct 2 ∷ (ts ++ (token.punct 3 ∷ []))) ts) → Writable ts
paren_writable true ts h = (two_writable ts (token.punct 3 ∷ []) (rest_writable 1 _ h)).0
paren_writable false ts h = h

placed_laid : (place l : ℕ) (b : List ℕ) (ts : List Token) → Laid true b ts → Laid true (placed place l b) (placed_tokens place l ts)
placed_laid place l b ts x = paren_laid (nat_lt l place) b ts x

placed_writable : (place l : ℕ) (ts : List Token) → Writable (placed_tokens place l ts) → Writable ts
placed_writable place l ts h = paren_writable (nat_lt l place) ts h

-- a prim begins with no minus
minus_starts_no_name : is_name_start 45 ≡ false
unfolding is_name_start
minus_starts_no_name = refl

start_no_minus : (b : ℕ) → is_name_start b ≡ true → (b == 45) ≡ false
start_no_minus b h = not_of is_name_start b h minus_starts_no_name

name_opens : (n k : List ℕ) → is_name n ≡ true → opens (λ c. c == 45) (n ++ k) ≡ false
unfolding opens
name_opens [] k h = absurd cc
name_opens (b ∷ cs) k h = let t = both (is_name_start b) (all is_name_byte cs) h in start_no_minus b t.0

no_minus : (ps : List (List ℕ)) (a : ExprTree) → Writable (expr_tokens ps a) → opens (λ c. c == 45) (placed 5 (level a) (expr_text ps a)) ≡ false
unfolding opens
no_minus ps (tree.num n) h = decimal_opens n (number_first n [] h)
no_minus ps (tree.text s) h = refl
no_minus ps tree.undefined h = refl
no_minus ps (tree.name n) h = ap (opens (λ c. c == 45)) (sym (append-nil n)) ∙ name_opens n [] (name_first n _ h)
no_minus ps (tree.bag k) h = refl
no_minus ps (tree.member i safe k) h = name_opens (nth ps i) _ (name_first (nth ps i) _ h)
no_minus ps (tree.neg a) h = refl
no_minus ps (tree.binary ops.Null a b) h = refl
no_minus ps (tree.binary ops.Add a b) h = refl
no_minus ps (tree.binary ops.Sub a b) h = refl
no_minus ps (tree.binary ops.Mul a b) h = refl
no_minus ps (tree.choose c a b) h = refl

member_laid : (ps : List (List ℕ)) (i : ℕ) (safe : Bool) (k : List ℕ) → is_name (nth ps i) ≡ true → is_name k ≡ true → Laid true (expr_text ps (tree.member i safe k)) (expr_tokens ps (tree.member i safe k))
member_laid ps i true k n h = closed_laid (name_laid (nth ps i) n) (safe_closes _) (then_laid laid_safe_dot (name_laid k h))
member_laid ps i false k n h = closed_laid (name_laid (nth ps i) n) (dot_closes _) (then_laid laid_dot (name_laid k h))

op_laid : (op : Op) → Laid false (op_text op) (op_token op ∷ [])
op_laid ops.Null = laid_null
op_laid ops.Add = laid_plus
op_laid ops.Sub = laid_minus
op_laid ops.Mul = laid_times

op_closes : (op : Op) (k : List ℕ) → opens closer (op_text op ++ k) ≡ true
op_closes ops.Null k = space_closes _
op_closes ops.Add k = space_closes _
op_closes ops.Sub k = space_closes _
op_closes ops.Mul k = space_closes _

pub expr_laid : (ps : List (List ℕ)) → EachLaid (expr_text ps) (expr_tokens ps)
expr_laid ps (tree.num n) h = number_laid n (number_first n [] h)
expr_laid ps (tree.text s) h = tight_laid (quoted_laid s (text_first s _ h))
expr_laid ps tree.undefined h = name_laid (codes "undefined") (name_first (codes "undefined") _ h)
expr_laid ps (tree.name n) h = name_laid n (name_first n _ h)
expr_laid ps (tree.bag k) h = then_laid laid_data (name_laid k (name_first k _ (rest_writable 8 (expr_tokens ps (tree.bag k)) h)))
expr_laid ps (tree.member i safe k) h =
    member_laid ps i safe k (name_first (nth ps i) _ h) (name_first k _ (rest_writable 2 (expr_tokens ps (tree.member i safe k)) h))
expr_laid ps (tree.neg a) h =
    let w = placed_writable 5 (level a) (expr_tokens ps a) (rest_writable 1 _ h) in
    minus_laid (no_minus ps a w) (placed_laid 5 (level a) _ _ (expr_laid ps a w))
expr_laid ps (tree.binary op a b) h =
    let t = two_writable (placed_tokens (op_level op) (level a) (expr_tokens ps a)) _ h in
    let l = placed_writable (op_level op) (level a) (expr_tokens ps a) t.0 in
    let r = placed_writable (suc (op_level op)) (level b) (expr_tokens ps b) (rest_writable 1 (op_token op ∷ placed_tokens (suc (op_level op)) (level b) (expr_tokens ps b)) t.1) in
    closed_laid (placed_laid (op_level op) (level a) _ _ (expr_laid ps a l)) (op_closes op _) (then_laid (op_laid op) (placed_laid (suc (op_level op)) (level b) _ _ (expr_laid ps b r)))
expr_laid ps (tree.choose c a b) h =
    let t = two_writable (placed_tokens 1 (level c) (expr_tokens ps c)) _ h in
    let u = two_writable (expr_tokens ps a) (token.punct 14 ∷ expr_tokens ps b) (rest_writable 1 _ t.1) in
    closed_laid (placed_laid 1 (level c) _ _ (expr_laid ps c (placed_writable 1 (level c) (expr_tokens ps c) t.0))) (space_closes _)
    (then_laid laid_question (closed_laid (expr_laid ps a u.0) (space_closes _) (then_laid laid_colon (expr_laid ps b (rest_writable 1 _ u.1)))))
