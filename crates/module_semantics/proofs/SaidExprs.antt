-- What a derivation says, where it is spelled by tokens that can be written, can be written: expressions.
use Rattle.std.proofs.Common.{◌≡◌, ℕ, ◌+◌, List, [], ◌∷◌, Bool, true, false, ◌==◌, nat_le, nat_lt, Some, refl, sym, ap, ◌∙◌, subst, arith}
use Rattle.std.specs.List.{list_all}
use Rattle.std.specs.Str.{bytes_eq, is_utf8}
use Rattle.std.proofs.lemmas.Bool.{eqb-true}
use Rattle.std.proofs.lemmas.Bool.Decides.{nat_tests}
use Rattle.hmr_types.specs.declared.limits.TheConstants.{LARGEST_NUMBER}
use Rattle.module_tree.specs.declared.tree.Op.TheVariants as ops
use Rattle.module_semantics.specs.Token as token
use Rattle.module_semantics.specs.Token.{Token, LineToken}
use Rattle.module_semantics.specs.Kinds.{NUMBER, TEXT, IMPORT, UNDEFINED, META, HOT, DATA, OPEN, CLOSE, DOT, PLUS, MINUS, TIMES, QUESTION, COLON, SAFE_DOT, NULLISH, kind, within, word_kind, free_names, all_names, bytes_of, value_of, NameAt, name_at, same_name}
use Rattle.module_semantics.specs.Raw as raw
use Rattle.module_semantics.specs.Raw.{RawExpr}
use Rattle.module_semantics.specs.Spelling as spell
use Rattle.module_semantics.specs.Spelling.{Spell, ◌>>◌, ◌▸◌, one}
use Rattle.module_semantics.specs.ExprGrammar as grammar
use Rattle.module_semantics.specs.ExprGrammar.{ExprD, NullD, NullRestD, SumD, SumRestD, ProdD, ProdRestD, UnaryD, PrimD, hot_spelt, nothing, not_error, expr_spelt, null_spelt, null_rest_spelt, sum_spelt, sum_rest_spelt, prod_spelt, prod_rest_spelt, unary_spelt, prim_spelt, expr_raw, null_raw, null_rest_raw, sum_raw, sum_rest_raw, prod_raw, prod_rest_raw, unary_raw, prim_raw}
use Rattle.module_semantics.specs.CanonTokens.{fits_name}
use Rattle.module_semantics.specs.Fitting.{is_name, writable}
use Rattle.module_semantics.proofs.PiecesLex.{both}
use Rattle.module_semantics.proofs.Steps.{bind_some, some_same}
use Rattle.module_semantics.proofs.KindLists.{disjoint, within_apart}
use Rattle.module_semantics.proofs.Leaves.{one_ok}
use Rattle.module_semantics.proofs.CanonExprs.{key_kind}
use Rattle.module_semantics.proofs.Marks.{same_names, same_bytes}
use Rattle.module_semantics.proofs.CanonLevels.{tokens_in}

-- each of the tokens can be written
abbrev pub Sound : List LineToken → Type 0
Sound us = list_all writable (tokens_in us) ≡ true

-- where a part is spelled, something holds of it, and what follows can be written too
abbrev pub Keeps : Spell → Type 0 → Type 0
Keeps f G = (us r : List LineToken) → f us ≡ Some r → Sound us → G × Sound r

pub bound : {G H : Type 0} (f g : Spell) → Keeps f G → (G → Keeps g H) → Keeps (f ▸ g) H
bound f g a b us r h s =
    let w = bind_some (f us) g r h in
    let x = a us w.0 w.1 s in
    b x.0 w.0 r w.2 x.1

pub seen : {G H : Type 0} (f : Spell) → (G → H) → Keeps f G → Keeps f H
seen f m a us r h s = let x = a us r h s in (m x.0, x.1)

-- a token of some kinds that passes a test
pub one_keeps : (ks : List ℕ) (test : LineToken → Bool) → Keeps (one ks test) ((t : LineToken) × (within ks (kind t.token) ≡ true) × (test t ≡ true) × (writable t.token ≡ true))
one_keeps ks test us r h s =
    let w = one_ok ks test us r h in
    let t = both (writable w.0.token) (list_all writable (tokens_in r)) (ap (λ v. list_all writable (tokens_in v)) (sym w.1) ∙ s) in
    ((w.0, w.2, w.3, t.0), t.1)

pub past : {H : Type 0} (k : ℕ) (g : Spell) → Keeps g H → Keeps (spell.mark k ▸ g) H
past k g a = bound (spell.mark k) g (one_keeps (k ∷ []) spell.any_token) (λ t. a)

pub last : {H : Type 0} (k : ℕ) → H → Keeps (spell.mark k) H
last k x = seen (spell.mark k) (λ t. x) (one_keeps (k ∷ []) spell.any_token)

-- a name that may be declared, and can be written
abbrev pub GoodName : NameAt → Type 0
GoodName n = (fits_name n.name ≡ true) × (is_name n.name ≡ true)

-- no number, text or mark is of a kind of names
named_bytes : (ks : List ℕ) (t : Token) → within ks NUMBER ≡ false → within ks TEXT ≡ false → ((p : ℕ) → within ks (50 + p) ≡ false) → within ks (kind t) ≡ true → writable t ≡ true → (within ks (word_kind (bytes_of t)) ≡ true) × (is_name (bytes_of t) ≡ true)
named_bytes ks (token.name n) a b c h w = (h, w)
named_bytes ks (token.number n) a b c h w = absurd cc
named_bytes ks (token.text s) a b c h w = absurd cc
named_bytes ks (token.punct p) a b c h w = absurd (let no_mark = c p in cc)

-- kinds of names are less than those of marks
low : List ℕ → Bool
low ks = list_all (λ k. nat_lt k 50) ks

mark_above : (k p : ℕ) → nat_lt k 50 ≡ true → (50 + p == k) ≡ false
mark_above k p h = grind (arith, nat_tests)

no_marks : (ks : List ℕ) → low ks ≡ true → (p : ℕ) → within ks (50 + p) ≡ false
unfolding within low
no_marks [] h p = refl
no_marks (k ∷ ks) h p = let t = both (nat_lt k 50) (low ks) h in rw (mark_above k p t.0) (no_marks ks t.1 p)

free_marks : (p : ℕ) → within free_names (50 + p) ≡ false
unfolding low
free_marks = no_marks free_names refl

free_numbers : within free_names NUMBER ≡ false
unfolding within
free_numbers = refl

free_texts : within free_names TEXT ≡ false
unfolding within
free_texts = refl

all_marks : (p : ℕ) → within all_names (50 + p) ≡ false
unfolding low
all_marks = no_marks all_names refl

all_numbers : within all_names NUMBER ≡ false
unfolding within
all_numbers = refl

all_texts : within all_names TEXT ≡ false
unfolding within
all_texts = refl

name_is : (ks : List ℕ) (n : NameAt) (t : LineToken) → same_name n (name_at t) ≡ true → bytes_of t.token ≡ n.name
name_is ks n t h = ap (λ v. v.name) (sym (same_names.is n (name_at t) h))

pub name_keeps : (n : NameAt) → Keeps (spell.free_name n) (GoodName n)
name_keeps n = seen (spell.free_name n) (λ t. let b = named_bytes free_names t.0.token free_numbers free_texts free_marks t.1 t.3 in let e = name_is free_names n t.0 t.2 in (subst (λ v. fits_name v ≡ true) e b.0, subst (λ v. is_name v ≡ true) e b.1)) (one_keeps free_names (λ t. same_name n (name_at t)))

pub key_keeps : (k : List ℕ) → Keeps (spell.key k) (is_name k ≡ true)
key_keeps k = seen (spell.key k) (λ t. let b = named_bytes all_names t.0.token all_numbers all_texts all_marks t.1 t.3 in subst (λ v. is_name v ≡ true) (sym (same_bytes.is k (bytes_of t.0.token) t.2)) b.1) (one_keeps all_names (λ t. bytes_eq k (bytes_of t.token)))

no_number_name : disjoint all_names (NUMBER ∷ []) ≡ true
unfolding disjoint within
no_number_name = refl

no_text_name : disjoint all_names (TEXT ∷ []) ≡ true
unfolding disjoint within
no_text_name = refl

names_are_no_numbers : (b : List ℕ) → within (NUMBER ∷ []) (word_kind b) ≡ false
names_are_no_numbers b = within_apart all_names (NUMBER ∷ []) (word_kind b) no_number_name (key_kind b)

names_are_no_texts : (b : List ℕ) → within (TEXT ∷ []) (word_kind b) ≡ false
names_are_no_texts b = within_apart all_names (TEXT ∷ []) (word_kind b) no_text_name (key_kind b)

texts_are_no_numbers : within (NUMBER ∷ []) TEXT ≡ false
unfolding within
texts_are_no_numbers = refl

numbers_are_no_texts : within (TEXT ∷ []) NUMBER ≡ false
unfolding within
numbers_are_no_texts = refl

marks_are_no_numbers : (p : ℕ) → within (NUMBER ∷ []) (50 + p) ≡ false
unfolding low
marks_are_no_numbers = no_marks (NUMBER ∷ []) refl

marks_are_no_texts : (p : ℕ) → within (TEXT ∷ []) (50 + p) ≡ false
unfolding low
marks_are_no_texts = no_marks (TEXT ∷ []) refl

number_value : (n : ℕ) (t : Token) → within (NUMBER ∷ []) (kind t) ≡ true → (n == value_of t) ≡ true → writable t ≡ true → nat_le n LARGEST_NUMBER ≡ true
number_value n (token.name b) h e w = absurd (let other = names_are_no_numbers b in cc)
number_value n (token.number m) h e w = subst (λ v. nat_le v LARGEST_NUMBER ≡ true) (sym (eqb-true n m e)) w
number_value n (token.text s) h e w = absurd (let other = texts_are_no_numbers in cc)
number_value n (token.punct p) h e w = absurd (let other = marks_are_no_numbers p in cc)

text_value : (s : List ℕ) (t : Token) → within (TEXT ∷ []) (kind t) ≡ true → bytes_eq s (bytes_of t) ≡ true → writable t ≡ true → is_utf8 s ≡ true
text_value s (token.name b) h e w = absurd (let other = names_are_no_texts b in cc)
text_value s (token.number m) h e w = absurd (let other = numbers_are_no_texts in cc)
text_value s (token.text b) h e w = subst (λ v. is_utf8 v ≡ true) (sym (same_bytes.is s b e)) w
text_value s (token.punct p) h e w = absurd (let other = marks_are_no_texts p in cc)

pub number_keeps : (n : ℕ) → Keeps (spell.number_token n) (nat_le n LARGEST_NUMBER ≡ true)
number_keeps n = seen (spell.number_token n) (λ t. number_value n t.0.token t.1 t.2 t.3) (one_keeps (NUMBER ∷ []) (λ t. n == value_of t.token))

pub text_keeps : (s : List ℕ) → Keeps (spell.text_token s) (is_utf8 s ≡ true)
text_keeps s = seen (spell.text_token s) (λ t. text_value s t.0.token t.1 t.2 t.3) (one_keeps (TEXT ∷ []) (λ t. bytes_eq s (bytes_of t.token)))

-- the name of an event, which is a text
pub event_keeps : (n : NameAt) → Keeps (spell.name_of (TEXT ∷ []) n) (is_utf8 n.name ≡ true)
event_keeps n = seen (spell.name_of (TEXT ∷ []) n) (λ t. text_value n.name t.0.token t.1 (ap (λ v. bytes_eq n.name v) (name_is (TEXT ∷ []) n t.0 t.2) ∙ same_bytes.again n.name) t.3) (one_keeps (TEXT ∷ []) (λ t. same_name n (name_at t)))

-- what an expression says can be written
abbrev pub GoodExpr : RawExpr → Type 0
GoodExpr (raw.num n) = nat_le n LARGEST_NUMBER ≡ true
GoodExpr (raw.text s) = is_utf8 s ≡ true
GoodExpr raw.undefined = Unit {0}
GoodExpr (raw.name n) = GoodName n
GoodExpr (raw.bag k) = is_name k ≡ true
GoodExpr (raw.member n safe k) = GoodName n × (is_name k ≡ true)
GoodExpr (raw.neg a) = GoodExpr a
GoodExpr (raw.binary op a b) = GoodExpr a × GoodExpr b
GoodExpr (raw.choose c a b) = GoodExpr c × GoodExpr a × GoodExpr b

pub hot_keeps : {H : Type 0} (f : Spell) → Keeps f H → Keeps (hot_spelt f) H
hot_keeps f a = past DOT _ (past META _ (past DOT _ (past HOT _ (past DOT f a))))

pub none_keeps : {H : Type 0} → H → Keeps nothing H
none_keeps x us r h s = (x, ap (λ v. list_all writable (tokens_in v)) (sym (some_same us r h)) ∙ s)

mutual
  pub expr_keeps : (d : ExprD) → Keeps (expr_spelt d) (GoodExpr (expr_raw d))
  expr_keeps (grammar.plain c) = null_keeps c
  expr_keeps (grammar.choice c a b) = bound (null_spelt c) _ (null_keeps c) (λ x. past QUESTION _ (bound (expr_spelt a) _ (expr_keeps a) (λ y. past COLON _ (seen (expr_spelt b) (λ z. (x, y, z)) (expr_keeps b)))))

  null_keeps : (d : NullD) → Keeps (null_spelt d) (GoodExpr (null_raw d))
  null_keeps (grammar.null s r) = bound (sum_spelt s) _ (sum_keeps s) (λ x. null_rest_keeps (sum_raw s) x r)

  null_rest_keeps : (left : RawExpr) → GoodExpr left → (r : NullRestD) → Keeps (null_rest_spelt r) (GoodExpr (null_rest_raw left r))
  null_rest_keeps left x grammar.no_null = none_keeps x
  null_rest_keeps left x (grammar.nullish s r) = past NULLISH _ (bound (sum_spelt s) _ (sum_keeps s) (λ y. null_rest_keeps (raw.binary ops.Null left (sum_raw s)) (x, y) r))

  sum_keeps : (d : SumD) → Keeps (sum_spelt d) (GoodExpr (sum_raw d))
  sum_keeps (grammar.sum p r) = bound (prod_spelt p) _ (prod_keeps p) (λ x. sum_rest_keeps (prod_raw p) x r)

  sum_rest_keeps : (left : RawExpr) → GoodExpr left → (r : SumRestD) → Keeps (sum_rest_spelt r) (GoodExpr (sum_rest_raw left r))
  sum_rest_keeps left x grammar.no_sum = none_keeps x
  sum_rest_keeps left x (grammar.plus p r) = past PLUS _ (bound (prod_spelt p) _ (prod_keeps p) (λ y. sum_rest_keeps (raw.binary ops.Add left (prod_raw p)) (x, y) r))
  sum_rest_keeps left x (grammar.minus p r) = past MINUS _ (bound (prod_spelt p) _ (prod_keeps p) (λ y. sum_rest_keeps (raw.binary ops.Sub left (prod_raw p)) (x, y) r))

  prod_keeps : (d : ProdD) → Keeps (prod_spelt d) (GoodExpr (prod_raw d))
  prod_keeps (grammar.prod u r) = bound (unary_spelt u) _ (unary_keeps u) (λ x. prod_rest_keeps (unary_raw u) x r)

  prod_rest_keeps : (left : RawExpr) → GoodExpr left → (r : ProdRestD) → Keeps (prod_rest_spelt r) (GoodExpr (prod_rest_raw left r))
  prod_rest_keeps left x grammar.no_prod = none_keeps x
  prod_rest_keeps left x (grammar.times u r) = past TIMES _ (bound (unary_spelt u) _ (unary_keeps u) (λ y. prod_rest_keeps (raw.binary ops.Mul left (unary_raw u)) (x, y) r))

  unary_keeps : (d : UnaryD) → Keeps (unary_spelt d) (GoodExpr (unary_raw d))
  unary_keeps (grammar.positive p) = prim_keeps p
  unary_keeps (grammar.negative p) = past MINUS _ (prim_keeps p)

  prim_keeps : (d : PrimD) → Keeps (prim_spelt d) (GoodExpr (prim_raw d))
  prim_keeps (grammar.number n) = number_keeps n
  prim_keeps (grammar.text s) = text_keeps s
  prim_keeps grammar.undefined = last UNDEFINED tt
  prim_keeps (grammar.name n) = name_keeps n
  prim_keeps (grammar.member n k) = bound (spell.free_name n) _ (name_keeps n) (λ x. past DOT _ (seen (spell.key k) (λ y. (x, y)) (key_keeps k)))
  prim_keeps (grammar.safe_member n k) = bound (spell.free_name n) _ (name_keeps n) (λ x. past SAFE_DOT _ (seen (spell.key k) (λ y. (x, y)) (key_keeps k)))
  prim_keeps (grammar.bag k) = past IMPORT _ (hot_keeps _ (past DATA _ (past DOT _ (key_keeps k))))
  prim_keeps (grammar.brackets e) = past OPEN _ (bound (expr_spelt e) _ (expr_keeps e) (λ x. last CLOSE x))
