-- The canonical tokens of an expression are written as it, at each level.
use Rattle.std.proofs.Common.{◌≡◌, ℕ, suc, ◌≤◌, List, [], ◌∷◌, ◌++◌, Bool, true, false, cond, not, ◌&&◌, ◌==◌, Some, refl, sym, ap, ◌∙◌, subst, arith, codes}
use Rattle.std.proofs.lemmas.Bool.{eqb-true}
use Rattle.std.proofs.lemmas.List.{append_assoc}
use Rattle.std.specs.Str.{bytes_eq}
use Rattle.module_tree.specs.Syntax as tree
use Rattle.module_tree.specs.Syntax.{ExprTree}
use Rattle.module_tree.specs.declared.tree.Op.{Op}
use Rattle.module_tree.specs.declared.tree.Op.TheVariants as ops
use Rattle.hmr_types.specs.declared.analysis.FaultWord.{FaultWord}
use Rattle.hmr_types.specs.declared.analysis.FaultWord.TheVariants.{Unexpected}
use Rattle.module_semantics.specs.Token as token
use Rattle.module_semantics.specs.Token.{Token, LineToken}
use Rattle.module_semantics.specs.Kinds.{IMPORT, UNDEFINED, META, HOT, DATA, DOT, SAFE_DOT, NUMBER, TEXT, QUESTION, COLON, kind, within, word_kind, found_word, words, free_names, all_names, bytes_of, value_of, NameAt, name_at, same_name}
use Rattle.module_semantics.specs.Raw as raw
use Rattle.module_semantics.specs.Raw.{RawExpr}
use Rattle.module_semantics.specs.Spelling as spell
use Rattle.module_semantics.specs.Spelling.{Spell, ◌>>◌, ◌▸◌, one}
use Rattle.module_semantics.specs.ExprGrammar as grammar
use Rattle.module_semantics.specs.ExprGrammar.{ExprD, NullD, PrimD, expr_spelt, null_spelt, prim_spelt, expr_raw, prim_raw, expr_depth, prim_depth, hot_spelt}
use Rattle.module_semantics.specs.NameRules.{Within, outside, in_once, in_accept, is_param, has_name, broken_if, expr_broken}
use Rattle.module_semantics.specs.Resolving.{member_tree, place_of}
use Rattle.module_semantics.specs.Canon.{op_level, level, nth}
use Rattle.module_semantics.specs.CanonTokens.{placed_tokens, placed_depth, dot_token, hot_tokens, expr_tokens, inner_depth, fits_name, fits_param, fits_expr}
use Rattle.module_semantics.proofs.PiecesLex.{both, nots}
use Rattle.module_semantics.proofs.Steps.{bound_some}
use Rattle.module_semantics.proofs.KindLists.{same_kind}
use Rattle.module_semantics.proofs.Leaves.{one_is}
use Rattle.module_semantics.proofs.Marks.{same_names, same_bytes, mark_spells}
use Rattle.module_semantics.proofs.CanonLevels.{tokens_in, Derived, Written, AsPrim, AsUnary, AsProd, AsSum, AsNull, AsExpr, prim_unary, unary_prod, prod_sum, sum_null, null_expr, expr_prim, neg_unary, halves, first, marked, no_line_tokens}
use Rattle.module_semantics.proofs.CanonOperators.{prod_times, sum_plus, sum_minus, null_nullish}

-- no deeper than something larger
pub deeper : {D : Type 0} (spelt : D → Spell) (says : D → RawExpr) (depth : D → ℕ) (w : Within) (t : ExprTree) (n m : ℕ) (toks : List Token) → n ≤ m → Written spelt says depth w t n toks → Written spelt says depth w t m toks
deeper spelt says depth w t n m toks h a us r is = let d = a us r is in record { by = d.by; spells = d.spells; tree = d.tree; clean = d.clean; shallow = omega (arith, h, d.shallow) }

-- a lone token
pub lone : (us : List LineToken) (x : Token) → tokens_in us ≡ x ∷ [] → (u : LineToken) × (us ≡ u ∷ []) × (u.token ≡ x)
lone us x h =
    let f = first us x [] h in
    (f.at, f.is ∙ ap (λ v. f.at ∷ v) (no_line_tokens f.back f.lasts), f.token)

-- one token that stands for a leaf of a prim
leaf_prim : (w : Within) (t : ExprTree) (x : Token) → ((u : LineToken) (r : List LineToken) → u.token ≡ x → Derived prim_spelt prim_raw prim_depth w t 0 (u ∷ []) r) → AsPrim w t 0 (x ∷ [])
leaf_prim w t x a us r h = let u = lone us x h in subst (λ v. Derived prim_spelt prim_raw prim_depth w t 0 v r) (sym u.1) (a u.0 r u.2)

num_kind : (n : ℕ) → within (NUMBER ∷ []) (kind (token.number n)) ≡ true
unfolding within
num_kind n = refl

text_kind : (s : List ℕ) → within (TEXT ∷ []) (kind (token.text s)) ≡ true
unfolding within
text_kind s = refl

undefined_kind : within (UNDEFINED ∷ []) (kind (token.name (codes "undefined"))) ≡ true
unfolding within word_kind found_word
undefined_kind = refl

num_prim : (w : Within) (n : ℕ) → AsPrim w (tree.num n) 0 (token.number n ∷ [])
unfolding expr_broken
num_prim w n = leaf_prim w (tree.num n) (token.number n) (λ u r is. record {
  by = grammar.number n;
  spells = one_is (NUMBER ∷ []) (λ t. n == value_of t.token) u r (ap (λ v. within (NUMBER ∷ []) (kind v)) is ∙ num_kind n) (ap (λ v. n == value_of v) is ∙ same_kind n);
  tree = refl;
  clean = refl;
  shallow = omega arith;
})

text_prim : (w : Within) (s : List ℕ) → AsPrim w (tree.text s) 0 (token.text s ∷ [])
unfolding expr_broken
text_prim w s = leaf_prim w (tree.text s) (token.text s) (λ u r is. record {
  by = grammar.text s;
  spells = one_is (TEXT ∷ []) (λ t. bytes_eq s (bytes_of t.token)) u r (ap (λ v. within (TEXT ∷ []) (kind v)) is ∙ text_kind s) (ap (λ v. bytes_eq s (bytes_of v)) is ∙ same_bytes.again s);
  tree = refl;
  clean = refl;
  shallow = omega arith;
})

undefined_prim : (w : Within) → AsPrim w tree.undefined 0 (token.name (codes "undefined") ∷ [])
unfolding expr_broken
undefined_prim w = leaf_prim w tree.undefined (token.name (codes "undefined")) (λ u r is. record {
  by = grammar.undefined;
  spells = mark_spells UNDEFINED u r (ap (λ v. within (UNDEFINED ∷ []) (kind v)) is ∙ undefined_kind);
  tree = refl;
  clean = refl;
  shallow = omega arith;
})

-- a name where it stands
pub name_spells : (ks : List ℕ) (u : LineToken) (r : List LineToken) (n : List ℕ) → u.token ≡ token.name n → within ks (word_kind n) ≡ true → spell.name_of ks (name_at u) (u ∷ r) ≡ Some r
name_spells ks u r n is h = one_is ks (λ t. same_name (name_at u) (name_at t)) u r (ap (λ v. within ks (kind v)) is ∙ h) (same_names.again (name_at u))

broken_none : (test : Bool) (word : FaultWord) (at : ℕ) → test ≡ false → broken_if test word at ≡ []
broken_none test word at h = rw h refl

name_prim : (w : Within) (n : List ℕ) → fits_name n ≡ true → is_param w n ≡ false → AsPrim w (tree.name n) 0 (token.name n ∷ [])
unfolding expr_broken
name_prim w n fits free = leaf_prim w (tree.name n) (token.name n) (λ u r is. record {
  by = grammar.name (name_at u);
  spells = name_spells free_names u r n is fits;
  tree = ap (λ v. tree.name (bytes_of v)) is;
  clean = broken_none (is_param w (bytes_of u.token)) Unexpected u.at (ap (λ v. is_param w (bytes_of v)) is ∙ free);
  shallow = omega arith;
})

-- each name has a kind of a name
abbrev all_kinds : List (List ℕ × ℕ) → Bool
all_kinds [] = true
all_kinds (w ∷ ws) = within all_names w.1 && all_kinds ws

found_by : (b : Bool) (k j : ℕ) → within all_names k ≡ true → within all_names j ≡ true → within all_names (cond b k j) ≡ true
found_by true k j h g = h
found_by false k j h g = g

other_kind : within all_names 0 ≡ true
unfolding within
other_kind = refl

listed_kind : (bytes : List ℕ) (ws : List (List ℕ × ℕ)) → all_kinds ws ≡ true → within all_names (found_word bytes ws) ≡ true
unfolding found_word
listed_kind bytes [] h = other_kind
listed_kind bytes (w ∷ ws) h = let t = both (within all_names w.1) (all_kinds ws) h in found_by (bytes_eq bytes w.0) w.1 (found_word bytes ws) t.0 (listed_kind bytes ws t.1)

words_are_names : all_kinds words ≡ true
unfolding within
words_are_names = refl

pub key_kind : (bytes : List ℕ) → within all_names (word_kind bytes) ≡ true
unfolding word_kind
key_kind bytes = listed_kind bytes words words_are_names

pub key_spells : (u : LineToken) (r : List LineToken) (k : List ℕ) → u.token ≡ token.name k → spell.key k (u ∷ r) ≡ Some r
key_spells u r k is = one_is all_names (λ t. bytes_eq k (bytes_of t.token)) u r (ap (λ v. within all_names (kind v)) is ∙ key_kind k) (ap (λ v. bytes_eq k (bytes_of v)) is ∙ same_bytes.again k)

-- three tokens
record Three (us : List LineToken) (x y z : Token) : Type 0 where
  a : LineToken
  b : LineToken
  c : LineToken
  is : us ≡ a ∷ (b ∷ (c ∷ []))
  first : a.token ≡ x
  second : b.token ≡ y
  third : c.token ≡ z

three : (us : List LineToken) (x y z : Token) → tokens_in us ≡ x ∷ (y ∷ (z ∷ [])) → Three us x y z
three us x y z h =
    let f = first us x (y ∷ (z ∷ [])) h in
    let g = first f.back y (z ∷ []) f.lasts in
    let l = lone g.back z g.lasts in
    record { a = f.at; b = g.at; c = l.0; is = f.is ∙ ap (λ v. f.at ∷ v) (g.is ∙ ap (λ v. g.at ∷ v) l.1); first = f.token; second = g.token; third = l.2 }

pub dot_kind : within (DOT ∷ []) (kind (token.punct 8)) ≡ true
unfolding within
dot_kind = refl

safe_kind : within (SAFE_DOT ∷ []) (kind (token.punct 16)) ≡ true
unfolding within
safe_kind = refl

-- a key of a parameter: the parameter is told by its name
fits_parts : (w : Within) (ps : List (List ℕ)) (i : ℕ) → fits_param w ps i ≡ true → (fits_name (nth ps i) ≡ true) × (is_param w (nth ps i) ≡ true) × ((n : NameAt) (safe : Bool) (k : List ℕ) → n.name ≡ nth ps i → member_tree w n safe k ≡ tree.member i safe k)
fits_parts outside ps i h = absurd cc
fits_parts (in_once qs) ps i h = absurd cc
fits_parts (in_accept qs) ps i h =
    let t = both (fits_name (nth ps i) && has_name (nth ps i) qs) (place_of (nth ps i) qs == i) h in
    let u = both (fits_name (nth ps i)) (has_name (nth ps i) qs) t.0 in
    (u.0, u.1, λ n safe k is. ap (λ v. tree.member v safe k) (ap (λ v. place_of v qs) is ∙ eqb-true (place_of (nth ps i) qs) i t.1))

not_true : (b : Bool) → b ≡ true → not b ≡ false
not_true b h = rw h refl

member_by : (w : Within) (ps : List (List ℕ)) (i : ℕ) (safe : Bool) (k : List ℕ) (us r : List LineToken) → fits_param w ps i ≡ true → Three us (token.name (nth ps i)) (dot_token safe) (token.name k) → Derived prim_spelt prim_raw prim_depth w (tree.member i safe k) 0 us r
unfolding expr_broken
member_by w ps i true k us r fits t =
    let f = fits_parts w ps i fits in
    record {
      by = grammar.safe_member (name_at t.a) k;
      spells = ap (λ v. prim_spelt (grammar.safe_member (name_at t.a) k) (v ++ r)) t.is
          ∙ bound_some (spell.free_name (name_at t.a) (t.a ∷ (t.b ∷ (t.c ∷ r)))) (spell.mark SAFE_DOT ▸ spell.key k) (t.b ∷ (t.c ∷ r)) (Some r) (name_spells free_names t.a (t.b ∷ (t.c ∷ r)) (nth ps i) t.first f.0)
          (bound_some (spell.mark SAFE_DOT (t.b ∷ (t.c ∷ r))) (spell.key k) (t.c ∷ r) (Some r) (mark_spells SAFE_DOT t.b (t.c ∷ r) (ap (λ v. within (SAFE_DOT ∷ []) (kind v)) t.second ∙ safe_kind)) (key_spells t.c r k t.third));
      tree = f.2 (name_at t.a) true k (ap bytes_of t.first);
      clean = broken_none (not (is_param w (bytes_of t.a.token))) Unexpected t.a.at (not_true (is_param w (bytes_of t.a.token)) (ap (λ v. is_param w (bytes_of v)) t.first ∙ f.1));
      shallow = omega arith;
    }
member_by w ps i false k us r fits t =
    let f = fits_parts w ps i fits in
    record {
      by = grammar.member (name_at t.a) k;
      spells = ap (λ v. prim_spelt (grammar.member (name_at t.a) k) (v ++ r)) t.is
          ∙ bound_some (spell.free_name (name_at t.a) (t.a ∷ (t.b ∷ (t.c ∷ r)))) (spell.mark DOT ▸ spell.key k) (t.b ∷ (t.c ∷ r)) (Some r) (name_spells free_names t.a (t.b ∷ (t.c ∷ r)) (nth ps i) t.first f.0)
          (bound_some (spell.mark DOT (t.b ∷ (t.c ∷ r))) (spell.key k) (t.c ∷ r) (Some r) (mark_spells DOT t.b (t.c ∷ r) (ap (λ v. within (DOT ∷ []) (kind v)) t.second ∙ dot_kind)) (key_spells t.c r k t.third));
      tree = f.2 (name_at t.a) false k (ap bytes_of t.first);
      clean = broken_none (not (is_param w (bytes_of t.a.token))) Unexpected t.a.at (not_true (is_param w (bytes_of t.a.token)) (ap (λ v. is_param w (bytes_of v)) t.first ∙ f.1));
      shallow = omega arith;
    }

member_prim : (w : Within) (ps : List (List ℕ)) (i : ℕ) (safe : Bool) (k : List ℕ) → fits_param w ps i ≡ true → AsPrim w (tree.member i safe k) 0 (token.name (nth ps i) ∷ (dot_token safe ∷ (token.name k ∷ [])))
member_prim w ps i safe k fits us r h = member_by w ps i safe k us r fits (three us (token.name (nth ps i)) (dot_token safe) (token.name k) h)

-- a word or a mark that stands first, and then more
pub take_word : (k : ℕ) (x : Token) (ys : List Token) (us r : List LineToken) (f : Spell) (q : List LineToken) → within (k ∷ []) (kind x) ≡ true → tokens_in us ≡ x ∷ ys → ((vs : List LineToken) → tokens_in vs ≡ ys → f (vs ++ r) ≡ Some q) → (spell.mark k ▸ f) (us ++ r) ≡ Some q
take_word k x ys us r f q is h g = let m = first us x ys h in bound_some (spell.mark k (us ++ r)) f (m.back ++ r) (Some q) (marked k us x ys m r is) (g m.back m.lasts)

pub meta_kind : within (META ∷ []) (kind (token.name (codes "meta"))) ≡ true
unfolding within word_kind found_word
meta_kind = refl

pub hot_kind : within (HOT ∷ []) (kind (token.name (codes "hot"))) ≡ true
unfolding within word_kind found_word
hot_kind = refl

pub data_kind : within (DATA ∷ []) (kind (token.name (codes "data"))) ≡ true
unfolding within word_kind found_word
data_kind = refl

pub import_kind : within (IMPORT ∷ []) (kind (token.name (codes "import"))) ≡ true
unfolding within word_kind found_word
import_kind = refl

pub take_hot : (ys : List Token) (us r : List LineToken) (f : Spell) (q : List LineToken) → tokens_in us ≡ hot_tokens ys → ((vs : List LineToken) → tokens_in vs ≡ ys → f (vs ++ r) ≡ Some q) → hot_spelt f (us ++ r) ≡ Some q
take_hot ys us r f q h g =
    take_word DOT (token.punct 8) _ us r _ q dot_kind h
    (λ vs a. take_word META (token.name (codes "meta")) _ vs r _ q meta_kind a
    (λ ws b. take_word DOT (token.punct 8) _ ws r _ q dot_kind b
    (λ xs c. take_word HOT (token.name (codes "hot")) _ xs r _ q hot_kind c (λ zs d. take_word DOT (token.punct 8) ys zs r f q dot_kind d g))))

key_alone : (k : List ℕ) (us r : List LineToken) → tokens_in us ≡ token.name k ∷ [] → spell.key k (us ++ r) ≡ Some r
key_alone k us r h = let l = lone us (token.name k) h in ap (λ v. spell.key k (v ++ r)) l.1 ∙ key_spells l.0 r k l.2

bag_prim : (w : Within) (k : List ℕ) → AsPrim w (tree.bag k) 0 (token.name (codes "import") ∷ hot_tokens (token.name (codes "data") ∷ token.punct 8 ∷ token.name k ∷ []))
unfolding expr_broken
bag_prim w k us r h = record {
  by = grammar.bag k;
  spells = take_word IMPORT (token.name (codes "import")) _ us r _ r import_kind h
      (λ vs a. take_hot _ vs r _ r a (λ ws b. take_word DATA (token.name (codes "data")) _ ws r _ r data_kind b (λ xs c. take_word DOT (token.punct 8) _ xs r _ r dot_kind c (λ zs d. key_alone k zs r d))));
  tree = refl;
  clean = refl;
  shallow = omega arith;
}

question_kind : within (QUESTION ∷ []) (kind (token.punct 13)) ≡ true
unfolding within
question_kind = refl

colon_kind : within (COLON ∷ []) (kind (token.punct 14)) ≡ true
unfolding within
colon_kind = refl

choose_same : (a b c d e f : ExprTree) → a ≡ b → c ≡ d → e ≡ f → tree.choose a c e ≡ tree.choose b d f
choose_same a b c d e f h k l = rw (h, k, l) refl

clean_choose : (w : Within) (a b c : RawExpr) → expr_broken w a ≡ [] → expr_broken w b ≡ [] → expr_broken w c ≡ [] → expr_broken w (raw.choose a b c) ≡ []
unfolding expr_broken
clean_choose w a b c h k l = rw (h, k, l) refl

expr_choose : (w : Within) (c a b : ExprTree) (n : ℕ) (xs ys zs : List Token) → Written null_spelt grammar.null_raw grammar.null_depth w c n xs → AsExpr w a n ys → AsExpr w b n zs → AsExpr w (tree.choose c a b) (suc n) (xs ++ (token.punct 13 ∷ (ys ++ (token.punct 14 ∷ zs))))
expr_choose w c a b n xs ys zs x y z us r h =
    let k = halves us xs (token.punct 13 ∷ (ys ++ (token.punct 14 ∷ zs))) h in
    let q = first k.back (token.punct 13) (ys ++ (token.punct 14 ∷ zs)) k.lasts in
    let j = halves q.back ys (token.punct 14 ∷ zs) q.lasts in
    let m = first j.back (token.punct 14) zs j.lasts in
    let e = z m.back r m.lasts in
    let d = y j.front (j.back ++ r) j.firsts in
    let b' = x k.front (k.back ++ r) k.firsts in
    record {
      by = grammar.choice b'.by d.by e.by;
      spells = ap (grammar.expr_spelt (grammar.choice b'.by d.by e.by)) (ap (λ v. v ++ r) k.is ∙ append_assoc k.front k.back r)
          ∙ bound_some (null_spelt b'.by (k.front ++ (k.back ++ r))) (spell.mark QUESTION ▸ expr_spelt d.by ▸ spell.mark COLON ▸ expr_spelt e.by) (k.back ++ r) (Some r) b'.spells
          (bound_some (spell.mark QUESTION (k.back ++ r)) (expr_spelt d.by ▸ spell.mark COLON ▸ expr_spelt e.by) (q.back ++ r) (Some r) (marked QUESTION k.back (token.punct 13) (ys ++ (token.punct 14 ∷ zs)) q r question_kind)
          (ap (expr_spelt d.by ▸ spell.mark COLON ▸ expr_spelt e.by) (ap (λ v. v ++ r) j.is ∙ append_assoc j.front j.back r)
          ∙ bound_some (expr_spelt d.by (j.front ++ (j.back ++ r))) (spell.mark COLON ▸ expr_spelt e.by) (j.back ++ r) (Some r) d.spells
          (bound_some (spell.mark COLON (j.back ++ r)) (expr_spelt e.by) (m.back ++ r) (Some r) (marked COLON j.back (token.punct 14) zs m r colon_kind) e.spells)));
      tree = choose_same _ _ _ _ _ _ b'.tree d.tree e.tree;
      clean = clean_choose w _ _ _ b'.clean d.clean e.clean;
      shallow = omega (arith, b'.shallow, d.shallow, e.shallow);
    }

-- an expression of a level, written at each place
pub record Levels (l : ℕ) (w : Within) (t : ExprTree) (n : ℕ) (toks : List Token) : Type 0 where
  pub prim : AsPrim w t (placed_depth 5 l n) (placed_tokens 5 l toks)
  pub unary : AsUnary w t (placed_depth 4 l n) (placed_tokens 4 l toks)
  pub prod : AsProd w t (placed_depth 3 l n) (placed_tokens 3 l toks)
  pub sum : AsSum w t (placed_depth 2 l n) (placed_tokens 2 l toks)
  pub null : AsNull w t (placed_depth 1 l n) (placed_tokens 1 l toks)
  pub expr : AsExpr w t (suc n) toks

of_prim : (w : Within) (t : ExprTree) (n : ℕ) (toks : List Token) → AsPrim w t n toks → Levels 5 w t n toks
of_prim w t n toks a =
    let b = prim_unary w t n toks a in
    let c = unary_prod w t n toks b in
    let d = prod_sum w t n toks c in
    let e = sum_null w t n toks d in
    record { prim = a; unary = b; prod = c; sum = d; null = e; expr = null_expr w t n toks e }

of_unary : (w : Within) (t : ExprTree) (n : ℕ) (toks : List Token) → AsUnary w t n toks → Levels 4 w t n toks
of_unary w t n toks b =
    let c = unary_prod w t n toks b in
    let d = prod_sum w t n toks c in
    let e = sum_null w t n toks d in
    let f = null_expr w t n toks e in
    record { prim = expr_prim w t (suc n) toks f; unary = b; prod = c; sum = d; null = e; expr = f }

of_prod : (w : Within) (t : ExprTree) (n : ℕ) (toks : List Token) → AsProd w t n toks → Levels 3 w t n toks
of_prod w t n toks c =
    let d = prod_sum w t n toks c in
    let e = sum_null w t n toks d in
    let f = null_expr w t n toks e in
    let p = expr_prim w t (suc n) toks f in
    record { prim = p; unary = prim_unary w t (suc n) _ p; prod = c; sum = d; null = e; expr = f }

of_sum : (w : Within) (t : ExprTree) (n : ℕ) (toks : List Token) → AsSum w t n toks → Levels 2 w t n toks
of_sum w t n toks d =
    let e = sum_null w t n toks d in
    let f = null_expr w t n toks e in
    let p = expr_prim w t (suc n) toks f in
    let u = prim_unary w t (suc n) _ p in
    record { prim = p; unary = u; prod = unary_prod w t (suc n) _ u; sum = d; null = e; expr = f }

of_null : (w : Within) (t : ExprTree) (n : ℕ) (toks : List Token) → AsNull w t n toks → Levels 1 w t n toks
of_null w t n toks e =
    let f = null_expr w t n toks e in
    let p = expr_prim w t (suc n) toks f in
    let u = prim_unary w t (suc n) _ p in
    let c = unary_prod w t (suc n) _ u in
    record { prim = p; unary = u; prod = c; sum = prod_sum w t (suc n) _ c; null = e; expr = f }

of_expr : (w : Within) (t : ExprTree) (n : ℕ) (toks : List Token) → AsExpr w t (suc n) toks → Levels 0 w t n toks
of_expr w t n toks f =
    let p = expr_prim w t (suc n) toks f in
    let u = prim_unary w t (suc n) _ p in
    let c = unary_prod w t (suc n) _ u in
    let d = prod_sum w t (suc n) _ c in
    record { prim = p; unary = u; prod = c; sum = d; null = sum_null w t (suc n) _ d; expr = f }

binary_levels : (w : Within) (ps : List (List ℕ)) (op : Op) (a b : ExprTree) → Levels (level a) w a (inner_depth a) (expr_tokens ps a) → Levels (level b) w b (inner_depth b) (expr_tokens ps b) → Levels (op_level op) w (tree.binary op a b) (inner_depth (tree.binary op a b)) (expr_tokens ps (tree.binary op a b))
binary_levels w ps ops.Mul a b x y = of_prod w _ _ _ (prod_times w a b _ _ _ (deeper _ _ _ w a _ _ _ (omega arith) x.prod) (deeper _ _ _ w b _ _ _ (omega arith) y.unary))
binary_levels w ps ops.Add a b x y = of_sum w _ _ _ (sum_plus w a b _ _ _ (deeper _ _ _ w a _ _ _ (omega arith) x.sum) (deeper _ _ _ w b _ _ _ (omega arith) y.prod))
binary_levels w ps ops.Sub a b x y = of_sum w _ _ _ (sum_minus w a b _ _ _ (deeper _ _ _ w a _ _ _ (omega arith) x.sum) (deeper _ _ _ w b _ _ _ (omega arith) y.prod))
binary_levels w ps ops.Null a b x y = of_null w _ _ _ (null_nullish w a b _ _ _ (deeper _ _ _ w a _ _ _ (omega arith) x.null) (deeper _ _ _ w b _ _ _ (omega arith) y.sum))

-- the canonical tokens of an expression that reading can give are written as it
pub expr_levels : (w : Within) (ps : List (List ℕ)) (t : ExprTree) → fits_expr w ps t ≡ true → Levels (level t) w t (inner_depth t) (expr_tokens ps t)
unfolding fits_expr
expr_levels w ps (tree.num n) fits = of_prim w _ _ _ (num_prim w n)
expr_levels w ps (tree.text s) fits = of_prim w _ _ _ (text_prim w s)
expr_levels w ps tree.undefined fits = of_prim w _ _ _ (undefined_prim w)
expr_levels w ps (tree.name n) fits = let t = both (fits_name n) (not (is_param w n)) fits in of_prim w _ _ _ (name_prim w n t.0 (nots (is_param w n) t.1))
expr_levels w ps (tree.bag k) fits = of_prim w _ _ _ (bag_prim w k)
expr_levels w ps (tree.member i safe k) fits = of_prim w _ _ _ (member_prim w ps i safe k fits)
expr_levels w ps (tree.neg a) fits = of_unary w _ _ _ (neg_unary w a _ _ (expr_levels w ps a fits).prim)
expr_levels w ps (tree.binary op a b) fits = let t = both (fits_expr w ps a) (fits_expr w ps b) fits in binary_levels w ps op a b (expr_levels w ps a t.0) (expr_levels w ps b t.1)
expr_levels w ps (tree.choose c a b) fits =
    let t = both (fits_expr w ps c && fits_expr w ps a) (fits_expr w ps b) fits in
    let u = both (fits_expr w ps c) (fits_expr w ps a) t.0 in
    of_expr w _ _ _ (expr_choose w c a b _ _ _ _ (deeper _ _ _ w c _ _ _ (omega arith) (expr_levels w ps c u.0).null) (deeper _ _ _ w a _ _ _ (omega arith) (expr_levels w ps a u.1).expr) (deeper _ _ _ w b _ _ _ (omega arith) (expr_levels w ps b t.1).expr))
