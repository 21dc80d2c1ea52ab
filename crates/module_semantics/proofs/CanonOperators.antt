-- Operators between two operands, which group to the left.
use Rattle.std.proofs.Common.{◌≡◌, ℕ, ◌≤◌, List, [], ◌∷◌, ◌++◌, true, Option, Some, None, refl, sym, ap, ◌∙◌, subst, arith}
use Rattle.std.proofs.lemmas.List.{append_assoc}
use Rattle.module_tree.specs.Syntax as tree
use Rattle.module_tree.specs.Syntax.{ExprTree}
use Rattle.module_tree.specs.declared.tree.Op.{Op}
use Rattle.module_tree.specs.declared.tree.Op.TheVariants as ops
use Rattle.module_semantics.specs.Token as token
use Rattle.module_semantics.specs.Token.{Token, LineToken}
use Rattle.module_semantics.specs.Kinds.{kind, within, PLUS, MINUS, TIMES, NULLISH}
use Rattle.module_semantics.specs.Raw as raw
use Rattle.module_semantics.specs.Raw.{RawExpr}
use Rattle.module_semantics.specs.Spelling as spell
use Rattle.module_semantics.specs.Spelling.{◌>>◌, ◌▸◌}
use Rattle.module_semantics.specs.ExprGrammar as grammar
use Rattle.module_semantics.specs.ExprGrammar.{ExprD, NullD, NullRestD, SumD, SumRestD, ProdD, ProdRestD, UnaryD, expr_spelt, null_spelt, null_rest_spelt, sum_spelt, sum_rest_spelt, prod_spelt, prod_rest_spelt, unary_spelt, expr_raw, null_raw, null_rest_raw, sum_raw, sum_rest_raw, prod_raw, prod_rest_raw, unary_raw, expr_depth, null_depth, null_rest_depth, sum_depth, sum_rest_depth, prod_depth, prod_rest_depth, unary_depth}
use Rattle.module_semantics.specs.NameRules.{Within, expr_broken}
use Rattle.module_semantics.specs.Resolving.{expr_tree}
use Rattle.module_semantics.proofs.Steps.{bound_some}
use Rattle.module_semantics.proofs.Statements.{under, assoc}
use Rattle.module_semantics.proofs.Marks.{mark_spells}
use Rattle.module_semantics.proofs.CanonLevels.{Derived, AsNull, AsSum, AsProd, AsUnary, halves, first}

same_again : (o : Option (List LineToken)) → (o >> grammar.nothing) ≡ o
same_again (Some x) = refl
same_again None = refl

binary_same : (op : Op) (a b c d : ExprTree) → a ≡ b → c ≡ d → tree.binary op a c ≡ tree.binary op b d
binary_same op a b c d h k = rw (h, k) refl

clean_binary : (w : Within) (op : Op) (a b : RawExpr) → expr_broken w a ≡ [] → expr_broken w b ≡ [] → expr_broken w (raw.binary op a b) ≡ []
unfolding expr_broken
clean_binary w op a b h k = rw (h, k) refl

abbrev prod_times_then : ProdRestD → UnaryD → ProdRestD
prod_times_then grammar.no_prod q = grammar.times q grammar.no_prod
prod_times_then (grammar.times d r) q = grammar.times d (prod_times_then r q)

prod_times_then_spelt : (r : ProdRestD) (q : UnaryD) (ts : List LineToken) → prod_rest_spelt (prod_times_then r q) ts ≡ (prod_rest_spelt r ▸ (spell.mark TIMES ▸ unary_spelt q)) ts
prod_times_then_spelt grammar.no_prod q ts = under (spell.mark TIMES) _ _ (λ k. same_again (unary_spelt q k)) ts
prod_times_then_spelt (grammar.times d r) q ts =
    under (spell.mark TIMES) _ _ (under (unary_spelt d) _ _ (prod_times_then_spelt r q)) ts ∙ sym (assoc (spell.mark TIMES) (unary_spelt d ▸ prod_rest_spelt r) (spell.mark TIMES ▸ unary_spelt q) ts ∙ under (spell.mark TIMES) _ _ (assoc (unary_spelt d) (prod_rest_spelt r) (spell.mark TIMES ▸ unary_spelt q)) ts)

prod_times_then_raw : (left : RawExpr) (r : ProdRestD) (q : UnaryD) → prod_rest_raw left (prod_times_then r q) ≡ raw.binary ops.Mul (prod_rest_raw left r) (unary_raw q)
prod_times_then_raw left grammar.no_prod q = refl
prod_times_then_raw left (grammar.times d r) q = prod_times_then_raw (raw.binary ops.Mul left (unary_raw d)) r q

prod_times_then_depth : (r : ProdRestD) (q : UnaryD) (n : ℕ) → prod_rest_depth r ≤ n → unary_depth q ≤ n → prod_rest_depth (prod_times_then r q) ≤ n
prod_times_then_depth grammar.no_prod q n h k = omega (arith, h, k)
prod_times_then_depth (grammar.times d r) q n h k = omega (arith, h, prod_times_then_depth r q n (omega (arith, h)) k)

prod_times_is : within (TIMES ∷ []) (kind (token.punct 12)) ≡ true
unfolding within
prod_times_is = refl

prod_times_by : (w : Within) (a b : ExprTree) (n : ℕ) (us vs r : List LineToken) (m : LineToken) → m.token ≡ token.punct 12 → Derived prod_spelt prod_raw prod_depth w a n us (m ∷ (vs ++ r)) → Derived unary_spelt unary_raw unary_depth w b n vs r → (d : ProdD) → prod_spelt d (us ++ (m ∷ (vs ++ r))) ≡ Some (m ∷ (vs ++ r)) → expr_tree w (prod_raw d) ≡ a → expr_broken w (prod_raw d) ≡ [] → prod_depth d ≤ n → Derived prod_spelt prod_raw prod_depth w (tree.binary ops.Mul a b) n (us ++ (m ∷ vs)) r
prod_times_by w a b n us vs r m is x y (grammar.prod d rest) spells t clean shallow = record {
  by = grammar.prod d (prod_times_then rest y.by);
  spells =
      ap (prod_spelt (grammar.prod d (prod_times_then rest y.by))) (append_assoc us (m ∷ vs) r)
      ∙ under (unary_spelt d) _ _ (prod_times_then_spelt rest y.by) (us ++ (m ∷ (vs ++ r)))
      ∙ sym (assoc (unary_spelt d) (prod_rest_spelt rest) (spell.mark TIMES ▸ unary_spelt y.by) (us ++ (m ∷ (vs ++ r))))
      ∙ bound_some ((unary_spelt d ▸ prod_rest_spelt rest) (us ++ (m ∷ (vs ++ r)))) (spell.mark TIMES ▸ unary_spelt y.by) (m ∷ (vs ++ r)) (Some r) spells
      (bound_some (spell.mark TIMES (m ∷ (vs ++ r))) (unary_spelt y.by) (vs ++ r) (Some r) (mark_spells TIMES m (vs ++ r) (ap (λ v. within (TIMES ∷ []) (kind v)) is ∙ prod_times_is)) y.spells);
  tree = ap (expr_tree w) (prod_times_then_raw (unary_raw d) rest y.by) ∙ binary_same ops.Mul _ _ _ _ t y.tree;
  clean = ap (expr_broken w) (prod_times_then_raw (unary_raw d) rest y.by) ∙ clean_binary w ops.Mul _ _ clean y.clean;
  shallow = omega (arith, shallow, prod_times_then_depth rest y.by n (omega (arith, shallow)) y.shallow);
}

pub prod_times : (w : Within) (a b : ExprTree) (n : ℕ) (xs ys : List Token) → AsProd w a n xs → AsUnary w b n ys → AsProd w (tree.binary ops.Mul a b) n (xs ++ (token.punct 12 ∷ ys))
prod_times w a b n xs ys x y us r h =
    let k = halves us xs (token.punct 12 ∷ ys) h in
    let m = first k.back (token.punct 12) ys k.lasts in
    let right = y m.back r m.lasts in
    let left = x k.front (m.at ∷ (m.back ++ r)) k.firsts in
    let whole : us ≡ k.front ++ (m.at ∷ m.back) = k.is ∙ ap (λ v. k.front ++ v) m.is in
    subst (λ v. Derived prod_spelt prod_raw prod_depth w (tree.binary ops.Mul a b) n v r) (sym whole) (prod_times_by w a b n k.front m.back r m.at m.token left right left.by left.spells left.tree left.clean left.shallow)

abbrev sum_plus_then : SumRestD → ProdD → SumRestD
sum_plus_then grammar.no_sum q = grammar.plus q grammar.no_sum
sum_plus_then (grammar.plus d r) q = grammar.plus d (sum_plus_then r q)
sum_plus_then (grammar.minus d r) q = grammar.minus d (sum_plus_then r q)

sum_plus_then_spelt : (r : SumRestD) (q : ProdD) (ts : List LineToken) → sum_rest_spelt (sum_plus_then r q) ts ≡ (sum_rest_spelt r ▸ (spell.mark PLUS ▸ prod_spelt q)) ts
sum_plus_then_spelt grammar.no_sum q ts = under (spell.mark PLUS) _ _ (λ k. same_again (prod_spelt q k)) ts
sum_plus_then_spelt (grammar.plus d r) q ts =
    under (spell.mark PLUS) _ _ (under (prod_spelt d) _ _ (sum_plus_then_spelt r q)) ts ∙ sym (assoc (spell.mark PLUS) (prod_spelt d ▸ sum_rest_spelt r) (spell.mark PLUS ▸ prod_spelt q) ts ∙ under (spell.mark PLUS) _ _ (assoc (prod_spelt d) (sum_rest_spelt r) (spell.mark PLUS ▸ prod_spelt q)) ts)
sum_plus_then_spelt (grammar.minus d r) q ts =
    under (spell.mark MINUS) _ _ (under (prod_spelt d) _ _ (sum_plus_then_spelt r q)) ts ∙ sym (assoc (spell.mark MINUS) (prod_spelt d ▸ sum_rest_spelt r) (spell.mark PLUS ▸ prod_spelt q) ts ∙ under (spell.mark MINUS) _ _ (assoc (prod_spelt d) (sum_rest_spelt r) (spell.mark PLUS ▸ prod_spelt q)) ts)

sum_plus_then_raw : (left : RawExpr) (r : SumRestD) (q : ProdD) → sum_rest_raw left (sum_plus_then r q) ≡ raw.binary ops.Add (sum_rest_raw left r) (prod_raw q)
sum_plus_then_raw left grammar.no_sum q = refl
sum_plus_then_raw left (grammar.plus d r) q = sum_plus_then_raw (raw.binary ops.Add left (prod_raw d)) r q
sum_plus_then_raw left (grammar.minus d r) q = sum_plus_then_raw (raw.binary ops.Sub left (prod_raw d)) r q

sum_plus_then_depth : (r : SumRestD) (q : ProdD) (n : ℕ) → sum_rest_depth r ≤ n → prod_depth q ≤ n → sum_rest_depth (sum_plus_then r q) ≤ n
sum_plus_then_depth grammar.no_sum q n h k = omega (arith, h, k)
sum_plus_then_depth (grammar.plus d r) q n h k = omega (arith, h, sum_plus_then_depth r q n (omega (arith, h)) k)
sum_plus_then_depth (grammar.minus d r) q n h k = omega (arith, h, sum_plus_then_depth r q n (omega (arith, h)) k)

sum_plus_is : within (PLUS ∷ []) (kind (token.punct 10)) ≡ true
unfolding within
sum_plus_is = refl

sum_plus_by : (w : Within) (a b : ExprTree) (n : ℕ) (us vs r : List LineToken) (m : LineToken) → m.token ≡ token.punct 10 → Derived sum_spelt sum_raw sum_depth w a n us (m ∷ (vs ++ r)) → Derived prod_spelt prod_raw prod_depth w b n vs r → (d : SumD) → sum_spelt d (us ++ (m ∷ (vs ++ r))) ≡ Some (m ∷ (vs ++ r)) → expr_tree w (sum_raw d) ≡ a → expr_broken w (sum_raw d) ≡ [] → sum_depth d ≤ n → Derived sum_spelt sum_raw sum_depth w (tree.binary ops.Add a b) n (us ++ (m ∷ vs)) r
sum_plus_by w a b n us vs r m is x y (grammar.sum d rest) spells t clean shallow = record {
  by = grammar.sum d (sum_plus_then rest y.by);
  spells =
      ap (sum_spelt (grammar.sum d (sum_plus_then rest y.by))) (append_assoc us (m ∷ vs) r)
      ∙ under (prod_spelt d) _ _ (sum_plus_then_spelt rest y.by) (us ++ (m ∷ (vs ++ r)))
      ∙ sym (assoc (prod_spelt d) (sum_rest_spelt rest) (spell.mark PLUS ▸ prod_spelt y.by) (us ++ (m ∷ (vs ++ r))))
      ∙ bound_some ((prod_spelt d ▸ sum_rest_spelt rest) (us ++ (m ∷ (vs ++ r)))) (spell.mark PLUS ▸ prod_spelt y.by) (m ∷ (vs ++ r)) (Some r) spells
      (bound_some (spell.mark PLUS (m ∷ (vs ++ r))) (prod_spelt y.by) (vs ++ r) (Some r) (mark_spells PLUS m (vs ++ r) (ap (λ v. within (PLUS ∷ []) (kind v)) is ∙ sum_plus_is)) y.spells);
  tree = ap (expr_tree w) (sum_plus_then_raw (prod_raw d) rest y.by) ∙ binary_same ops.Add _ _ _ _ t y.tree;
  clean = ap (expr_broken w) (sum_plus_then_raw (prod_raw d) rest y.by) ∙ clean_binary w ops.Add _ _ clean y.clean;
  shallow = omega (arith, shallow, sum_plus_then_depth rest y.by n (omega (arith, shallow)) y.shallow);
}

pub sum_plus : (w : Within) (a b : ExprTree) (n : ℕ) (xs ys : List Token) → AsSum w a n xs → AsProd w b n ys → AsSum w (tree.binary ops.Add a b) n (xs ++ (token.punct 10 ∷ ys))
sum_plus w a b n xs ys x y us r h =
    let k = halves us xs (token.punct 10 ∷ ys) h in
    let m = first k.back (token.punct 10) ys k.lasts in
    let right = y m.back r m.lasts in
    let left = x k.front (m.at ∷ (m.back ++ r)) k.firsts in
    let whole : us ≡ k.front ++ (m.at ∷ m.back) = k.is ∙ ap (λ v. k.front ++ v) m.is in
    subst (λ v. Derived sum_spelt sum_raw sum_depth w (tree.binary ops.Add a b) n v r) (sym whole) (sum_plus_by w a b n k.front m.back r m.at m.token left right left.by left.spells left.tree left.clean left.shallow)

abbrev sum_minus_then : SumRestD → ProdD → SumRestD
sum_minus_then grammar.no_sum q = grammar.minus q grammar.no_sum
sum_minus_then (grammar.plus d r) q = grammar.plus d (sum_minus_then r q)
sum_minus_then (grammar.minus d r) q = grammar.minus d (sum_minus_then r q)

sum_minus_then_spelt : (r : SumRestD) (q : ProdD) (ts : List LineToken) → sum_rest_spelt (sum_minus_then r q) ts ≡ (sum_rest_spelt r ▸ (spell.mark MINUS ▸ prod_spelt q)) ts
sum_minus_then_spelt grammar.no_sum q ts = under (spell.mark MINUS) _ _ (λ k. same_again (prod_spelt q k)) ts
sum_minus_then_spelt (grammar.plus d r) q ts =
    under (spell.mark PLUS) _ _ (under (prod_spelt d) _ _ (sum_minus_then_spelt r q)) ts ∙ sym (assoc (spell.mark PLUS) (prod_spelt d ▸ sum_rest_spelt r) (spell.mark MINUS ▸ prod_spelt q) ts ∙ under (spell.mark PLUS) _ _ (assoc (prod_spelt d) (sum_rest_spelt r) (spell.mark MINUS ▸ prod_spelt q)) ts)
sum_minus_then_spelt (grammar.minus d r) q ts =
    under (spell.mark MINUS) _ _ (under (prod_spelt d) _ _ (sum_minus_then_spelt r q)) ts ∙ sym (assoc (spell.mark MINUS) (prod_spelt d ▸ sum_rest_spelt r) (spell.mark MINUS ▸ prod_spelt q) ts ∙ under (spell.mark MINUS) _ _ (assoc (prod_spelt d) (sum_rest_spelt r) (spell.mark MINUS ▸ prod_spelt q)) ts)

sum_minus_then_raw : (left : RawExpr) (r : SumRestD) (q : ProdD) → sum_rest_raw left (sum_minus_then r q) ≡ raw.binary ops.Sub (sum_rest_raw left r) (prod_raw q)
sum_minus_then_raw left grammar.no_sum q = refl
sum_minus_then_raw left (grammar.plus d r) q = sum_minus_then_raw (raw.binary ops.Add left (prod_raw d)) r q
sum_minus_then_raw left (grammar.minus d r) q = sum_minus_then_raw (raw.binary ops.Sub left (prod_raw d)) r q

sum_minus_then_depth : (r : SumRestD) (q : ProdD) (n : ℕ) → sum_rest_depth r ≤ n → prod_depth q ≤ n → sum_rest_depth (sum_minus_then r q) ≤ n
sum_minus_then_depth grammar.no_sum q n h k = omega (arith, h, k)
sum_minus_then_depth (grammar.plus d r) q n h k = omega (arith, h, sum_minus_then_depth r q n (omega (arith, h)) k)
sum_minus_then_depth (grammar.minus d r) q n h k = omega (arith, h, sum_minus_then_depth r q n (omega (arith, h)) k)

sum_minus_is : within (MINUS ∷ []) (kind (token.punct 11)) ≡ true
unfolding within
sum_minus_is = refl

sum_minus_by : (w : Within) (a b : ExprTree) (n : ℕ) (us vs r : List LineToken) (m : LineToken) → m.token ≡ token.punct 11 → Derived sum_spelt sum_raw sum_depth w a n us (m ∷ (vs ++ r)) → Derived prod_spelt prod_raw prod_depth w b n vs r → (d : SumD) → sum_spelt d (us ++ (m ∷ (vs ++ r))) ≡ Some (m ∷ (vs ++ r)) → expr_tree w (sum_raw d) ≡ a → expr_broken w (sum_raw d) ≡ [] → sum_depth d ≤ n → Derived sum_spelt sum_raw sum_depth w (tree.binary ops.Sub a b) n (us ++ (m ∷ vs)) r
sum_minus_by w a b n us vs r m is x y (grammar.sum d rest) spells t clean shallow = record {
  by = grammar.sum d (sum_minus_then rest y.by);
  spells =
      ap (sum_spelt (grammar.sum d (sum_minus_then rest y.by))) (append_assoc us (m ∷ vs) r)
      ∙ under (prod_spelt d) _ _ (sum_minus_then_spelt rest y.by) (us ++ (m ∷ (vs ++ r)))
      ∙ sym (assoc (prod_spelt d) (sum_rest_spelt rest) (spell.mark MINUS ▸ prod_spelt y.by) (us ++ (m ∷ (vs ++ r))))
      ∙ bound_some ((prod_spelt d ▸ sum_rest_spelt rest) (us ++ (m ∷ (vs ++ r)))) (spell.mark MINUS ▸ prod_spelt y.by) (m ∷ (vs ++ r)) (Some r) spells
      (bound_some (spell.mark MINUS (m ∷ (vs ++ r))) (prod_spelt y.by) (vs ++ r) (Some r) (mark_spells MINUS m (vs ++ r) (ap (λ v. within (MINUS ∷ []) (kind v)) is ∙ sum_minus_is)) y.spells);
  tree = ap (expr_tree w) (sum_minus_then_raw (prod_raw d) rest y.by) ∙ binary_same ops.Sub _ _ _ _ t y.tree;
  clean = ap (expr_broken w) (sum_minus_then_raw (prod_raw d) rest y.by) ∙ clean_binary w ops.Sub _ _ clean y.clean;
  shallow = omega (arith, shallow, sum_minus_then_depth rest y.by n (omega (arith, shallow)) y.shallow);
}

pub sum_minus : (w : Within) (a b : ExprTree) (n : ℕ) (xs ys : List Token) → AsSum w a n xs → AsProd w b n ys → AsSum w (tree.binary ops.Sub a b) n (xs ++ (token.punct 11 ∷ ys))
sum_minus w a b n xs ys x y us r h =
    let k = halves us xs (token.punct 11 ∷ ys) h in
    let m = first k.back (token.punct 11) ys k.lasts in
    let right = y m.back r m.lasts in
    let left = x k.front (m.at ∷ (m.back ++ r)) k.firsts in
    let whole : us ≡ k.front ++ (m.at ∷ m.back) = k.is ∙ ap (λ v. k.front ++ v) m.is in
    subst (λ v. Derived sum_spelt sum_raw sum_depth w (tree.binary ops.Sub a b) n v r) (sym whole) (sum_minus_by w a b n k.front m.back r m.at m.token left right left.by left.spells left.tree left.clean left.shallow)

abbrev null_nullish_then : NullRestD → SumD → NullRestD
null_nullish_then grammar.no_null q = grammar.nullish q grammar.no_null
null_nullish_then (grammar.nullish d r) q = grammar.nullish d (null_nullish_then r q)

null_nullish_then_spelt : (r : NullRestD) (q : SumD) (ts : List LineToken) → null_rest_spelt (null_nullish_then r q) ts ≡ (null_rest_spelt r ▸ (spell.mark NULLISH ▸ sum_spelt q)) ts
null_nullish_then_spelt grammar.no_null q ts = under (spell.mark NULLISH) _ _ (λ k. same_again (sum_spelt q k)) ts
null_nullish_then_spelt (grammar.nullish d r) q ts =
    under (spell.mark NULLISH) _ _ (under (sum_spelt d) _ _ (null_nullish_then_spelt r q)) ts ∙ sym (assoc (spell.mark NULLISH) (sum_spelt d ▸ null_rest_spelt r) (spell.mark NULLISH ▸ sum_spelt q) ts ∙ under (spell.mark NULLISH) _ _ (assoc (sum_spelt d) (null_rest_spelt r) (spell.mark NULLISH ▸ sum_spelt q)) ts)

null_nullish_then_raw : (left : RawExpr) (r : NullRestD) (q : SumD) → null_rest_raw left (null_nullish_then r q) ≡ raw.binary ops.Null (null_rest_raw left r) (sum_raw q)
null_nullish_then_raw left grammar.no_null q = refl
null_nullish_then_raw left (grammar.nullish d r) q = null_nullish_then_raw (raw.binary ops.Null left (sum_raw d)) r q

null_nullish_then_depth : (r : NullRestD) (q : SumD) (n : ℕ) → null_rest_depth r ≤ n → sum_depth q ≤ n → null_rest_depth (null_nullish_then r q) ≤ n
null_nullish_then_depth grammar.no_null q n h k = omega (arith, h, k)
null_nullish_then_depth (grammar.nullish d r) q n h k = omega (arith, h, null_nullish_then_depth r q n (omega (arith, h)) k)

null_nullish_is : within (NULLISH ∷ []) (kind (token.punct 17)) ≡ true
unfolding within
null_nullish_is = refl

null_nullish_by : (w : Within) (a b : ExprTree) (n : ℕ) (us vs r : List LineToken) (m : LineToken) → m.token ≡ token.punct 17 → Derived null_spelt null_raw null_depth w a n us (m ∷ (vs ++ r)) → Derived sum_spelt sum_raw sum_depth w b n vs r → (d : NullD) → null_spelt d (us ++ (m ∷ (vs ++ r))) ≡ Some (m ∷ (vs ++ r)) → expr_tree w (null_raw d) ≡ a → expr_broken w (null_raw d) ≡ [] → null_depth d ≤ n → Derived null_spelt null_raw null_depth w (tree.binary ops.Null a b) n (us ++ (m ∷ vs)) r
null_nullish_by w a b n us vs r m is x y (grammar.null d rest) spells t clean shallow = record {
  by = grammar.null d (null_nullish_then rest y.by);
  spells =
      ap (null_spelt (grammar.null d (null_nullish_then rest y.by))) (append_assoc us (m ∷ vs) r)
      ∙ under (sum_spelt d) _ _ (null_nullish_then_spelt rest y.by) (us ++ (m ∷ (vs ++ r)))
      ∙ sym (assoc (sum_spelt d) (null_rest_spelt rest) (spell.mark NULLISH ▸ sum_spelt y.by) (us ++ (m ∷ (vs ++ r))))
      ∙ bound_some ((sum_spelt d ▸ null_rest_spelt rest) (us ++ (m ∷ (vs ++ r)))) (spell.mark NULLISH ▸ sum_spelt y.by) (m ∷ (vs ++ r)) (Some r) spells
      (bound_some (spell.mark NULLISH (m ∷ (vs ++ r))) (sum_spelt y.by) (vs ++ r) (Some r) (mark_spells NULLISH m (vs ++ r) (ap (λ v. within (NULLISH ∷ []) (kind v)) is ∙ null_nullish_is)) y.spells);
  tree = ap (expr_tree w) (null_nullish_then_raw (sum_raw d) rest y.by) ∙ binary_same ops.Null _ _ _ _ t y.tree;
  clean = ap (expr_broken w) (null_nullish_then_raw (sum_raw d) rest y.by) ∙ clean_binary w ops.Null _ _ clean y.clean;
  shallow = omega (arith, shallow, null_nullish_then_depth rest y.by n (omega (arith, shallow)) y.shallow);
}

pub null_nullish : (w : Within) (a b : ExprTree) (n : ℕ) (xs ys : List Token) → AsNull w a n xs → AsSum w b n ys → AsNull w (tree.binary ops.Null a b) n (xs ++ (token.punct 17 ∷ ys))
null_nullish w a b n xs ys x y us r h =
    let k = halves us xs (token.punct 17 ∷ ys) h in
    let m = first k.back (token.punct 17) ys k.lasts in
    let right = y m.back r m.lasts in
    let left = x k.front (m.at ∷ (m.back ++ r)) k.firsts in
    let whole : us ≡ k.front ++ (m.at ∷ m.back) = k.is ∙ ap (λ v. k.front ++ v) m.is in
    subst (λ v. Derived null_spelt null_raw null_depth w (tree.binary ops.Null a b) n v r) (sym whole) (null_nullish_by w a b n k.front m.back r m.at m.token left right left.by left.spells left.tree left.clean left.shallow)
