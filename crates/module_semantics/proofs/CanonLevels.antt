-- Tokens that are written as an expression, at each level of the grammar: whatever their places and lines are, a derivation is
-- spelled by them that says the tree, breaks no rule on names, and is no deeper than told.
use Rattle.std.proofs.Common.{◌≡◌, ℕ, suc, ◌≤◌, List, [], ◌∷◌, ◌++◌, map, true, Some, refl, ap, ◌∙◌, arith}
use Rattle.std.proofs.lemmas.List.{append_assoc}
use Rattle.module_tree.specs.Syntax as tree
use Rattle.module_tree.specs.Syntax.{ExprTree}
use Rattle.module_semantics.specs.Token as token
use Rattle.module_semantics.specs.Token.{Token, LineToken}
use Rattle.module_semantics.specs.Kinds.{kind, within, OPEN, CLOSE, MINUS}
use Rattle.module_semantics.specs.Raw as raw
use Rattle.module_semantics.specs.Raw.{RawExpr}
use Rattle.module_semantics.specs.Spelling as spell
use Rattle.module_semantics.specs.Spelling.{Spell, ◌>>◌, ◌▸◌}
use Rattle.module_semantics.specs.Grammar as grammar
use Rattle.module_semantics.specs.ExprGrammar.{expr_spelt, null_spelt, sum_spelt, prod_spelt, unary_spelt, prim_spelt, expr_raw, null_raw, sum_raw, prod_raw, unary_raw, prim_raw, expr_depth, null_depth, sum_depth, prod_depth, unary_depth, prim_depth}
use Rattle.module_semantics.specs.NameRules.{Within, expr_broken}
use Rattle.module_semantics.specs.Resolving.{expr_tree}
use Rattle.module_semantics.proofs.Steps.{bound_some}
use Rattle.module_semantics.proofs.Expressions.{and_no_more}
use Rattle.module_semantics.proofs.Marks.{mark_spells}

abbrev pub tokens_in : List LineToken → List Token
tokens_in us = map (λ u. u.token) us

-- a derivation spelled by tokens: what it says is the tree, and breaks no rule
pub record Derived {D : Type 0} (spelt : D → Spell) (says : D → RawExpr) (depth : D → ℕ) (w : Within) (t : ExprTree) (n : ℕ) (us r : List LineToken) : Type 0 where
  pub by : D
  pub spells : spelt by (us ++ r) ≡ Some r
  pub tree : expr_tree w (says by) ≡ t
  pub clean : expr_broken w (says by) ≡ []
  pub shallow : depth by ≤ n

abbrev pub Written : {D : Type 0} → (D → Spell) → (D → RawExpr) → (D → ℕ) → Within → ExprTree → ℕ → List Token → Type 0
Written spelt says depth w t n toks = (us r : List LineToken) → tokens_in us ≡ toks → Derived spelt says depth w t n us r

abbrev pub AsPrim : Within → ExprTree → ℕ → List Token → Type 0
AsPrim = Written prim_spelt prim_raw prim_depth

abbrev pub AsUnary : Within → ExprTree → ℕ → List Token → Type 0
AsUnary = Written unary_spelt unary_raw unary_depth

abbrev pub AsProd : Within → ExprTree → ℕ → List Token → Type 0
AsProd = Written prod_spelt prod_raw prod_depth

abbrev pub AsSum : Within → ExprTree → ℕ → List Token → Type 0
AsSum = Written sum_spelt sum_raw sum_depth

abbrev pub AsNull : Within → ExprTree → ℕ → List Token → Type 0
AsNull = Written null_spelt null_raw null_depth

abbrev pub AsExpr : Within → ExprTree → ℕ → List Token → Type 0
AsExpr = Written expr_spelt expr_raw expr_depth

-- each level is of the one below it
pub prim_unary : (w : Within) (t : ExprTree) (n : ℕ) (toks : List Token) → AsPrim w t n toks → AsUnary w t n toks
prim_unary w t n toks a us r h = let d = a us r h in record { by = grammar.positive d.by; spells = d.spells; tree = d.tree; clean = d.clean; shallow = d.shallow }

pub unary_prod : (w : Within) (t : ExprTree) (n : ℕ) (toks : List Token) → AsUnary w t n toks → AsProd w t n toks
unary_prod w t n toks a us r h = let d = a us r h in record { by = grammar.prod d.by grammar.no_prod; spells = and_no_more _ r d.spells; tree = d.tree; clean = d.clean; shallow = omega (arith, d.shallow) }

pub prod_sum : (w : Within) (t : ExprTree) (n : ℕ) (toks : List Token) → AsProd w t n toks → AsSum w t n toks
prod_sum w t n toks a us r h = let d = a us r h in record { by = grammar.sum d.by grammar.no_sum; spells = and_no_more _ r d.spells; tree = d.tree; clean = d.clean; shallow = omega (arith, d.shallow) }

pub sum_null : (w : Within) (t : ExprTree) (n : ℕ) (toks : List Token) → AsSum w t n toks → AsNull w t n toks
sum_null w t n toks a us r h = let d = a us r h in record { by = grammar.null d.by grammar.no_null; spells = and_no_more _ r d.spells; tree = d.tree; clean = d.clean; shallow = omega (arith, d.shallow) }

pub null_expr : (w : Within) (t : ExprTree) (n : ℕ) (toks : List Token) → AsNull w t n toks → AsExpr w t (suc n) toks
null_expr w t n toks a us r h = let d = a us r h in record { by = grammar.plain d.by; spells = d.spells; tree = d.tree; clean = d.clean; shallow = omega (arith, d.shallow) }

-- line tokens that stand for two lists of tokens, one after the other
pub record Halves (us : List LineToken) (xs ys : List Token) : Type 0 where
  pub front : List LineToken
  pub back : List LineToken
  pub is : us ≡ front ++ back
  pub firsts : tokens_in front ≡ xs
  pub lasts : tokens_in back ≡ ys

pub halves : (us : List LineToken) (xs ys : List Token) → tokens_in us ≡ xs ++ ys → Halves us xs ys
halves us [] ys h = record { front = []; back = us; is = refl; firsts = refl; lasts = h }
halves [] (x ∷ xs) ys h = absurd cc
halves (u ∷ us) (x ∷ xs) ys h =
    let first : u.token ≡ x = cc in
    let rest : tokens_in us ≡ xs ++ ys = cc in
    let k = halves us xs ys rest in
    record { front = u ∷ k.front; back = k.back; is = ap (λ v. u ∷ v) k.is; firsts = rw (first, k.firsts) refl; lasts = k.lasts }

pub record First (us : List LineToken) (x : Token) (ys : List Token) : Type 0 where
  pub at : LineToken
  pub back : List LineToken
  pub is : us ≡ at ∷ back
  pub token : at.token ≡ x
  pub lasts : tokens_in back ≡ ys

pub first : (us : List LineToken) (x : Token) (ys : List Token) → tokens_in us ≡ x ∷ ys → First us x ys
first [] x ys h = absurd cc
first (u ∷ us) x ys h = record { at = u; back = us; is = refl; token = cc; lasts = cc }

-- a mark that stands first
pub marked : (k : ℕ) (us : List LineToken) (x : Token) (ys : List Token) (f : First us x ys) (r : List LineToken) → within (k ∷ []) (kind x) ≡ true → spell.mark k (us ++ r) ≡ Some (f.back ++ r)
marked k us x ys f r h = ap (λ v. spell.mark k (v ++ r)) f.is ∙ mark_spells k f.at (f.back ++ r) (ap (λ v. within (k ∷ []) (kind v)) f.token ∙ h)

pub no_line_tokens : (us : List LineToken) → tokens_in us ≡ [] → us ≡ []
no_line_tokens [] h = refl
no_line_tokens (u ∷ us) h = absurd cc

open_is : within (OPEN ∷ []) (kind (token.punct 2)) ≡ true
unfolding within
open_is = refl

close_is : within (CLOSE ∷ []) (kind (token.punct 3)) ≡ true
unfolding within
close_is = refl

-- parentheses make a prim of an expression
pub expr_prim : (w : Within) (t : ExprTree) (n : ℕ) (toks : List Token) → AsExpr w t n toks → AsPrim w t n (token.punct 2 ∷ (toks ++ (token.punct 3 ∷ [])))
expr_prim w t n toks a us r h =
    let o = first us (token.punct 2) (toks ++ (token.punct 3 ∷ [])) h in
    let k = halves o.back toks (token.punct 3 ∷ []) o.lasts in
    let c = first k.back (token.punct 3) [] k.lasts in
    let none : c.back ≡ [] = no_line_tokens c.back c.lasts in
    let d = a k.front (k.back ++ r) k.firsts in
    let rest : o.back ++ r ≡ k.front ++ (k.back ++ r) = ap (λ v. v ++ r) k.is ∙ append_assoc k.front k.back r in
    record {
      by = grammar.brackets d.by;
      spells = bound_some (spell.mark OPEN (us ++ r)) (expr_spelt d.by ▸ spell.mark CLOSE) (o.back ++ r) (Some r) (marked OPEN us (token.punct 2) (toks ++ (token.punct 3 ∷ [])) o r open_is)
          (bound_some (expr_spelt d.by (o.back ++ r)) (spell.mark CLOSE) (k.back ++ r) (Some r) (ap (expr_spelt d.by) rest ∙ d.spells) (marked CLOSE k.back (token.punct 3) [] c r close_is ∙ ap (λ v. Some (v ++ r)) none));
      tree = d.tree;
      clean = d.clean;
      shallow = d.shallow;
    }

-- a minus before a prim
minus_is : within (MINUS ∷ []) (kind (token.punct 11)) ≡ true
unfolding within
minus_is = refl

clean_neg : (w : Within) (e : RawExpr) → expr_broken w e ≡ [] → expr_broken w (raw.neg e) ≡ []
unfolding expr_broken
clean_neg w e h = h

pub neg_unary : (w : Within) (t : ExprTree) (n : ℕ) (toks : List Token) → AsPrim w t n toks → AsUnary w (tree.neg t) n (token.punct 11 ∷ toks)
neg_unary w t n toks a us r h =
    let m = first us (token.punct 11) toks h in
    let d = a m.back r m.lasts in
    record {
      by = grammar.negative d.by;
      spells = bound_some (spell.mark MINUS (us ++ r)) (prim_spelt d.by) (m.back ++ r) (Some r) (marked MINUS us (token.punct 11) toks m r minus_is) d.spells;
      tree = ap tree.neg d.tree;
      clean = clean_neg w (prim_raw d.by) d.clean;
      shallow = d.shallow;
    }
