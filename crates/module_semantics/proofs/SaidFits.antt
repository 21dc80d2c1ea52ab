-- What can be written and breaks no rule on names fits: expressions and statements.
use Rattle.std.proofs.Common.{◌≡◌, ℕ, suc, List, [], ◌∷◌, ◌++◌, Bool, true, false, not, cond, ◌||◌, nat_lt, refl, sym, ap, ◌∙◌, codes}
use Rattle.std.specs.List.{list_all}
use Rattle.std.specs.Str.{bytes_eq}
use Rattle.std.proofs.lemmas.List.Folds.{list_all-append}
use Rattle.module_tree.specs.Syntax as tree
use Rattle.module_tree.specs.Syntax.{ExprTree, CondTree, StmtTree, StmtTrees}
use Rattle.module_tree.specs.declared.tree.Op.{Op}
use Rattle.module_tree.specs.declared.tree.Op.TheVariants as ops
use Rattle.hmr_types.specs.declared.analysis.FaultWord.TheVariants.{Unexpected}
use Rattle.module_semantics.specs.Token as token
use Rattle.module_semantics.specs.Token.{Token}
use Rattle.module_semantics.specs.Bytes.{is_name_start, is_name_byte, is_digit}
use Rattle.module_semantics.specs.Pieces.{all}
use Rattle.module_semantics.specs.Kinds.{NameAt}
use Rattle.module_semantics.specs.Raw as raw
use Rattle.module_semantics.specs.Raw.{RawExpr, RawStmt, RawStmts}
use Rattle.module_semantics.specs.NameRules.{Within, outside, in_once, in_accept, is_param, has_name, expr_broken}
use Rattle.module_semantics.specs.Resolving.{place_of, member_tree, expr_tree}
use Rattle.module_semantics.specs.Canon.{op_level, level, nth}
use Rattle.module_semantics.specs.CanonTokens.{placed_tokens, op_token, dot_token, hot_tokens, expr_tokens, fits_name, fits_param, fits_expr}
use Rattle.module_semantics.specs.Fitting.{is_name, writable}
use Rattle.module_semantics.proofs.LexedPieces.{and_yes, not_yes}
use Rattle.module_semantics.proofs.KindLists.{same_kind}
use Rattle.module_semantics.proofs.Marks.{same_bytes}
use Rattle.module_semantics.proofs.CanonParts.{unbroken}
use Rattle.module_semantics.proofs.LaidExprs.{Writable}
use Rattle.module_semantics.proofs.ReadTokens.{not_false}
use Rattle.module_semantics.proofs.SaidExprs.{GoodName, GoodExpr}

-- where a statement of the tree stands: a `dispose` or `prune` callback has forgotten its parameter
abbrev pub kept : Within → Within
kept outside = outside
kept (in_once qs) = in_once []
kept (in_accept qs) = in_accept qs

-- the parameters that the tree has
abbrev pub params_of : Within → List (List ℕ)
params_of outside = []
params_of (in_once qs) = []
params_of (in_accept qs) = qs

-- tokens that can be written, put together
pub nothing_written : Writable []
nothing_written = record { each = refl }

pub then_written : (t : Token) (ts : List Token) → writable t ≡ true → Writable ts → Writable (t ∷ ts)
then_written t ts h w = record { each = and_yes (writable t) (list_all writable ts) h w.each }

pub both_written : (xs ys : List Token) → Writable xs → Writable ys → Writable (xs ++ ys)
both_written xs ys v w = record { each = list_all-append writable xs ys ∙ and_yes (list_all writable xs) (list_all writable ys) v.each w.each }

-- fixed tokens, which a test tells
pub fixed_written : (xs ys : List Token) → list_all writable xs ≡ true → Writable ys → Writable (xs ++ ys)
fixed_written xs ys h w = both_written xs ys (record { each = h }) w

paren_written : (low : Bool) (ts : List Token) → Writable ts → Writable (cond low (token.punct 2 ∷ (ts ++ (token.punct 3 ∷ []))) ts)
paren_written true ts w = then_written (token.punct 2) _ refl (both_written ts (token.punct 3 ∷ []) w (then_written (token.punct 3) [] refl nothing_written))
paren_written false ts w = w

placed_written : (place l : ℕ) (ts : List Token) → Writable ts → Writable (placed_tokens place l ts)
placed_written place l ts w = paren_written (nat_lt l place) ts w

pub hot_written : (ts : List Token) → Writable ts → Writable (token.name (codes "import") ∷ hot_tokens ts)
unfolding is_name_start is_name_byte is_digit all
hot_written ts w = fixed_written (token.name (codes "import") ∷ hot_tokens []) ts refl w

pub data_written : (ts : List Token) → Writable ts → Writable (token.name (codes "import") ∷ hot_tokens (token.name (codes "data") ∷ (token.punct 8 ∷ ts)))
unfolding is_name_start is_name_byte is_digit all
data_written ts w = fixed_written (token.name (codes "import") ∷ hot_tokens (token.name (codes "data") ∷ (token.punct 8 ∷ []))) ts refl w

undefined_written : Writable (token.name (codes "undefined") ∷ [])
unfolding is_name_start is_name_byte is_digit all
undefined_written = record { each = refl }

pub not_kept : (w : Within) (n : List ℕ) → is_param w n ≡ false → is_param (kept w) n ≡ false
unfolding has_name
not_kept outside n h = refl
not_kept (in_once qs) n h = refl
not_kept (in_accept qs) n h = h

-- the place of a parameter leads to its name
nth_case : (n m : List ℕ) (ms : List (List ℕ)) (b : Bool) → bytes_eq n m ≡ b → (b || has_name n ms) ≡ true → (has_name n ms ≡ true → nth ms (place_of n ms) ≡ n) → nth (m ∷ ms) (cond b 0 (suc (place_of n ms))) ≡ n
nth_case n m ms true is h rest = sym (same_bytes.is n m is)
nth_case n m ms false is h rest = rest h

pub nth_place : (n : List ℕ) (ns : List (List ℕ)) → has_name n ns ≡ true → nth ns (place_of n ns) ≡ n
unfolding has_name place_of
nth_place n [] h = absurd cc
nth_place n (m ∷ ms) h = nth_case n m ms (bytes_eq n m) refl h (nth_place n ms)

pub param_fits : (qs : List (List ℕ)) (n : List ℕ) → fits_name n ≡ true → has_name n qs ≡ true → fits_param (in_accept qs) qs (place_of n qs) ≡ true
param_fits qs n name has = rw (nth_place n qs has) (and_yes _ _ (and_yes _ _ name has) (same_kind (place_of n qs)))

-- an expression that fits, and can be written
pub record FitsExpr (w : Within) (e : ExprTree) : Type 0 where
  pub fits : fits_expr (kept w) (params_of w) e ≡ true
  pub written : Writable (expr_tokens (params_of w) e)

dot_written : (safe : Bool) (k : List ℕ) → is_name k ≡ true → Writable (dot_token safe ∷ (token.name k ∷ []))
dot_written true k h = then_written (token.punct 16) _ refl (then_written (token.name k) [] h nothing_written)
dot_written false k h = then_written (token.punct 8) _ refl (then_written (token.name k) [] h nothing_written)

member_fits : (w : Within) (n : NameAt) (safe : Bool) (k : List ℕ) → GoodName n → is_name k ≡ true → is_param w n.name ≡ true → FitsExpr w (member_tree w n safe k)
unfolding fits_expr
member_fits outside n safe k good key param = absurd cc
member_fits (in_once qs) n safe k good key param = record { fits = refl; written = data_written _ (then_written (token.name k) [] key nothing_written) }
member_fits (in_accept qs) n safe k good key param = record {
  fits = param_fits qs n.name good.0 param;
  written = then_written (token.name (nth qs (place_of n.name qs))) _ (ap is_name (nth_place n.name qs param) ∙ good.1) (dot_written safe k key);
}

pub no_first : {A : Type 0} (xs ys : List A) → xs ++ ys ≡ [] → (xs ≡ []) × (ys ≡ [])
no_first [] ys h = (refl, h)
no_first (x ∷ xs) ys h = absurd cc

op_written : (op : Op) → writable (op_token op) ≡ true
op_written ops.Null = refl
op_written ops.Add = refl
op_written ops.Sub = refl
op_written ops.Mul = refl

pub name_fits : (w : Within) (n : NameAt) → GoodName n → is_param w n.name ≡ false → FitsExpr w (tree.name n.name)
unfolding fits_expr
name_fits w n good free = record { fits = and_yes _ _ good.0 (not_yes _ (not_kept w n.name free)); written = then_written (token.name n.name) [] good.1 nothing_written }

pub expr_fits : (w : Within) (x : RawExpr) → GoodExpr x → expr_broken w x ≡ [] → FitsExpr w (expr_tree w x)
unfolding expr_broken fits_expr
expr_fits w (raw.num n) good h = record { fits = refl; written = then_written (token.number n) [] good nothing_written }
expr_fits w (raw.text s) good h = record { fits = refl; written = then_written (token.text s) [] good nothing_written }
expr_fits w raw.undefined good h = record { fits = refl; written = undefined_written }
expr_fits w (raw.name n) good h = name_fits w n good (unbroken (is_param w n.name) Unexpected n.at h)
expr_fits w (raw.bag k) good h = record { fits = refl; written = data_written _ (then_written (token.name k) [] good nothing_written) }
expr_fits w (raw.member n safe k) good h = member_fits w n safe k good.0 good.1 (not_false (is_param w n.name) (unbroken (not (is_param w n.name)) Unexpected n.at h))
expr_fits w (raw.neg a) good h = let x = expr_fits w a good h in record { fits = x.fits; written = then_written (token.punct 11) _ refl (placed_written 5 (level (expr_tree w a)) _ x.written) }
expr_fits w (raw.binary op a b) good h =
    let t = no_first (expr_broken w a) (expr_broken w b) h in
    let x = expr_fits w a good.0 t.0 in
    let y = expr_fits w b good.1 t.1 in
    record {
      fits = and_yes _ _ x.fits y.fits;
      written = both_written _ _ (placed_written (op_level op) (level (expr_tree w a)) _ x.written) (then_written (op_token op) _ (op_written op) (placed_written (suc (op_level op)) (level (expr_tree w b)) _ y.written));
    }
expr_fits w (raw.choose c a b) good h =
    let t = no_first (expr_broken w c) (expr_broken w a ++ expr_broken w b) h in
    let u = no_first (expr_broken w a) (expr_broken w b) t.1 in
    let x = expr_fits w c good.0 t.0 in
    let y = expr_fits w a good.1 u.0 in
    let z = expr_fits w b good.2 u.1 in
    record {
      fits = and_yes _ _ (and_yes _ _ x.fits y.fits) z.fits;
      written = both_written _ _ (placed_written 1 (level (expr_tree w c)) _ x.written) (then_written (token.punct 13) _ refl (both_written _ _ y.written (then_written (token.punct 14) _ refl z.written)));
    }
