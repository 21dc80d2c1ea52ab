-- The canonical text of what a derivation says is no deeper than the derivation.
use Rattle.std.proofs.Common.{◌≡◌, ℕ, suc, ◌≤◌, max, List, [], ◌∷◌, ◌++◌, map, Bool, true, false, cond, nat_lt, Option, Some, None, refl, arith}
use Rattle.std.specs.Option.{option_map}
use Rattle.std.proofs.lemmas.Bool.Decides.{nat_tests}
use Rattle.module_tree.specs.Syntax as tree
use Rattle.module_tree.specs.Syntax.{ExprTree, CondTree, ModuleTree}
use Rattle.module_tree.specs.declared.tree.Op.TheVariants as ops
use Rattle.module_semantics.specs.Kinds.{NameAt}
use Rattle.module_semantics.specs.Raw as raw
use Rattle.module_semantics.specs.Raw.{RawExpr, RawItem}
use Rattle.module_semantics.specs.Grammar as grammar
use Rattle.module_semantics.specs.Grammar.{ExprD, NullD, NullRestD, SumD, SumRestD, ProdD, ProdRestD, UnaryD, PrimD, expr_raw, null_raw, null_rest_raw, sum_raw, sum_rest_raw, prod_raw, prod_rest_raw, unary_raw, prim_raw, expr_depth, null_depth, null_rest_depth, sum_depth, sum_rest_depth, prod_depth, prod_rest_depth, unary_depth, prim_depth, ActD, ThrowD, InvalD, StmtD, StmtsD, IfD, ElseD, BlockD, act_raw, throw_raw, inval_raw, stmt_raw, stmts_raw, if_raw, else_raw, block_raw, act_depth, throw_depth, inval_depth, stmt_depth, stmts_depth, if_depth, else_depth, block_depth, deepest, deep_if, BodyD, CallbackD, ListCallbackD, OwnD, AcceptD, HotCallD, TopD, DeclD, ItemD, ModuleD, body_raw, body_depth, callback_raw, callback_depth, list_callback_raw, list_callback_depth, own_raw, own_depth, accept_raw, accept_depth, hot_call_raw, hot_call_depth, top_raw, top_depth, decl_raw, decl_depth, item_raw, item_depth, module_raw, module_depth}
use Rattle.module_semantics.specs.NameRules.{Within, outside, in_once, in_accept, has_name}
use Rattle.module_semantics.specs.Resolving.{member_tree, expr_tree, name_cond, cond_tree, stmt_tree, stmts_tree, handler_tree, once_handler_tree, accept_tree, once_tree, item_tree, module_tree}
use Rattle.module_semantics.specs.Canon.{level}
use Rattle.module_semantics.specs.CanonTokens.{placed_depth, inner_depth, expr_deep, exprs_deep, told_deep, cond_deep, stmt_deep, stmts_deep}
use Rattle.module_semantics.specs.CanonItems.{handler_deep, once_deep, deps_deep, item_deep, module_deep}

-- how deep a tree is at a place
abbrev Deep : ℕ → ExprTree → ℕ
Deep place t = placed_depth place (level t) (inner_depth t)

between : (low : Bool) (n : ℕ) → n ≤ cond low (suc n) n
between true n = omega arith
between false n = omega arith

inner_at : (place : ℕ) (t : ExprTree) → inner_depth t ≤ Deep place t
inner_at place t = between (nat_lt (level t) place) (inner_depth t)

one_more : (low : Bool) (n : ℕ) → cond low (suc n) n ≤ suc n
one_more true n = omega arith
one_more false n = omega arith

outer_at : (place : ℕ) (t : ExprTree) → Deep place t ≤ suc (inner_depth t)
outer_at place t = one_more (nat_lt (level t) place) (inner_depth t)

more_low : (low lower : Bool) (n : ℕ) → (low ≡ true → lower ≡ true) → cond low (suc n) n ≤ cond lower (suc n) n
more_low true true n h = omega arith
more_low true false n h = absurd (let no_more = h refl in cc)
more_low false true n h = omega arith
more_low false false n h = omega arith

lower_too : (l p q : ℕ) → p ≤ q → nat_lt l p ≡ true → nat_lt l q ≡ true
lower_too l p q h k = grind (arith, nat_tests)

higher : (p q : ℕ) (t : ExprTree) → p ≤ q → Deep p t ≤ Deep q t
higher p q t h = more_low (nat_lt (level t) p) (nat_lt (level t) q) (inner_depth t) (lower_too (level t) p q h)

member_flat : (w : Within) (n : NameAt) (safe : Bool) (k : List ℕ) → Deep 5 (member_tree w n safe k) ≤ 0
member_flat outside n safe k = omega arith
member_flat (in_once ps) n safe k = omega arith
member_flat (in_accept ps) n safe k = omega arith

mutual
  pub expr_deepest : (w : Within) (d : ExprD) → suc (inner_depth (expr_tree w (expr_raw d))) ≤ expr_depth d
  expr_deepest w (grammar.plain s) = omega (arith, null_deepest w s, inner_at 1 (expr_tree w (null_raw s)))
  expr_deepest w (grammar.choice c a b) = omega (arith, null_deepest w c, expr_deepest w a, expr_deepest w b)

  null_deepest : (w : Within) (d : NullD) → Deep 1 (expr_tree w (null_raw d)) ≤ null_depth d
  null_deepest w (grammar.null s r) = null_rest_deepest w (sum_raw s) (sum_depth s) r (omega (arith, sum_deepest w s, higher 1 2 (expr_tree w (sum_raw s)) (omega arith)))

  null_rest_deepest : (w : Within) (left : RawExpr) (n : ℕ) (r : NullRestD) → Deep 1 (expr_tree w left) ≤ n → Deep 1 (expr_tree w (null_rest_raw left r)) ≤ max n (null_rest_depth r)
  null_rest_deepest w left n grammar.no_null h = omega (arith, h)
  null_rest_deepest w left n (grammar.nullish s r) h = omega (arith, null_rest_deepest w (raw.binary ops.Null left (sum_raw s)) (max n (sum_depth s)) r (omega (arith, h, sum_deepest w s)))

  sum_deepest : (w : Within) (d : SumD) → Deep 2 (expr_tree w (sum_raw d)) ≤ sum_depth d
  sum_deepest w (grammar.sum p r) = sum_rest_deepest w (prod_raw p) (prod_depth p) r (omega (arith, prod_deepest w p, higher 2 3 (expr_tree w (prod_raw p)) (omega arith)))

  sum_rest_deepest : (w : Within) (left : RawExpr) (n : ℕ) (r : SumRestD) → Deep 2 (expr_tree w left) ≤ n → Deep 2 (expr_tree w (sum_rest_raw left r)) ≤ max n (sum_rest_depth r)
  sum_rest_deepest w left n grammar.no_sum h = omega (arith, h)
  sum_rest_deepest w left n (grammar.plus p r) h = omega (arith, sum_rest_deepest w (raw.binary ops.Add left (prod_raw p)) (max n (prod_depth p)) r (omega (arith, h, prod_deepest w p)))
  sum_rest_deepest w left n (grammar.minus p r) h = omega (arith, sum_rest_deepest w (raw.binary ops.Sub left (prod_raw p)) (max n (prod_depth p)) r (omega (arith, h, prod_deepest w p)))

  prod_deepest : (w : Within) (d : ProdD) → Deep 3 (expr_tree w (prod_raw d)) ≤ prod_depth d
  prod_deepest w (grammar.prod u r) = prod_rest_deepest w (unary_raw u) (unary_depth u) r (omega (arith, unary_deepest w u, higher 3 4 (expr_tree w (unary_raw u)) (omega arith)))

  prod_rest_deepest : (w : Within) (left : RawExpr) (n : ℕ) (r : ProdRestD) → Deep 3 (expr_tree w left) ≤ n → Deep 3 (expr_tree w (prod_rest_raw left r)) ≤ max n (prod_rest_depth r)
  prod_rest_deepest w left n grammar.no_prod h = omega (arith, h)
  prod_rest_deepest w left n (grammar.times u r) h = omega (arith, prod_rest_deepest w (raw.binary ops.Mul left (unary_raw u)) (max n (unary_depth u)) r (omega (arith, h, unary_deepest w u)))

  unary_deepest : (w : Within) (d : UnaryD) → Deep 4 (expr_tree w (unary_raw d)) ≤ unary_depth d
  unary_deepest w (grammar.positive p) = omega (arith, prim_deepest w p, higher 4 5 (expr_tree w (prim_raw p)) (omega arith))
  unary_deepest w (grammar.negative p) = prim_deepest w p

  prim_deepest : (w : Within) (d : PrimD) → Deep 5 (expr_tree w (prim_raw d)) ≤ prim_depth d
  prim_deepest w (grammar.number n) = omega arith
  prim_deepest w (grammar.text s) = omega arith
  prim_deepest w grammar.undefined = omega arith
  prim_deepest w (grammar.name n) = omega arith
  prim_deepest w (grammar.member n k) = member_flat w n false k
  prim_deepest w (grammar.safe_member n k) = member_flat w n true k
  prim_deepest w (grammar.bag k) = omega arith
  prim_deepest w (grammar.brackets e) = omega (arith, expr_deepest w e, outer_at 5 (expr_tree w (expr_raw e)))

exprs_deepest : (w : Within) (ds : List ExprD) → exprs_deep (map (expr_tree w) (map expr_raw ds)) ≤ deepest expr_depth ds
exprs_deepest w [] = omega arith
exprs_deepest w (d ∷ ds) = omega (arith, expr_deepest w d, exprs_deepest w ds)

told_deepest : (w : Within) (o : Option ExprD) → told_deep (option_map (expr_tree w) (option_map expr_raw o)) ≤ deep_if expr_depth o
told_deepest w None = omega arith
told_deepest w (Some d) = expr_deepest w d

name_cond_flat : (has : Bool) (i : ℕ) (n : List ℕ) → cond_deep (cond has (tree.param i) (tree.value (tree.name n))) ≤ 1
name_cond_flat true i n = omega arith
name_cond_flat false i n = omega arith

name_flat : (w : Within) (n : List ℕ) → cond_deep (name_cond w n) ≤ 1
name_flat outside n = omega arith
name_flat (in_once ps) n = omega arith
name_flat (in_accept ps) n = name_cond_flat (has_name n ps) _ n

cond_same : (w : Within) (x : RawExpr) → cond_deep (cond_tree w x) ≤ suc (inner_depth (expr_tree w x))
cond_same w (raw.name n) = name_flat w n.name
cond_same w (raw.num n) = omega arith
cond_same w (raw.text s) = omega arith
cond_same w raw.undefined = omega arith
cond_same w (raw.bag k) = omega arith
cond_same w (raw.member n safe k) = omega arith
cond_same w (raw.neg a) = omega arith
cond_same w (raw.binary op a b) = omega arith
cond_same w (raw.choose c a b) = omega arith

act_deepest : (w : Within) (d : ActD) → stmt_deep (stmt_tree w (act_raw d)) ≤ act_depth d
act_deepest w (grammar.log es) = exprs_deepest w es
act_deepest w (grammar.assign n e) = expr_deepest w e
act_deepest w (grammar.set n k e) = expr_deepest w e
act_deepest w (grammar.set_bag k e) = expr_deepest w e

throw_deepest : (w : Within) (d : ThrowD) → expr_deep (expr_tree w (throw_raw d)) ≤ throw_depth d
throw_deepest w (grammar.thrown e) = expr_deepest w e
throw_deepest w (grammar.new_error e) = expr_deepest w e

inval_deepest : (w : Within) (d : InvalD) → stmt_deep (stmt_tree w (inval_raw d)) ≤ inval_depth d
inval_deepest w (grammar.invalidate at e) = told_deepest w e

mutual
  stmt_deepest : (w : Within) (d : StmtD) → stmt_deep (stmt_tree w (stmt_raw d)) ≤ stmt_depth d
  stmt_deepest w (grammar.StmtD.act d) = act_deepest w d
  stmt_deepest w (grammar.StmtD.throw d) = throw_deepest w d
  stmt_deepest w (grammar.StmtD.inval d) = inval_deepest w d
  stmt_deepest w (grammar.StmtD.branch d) = if_deepest w d

  stmts_deepest : (w : Within) (d : StmtsD) → stmts_deep (stmts_tree w (stmts_raw d)) ≤ stmts_depth d
  stmts_deepest w grammar.StmtsD.none = omega arith
  stmts_deepest w (grammar.StmtsD.more s r) = omega (arith, stmt_deepest w s, stmts_deepest w r)

  if_deepest : (w : Within) (d : IfD) → stmt_deep (stmt_tree w (if_raw d)) ≤ if_depth d
  if_deepest w (grammar.if_then c b e) = omega (arith, expr_deepest w c, cond_same w (expr_raw c), block_deepest w b, else_deepest w e)

  else_deepest : (w : Within) (d : ElseD) → suc (stmts_deep (stmts_tree w (else_raw d))) ≤ max 1 (else_depth d)
  else_deepest w grammar.no_else = omega arith
  else_deepest w (grammar.else_block b) = omega (arith, block_deepest w b)
  else_deepest w (grammar.else_if i) = omega (arith, if_deepest w i)

  block_deepest : (w : Within) (d : BlockD) → suc (stmts_deep (stmts_tree w (block_raw d))) ≤ block_depth d
  block_deepest w (grammar.block s) = omega (arith, stmts_deepest w s)

body_deepest : (w : Within) (d : BodyD) → stmts_deep (stmts_tree w (body_raw d)) ≤ body_depth d
body_deepest w (grammar.braces s) = stmts_deepest w s
body_deepest w (grammar.only_act d) = omega (arith, act_deepest w d)
body_deepest w (grammar.only_inval d) = omega (arith, inval_deepest w d)

callback_deepest : (d : CallbackD) → (handler_deep (handler_tree (callback_raw d)) ≤ callback_depth d) × (handler_deep (once_handler_tree (callback_raw d)) ≤ callback_depth d)
callback_deepest (grammar.callback p b) = (body_deepest _ b, body_deepest _ b)

list_callback_deepest : (d : ListCallbackD) → handler_deep (handler_tree (list_callback_raw d)) ≤ list_callback_depth d
list_callback_deepest (grammar.list_callback ns b) = body_deepest _ b

own_deepest : (d : OwnD) → (once_deep (accept_tree (own_raw d)) ≤ own_depth d) × (once_deep (once_tree (own_raw d)) ≤ own_depth d)
own_deepest (grammar.OwnD.code c) = callback_deepest c
own_deepest (grammar.OwnD.host l) = (omega arith, omega arith)

dep_deepest : (o : Option CallbackD) → deps_deep (option_map handler_tree (option_map callback_raw o)) ≤ deep_if callback_depth o
dep_deepest None = omega arith
dep_deepest (Some d) = (callback_deepest d).0

deps_deepest : (o : Option ListCallbackD) → deps_deep (option_map handler_tree (option_map list_callback_raw o)) ≤ deep_if list_callback_depth o
deps_deepest None = omega arith
deps_deepest (Some d) = list_callback_deepest d

accept_deepest : (d : AcceptD) → item_deep (item_tree (accept_raw d)) ≤ accept_depth d
accept_deepest grammar.accept_all = omega arith
accept_deepest (grammar.own o) = (own_deepest o).0
accept_deepest (grammar.dep s c) = dep_deepest c
accept_deepest (grammar.deps ss c) = deps_deepest c

hot_call_deepest : (d : HotCallD) → item_deep (item_tree (hot_call_raw d)) ≤ hot_call_depth d
hot_call_deepest (grammar.HotCallD.accept a) = accept_deepest a
hot_call_deepest (grammar.HotCallD.dispose o) = (own_deepest o).1
hot_call_deepest (grammar.HotCallD.prune o) = (own_deepest o).1
hot_call_deepest (grammar.HotCallD.on n c) = (callback_deepest c).0
hot_call_deepest grammar.HotCallD.decline = omega arith

top_deepest : (d : TopD) → item_deep (item_tree (top_raw d)) ≤ top_depth d
top_deepest (grammar.TopD.act d) = act_deepest outside d
top_deepest (grammar.TopD.throw d) = throw_deepest outside d
top_deepest (grammar.TopD.call d) = hot_call_deepest d

decl_deepest : (exported : Bool) (d : DeclD) → item_deep (item_tree (decl_raw exported d)) ≤ decl_depth d
decl_deepest exported (grammar.constant n e) = expr_deepest outside e
decl_deepest exported (grammar.variable n e) = expr_deepest outside e

tops_deepest : (ds : List TopD) → module_deep (module_tree (map top_raw ds)) ≤ deepest top_depth ds
tops_deepest [] = omega arith
tops_deepest (d ∷ ds) = omega (arith, top_deepest d, tops_deepest ds)

item_deepest : (d : ItemD) → module_deep (module_tree (item_raw d)) ≤ item_depth d
item_deepest (grammar.import_text s) = omega arith
item_deepest (grammar.import_names ns s) = omega arith
item_deepest (grammar.exported d) = omega (arith, decl_deepest true d)
item_deepest (grammar.declared d) = omega (arith, decl_deepest false d)
item_deepest (grammar.ItemD.top d) = omega (arith, top_deepest d)
item_deepest (grammar.guard ds) = tops_deepest ds

two_deep : (xs ys : List RawItem) → module_deep (module_tree (xs ++ ys)) ≤ max (module_deep (module_tree xs)) (module_deep (module_tree ys))
two_deep [] ys = omega arith
two_deep (x ∷ xs) ys = omega (arith, two_deep xs ys)

pub module_deepest : (ds : ModuleD) → module_deep (module_tree (module_raw ds)) ≤ module_depth ds
module_deepest [] = omega arith
module_deepest (d ∷ ds) = omega (arith, two_deep (item_raw d) (module_raw ds), item_deepest d, module_deepest ds)
