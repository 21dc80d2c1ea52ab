-- The grammar of expressions, one constructor for each production.
use Rattle.std.specs.Prelude.{ℕ, suc, max, List, true, false, if◌then◌else◌, Some, None}
use Rattle.module_tree.specs.declared.tree.Op.TheVariants as ops
use Rattle.module_semantics.specs.Kinds.{IMPORT, UNDEFINED, NEW, ERROR, META, HOT, DATA, OPEN, CLOSE, DOT}
use Rattle.module_semantics.specs.Kinds.{PLUS, MINUS, TIMES, QUESTION, COLON, SAFE_DOT, NULLISH, NameAt}
use Rattle.module_semantics.specs.Raw as raw
use Rattle.module_semantics.specs.Raw.{RawExpr}
use Rattle.module_semantics.specs.Readers.{next_two}
use Rattle.module_semantics.specs.Spelling.{Spell, ◌▸◌, mark, free_name, key, text_token, number_token}

mutual
  -- Expr = Null [ "?" Expr ":" Expr ]
  pub data ExprD : Type 0 where
    plain : NullD → ExprD
    choice : NullD → ExprD → ExprD → ExprD

  -- Null = Sum { "??" Sum }
  pub data NullD : Type 0 where
    null : SumD → NullRestD → NullD

  pub data NullRestD : Type 0 where
    no_null : NullRestD
    nullish : SumD → NullRestD → NullRestD

  -- Sum = Prod { ( "+" | "-" ) Prod }
  pub data SumD : Type 0 where
    sum : ProdD → SumRestD → SumD

  pub data SumRestD : Type 0 where
    no_sum : SumRestD
    plus : ProdD → SumRestD → SumRestD
    minus : ProdD → SumRestD → SumRestD

  -- Prod = Unary { "*" Unary }
  pub data ProdD : Type 0 where
    prod : UnaryD → ProdRestD → ProdD

  pub data ProdRestD : Type 0 where
    no_prod : ProdRestD
    times : UnaryD → ProdRestD → ProdRestD

  -- Unary = [ "-" ] Prim
  pub data UnaryD : Type 0 where
    positive : PrimD → UnaryD
    negative : PrimD → UnaryD

  -- Prim = number | text | "undefined" | name | name "." name | name "?." name | Bag | "(" Expr ")"
  pub data PrimD : Type 0 where
    number : ℕ → PrimD
    text : List ℕ → PrimD
    undefined : PrimD
    name : NameAt → PrimD
    member : NameAt → List ℕ → PrimD
    safe_member : NameAt → List ℕ → PrimD
    bag : List ℕ → PrimD
    brackets : ExprD → PrimD

-- after `import`: `.meta.hot.` and more
abbrev pub hot_spelt : Spell → Spell
hot_spelt f = mark DOT ▸ mark META ▸ mark DOT ▸ mark HOT ▸ mark DOT ▸ f

-- nothing
abbrev pub nothing : Spell
nothing ts = Some ts

-- the same, but not where `new` stands directly before `Error`
abbrev pub not_error : Spell → Spell
not_error f ts = if next_two NEW ERROR ts then None else f ts

abbrev mutual
  pub expr_spelt : ExprD → Spell
  expr_spelt (plain s) = null_spelt s
  expr_spelt (choice s a b) = null_spelt s ▸ mark QUESTION ▸ expr_spelt a ▸ mark COLON ▸ expr_spelt b

  pub null_spelt : NullD → Spell
  null_spelt (null s r) = sum_spelt s ▸ null_rest_spelt r

  pub null_rest_spelt : NullRestD → Spell
  null_rest_spelt no_null = nothing
  null_rest_spelt (nullish s r) = mark NULLISH ▸ sum_spelt s ▸ null_rest_spelt r

  pub sum_spelt : SumD → Spell
  sum_spelt (sum p r) = prod_spelt p ▸ sum_rest_spelt r

  pub sum_rest_spelt : SumRestD → Spell
  sum_rest_spelt no_sum = nothing
  sum_rest_spelt (plus p r) = mark PLUS ▸ prod_spelt p ▸ sum_rest_spelt r
  sum_rest_spelt (minus p r) = mark MINUS ▸ prod_spelt p ▸ sum_rest_spelt r

  pub prod_spelt : ProdD → Spell
  prod_spelt (prod u r) = unary_spelt u ▸ prod_rest_spelt r

  pub prod_rest_spelt : ProdRestD → Spell
  prod_rest_spelt no_prod = nothing
  prod_rest_spelt (times u r) = mark TIMES ▸ unary_spelt u ▸ prod_rest_spelt r

  pub unary_spelt : UnaryD → Spell
  unary_spelt (positive p) = prim_spelt p
  unary_spelt (negative p) = mark MINUS ▸ prim_spelt p

  pub prim_spelt : PrimD → Spell
  prim_spelt (number n) = number_token n
  prim_spelt (text s) = text_token s
  prim_spelt undefined = mark UNDEFINED
  prim_spelt (name n) = free_name n
  prim_spelt (member n k) = free_name n ▸ mark DOT ▸ key k
  prim_spelt (safe_member n k) = free_name n ▸ mark SAFE_DOT ▸ key k
  prim_spelt (bag k) = mark IMPORT ▸ hot_spelt (mark DATA ▸ mark DOT ▸ key k)
  prim_spelt (brackets e) = mark OPEN ▸ expr_spelt e ▸ mark CLOSE

-- operators group to the left
abbrev mutual
  pub expr_raw : ExprD → RawExpr
  expr_raw (plain s) = null_raw s
  expr_raw (choice s a b) = raw.choose (null_raw s) (expr_raw a) (expr_raw b)

  pub null_raw : NullD → RawExpr
  null_raw (null s r) = null_rest_raw (sum_raw s) r

  pub null_rest_raw : RawExpr → NullRestD → RawExpr
  null_rest_raw left no_null = left
  null_rest_raw left (nullish s r) = null_rest_raw (raw.binary ops.Null left (sum_raw s)) r

  pub sum_raw : SumD → RawExpr
  sum_raw (sum p r) = sum_rest_raw (prod_raw p) r

  pub sum_rest_raw : RawExpr → SumRestD → RawExpr
  sum_rest_raw left no_sum = left
  sum_rest_raw left (plus p r) = sum_rest_raw (raw.binary ops.Add left (prod_raw p)) r
  sum_rest_raw left (minus p r) = sum_rest_raw (raw.binary ops.Sub left (prod_raw p)) r

  pub prod_raw : ProdD → RawExpr
  prod_raw (prod u r) = prod_rest_raw (unary_raw u) r

  pub prod_rest_raw : RawExpr → ProdRestD → RawExpr
  prod_rest_raw left no_prod = left
  prod_rest_raw left (times u r) = prod_rest_raw (raw.binary ops.Mul left (unary_raw u)) r

  pub unary_raw : UnaryD → RawExpr
  unary_raw (positive p) = prim_raw p
  unary_raw (negative p) = raw.neg (prim_raw p)

  pub prim_raw : PrimD → RawExpr
  prim_raw (number n) = raw.num n
  prim_raw (text s) = raw.text s
  prim_raw undefined = raw.undefined
  prim_raw (name n) = raw.name n
  prim_raw (member n k) = raw.member n false k
  prim_raw (safe_member n k) = raw.member n true k
  prim_raw (bag k) = raw.bag k
  prim_raw (brackets e) = expr_raw e

-- each expression inside another counts one more
abbrev mutual
  pub expr_depth : ExprD → ℕ
  expr_depth (plain s) = suc (null_depth s)
  expr_depth (choice s a b) = suc (max (null_depth s) (max (expr_depth a) (expr_depth b)))

  pub null_depth : NullD → ℕ
  null_depth (null s r) = max (sum_depth s) (null_rest_depth r)

  pub null_rest_depth : NullRestD → ℕ
  null_rest_depth no_null = 0
  null_rest_depth (nullish s r) = max (sum_depth s) (null_rest_depth r)

  pub sum_depth : SumD → ℕ
  sum_depth (sum p r) = max (prod_depth p) (sum_rest_depth r)

  pub sum_rest_depth : SumRestD → ℕ
  sum_rest_depth no_sum = 0
  sum_rest_depth (plus p r) = max (prod_depth p) (sum_rest_depth r)
  sum_rest_depth (minus p r) = max (prod_depth p) (sum_rest_depth r)

  pub prod_depth : ProdD → ℕ
  prod_depth (prod u r) = max (unary_depth u) (prod_rest_depth r)

  pub prod_rest_depth : ProdRestD → ℕ
  prod_rest_depth no_prod = 0
  prod_rest_depth (times u r) = max (unary_depth u) (prod_rest_depth r)

  pub unary_depth : UnaryD → ℕ
  unary_depth (positive p) = prim_depth p
  unary_depth (negative p) = prim_depth p

  pub prim_depth : PrimD → ℕ
  prim_depth (number n) = 0
  prim_depth (text s) = 0
  prim_depth undefined = 0
  prim_depth (name n) = 0
  prim_depth (member n k) = 0
  prim_depth (safe_member n k) = 0
  prim_depth (bag k) = 0
  prim_depth (brackets e) = expr_depth e
