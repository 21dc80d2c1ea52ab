-- The tokens of a canonical text, and how deep it is.
use Rattle.std.specs.Prelude.{ℕ, suc, max, List, [], ◌∷◌, ◌++◌, Bool, true, false, nat_lt, not, ◌&&◌, ◌==◌}
use Rattle.std.specs.Prelude.{if◌then◌else◌, Option, Some, None, codes}
use Rattle.module_tree.specs.Syntax.{ExprTree, num, text, undefined, name, bag, member, neg, binary, choose}
use Rattle.module_tree.specs.Syntax.{CondTree, param, value, StmtTree, StmtTrees, no_stmts, one_stmt, log}
use Rattle.module_tree.specs.Syntax.{assign, bag_set, throw, invalidate, branch}
use Rattle.module_tree.specs.declared.tree.Op.{Op}
use Rattle.module_tree.specs.declared.tree.Op.TheVariants as ops
use Rattle.module_semantics.specs.Token as token
use Rattle.module_semantics.specs.Token.{Token}
use Rattle.module_semantics.specs.Kinds.{within, word_kind, free_names}
use Rattle.module_semantics.specs.NameRules.{Within, outside, in_once, in_accept}
use Rattle.module_semantics.specs.NameRules.{is_param, has_name, accepts}
use Rattle.module_semantics.specs.Resolving.{place_of}
use Rattle.module_semantics.specs.Canon.{op_level, level, nth}

-- in parentheses, where the level is below that of the place
abbrev pub placed_tokens : ℕ → ℕ → List Token → List Token
placed_tokens place l ts = if nat_lt l place then token.punct 2 ∷ (ts ++ (token.punct 3 ∷ [])) else ts

-- one deeper, where parentheses stand
abbrev pub placed_depth : ℕ → ℕ → ℕ → ℕ
placed_depth place l n = if nat_lt l place then suc n else n

abbrev pub op_token : Op → Token
op_token ops.Null = token.punct 17
op_token ops.Add = token.punct 10
op_token ops.Sub = token.punct 11
op_token ops.Mul = token.punct 12

abbrev pub dot_token : Bool → Token
dot_token true = token.punct 16
dot_token false = token.punct 8

-- `.meta.hot.`, which follows `import`, and more
abbrev pub hot_tokens : List Token → List Token
hot_tokens ts =
    token.punct 8 ∷ token.name (codes "meta") ∷ token.punct 8 ∷ token.name (codes "hot") ∷ token.punct 8 ∷ ts

-- an expression, without parentheses of its own, where these are the parameters
abbrev pub expr_tokens : List (List ℕ) → ExprTree → List Token
expr_tokens ps (num n) = token.number n ∷ []
expr_tokens ps (text s) = token.text s ∷ []
expr_tokens ps undefined = token.name (codes "undefined") ∷ []
expr_tokens ps (name n) = token.name n ∷ []
expr_tokens ps (bag k) =
    token.name (codes "import") ∷ hot_tokens (token.name (codes "data") ∷ token.punct 8 ∷ token.name k ∷ [])
expr_tokens ps (member place safe k) = token.name (nth ps place) ∷ dot_token safe ∷ token.name k ∷ []
expr_tokens ps (neg a) = token.punct 11 ∷ placed_tokens 5 (level a) (expr_tokens ps a)
expr_tokens ps (binary op a b) = placed_tokens (op_level op) (level a) (expr_tokens ps a)
    ++ (op_token op ∷ placed_tokens (suc (op_level op)) (level b) (expr_tokens ps b))
expr_tokens ps (choose c a b) = placed_tokens 1 (level c) (expr_tokens ps c)
    ++ (token.punct 13 ∷ (expr_tokens ps a ++ (token.punct 14 ∷ expr_tokens ps b)))

-- how deep the expressions inside an expression are
abbrev pub inner_depth : ExprTree → ℕ
inner_depth (num n) = 0
inner_depth (text s) = 0
inner_depth undefined = 0
inner_depth (name n) = 0
inner_depth (bag k) = 0
inner_depth (member place safe k) = 0
inner_depth (neg a) = placed_depth 5 (level a) (inner_depth a)
inner_depth (binary op a b) = max (placed_depth (op_level op) (level a) (inner_depth a))
    (placed_depth (suc (op_level op)) (level b) (inner_depth b))
inner_depth (choose c a b) =
    max (placed_depth 1 (level c) (inner_depth c)) (max (suc (inner_depth a)) (suc (inner_depth b)))

-- a name that is none of the reserved words
abbrev pub fits_name : List ℕ → Bool
fits_name n = within free_names (word_kind n)

-- a parameter of an accept callback, which its name tells
abbrev pub fits_param : Within → List (List ℕ) → ℕ → Bool
fits_param outside ps i = false
fits_param (in_once qs) ps i = false
fits_param (in_accept qs) ps i =
    fits_name (nth ps i) && has_name (nth ps i) qs && place_of (nth ps i) qs == i

-- an expression that reading can give there
unfoldable pub fits_expr : Within → List (List ℕ) → ExprTree → Bool
fits_expr w ps (num n) = true
fits_expr w ps (text s) = true
fits_expr w ps undefined = true
fits_expr w ps (name n) = fits_name n && not (is_param w n)
fits_expr w ps (bag k) = true
fits_expr w ps (member place safe k) = fits_param w ps place
fits_expr w ps (neg a) = fits_expr w ps a
fits_expr w ps (binary op a b) = fits_expr w ps a && fits_expr w ps b
fits_expr w ps (choose c a b) = fits_expr w ps c && fits_expr w ps a && fits_expr w ps b

-- expressions with a comma before each
abbrev pub comma_tokens : List (List ℕ) → List ExprTree → List Token
comma_tokens ps [] = []
comma_tokens ps (e ∷ es) = token.punct 6 ∷ (expr_tokens ps e ++ comma_tokens ps es)

-- expressions with a comma between each two
abbrev pub exprs_tokens : List (List ℕ) → List ExprTree → List Token
exprs_tokens ps [] = []
exprs_tokens ps (e ∷ es) = expr_tokens ps e ++ comma_tokens ps es

abbrev pub told_tokens : List (List ℕ) → Option ExprTree → List Token
told_tokens ps None = []
told_tokens ps (Some e) = expr_tokens ps e

abbrev pub cond_tokens : List (List ℕ) → CondTree → List Token
cond_tokens ps (param i) = token.name (nth ps i) ∷ []
cond_tokens ps (value e) = expr_tokens ps e

-- what follows the first body of an if, unless the other is empty; it is the tokens of the other's
-- statements
abbrev pub else_tokens : StmtTrees → List Token → List Token
else_tokens no_stmts body = []
else_tokens (one_stmt s r) body =
    token.name (codes "else") ∷ (token.punct 0 ∷ (body ++ (token.punct 1 ∷ [])))

-- statements
abbrev mutual
  pub stmt_tokens : List (List ℕ) → StmtTree → List Token
  stmt_tokens ps (log es) =
      token.name (codes "console") ∷ (token.punct 8 ∷ (token.name (codes "log")
      ∷ (token.punct 2 ∷ (exprs_tokens ps es ++ (token.punct 3 ∷ (token.punct 7 ∷ []))))))
  stmt_tokens ps (assign n e) = token.name n ∷ (token.punct 9 ∷ (expr_tokens ps e ++ (token.punct 7 ∷ [])))
  stmt_tokens ps (bag_set k e) =
      token.name (codes "import") ∷ hot_tokens (token.name (codes "data")
      ∷ (token.punct 8 ∷ (token.name k ∷ (token.punct 9 ∷ (expr_tokens ps e ++ (token.punct 7 ∷ []))))))
  stmt_tokens ps (throw e) =
      token.name (codes "throw") ∷ (token.name (codes "new") ∷ (token.name (codes "Error")
      ∷ (token.punct 2 ∷ (expr_tokens ps e ++ (token.punct 3 ∷ (token.punct 7 ∷ []))))))
  stmt_tokens ps (invalidate e) =
      token.name (codes "import") ∷ hot_tokens (token.name (codes "invalidate")
      ∷ (token.punct 2 ∷ (told_tokens ps e ++ (token.punct 3 ∷ (token.punct 7 ∷ [])))))
  stmt_tokens ps (branch c a b) =
      token.name (codes "if") ∷ (token.punct 2 ∷ (cond_tokens ps c ++ (token.punct 3
      ∷ (token.punct 0 ∷ (stmts_tokens ps a ++ (token.punct 1 ∷ else_tokens b (stmts_tokens ps b)))))))

  pub stmts_tokens : List (List ℕ) → StmtTrees → List Token
  stmts_tokens ps no_stmts = []
  stmts_tokens ps (one_stmt s r) = stmt_tokens ps s ++ stmts_tokens ps r

-- how deep an expression is, and others
abbrev pub expr_deep : ExprTree → ℕ
expr_deep e = suc (inner_depth e)

abbrev pub exprs_deep : List ExprTree → ℕ
exprs_deep [] = 0
exprs_deep (e ∷ es) = max (expr_deep e) (exprs_deep es)

abbrev pub told_deep : Option ExprTree → ℕ
told_deep None = 0
told_deep (Some e) = expr_deep e

abbrev pub cond_deep : CondTree → ℕ
cond_deep (param i) = 1
cond_deep (value e) = expr_deep e

abbrev mutual
  pub stmt_deep : StmtTree → ℕ
  stmt_deep (log es) = exprs_deep es
  stmt_deep (assign n e) = expr_deep e
  stmt_deep (bag_set k e) = expr_deep e
  stmt_deep (throw e) = expr_deep e
  stmt_deep (invalidate e) = told_deep e
  stmt_deep (branch c a b) = max (cond_deep c) (max (suc (stmts_deep a)) (suc (stmts_deep b)))

  pub stmts_deep : StmtTrees → ℕ
  stmts_deep no_stmts = 0
  stmts_deep (one_stmt s r) = max (stmt_deep s) (stmts_deep r)

abbrev pub fits_exprs : Within → List (List ℕ) → List ExprTree → Bool
fits_exprs w ps [] = true
fits_exprs w ps (e ∷ es) = fits_expr w ps e && fits_exprs w ps es

abbrev pub fits_told : Within → List (List ℕ) → Option ExprTree → Bool
fits_told w ps None = true
fits_told w ps (Some e) = fits_expr w ps e

abbrev pub fits_cond : Within → List (List ℕ) → CondTree → Bool
fits_cond w ps (param i) = fits_param w ps i
fits_cond w ps (value e) = fits_expr w ps e

-- a statement that reading can give there, where `let` declares these names
abbrev mutual
  pub fits_stmt : List (List ℕ) → Within → List (List ℕ) → StmtTree → Bool
  fits_stmt lets w ps (log es) = fits_exprs w ps es
  fits_stmt lets w ps (assign n e) = fits_name n && not (is_param w n) && has_name n lets && fits_expr w ps e
  fits_stmt lets w ps (bag_set k e) = fits_expr w ps e
  fits_stmt lets w ps (throw e) = fits_expr w ps e
  fits_stmt lets w ps (invalidate e) = accepts w && fits_told w ps e
  fits_stmt lets w ps (branch c a b) = fits_cond w ps c && fits_stmts lets w ps a && fits_stmts lets w ps b

  pub fits_stmts : List (List ℕ) → Within → List (List ℕ) → StmtTrees → Bool
  fits_stmts lets w ps no_stmts = true
  fits_stmts lets w ps (one_stmt s r) = fits_stmt lets w ps s && fits_stmts lets w ps r
