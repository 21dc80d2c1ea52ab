-- The plain data that a tree of the code stands for.
use Rattle.std.specs.Prelude.{List, [], ◌∷◌, map}
use Rattle.std.specs.Option.{option_map}
use Rattle.module_tree.specs.Syntax as plain
use Rattle.module_tree.specs.Syntax.{ExprTree, CondTree, StmtTree, StmtTrees, HandlerTree}
use Rattle.module_tree.specs.Syntax.{OnceTree, ItemTree, ModuleTree}
use Rattle.module_tree.specs.declared.tree.Expr.{Expr}
use Rattle.module_tree.specs.declared.tree.Expr.TheOpen.{Expr-F}
use Rattle.module_tree.specs.declared.tree.Expr.TheFolds.{fold-Expr}
use Rattle.module_tree.specs.declared.tree.Cond.{Cond}
use Rattle.module_tree.specs.declared.tree.Cond.TheVariants as conds
use Rattle.module_tree.specs.declared.tree.Stmt.{Stmt}
use Rattle.module_tree.specs.declared.tree.Stmt.TheOpen.{Stmt-F}
use Rattle.module_tree.specs.declared.tree.Stmt.TheFolds.{fold-Stmt}
use Rattle.module_tree.specs.declared.tree.HandlerCode.{HandlerCode}
use Rattle.module_tree.specs.declared.tree.Once.{Once}
use Rattle.module_tree.specs.declared.tree.Once.TheVariants as onces
use Rattle.module_tree.specs.declared.tree.Item.{Item}
use Rattle.module_tree.specs.declared.tree.Item.TheVariants as items
use Rattle.module_tree.specs.declared.tree.Module.{Module}

abbrev pub expr_step : Expr-F ExprTree → ExprTree
expr_step (Expr-F.Num n) = plain.num n
expr_step (Expr-F.Text s) = plain.text s
expr_step Expr-F.Undefined = plain.undefined
expr_step (Expr-F.Name s) = plain.name s
expr_step (Expr-F.Bag s) = plain.bag s
expr_step (Expr-F.Member param safe name) = plain.member param safe name
expr_step (Expr-F.Neg a) = plain.neg a.value
expr_step (Expr-F.Binary op a b) = plain.binary op a.value b.value
expr_step (Expr-F.Choose a b c) = plain.choose a.value b.value c.value

-- an expression
abbrev pub expr_of : Expr → ExprTree
expr_of = fold-Expr ExprTree expr_step

abbrev pub cond_of : Cond → CondTree
cond_of (conds.Param place) = plain.param place
cond_of (conds.Value e) = plain.value (expr_of e)

abbrev pub stmts : List StmtTree → StmtTrees
stmts [] = plain.no_stmts
stmts (s ∷ rest) = plain.one_stmt s (stmts rest)

abbrev pub stmt_step : Stmt-F StmtTree → StmtTree
stmt_step (Stmt-F.Log args) = plain.log (map expr_of args.items)
stmt_step (Stmt-F.Assign n e) = plain.assign n (expr_of e)
stmt_step (Stmt-F.BagSet k e) = plain.bag_set k (expr_of e)
stmt_step (Stmt-F.Throw e) = plain.throw (expr_of e)
stmt_step (Stmt-F.Invalidate e) = plain.invalidate (option_map expr_of e)
stmt_step (Stmt-F.If c first second) = plain.branch (cond_of c) (stmts first.items) (stmts second.items)

-- a statement
abbrev pub stmt_of : Stmt → StmtTree
stmt_of = fold-Stmt StmtTree stmt_step

-- statements, in order
abbrev pub stmts_of : List Stmt → StmtTrees
stmts_of ss = stmts (map stmt_of ss)

-- a callback
abbrev pub handler_of : HandlerCode → HandlerTree
handler_of h = record { params = h.params; body = stmts_of h.body.items }

abbrev pub once_of : Once → OnceTree
once_of (onces.Code h) = plain.code (handler_of h)
once_of (onces.Host label) = plain.host label

abbrev pub item_of : Item → ItemTree
item_of (items.Import spec names) = plain.import spec names
item_of (items.Declare exported mutable name value) = plain.declare exported mutable name (expr_of value)
item_of (items.Do s) = plain.act (stmt_of s)
item_of (items.Own once) = plain.own (option_map once_of once)
item_of (items.Deps list specs call) = plain.deps list specs (option_map handler_of call)
item_of (items.Dispose once) = plain.dispose (once_of once)
item_of (items.Prune once) = plain.prune (once_of once)
item_of items.Decline = plain.decline

-- a whole module
abbrev pub module_of : Module → ModuleTree
module_of m = map item_of m.items.items
