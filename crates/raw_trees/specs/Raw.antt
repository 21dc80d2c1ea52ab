-- The plain data that the grammar's values stand for.
use Rattle.std.specs.Prelude.{List, map}
use Rattle.std.specs.Option.{option_map}
use Rattle.module_tree.specs.declared.tree.Op.{Op}
use Rattle.module_semantics.specs.Kinds as names
use Rattle.module_semantics.specs.Raw as plain
use Rattle.module_semantics.specs.Raw.{stmts_of}
use Rattle.module_semantics.specs.Reading.{grouped}
use Rattle.raw_trees.specs.declared.name_at.NameAt.{NameAt}
use Rattle.raw_trees.specs.declared.raw_expr.RawExpr.{RawExpr}
use Rattle.raw_trees.specs.declared.raw_expr.RawExpr.TheOpen.{RawExpr-F}
use Rattle.raw_trees.specs.declared.raw_expr.RawExpr.TheFolds.{fold-RawExpr}
use Rattle.raw_trees.specs.declared.raw_stmt.RawStmt.{RawStmt}
use Rattle.raw_trees.specs.declared.raw_stmt.RawStmt.TheOpen.{RawStmt-F}
use Rattle.raw_trees.specs.declared.raw_stmt.RawStmt.TheFolds.{fold-RawStmt}
use Rattle.raw_trees.specs.declared.raw_stmt.RawHandler.{RawHandler}
use Rattle.raw_trees.specs.declared.raw_stmt.RawOnce.{RawOnce}
use Rattle.raw_trees.specs.declared.raw_stmt.RawOnce.TheVariants as onces
use Rattle.raw_trees.specs.declared.raw_item.RawImport.{RawImport}
use Rattle.raw_trees.specs.declared.raw_item.RawItem.{RawItem}
use Rattle.raw_trees.specs.declared.raw_item.RawItem.TheVariants as items

-- a name where it stands
abbrev pub name_at_of : NameAt → names.NameAt
name_at_of n = record { name = n.name; at = n.at }

abbrev pub expr_step : RawExpr-F plain.RawExpr → plain.RawExpr
expr_step (RawExpr-F.Num n) = plain.num n
expr_step (RawExpr-F.Text s) = plain.text s
expr_step RawExpr-F.Undefined = plain.undefined
expr_step (RawExpr-F.Name n) = plain.name (name_at_of n)
expr_step (RawExpr-F.Bag k) = plain.bag k
expr_step (RawExpr-F.Member base safe key) = plain.member (name_at_of base) safe key
expr_step (RawExpr-F.Neg a) = plain.neg a.value
expr_step (RawExpr-F.Row first rest) = grouped first.value rest.items
expr_step (RawExpr-F.Choose a b c) = plain.choose a.value b.value c.value

-- an expression
abbrev pub raw_expr_of : RawExpr → plain.RawExpr
raw_expr_of = fold-RawExpr plain.RawExpr expr_step

-- an operator with the operand at its right
abbrev pub operation_of : Op × RawExpr → Op × plain.RawExpr
operation_of b = (b.0, raw_expr_of b.1)

abbrev pub stmt_step : RawStmt-F plain.RawStmt → plain.RawStmt
stmt_step (RawStmt-F.Log es) = plain.log (map raw_expr_of es.items)
stmt_step (RawStmt-F.Assign n e) = plain.assign (name_at_of n) (raw_expr_of e)
stmt_step (RawStmt-F.Set n k e) = plain.set (name_at_of n) k (raw_expr_of e)
stmt_step (RawStmt-F.SetBag k e) = plain.set_bag k (raw_expr_of e)
stmt_step (RawStmt-F.Throw e) = plain.throw (raw_expr_of e)
stmt_step (RawStmt-F.Invalidate at e) = plain.invalidate at (option_map raw_expr_of e)
stmt_step (RawStmt-F.Branch c first second) =
    plain.branch (raw_expr_of c) (stmts_of first.items) (stmts_of second.items)

-- a statement
abbrev pub raw_stmt_of : RawStmt → plain.RawStmt
raw_stmt_of = fold-RawStmt plain.RawStmt stmt_step

-- statements, in order
abbrev pub raw_stmts_of : List RawStmt → plain.RawStmts
raw_stmts_of ss = stmts_of (map raw_stmt_of ss)

-- a callback
abbrev pub raw_handler_of : RawHandler → plain.RawHandler
raw_handler_of h = record { params = map name_at_of h.params.items; body = raw_stmts_of h.body.items }

abbrev pub raw_once_of : RawOnce → plain.RawOnce
raw_once_of (onces.Code h) = plain.code (raw_handler_of h)
raw_once_of (onces.Host label) = plain.host label

-- an imported name
abbrev pub raw_import_of : RawImport → plain.RawImport
raw_import_of i = record { exported = i.exported; local = name_at_of i.local }

abbrev pub raw_item_of : RawItem → plain.RawItem
raw_item_of (items.Import spec names) = plain.import spec (map raw_import_of names.items)
raw_item_of (items.Declare exported mutable name value) =
    plain.declare exported mutable (name_at_of name) (raw_expr_of value)
raw_item_of (items.Act s) = plain.act (raw_stmt_of s)
raw_item_of (items.Own once) = plain.own (option_map raw_once_of once)
raw_item_of (items.Deps list specs call) = plain.deps list specs.items (option_map raw_handler_of call)
raw_item_of (items.On event call) = plain.on (name_at_of event) (raw_handler_of call)
raw_item_of (items.Dispose once) = plain.dispose (raw_once_of once)
raw_item_of (items.Prune once) = plain.prune (raw_once_of once)
raw_item_of items.Decline = plain.decline

-- items, in order
abbrev pub raw_items_of : List RawItem → List plain.RawItem
raw_items_of is = map raw_item_of is
