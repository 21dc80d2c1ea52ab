-- The tree of a module, of what its text says by the grammar. What a name means hangs on where it stands: in
-- a `dispose` or `prune` callback the keys of the parameter are those of the bag, and the parameter is
-- forgotten; in an accept callback a parameter is told by its place. An event is listened to as a dependency
-- on its module.
use Rattle.std.specs.Prelude.{ℕ, suc, List, [], ◌∷◌, Bool, false, if◌then◌else◌, Some, map}
use Rattle.std.specs.Option.{option_map}
use Rattle.std.specs.Str.{bytes_eq}
use Rattle.hmr_types.specs.Event.{event_module}
use Rattle.module_tree.specs.Syntax as tree
use Rattle.module_tree.specs.Syntax.{ExprTree, CondTree, StmtTree, StmtTrees}
use Rattle.module_tree.specs.Syntax.{HandlerTree, OnceTree, ItemTree}
use Rattle.module_tree.specs.Syntax.{ModuleTree}
use Rattle.module_tree.specs.declared.tree.ImportName.{ImportName}
use Rattle.module_semantics.specs.Kinds.{NameAt}
use Rattle.module_semantics.specs.Raw as raw
use Rattle.module_semantics.specs.Raw.{RawExpr, RawStmt, RawStmts, RawHandler, RawOnce, RawImport, RawItem}
use Rattle.module_semantics.specs.NameRules.{Within, outside, in_once, in_accept, has_name, names_of}

-- the place of a parameter, from 0
unfoldable pub place_of : List ℕ → List (List ℕ) → ℕ
place_of n [] = 0
place_of n (m ∷ ms) = if bytes_eq n m then 0 else suc (place_of n ms)

-- a key of a parameter
abbrev pub member_tree : Within → NameAt → Bool → List ℕ → ExprTree
member_tree outside n safe k = tree.member 0 safe k
member_tree (in_once ps) n safe k = tree.bag k
member_tree (in_accept ps) n safe k = tree.member (place_of n.name ps) safe k

-- an expression
abbrev pub expr_tree : Within → RawExpr → ExprTree
expr_tree w (raw.num n) = tree.num n
expr_tree w (raw.text s) = tree.text s
expr_tree w raw.undefined = tree.undefined
expr_tree w (raw.name n) = tree.name n.name
expr_tree w (raw.bag k) = tree.bag k
expr_tree w (raw.member n safe k) = member_tree w n safe k
expr_tree w (raw.neg a) = tree.neg (expr_tree w a)
expr_tree w (raw.binary op a b) = tree.binary op (expr_tree w a) (expr_tree w b)
expr_tree w (raw.choose c a b) = tree.choose (expr_tree w c) (expr_tree w a) (expr_tree w b)

-- a name alone, as the whole condition of an `if`
abbrev pub name_cond : Within → List ℕ → CondTree
name_cond outside n = tree.value (tree.name n)
name_cond (in_once ps) n = tree.value (tree.name n)
name_cond (in_accept ps) n = if has_name n ps then tree.param (place_of n ps) else tree.value (tree.name n)

-- the condition of an if
abbrev pub cond_tree : Within → RawExpr → CondTree
cond_tree w (raw.name n) = name_cond w n.name
cond_tree w (raw.num n) = tree.value (tree.num n)
cond_tree w (raw.text s) = tree.value (tree.text s)
cond_tree w raw.undefined = tree.value tree.undefined
cond_tree w (raw.bag k) = tree.value (tree.bag k)
cond_tree w (raw.member n safe k) = tree.value (member_tree w n safe k)
cond_tree w (raw.neg a) = tree.value (tree.neg (expr_tree w a))
cond_tree w (raw.binary op a b) = tree.value (tree.binary op (expr_tree w a) (expr_tree w b))
cond_tree w (raw.choose c a b) = tree.value (tree.choose (expr_tree w c) (expr_tree w a) (expr_tree w b))

abbrev mutual
  pub stmt_tree : Within → RawStmt → StmtTree
  stmt_tree w (raw.log es) = tree.log (map (expr_tree w) es)
  stmt_tree w (raw.assign n e) = tree.assign n.name (expr_tree w e)
  stmt_tree w (raw.set n k e) = tree.bag_set k (expr_tree w e)
  stmt_tree w (raw.set_bag k e) = tree.bag_set k (expr_tree w e)
  stmt_tree w (raw.throw e) = tree.throw (expr_tree w e)
  stmt_tree w (raw.invalidate at e) = tree.invalidate (option_map (expr_tree w) e)
  stmt_tree w (raw.branch c a b) = tree.branch (cond_tree w c) (stmts_tree w a) (stmts_tree w b)

  pub stmts_tree : Within → RawStmts → StmtTrees
  stmts_tree w raw.no_stmts = tree.no_stmts
  stmts_tree w (raw.one_stmt s r) = tree.one_stmt (stmt_tree w s) (stmts_tree w r)

-- an accept callback keeps its parameters
abbrev pub handler_tree : RawHandler → HandlerTree
handler_tree h = record {
  params = names_of h.params;
  body = stmts_tree (in_accept (names_of h.params)) h.body;
}

-- a `dispose` or `prune` callback forgets its parameter
abbrev pub once_handler_tree : RawHandler → HandlerTree
once_handler_tree h = record { params = []; body = stmts_tree (in_once (names_of h.params)) h.body }

-- what `accept` of the module itself takes
abbrev pub accept_tree : RawOnce → OnceTree
accept_tree (raw.code h) = tree.code (handler_tree h)
accept_tree (raw.host l) = tree.host l

-- what `dispose` and `prune` take
abbrev pub once_tree : RawOnce → OnceTree
once_tree (raw.code h) = tree.code (once_handler_tree h)
once_tree (raw.host l) = tree.host l

-- an imported name
abbrev pub import_name : RawImport → ImportName
import_name i = record { exported = i.exported; local = i.local.name }

-- an item
abbrev pub item_tree : RawItem → ItemTree
item_tree (raw.import s names) = tree.import s (map import_name names)
item_tree (raw.declare exported mutable n e) = tree.declare exported mutable n.name (expr_tree outside e)
item_tree (raw.act s) = tree.act (stmt_tree outside s)
item_tree (raw.own o) = tree.own (option_map accept_tree o)
item_tree (raw.deps list specs h) = tree.deps list specs (option_map handler_tree h)
item_tree (raw.on n h) = tree.deps false (event_module n.name ∷ []) (Some (handler_tree h))
item_tree (raw.dispose o) = tree.dispose (once_tree o)
item_tree (raw.prune o) = tree.prune (once_tree o)
item_tree raw.decline = tree.decline

-- the tree of a module
abbrev pub module_tree : List RawItem → ModuleTree
module_tree items = map item_tree items
