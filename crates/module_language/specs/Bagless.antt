-- Which module texts use their data in handlers alone.
use Rattle.std.specs.Prelude.{Bool, true, false, ◌&&◌, Option, Some, None}
use Rattle.std.specs.List.{list_all}
use Rattle.module_tree.specs.Syntax as tree
use Rattle.module_tree.specs.Syntax.{ExprTree, CondTree, StmtTree, StmtTrees, ItemTree, ModuleTree}

-- an expression that reads no key of the bag
abbrev pub is_bagless : ExprTree → Bool
is_bagless (tree.num n) = true
is_bagless (tree.text t) = true
is_bagless tree.undefined = true
is_bagless (tree.name n) = true
is_bagless (tree.bag k) = false
is_bagless (tree.member param safe n) = true
is_bagless (tree.neg a) = is_bagless a
is_bagless (tree.binary op a b) = is_bagless a && is_bagless b
is_bagless (tree.choose c a b) = is_bagless c && (is_bagless a && is_bagless b)

-- an expression that may be left out
abbrev pub is_bagless_option : Option ExprTree → Bool
is_bagless_option None = true
is_bagless_option (Some e) = is_bagless e

-- a condition
abbrev pub is_bagless_condition : CondTree → Bool
is_bagless_condition (tree.param place) = true
is_bagless_condition (tree.value e) = is_bagless e

-- a statement that neither reads nor writes a key of the bag, and statements
abbrev mutual
  pub is_bagless_statement : StmtTree → Bool
  is_bagless_statement (tree.log es) = list_all is_bagless es
  is_bagless_statement (tree.assign n e) = is_bagless e
  is_bagless_statement (tree.bag_set k e) = false
  is_bagless_statement (tree.throw e) = is_bagless e
  is_bagless_statement (tree.invalidate e) = is_bagless_option e
  is_bagless_statement (tree.branch cond first second) =
      is_bagless_condition cond && (are_bagless first && are_bagless second)

  pub are_bagless : StmtTrees → Bool
  are_bagless tree.no_stmts = true
  are_bagless (tree.one_stmt a rest) = is_bagless_statement a && are_bagless rest

-- an item; what a handler does isn't asked
abbrev pub is_bagless_item : ItemTree → Bool
is_bagless_item (tree.import spec names) = true
is_bagless_item (tree.declare exported mutable n e) = is_bagless e
is_bagless_item (tree.act a) = is_bagless_statement a
is_bagless_item (tree.own what) = true
is_bagless_item (tree.deps list specs code) = true
is_bagless_item (tree.dispose what) = true
is_bagless_item (tree.prune what) = true
is_bagless_item tree.decline = true

-- a module that uses `data` in handlers alone
abbrev pub is_bagless_module : ModuleTree → Bool
is_bagless_module m = list_all is_bagless_item m
