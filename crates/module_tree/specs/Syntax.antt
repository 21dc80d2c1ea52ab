-- The tree of a module text as plain data: what it says, and not where it lies in memory.
use Rattle.std.specs.Prelude.{ℕ, List, Bool, Option}
use Rattle.module_tree.specs.declared.tree.Op.{Op}
use Rattle.module_tree.specs.declared.tree.ImportName.{ImportName}

pub data ExprTree : Type 0 where
  num : ℕ → ExprTree
  text : List ℕ → ExprTree
  undefined : ExprTree
  name : List ℕ → ExprTree
  bag : List ℕ → ExprTree
  member : ℕ → Bool → List ℕ → ExprTree
  neg : ExprTree → ExprTree
  binary : Op → ExprTree → ExprTree → ExprTree
  choose : ExprTree → ExprTree → ExprTree → ExprTree

pub data CondTree : Type 0 where
  param : ℕ → CondTree
  value : ExprTree → CondTree

mutual
  pub data StmtTree : Type 0 where
    log : List ExprTree → StmtTree
    assign : List ℕ → ExprTree → StmtTree
    bag_set : List ℕ → ExprTree → StmtTree
    throw : ExprTree → StmtTree
    invalidate : Option ExprTree → StmtTree
    branch : CondTree → StmtTrees → StmtTrees → StmtTree

  pub data StmtTrees : Type 0 where
    no_stmts : StmtTrees
    one_stmt : StmtTree → StmtTrees → StmtTrees

pub record HandlerTree : Type 0 where
  pub params : List (List ℕ)
  pub body : StmtTrees

pub data OnceTree : Type 0 where
  code : HandlerTree → OnceTree
  host : List ℕ → OnceTree

pub data ItemTree : Type 0 where
  import : List ℕ → List ImportName → ItemTree
  declare : Bool → Bool → List ℕ → ExprTree → ItemTree
  act : StmtTree → ItemTree
  own : Option OnceTree → ItemTree
  deps : Bool → List (List ℕ) → Option HandlerTree → ItemTree
  dispose : OnceTree → ItemTree
  prune : OnceTree → ItemTree
  decline : ItemTree

-- a whole module: its items in order
abbrev pub ModuleTree : Type 0
ModuleTree = List ItemTree
