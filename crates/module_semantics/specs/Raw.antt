-- What the grammar tells of a module text: its statements with the places of its names. Guards, parentheses,
-- spaces, comments, the quotes used and the form of `throw` are forgotten; what a name means isn't asked
-- yet.
use Rattle.std.specs.Prelude.{ℕ, List, [], ◌∷◌, Bool, Option}
use Rattle.module_tree.specs.declared.tree.Op.{Op}
use Rattle.module_semantics.specs.Kinds.{NameAt}

-- an expression; a member has the name before the dot, whether the dot is safe, and the key
pub data RawExpr : Type 0 where
  num : ℕ → RawExpr
  text : List ℕ → RawExpr
  undefined : RawExpr
  name : NameAt → RawExpr
  bag : List ℕ → RawExpr
  member : NameAt → Bool → List ℕ → RawExpr
  neg : RawExpr → RawExpr
  binary : Op → RawExpr → RawExpr → RawExpr
  choose : RawExpr → RawExpr → RawExpr → RawExpr

-- assign: `name = value`; set: `name.key = value`; set_bag: the same of the bag; invalidate: the place of
-- its `import`
mutual
  pub data RawStmt : Type 0 where
    log : List RawExpr → RawStmt
    assign : NameAt → RawExpr → RawStmt
    set : NameAt → List ℕ → RawExpr → RawStmt
    set_bag : List ℕ → RawExpr → RawStmt
    throw : RawExpr → RawStmt
    invalidate : ℕ → Option RawExpr → RawStmt
    branch : RawExpr → RawStmts → RawStmts → RawStmt

  pub data RawStmts : Type 0 where
    no_stmts : RawStmts
    one_stmt : RawStmt → RawStmts → RawStmts

-- a callback
pub record RawHandler : Type 0 where
  pub params : List NameAt
  pub body : RawStmts

-- a callback, or the label of a host closure
pub data RawOnce : Type 0 where
  code : RawHandler → RawOnce
  host : List ℕ → RawOnce

-- an imported name, and its local name
pub record RawImport : Type 0 where
  pub exported : List ℕ
  pub local : NameAt

-- an item; the items of a guard stand in its place. on: a callback of the event of this name
pub data RawItem : Type 0 where
  import : List ℕ → List RawImport → RawItem
  declare : Bool → Bool → NameAt → RawExpr → RawItem
  act : RawStmt → RawItem
  own : Option RawOnce → RawItem
  deps : Bool → List (List ℕ) → Option RawHandler → RawItem
  on : NameAt → RawHandler → RawItem
  dispose : RawOnce → RawItem
  prune : RawOnce → RawItem
  decline : RawItem

-- statements, as a list of their own
abbrev pub stmts_of : List RawStmt → RawStmts
stmts_of [] = no_stmts
stmts_of (s ∷ ss) = one_stmt s (stmts_of ss)
