-- Small trees, to be evaluated.
use Rattle.std.specs.Prelude.{false, ◌+◌, ◌/◌, ◌%◌, ℕ, zero, suc, pos, true, List, [], ◌∷◌, ◌++◌, replicate}
use Rattle.std.specs.Prelude.{codes, Some, None, Result}
use Rattle.module_tree.specs.Syntax as tree
use Rattle.module_tree.specs.Syntax.{ExprTree, StmtTree, StmtTrees, ItemTree, ModuleTree, HandlerTree}
use Rattle.module_tree.specs.Tree.{stmts}
use Rattle.hmr_types.specs.declared.value.Value.{Value}
use Rattle.hmr_types.specs.declared.value.Value.TheVariants.{Num}
use Rattle.hmr_types.specs.declared.value.Slot.{Slot}
use Rattle.hmr_types.specs.declared.value.Slot.TheVariants.{Unset, Val}
use Rattle.hmr_types.specs.declared.words.HandlerKind.TheVariants.{Dispose}
use Rattle.hmr_types.specs.declared.value.EvalFault.{EvalFault}
use Rattle.module_semantics.specs.declared.evaluation.ModParam.{ModParam}
use Rattle.module_semantics.specs.declared.evaluation.ModParam.TheVariants as params
use Rattle.module_semantics.specs.Scope.{Scope}
use Rattle.module_semantics.specs.Bodies.{Ran, body_run}
use Rattle.module_semantics.specs.Evaluation.{value_of}
use Rattle.module_semantics.specs.Modules.{Evaluated, module_run}

-- the value of an expression, where no name and no key stands for anything
abbrev pub alone : ExprTree → Result Value EvalFault
alone e = value_of (record { vars = []; mods = []; bag = [] }) e

-- the largest number
abbrev pub largest : ExprTree
largest = tree.num 9007199254740991

-- a body of statements, where no name stands for anything and the bag is empty
abbrev pub body_alone : List StmtTree → List ModParam → Ran
body_alone ss mods = body_run (record { params = []; body = stmts ss }) [] mods []

-- a text of so many letters
abbrev pub letters : ℕ → ExprTree
letters n = tree.text (replicate n 97)

-- the item `export let NAME = e`
abbrev pub export_let : List ℕ → ExprTree → ItemTree
export_let name e = tree.declare true true name e

-- a module, where it imports nothing and its bag is empty
abbrev pub module_alone : ModuleTree → Evaluated
module_alone m = module_run m [] []

-- a callback without statements
abbrev pub nothing : HandlerTree
nothing = record { params = []; body = tree.no_stmts }

-- a bag of so many keys
abbrev pub keys : ℕ → List (List ℕ × Value)
keys zero = []
keys (suc n) = keys n ++ (n ∷ [], Num (pos n)) ∷ []

-- one module is given, with these exports
abbrev pub with_module : List (List ℕ × Slot) → Scope
with_module exports = record { vars = []; mods = params.Mod exports ∷ []; bag = [] }

-- a line, a key and a message
abbrev pub before : StmtTree
before = tree.branch (tree.value (tree.num 1)) (stmts (tree.log (tree.text (codes "before") ∷ [])
    ∷ tree.bag_set (codes "k") (tree.num 2) ∷ tree.invalidate None ∷ [])) tree.no_stmts

-- a line that a fault before it leaves out
abbrev pub after : StmtTree
after = tree.log (tree.text (codes "after") ∷ [])

-- what `before` leaves, ended by a fault
abbrev pub stopped : EvalFault → Ran
stopped fault = record {
  fault = Some fault;
  lines = codes "before" ∷ [];
  changes = [];
  invalidations = [] ∷ [];
  bag = (codes "k", Num (pos 2)) ∷ [];
}

-- what `let a = 1`, `before` and a registration leave, ended by a fault
abbrev pub module_stopped : EvalFault → Evaluated
module_stopped fault = record {
  fault = Some fault;
  vars = (codes "a", Val (Num (pos 1))) ∷ (codes "b", Unset) ∷ [];
  lines = codes "before" ∷ [];
  registered = record { kind = Dispose; deps = []; what = tree.code nothing } ∷ [];
  bag = (codes "k", Num (pos 2)) ∷ [];
}

-- a module that such a fault ends: `let a = 1`, `before`, a registration, the item, `let b = 2`, a
-- registration
abbrev pub module_with : ItemTree → ModuleTree
module_with i =
    export_let (codes "a") (tree.num 1) ∷ tree.act before ∷ tree.dispose (tree.code nothing) ∷ i
    ∷ export_let (codes "b") (tree.num 2) ∷ tree.prune (tree.code nothing) ∷ []

-- an import without names
abbrev pub import : List ℕ → ItemTree
import spec = tree.import spec []

-- an accept of one dependency, without a callback
abbrev pub accept : List ℕ → ItemTree
accept spec = tree.deps false (spec ∷ []) None

-- imports of so many different modules
abbrev pub imports : ℕ → ModuleTree
imports zero = []
imports (suc n) = import (47 ∷ (97 + n / 16) ∷ (97 + n % 16) ∷ []) ∷ imports n
