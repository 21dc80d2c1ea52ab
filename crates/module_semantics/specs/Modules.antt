-- What the items of a module do, and what its evaluation gives.
use Rattle.std.specs.Prelude.{ℕ, List, [], ◌∷◌, ◌++◌, flat_map, Option, Some, None}
use Rattle.module_tree.specs.Syntax as tree
use Rattle.module_tree.specs.Syntax.{ExprTree, StmtTree, HandlerTree, OnceTree, ItemTree, ModuleTree}
use Rattle.hmr_types.specs.declared.value.Value.{Value}
use Rattle.hmr_types.specs.declared.value.Slot.{Slot}
use Rattle.hmr_types.specs.declared.value.Slot.TheVariants.{Unset, Val}
use Rattle.hmr_types.specs.declared.value.EvalFault.{EvalFault}
use Rattle.hmr_types.specs.declared.words.HandlerKind.{HandlerKind}
use Rattle.hmr_types.specs.declared.words.HandlerKind.TheVariants.{Dispose, Prune, Own, Dep}
use Rattle.module_semantics.specs.Entries.{with_entry}
use Rattle.module_semantics.specs.Evaluation.{value_of}
use Rattle.module_semantics.specs.Bodies.{Registration, State, Context, Progress}
use Rattle.module_semantics.specs.Bodies.{next, with_result, scope_of}
use Rattle.module_semantics.specs.Bodies.{run, opening}

-- a declaration gives its name the value
abbrev pub declare : List ℕ → State → Value → Progress
declare n s v = (record s { vars = with_entry n (Val v) s.vars }, None)

-- one more registered handler
abbrev pub register : HandlerKind → List (List ℕ) → OnceTree → State → Progress
register kind deps what s = (
  record s { registered = s.registered ++ record { kind = kind; deps = deps; what = what } ∷ [] },
  None,
)

-- `accept()` registers nothing
abbrev pub register_own : Option OnceTree → State → Progress
register_own None s = (s, None)
register_own (Some what) s = register Own [] what s

-- neither does an `accept` of dependencies without a callback
abbrev pub register_deps : List (List ℕ) → Option HandlerTree → State → Progress
register_deps specs None s = (s, None)
register_deps specs (Some code) s = register Dep specs (tree.code code) s

-- one item; an import, a bare accept and a decline do nothing
abbrev pub item_run : Context → ItemTree → State → Progress
item_run c (tree.import spec names) s = (s, None)
item_run c (tree.declare exported mutable n e) s = with_result s (value_of (scope_of c s) e) (declare n s)
item_run c (tree.act a) s = run c a s
item_run c (tree.own what) s = register_own what s
item_run c (tree.deps list specs code) s = register_deps specs code s
item_run c (tree.dispose what) s = register Dispose [] what s
item_run c (tree.prune what) s = register Prune [] what s
item_run c tree.decline s = (s, None)

-- the items in order, up to the first fault
abbrev pub items_run : Context → ModuleTree → State → Progress
items_run c [] s = (s, None)
items_run c (i ∷ is) s = next (item_run c i s) (λ t. items_run c is t)

-- the names that an item declares
abbrev pub declared_by : ItemTree → List (List ℕ)
declared_by (tree.import spec names) = []
declared_by (tree.declare exported mutable n e) = n ∷ []
declared_by (tree.act a) = []
declared_by (tree.own what) = []
declared_by (tree.deps list specs code) = []
declared_by (tree.dispose what) = []
declared_by (tree.prune what) = []
declared_by tree.decline = []

-- each of the names, Unset
abbrev pub unset : List (List ℕ) → List (List ℕ × Slot)
unset [] = []
unset (n ∷ ns) = (n, Unset) ∷ unset ns

-- the names that a module declares, in order
abbrev pub declared_names : ModuleTree → List (List ℕ)
declared_names m = flat_map declared_by m

-- what the evaluation of a module gives: its variables, with all else that was made before a fault
pub record Evaluated : Type 0 where
  pub fault : Option EvalFault
  pub vars : List (List ℕ × Slot)
  pub lines : List (List ℕ)
  pub registered : List Registration
  pub bag : List (List ℕ × Value)

-- what stands after a module's evaluation
abbrev pub evaluated_of : Progress → Evaluated
evaluated_of (s, fault) = record {
  fault = fault;
  vars = s.vars;
  lines = s.lines;
  registered = s.registered;
  bag = s.bag;
}

-- a module, where the locals of its imports hold this, with this bag
abbrev pub module_run : ModuleTree → List (List ℕ × Slot) → List (List ℕ × Value) → Evaluated
module_run m imports bag = evaluated_of
    (items_run (record { imports = imports; mods = [] }) m (opening (unset (declared_names m)) bag))
