-- What statements do, and what a handler's body leaves.
use Rattle.std.specs.Prelude.{ℕ, pos, Bool, true, false, if◌then◌else◌, List, [], ◌∷◌, ◌++◌, codes, decimal}
use Rattle.std.specs.Prelude.{Option, Some, None, Result, Ok, Err, slice_get}
use Rattle.module_tree.specs.Syntax as tree
use Rattle.module_tree.specs.Syntax.{ExprTree, CondTree, StmtTree, StmtTrees, HandlerTree, OnceTree}
use Rattle.module_tree.specs.Tree.{once_of}
use Rattle.hmr_types.specs.declared.value.Value.{Value}
use Rattle.hmr_types.specs.declared.value.Value.TheVariants.{Num}
use Rattle.hmr_types.specs.declared.value.Slot.{Slot}
use Rattle.hmr_types.specs.declared.value.Slot.TheVariants.{Unset, Val}
use Rattle.hmr_types.specs.declared.value.EvalFault.{EvalFault}
use Rattle.hmr_types.specs.declared.value.EvalFault.TheVariants.{Uninitialised, Thrown, BagFull}
use Rattle.hmr_types.specs.declared.words.HandlerKind.{HandlerKind}
use Rattle.module_semantics.specs.declared.evaluation.ModParam.{ModParam}
use Rattle.module_semantics.specs.declared.evaluation.ModParam.TheVariants as params
use Rattle.module_semantics.specs.declared.evaluation.Registered.{Registered}
use Rattle.hmr_types.specs.Results.{◌>>=◌}
use Rattle.module_semantics.specs.Values.{written, truth}
use Rattle.module_semantics.specs.Scope.{Scope}
use Rattle.module_semantics.specs.Entries.{entry_at, with_entry, has_room}
use Rattle.module_semantics.specs.Evaluation.{value_of, values_of}

-- a handler that was registered, as plain data
pub record Registration : Type 0 where
  pub kind : HandlerKind
  pub deps : List (List ℕ)
  pub what : OnceTree

-- what a registered handler stands for
abbrev pub registration_of : Registered → Registration
registration_of r = record { kind = r.kind; deps = r.deps; what = once_of r.what }

-- what an evaluation has made so far
pub record State : Type 0 where
  pub vars : List (List ℕ × Slot)
  pub bag : List (List ℕ × Value)
  pub lines : List (List ℕ)
  pub changes : List (List ℕ × Value)
  pub invalidations : List (List ℕ)
  pub registered : List Registration

-- what stays as it is while statements run: the imports, and the modules given as parameters
pub record Context : Type 0 where
  pub imports : List (List ℕ × Slot)
  pub mods : List ModParam

-- what was made, and the fault that ended it
abbrev pub Progress : Type 0
Progress = State × Option EvalFault

-- what comes next, which a fault leaves out
abbrev pub next : Progress → (State → Progress) → Progress
next (s, None) f = f s
next (s, Some fault) f = (s, Some fault)

-- what is done with a result; its fault ends all
abbrev pub with_result : {A : Type 0} → State → Result A EvalFault → (A → Progress) → Progress
with_result s (Ok x) f = f x
with_result s (Err fault) f = (s, Some fault)

-- the module's own variables stand before its imports
abbrev pub scope_of : Context → State → Scope
scope_of c s = record { vars = s.vars ++ c.imports; mods = c.mods; bag = s.bag }

-- each value after a space
abbrev pub spaced : List Value → List ℕ
spaced [] = []
spaced (v ∷ vs) = 32 ∷ (written v ++ spaced vs)

-- the values as text, joined by one space
abbrev pub line_of : List Value → List ℕ
line_of [] = []
line_of (v ∷ vs) = written v ++ spaced vs

-- one more line
abbrev pub add_line : State → List Value → Progress
add_line s vs = (record s { lines = s.lines ++ line_of vs ∷ [] }, None)

-- only a variable that has a value is assigned
abbrev pub assign_slot : List ℕ → State → Value → Option Slot → Progress
assign_slot n s v (Some (Val old)) = (
  record s { vars = with_entry n (Val v) s.vars; changes = s.changes ++ (n, v) ∷ [] },
  None,
)
assign_slot n s v (Some Unset) = (s, Some (Uninitialised n))
assign_slot n s v None = (s, Some (Uninitialised n))

-- an assignment of a variable of the module
abbrev pub assign : List ℕ → State → Value → Progress
assign n s v = assign_slot n s v (entry_at n s.vars)

-- a new key needs room
abbrev pub keep : List ℕ → State → Value → Progress
keep key s v =
    if has_room key s.bag then (record s { bag = with_entry key v s.bag }, None) else (s, Some BagFull)

-- a fault with the value as text
abbrev pub throw : State → Value → Progress
throw s v = (s, Some (Thrown (written v)))

-- one more invalidation
abbrev pub add_invalidation : State → List ℕ → Progress
add_invalidation s message = (record s { invalidations = s.invalidations ++ message ∷ [] }, None)

-- without an expression the message is the empty text
abbrev pub invalidate : Scope → State → Option ExprTree → Progress
invalidate scope s None = add_invalidation s []
invalidate scope s (Some e) = with_result s (value_of scope e) (λ v. add_invalidation s (written v))

-- whether a parameter is a module
abbrev pub is_module : Option ModParam → Bool
is_module (Some (params.Mod exports)) = true
is_module (Some params.Undef) = false
is_module None = false

-- whether a condition holds; a module is true
abbrev pub holds : Scope → CondTree → Result Bool EvalFault
holds scope (tree.param place) = Ok (is_module (slice_get scope.mods place))
holds scope (tree.value e) = value_of scope e >>= λ v. Ok (truth v)

-- one statement, and statements in order up to the first fault
abbrev mutual
  pub run : Context → StmtTree → State → Progress
  run c (tree.log es) s = with_result s (values_of (scope_of c s) es) (add_line s)
  run c (tree.assign n e) s = with_result s (value_of (scope_of c s) e) (assign n s)
  run c (tree.bag_set k e) s = with_result s (value_of (scope_of c s) e) (keep k s)
  run c (tree.throw e) s = with_result s (value_of (scope_of c s) e) (throw s)
  run c (tree.invalidate e) s = invalidate (scope_of c s) s e
  run c (tree.branch cond first second) s =
      with_result s (holds (scope_of c s) cond) (λ b. if b then run_all c first s else run_all c second s)

  pub run_all : Context → StmtTrees → State → Progress
  run_all c tree.no_stmts s = (s, None)
  run_all c (tree.one_stmt a rest) s = next (run c a s) (λ t. run_all c rest t)

-- before anything ran
abbrev pub opening : List (List ℕ × Slot) → List (List ℕ × Value) → State
opening vars bag = record {
  vars = vars;
  bag = bag;
  lines = [];
  changes = [];
  invalidations = [];
  registered = [];
}

-- what a handler leaves
pub record Ran : Type 0 where
  pub fault : Option EvalFault
  pub lines : List (List ℕ)
  pub changes : List (List ℕ × Value)
  pub invalidations : List (List ℕ)
  pub bag : List (List ℕ × Value)

-- what stands after a handler's run
abbrev pub ran_of : Progress → Ran
ran_of (s, fault) = record {
  fault = fault;
  lines = s.lines;
  changes = s.changes;
  invalidations = s.invalidations;
  bag = s.bag;
}

-- the body of a callback, where the names hold this, with these modules and this bag
abbrev pub body_run : HandlerTree → List (List ℕ × Slot) → List ModParam → List (List ℕ × Value) → Ran
body_run code env mods bag =
    ran_of (run_all (record { imports = []; mods = mods }) code.body (opening env bag))

-- the line of a host closure: `host LABEL NUMBER`
abbrev pub host_line : List ℕ → ℕ → List ℕ
host_line label number = codes "host " ++ label ++ codes " " ++ decimal number

-- a host closure keeps its number under the key `host`
abbrev pub host_progress : List ℕ → ℕ → List (List ℕ × Value) → Progress
host_progress label number bag =
    keep (codes "host") (record (opening [] bag) { lines = host_line label number ∷ [] }) (Num (pos number))

-- what a host closure leaves
abbrev pub host_ran : List ℕ → ℕ → List (List ℕ × Value) → Ran
host_ran label number bag = ran_of (host_progress label number bag)
