-- A small module language for examples: each text stands for a module that is listed beside it. It has
-- numbers, texts, sums, `??`, the bag, members and `throw`, and no other faults; its dependencies are named
-- in full.
use Rattle.std.specs.Prelude.{ℕ, zero, suc, ◌+◌, ◌/◌, ◌%◌, ◌==◌, ℤ, pos, negsuc, ◌+ℤ◌, List, [], ◌∷◌, ◌++◌}
use Rattle.std.specs.Prelude.{map, flat_map, fold, slice_get, Option, Some, None, is_some, codes}
use Rattle.std.specs.Prelude.{if◌then◌else◌}
use Rattle.std.specs.List.{join_with_byte}
use Rattle.module_tree.specs.Syntax.{ExprTree, num, text, undefined, name, bag, member, neg, binary, choose}
use Rattle.module_tree.specs.Syntax.{StmtTree, StmtTrees, no_stmts, one_stmt, log, assign, bag_set, throw}
use Rattle.module_tree.specs.Syntax.{invalidate, branch, HandlerTree, OnceTree, code, ItemTree, import}
use Rattle.module_tree.specs.Syntax.{declare, act, own, deps, dispose, prune, decline}
use Rattle.module_tree.specs.declared.tree.Op.{Op}
use Rattle.module_tree.specs.declared.tree.Op.TheVariants.{Null, Add, Sub, Mul}
use Rattle.hmr_types.specs.declared.value.Value.{Value}
use Rattle.hmr_types.specs.declared.value.Value.TheVariants.{Num, Str, Undef}
use Rattle.hmr_types.specs.declared.value.Slot.{Slot}
use Rattle.hmr_types.specs.declared.value.Slot.TheVariants.{Unset, Val}
use Rattle.hmr_types.specs.declared.value.EvalFault.{EvalFault}
use Rattle.hmr_types.specs.declared.value.EvalFault.TheVariants.{Thrown}
use Rattle.hmr_types.specs.declared.words.HandlerKind.{HandlerKind}
use Rattle.hmr_types.specs.declared.words.HandlerKind.TheVariants as kind
use Rattle.hmr_types.specs.declared.analysis.Analysis.{Analysis}
use Rattle.hmr_types.specs.declared.analysis.FaultWord.TheVariants.{Unexpected}
use Rattle.hmr_types.specs.declared.analysis.Outcome.{Outcome}
use Rattle.hmr_types.specs.declared.analysis.Outcome.TheVariants.{Good, Bad}
use Rattle.core_model.specs.Names.{Name, same_name, at}
use Rattle.core_model.specs.Sources.{Text}
use Rattle.client_model.specs.Language.{Language, Bag, Slots, Binding, Registered, Evaluated, Ran, slot_at}
use Rattle.client_model.specs.Running.{assigned}

-- the value in place of the key's own, or at the end where the key is new
abbrev pub with_key : Name → Value → Bag → Bag
with_key k v [] = (k, v) ∷ []
with_key k v (row ∷ rows) = if same_name row.0 k then (k, v) ∷ rows else row ∷ with_key k v rows

-- what a module's text says: its imports, what analysis tells, and its items
pub record Module : Type 0 where
  pub bindings : List Binding
  pub analysis : Analysis
  pub items : List ItemTree

-- the modules that texts stand for
abbrev pub Texts : Type 0
Texts = List (Text × Module)

-- a module that is being evaluated, or whose handler is being run
pub record State : Type 0 where
  pub vars : Slots
  pub lines : List Text
  pub changes : List (Name × Value)
  pub invalidations : List Text
  pub registered : List Registered
  pub bag : Bag
  pub fault : Option EvalFault

-- what a variable holds, undefined where nothing
abbrev pub value_in : Slot → Value
value_in Unset = Undef
value_in (Val v) = v

-- what the bag has at a key, undefined where nothing
abbrev pub kept : Option Value → Value
kept None = Undef
kept (Some v) = v

-- an export of a callback's argument
abbrev pub member_of : Option (Option Slots) → Name → Value
member_of None x = Undef
member_of (Some None) x = Undef
member_of (Some (Some exports)) x = value_in (slot_at exports x)

-- at most so many digits of a number
abbrev pub digits : ℕ → ℕ → Text
digits zero n = []
digits (suc k) n =
    let before : Text = digits k (n / 10) in
    if n == 0 then [] else before ++ (48 + n % 10) ∷ []

-- a number of at most sixteen digits, which isn't 0
abbrev pub whole_text : ℤ → Text
whole_text (pos n) = digits 16 n
whole_text (negsuc n) = codes "-" ++ digits 16 (n + 1)

-- a value written as text
abbrev pub as_text : Value → Text
as_text (Num n) = whole_text n
as_text (Str t) = t
as_text Undef = codes "undefined"

-- the sum of two numbers, and else the texts joined
abbrev pub sum_of : Value → Value → Value
sum_of (Num a) (Num b) = Num (a +ℤ b)
sum_of a b = Str (as_text a ++ as_text b)

-- the first unless it is undefined
abbrev pub or_else : Value → Value → Value
or_else (Num n) b = Num n
or_else (Str t) b = Str t
or_else Undef b = b

-- a value of two
abbrev pub applied_to : Op → Value → Value → Value
applied_to Null a b = or_else a b
applied_to Add a b = sum_of a b
applied_to Sub a b = Undef
applied_to Mul a b = Undef

-- the value of an expression
abbrev pub value_of : State → List (Option Slots) → ExprTree → Value
value_of s mods (num n) = Num (pos n)
value_of s mods (text t) = Str t
value_of s mods undefined = Undef
value_of s mods (name x) = value_in (slot_at s.vars x)
value_of s mods (bag k) = kept (at s.bag k)
value_of s mods (member place safe x) = member_of (slice_get mods place) x
value_of s mods (neg e) = Undef
value_of s mods (binary op a b) = applied_to op (value_of s mods a) (value_of s mods b)
value_of s mods (choose c a b) = Undef

-- between the values of a console line
abbrev pub space : ℕ
space = 32

-- a statement is run
abbrev pub run_stmt : List (Option Slots) → State → StmtTree → State
run_stmt mods s (log es) = record s {
  lines = s.lines ++ join_with_byte space (map (λ e. as_text (value_of s mods e)) es) ∷ [];
}
run_stmt mods s (assign x e) = record s {
  vars = assigned s.vars (x, value_of s mods e);
  changes = s.changes ++ (x, value_of s mods e) ∷ [];
}
run_stmt mods s (bag_set k e) = record s { bag = with_key k (value_of s mods e) s.bag }
run_stmt mods s (throw e) = record s { fault = Some (Thrown (as_text (value_of s mods e))) }
run_stmt mods s (invalidate None) = record s { invalidations = s.invalidations ++ [] ∷ [] }
run_stmt mods s (invalidate (Some e)) = record s {
  invalidations = s.invalidations ++ as_text (value_of s mods e) ∷ [];
}
run_stmt mods s (branch c first second) = s

-- a fault ends the evaluation
abbrev pub go_on : State → State → State
go_on s next = if is_some s.fault then s else next

-- statements are run in order
abbrev pub run_stmts : List (Option Slots) → State → StmtTrees → State
run_stmts mods s no_stmts = s
run_stmts mods s (one_stmt first rest) = run_stmts mods (go_on s (run_stmt mods s first)) rest

-- a handler is registered
abbrev pub register : HandlerKind → List Name → OnceTree → State → State
register k names what s = record s {
  registered = s.registered ++ record { kind = k; deps = names; what = what } ∷ [];
}

-- an item of a module is evaluated
abbrev pub run_item : State → ItemTree → State
run_item s (import spec names) = s
run_item s (declare exported mutable x e) = record s { vars = assigned s.vars (x, value_of s [] e) }
run_item s (act stmt) = run_stmt [] s stmt
run_item s (own None) = s
run_item s (own (Some what)) = register kind.Own [] what s
run_item s (deps list specs None) = s
run_item s (deps list specs (Some h)) = register kind.Dep specs (code h) s
run_item s (dispose what) = register kind.Dispose [] what s
run_item s (prune what) = register kind.Prune [] what s
run_item s decline = s

-- the variable that an item declares
abbrev pub declared_by : ItemTree → Slots
declared_by (declare exported mutable x e) = (x, Unset) ∷ []
declared_by item = []

-- before the first item or statement
abbrev pub start : Slots → Bag → State
start vars before = record {
  vars = vars;
  lines = [];
  changes = [];
  invalidations = [];
  registered = [];
  bag = before;
  fault = None;
}

-- the variables that a module declares
abbrev pub own_vars : List ItemTree → Slots
own_vars items = flat_map declared_by items

-- a variable with what it holds in the end
abbrev pub slot_of : Slots → Name × Slot → Name × Slot
slot_of vars row = (row.0, slot_at vars row.0)

-- the evaluation of a module's items
abbrev pub evaluated_by : List ItemTree → Slots → Bag → Evaluated
evaluated_by items imports before =
    let s : State = fold (λ s item. go_on s (run_item s item))
    (start (own_vars items ++ imports) before) items in
    record {
      fault = s.fault;
      vars = map (slot_of s.vars) (own_vars items);
      lines = s.lines;
      registered = s.registered;
      bag = s.bag;
    }

-- the run of a callback
abbrev pub ran_by : HandlerTree → Slots → List (Option Slots) → Bag → Ran
ran_by h vars mods before =
    let s : State = run_stmts mods (start vars before) h.body in
    record {
      fault = s.fault;
      lines = s.lines;
      changes = s.changes;
      invalidations = s.invalidations;
      bag = s.bag;
    }

-- a closure of the embedding program gives one line, and keeps its number under the key `host`
abbrev pub hosted_by : Text → ℕ → Bag → Ran
hosted_by label number before = record {
  fault = None;
  lines = (codes "host " ++ label ++ codes " " ++ whole_text (pos number)) ∷ [];
  changes = [];
  invalidations = [];
  bag = with_key (codes "host") (Num (pos number)) before;
}

-- a text that stands for no module is unexpected at its first place
abbrev pub outcome_in : Option Module → Outcome
outcome_in None = Bad (record { line = 1; col = 1; word = Unexpected })
outcome_in (Some m) = Good m.analysis

-- the imports of a text
abbrev pub bindings_in : Option Module → List Binding
bindings_in None = []
bindings_in (Some m) = m.bindings

-- the evaluation of a text
abbrev pub evaluated_in : Option Module → Slots → Bag → Evaluated
evaluated_in None imports before = evaluated_by [] imports before
evaluated_in (Some m) imports before = evaluated_by m.items imports before

-- the language of these texts
abbrev pub small_language : Texts → Language
small_language texts = record {
  transformed = λ n t. outcome_in (at texts t);
  bindings = λ n t. bindings_in (at texts t);
  evaluated = λ n t imports before. evaluated_in (at texts t) imports before;
  ran = ran_by;
  hosted = hosted_by;
}
