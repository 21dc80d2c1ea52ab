-- What an evaluation registers: a callback on dependencies is code.
use Rattle.std.proofs.Common.{◌≡◌, ℕ, Bool, true, false, if◌then◌else◌, List, [], ◌∷◌, ◌++◌, Result, Ok, Err, Option, Some, None, refl, sym, ◌∙◌}
use Rattle.std.specs.List.{All}
use Rattle.std.specs.Prelude.{map}
use Rattle.std.proofs.Math.Path.{subst}
use Rattle.std.proofs.lemmas.List.Elements.{All-push, All-from_recursion, recursion_from_All}
use Rattle.std.specs.List.{AllByRecursion}
use Rattle.module_tree.specs.Syntax as tree
use Rattle.module_tree.specs.Syntax.{ExprTree, StmtTree, StmtTrees, HandlerTree, OnceTree, ItemTree, ModuleTree}
use Rattle.module_tree.specs.Tree.{once_of}
use Rattle.hmr_types.specs.declared.words.HandlerKind.{HandlerKind}
use Rattle.hmr_types.specs.declared.words.HandlerKind.TheVariants.{Dispose, Prune, Own, Dep}
use Rattle.hmr_types.specs.declared.value.Value.{Value}
use Rattle.hmr_types.specs.declared.value.Slot.{Slot}
use Rattle.hmr_types.specs.declared.value.Slot.TheVariants.{Unset, Val}
use Rattle.hmr_types.specs.declared.value.EvalFault.{EvalFault}
use Rattle.hmr_types.specs.declared.value.EvalFault.TheVariants.{BagFull}
use Rattle.module_semantics.specs.declared.evaluation.Registered.{Registered}
use Rattle.module_semantics.specs.Entries.{entry_at, has_room, with_entry}
use Rattle.module_semantics.specs.Values.{written}
use Rattle.module_semantics.specs.Evaluation.{value_of, values_of}
use Rattle.module_semantics.specs.Bodies.{Registration, State, Context, Progress, registration_of, next, with_result, scope_of, add_line, assign, assign_slot, keep, throw, add_invalidation, invalidate, holds, run, run_all, opening}
use Rattle.module_semantics.specs.Modules.{declare, declared_names, evaluated_of, register_own, register_deps, item_run, items_run, module_run, unset}
use Rattle.page_births.specs.Births.{IsCodeForDeps}

-- Statements register nothing.
result_same : {A : Type 0} (s : State) (r : Result A EvalFault) (f : A → Progress) → ((x : A) → (f x).0.registered ≡ s.registered) → (with_result s r f).0.registered ≡ s.registered
result_same s (Ok x) f each = each x
result_same s (Err fault) f each = refl

next_same : (rs : List Registration) (p : Progress) (f : State → Progress) → p.0.registered ≡ rs → ((t : State) → (f t).0.registered ≡ t.registered) → (next p f).0.registered ≡ rs
next_same rs (s, None) f h each = each s ∙ h
next_same rs (s, Some fault) f h each = h

choice_same : (rs : List Registration) (b : Bool) (p q : Progress) → p.0.registered ≡ rs → q.0.registered ≡ rs → (if b then p else q).0.registered ≡ rs
choice_same rs true p q h k = h
choice_same rs false p q h k = k

assign_same : (n : List ℕ) (s : State) (v : Value) (at : Option Slot) → (assign_slot n s v at).0.registered ≡ s.registered
assign_same n s v (Some (Val old)) = refl
assign_same n s v (Some Unset) = refl
assign_same n s v None = refl

invalidate_same : (c : Context) (s : State) (e : Option ExprTree) → (invalidate (scope_of c s) s e).0.registered ≡ s.registered
invalidate_same c s None = refl
invalidate_same c s (Some e) = result_same s (value_of (scope_of c s) e) (λ v. add_invalidation s (written v)) (λ v. refl)

mutual
  run_same : (c : Context) (t : StmtTree) (s : State) → (run c t s).0.registered ≡ s.registered
  run_same c (tree.log es) s = result_same s (values_of (scope_of c s) es) (add_line s) (λ vs. refl)
  run_same c (tree.assign n e) s = result_same s (value_of (scope_of c s) e) (assign n s) (λ v. assign_same n s v (entry_at n s.vars))
  run_same c (tree.bag_set key e) s = result_same s (value_of (scope_of c s) e) (keep key s) (λ v. choice_same s.registered (has_room key s.bag) (record s { bag = with_entry key v s.bag }, None) (s, Some BagFull) refl refl)
  run_same c (tree.throw e) s = result_same s (value_of (scope_of c s) e) (throw s) (λ v. refl)
  run_same c (tree.invalidate e) s = invalidate_same c s e
  run_same c (tree.branch cond first second) s =
      result_same s (holds (scope_of c s) cond) (λ b. if b then run_all c first s else run_all c second s)
      (λ b. choice_same s.registered b (run_all c first s) (run_all c second s) (all_same c first s) (all_same c second s))

  all_same : (c : Context) (ts : StmtTrees) (s : State) → (run_all c ts s).0.registered ≡ s.registered
  all_same c tree.no_stmts s = refl
  all_same c (tree.one_stmt t ts) s = next_same s.registered (run c t s) (λ u. run_all c ts u) (run_same c t s) (λ u. all_same c ts u)

-- all of these are so
abbrev Codes : List Registration → Type 0
Codes rs = All (λ r. IsCodeForDeps r.kind r.what) rs

more : (rs : List Registration) (r : Registration) → Codes rs → IsCodeForDeps r.kind r.what → Codes (rs ++ r ∷ [])
more rs r h k = All-push (λ r. IsCodeForDeps r.kind r.what) rs r h k

once_codes : (k : HandlerKind) (what : OnceTree) → ((label : List ℕ) → IsCodeForDeps k (tree.host label)) → IsCodeForDeps k what
once_codes k (tree.code t) host = tt
once_codes k (tree.host label) host = host label

own_codes : (what : Option OnceTree) (s : State) → Codes s.registered → Codes (register_own what s).0.registered
own_codes None s h = h
own_codes (Some what) s h = more s.registered (record { kind = Own; deps = []; what = what }) h (once_codes Own what (λ label. refl))

deps_codes : (specs : List (List ℕ)) (code : Option HandlerTree) (s : State) → Codes s.registered → Codes (register_deps specs code s).0.registered
deps_codes specs None s h = h
deps_codes specs (Some code) s h = more s.registered (record { kind = Dep; deps = specs; what = tree.code code }) h tt

item_codes : (c : Context) (i : ItemTree) (s : State) → Codes s.registered → Codes (item_run c i s).0.registered
item_codes c (tree.import spec names) s h = h
item_codes c (tree.declare exported mutable n e) s h = subst Codes (sym (result_same s (value_of (scope_of c s) e) (declare n s) (λ v. refl))) h
item_codes c (tree.act t) s h = subst Codes (sym (run_same c t s)) h
item_codes c (tree.own what) s h = own_codes what s h
item_codes c (tree.deps list specs code) s h = deps_codes specs code s h
item_codes c (tree.dispose what) s h = more s.registered (record { kind = Dispose; deps = []; what = what }) h (once_codes Dispose what (λ label. refl))
item_codes c (tree.prune what) s h = more s.registered (record { kind = Prune; deps = []; what = what }) h (once_codes Prune what (λ label. refl))
item_codes c tree.decline s h = h

next_codes : (p : Progress) (f : State → Progress) → Codes p.0.registered → ((t : State) → Codes t.registered → Codes (f t).0.registered) → Codes (next p f).0.registered
next_codes (s, None) f h each = each s h
next_codes (s, Some fault) f h each = h

items_codes : (c : Context) (m : ModuleTree) (s : State) → Codes s.registered → Codes (items_run c m s).0.registered
items_codes c [] s h = h
items_codes c (i ∷ is) s h = next_codes (item_run c i s) (λ t. items_run c is t) (item_codes c i s h) (λ t k. items_codes c is t k)

left_codes : (p : Progress) → Codes p.0.registered → Codes (evaluated_of p).registered
left_codes (s, fault) h = h

module_codes : (m : ModuleTree) (imports : List (List ℕ × Slot)) (bag : List (List ℕ × Value)) → Codes (module_run m imports bag).registered
module_codes m imports bag = left_codes (items_run (record { imports = imports; mods = [] }) m (opening (unset (declared_names m)) bag))
    (items_codes (record { imports = imports; mods = [] }) m (opening (unset (declared_names m)) bag) (All-from_recursion (λ r. IsCodeForDeps r.kind r.what) [] tt))

-- so it is of what the code registers
of_each : (rs : List Registered) → AllByRecursion (λ r. IsCodeForDeps r.kind r.what) (map registration_of rs) → AllByRecursion (λ r. IsCodeForDeps r.kind (once_of r.what)) rs
of_each [] h = tt
of_each (r ∷ rs) h = (h.0, of_each rs h.1)

pub registered_codes : (rs : List Registered) (m : ModuleTree) (imports : List (List ℕ × Slot)) (bag : List (List ℕ × Value)) → map registration_of rs ≡ (module_run m imports bag).registered
    → All (λ r. IsCodeForDeps r.kind (once_of r.what)) rs
registered_codes rs m imports bag is = All-from_recursion (λ r. IsCodeForDeps r.kind (once_of r.what)) rs
    (of_each rs (recursion_from_All (λ r. IsCodeForDeps r.kind r.what) (map registration_of rs) (subst Codes (sym is) (module_codes m imports bag))))
