-- What each single step of an evaluation keeps, all of it keeps.
use Rattle.std.proofs.Common.{◌≡◌, ℕ, Bool, true, false, if◌then◌else◌, List, [], ◌∷◌, ◌++◌, Result, Ok, Err, Option, Some, None, refl, sym, ◌∙◌}
use Rattle.module_tree.specs.Syntax as tree
use Rattle.module_tree.specs.Syntax.{ExprTree, StmtTree, StmtTrees, HandlerTree, OnceTree, ItemTree, ModuleTree}
use Rattle.module_tree.specs.Tree.{stmts}
use Rattle.hmr_types.specs.declared.value.Value.{Value}
use Rattle.hmr_types.specs.declared.value.EvalFault.{EvalFault}
use Rattle.hmr_types.specs.declared.words.HandlerKind.{HandlerKind}
use Rattle.hmr_types.specs.declared.words.HandlerKind.TheVariants.{Dispose, Prune, Own, Dep}
use Rattle.module_semantics.specs.Values.{written}
use Rattle.module_semantics.specs.Evaluation.{value_of, values_of}
use Rattle.module_semantics.specs.Bodies.{State, Context, Progress, next, with_result, scope_of, add_line, assign, keep, throw, add_invalidation, invalidate, holds, run, run_all}
use Rattle.module_semantics.specs.Modules.{declare, register, register_own, register_deps, item_run, items_run, declared_by, declared_names}

-- a fact of states that each single step keeps, where only such names are declared
pub record IsKept (declares : List ℕ → Type 0) (fact : State → Type 0) : Type 0 where
  pub line : (s : State) (vs : List Value) → fact s → fact (add_line s vs).0
  pub assigned : (n : List ℕ) (s : State) (v : Value) → fact s → fact (assign n s v).0
  pub kept : (k : List ℕ) (s : State) (v : Value) → fact s → fact (keep k s v).0
  pub invalidated : (s : State) (message : List ℕ) → fact s → fact (add_invalidation s message).0
  pub declared : (n : List ℕ) (s : State) (v : Value) → declares n → fact s → fact (declare n s v).0
  pub registered : (kind : HandlerKind) (deps : List (List ℕ)) (what : OnceTree) (s : State) → fact s → fact (register kind deps what s).0

-- each name that is declared is such a name
abbrev pub Each : (List ℕ → Type 0) → List (List ℕ) → Type 0
Each declares [] = Unit {0}
Each declares (n ∷ ns) = declares n × Each declares ns

pub each_front : (declares : List ℕ → Type 0) (ms ns : List (List ℕ)) → Each declares (ms ++ ns) → Each declares ms
each_front declares [] ns all = tt
each_front declares (m ∷ ms) ns all = (all.0, each_front declares ms ns all.1)

pub each_back : (declares : List ℕ → Type 0) (ms ns : List (List ℕ)) → Each declares (ms ++ ns) → Each declares ns
each_back declares [] ns all = all
each_back declares (m ∷ ms) ns all = each_back declares ms ns all.1

module _ (declares : List ℕ → Type 0) (fact : State → Type 0) (k : IsKept declares fact) where
  result_keeps : {A : Type 0} (s : State) (r : Result A EvalFault) (f : A → Progress) → fact s → ((x : A) → fact (f x).0) → fact (with_result s r f).0
  result_keeps s (Ok x) f h each = each x
  result_keeps s (Err fault) f h each = h

  next_keeps : (p : Progress) (f : State → Progress) → fact p.0 → ((t : State) → fact t → fact (f t).0) → fact (next p f).0
  next_keeps (s, None) f h each = each s h
  next_keeps (s, Some fault) f h each = h

  choice_keeps : (b : Bool) (p q : Progress) → fact p.0 → fact q.0 → fact (if b then p else q).0
  choice_keeps true p q h i = h
  choice_keeps false p q h i = i

  invalidate_keeps : (c : Context) (s : State) (e : Option ExprTree) → fact s → fact (invalidate (scope_of c s) s e).0
  invalidate_keeps c s None h = k.invalidated s [] h
  invalidate_keeps c s (Some e) h = result_keeps s (value_of (scope_of c s) e) (λ v. add_invalidation s (written v)) h (λ v. k.invalidated s (written v) h)

  mutual
    run_keeps : (c : Context) (t : StmtTree) (s : State) → fact s → fact (run c t s).0
    run_keeps c (tree.log es) s h = result_keeps s (values_of (scope_of c s) es) (add_line s) h (λ vs. k.line s vs h)
    run_keeps c (tree.assign n e) s h = result_keeps s (value_of (scope_of c s) e) (assign n s) h (λ v. k.assigned n s v h)
    run_keeps c (tree.bag_set key e) s h = result_keeps s (value_of (scope_of c s) e) (keep key s) h (λ v. k.kept key s v h)
    run_keeps c (tree.throw e) s h = result_keeps s (value_of (scope_of c s) e) (throw s) h (λ v. h)
    run_keeps c (tree.invalidate e) s h = invalidate_keeps c s e h
    run_keeps c (tree.branch cond first second) s h =
        result_keeps s (holds (scope_of c s) cond) (λ b. if b then run_all c first s else run_all c second s) h
        (λ b. choice_keeps b (run_all c first s) (run_all c second s) (all_keeps c first s h) (all_keeps c second s h))

    all_keeps : (c : Context) (ts : StmtTrees) (s : State) → fact s → fact (run_all c ts s).0
    all_keeps c tree.no_stmts s h = h
    all_keeps c (tree.one_stmt t ts) s h = next_keeps (run c t s) (λ u. run_all c ts u) (run_keeps c t s h) (λ u i. all_keeps c ts u i)

  pub statements_keep : (c : Context) (ts : StmtTrees) (s : State) → fact s → fact (run_all c ts s).0
  statements_keep c ts s h = all_keeps c ts s h

  own_keeps : (what : Option OnceTree) (s : State) → fact s → fact (register_own what s).0
  own_keeps None s h = h
  own_keeps (Some what) s h = k.registered Own [] what s h

  deps_keep : (specs : List (List ℕ)) (code : Option HandlerTree) (s : State) → fact s → fact (register_deps specs code s).0
  deps_keep specs None s h = h
  deps_keep specs (Some code) s h = k.registered Dep specs (tree.code code) s h

  item_keeps : (c : Context) (i : ItemTree) (s : State) → Each declares (declared_by i) → fact s → fact (item_run c i s).0
  item_keeps c (tree.import spec names) s all h = h
  item_keeps c (tree.declare exported mutable n e) s all h = result_keeps s (value_of (scope_of c s) e) (declare n s) h (λ v. k.declared n s v all.0 h)
  item_keeps c (tree.act t) s all h = run_keeps c t s h
  item_keeps c (tree.own what) s all h = own_keeps what s h
  item_keeps c (tree.deps list specs code) s all h = deps_keep specs code s h
  item_keeps c (tree.dispose what) s all h = k.registered Dispose [] what s h
  item_keeps c (tree.prune what) s all h = k.registered Prune [] what s h
  item_keeps c tree.decline s all h = h

  pub items_keep : (c : Context) (m : ModuleTree) (s : State) → Each declares (declared_names m) → fact s → fact (items_run c m s).0
  items_keep c [] s all h = h
  items_keep c (i ∷ is) s all h =
      next_keeps (item_run c i s) (λ t. items_run c is t) (item_keeps c i s (each_front declares (declared_by i) (declared_names is) all) h)
      (λ t j. items_keep c is t (each_back declares (declared_by i) (declared_names is) all) j)

-- what comes after, in turn
pub next_next : (p : Progress) (f g : State → Progress) → next (next p f) g ≡ next p (λ t. next (f t) g)
next_next (s, None) f g = refl
next_next (s, Some fault) f g = refl

same_next : (p : Progress) (f g : State → Progress) → ((t : State) → f t ≡ g t) → next p f ≡ next p g
same_next (s, None) f g same = same s
same_next (s, Some fault) f g same = refl

-- statements in two lists
pub run_all-append : (c : Context) (xs ys : List StmtTree) (s : State) → run_all c (stmts (xs ++ ys)) s ≡ next (run_all c (stmts xs) s) (λ t. run_all c (stmts ys) t)
run_all-append c [] ys s = refl
run_all-append c (x ∷ xs) ys s =
    same_next (run c x s) (λ t. run_all c (stmts (xs ++ ys)) t) (λ t. next (run_all c (stmts xs) t) (λ u. run_all c (stmts ys) u)) (λ t. run_all-append c xs ys t)
    ∙ sym (next_next (run c x s) (λ t. run_all c (stmts xs) t) (λ u. run_all c (stmts ys) u))

-- items in two lists
pub items_run-append : (c : Context) (xs ys : ModuleTree) (s : State) → items_run c (xs ++ ys) s ≡ next (items_run c xs s) (λ t. items_run c ys t)
items_run-append c [] ys s = refl
items_run-append c (x ∷ xs) ys s =
    same_next (item_run c x s) (λ t. items_run c (xs ++ ys) t) (λ t. next (items_run c xs t) (λ u. items_run c ys u)) (λ t. items_run-append c xs ys t)
    ∙ sym (next_next (item_run c x s) (λ t. items_run c xs t) (λ u. items_run c ys u))
