-- The evaluation of a module that uses its data in handlers alone doesn't hang on its bag, and leaves it.
use Rattle.std.proofs.Common.{◌≡◌, ℕ, Bool, true, false, List, [], ◌∷◌, refl, ap, sym, ◌∙◌}
use Rattle.std.specs.Prelude.{◌&&◌, Option, Some, None, Result, Ok, Err, if◌then◌else◌}
use Rattle.std.specs.List.{list_all}
use Rattle.std.proofs.lemmas.Bool.{false≢true}
use Rattle.module_tree.specs.Syntax as tree
use Rattle.module_tree.specs.Syntax.{ExprTree, CondTree, StmtTree, StmtTrees, HandlerTree, OnceTree, ItemTree, ModuleTree}
use Rattle.hmr_types.specs.Results.{◌>>=◌}
use Rattle.hmr_types.specs.declared.value.Value.{Value}
use Rattle.hmr_types.specs.declared.value.Slot.{Slot}
use Rattle.hmr_types.specs.declared.value.Slot.TheVariants.{Unset, Val}
use Rattle.hmr_types.specs.declared.value.EvalFault.{EvalFault}
use Rattle.module_semantics.specs.Values.{negated, truth, with_right, written}
use Rattle.module_semantics.specs.Scope.{Scope}
use Rattle.module_semantics.specs.Evaluation.{value_of, values_of}
use Rattle.module_semantics.specs.Entries.{entry_at}
use Rattle.module_semantics.specs.Bodies.{State, Context, Progress, next, with_result, scope_of, add_line, assign_slot, assign, throw, add_invalidation, invalidate, holds, run, run_all, opening}
use Rattle.module_semantics.specs.Modules.{declare, register_own, register_deps, item_run, items_run, unset, declared_names, evaluated_of}
use Rattle.module_semantics.specs.ModuleText.{parsing}
use Rattle.core_model.specs.Names.{Name}
use Rattle.core_model.specs.Sources.{Text}
use Rattle.client_model.specs.Language.{Bag, Slots}
use Rattle.module_language.specs.Bagless.{is_bagless, is_bagless_option, is_bagless_condition, is_bagless_statement, are_bagless, is_bagless_item, is_bagless_module}
use Rattle.module_language.specs.ModuleLanguage.{module_language, module_in, evaluation_of, evaluated_as}

both : (a b : Bool) → (a && b) ≡ true → (a ≡ true) × (b ≡ true)
both true b h = (refl, h)
both false b h = absurd (false≢true h)

module _ (bag : Bag) where
  -- the same with this bag
  abbrev rebagged : State → State
  rebagged s = record s { bag = bag }

  abbrev rebag : Progress → Progress
  rebag p = (rebagged p.0, p.1)

  abbrev rescoped : Scope → Scope
  rescoped s = record s { bag = bag }

  -- Values.

  value_same : (s : Scope) (e : ExprTree) → is_bagless e ≡ true → value_of (rescoped s) e ≡ value_of s e
  value_same s (tree.num n) h = refl
  value_same s (tree.text t) h = refl
  value_same s tree.undefined h = refl
  value_same s (tree.name n) h = refl
  value_same s (tree.bag k) h = absurd (false≢true h)
  value_same s (tree.member param safe n) h = refl
  value_same s (tree.neg a) h = ap (λ v. v >>= negated) (value_same s a h)
  value_same s (tree.binary op a b) h =
      let k = both (is_bagless a) (is_bagless b) h in
      ap (λ v. v >>= λ x. with_right op x (value_of (rescoped s) b)) (value_same s a k.0) ∙ ap (λ w. value_of s a >>= λ x. with_right op x w) (value_same s b k.1)
  value_same s (tree.choose c a b) h =
      let k = both (is_bagless c) (is_bagless a && is_bagless b) h in
      let l = both (is_bagless a) (is_bagless b) k.1 in
      ap (λ v. v >>= λ x. if truth x then value_of (rescoped s) a else value_of (rescoped s) b) (value_same s c k.0)
      ∙ ap (λ v. value_of s c >>= λ x. if truth x then v else value_of (rescoped s) b) (value_same s a l.0)
      ∙ ap (λ v. value_of s c >>= λ x. if truth x then value_of s a else v) (value_same s b l.1)

  values_same : (s : Scope) (es : List ExprTree) → list_all is_bagless es ≡ true → values_of (rescoped s) es ≡ values_of s es
  values_same s [] h = refl
  values_same s (e ∷ es) h =
      let k = both (is_bagless e) (list_all is_bagless es) h in
      ap (λ v. v >>= λ x. values_of (rescoped s) es >>= λ vs. Ok (x ∷ vs)) (value_same s e k.0) ∙ ap (λ w. value_of s e >>= λ x. w >>= λ vs. Ok (x ∷ vs)) (values_same s es k.1)

  holds_same : (s : Scope) (c : CondTree) → is_bagless_condition c ≡ true → holds (rescoped s) c ≡ holds s c
  holds_same s (tree.param place) h = refl
  holds_same s (tree.value e) h = ap (λ r. r >>= λ v. Ok (truth v)) (value_same s e h)

  -- Statements.

  result_same : {A : Type 0} (s : State) (r : Result A EvalFault) (f g : A → Progress) → ((x : A) → g x ≡ rebag (f x)) → with_result (rebagged s) r g ≡ rebag (with_result s r f)
  result_same s (Ok x) f g h = h x
  result_same s (Err fault) f g h = refl

  -- an expression's value is taken, and all else is the same
  step_same : {A : Type 0} (s : State) (q r : Result A EvalFault) (f g : A → Progress) → q ≡ r → ((x : A) → g x ≡ rebag (f x)) → with_result (rebagged s) q g ≡ rebag (with_result s r f)
  step_same s q r f g e h = ap (λ x. with_result (rebagged s) x g) e ∙ result_same s r f g h

  next_same : (p : Progress) (f : State → Progress) → ((t : State) → f (rebagged t) ≡ rebag (f t)) → next (rebag p) f ≡ rebag (next p f)
  next_same (s, None) f h = h s
  next_same (s, Some fault) f h = refl

  slot_same : (n : List ℕ) (s : State) (v : Value) (o : Option Slot) → assign_slot n (rebagged s) v o ≡ rebag (assign_slot n s v o)
  slot_same n s v (Some (Val old)) = refl
  slot_same n s v (Some Unset) = refl
  slot_same n s v None = refl

  invalidate_same : (c : Context) (s : State) (e : Option ExprTree) → is_bagless_option e ≡ true → invalidate (scope_of c (rebagged s)) (rebagged s) e ≡ rebag (invalidate (scope_of c s) s e)
  invalidate_same c s None h = refl
  invalidate_same c s (Some e) h = step_same s (value_of (scope_of c (rebagged s)) e) (value_of (scope_of c s) e) (λ v. add_invalidation s (written v)) (λ v. add_invalidation (rebagged s) (written v)) (value_same (scope_of c s) e h) (λ v. refl)

  branch_same : (b : Bool) (p q u v : Progress) → u ≡ rebag p → v ≡ rebag q → (if b then u else v) ≡ rebag (if b then p else q)
  branch_same true p q u v e f = e
  branch_same false p q u v e f = f

  mutual
    run_same : (c : Context) (a : StmtTree) (s : State) → is_bagless_statement a ≡ true → run c a (rebagged s) ≡ rebag (run c a s)
    run_same c (tree.log es) s h = step_same s (values_of (scope_of c (rebagged s)) es) (values_of (scope_of c s) es) (add_line s) (add_line (rebagged s)) (values_same (scope_of c s) es h) (λ vs. refl)
    run_same c (tree.assign n e) s h = step_same s (value_of (scope_of c (rebagged s)) e) (value_of (scope_of c s) e) (assign n s) (assign n (rebagged s)) (value_same (scope_of c s) e h) (λ v. slot_same n s v (entry_at n s.vars))
    run_same c (tree.bag_set k e) s h = absurd (false≢true h)
    run_same c (tree.throw e) s h = step_same s (value_of (scope_of c (rebagged s)) e) (value_of (scope_of c s) e) (throw s) (throw (rebagged s)) (value_same (scope_of c s) e h) (λ v. refl)
    run_same c (tree.invalidate e) s h = invalidate_same c s e h
    run_same c (tree.branch cond first second) s h =
        let k = both (is_bagless_condition cond) (are_bagless first && are_bagless second) h in
        let l = both (are_bagless first) (are_bagless second) k.1 in
        step_same s (holds (scope_of c (rebagged s)) cond) (holds (scope_of c s) cond) (λ b. if b then run_all c first s else run_all c second s) (λ b. if b then run_all c first (rebagged s) else run_all c second (rebagged s)) (holds_same (scope_of c s) cond k.0)
        (λ b. branch_same b (run_all c first s) (run_all c second s) (run_all c first (rebagged s)) (run_all c second (rebagged s)) (run_all_same c first s l.0) (run_all_same c second s l.1))

    run_all_same : (c : Context) (body : StmtTrees) (s : State) → are_bagless body ≡ true → run_all c body (rebagged s) ≡ rebag (run_all c body s)
    run_all_same c tree.no_stmts s h = refl
    run_all_same c (tree.one_stmt a rest) s h =
        let k = both (is_bagless_statement a) (are_bagless rest) h in
        ap (λ p. next p (λ t. run_all c rest t)) (run_same c a s k.0) ∙ next_same (run c a s) (λ t. run_all c rest t) (λ t. run_all_same c rest t k.1)

  -- Items.

  own_same : (what : Option OnceTree) (s : State) → register_own what (rebagged s) ≡ rebag (register_own what s)
  own_same None s = refl
  own_same (Some what) s = refl

  deps_same : (specs : List (List ℕ)) (code : Option HandlerTree) (s : State) → register_deps specs code (rebagged s) ≡ rebag (register_deps specs code s)
  deps_same specs None s = refl
  deps_same specs (Some code) s = refl

  item_same : (c : Context) (i : ItemTree) (s : State) → is_bagless_item i ≡ true → item_run c i (rebagged s) ≡ rebag (item_run c i s)
  item_same c (tree.import spec names) s h = refl
  item_same c (tree.declare exported mutable n e) s h = step_same s (value_of (scope_of c (rebagged s)) e) (value_of (scope_of c s) e) (declare n s) (declare n (rebagged s)) (value_same (scope_of c s) e h) (λ v. refl)
  item_same c (tree.act a) s h = run_same c a s h
  item_same c (tree.own what) s h = own_same what s
  item_same c (tree.deps list specs code) s h = deps_same specs code s
  item_same c (tree.dispose what) s h = refl
  item_same c (tree.prune what) s h = refl
  item_same c tree.decline s h = refl

  items_same : (c : Context) (m : ModuleTree) (s : State) → is_bagless_module m ≡ true → items_run c m (rebagged s) ≡ rebag (items_run c m s)
  items_same c [] s h = refl
  items_same c (i ∷ is) s h =
      let k = both (is_bagless_item i) (list_all is_bagless_item is) h in
      ap (λ p. next p (λ t. items_run c is t)) (item_same c i s k.0) ∙ next_same (item_run c i s) (λ t. items_run c is t) (λ t. items_same c is t k.1)

  -- with this bag the evaluation is that with none, and leaves this bag
  evaluation_same : (n : Name) (m : ModuleTree) (imports : Slots) → is_bagless_module m ≡ true → evaluation_of n m imports bag ≡ record (evaluation_of n m imports []) { bag = bag }
  evaluation_same n m imports h = ap (λ (p : Progress). evaluated_as n (evaluated_of p)) (items_same (record { imports = imports; mods = [] }) m (opening (unset (declared_names m)) []) h)

pub bagless_evaluations : (n : Name) (t : Text) (m : ModuleTree) (imports : Slots) (before : Bag) → parsing t ≡ Ok m → is_bagless_module m ≡ true → module_language.evaluated n t imports before ≡ record (module_language.evaluated n t imports []) { bag = before }
bagless_evaluations n t m imports before e h =
    ap (λ r. evaluation_of n (module_in r) imports before) e ∙ evaluation_same before n m imports h ∙ ap (λ r. record (evaluation_of n (module_in r) imports []) { bag = before }) (sym e)
