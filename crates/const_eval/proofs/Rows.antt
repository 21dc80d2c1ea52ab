-- Rows of operators: the operator and the right side of each node, the outermost first.
use Rattle.std.proofs.Common.{◌≡◌, ℕ, suc, ◌+◌, ◌<◌, ◌≤◌, List, [], ◌∷◌, ◌++◌, Result, Ok, Err, refl, ap, ◌∙◌, sym, subst, map, arith, Bor}
use Rattle.module_tree.specs.Tree.{expr_of}
use Rattle.module_tree.specs.declared.tree.Expr.{Expr}
use Rattle.module_tree.specs.Syntax as tree
use Rattle.module_tree.specs.Syntax.{ExprTree}
use Rattle.hmr_types.specs.Results.{◌>>=◌}
use Rattle.module_semantics.specs.Scope.{Scope}
use Rattle.module_semantics.specs.Values.{with_right}
use Rattle.module_semantics.specs.Evaluation.{value_of}
use Rattle.module_tree.specs.declared.tree.Op.{Op}
use Rattle.hmr_types.specs.declared.value.Value.{Value}
use Rattle.hmr_types.specs.declared.value.EvalFault.{EvalFault}
use Rattle.const_eval.specs.Stops.{Gives}
use Rattle.const_eval.specs.declared.stop.Stop.{Stop}
use Rattle.const_eval.specs.declared.stop.Stop.TheVariants.{Fault, NoMemory}

abbrev pub weight : ExprTree → ℕ
weight (tree.num n) = 0
weight (tree.text t) = 0
weight tree.undefined = 0
weight (tree.name n) = 0
weight (tree.bag k) = 0
weight (tree.member param safe n) = 0
weight (tree.neg a) = suc (weight a)
weight (tree.binary op a b) = suc (suc (weight a + weight b))
weight (tree.choose c a b) = suc (weight c + (weight a + weight b))

abbrev pub step : Scope → Op × ExprTree → Value → Result Value EvalFault
step s t x = with_right t.0 x (value_of s t.1)

abbrev pub run_row : Scope → List (Op × ExprTree) → Result Value EvalFault → Result Value EvalFault
run_row s [] r = r
run_row s (t ∷ ts) r = run_row s ts r >>= step s t

pub row_snoc : (s : Scope) (ts : List (Op × ExprTree)) (t : Op × ExprTree) (r : Result Value EvalFault) → run_row s (ts ++ t ∷ []) r ≡ run_row s ts (r >>= step s t)
row_snoc s [] t r = refl
row_snoc s (u ∷ ts) t r = ap (λ q. q >>= step s u) (row_snoc s ts t r)

pub row_err : (s : Scope) (ts : List (Op × ExprTree)) (e : EvalFault) → run_row s ts (Err e) ≡ Err e
row_err s [] e = refl
row_err s (u ∷ ts) e = ap (λ q. q >>= step s u) (row_err s ts e)

-- each right side is smaller than this
abbrev pub Below : ℕ → List (Op × ExprTree) → Type 0
Below n [] = Unit {0}
Below n (t ∷ ts) = (weight t.1 < n) × Below n ts

pub below_snoc : (n : ℕ) (ts : List (Op × ExprTree)) (t : Op × ExprTree) → Below n ts → weight t.1 < n → Below n (ts ++ t ∷ [])
below_snoc n [] t b h = (h, tt)
below_snoc n (u ∷ ts) t b h = (b.0, below_snoc n ts t b.1 h)

pub below_front : (n : ℕ) (ts : List (Op × ExprTree)) (t : Op × ExprTree) → Below n (ts ++ t ∷ []) → Below n ts
below_front n [] t b = tt
below_front n (u ∷ ts) t b = (b.0, below_front n ts t b.1)

pub below_last : (n : ℕ) (ts : List (Op × ExprTree)) (t : Op × ExprTree) → Below n (ts ++ t ∷ []) → weight t.1 < n
below_last n [] t b = b.0
below_last n (u ∷ ts) t b = below_last n ts t b.1

abbrev pub plain_step : Op × Bor Expr → Op × ExprTree
plain_step t = (t.0, expr_of t.1.now)

abbrev pub steps : List (Op × Bor Expr) → List (Op × ExprTree)
steps = map plain_step

steps_snoc : (xs : List (Op × Bor Expr)) (x : Op × Bor Expr) → steps (xs ++ x ∷ []) ≡ steps xs ++ plain_step x ∷ []
steps_snoc [] x = refl
steps_snoc (y ∷ xs) x = ap (λ l. plain_step y ∷ l) (steps_snoc xs x)

-- a node goes on the row
pub pushed : (s : Scope) (xs new : List (Op × Bor Expr)) (x : Op × Bor Expr) (first next : ExprTree) (v : Result Value EvalFault) → new ≡ xs ++ x ∷ [] → first ≡ tree.binary x.0 next (expr_of x.1.now)
    → run_row s (steps xs) (value_of s first) ≡ v → run_row s (steps new) (value_of s next) ≡ v
pushed s xs new x first next v is node h =
    ap (λ l. run_row s (steps l) (value_of s next)) is ∙ ap (λ l. run_row s l (value_of s next)) (steps_snoc xs x)
    ∙ row_snoc s (steps xs) (plain_step x) (value_of s next) ∙ ap (λ t. run_row s (steps xs) (value_of s t)) (sym node) ∙ h

pub pushed_below : (n : ℕ) (xs new : List (Op × Bor Expr)) (x : Op × Bor Expr) (first next : ExprTree) → new ≡ xs ++ x ∷ [] → first ≡ tree.binary x.0 next (expr_of x.1.now)
    → weight first ≤ n → Below n (steps xs) → Below n (steps new)
pushed_below n xs new x first next is node small b =
    let size : weight first ≡ suc (suc (weight next + weight (expr_of x.1.now))) = ap weight node in
    let p : List (Op × ExprTree) → Type 0 = λ l. Below n l in
    subst p (sym (ap steps is ∙ steps_snoc xs x)) (below_snoc n (steps xs) (plain_step x) b (omega (arith, size, small)))

pub pushed_small : (n : ℕ) (op : Op) (first next right : ExprTree) → first ≡ tree.binary op next right → weight first ≤ n → weight next ≤ n
pushed_small n op first next right node small =
    let size : weight first ≡ suc (suc (weight next + weight right)) = ap weight node in
    omega (arith, size, small)

-- a node is taken off the row
pub popped : (s : Scope) (old new : List (Op × Bor Expr)) (x : Op × Bor Expr) (a : Value) (v r : Result Value EvalFault) → old ≡ new ++ x ∷ [] → r ≡ with_right x.0 a (value_of s (expr_of x.1.now))
    → run_row s (steps old) (Ok a) ≡ v → run_row s (steps new) r ≡ v
popped s old new x a v r is one h =
    ap (run_row s (steps new)) one ∙ sym (ap (λ l. run_row s (steps l) (Ok a)) is ∙ ap (λ l. run_row s l (Ok a)) (steps_snoc new x) ∙ row_snoc s (steps new) (plain_step x) (Ok a)) ∙ h

pub popped_below : (n : ℕ) (old new : List (Op × Bor Expr)) (x : Op × Bor Expr) → old ≡ new ++ x ∷ [] → Below n (steps old) → Below n (steps new) × (weight (expr_of x.1.now) < n)
popped_below n old new x is b =
    let p : List (Op × ExprTree) → Type 0 = λ l. Below n l in
    let c : Below n (steps new ++ plain_step x ∷ []) = subst p (ap steps is ∙ steps_snoc new x) b in
    (below_front n (steps new) (plain_step x) c, below_last n (steps new) (plain_step x) c)

ended_row : (s : Scope) (xs : List (Op × Bor Expr)) (stop : Stop) (r v : Result Value EvalFault) → Gives {A = Value} (Err stop) r → run_row s (steps xs) r ≡ v → Gives {A = Value} (Err stop) v
ended_row s xs (Fault fault) r v is h = sym h ∙ ap (run_row s (steps xs)) is ∙ row_err s (steps xs) fault
ended_row s xs NoMemory r v is h = tt

-- what ends an operand early ends the row
pub ended : (s : Scope) (xs : List (Op × Bor Expr)) (answer : Result Value Stop) (stop : Stop) (r v : Result Value EvalFault) → answer ≡ Err stop → Gives {A = Value} (Err stop) r
    → run_row s (steps xs) r ≡ v → Gives answer v
ended s xs answer stop r v same is h = rw same (ended_row s xs stop r v is h)
