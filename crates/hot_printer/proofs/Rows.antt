-- Rows of operators: the operator and the right side of each node, and whether it stands in parentheses, the outermost first.
use Rattle.std.proofs.Common.{◌≡◌, ℕ, suc, ◌+◌, ◌<◌, ◌≤◌, List, [], ◌∷◌, ◌++◌, Bool, true, false, refl, ap, ◌∙◌, sym, subst, map, arith, append_assoc, Bor}
use Rattle.std.specs.Prelude.{codes, nat_lt, if◌then◌else◌}
use Rattle.std.proofs.lemmas.List.{append-nil}
use Rattle.module_tree.specs.Tree.{expr_of}
use Rattle.module_tree.specs.declared.tree.Expr.{Expr}
use Rattle.module_tree.specs.declared.tree.Op.{Op}
use Rattle.module_tree.specs.Syntax as tree
use Rattle.module_tree.specs.Syntax.{ExprTree}
use Rattle.module_semantics.specs.Canon.{op_level}
use Rattle.hot_printer.specs.Rows.{after_left, at_place, closing, opening, right_text}

-- how much there is in an expression
abbrev pub weight : ExprTree → ℕ
weight (tree.num n) = 0
weight (tree.text t) = 0
weight tree.undefined = 0
weight (tree.name n) = 0
weight (tree.bag k) = 0
weight (tree.member param safe n) = 0
weight (tree.neg a) = suc (weight a)
weight (tree.binary op a b) = suc (suc (weight a + weight b))
weight (tree.choose c a b) = suc (weight c + (weight a + weight b))

abbrev pub Node : Type 0
Node = Op × ExprTree × Bool

-- what stands behind the first operand: the innermost stands first in the text
abbrev pub row_text : List (List ℕ) → List Node → List ℕ
row_text ps [] = []
row_text ps (n ∷ ns) = row_text ps ns ++ after_left ps n

pub row_snoc : (ps : List (List ℕ)) (ns : List Node) (n : Node) → row_text ps (ns ++ n ∷ []) ≡ after_left ps n ++ row_text ps ns
row_snoc ps [] n = sym (append-nil (after_left ps n))
row_snoc ps (m ∷ ns) n = ap (λ t. t ++ after_left ps m) (row_snoc ps ns n) ∙ append_assoc (after_left ps n) (row_text ps ns) (after_left ps m)

-- each right side is smaller than this
abbrev pub Below : ℕ → List Node → Type 0
Below n [] = Unit {0}
Below n (t ∷ ts) = (weight t.1 < n) × Below n ts

below_snoc : (n : ℕ) (ts : List Node) (t : Node) → Below n ts → weight t.1 < n → Below n (ts ++ t ∷ [])
below_snoc n [] t b h = (h, tt)
below_snoc n (u ∷ ts) t b h = (b.0, below_snoc n ts t b.1 h)

below_front : (n : ℕ) (ts : List Node) (t : Node) → Below n (ts ++ t ∷ []) → Below n ts
below_front n [] t b = tt
below_front n (u ∷ ts) t b = (b.0, below_front n ts t b.1)

below_last : (n : ℕ) (ts : List Node) (t : Node) → Below n (ts ++ t ∷ []) → weight t.1 < n
below_last n [] t b = b.0
below_last n (u ∷ ts) t b = below_last n ts t b.1

abbrev pub Told : Type 0
Told = Op × Bor Expr × Bool

abbrev pub plain_node : Told → Node
plain_node t = (t.0, expr_of t.1.now, t.2)

abbrev pub nodes : List Told → List Node
nodes = map plain_node

nodes_snoc : (xs : List Told) (x : Told) → nodes (xs ++ x ∷ []) ≡ nodes xs ++ plain_node x ∷ []
nodes_snoc [] x = refl
nodes_snoc (y ∷ xs) x = ap (λ l. plain_node y ∷ l) (nodes_snoc xs x)

row_nodes : (ps : List (List ℕ)) (xs new : List Told) (x : Told) → new ≡ xs ++ x ∷ [] → row_text ps (nodes new) ≡ after_left ps (plain_node x) ++ row_text ps (nodes xs)
row_nodes ps xs new x is = ap (λ l. row_text ps (nodes l)) is ∙ (ap (row_text ps) (nodes_snoc xs x) ∙ row_snoc ps (nodes xs) (plain_node x))

-- a node is the parenthesis that opens, its left side, and what stands behind that
node_by : (b : Bool) (l r : List ℕ) → (if b then codes "(" ++ ((l ++ r) ++ codes ")") else l ++ r) ≡ opening b ++ (l ++ (r ++ closing b))
node_by true l r = ap (λ t. 40 ∷ t) (append_assoc l r (41 ∷ []))
node_by false l r = ap (λ t. l ++ t) (sym (append-nil r))

node_text : (ps : List (List ℕ)) (place : ℕ) (op : Op) (l r : ExprTree) (b : Bool) → b ≡ nat_lt (op_level op) place
    → at_place ps place (tree.binary op l r) ≡ opening b ++ (at_place ps (op_level op) l ++ after_left ps (op, r, b))
node_text ps place op l r b is =
    ap (λ c. if c then codes "(" ++ ((at_place ps (op_level op) l ++ right_text ps op r) ++ codes ")") else at_place ps (op_level op) l ++ right_text ps op r) (sym is)
    ∙ node_by b (at_place ps (op_level op) l) (right_text ps op r)

regroup : (o p l a r : List ℕ) → (o ++ p) ++ (l ++ (a ++ r)) ≡ o ++ ((p ++ (l ++ a)) ++ r)
regroup o p l a r = simp append_assoc

-- a node goes on the row, and its parenthesis is written
pub pushed : (ps : List (List ℕ)) (out opened whole : List ℕ) (place : ℕ) (xs new : List Told) (x : Told) (first next : ExprTree)
    → new ≡ xs ++ x ∷ [] → first ≡ tree.binary x.0 next (expr_of x.1.now) → x.2 ≡ nat_lt (op_level x.0) place → opened ≡ out ++ opening x.2
    → out ++ (at_place ps place first ++ row_text ps (nodes xs)) ≡ whole → opened ++ (at_place ps (op_level x.0) next ++ row_text ps (nodes new)) ≡ whole
pushed ps out opened whole place xs new x first next is node closed opens h =
    let left : List ℕ = at_place ps (op_level x.0) next in
    let text : at_place ps place first ≡ opening x.2 ++ (left ++ after_left ps (plain_node x)) = ap (at_place ps place) node ∙ node_text ps place x.0 next (expr_of x.1.now) x.2 closed in
    ap (λ o. o ++ (left ++ row_text ps (nodes new))) opens
    ∙ (ap (λ r. (out ++ opening x.2) ++ (left ++ r)) (row_nodes ps xs new x is)
    ∙ (regroup out (opening x.2) left (after_left ps (plain_node x)) (row_text ps (nodes xs)) ∙ (ap (λ t. out ++ (t ++ row_text ps (nodes xs))) (sym text) ∙ h)))

pub pushed_below : (n : ℕ) (xs new : List Told) (x : Told) (first next : ExprTree) → new ≡ xs ++ x ∷ [] → first ≡ tree.binary x.0 next (expr_of x.1.now)
    → weight first ≤ n → Below n (nodes xs) → Below n (nodes new)
pushed_below n xs new x first next is node small b =
    let size : weight first ≡ suc (suc (weight next + weight (expr_of x.1.now))) = ap weight node in
    let p : List Node → Type 0 = λ l. Below n l in
    subst p (sym (ap nodes is ∙ nodes_snoc xs x)) (below_snoc n (nodes xs) (plain_node x) b (omega (arith, size, small)))

pub pushed_small : (n : ℕ) (op : Op) (first next right : ExprTree) → first ≡ tree.binary op next right → weight first ≤ n → weight next ≤ n
pushed_small n op first next right node small =
    let size : weight first ≡ suc (suc (weight next + weight right)) = ap weight node in
    omega (arith, size, small)

-- a node is taken off the row, and what stands behind its left side is written
pub popped : (ps : List (List ℕ)) (out right closed whole : List ℕ) (old new : List Told) (x : Told) → old ≡ new ++ x ∷ []
    → right ≡ out ++ right_text ps x.0 (expr_of x.1.now) → closed ≡ right ++ closing x.2 → out ++ row_text ps (nodes old) ≡ whole → closed ++ row_text ps (nodes new) ≡ whole
popped ps out right closed whole old new x is before after h =
    let r : List ℕ = right_text ps x.0 (expr_of x.1.now) in
    let rest : List ℕ = row_text ps (nodes new) in
    ap (λ o. o ++ rest) (after ∙ ap (λ o. o ++ closing x.2) before)
    ∙ (ap (λ o. o ++ rest) (append_assoc out r (closing x.2)) ∙ (append_assoc out (r ++ closing x.2) rest ∙ (ap (λ t. out ++ t) (sym (row_nodes ps new old x is)) ∙ h)))

pub popped_below : (n : ℕ) (old new : List Told) (x : Told) → old ≡ new ++ x ∷ [] → Below n (nodes old) → Below n (nodes new) × (weight (expr_of x.1.now) < n)
popped_below n old new x is b =
    let p : List Node → Type 0 = λ l. Below n l in
    let c : Below n (nodes new ++ plain_node x ∷ []) = subst p (ap nodes is ∙ nodes_snoc new x) b in
    (below_front n (nodes new) (plain_node x) c, below_last n (nodes new) (plain_node x) c)
