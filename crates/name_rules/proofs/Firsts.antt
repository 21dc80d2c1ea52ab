-- What each part breaks first is the least of what it breaks.
use Rattle.std.proofs.Common.{◌≡◌, ℕ, List, [], ◌∷◌, ◌++◌, Bool, true, false, not, ◌||◌, Option, Some, None, if◌then◌else◌, map, refl, ap, ◌∙◌}
use Rattle.std.specs.Str.{bytes_eq}
use Rattle.hmr_types.specs.Event.{is_event}
use Rattle.hmr_types.specs.declared.analysis.FaultWord.TheVariants.{DuplicateName, NotAssignable, Unexpected}
use Rattle.module_tree.specs.declared.tree.Op.{Op}
use Rattle.module_semantics.specs.Kinds.{NameAt}
use Rattle.module_semantics.specs.NameRules.{Broken, Within, outside, in_once, in_accept, accepts, all_broken, alone_rule, bound_by, broken_if, cond_broken, event_rule, expr_broken, exprs_broken, first_broken, handler_broken, has_name, is_bag, is_param, item_broken, least, lets_of, maybe_broken, names_of, once_broken, repeated, stmt_broken, stmts_broken}
use Rattle.module_semantics.specs.Raw as raw
use Rattle.module_semantics.specs.Raw.{RawExpr, RawStmt, RawStmts, RawHandler, RawOnce, RawItem, no_stmts, one_stmt}
use Rattle.module_semantics.specs.Reading.{flat, grouped}
use Rattle.name_rules.specs.Firsts.{accept_handler_first, accept_once_first, assign_first, cond_first, earlier, expr_first, exprs_first, first_if, item_first, items_first, maybe_first, module_first, once_first, once_handler_first, repeated_first, rowed_first, stmt_first, stmts_first}
use Rattle.name_rules.proofs.Earlier.{both, earlier_none, if_is, then_more}

or_assoc : (a b c : Bool) → (a || (b || c)) ≡ ((a || b) || c)
or_assoc true b c = refl
or_assoc false b c = refl

or_last : (a b : Bool) → (a || (b || false)) ≡ (b || a)
or_last true true = refl
or_last true false = refl
or_last false true = refl
or_last false false = refl

has_name_append : (n : List ℕ) (xs ys : List (List ℕ)) → has_name n (xs ++ ys) ≡ (has_name n xs || has_name n ys)
unfolding has_name
has_name_append n [] ys = refl
has_name_append n (x ∷ xs) ys = ap (λ h. bytes_eq n x || h) (has_name_append n xs ys) ∙ or_assoc (bytes_eq n x) (has_name n xs) (has_name n ys)

next_same : (n m : List ℕ) (before other : List (List ℕ)) → has_name m before ≡ has_name m other → has_name m (before ++ n ∷ []) ≡ has_name m (n ∷ other)
unfolding has_name
next_same n m before other same =
    has_name_append m before (n ∷ []) ∙ (or_last (has_name m before) (bytes_eq m n) ∙ ap (λ h. bytes_eq m n || h) same)

repeated_is : (ns : List NameAt) (before other : List (List ℕ)) (found : Option Broken) → ((m : List ℕ) → has_name m before ≡ has_name m other)
    → repeated_first before found ns ≡ earlier found (least (repeated other ns))
unfolding repeated least
repeated_is [] before other found same = earlier_none found
repeated_is (n ∷ ns) before other found same =
    then_more found (first_if (has_name n.name before) DuplicateName n.at) _ (broken_if (has_name n.name other) DuplicateName n.at) (repeated (n.name ∷ other) ns)
    (ap (λ h. first_if h DuplicateName n.at) (same n.name) ∙ if_is (has_name n.name other) DuplicateName n.at)
    (repeated_is ns (before ++ n.name ∷ []) (n.name ∷ other) (earlier found (first_if (has_name n.name before) DuplicateName n.at)) (λ m. next_same n.name m before other (same m)))

none_repeated : (ns : List NameAt) → repeated_first [] None ns ≡ least (repeated [] ns)
none_repeated ns = repeated_is ns [] [] None (λ m. refl)

pub expr_is : (w : Within) (e : RawExpr) → expr_first w e ≡ least (expr_broken w e)
unfolding expr_broken least
expr_is w (raw.num n) = refl
expr_is w (raw.text s) = refl
expr_is w raw.undefined = refl
expr_is w (raw.name n) = if_is (is_param w n.name) Unexpected n.at
expr_is w (raw.bag k) = refl
expr_is w (raw.member n safe k) = if_is (not (is_param w n.name)) Unexpected n.at
expr_is w (raw.neg a) = expr_is w a
expr_is w (raw.binary op a b) = both _ _ (expr_broken w a) (expr_broken w b) (expr_is w a) (expr_is w b)
expr_is w (raw.choose c a b) = both _ _ (expr_broken w c) (expr_broken w a ++ expr_broken w b) (expr_is w c) (both _ _ (expr_broken w a) (expr_broken w b) (expr_is w a) (expr_is w b))

-- a row groups to the left
pub row_first_is : (w : Within) (a : RawExpr) (bs : List (Op × RawExpr)) → expr_first w (grouped a bs) ≡ rowed_first w (expr_first w a) bs
row_first_is w a [] = refl
row_first_is w a (b ∷ bs) = row_first_is w (raw.binary b.0 a b.1) bs

exprs_are : (w : Within) (es : List RawExpr) (found : Option Broken) → exprs_first w found es ≡ earlier found (least (exprs_broken w es))
unfolding least
exprs_are w [] found = earlier_none found
exprs_are w (e ∷ es) found = then_more found (expr_first w e) _ (expr_broken w e) (exprs_broken w es) (expr_is w e) (exprs_are w es (earlier found (expr_first w e)))

maybe_is : (w : Within) (e : Option RawExpr) → maybe_first w e ≡ least (maybe_broken w e)
unfolding least
maybe_is w None = refl
maybe_is w (Some e) = expr_is w e

name_is : (w : Within) (n : NameAt) (accepted : Bool) → (if accepted then None else first_if (is_param w n.name) Unexpected n.at) ≡ least (if accepted then [] else alone_rule w n)
unfolding least
name_is w n true = refl
name_is w n false = if_is (is_param w n.name) Unexpected n.at

cond_is : (w : Within) (e : RawExpr) → cond_first w e ≡ least (cond_broken w e)
unfolding least
cond_is w (raw.name n) = name_is w n (accepts w)
cond_is w (raw.num n) = refl
cond_is w (raw.text s) = refl
cond_is w raw.undefined = refl
cond_is w (raw.bag k) = refl
cond_is w (raw.member n safe k) = expr_is w (raw.member n safe k)
cond_is w (raw.neg a) = expr_is w (raw.neg a)
cond_is w (raw.binary op a b) = expr_is w (raw.binary op a b)
cond_is w (raw.choose c a b) = expr_is w (raw.choose c a b)

assign_is : (lets : List (List ℕ)) (w : Within) (n : NameAt) → assign_first lets w n ≡ least (broken_if (is_param w n.name || not (has_name n.name lets)) NotAssignable n.at)
assign_is lets w n = if_is (is_param w n.name || not (has_name n.name lets)) NotAssignable n.at

empty_is : (found : Option Broken) → found ≡ earlier found (least [])
unfolding least
empty_is found = earlier_none found

mutual
  stmt_is : (lets : List (List ℕ)) (w : Within) (s : RawStmt) → stmt_first lets w s ≡ least (stmt_broken lets w s)
  stmt_is lets w (raw.log es) = exprs_are w es None
  stmt_is lets w (raw.assign n e) = both _ _ _ (expr_broken w e) (assign_is lets w n) (expr_is w e)
  stmt_is lets w (raw.set n k e) = both _ _ _ (expr_broken w e) (if_is (not (is_bag w n.name)) Unexpected n.at) (expr_is w e)
  stmt_is lets w (raw.set_bag k e) = expr_is w e
  stmt_is lets w (raw.throw e) = expr_is w e
  stmt_is lets w (raw.invalidate at e) = both _ _ _ (maybe_broken w e) (if_is (not (accepts w)) Unexpected at) (maybe_is w e)
  stmt_is lets w (raw.branch c a b) =
      both _ _ (cond_broken w c) (stmts_broken lets w a ++ stmts_broken lets w b) (cond_is w c)
      (both _ _ (stmts_broken lets w a) (stmts_broken lets w b) (stmts_are lets w a None) (stmts_are lets w b None))

  stmts_are : (lets : List (List ℕ)) (w : Within) (r : RawStmts) (found : Option Broken) → stmts_first lets w found r ≡ earlier found (least (stmts_broken lets w r))
  stmts_are lets w no_stmts found = empty_is found
  stmts_are lets w (one_stmt s r) found =
      then_more found (stmt_first lets w s) _ (stmt_broken lets w s) (stmts_broken lets w r) (stmt_is lets w s) (stmts_are lets w r (earlier found (stmt_first lets w s)))

accept_handler_is : (lets : List (List ℕ)) (h : RawHandler) → accept_handler_first lets h ≡ least (handler_broken lets in_accept h)
accept_handler_is lets h =
    both _ _ (repeated [] h.params) (stmts_broken lets (in_accept (names_of h.params)) h.body) (none_repeated h.params) (stmts_are lets (in_accept (names_of h.params)) h.body None)

once_handler_is : (lets : List (List ℕ)) (h : RawHandler) → once_handler_first lets h ≡ least (handler_broken lets in_once h)
once_handler_is lets h =
    both _ _ (repeated [] h.params) (stmts_broken lets (in_once (names_of h.params)) h.body) (none_repeated h.params) (stmts_are lets (in_once (names_of h.params)) h.body None)

accept_once_is : (lets : List (List ℕ)) (o : RawOnce) → accept_once_first lets o ≡ least (once_broken lets in_accept o)
unfolding least
accept_once_is lets (raw.code h) = accept_handler_is lets h
accept_once_is lets (raw.host l) = refl

once_is : (lets : List (List ℕ)) (o : RawOnce) → once_first lets o ≡ least (once_broken lets in_once o)
unfolding least
once_is lets (raw.code h) = once_handler_is lets h
once_is lets (raw.host l) = refl

item_is : (lets : List (List ℕ)) (i : RawItem) → item_first lets i ≡ least (item_broken lets i)
unfolding least
item_is lets (raw.import s names) = refl
item_is lets (raw.declare exported mutable n e) = expr_is outside e
item_is lets (raw.act s) = stmt_is lets outside s
item_is lets (raw.own None) = refl
item_is lets (raw.own (Some o)) = accept_once_is lets o
item_is lets (raw.deps list specs None) = refl
item_is lets (raw.deps list specs (Some h)) = accept_handler_is lets h
item_is lets (raw.on n h) = both _ _ (handler_broken lets in_accept h) (event_rule n) (accept_handler_is lets h) (if_is (not (is_event n.name)) Unexpected n.at)
item_is lets (raw.dispose o) = once_is lets o
item_is lets (raw.prune o) = once_is lets o
item_is lets raw.decline = refl

items_are : (lets : List (List ℕ)) (is : List RawItem) (found : Option Broken) → items_first lets found is ≡ earlier found (least (flat (map (item_broken lets) is)))
unfolding least
items_are lets [] found = earlier_none found
items_are lets (i ∷ is) found =
    then_more found (item_first lets i) _ (item_broken lets i) (flat (map (item_broken lets) is)) (item_is lets i) (items_are lets is (earlier found (item_first lets i)))

module_is : (items : List RawItem) → module_first items ≡ first_broken items
unfolding all_broken
module_is items =
    items_are (lets_of items) items (repeated_first [] None (flat (map bound_by items)))
    ∙ both _ _ (repeated [] (flat (map bound_by items))) (flat (map (item_broken (lets_of items)) items)) (none_repeated (flat (map bound_by items))) refl

-- what a module breaks first
pub module_found : (items : List RawItem) (lets : List (List ℕ)) (bound : List NameAt) (first : Option Broken) → lets ≡ lets_of items → bound ≡ flat (map bound_by items)
    → first ≡ repeated_first [] None bound → items_first lets first items ≡ first_broken items
module_found items lets bound first are binds repeats =
    ap (λ l. items_first l first items) are ∙ (ap (λ f. items_first (lets_of items) f items) (repeats ∙ ap (repeated_first [] None) binds) ∙ module_is items)
