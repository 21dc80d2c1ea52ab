-- The rules on names, which are asked of a text that has the grammar. Each rule gives the places that break
-- it; the fault is the one at the least place.
use Rattle.std.specs.Prelude.{ℕ, List, [], ◌∷◌, ◌++◌, Bool, true, false, not, ◌||◌, nat_le, if◌then◌else◌}
use Rattle.std.specs.Prelude.{Option, Some, None, map}
use Rattle.std.specs.Str.{bytes_eq}
use Rattle.hmr_types.specs.Event.{is_event}
use Rattle.hmr_types.specs.declared.analysis.FaultWord.{FaultWord}
use Rattle.hmr_types.specs.declared.analysis.FaultWord.TheVariants.{DuplicateName, NotAssignable, Unexpected}
use Rattle.module_semantics.specs.Kinds.{NameAt}
use Rattle.module_semantics.specs.Raw as raw
use Rattle.module_semantics.specs.Raw.{RawExpr, RawStmt, RawStmts, RawHandler, RawOnce, RawImport, RawItem}
use Rattle.module_semantics.specs.Raw.{no_stmts, one_stmt}
use Rattle.module_semantics.specs.Reading.{flat}

-- a place that breaks a rule
pub record Broken : Type 0 where
  pub at : ℕ
  pub word : FaultWord

-- where a statement stands: in no callback, in one of `dispose` or `prune`, or in one of `accept` or `on`,
-- with these parameters
pub data Within : Type 0 where
  outside : Within
  in_once : List (List ℕ) → Within
  in_accept : List (List ℕ) → Within

-- the name is one of the list
unfoldable pub has_name : List ℕ → List (List ℕ) → Bool
has_name n [] = false
has_name n (m ∷ ms) = bytes_eq n m || has_name n ms

-- the name is a parameter of the callback
abbrev pub is_param : Within → List ℕ → Bool
is_param outside n = false
is_param (in_once ps) n = has_name n ps
is_param (in_accept ps) n = has_name n ps

-- the name is a parameter of a `dispose` or `prune` callback
abbrev pub is_bag : Within → List ℕ → Bool
is_bag outside n = false
is_bag (in_once ps) n = has_name n ps
is_bag (in_accept ps) n = false

-- it stands in a callback of `accept` or `on`
abbrev pub accepts : Within → Bool
accepts outside = false
accepts (in_once ps) = false
accepts (in_accept ps) = true

-- a broken rule at a place, where the test says so
abbrev pub broken_if : Bool → FaultWord → ℕ → List Broken
broken_if test word at = if test then record { at = at; word = word } ∷ [] else []

-- a parameter stands alone only as the whole condition of an `if` in an accept callback
abbrev pub alone_rule : Within → NameAt → List Broken
alone_rule w n = broken_if (is_param w n.name) Unexpected n.at

-- the name before a dot, in an expression, is a parameter of the callback
abbrev pub member_rule : Within → NameAt → List Broken
member_rule w n = broken_if (not (is_param w n.name)) Unexpected n.at

-- an assignment names a `let` of the module that no parameter of the callback hides
abbrev pub assign_rule : List (List ℕ) → Within → NameAt → List Broken
assign_rule lets w n = broken_if (is_param w n.name || not (has_name n.name lets)) NotAssignable n.at

-- an assignment to a key stands in a `dispose` or `prune` callback, and names its parameter
abbrev pub key_rule : Within → NameAt → List Broken
key_rule w n = broken_if (not (is_bag w n.name)) Unexpected n.at

-- an invalidation stands in an accept callback
abbrev pub invalidate_rule : Within → ℕ → List Broken
invalidate_rule w at = broken_if (not (accepts w)) Unexpected at

-- names are all different: those that repeat an earlier one
unfoldable pub repeated : List (List ℕ) → List NameAt → List Broken
repeated before [] = []
repeated before (n ∷ ns) =
    broken_if (has_name n.name before) DuplicateName n.at ++ repeated (n.name ∷ before) ns

-- what is broken in an expression
unfoldable pub expr_broken : Within → RawExpr → List Broken
expr_broken w (raw.num n) = []
expr_broken w (raw.text s) = []
expr_broken w raw.undefined = []
expr_broken w (raw.name n) = alone_rule w n
expr_broken w (raw.bag k) = []
expr_broken w (raw.member n safe k) = member_rule w n
expr_broken w (raw.neg a) = expr_broken w a
expr_broken w (raw.binary op a b) = expr_broken w a ++ expr_broken w b
expr_broken w (raw.choose c a b) = expr_broken w c ++ (expr_broken w a ++ expr_broken w b)

-- in several, in order
abbrev pub exprs_broken : Within → List RawExpr → List Broken
exprs_broken w [] = []
exprs_broken w (e ∷ es) = expr_broken w e ++ exprs_broken w es

-- in one that may be missing
abbrev pub maybe_broken : Within → Option RawExpr → List Broken
maybe_broken w None = []
maybe_broken w (Some e) = expr_broken w e

-- the condition of an `if` may be a parameter of an accept callback
abbrev pub cond_broken : Within → RawExpr → List Broken
cond_broken w (raw.name n) = if accepts w then [] else alone_rule w n
cond_broken w (raw.num n) = []
cond_broken w (raw.text s) = []
cond_broken w raw.undefined = []
cond_broken w (raw.bag k) = []
cond_broken w (raw.member n safe k) = expr_broken w (raw.member n safe k)
cond_broken w (raw.neg a) = expr_broken w (raw.neg a)
cond_broken w (raw.binary op a b) = expr_broken w (raw.binary op a b)
cond_broken w (raw.choose c a b) = expr_broken w (raw.choose c a b)

-- lets are the names that `let` declares in the module
abbrev mutual
  pub stmt_broken : List (List ℕ) → Within → RawStmt → List Broken
  stmt_broken lets w (raw.log es) = exprs_broken w es
  stmt_broken lets w (raw.assign n e) = assign_rule lets w n ++ expr_broken w e
  stmt_broken lets w (raw.set n k e) = key_rule w n ++ expr_broken w e
  stmt_broken lets w (raw.set_bag k e) = expr_broken w e
  stmt_broken lets w (raw.throw e) = expr_broken w e
  stmt_broken lets w (raw.invalidate at e) = invalidate_rule w at ++ maybe_broken w e
  stmt_broken lets w (raw.branch c a b) = cond_broken w c ++ (stmts_broken lets w a ++ stmts_broken lets w b)

  pub stmts_broken : List (List ℕ) → Within → RawStmts → List Broken
  stmts_broken lets w no_stmts = []
  stmts_broken lets w (one_stmt s r) = stmt_broken lets w s ++ stmts_broken lets w r

-- the names without their places
abbrev pub names_of : List NameAt → List (List ℕ)
names_of ns = map (λ n. n.name) ns

-- the parameters of one callback are different
abbrev pub handler_broken : List (List ℕ) → (List (List ℕ) → Within) → RawHandler → List Broken
handler_broken lets within h = repeated [] h.params ++ stmts_broken lets (within (names_of h.params)) h.body

-- what is broken in a callback
abbrev pub once_broken : List (List ℕ) → (List (List ℕ) → Within) → RawOnce → List Broken
once_broken lets within (raw.code h) = handler_broken lets within h
once_broken lets within (raw.host l) = []

-- what `on` listens to is the name of an event
abbrev pub event_rule : NameAt → List Broken
event_rule n = broken_if (not (is_event n.name)) Unexpected n.at

-- what is broken in an item
abbrev pub item_broken : List (List ℕ) → RawItem → List Broken
item_broken lets (raw.import s names) = []
item_broken lets (raw.declare exported mutable n e) = expr_broken outside e
item_broken lets (raw.act s) = stmt_broken lets outside s
item_broken lets (raw.own None) = []
item_broken lets (raw.own (Some o)) = once_broken lets in_accept o
item_broken lets (raw.deps list specs None) = []
item_broken lets (raw.deps list specs (Some h)) = handler_broken lets in_accept h
item_broken lets (raw.on n h) = handler_broken lets in_accept h ++ event_rule n
item_broken lets (raw.dispose o) = once_broken lets in_once o
item_broken lets (raw.prune o) = once_broken lets in_once o
item_broken lets raw.decline = []

-- the locals of imports and the declared names
abbrev pub bound_by : RawItem → List NameAt
bound_by (raw.import s names) = map (λ i. i.local) names
bound_by (raw.declare exported mutable n e) = n ∷ []
bound_by (raw.act s) = []
bound_by (raw.own o) = []
bound_by (raw.deps list specs h) = []
bound_by (raw.on n h) = []
bound_by (raw.dispose o) = []
bound_by (raw.prune o) = []
bound_by raw.decline = []

-- the names that an item declares by `let`
abbrev pub lets_by : RawItem → List (List ℕ)
lets_by (raw.import s names) = []
lets_by (raw.declare exported mutable n e) = if mutable then n.name ∷ [] else []
lets_by (raw.act s) = []
lets_by (raw.own o) = []
lets_by (raw.deps list specs h) = []
lets_by (raw.on n h) = []
lets_by (raw.dispose o) = []
lets_by (raw.prune o) = []
lets_by raw.decline = []

-- the names that `let` declares
abbrev pub lets_of : List RawItem → List (List ℕ)
lets_of items = flat (map lets_by items)

-- every place of a module that breaks a rule
unfoldable pub all_broken : List RawItem → List Broken
all_broken items = repeated [] (flat (map bound_by items)) ++ flat (map (item_broken (lets_of items)) items)

-- the one at the lesser place
abbrev pub lesser : Broken → Option Broken → Broken
lesser b None = b
lesser b (Some c) = if nat_le b.at c.at then b else c

-- the one at the least place
unfoldable pub least : List Broken → Option Broken
least [] = None
least (b ∷ bs) = Some (lesser b (least bs))

-- what breaks a rule first, unless the rules hold
abbrev pub first_broken : List RawItem → Option Broken
first_broken items = least (all_broken items)
