-- What breaks a rule on names first, part by part. The parts so far are kept as the first that they break,
-- so that a list is gone over once.
use Rattle.std.specs.Prelude.{[], ◌∷◌, ◌++◌, ◌||◌}
use Rattle.std.specs.Prelude.{ℕ, List, Bool, not, if◌then◌else◌, Option, Some, None, map}
use Rattle.hmr_types.specs.Event.{is_event}
use Rattle.hmr_types.specs.declared.analysis.FaultWord.{FaultWord}
use Rattle.hmr_types.specs.declared.analysis.FaultWord.TheVariants.{DuplicateName, NotAssignable, Unexpected}
use Rattle.module_tree.specs.declared.tree.Op.{Op}
use Rattle.module_semantics.specs.Kinds.{NameAt}
use Rattle.module_semantics.specs.NameRules.{Broken, Within, outside, in_once, in_accept, accepts, bound_by}
use Rattle.module_semantics.specs.NameRules.{has_name, is_bag, is_param, lesser, lets_of, names_of}
use Rattle.module_semantics.specs.Raw as raw
use Rattle.module_semantics.specs.Raw.{RawExpr, RawStmt, RawStmts, RawHandler}
use Rattle.module_semantics.specs.Raw.{RawOnce, RawItem, no_stmts, one_stmt}
use Rattle.module_semantics.specs.Reading.{flat}
use Rattle.name_rules.specs.Alone.{alone}

-- the one at the lesser place; of two at one place, the first
abbrev pub earlier : Option Broken → Option Broken → Option Broken
earlier None later = later
earlier (Some b) later = Some (lesser b later)

-- a broken rule at a place, where the test says so
abbrev pub first_if : Bool → FaultWord → ℕ → Option Broken
first_if test word at = if test then Some (record { at = at; word = word }) else None

-- names are all different: the first that repeats one of those before it
abbrev pub repeated_first : List (List ℕ) → Option Broken → List NameAt → Option Broken
repeated_first before found [] = found
repeated_first before found (n ∷ ns) =
    repeated_first (before ++ n.name ∷ [])
    (earlier found (first_if (has_name n.name before) DuplicateName n.at)) ns

-- in an expression
abbrev pub expr_first : Within → RawExpr → Option Broken
expr_first w (raw.num n) = None
expr_first w (raw.text s) = None
expr_first w raw.undefined = None
expr_first w (raw.name n) = first_if (is_param w n.name) Unexpected n.at
expr_first w (raw.bag k) = None
expr_first w (raw.member n safe k) = first_if (not (is_param w n.name)) Unexpected n.at
expr_first w (raw.neg a) = expr_first w a
expr_first w (raw.binary op a b) = earlier (expr_first w a) (expr_first w b)
expr_first w (raw.choose c a b) = earlier (expr_first w c) (earlier (expr_first w a) (expr_first w b))

-- in what follows the first operand of a row
abbrev pub rowed_first : Within → Option Broken → List (Op × RawExpr) → Option Broken
rowed_first w found [] = found
rowed_first w found (b ∷ bs) = rowed_first w (earlier found (expr_first w b.1)) bs

-- in several, in order
abbrev pub exprs_first : Within → Option Broken → List RawExpr → Option Broken
exprs_first w found [] = found
exprs_first w found (e ∷ es) = exprs_first w (earlier found (expr_first w e)) es

-- in one that may be missing
abbrev pub maybe_first : Within → Option RawExpr → Option Broken
maybe_first w None = None
maybe_first w (Some e) = expr_first w e

-- in a condition, which is perhaps a name alone
abbrev pub cond_by : Within → RawExpr → Option NameAt → Option Broken
cond_by w e None = expr_first w e
cond_by w e (Some n) = if accepts w then None else first_if (is_param w n.name) Unexpected n.at

-- in the condition of an `if`
abbrev pub cond_first : Within → RawExpr → Option Broken
cond_first w e = cond_by w e (alone e)

-- in the name that is assigned to
abbrev pub assign_first : List (List ℕ) → Within → NameAt → Option Broken
assign_first lets w n = first_if (is_param w n.name || not (has_name n.name lets)) NotAssignable n.at

-- in statements of a module in which `let` declares these names
abbrev mutual
  pub stmt_first : List (List ℕ) → Within → RawStmt → Option Broken
  stmt_first lets w (raw.log es) = exprs_first w None es
  stmt_first lets w (raw.assign n e) = earlier (assign_first lets w n) (expr_first w e)
  stmt_first lets w (raw.set n k e) =
      earlier (first_if (not (is_bag w n.name)) Unexpected n.at) (expr_first w e)
  stmt_first lets w (raw.set_bag k e) = expr_first w e
  stmt_first lets w (raw.throw e) = expr_first w e
  stmt_first lets w (raw.invalidate at e) =
      earlier (first_if (not (accepts w)) Unexpected at) (maybe_first w e)
  stmt_first lets w (raw.branch c a b) =
      earlier (cond_first w c) (earlier (stmts_first lets w None a) (stmts_first lets w None b))

  pub stmts_first : List (List ℕ) → Within → Option Broken → RawStmts → Option Broken
  stmts_first lets w found no_stmts = found
  stmts_first lets w found (one_stmt s r) = stmts_first lets w (earlier found (stmt_first lets w s)) r

-- in a callback of `accept`
abbrev pub accept_handler_first : List (List ℕ) → RawHandler → Option Broken
accept_handler_first lets h =
    earlier (repeated_first [] None h.params) (stmts_first lets (in_accept (names_of h.params)) None h.body)

-- in a callback of an event, and last in the name of the event
abbrev pub listener_first : List (List ℕ) → NameAt → RawHandler → Option Broken
listener_first lets n h =
    earlier (accept_handler_first lets h) (first_if (not (is_event n.name)) Unexpected n.at)

-- in a callback of `dispose` or `prune`
abbrev pub once_handler_first : List (List ℕ) → RawHandler → Option Broken
once_handler_first lets h =
    earlier (repeated_first [] None h.params) (stmts_first lets (in_once (names_of h.params)) None h.body)

-- in what `accept` of the module itself takes
abbrev pub accept_once_first : List (List ℕ) → RawOnce → Option Broken
accept_once_first lets (raw.code h) = accept_handler_first lets h
accept_once_first lets (raw.host l) = None

-- in what `dispose` and `prune` take
abbrev pub once_first : List (List ℕ) → RawOnce → Option Broken
once_first lets (raw.code h) = once_handler_first lets h
once_first lets (raw.host l) = None

-- in an item of a module in which `let` declares these names
abbrev pub item_first : List (List ℕ) → RawItem → Option Broken
item_first lets (raw.import s names) = None
item_first lets (raw.declare exported mutable n e) = expr_first outside e
item_first lets (raw.act s) = stmt_first lets outside s
item_first lets (raw.own None) = None
item_first lets (raw.own (Some o)) = accept_once_first lets o
item_first lets (raw.deps list specs None) = None
item_first lets (raw.deps list specs (Some h)) = accept_handler_first lets h
item_first lets (raw.on n h) = listener_first lets n h
item_first lets (raw.dispose o) = once_first lets o
item_first lets (raw.prune o) = once_first lets o
item_first lets raw.decline = None

-- in these items of a module in which `let` declares these names
abbrev pub items_first : List (List ℕ) → Option Broken → List RawItem → Option Broken
items_first lets found [] = found
items_first lets found (i ∷ is) = items_first lets (earlier found (item_first lets i)) is

-- in a module
abbrev pub module_first : List RawItem → Option Broken
module_first items = items_first (lets_of items) (repeated_first [] None (flat (map bound_by items))) items
