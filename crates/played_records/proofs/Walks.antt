-- The names that the walk of a plan meets are names, where those of the page and of the plan are.
use Rattle.std.proofs.Common.{ℕ, zero, suc, Bool, true, false, cond, List, [], ◌∷◌, Option, Some, None}
use Rattle.std.specs.Prelude.{filter, fold, is_none, IfSome}
use Rattle.hmr_types.specs.declared.words.PlanKind.{PlanKind}
use Rattle.hmr_types.specs.declared.words.PlanKind.TheVariants.{Load, Reload, Update}
use Rattle.core_model.specs.Formed.{IsName}
use Rattle.core_model.specs.Names.{Name, at, first_of, has}
use Rattle.core_model.specs.View.{Entry, View, imports_of}
use Rattle.core_model.specs.Page.{Page, Plan, entry_at, kept_or_staged}
use Rattle.std.specs.Option.{option_or}
use Rattle.client_model.specs.Linking.{new_names, next_needed}
use Rattle.client_model.specs.Order.{Walked, depth_of, evaluation_order, fetch_order, left_too, met_too, next_of, visit, walk, walked}
use Rattle.client_model.specs.Runtime.{Runtime}
use Rattle.record_agreement.proofs.Lists.{at_each, each_append, each_filter, each_weaker}
use Rattle.record_agreement.proofs.Named.{EntryNamed, Names, RowNamed, ViewNamed}

-- the entry that a plan has of a name

named_at : (view : View) (n : Name) → ViewNamed view → IfSome (at view n) EntryNamed
named_at view n h = at_each EntryNamed view n (each_weaker RowNamed (λ row. EntryNamed row.1) view (λ row r. r.1) h)

either : (kept staged : Option Entry) → IfSome kept EntryNamed → IfSome staged EntryNamed → IfSome (option_or kept staged) EntryNamed
either None staged g h = h
either (Some e) staged g h = g

entry_if : (b : Bool) (o p : Option Entry) → IfSome o EntryNamed → IfSome p EntryNamed → IfSome (cond b o p) EntryNamed
entry_if true o p g h = g
entry_if false o p g h = h

kept_named : (kind : PlanKind) (b : Bool) (kept staged : Option Entry) → IfSome kept EntryNamed → IfSome staged EntryNamed → IfSome (kept_or_staged kind b kept staged) EntryNamed
kept_named Load b kept staged g h = h
kept_named Reload b kept staged g h = h
kept_named Update b kept staged g h = entry_if b staged (option_or kept staged) h (either kept staged g h)

imports_named : (o : Option Entry) → IfSome o EntryNamed → Names (imports_of o)
imports_named None h = tt
imports_named (Some e) h = h.0

-- the walk

abbrev WalkNamed : Walked → Type 0
WalkNamed w = Names w.met × Names w.left

walk_if : (b : Bool) (w v : Walked) → WalkNamed w → WalkNamed v → WalkNamed (cond b w v)
walk_if true w v g h = g
walk_if false w v g h = h

module _ (next : Name → List Name) (nexts : (n : Name) → Names (next n)) where
  abbrev Keeps : (List Name → Walked → Walked) → Type 0
  Keeps deeper = (names : List Name) (w : Walked) → Names names → WalkNamed w → WalkNamed (deeper names w)

  met_named : (n : Name) (w : Walked) → IsName n → WalkNamed w → WalkNamed (met_too n w)
  met_named n w is h = (each_append IsName w.met (n ∷ []) h.0 (is, tt), h.1)

  left_named : (n : Name) (w : Walked) → IsName n → WalkNamed w → WalkNamed (left_too n w)
  left_named n w is h = (h.0, each_append IsName w.left (n ∷ []) h.1 (is, tt))

  visit_named : (deeper : List Name → Walked → Walked) → Keeps deeper → (w : Walked) (n : Name) → IsName n → WalkNamed w → WalkNamed (visit deeper next w n)
  visit_named deeper keeps w n is h =
      let on = deeper (next n) (met_too n w) in
      walk_if (has w.met n) w (left_too n on) h (left_named n on is (keeps (next n) (met_too n w) (nexts n) (met_named n w is h)))

  fold_named : (deeper : List Name → Walked → Walked) → Keeps deeper → (names : List Name) (w : Walked) → Names names → WalkNamed w → WalkNamed (fold (visit deeper next) w names)
  fold_named deeper keeps [] w g h = h
  fold_named deeper keeps (n ∷ names) w g h = fold_named deeper keeps names (visit deeper next w n) g.1 (visit_named deeper keeps w n g.0 h)

  walk_named : (depth : ℕ) → Keeps (walk depth next)
  walk_named zero names w g h = h
  walk_named (suc depth) names w g h = fold_named (walk depth next) (walk_named depth) names w g h

-- ---- the plan of a page

-- what a client knows of its page has names
pub record PageNamed (roots : List Name) (page : Page) : Type 0 where
  pub roots_are : Names roots
  pub view : ViewNamed page.view
  pub staged : IfSome page.plan (λ p. ViewNamed p.staged)

module _ (roots : List Name) (p : Plan) (view : View) (r : Names roots) (v : ViewNamed view) (s : ViewNamed p.staged) where
  nexts_named : (n : Name) → Names (next_of p view n)
  nexts_named n = imports_named (entry_at p view n) (kept_named p.kind (has p.replaced n) (at view n) (at p.staged n) (named_at view n v) (named_at p.staged n s))

  plan_walk : WalkNamed (walked roots p view)
  plan_walk = walk_named (next_of p view) nexts_named (depth_of roots p view) roots (record { met = []; left = [] }) r (tt, tt)

first_named : (ns : List Name) → Names ns → IfSome (first_of ns) IsName
first_named [] h = tt
first_named (n ∷ ns) h = h.0

-- the next module to be fetched
pub needed_named : (p : Plan) (r : Runtime) → Names r.roots → ViewNamed r.page.view → ViewNamed p.staged → IfSome (next_needed p r) IsName
needed_named p r roots v s =
    let order = fetch_order r.roots p r.page.view in
    first_named (filter (λ n. is_none (entry_at p r.page.view n)) order) (each_filter IsName (λ n. is_none (entry_at p r.page.view n)) order (plan_walk r.roots p r.page.view roots v s).0)

-- the modules that get a new instance
pub new_are_named : (p : Plan) (r : Runtime) → Names r.roots → ViewNamed r.page.view → ViewNamed p.staged → Names (new_names p r)
new_are_named p r roots v s = each_filter IsName _ (evaluation_order r.roots p r.page.view) (plan_walk r.roots p r.page.view roots v s).1
