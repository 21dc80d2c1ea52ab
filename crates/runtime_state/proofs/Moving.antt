-- A plan under way hangs on the roots, the modules and what was fetched alone.
use Rattle.std.proofs.Common.{ℕ, Bool, List}
use Rattle.std.specs.Prelude.{Option, Some, None}
use Rattle.core_model.specs.Names.{Name}
use Rattle.core_model.specs.Sources.{Text}
use Rattle.core_model.specs.Page.{Plan}
use Rattle.client_model.specs.Instance.{Instance}
use Rattle.client_model.specs.Language.{Bag}
use Rattle.client_model.specs.Runtime.{Runtime, Invalidation}
use Rattle.client_plan.specs.UnderWay.{AreModules, IsNext, IsUnderWay, IsWalk}
use Rattle.client_plan.specs.declared.under_way.Modules.{Modules}
use Rattle.client_plan.specs.declared.under_way.Modules.TheVariants.{Anew, Renewed}
use Rattle.client_plan.specs.declared.under_way.Next.{Next}
use Rattle.client_plan.specs.declared.under_way.Next.TheVariants.{Fetch, Finish}
use Rattle.client_plan.specs.declared.under_way.UnderWay.{UnderWay}
use Rattle.client_plan.specs.declared.under_way.Walk.{Walk}
use Rattle.client_plan.specs.declared.under_way.Walk.TheVariants.{Begun, Spared}
use Rattle.runtime_state.specs.Standing.{IsPlan}

module _ (r : Runtime) (loaded : Bool) (forced : List Name) (plan : Option Plan) (instances : List Instance) (bags : List (Name × Bag)) (unsent : List Invalidation) (shelf : List (Text × ℕ)) (stopped : Bool) where
  -- the runtime with these
  abbrev pub moved : Runtime
  moved = record r { page = record r.page { loaded = loaded; forced = forced; plan = plan }; instances = instances; bags = bags; unsent = unsent; shelf = shelf; stopped = stopped }

  modules_moved : (p : Plan) (modules : Modules) → AreModules r p modules → AreModules moved p modules
  modules_moved p (Anew view) i = i
  modules_moved p Renewed i = record { kind = i.kind; there = i.there }

  next_moved : (p : Plan) (next : Next) → IsNext r p next → IsNext moved p next
  next_moved p (Fetch n) i = i
  next_moved p (Finish ready) i = record { none_needed = i.none_needed; modules = modules_moved p ready.modules i.modules; names = i.names; link = i.link; whole = i.whole }

  walk_moved : (p : Plan) (next : Next) (walk : Walk) → IsWalk r p next walk → IsWalk moved p next walk
  walk_moved p (Fetch n) (Begun walker) w = w
  walk_moved p (Fetch n) Spared w = w
  walk_moved p (Finish ready) walk w = w

  under_way_moved : (p : Plan) (u : UnderWay) → IsUnderWay r p u → IsUnderWay moved p u
  under_way_moved p u i = record { plan = i.plan; walk = walk_moved p u.next u.walk i.walk; next = next_moved p u.next i.next; texts = i.texts; pairs = i.pairs; cause = i.cause }

  pub plan_moved : (o : Option Plan) (u : Option UnderWay) → IsPlan r o u → IsPlan moved o u
  plan_moved None None i = tt
  plan_moved None (Some u) i = i
  plan_moved (Some p) None i = i
  plan_moved (Some p) (Some u) i = under_way_moved p u i
