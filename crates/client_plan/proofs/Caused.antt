-- A plan for which a cause was found.
use Rattle.std.proofs.Common.{refl}
use Rattle.std.specs.Prelude.{Some}
use Rattle.core_model.specs.Page.{Plan}
use Rattle.client_model.specs.Runtime as model
use Rattle.client_model.specs.Runtime.{Runtime}
use Rattle.client_plan.specs.UnderWay.{AreModules, IsNext, IsUnderWay, IsWalk, cause_of, with_cause_of}
use Rattle.client_plan.specs.declared.cause.Cause.{Cause}
use Rattle.client_plan.specs.declared.under_way.Modules.{Modules}
use Rattle.client_plan.specs.declared.under_way.Modules.TheVariants.{Anew, Renewed}
use Rattle.client_plan.specs.declared.under_way.Next.{Next}
use Rattle.client_plan.specs.declared.under_way.Next.TheVariants.{Fetch, Finish}
use Rattle.client_plan.specs.declared.under_way.UnderWay.{UnderWay}
use Rattle.client_plan.specs.declared.under_way.Walk.{Walk}
use Rattle.client_plan.specs.declared.under_way.Walk.TheVariants.{Begun, Spared}

modules_caused : (r : Runtime) (p : Plan) (cause : model.Cause) (modules : Modules) → AreModules r p modules → AreModules (with_cause_of cause r) p modules
modules_caused r p cause (Anew view) i = i
modules_caused r p cause Renewed i = record { kind = i.kind; there = i.there }

next_caused : (r : Runtime) (p : Plan) (cause : model.Cause) (next : Next) → IsNext r p next → IsNext (with_cause_of cause r) p next
next_caused r p cause (Fetch n) i = i
next_caused r p cause (Finish ready) i = record { none_needed = i.none_needed; modules = modules_caused r p cause ready.modules i.modules; names = i.names; link = i.link; whole = i.whole }

walk_caused : (r : Runtime) (p : Plan) (cause : model.Cause) (next : Next) (walk : Walk) → IsWalk r p next walk → IsWalk (with_cause_of cause r) p next walk
walk_caused r p cause (Fetch n) (Begun walker) w = w
walk_caused r p cause (Fetch n) Spared w = w
walk_caused r p cause (Finish ready) walk w = w

-- a plan with a cause that was found
pub caused : (r : Runtime) (p : Plan) (cause : Cause) (u : UnderWay) → IsUnderWay r p u → IsUnderWay (with_cause_of (cause_of cause) r) p (record u { cause = Some cause })
caused r p cause u i = record { plan = i.plan; walk = walk_caused r p (cause_of cause) u.next u.walk i.walk; next = next_caused r p (cause_of cause) u.next i.next; texts = i.texts; pairs = i.pairs; cause = refl }
