-- Each step of the world keeps its facts, from any world that has them.
use Rattle.std.proofs.Common.{◌≡◌, ℕ, true, List, []}
use Rattle.std.specs.Prelude.{Option, is_some}
use Rattle.std.proofs.lemmas.Option.{IfSome_then}
use Rattle.hmr_types.specs.declared.analysis.Analysis.{Analysis}
use Rattle.core_model.specs.Names.{Name}
use Rattle.core_model.specs.Sources.{Text}
use Rattle.core_model.specs.Core.{Core, Event, client_at, step}
use Rattle.core_laws.specs.Kept.{CoreFacts, given_by}
use Rattle.core_laws.proofs.Events.{facts_on, core_facts}
use Rattle.client_model.specs.Language.{Language}
use Rattle.world_model.specs.World.{World, Step, new_world}
use Rattle.world_model.specs.Steps.{world_step}
use Rattle.world_model.proofs.Tying.{IsSound, step_sound}
use Rattle.world_laws.specs.Kept.{WorldFacts}
use Rattle.world_laws.proofs.Freshness.{step_core}
use Rattle.world_laws.proofs.TurnsEnding.{HaveFacts, step_ends}

-- the core has its facts, whatever was given
record HasCoreFacts (core : Core) : Type 0 where
  by : Name → ℕ → Option Analysis
  facts : CoreFacts by core

one_more : (roots : List Name) (core : Core) (event : Event) → HasCoreFacts core → HasCoreFacts (step roots core event).0
one_more roots core event h = record { by = given_by core h.by event; facts = facts_on roots h.by core event h.facts }

records : (by : Name → ℕ → Option Analysis) (core : Core) → CoreFacts by core → HaveFacts core
records by core h i = IfSome_then (client_at core.clients i) (h.clients i) (λ client facts. record { by = by; all_given = h.sources.served; facts = facts })

pub step_keeps : (language : Language) (roots : List Name) (shelves : List (List (Text × ℕ))) (w : World) (s : Step) → WorldFacts language w → is_some (world_step language roots shelves w s).lines ≡ true → WorldFacts language (world_step language roots shelves w s).world
step_keeps language roots shelves w s h some =
    let sound : IsSound language w = record { tied = h.tied; served = h.served } in
    let after : IsSound language (world_step language roots shelves w s).world = step_sound language roots shelves w s sound some in
    let kept : HasCoreFacts (world_step language roots shelves w s).world.core = step_core language roots HasCoreFacts (one_more roots) shelves w s (record { by = h.by; facts = h.core }) in
    record { by = kept.by; core = kept.facts; tied = after.tied; served = after.served; plans = step_ends language roots shelves w s sound (records h.by w.core h.core) h.plans some }

pub first_has : (language : Language) → WorldFacts language new_world
first_has language = record { by = _; core = core_facts [] []; tied = λ i. tt; served = λ n. tt; plans = λ i. tt }
