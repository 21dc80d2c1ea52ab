-- Two small pages, and what the variables of their instances hold by the journal of their client.
use Rattle.std.specs.Prelude.{ℕ, pos, List, [], ◌∷◌, length, map, filter, reverse, option_map, Option, Some}
use Rattle.hmr_types.specs.declared.value.Value.TheVariants.{Num}
use Rattle.hmr_types.specs.declared.value.Slot.TheVariants.{Val}
use Rattle.core_model.specs.Names.{Name}
use Rattle.client_model.specs.Language.{Slots}
use Rattle.client_model.specs.Instance.{numbered}
use Rattle.world_model.specs.World.{Step, edits, settles, opens, turn}
use Rattle.world_model.specs.Playing.{Stage}
use Rattle.world_model.specs.Steps.{world_after}
use Rattle.world_model.specs.SmallPages.{m, x}
use Rattle.world_model.specs.HandlerScripts.{faulting_m, faulting_x}
use Rattle.world_laws.specs.CounterTurns.{loading, updating}
use Rattle.journal_laws.specs.FirstClient.{client_of, journal_in}
use Rattle.journal_laws.specs.Values.{values_left, imports_left, is_evaluation_of}
use Rattle.journal_laws.specs.FreshValues.{Valued, fresh_values}

-- what the journal left of the instances of these numbers
abbrev pub values_in : Stage → List Step → List ℕ → List Slots
values_in stage past numbers = map (values_left (journal_in stage past)) numbers

-- how often they were evaluated
abbrev pub evaluations_in : Stage → List Step → List ℕ → List ℕ
evaluations_in stage past numbers =
    map (λ k. length (filter (is_evaluation_of k) (journal_in stage past))) numbers

-- what the imports of the instance of this number hold by the journal
abbrev pub imports_in : Stage → List Step → ℕ → Option Slots
imports_in stage past k =
    option_map (imports_left stage.language (journal_in stage past))
    (numbered (client_of stage past).instances k)

-- the modules of the page, were it loaded anew
abbrev pub valued_anew : Stage → List Step → List (Name × Valued)
valued_anew stage past =
    fresh_values stage.language
    (world_after stage.language stage.roots stage.shelves past).core.sources.served stage.roots

-- the client's instances by their names, the oldest first
abbrev pub valued_now : Stage → List Step → List (Name × Valued)
valued_now stage past =
    map (λ i. (i.name, record { status = i.status; values = i.values }))
    (reverse (client_of stage past).instances)

-- one variable that holds this number
abbrev pub holding : Name → ℕ → Slots
holding x n = (x, Val (Num (pos n))) ∷ []

-- A counter's page is loaded: instance 1 is the counter, and 2 is main, which imports it and accepts it.

abbrev pub loaded : List Step
loaded = turn 1 ∷ turn 1 ∷ turn 1 ∷ loading

-- a new counter was served, and the client updated to it: instance 3
abbrev pub updated : List Step
updated = turn 1 ∷ turn 1 ∷ turn 1 ∷ updating

-- A page is loaded of a module that throws, instance 1, and of its importer, 2.

abbrev pub faulted : List Step
faulted =
    turn 1 ∷ turn 1 ∷ turn 1 ∷ opens 1 [] ∷ settles x 2 ∷ settles m 1 ∷ edits x (Some faulting_x) ∷
    edits m (Some faulting_m) ∷ []
