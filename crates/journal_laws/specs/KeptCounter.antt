-- A page that imports a counter, doesn't, and does again: with which data each module starts, and how each
-- instance ends.
use Rattle.std.specs.Prelude.{ℕ, true, false, List, [], ◌∷◌, flat_map, Some, None, codes}
use Rattle.module_tree.specs.Syntax.{name, bag_set, code, declare, deps, own, dispose}
use Rattle.output_lines.specs.declared.words.InstanceFate.{InstanceFate}
use Rattle.core_model.specs.Names.{Name}
use Rattle.core_model.specs.Sources.{Text}
use Rattle.client_model.specs.Language.{Bag}
use Rattle.client_model.specs.Journal.{Happening, made, evaluated, not_run}
use Rattle.client_model.specs.Journal.{registered, no_host, ran, dropped}
use Rattle.client_model.specs.Journal.{ended, gave_up, gave_up_all, told}
use Rattle.world_model.specs.World.{Step, edits, settles, opens}
use Rattle.world_model.specs.Playing.{Stage}
use Rattle.world_model.specs.SmallLanguage.{Module}
use Rattle.world_model.specs.SmallPages.{m, c, importing, exporting, accepting, self_accepting, module_of}
use Rattle.world_model.specs.SmallPages.{page_of, callback}
use Rattle.world_model.specs.UpdateScripts.{count, kept_count_plus}
use Rattle.world_laws.specs.Quiet.{turns}
use Rattle.journal_laws.specs.FirstClient.{journal_in}

-- an evaluation's number, its name and the bag that it starts with
abbrev pub start_of : Happening → List (ℕ × Name × Bag)
start_of (made i) = []
start_of (evaluated k n before e) = (k, n, before) ∷ []
start_of (not_run k n) = []
start_of (registered k h) = []
start_of (no_host k n label) = []
start_of (ran k spot n at before left) = []
start_of (dropped k spot) = []
start_of (ended k n fate) = []
start_of (gave_up n) = []
start_of gave_up_all = []
start_of (told l) = []

-- an instance's number, its name and how it ended
abbrev pub end_of : Happening → List (ℕ × Name × InstanceFate)
end_of (made i) = []
end_of (evaluated k n before e) = []
end_of (not_run k n) = []
end_of (registered k h) = []
end_of (no_host k n label) = []
end_of (ran k spot n at before left) = []
end_of (dropped k spot) = []
end_of (ended k n fate) = (k, n, fate) ∷ []
end_of (gave_up n) = []
end_of gave_up_all = []
end_of (told l) = []

-- The page: m accepts itself and the counter c, which keeps its count in its bag when it goes.

abbrev pub with_counter : Text
with_counter =
    codes "import \"./counter.js\";\nimport.meta.hot.accept(\"./counter.js\");\nimport.meta.hot.accept();"

abbrev pub without_counter : Text
without_counter = codes "import.meta.hot.accept();"

abbrev pub by_one : Text
by_one =
    codes "export const count = (import.meta.hot.data.count ?? 0) + 1;\nimport.meta.hot.dispose((data) => { data.count = count });"

abbrev pub by_ten : Text
by_ten =
    codes "export const count = (import.meta.hot.data.count ?? 0) + 10;\nimport.meta.hot.dispose((data) => { data.count = count });"

-- a counter that goes on from the count that was kept
abbrev pub counting : ℕ → Module
counting k =
    module_of (exporting (count ∷ []) (importing [])) []
    (declare true false count (kept_count_plus k) ∷
    dispose (code (callback [] (bag_set count (name count)))) ∷ [])

abbrev pub keeping : Stage
keeping = page_of ((
  with_counter,
  module_of (self_accepting (accepting (c ∷ []) (importing (c ∷ [])))) []
      (deps false (c ∷ []) None ∷ own None ∷ []),
) ∷
    (without_counter, module_of (self_accepting (importing [])) [] (own None ∷ [])) ∷
    (by_one, counting 1) ∷
    (by_ten, counting 10) ∷ [])

-- both modules are served, and a client comes and loads the page; the newest step first
abbrev pub loaded : List Step
loaded =
    turns 1 3
    (opens 1 [] ∷ settles c 2 ∷ settles m 1 ∷ edits c (Some by_one) ∷ edits m (Some with_counter) ∷ [])

-- the counter is replaced
abbrev pub replaced : List Step
replaced = turns 1 3 (settles c 3 ∷ edits c (Some by_ten) ∷ loaded)

-- no module imports it any more
abbrev pub pruned : List Step
pruned = turns 1 4 (settles m 4 ∷ edits m (Some without_counter) ∷ replaced)

-- it is imported again
abbrev pub imported_again : List Step
imported_again = turns 1 4 (settles m 5 ∷ edits m (Some with_counter) ∷ pruned)

-- with which bags its instances started
abbrev pub starts_after : List Step → List (ℕ × Name × Bag)
starts_after past = flat_map start_of (journal_in keeping past)

-- how they ended
abbrev pub ends_after : List Step → List (ℕ × Name × InstanceFate)
ends_after past = flat_map end_of (journal_in keeping past)
