-- Small runs of the core, to be computed.
use Rattle.std.specs.Prelude.{ℕ, List, [], ◌∷◌, ◌++◌, Option, Some, option_map, codes}
use Rattle.hmr_types.specs.declared.analysis.Analysis.{Analysis}
use Rattle.hmr_types.specs.declared.analysis.TextFault.{TextFault}
use Rattle.hmr_types.specs.declared.analysis.Outcome.TheVariants.{Good, Bad}
use Rattle.hmr_types.specs.declared.analysis.FaultWord.TheVariants.{BadByte}
use Rattle.update_msgs.specs.declared.message.JsUpdate.{JsUpdate}
use Rattle.core_model.specs.Names.{Name}
use Rattle.core_model.specs.Sources.{Text, edit, result}
use Rattle.core_model.specs.Requests.{ask, fetch, applied_as}
use Rattle.core_model.specs.Core.{Core, Event, change, connect, request, client_at, replay}
use Rattle.core_model.specs.View.{View, Entry, table_of}
use Rattle.core_model.specs.Client.{Client}
use Rattle.core_model.specs.Examples.{plain, self_accepting, m, a, b}
use Rattle.core_laws.specs.Batch.{Turn}

-- the page's one root
abbrev pub roots : List Name
roots = m ∷ []

-- a module is saved, and its text is good: this is its version
abbrev pub saved : Name → Text → Analysis → ℕ → List Event
saved n t told v = change (edit n (Some t)) ∷ change (result n t (Good told) v) ∷ []

-- a module is saved, and its text can't be read
abbrev pub broken : Name → Text → TextFault → ℕ → List Event
broken n t fault v = change (edit n (Some t)) ∷ change (result n t (Bad fault) v) ∷ []

abbrev pub first_text : Text
first_text = codes "1"

abbrev pub second_text : Text
second_text = codes "2"

abbrev pub third_text : Text
third_text = codes "3"

-- m imports a, and accepts it
abbrev pub served : List Event
served = saved m first_text (plain (a ∷ []) (a ∷ [])) 1 ++ saved a first_text (plain [] []) 2

-- the client of this number loads the page
abbrev pub loads : ℕ → List Event
loads i =
    connect [] ∷ request i (fetch m) ∷ request i (fetch a)
    ∷ request i (applied_as ((a, 2) ∷ (m, 1) ∷ [])) ∷ []

-- a is saved with an import of b, which is new
abbrev pub grown : List Event
grown = saved a second_text (plain (b ∷ []) []) 3 ++ saved b first_text (plain [] []) 4

-- the first client updates its page
abbrev pub updates : List Event
updates =
    request 1 ask ∷ request 1 (fetch a) ∷ request 1 (fetch b)
    ∷ request 1 (applied_as ((a, 3) ∷ (b, 4) ∷ (m, 1) ∷ [])) ∷ []

-- a is saved without the import
abbrev pub shrunk : List Event
shrunk = saved a third_text (plain [] []) 5

-- and updates it again
abbrev pub updates_again : List Event
updates_again =
    request 1 ask ∷ request 1 (fetch a) ∷ request 1 (applied_as ((a, 5) ∷ (b, 4) ∷ (m, 1) ∷ [])) ∷ []

-- m imports a, which accepts itself
abbrev pub served_leaf : List Event
served_leaf = saved m first_text (plain (a ∷ []) []) 1 ++ saved a first_text (self_accepting (plain [] [])) 2

-- a is saved while the first client loads the page, which has then fetched both modules
abbrev pub loads_meanwhile : List Event
loads_meanwhile =
    connect [] ∷ request 1 (fetch m) ∷ request 1 (fetch a) ∷ saved a second_text (plain [] []) 3
    ++ request 1 (applied_as ((a, 2) ∷ (m, 1) ∷ [])) ∷ []

-- m is to be told that a has this version
abbrev pub told_of_a : ℕ → JsUpdate
told_of_a v = record { path = m; accepted_path = a; timestamp = v }

abbrev pub some_fault : TextFault
some_fault = record { line = 1; col = 1; word = BadByte }

-- the modules of a client's page
abbrev pub page_of : Core → ℕ → Option (List (Name × ℕ))
page_of core i = option_map (λ (c : Client). table_of c.page.view) (client_at core.clients i)

-- the core after these events
abbrev pub after : List Event → Core
after events = replay roots events

-- A batch: m imports a and b and accepts both; first a changes, then b.

abbrev pub entry : ℕ → Analysis → Entry
entry v told = record { version = v; analysis = told }

abbrev pub of_m : Analysis
of_m = plain (a ∷ b ∷ []) (a ∷ b ∷ [])

abbrev pub of_leaf : Analysis
of_leaf = plain [] []

abbrev pub first_view : View
first_view = (a, entry 2 of_leaf) ∷ (b, entry 3 of_leaf) ∷ (m, entry 1 of_m) ∷ []

abbrev pub of_a : Turn
of_a = record { name = a; staged = (a, entry 4 of_leaf) ∷ [] }

abbrev pub of_b : Turn
of_b = record { name = b; staged = (b, entry 5 of_leaf) ∷ [] }

abbrev pub two_turns : List Turn
two_turns = of_a ∷ of_b ∷ []

-- A second client has a page of its own root.

-- the client of this number loads a page of a alone
abbrev pub loads_a : ℕ → List Event
loads_a i = connect (a ∷ []) ∷ request i (fetch a) ∷ request i (applied_as ((a, 2) ∷ [])) ∷ []

-- a is saved after both pages are loaded
abbrev pub two_pages_changed : List Event
two_pages_changed = served ++ loads 1 ++ loads_a 2 ++ saved a second_text (plain [] []) 3

-- the first client's page grows by b, and a then does without it
abbrev pub shrinking : List Event
shrinking = served ++ loads 1 ++ grown ++ updates ++ shrunk ++ updates_again

-- a is saved with a text that can't be read
abbrev pub breaking : List Event
breaking = served ++ broken a second_text some_fault 3
