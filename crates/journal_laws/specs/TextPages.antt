-- A page of one text of the module language that keeps its number for the next instance.
use Rattle.std.specs.Prelude.{ℕ, List, [], ◌∷◌, map, flat_map, reverse, option_map, Option, Some, codes}
use Rattle.core_model.specs.Names.{Name}
use Rattle.core_model.specs.Sources.{Text}
use Rattle.core_model.specs.Core.{client_at}
use Rattle.output_lines.specs.declared.words.InstanceFate.{InstanceFate}
use Rattle.client_model.specs.Runtime.{Runtime}
use Rattle.client_model.specs.Stale.{stale_of}
use Rattle.world_model.specs.Steps.{world_after}
use Rattle.client_model.specs.Language.{Bag}
use Rattle.module_language.specs.Examples.{m, x, keeper}
use Rattle.module_language.specs.ModuleLanguage.{module_language}
use Rattle.world_model.specs.World.{Step, edits, settles, opens, turn}
use Rattle.world_model.specs.Playing.{Stage}
use Rattle.world_laws.specs.Quiet.{turns}
use Rattle.journal_laws.specs.FirstClient.{journal_in}
use Rattle.journal_laws.specs.KeptCounter.{start_of}

-- ten times the number that is kept
abbrev pub tenfold : Text
tenfold =
    codes "export let n = 10*import.meta.hot.data.n\nimport.meta.hot.dispose(d => { d.n = n })\nimport.meta.hot.accept()\n"

abbrev pub text_page : Stage
text_page = record { language = module_language; roots = m ∷ []; shelves = [] }

-- the keeper is served and loaded, instance 1
abbrev pub keeping_loaded : List Step
keeping_loaded = turn 1 ∷ turn 1 ∷ opens 1 [] ∷ settles m 1 ∷ edits m (Some keeper) ∷ []

-- and then replaced, by instance 2
abbrev pub keeping_replaced : List Step
keeping_replaced = turn 1 ∷ turn 1 ∷ turn 1 ∷ settles m 2 ∷ edits m (Some tenfold) ∷ keeping_loaded

-- with which bags the instances started
abbrev pub text_starts : List Step → List (ℕ × Name × Bag)
text_starts past = flat_map start_of (journal_in text_page past)

-- Two texts, of which the one imports the other.

-- the client of this number, where it is open
abbrev pub text_client : ℕ → List Step → Option Runtime
text_client k past =
    client_at (world_after text_page.language text_page.roots text_page.shelves past).clients k

-- its instances, the oldest first: number, name and what became of it
abbrev pub text_fates : ℕ → List Step → Option (List (ℕ × Name × InstanceFate))
text_fates k past =
    option_map (λ r. map (λ i. (i.number, i.name, i.fate)) (reverse r.instances)) (text_client k past)

-- the edges at which it is stale
abbrev pub text_stale : ℕ → List Step → Option (List (Name × Name))
text_stale k past = option_map stale_of (text_client k past)

-- a constant
abbrev pub one : Text
one = codes "export const n = 1\n"

abbrev pub two : Text
two = codes "export const n = 2\n"

-- sees the constant, and hears of a new one
abbrev pub seeing : Text
seeing = codes
    "import {n} from './x.js'\nexport let seen = n\nimport.meta.hot.accept('./x.js', m => { seen = m?.n })\n"

-- both are served, and a client loads the page: instance 1 is the constant, 2 is the text that sees it
abbrev pub seeing_loaded : List Step
seeing_loaded =
    turn 1 ∷ turn 1 ∷ turn 1 ∷ opens 1 [] ∷ settles x 2 ∷ settles m 1 ∷ edits x (Some one) ∷
    edits m (Some seeing) ∷ []

-- the constant is replaced, by instance 3
abbrev pub seeing_updated : List Step
seeing_updated = turn 1 ∷ turn 1 ∷ turn 1 ∷ settles x 3 ∷ edits x (Some two) ∷ seeing_loaded

-- constants that accept themselves
abbrev pub leaf_one : Text
leaf_one = codes "export const n = 1\nimport.meta.hot.accept()\n"

abbrev pub leaf_two : Text
leaf_two = codes "export const n = 2\nimport.meta.hot.accept()\n"

-- sees the constant, and accepts nothing
abbrev pub reading : Text
reading = codes "import {n} from './x.js'\nexport let seen = n\n"

-- the text that sees the constant is edited; it doesn't accept itself, so the page is reloaded: instance 4
-- is the constant, and 5 the text that sees it
abbrev pub seeing_reloaded : List Step
seeing_reloaded = turns 1 4 (settles m 4 ∷ edits m (Some reading) ∷ seeing_updated)

-- the leaf is replaced below its importer, which isn't made anew
abbrev pub leaf_updated : List Step
leaf_updated =
    turn 1 ∷ turn 1 ∷ turn 1 ∷ settles x 3 ∷ edits x (Some leaf_two) ∷ turn 1 ∷ turn 1 ∷ turn 1 ∷
    opens 1 [] ∷ settles x 2 ∷ settles m 1 ∷ edits x (Some leaf_one) ∷ edits m (Some reading) ∷ []

-- a constant whose callback on itself invalidates it
abbrev pub refusing : Text
refusing = codes "export const n = 1\nimport.meta.hot.accept(m => { import.meta.hot.invalidate('no') })\n"

-- sees the constant, and accepts itself
abbrev pub self_seeing : Text
self_seeing = codes "import {n} from './x.js'\nexport let seen = n\nimport.meta.hot.accept()\n"

-- two clients load the page; the constant is replaced, and the first client alone makes turns
abbrev pub invalidated : List Step
invalidated =
    turns 1 9 (settles x 3 ∷ edits x (Some leaf_two) ∷
    turns 2 3 (turns 1 3
    (opens 1 [] ∷ opens 1 [] ∷ settles x 2 ∷ settles m 1 ∷ edits x (Some refusing) ∷
    edits m (Some self_seeing) ∷ [])))
