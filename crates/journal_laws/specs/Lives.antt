-- What becomes of the prune handlers of an instance, and what holds of each open client in every run.
use Rattle.std.specs.Prelude.{◌≡◌, ℕ, suc, Bool, true, false, ◌∷◌, ◌++◌, drop, slice_get, Contains, Some}
use Rattle.output_lines.specs.declared.words.FaultPlace.TheVariants as place
use Rattle.output_lines.specs.declared.words.InstanceFate.{InstanceFate}
use Rattle.output_lines.specs.declared.words.InstanceFate.TheVariants.{Live, Replaced, Pruned, Reloaded}
use Rattle.core_model.specs.Names.{Name}
use Rattle.core_model.specs.Client.{Client}
use Rattle.client_model.specs.Language.{Bag, Ran}
use Rattle.client_model.specs.Instance.{Instance, Handler, is_prune}
use Rattle.client_model.specs.Journal.{Journal, ran}
use Rattle.client_model.specs.Past.{journal_of}
use Rattle.client_model.specs.Runtime.{Runtime}
use Rattle.module_language.specs.ModuleLanguage.{module_language}
use Rattle.world_laws.specs.Runs.{Run, life_in, HasClient}
use Rattle.journal_laws.specs.Counts.{runs_of, drops_of, disposals}
use Rattle.journal_laws.specs.Ends.{is_displaced}

-- it holds of each client that is open in a run, and of all that happened in it, in every run
abbrev pub InEveryRun : (Runtime → Journal → Type 0) → Type 0
InEveryRun Holds =
    (run : Run) (i : ℕ) (c : Client) (r : Runtime) → HasClient run i c r →
    Holds r (journal_of module_language (life_in run i).opening (life_in run i).past)

-- How often a prune handler of an instance of this fate was run, and how often dropped, where no later one
-- displaced it.
abbrev pub HeldIsUsed : InstanceFate → ℕ → ℕ → Type 0
HeldIsUsed Live runs drops = (runs ≡ 0) × (drops ≡ 0)
HeldIsUsed (Replaced k) runs drops = (runs ≡ 0) × (drops ≡ 1)
HeldIsUsed Pruned runs drops = (runs ≡ 1) × (drops ≡ 0)
HeldIsUsed Reloaded runs drops = (runs ≡ 0) × (drops ≡ 1)

-- one that a later one displaced was dropped unrun
abbrev pub IsUsed : Bool → InstanceFate → ℕ → ℕ → Type 0
IsUsed true fate runs drops = (runs ≡ 0) × (drops ≡ 1)
IsUsed false fate runs drops = HeldIsUsed fate runs drops

-- of each instance the prune handler that is held was run where it was pruned, once, and dropped unrun where
-- it was replaced or reloaded; each that a later one displaced was dropped unrun
abbrev pub HeldPruneHandlersRun : Runtime → Journal → Type 0
HeldPruneHandlersRun r journal =
    (i : Instance) → Contains r.instances i → (spot : ℕ) (h : Handler) →
    slice_get i.handlers spot ≡ Some h → is_prune h.kind ≡ true →
    IsUsed (is_displaced h.kind (drop (suc spot) i.handlers)) i.fate
    (runs_of journal i.number spot) (drops_of journal i.number spot)

-- once a prune handler of an instance was run, no disposer of it is
abbrev pub DisposersRunFirst : Runtime → Journal → Type 0
DisposersRunFirst r journal =
    (front back : Journal) (k spot : ℕ) (n : Name) (before : Bag) (left : Ran) →
    journal ≡ front ++ ran k spot n place.Prune before left ∷ back → disposals back k ≡ 0
