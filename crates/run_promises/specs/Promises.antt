-- The promises of the product, of a run: any list of edits, transform results, openings, turns, closings and
-- events that were fired, in any order, after which no client would have made too many instances.
use Rattle.std.specs.Prelude.{◌≡◌, ◌↔◌, ℕ, true, [], Contains}
use Rattle.core_model.specs.Names.{Name}
use Rattle.core_model.specs.FreshLoad.{fresh_table, missing_of, unlinked_of}
use Rattle.core_model.specs.Roots.{roots_or}
use Rattle.core_model.specs.Client.{Client}
use Rattle.core_laws.specs.Reloading.{IsFullReload}
use Rattle.client_model.specs.Language.{links_of}
use Rattle.client_model.specs.Runtime.{Runtime}
use Rattle.client_model.specs.Stale.{IsStale, stale_of}
use Rattle.client_model.specs.Past.{journal_of}
use Rattle.module_language.specs.ModuleLanguage.{module_language}
use Rattle.world_model.specs.CaughtUp.{IsCaughtUp, largest_debt}
use Rattle.world_model.specs.World.{Step}
use Rattle.world_laws.specs.Instances.{IsLiveAs}
use Rattle.world_laws.specs.Stops.{IsStopped}
use Rattle.world_laws.specs.Quiet.{IsSettled, AreQuiet, IsUpAmongLooks}
use Rattle.journal_laws.specs.Counts.{AreDisposedOnce, ArePrunedOnce, AreTold, AreRegistered}
use Rattle.journal_laws.specs.Counts.{AreFated, AreRunsOfHandlers}
use Rattle.journal_laws.specs.Ends.{AllEnd}
use Rattle.journal_laws.specs.FreshValues.{IsAcyclic, NothingAssignedLive, AreFreshValues}
use Rattle.journal_laws.specs.Isolated.{is_of_another, IsSpared}
use Rattle.journal_laws.specs.LeftOut.{IsSameAlone}
use Rattle.journal_laws.specs.Lives.{HeldPruneHandlersRun, DisposersRunFirst}
use Rattle.journal_laws.specs.Texts.{UseLiveDataInHandlersAlone}
use Rattle.journal_laws.specs.Values.{ValuesAreLeft, AreEvaluations, AreUnrun, AreEvaluatedOnce, AreRuns}
use Rattle.journal_laws.specs.Data.{SuccessorsInherit, DisposersHandOn, OthersInheritNothing}
use Rattle.world_laws.specs.Runs.{Run, sources_of, served_of, life_in, HasClient, next_reply, IsReloadTurn}

-- a caught-up client holds exactly a fresh load of what is served, of its own roots: a name is in that load
-- at a version exactly where a live instance of the name has that version
abbrev pub CaughtUpIsFresh : Run → Type 0
CaughtUpIsFresh run = (i : ℕ) (c : Client) (r : Runtime) → HasClient run i c r
    → IsCaughtUp (sources_of run) c r →
    (n : Name) (v : ℕ) → Contains (fresh_table (served_of run) r.roots) (n, v) ↔ IsLiveAs r.instances n v

-- and each import of a name that the dependency, as it is served, doesn't export is at an edge at which the
-- client is stale
abbrev pub UnlinkedIsStale : Run → Type 0
UnlinkedIsStale run = (i : ℕ) (c : Client) (r : Runtime) → HasClient run i c r →
    IsCaughtUp (sources_of run) c r →
    (n m x : Name) → Contains (unlinked_of (links_of module_language) (served_of run) r.roots) (n, m, x) →
    IsStale r n m

-- and that load reaches no module that isn't served
abbrev pub NothingIsMissing : Run → Type 0
NothingIsMissing run = (i : ℕ) (c : Client) (r : Runtime) → HasClient run i c r
    → IsCaughtUp (sources_of run) c r →
    missing_of (served_of run) r.roots ≡ []

-- a client's own roots are those that it named when it came, and where it named none the server's
abbrev pub RootsAreOwn : Run → Type 0
RootsAreOwn run = (i : ℕ) (c : Client) (r : Runtime) → HasClient run i c r →
    r.roots ≡ roots_or (life_in run i).opening.roots run.roots

-- a client is stale exactly at the edges at which applied updates stopped
abbrev pub StaleWhereStopped : Run → Type 0
StaleWhereStopped run = (i : ℕ) (c : Client) (r : Runtime) → HasClient run i c r →
    (b x : Name) → IsStale r b x ↔ IsStopped module_language (life_in run i).opening (life_in run i).past b x

-- of each instance that registered a disposer, one ran where it was replaced or pruned, the one that was
-- held; none ran of an instance that is live or was reloaded
abbrev pub DisposersRanOnce : Run → Type 0
DisposersRanOnce run = (i : ℕ) (c : Client) (r : Runtime) → HasClient run i c r →
    AreDisposedOnce r (journal_of module_language (life_in run i).opening (life_in run i).past)

-- an instance that took another's place started with the data that was left when that one ended
abbrev pub DataGoesToSuccessors : Run → Type 0
DataGoesToSuccessors run = (i : ℕ) (c : Client) (r : Runtime) → HasClient run i c r →
    SuccessorsInherit r (journal_of module_language (life_in run i).opening (life_in run i).past)

-- and so with what its disposer left
abbrev pub DisposersLeftTheData : Run → Type 0
DisposersLeftTheData run = (i : ℕ) (c : Client) (r : Runtime) → HasClient run i c r →
    DisposersHandOn r (journal_of module_language (life_in run i).opening (life_in run i).past)

-- any other instance started with none
abbrev pub DataGoesToNoOther : Run → Type 0
DataGoesToNoOther run = (i : ℕ) (c : Client) (r : Runtime) → HasClient run i c r →
    OthersInheritNothing r (journal_of module_language (life_in run i).opening (life_in run i).past)

-- the server answers a client's next request by a full reload exactly where an unaccepted path reaches a
-- root or a module that declines, and nothing else is to be done first
abbrev pub ReloadsAreExact : Run → Type 0
ReloadsAreExact run = (i : ℕ) (c : Client) (r : Runtime) → HasClient run i c r →
    IsFullReload (next_reply run i r) ↔ IsReloadTurn run c r

-- where every result came and the fresh load of its roots is whole, some number of a client's turns, at most
-- the bound of its debt, leaves it caught up, unless a turn invalidates further modules or makes too many
-- instances
abbrev pub ClientsCatchUp : Run → Type 0
ClientsCatchUp run = (i : ℕ) (c : Client) (r : Runtime) → HasClient run i c r →
    IsSettled module_language c.roots (sources_of run) →
    AreQuiet module_language run.roots run.shelves i (largest_debt (sources_of run) c r) run.steps →
    IsUpAmongLooks module_language run.roots run.shelves i (largest_debt (sources_of run) c r) run.steps

-- of each instance that registered a prune handler, one ran where it was pruned; none else
abbrev pub PruneHandlersRanOnce : Run → Type 0
PruneHandlersRanOnce run = (i : ℕ) (c : Client) (r : Runtime) → HasClient run i c r →
    ArePrunedOnce r (journal_of module_language (life_in run i).opening (life_in run i).past)

-- it is the one that was held, which was dropped unrun where the instance was replaced or reloaded; each
-- that a later one displaced was dropped unrun
abbrev pub HeldPruneHandlersRan : Run → Type 0
HeldPruneHandlersRan run = (i : ℕ) (c : Client) (r : Runtime) → HasClient run i c r →
    HeldPruneHandlersRun r (journal_of module_language (life_in run i).opening (life_in run i).past)

-- and it ran after the instance's disposer: no disposer ran once it did
abbrev pub DisposersRanFirst : Run → Type 0
DisposersRanFirst run = (i : ℕ) (c : Client) (r : Runtime) → HasClient run i c r →
    DisposersRunFirst r (journal_of module_language (life_in run i).opening (life_in run i).past)

-- each handler ended by the fate of its instance; a live instance holds all that none displaced
abbrev pub HandlersEndedByFate : Run → Type 0
HandlersEndedByFate run = (i : ℕ) (c : Client) (r : Runtime) → HasClient run i c r →
    AllEnd r (journal_of module_language (life_in run i).opening (life_in run i).past)

-- a held handler was neither run nor dropped, a spent one was run once, a dropped one was dropped once and
-- not run; but a callback on dependencies ran any number of times while it was held
abbrev pub HandlersEndedOnce : Run → Type 0
HandlersEndedOnce run = (i : ℕ) (c : Client) (r : Runtime) → HasClient run i c r →
    AreTold r (journal_of module_language (life_in run i).opening (life_in run i).past)

-- the handlers of an instance are those that it registered
abbrev pub HandlersWereRegistered : Run → Type 0
HandlersWereRegistered run = (i : ℕ) (c : Client) (r : Runtime) → HasClient run i c r →
    AreRegistered r (journal_of module_language (life_in run i).opening (life_in run i).past)

-- each run was that of a handler which the instance registered, at the place of the handler's kind
abbrev pub RunsAreOfHandlers : Run → Type 0
RunsAreOfHandlers run = (i : ℕ) (c : Client) (r : Runtime) → HasClient run i c r →
    AreRunsOfHandlers r (journal_of module_language (life_in run i).opening (life_in run i).past)

-- each instance ended once, by its fate, and a live one didn't
abbrev pub InstancesEndedOnce : Run → Type 0
InstancesEndedOnce run = (i : ℕ) (c : Client) (r : Runtime) → HasClient run i c r →
    AreFated r (journal_of module_language (life_in run i).opening (life_in run i).past)

-- the variables of an instance are those that its evaluation made, with what its own handlers assigned since
abbrev pub ValuesAreOfEvaluations : Run → Type 0
ValuesAreOfEvaluations run = (i : ℕ) (c : Client) (r : Runtime) → HasClient run i c r →
    ValuesAreLeft r (journal_of module_language (life_in run i).opening (life_in run i).past)

-- each evaluation was that of the instance's text, over its bag and over what its links held at that time
abbrev pub EvaluationsAreOfTexts : Run → Type 0
EvaluationsAreOfTexts run = (i : ℕ) (c : Client) (r : Runtime) → HasClient run i c r →
    AreEvaluations module_language r
    (journal_of module_language (life_in run i).opening (life_in run i).past)

-- an instance wasn't run only where one that it is linked to had failed; its variables are all unset
abbrev pub UnrunIsUnset : Run → Type 0
UnrunIsUnset run = (i : ℕ) (c : Client) (r : Runtime) → HasClient run i c r →
    AreUnrun r (journal_of module_language (life_in run i).opening (life_in run i).past)

-- every other was evaluated once
abbrev pub EvaluatedOnce : Run → Type 0
EvaluatedOnce run = (i : ℕ) (c : Client) (r : Runtime) → HasClient run i c r →
    AreEvaluatedOnce r (journal_of module_language (life_in run i).opening (life_in run i).past)

-- what a handler assigned was what its code gave over the instance's variables, its links and its bag, or
-- its closure over the bag
abbrev pub AssignmentsAreOfHandlers : Run → Type 0
AssignmentsAreOfHandlers run = (i : ℕ) (c : Client) (r : Runtime) → HasClient run i c r →
    AreRuns module_language r (journal_of module_language (life_in run i).opening (life_in run i).past)

-- where a client is caught up, no edge is stale, the imports have no cycle, the live modules' texts use
-- `data` in handlers alone, and no handler of a live instance assigned, the live instances have the status
-- and the variables of evaluating the fresh load of the client's own roots, each module after those that it
-- imports
abbrev pub ValuesAreFresh : Run → Type 0
ValuesAreFresh run = (i : ℕ) (c : Client) (r : Runtime) → HasClient run i c r →
    IsCaughtUp (sources_of run) c r →
    stale_of r ≡ [] → IsAcyclic (served_of run) r.roots → UseLiveDataInHandlersAlone (served_of run) r →
    NothingAssignedLive r (journal_of module_language (life_in run i).opening (life_in run i).past) →
    AreFreshValues module_language (served_of run) r.roots r

-- a step of one client, or a client that comes, changes nothing of another that is open: its record on the
-- server, the client itself, what came to it, and the sources are as they were
abbrev pub OthersAreLeftAlone : Run → Step → Type 0
OthersAreLeftAlone run s = (i : ℕ) (c : Client) (r : Runtime) → HasClient run i c r →
    is_of_another i s ≡ true → IsSpared run s i c r

-- leaving all turns, looks and events of other clients out of the run changes nothing of a client: neither
-- its record, nor the client itself, nor what came to it, nor what it is answered next; nor the sources
abbrev pub OthersCanBeLeftOut : Run → Type 0
OthersCanBeLeftOut run = (i : ℕ) (c : Client) (r : Runtime) → HasClient run i c r → IsSameAlone run i c r

-- what is promised of every run, part by part
pub record KeepsPromises (run : Run) : Type 0 where
  pub fresh_load : CaughtUpIsFresh run
  pub nothing_missing : NothingIsMissing run
  pub unlinked_is_stale : UnlinkedIsStale run
  pub own_roots : RootsAreOwn run
  pub stale_edges : StaleWhereStopped run
  pub disposers : DisposersRanOnce run
  pub prune_handlers : PruneHandlersRanOnce run
  pub held_prune_handlers : HeldPruneHandlersRan run
  pub disposers_first : DisposersRanFirst run
  pub data_to_successors : DataGoesToSuccessors run
  pub data_of_disposers : DisposersLeftTheData run
  pub data_to_no_other : DataGoesToNoOther run
  pub fates : HandlersEndedByFate run
  pub fates_once : HandlersEndedOnce run
  pub registered : HandlersWereRegistered run
  pub runs : RunsAreOfHandlers run
  pub ended_once : InstancesEndedOnce run
  pub values : ValuesAreOfEvaluations run
  pub evaluations : EvaluationsAreOfTexts run
  pub unrun : UnrunIsUnset run
  pub evaluated_once : EvaluatedOnce run
  pub assignments : AssignmentsAreOfHandlers run
  pub fresh_values : ValuesAreFresh run
  pub full_reloads : ReloadsAreExact run
  pub catching_up : ClientsCatchUp run
  pub isolation : (s : Step) → OthersAreLeftAlone run s
  pub left_out : OthersCanBeLeftOut run
