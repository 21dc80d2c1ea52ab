-- The world's core is what a list of core events makes, so that the laws of the core hold in the world;
-- and a caught-up client's page is its record's.
use Rattle.std.proofs.Common.{◌≡◌, ℕ, Bool, true, false, List, [], ◌∷◌, ◌++◌, refl, ap, sym, ◌∙◌}
use Rattle.std.specs.Prelude.{find, Option, Some, None, IfSome, if◌then◌else◌, map}
use Rattle.std.proofs.Math.Path.{subst}
use Rattle.std.proofs.lemmas.Bool.{false≢true}
use Rattle.std.proofs.lemmas.Option.{IfSome_then}
use Prim.{⊥}
use Rattle.output_lines.specs.declared.words.ClientState.{ClientState}
use Rattle.output_lines.specs.declared.words.ClientState.TheVariants.{Up, Behind}
use Rattle.output_lines.specs.declared.out_line.OutLine.{OutLine}
use Rattle.output_lines.specs.declared.out_line.OutLine.TheVariants as line
use Rattle.hmr_types.specs.declared.value.Value.{Value}
use Rattle.core_model.specs.Requests.{Reply}
use Rattle.core_model.specs.FreshLoad.{fresh_table, missing_of}
use Rattle.core_model.specs.Names.{Name}
use Rattle.core_model.specs.Sources.{Text, edit, result}
use Rattle.core_model.specs.Client.{Client}
use Rattle.core_model.specs.Core.{Core, Event, change, connect, disconnect, client_at, step, core_after}
use Rattle.core_model.specs.View.{table_of}
use Rattle.core_model.specs.Exchange.{event_of, message_for}
use Rattle.core_model.specs.Core.{changes_of}
use Rattle.core_laws.specs.Given.{analysis_given}
use Rattle.core_laws.specs.Fresh.{IsUpToDate, IsFreshLoad}
use Rattle.core_laws.proofs.Events.{client_facts, served_given}
use Rattle.core_laws.proofs.Freshness.{is_fresh}
use Rattle.client_model.specs.Language.{Language}
use Rattle.client_model.specs.Runtime.{Runtime}
use Rattle.client_model.specs.Requesting as requesting
use Rattle.client_model.specs.Printing.{module_line, stale_line, show_lines}
use Rattle.client_model.specs.Stale.{stale_of}
use Rattle.world_model.specs.CaughtUp.{is_caught_up, state_of}
use Rattle.world_model.specs.World.{Job, World, Step, edits, settles, opens, turn, closes, show, values, fates, fresh, fresh_of, fires}
use Rattle.world_model.specs.Editing.{is_job, settle_job}
use Rattle.world_model.specs.Turning.{turn_of, opened_by, close_of, shown, fire_of, connected_as}
use Rattle.world_model.specs.Steps.{world_step, world_after}
use Rattle.world_model.specs.Ties.{IsTied, TiedAt, WentOn}
use Rattle.world_model.proofs.Tying.{run_sound}
use Rattle.world_laws.specs.Fresh.{HoldsFreshLoad, IsFreshAt, AreFresh, ShowsFresh}
use Rattle.world_laws.proofs.CatchingUp.{test_is}

-- The core of the world.

-- some list of events makes the core
pub record IsMade (roots : List Name) (core : Core) : Type 0 where
  pub events : List Event
  pub made : core ≡ core_after roots events

pub opened_core : (language : Language) (shelves : List (List (Text × ℕ))) (format : ℕ) (names : List Name) (w : World) (after : Core × Reply) (number : Option ℕ) → (opened_by language shelves format names w after number).world.core ≡ after.0
opened_core language shelves format names w after None = refl
opened_core language shelves format names w after (Some i) = refl

-- what each event of the core keeps, each step of the world keeps of its core
module _ (language : Language) (roots : List Name) (P : Core → Type 0) (more : (core : Core) (event : Event) → P core → P (step roots core event).0) where
  settled_core : (n : Name) (v : ℕ) (w : World) (j : Option Job) → P w.core → P (settle_job language roots n v w j).world.core
  settled_core n v w None h = h
  settled_core n v w (Some j) h = more w.core (change (result n j.text (language.transformed n j.text) v)) h

  turned_core : (i : ℕ) (w : World) (r : Option Runtime) → P w.core → P (turn_of language roots i w r).world.core
  turned_core i w None h = h
  turned_core i w (Some r) h = more w.core (event_of i (requesting.request language r)) h

  closed_core : (i : ℕ) (w : World) (r : Option Runtime) → P w.core → P (close_of roots i w r).world.core
  closed_core i w None h = h
  closed_core i w (Some r) h = more w.core (disconnect i) h

  shown_core : (i : ℕ) (w : World) (lines : Runtime → List OutLine) (r : Option Runtime) → P w.core → P (shown i w lines r).world.core
  shown_core i w lines None h = h
  shown_core i w lines (Some r) h = h

  fired_core : (i : ℕ) (n : Name) (value : Value) (w : World) (r : Option Runtime) → P w.core → P (fire_of language i n value w r).world.core
  fired_core i n value w None h = h
  fired_core i n value w (Some r) h = h

  pub step_core : (shelves : List (List (Text × ℕ))) (w : World) (s : Step) → P w.core → P (world_step language roots shelves w s).world.core
  step_core shelves w (edits n t) h = more w.core (change (edit n t)) h
  step_core shelves w (settles n v) h = settled_core n v w (find (is_job n v) w.issued) h
  step_core shelves w (opens format names) h =
      let after : Core × Reply = step roots w.core (connect names) in
      subst P (sym (opened_core language shelves format names w after (connected_as (message_for format after.1)))) (more w.core (connect names) h)
  step_core shelves w (turn i) h = turned_core i w (client_at w.clients i) h
  step_core shelves w (closes i) h = closed_core i w (client_at w.clients i) h
  step_core shelves w (show i) h = shown_core i w _ (client_at w.clients i) h
  step_core shelves w (values i) h = shown_core i w _ (client_at w.clients i) h
  step_core shelves w (fates i) h = shown_core i w _ (client_at w.clients i) h
  step_core shelves w fresh h = h
  step_core shelves w (fresh_of i) h = shown_core i w _ (client_at w.clients i) h
  step_core shelves w (fires i n value) h = fired_core i n value w (client_at w.clients i) h

one_more : (roots : List Name) (core : Core) (event : Event) → IsMade roots core → IsMade roots (step roots core event).0
one_more roots core event h = record { events = event ∷ h.events; made = ap (λ c. (step roots c event).0) h.made }

pub core_made : (language : Language) (roots : List Name) (shelves : List (List (Text × ℕ))) (past : List Step) → IsMade roots (world_after language roots shelves past).core
core_made language roots shelves [] = record { events = []; made = refl }
core_made language roots shelves (s ∷ past) = step_core language roots (IsMade roots) (one_more roots) shelves (world_after language roots shelves past) s (core_made language roots shelves past)

-- What is caught up is fresh.

fresh_record : (roots : List Name) (events : List Event) (i : ℕ) → IfSome (client_at (core_after roots events).clients i) (λ c. IsUpToDate (core_after roots events).sources c → IsFreshLoad (core_after roots events).sources c)
fresh_record roots events i = IfSome_then (client_at (core_after roots events).clients i) (client_facts roots events i)
    (λ client facts. is_fresh (analysis_given (changes_of events)) (core_after roots events).sources client (served_given roots events) facts)

pub fresh_in : (roots : List Name) (core : Core) (i : ℕ) → IsMade roots core → IfSome (client_at core.clients i) (λ c. IsUpToDate core.sources c → IsFreshLoad core.sources c)
fresh_in roots core i h = subst (λ k. IfSome (client_at k.clients i) (λ c. IsUpToDate k.sources c → IsFreshLoad k.sources c)) (sym h.made) (fresh_record roots h.events i)

-- what is told of a record's roots is told of the client's own
fresh_own : (w : World) (i : ℕ) (c : Client) (r : Runtime) → IsTied i c r → IsFreshLoad w.core.sources c → HoldsFreshLoad w.core.sources.served r
fresh_own w i c r t f = record {
  table = ap (λ page. table_of page.view) t.page ∙ f.table ∙ ap (fresh_table w.core.sources.served) (sym t.roots_are);
  nothing_missing = ap (missing_of w.core.sources.served) t.roots_are ∙ f.nothing_missing;
}

fresh_at : (w : World) (i : ℕ) (c : Option Client) (r : Option Runtime) → IfSome c (λ c. IsUpToDate w.core.sources c → IsFreshLoad w.core.sources c) → TiedAt i c r → IsFreshAt w c r
fresh_at w i c None h t = tt
fresh_at w i None (Some r) h t = tt
fresh_at w i (Some c) (Some r) h t = λ up. fresh_own w i c r t (h (record { loaded = up.loaded; unchanged = up.unchanged; whole = up.whole }))

pub are_fresh : (language : Language) (roots : List Name) (shelves : List (List (Text × ℕ))) (past : List Step) → WentOn language roots shelves past → AreFresh (world_after language roots shelves past)
are_fresh language roots shelves past h i =
    let w = world_after language roots shelves past in
    fresh_at w i (client_at w.core.clients i) (client_at w.clients i) (fresh_in roots w.core i (core_made language roots shelves past)) ((run_sound language roots shelves past h).tied i)

-- What is shown of it.

abbrev is_up : ClientState → Bool
is_up Up = true
is_up Behind = false

behind_up : Behind ≡ Up → ⊥
behind_up e = false≢true (ap is_up e)

caught_from : (b : Bool) → (if b then Up else Behind) ≡ Up → b ≡ true
caught_from true e = refl
caught_from false e = absurd (behind_up e)

abbrev state_told : Option (List OutLine) → ClientState
state_told (Some (line.Client j state ∷ lines)) = state
state_told lines = Behind

abbrev rest_told : Option (List OutLine) → List OutLine
rest_told (Some (l ∷ lines)) = lines
rest_told lines = []

shown_fresh : (w : World) (i j : ℕ) (lines : List OutLine) (c : Option Client) (r : Option Runtime) → IsFreshAt w c r
    → (shown i w (λ r. show_lines (state_of w.core.sources c r) r) r).lines ≡ Some (line.Client j Up ∷ lines) → ShowsFresh w.core.sources.served lines r
shown_fresh w i j lines c None h e = absurd (behind_up (ap state_told e))
shown_fresh w i j lines None (Some r) h e = absurd (behind_up (ap state_told e))
shown_fresh w i j lines (Some c) (Some r) h e =
    let caught : is_caught_up w.core.sources c r ≡ true = caught_from (is_caught_up w.core.sources c r) (ap state_told e) in
    let f = h ((test_is w.core.sources c r).0 caught) in
    record { stale = stale_of r; lines_are = sym (ap rest_told e) ∙ ap (λ t. map module_line t ++ map stale_line (stale_of r)) f.table; nothing_missing = f.nothing_missing }

pub up_shows : (language : Language) (roots : List Name) (shelves : List (List (Text × ℕ))) (past : List Step) (i j : ℕ) (lines : List OutLine) → WentOn language roots shelves past
    → (world_step language roots shelves (world_after language roots shelves past) (show i)).lines ≡ Some (line.Client j Up ∷ lines) → ShowsFresh (world_after language roots shelves past).core.sources.served lines (client_at (world_after language roots shelves past).clients i)
up_shows language roots shelves past i j lines h e =
    let w = world_after language roots shelves past in
    shown_fresh w i j lines (client_at w.core.clients i) (client_at w.clients i) (are_fresh language roots shelves past h i) e
