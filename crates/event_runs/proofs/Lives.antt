-- Each event that came to a client ran its listeners, after each kind of step.
use Rattle.std.proofs.Common.{◌≡◌, ℕ, ◌==◌, Bool, true, false, List, [], ◌∷◌, refl, sym, ap, ◌∙◌}
use Rattle.std.specs.Prelude.{◌||◌, Option, Some, None, if◌then◌else◌}
use Rattle.std.proofs.Math.Path.{subst}
use Rattle.std.proofs.lemmas.Bool.{eqb-true}
use Rattle.output_lines.specs.declared.out_line.OutLine.{OutLine}
use Rattle.update_msgs.specs.declared.message.ServerMsg.{ServerMsg}
use Rattle.core_model.specs.Names.{Name}
use Rattle.core_model.specs.Requests.{Reply}
use Rattle.core_model.specs.Core.{Core, client_at, connect, step}
use Rattle.core_model.specs.Exchange.{event_of, message_for}
use Rattle.client_model.specs.Firing.{fire}
use Rattle.client_model.specs.Past.{Past, event, runtime_after}
use Rattle.client_model.specs.Requesting.{request}
use Rattle.client_model.specs.Runtime.{Opening, Runtime}
use Rattle.world_model.specs.World.{World}
use Rattle.world_model.specs.Ties.{WentOn}
use Rattle.world_model.specs.Turning as turning
use Rattle.world_model.specs.Turning.{connected_as, heard_at, lines_heard, opening_of}
use Rattle.world_model.specs.Playing.{Stage}
use Rattle.world_laws.specs.Stops.{IsMadeBy}
use Rattle.world_laws.specs.Taken.{Life, in_fire, in_open, in_turn, life_of, message_too}
use Rattle.world_laws.proofs.Following.{made_run}
use Rattle.world_laws.proofs.Messages.{run_holds}
use Rattle.journal_laws.proofs.Numbers.{apart_numbered}
use Rattle.world_parts.specs.Steps.{step_of}
use Rattle.world_parts.specs.declared.step.Step.TheVariants as steps
use Rattle.world_parts.specs.declared.step.Step as declared
use Rattle.hot_events.specs.Calls.{Call, Event, first}
use Rattle.event_runs.specs.Courses.{Course, entering, event_step, fired_at, hear_step, hears, opened_by, or_none, plain, world_in}
use Rattle.event_runs.specs.Listening.{AllListenersRan}
use Rattle.event_runs.specs.Runs.{has_come}
use Rattle.event_runs.proofs.Hearing.{none_opened}
use Rattle.event_runs.proofs.Listening.{listeners_ran}

module _ (stage : Stage) where
  -- of all that came to the client
  abbrev Ran : Life → Type 0
  Ran life = AllListenersRan stage.language life.opening life.past

  too : (m : Option ServerMsg) (opening : Opening) (past : Past) → AllListenersRan stage.language opening past → AllListenersRan stage.language opening (message_too m past)
  too None opening past h = h
  too (Some m) opening past h = h

  turn_by : (m : Option ServerMsg) (t : Bool) (life : Life) → Ran life → Ran (if t then record life { past = message_too m life.past } else life)
  turn_by m true life h = too m life.opening life.past h
  turn_by m false life h = h

  module _ (w : World) (i : ℕ) (life : Life) (called : List Call) (h : has_come called i ≡ true → Ran life) where
    turned : (j : ℕ) (o : Option Runtime) → has_come called i ≡ true → Ran (in_turn stage.language stage.roots w j o i life)
    turned j None t = h t
    turned j (Some r) t = turn_by (message_for r.format (step stage.roots w.core (event_of j (request stage.language r))).1) (j == i) life (h t)

    -- a client comes
    born : (format : ℕ) (names : List Name) (m : Option ServerMsg) (j : ℕ) (t : Bool) → (t || has_come called i) ≡ true
        → Ran (if t then record { opening = opening_of stage.shelves format names j; past = message_too m [] } else life)
    born format names m j true e = too m (opening_of stage.shelves format names j) [] tt
    born format names m j false e = h e

    came : (format : ℕ) (names : List Name) (m : Option ServerMsg) (after : Core × Reply) (o : Option ℕ)
        → has_come (entering (opened_by (or_none (turning.opened_by stage.language stage.shelves format names w after o).lines)) called) i ≡ true
        → Ran (in_open stage.shelves format names m o i life)
    came format names m after None = subst (λ o. has_come (entering o called) i ≡ true → Ran life) (sym (none_opened after.1)) h
    came format names m after (Some j) = born format names m j (j == i)

module _ (stage : Stage) (c : Course) (i : ℕ) where
  abbrev life : Life
  life = life_of stage.language stage.roots stage.shelves c.steps i

  abbrev HasListened : Course → Type 0
  HasListened d = has_come d.calls i ≡ true → Ran stage (life_of stage.language stage.roots stage.shelves d.steps i)

  plain_by : (s : declared.Step) → HasListened c → HasListened (event_step stage c (plain (step_of s))).course
  plain_by (steps.Edit n t) h = h
  plain_by (steps.Settle n v) h = h
  plain_by (steps.Open format names) h =
      let w = world_in stage c in
      let after = step stage.roots w.core (connect names.items) in
      let m = message_for format after.1 in
      came stage w i life c.calls h format names.items m after (connected_as m)
  plain_by (steps.Turn j) h = turned stage (world_in stage c) i life c.calls h j (client_at (world_in stage c).clients j)
  plain_by (steps.Close j) h = h
  plain_by (steps.Show j) h = h
  plain_by (steps.Values j) h = h
  plain_by (steps.Fates j) h = h
  plain_by steps.Fresh h = h
  plain_by (steps.FreshOf j) h = h

  module _ (went : WentOn stage.language stage.roots stage.shelves c.steps) where
    fire_by : (j : ℕ) (r : Runtime) (e : Event) (lines : List OutLine) → client_at (world_in stage c).clients j ≡ Some r → heard_at stage.language e.0 e.1 (Some r) ≡ Some lines → (t : Bool) → (j == i) ≡ t → Ran stage life → Ran stage (if t then record life { past = event e.0 e.1 ∷ life.past } else life)
    fire_by j r e lines there heard true same h =
        let after : Runtime = runtime_after stage.language life.opening life.past in
        let made : r ≡ after =
        subst (IsMadeBy stage.language life.opening life.past) (ap (client_at (world_in stage c).clients) (sym (eqb-true j i same)) ∙ there)
        (made_run stage.language stage.roots stage.shelves c.steps i went) in (
          listeners_ran stage.language e.0 e.1 after lines (apart_numbered after.instances (run_holds stage.language life.opening life.past).numbered)
              (ap (λ (x : Runtime). lines_heard (fire stage.language e.0 e.1 x).answer) (sym made) ∙ heard),
          h,
        )
    fire_by j r e lines there heard false same h = h

    fired_by : (j : ℕ) (r : Runtime) (e : Event) (lines : Option (List OutLine)) → client_at (world_in stage c).clients j ≡ Some r → heard_at stage.language e.0 e.1 (Some r) ≡ lines → HasListened c → HasListened (fired_at c j e lines).course
    fired_by j r e None there heard h = h
    fired_by j r e (Some lines) there heard h = λ t.
        subst (λ o. Ran stage (in_fire j e.0 e.1 o i life)) (sym there) (fire_by j r e lines there heard (j == i) refl (h t))

    hear_by : (j : ℕ) (o : Option Runtime) (e : Option Event) → client_at (world_in stage c).clients j ≡ o → HasListened c → HasListened (hear_step stage c j o e).course
    hear_by j None e there h = h
    hear_by j (Some r) None there h = h
    hear_by j (Some r) (Some e) there h = fired_by j r e (heard_at stage.language e.0 e.1 (Some r)) there refl h

abbrev pub HaveListened : Stage → Course → Type 0
HaveListened stage c = (i : ℕ) → has_come c.calls i ≡ true
    → AllListenersRan stage.language (life_of stage.language stage.roots stage.shelves c.steps i).opening (life_of stage.language stage.roots stage.shelves c.steps i).past

pub plain_listened : (stage : Stage) (c : Course) (s : declared.Step) → HaveListened stage c → HaveListened stage (event_step stage c (plain (step_of s))).course
plain_listened stage c s h i = plain_by stage c i s (h i)

pub hear_listened : (stage : Stage) (c : Course) (j : ℕ) → WentOn stage.language stage.roots stage.shelves c.steps → HaveListened stage c → HaveListened stage (event_step stage c (hears j)).course
hear_listened stage c j went h i = hear_by stage c i went j (client_at (world_in stage c).clients j) (first c.calls j) refl (h i)
