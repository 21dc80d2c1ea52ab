-- What came to each client as events is what it was given, after each kind of step.
use Rattle.std.proofs.Common.{◌≡◌, ℕ, ◌==◌, Bool, true, false, cond, List, [], ◌∷◌, ◌++◌, refl, sym, ap, ◌∙◌}
use Rattle.std.specs.Prelude.{◌||◌, Option, Some, None, if◌then◌else◌}
use Rattle.std.proofs.Math.Path.{subst}
use Rattle.std.proofs.lemmas.Bool.{eqb-true}
use Rattle.hmr_types.specs.declared.value.Value.{Value}
use Rattle.output_lines.specs.declared.out_line.OutLine.{OutLine}
use Rattle.update_msgs.specs.declared.message.ServerMsg.{ServerMsg}
use Rattle.core_model.specs.declared.refusal.Refusal.TheVariants.{UnknownClient, TooManyClients, OutOfTurn, Mismatch, Unfetched, Ignored, BadRoots}
use Rattle.core_model.specs.Names.{Name}
use Rattle.core_model.specs.Requests.{Reply, edited, settled, to_client, refused, gone}
use Rattle.core_model.specs.Core.{Core, client_at, connect, step}
use Rattle.core_model.specs.Exchange.{event_of, message_for}
use Rattle.client_model.specs.Past.{Past, event}
use Rattle.client_model.specs.Requesting.{request}
use Rattle.client_model.specs.Runtime.{Runtime}
use Rattle.world_model.specs.World.{World}
use Rattle.world_model.specs.Turning as turning
use Rattle.world_model.specs.Turning.{connected_as, heard_at, opening_of, refusal_line}
use Rattle.world_model.specs.Playing.{Stage}
use Rattle.world_laws.specs.Taken.{Life, in_fire, in_open, in_turn, life_of, message_too}
use Rattle.world_parts.specs.Steps.{step_of}
use Rattle.world_parts.specs.declared.step.Step.TheVariants as steps
use Rattle.world_parts.specs.declared.step.Step as declared
use Rattle.hot_events.specs.Calls as calls
use Rattle.hot_events.specs.Calls.{Call, Event, and_then, first, given, heard}
use Rattle.hot_events.proofs.Counts.{given_heard}
use Rattle.event_runs.specs.Courses.{Course, emits, entering, event_step, fired_at, hear_step, hears, opened_by, or_none, plain, world_in}
use Rattle.event_runs.specs.Runs.{events_among, has_come}

-- what came to the client so far is what it was given
abbrev IsGiven : Past → List Call → ℕ → Type 0
IsGiven past called i = events_among past ≡ given called i

too : (m : Option ServerMsg) (past : Past) → events_among (message_too m past) ≡ events_among past
too None past = refl
too (Some m) past = refl

-- a turn brings a message
turn_by : (m : Option ServerMsg) (t : Bool) (life : Life) → events_among (if t then record life { past = message_too m life.past } else life).past ≡ events_among life.past
turn_by m true life = too m life.past
turn_by m false life = refl

-- the line of an opening that is refused opens no client
pub none_opened : (reply : Reply) → opened_by (refusal_line reply ∷ []) ≡ None
none_opened (edited a) = refl
none_opened (settled a) = refl
none_opened (to_client m) = refl
none_opened gone = refl
none_opened (refused UnknownClient) = refl
none_opened (refused TooManyClients) = refl
none_opened (refused OutOfTurn) = refl
none_opened (refused (Mismatch n told kept)) = refl
none_opened (refused (Unfetched n)) = refl
none_opened (refused Ignored) = refl
none_opened (refused BadRoots) = refl

module _ (stage : Stage) (w : World) (i : ℕ) (life : Life) (called : List Call) (h : has_come called i ≡ true → IsGiven life.past called i) where
  turned : (j : ℕ) (o : Option Runtime) → has_come called i ≡ true → IsGiven (in_turn stage.language stage.roots w j o i life).past called i
  turned j None t = h t
  turned j (Some r) t = turn_by (message_for r.format (step stage.roots w.core (event_of j (request stage.language r))).1) (j == i) life ∙ h t

  -- a client comes
  born : (format : ℕ) (names : List Name) (m : Option ServerMsg) (j : ℕ) (t : Bool) → (t || has_come called i) ≡ true
      → events_among (if t then record { opening = opening_of stage.shelves format names j; past = message_too m [] } else life).past ≡ cond t [] (given called i)
  born format names m j true e = too m []
  born format names m j false e = h e

  abbrev after_opening : Option ℕ → List Call
  after_opening o = entering o called

  came : (format : ℕ) (names : List Name) (m : Option ServerMsg) (after : Core × Reply) (o : Option ℕ)
      → has_come (after_opening (opened_by (or_none (turning.opened_by stage.language stage.shelves format names w after o).lines))) i ≡ true
      → IsGiven (in_open stage.shelves format names m o i life).past (after_opening (opened_by (or_none (turning.opened_by stage.language stage.shelves format names w after o).lines))) i
  came format names m after None =
      subst (λ o. has_come (entering o called) i ≡ true → IsGiven life.past (entering o called) i) (sym (none_opened after.1)) h
  came format names m after (Some j) = born format names m j (j == i)

-- an event is fired at the client's page
fire_by : (n : Name) (v : Value) (life : Life) (called : List Call) (i : ℕ) (t : Bool) → IsGiven life.past called i → (t ≡ true → first called i ≡ Some (n, v))
    → events_among (if t then record life { past = event n v ∷ life.past } else life).past ≡ cond t (and_then (given called i) (first called i)) (given called i)
fire_by n v life called i true h there = ap (λ es. es ++ (n, v) ∷ []) h ∙ ap (and_then (given called i)) (sym (there refl))
fire_by n v life called i false h there = h

module _ (stage : Stage) (c : Course) (i : ℕ) where
  abbrev life : Life
  life = life_of stage.language stage.roots stage.shelves c.steps i

  -- what came is what was given, of a course
  abbrev HasGiven : Course → Type 0
  HasGiven d = has_come d.calls i ≡ true → IsGiven (life_of stage.language stage.roots stage.shelves d.steps i).past d.calls i

  plain_given : (s : declared.Step) → HasGiven c → HasGiven (event_step stage c (plain (step_of s))).course
  plain_given (steps.Edit n t) h = h
  plain_given (steps.Settle n v) h = h
  plain_given (steps.Open format names) h =
      let w = world_in stage c in
      let after = step stage.roots w.core (connect names.items) in
      let m = message_for format after.1 in
      came stage w i life c.calls h format names.items m after (connected_as m)
  plain_given (steps.Turn j) h = turned stage (world_in stage c) i life c.calls h j (client_at (world_in stage c).clients j)
  plain_given (steps.Close j) h = h
  plain_given (steps.Show j) h = h
  plain_given (steps.Values j) h = h
  plain_given (steps.Fates j) h = h
  plain_given steps.Fresh h = h
  plain_given (steps.FreshOf j) h = h

  fired_given : (j : ℕ) (r : Runtime) (e : Event) (lines : Option (List OutLine)) → client_at (world_in stage c).clients j ≡ Some r → first c.calls j ≡ Some e → HasGiven c → HasGiven (fired_at c j e lines).course
  fired_given j r e None there is h = h
  fired_given j r e (Some lines) there is h = λ t.
      ap (λ o. events_among (in_fire j e.0 e.1 o i life).past) there
      ∙ fire_by e.0 e.1 life c.calls i (j == i) (h t) (λ same. ap (first c.calls) (sym (eqb-true j i same)) ∙ is)

  hear_given : (j : ℕ) (o : Option Runtime) (e : Option Event) → client_at (world_in stage c).clients j ≡ o → first c.calls j ≡ e → HasGiven c → HasGiven (hear_step stage c j o e).course
  hear_given j None e there is h = h
  hear_given j (Some r) None there is h = h
  hear_given j (Some r) (Some e) there is h = fired_given j r e (heard_at stage.language e.0 e.1 (Some r)) there is h

-- so it is after a step, whatever the step is
abbrev pub AreHeard : Stage → Course → Type 0
AreHeard stage c = (i : ℕ) → has_come c.calls i ≡ true → events_among (life_of stage.language stage.roots stage.shelves c.steps i).past ≡ heard c.calls i

as_given : (stage : Stage) (c : Course) (i : ℕ) → AreHeard stage c → HasGiven stage c i c
as_given stage c i h = λ t. h i t ∙ sym (given_heard c.calls i)

pub plain_heard : (stage : Stage) (c : Course) (s : declared.Step) → AreHeard stage c → AreHeard stage (event_step stage c (plain (step_of s))).course
plain_heard stage c s h i t = plain_given stage c i s (as_given stage c i h) t ∙ given_heard (event_step stage c (plain (step_of s))).course.calls i

pub emit_heard : (stage : Stage) (c : Course) (n : Name) (v : Value) → AreHeard stage c → AreHeard stage (event_step stage c (emits n v)).course
emit_heard stage c n v h i t = as_given stage c i h t ∙ given_heard (calls.emits n v ∷ c.calls) i

pub hear_heard : (stage : Stage) (c : Course) (j : ℕ) → AreHeard stage c → AreHeard stage (event_step stage c (hears j)).course
hear_heard stage c j h i t =
    let o = client_at (world_in stage c).clients j in
    let e = first c.calls j in
    hear_given stage c i j o e refl refl (as_given stage c i h) t ∙ given_heard (hear_step stage c j o e).course.calls i
