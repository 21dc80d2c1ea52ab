-- Events wait for a client exactly while it is open, after each kind of step.
use Rattle.std.proofs.Common.{◌≡◌, ℕ, ◌==◌, Bool, true, false, cond, List, [], ◌∷◌, refl, sym, ap, ◌∙◌}
use Rattle.std.specs.Prelude.{◌||◌, ◌&&◌, find, nat_lt, not, Option, Some, None, is_some, if◌then◌else◌}
use Rattle.std.specs.List.{list_any}
use Rattle.std.proofs.lemmas.Bool.{eqb-true, false≢true}
use Rattle.hmr_types.specs.declared.value.Value.{Value}
use Rattle.output_lines.specs.declared.out_line.OutLine.{OutLine}
use Rattle.core_model.specs.Names.{Name}
use Rattle.core_model.specs.Requests.{Reply}
use Rattle.core_model.specs.Core.{Core, client_at, connect, step, with_client, without_client}
use Rattle.core_model.specs.Exchange.{message_for}
use Rattle.core_model.proofs.Clients.{at_with, at_without}
use Rattle.client_model.specs.Firing.{fire}
use Rattle.client_model.specs.Runtime.{Runtime}
use Rattle.world_model.specs.Editing.{is_job, settle_job}
use Rattle.world_model.specs.Playing.{Stage}
use Rattle.world_model.specs.Turning as turning
use Rattle.world_model.specs.Turning.{close_of, connected_as, fire_of, heard_at, shown, turn_of}
use Rattle.world_model.specs.World.{Job, World}
use Rattle.world_parts.specs.Steps.{step_of}
use Rattle.world_parts.specs.declared.step.Step.TheVariants as steps
use Rattle.world_parts.specs.declared.step.Step as declared
use Rattle.hot_events.specs.Calls as calls
use Rattle.hot_events.specs.Calls.{Call, Event, first, is_present, present, with_number, without_number}
use Rattle.event_runs.specs.Courses.{Course, entering, event_step, fired_at, hear_step, hears, opened_by, or_none, plain, world_in}
use Rattle.event_runs.proofs.Hearing.{none_opened}

-- Numbers of a list.

abbrev among : ℕ → List ℕ → Bool
among i js = list_any (λ j. j == i) js

swapped : (a b c : Bool) → (a || (b || c)) ≡ (b || (a || c))
swapped true true c = refl
swapped true false c = refl
swapped false b c = refl

with_by : (i j k : ℕ) (js : List ℕ) (t : Bool) → among i (with_number j js) ≡ ((j == i) || among i js)
    → among i (cond t (k ∷ with_number j js) (j ∷ k ∷ js)) ≡ ((j == i) || ((k == i) || among i js))
with_by i j k js true below = ap (λ b. (k == i) || b) below ∙ swapped (k == i) (j == i) (among i js)
with_by i j k js false below = refl

among_with : (i j : ℕ) (js : List ℕ) → among i (with_number j js) ≡ ((j == i) || among i js)
among_with i j [] = refl
among_with i j (k ∷ js) = with_by i j k js (nat_lt k j) (among_with i j js)

merged : (b a : Bool) → (not b && a) ≡ (not b && (b || a))
merged true a = refl
merged false a = refl

split : (b c a : Bool) → (b ≡ true → c ≡ false) → (c || (not b && a)) ≡ (not b && (c || a))
split true true a h = absurd (false≢true (sym (h refl)))
split true false a h = refl
split false c a h = refl

without_by : (i j k : ℕ) (js : List ℕ) (t : Bool) → (k == j) ≡ t → among i (without_number j js) ≡ (not (j == i) && among i js)
    → among i (cond (not t) (k ∷ without_number j js) (without_number j js)) ≡ (not (j == i) && ((k == i) || among i js))
without_by i j k js true e below =
    below ∙ merged (j == i) (among i js)
    ∙ ap (λ m. not (j == i) && ((m == i) || among i js)) (sym (eqb-true k j e))
without_by i j k js false e below =
    ap (λ b. (k == i) || b) below
    ∙ split (j == i) (k == i) (among i js) (λ same. ap (λ m. k == m) (sym (eqb-true j i same)) ∙ e)

among_without : (i j : ℕ) (js : List ℕ) → among i (without_number j js) ≡ (not (j == i) && among i js)
among_without i j [] = both_ways (j == i)
  where
    both_ways : (b : Bool) → false ≡ (not b && false)
    both_ways true = refl
    both_ways false = refl
among_without i j (k ∷ js) = without_by i j k js (k == j) refl (among_without i j js)

absorbed : (b a : Bool) → (b || (not b && a)) ≡ (b || a)
absorbed true a = refl
absorbed false a = refl

entered : (past : List Call) (j i : ℕ) → is_present (calls.enters j ∷ past) i ≡ ((j == i) || is_present past i)
entered past j i =
    among_with i j (without_number j (present past))
    ∙ ap (λ b. (j == i) || b) (among_without i j (present past)) ∙ absorbed (j == i) (is_present past i)

left : (past : List Call) (j i : ℕ) → is_present (calls.leaves j ∷ past) i ≡ (not (j == i) && is_present past i)
left past j i = among_without i j (present past)

-- Open clients.

abbrev is_there : {X : Type 0} → List (ℕ × X) → ℕ → Bool
is_there rows i = is_some (client_at rows i)

or_same : (b a : Bool) → (b ≡ true → a ≡ true) → (b || a) ≡ a
or_same true a h = sym (h refl)
or_same false a h = refl

and_same : (b a : Bool) → (b ≡ true → a ≡ false) → (not b && a) ≡ a
and_same true a h = sym (h refl)
and_same false a h = refl

module _ {X : Type 0} where
  one_or : (b : Bool) (x : X) (o : Option X) → is_some (if b then Some x else o) ≡ (b || is_some o)
  one_or true x o = refl
  one_or false x o = refl

  none_or : (b : Bool) (o : Option X) → is_some (if b then None else o) ≡ (not b && is_some o)
  none_or true o = refl
  none_or false o = refl

  opens_one : (j i : ℕ) (x : X) (rows : List (ℕ × X)) → is_there (with_client j x rows) i ≡ ((j == i) || is_there rows i)
  opens_one j i x rows = ap is_some (at_with j x rows i) ∙ one_or (j == i) x (client_at rows i)

  closes_one : (j i : ℕ) (rows : List (ℕ × X)) → is_there (without_client j rows) i ≡ (not (j == i) && is_there rows i)
  closes_one j i rows = ap is_some (at_without j rows i) ∙ none_or (j == i) (client_at rows i)

  -- a client that is open stays open
  stays : (j i : ℕ) (x : X) (rows : List (ℕ × X)) → is_there rows j ≡ true → is_there (with_client j x rows) i ≡ is_there rows i
  stays j i x rows there =
      opens_one j i x rows
      ∙ or_same (j == i) (is_there rows i) (λ same. ap (is_there rows) (sym (eqb-true j i same)) ∙ there)

  -- one that isn't open is closed in vain
  in_vain : (j i : ℕ) (rows : List (ℕ × X)) → is_there rows j ≡ false → (not (j == i) && is_there rows i) ≡ is_there rows i
  in_vain j i rows none =
      and_same (j == i) (is_there rows i) (λ same. ap (is_there rows) (sym (eqb-true j i same)) ∙ none)

-- Steps of the world.

module _ (stage : Stage) (w : World) (i : ℕ) where
  settles_none : (n : Name) (v : ℕ) (o : Option Job) → is_there (settle_job stage.language stage.roots n v w o).world.clients i ≡ is_there w.clients i
  settles_none n v None = refl
  settles_none n v (Some j) = refl

  shows_none : (j : ℕ) (lines : Runtime → List OutLine) (o : Option Runtime) → is_there (shown j w lines o).world.clients i ≡ is_there w.clients i
  shows_none j lines None = refl
  shows_none j lines (Some r) = refl

  turns_none : (j : ℕ) (o : Option Runtime) → client_at w.clients j ≡ o → is_there (turn_of stage.language stage.roots j w o).world.clients i ≡ is_there w.clients i
  turns_none j None e = refl
  turns_none j (Some r) e = stays j i _ w.clients (ap is_some e)

  fires_none : (j : ℕ) (n : Name) (v : Value) (o : Option Runtime) → client_at w.clients j ≡ o → is_there (fire_of stage.language j n v w o).world.clients i ≡ is_there w.clients i
  fires_none j n v None e = refl
  fires_none j n v (Some r) e = stays j i (fire stage.language n v r).after w.clients (ap is_some e)

  closes_it : (j : ℕ) (o : Option Runtime) → client_at w.clients j ≡ o → is_there (close_of stage.roots j w o).world.clients i ≡ (not (j == i) && is_there w.clients i)
  closes_it j None e = sym (in_vain j i w.clients (ap is_some e))
  closes_it j (Some r) e = closes_one j i w.clients

  opens_it : (called : List Call) → is_present called i ≡ is_there w.clients i → (format : ℕ) (names : List Name) (after : Core × Reply) (o : Option ℕ)
      → let made = turning.opened_by stage.language stage.shelves format names w after o in
      is_present (entering (opened_by (or_none made.lines)) called) i ≡ is_there made.world.clients i
  opens_it called h format names after None = ap (λ o. is_present (entering o called) i) (none_opened after.1) ∙ h
  opens_it called h format names after (Some j) =
      entered called j i ∙ ap (λ b. (j == i) || b) h ∙ sym (opens_one j i _ w.clients)

-- Steps with events.

module _ (stage : Stage) (c : Course) (i : ℕ) where
  abbrev w : World
  w = world_in stage c

  -- the client has a list exactly where it is open
  abbrev IsThere : Course → Type 0
  IsThere d = is_present d.calls i ≡ is_there (world_in stage d).clients i

  plain_by : (s : declared.Step) → IsThere c → IsThere (event_step stage c (plain (step_of s))).course
  plain_by (steps.Edit n t) h = h
  plain_by (steps.Settle n v) h = h ∙ sym (settles_none stage w i n v (find (is_job n v) w.issued))
  plain_by (steps.Open format names) h =
      let after = step stage.roots w.core (connect names.items) in
      opens_it stage w i c.calls h format names.items after (connected_as (message_for format after.1))
  plain_by (steps.Turn j) h = h ∙ sym (turns_none stage w i j (client_at w.clients j) refl)
  plain_by (steps.Close j) h =
      left c.calls j i ∙ ap (λ b. not (j == i) && b) h ∙ sym (closes_it stage w i j (client_at w.clients j) refl)
  plain_by (steps.Show j) h = h ∙ sym (shows_none stage w i j _ (client_at w.clients j))
  plain_by (steps.Values j) h = h ∙ sym (shows_none stage w i j _ (client_at w.clients j))
  plain_by (steps.Fates j) h = h ∙ sym (shows_none stage w i j _ (client_at w.clients j))
  plain_by steps.Fresh h = h
  plain_by (steps.FreshOf j) h = h ∙ sym (shows_none stage w i j _ (client_at w.clients j))

  fired_by : (j : ℕ) (e : Event) (lines : Option (List OutLine)) → IsThere c → IsThere (fired_at c j e lines).course
  fired_by j e None h = h
  fired_by j e (Some lines) h = h ∙ sym (fires_none stage w i j e.0 e.1 (client_at w.clients j) refl)

  hear_by : (j : ℕ) (o : Option Runtime) (e : Option Event) → IsThere c → IsThere (hear_step stage c j o e).course
  hear_by j None e h = h
  hear_by j (Some r) None h = h
  hear_by j (Some r) (Some e) h = fired_by j e (heard_at stage.language e.0 e.1 (Some r)) h

abbrev pub AreThere : Stage → Course → Type 0
AreThere stage c = (i : ℕ) → is_present c.calls i ≡ is_some (client_at (world_in stage c).clients i)

pub plain_there : (stage : Stage) (c : Course) (s : declared.Step) → AreThere stage c → AreThere stage (event_step stage c (plain (step_of s))).course
plain_there stage c s h i = plain_by stage c i s (h i)

pub hear_there : (stage : Stage) (c : Course) (j : ℕ) → AreThere stage c → AreThere stage (event_step stage c (hears j)).course
hear_there stage c j h i = hear_by stage c i j (client_at (world_in stage c).clients j) (first c.calls j) (h i)
