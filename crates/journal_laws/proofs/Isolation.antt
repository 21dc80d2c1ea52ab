-- A step of one client leaves another that is open as it was: its record, the client itself, and what came
-- to it; and it leaves the sources.
use Rattle.std.proofs.Common.{◌≡◌, ℕ, ◌+◌, ◌≤◌, Bool, true, false, List, refl, ap, sym, ◌∙◌}
use Rattle.std.specs.Prelude.{◌==◌, not, Option, Some, None, is_some, if◌then◌else◌}
use Rattle.std.proofs.Math.Path.{subst}
use Rattle.std.proofs.lemmas.Bool.{false≢true, eqb-true}
use Rattle.hmr_types.specs.declared.value.Value.{Value}
use Rattle.output_lines.specs.declared.out_line.OutLine.{OutLine}
use Rattle.update_msgs.specs.declared.message.ClientMsg.{ClientMsg}
use Rattle.update_msgs.specs.declared.message.ClientMsg.TheVariants as told
use Rattle.core_model.specs.Names.{Name}
use Rattle.core_model.specs.Sources.{Text}
use Rattle.core_model.specs.Client.{Client}
use Rattle.core_model.specs.Requests.{Request, Reply, ask, fetch, applied_as, aborted, invalidate}
use Rattle.core_model.specs.Roots.{are_bad, roots_or}
use Rattle.core_model.specs.Core.{Core, connect, requested, connected, disconnected, if_room, is_full, request, client_at, step}
use Rattle.core_model.specs.Exchange.{event_of, message_for}
use Rattle.core_model.proofs.Clients.{at_with, at_without}
use Rattle.core_laws.specs.Isolated.{AreNumbered}
use Rattle.core_laws.proofs.Isolation.{other_request, other_leaves}
use Rattle.core_laws.proofs.Numbers.{numbered, next_absent}
use Rattle.client_model.specs.Requesting as requesting
use Rattle.client_model.specs.Firing.{fire}
use Rattle.client_model.specs.Runtime.{Runtime}
use Rattle.module_language.specs.ModuleLanguage.{module_language}
use Rattle.world_model.specs.World.{World, Step, edits, settles, opens, turn, closes, show, values, fates, fresh, fresh_of, fires}
use Rattle.world_model.specs.Steps.{world_step}
use Rattle.world_model.specs.Ties.{TiedAt}
use Rattle.world_model.specs.Turning.{turn_of, close_of, shown, fire_of, open_by, connected_as, take_some}
use Rattle.world_model.proofs.Tying.{run_sound}
use Rattle.world_laws.specs.Runs.{Run, world_of, HasClient}
use Rattle.world_laws.specs.Taken.{Life, life_of, lived_in, in_turn, in_open, in_fire}
use Rattle.world_laws.proofs.Freshness.{IsMade, core_made}
use Rattle.world_laws.proofs.TurnsTaken.{IsRequest, is_request, request_is}
use Rattle.journal_laws.specs.Isolated.{is_of_another, then_step, OthersAreSpared}

pub else_same : {X : Type 0} (b : Bool) (x y : X) → b ≡ false → (if b then x else y) ≡ y
else_same true x y e = absurd (false≢true (sym e))
else_same false x y e = refl

is_not : (b : Bool) → not b ≡ true → b ≡ false
is_not true e = sym e
is_not false e = refl

-- client j is left as it was
record Spared (j : ℕ) (w after : World) : Type 0 where
  kept : client_at after.core.clients j ≡ client_at w.core.clients j
  same : client_at after.clients j ≡ client_at w.clients j
  sources : after.core.sources ≡ w.core.sources

untouched : (j : ℕ) (w : World) → Spared j w w
untouched j w = record { kept = refl; same = refl; sources = refl }

-- A request, and a client that goes.

requested_sources : (o : Option Client) (i : ℕ) (core : Core) (r : Request)
    → (requested o i core r).0.sources ≡ core.sources
requested_sources None i core r = refl
requested_sources (Some c) i core r = refl

gone_sources : (o : Option Client) (i : ℕ) (core : Core) → (disconnected o i core).0.sources ≡ core.sources
gone_sources None i core = refl
gone_sources (Some c) i core = refl

module _ (roots : List Name) (i j : ℕ) (other : (i == j) ≡ false) (core : Core) where
  record Heard (after : Core) : Type 0 where
    kept : client_at after.clients j ≡ client_at core.clients j
    sources : after.sources ≡ core.sources

  heard_of : (r : Request) → Heard (step roots core (request i r)).0
  heard_of r = record {
    kept = other_request roots core i j r other;
    sources = requested_sources
        (client_at core.clients i) i core r;
  }

  heard_asked : (asked : ClientMsg) → IsRequest asked → Heard (step roots core (event_of i asked)).0
  heard_asked (told.Hello format names) is = absurd is
  heard_asked told.Ask is = heard_of ask
  heard_asked (told.Fetch n) is = heard_of (fetch n)
  heard_asked (told.Applied table) is = heard_of (applied_as table)
  heard_asked (told.Aborted cause n from x) is = heard_of aborted
  heard_asked (told.Invalidate n v message) is = heard_of (invalidate n v)
  heard_asked told.Bye is = absurd is

-- what a client asks in a turn, which is known under its number
pub asks : (i : ℕ) (c : Option Client) (r : Runtime) → TiedAt i c (Some r)
    → IsRequest (requesting.request module_language r)
asks i None r t = absurd t
asks i (Some c) r t = subst IsRequest (sym (request_is module_language r (subst (λ k. 1 ≤ k)
    (sym t.number) t.counted))) (is_request r.page.plan module_language r)

module _ (roots : List Name) (i j : ℕ) (other : (i == j) ≡ false) (w : World) where
  turned : (o : Option Runtime) → TiedAt i (client_at w.core.clients i) o
      → Spared j w (turn_of module_language roots i w o).world
  turned None t = untouched j w
  turned (Some r) t =
      let asked : ClientMsg = requesting.request module_language r in
      let after : Core × Reply = step roots w.core (event_of i asked) in
      let heard : Heard roots i j other w.core after.0 = heard_asked roots i j other w.core asked (asks i
      (client_at w.core.clients i) r t) in
      let new : Runtime = (take_some module_language r (message_for r.format after.1)).after in
      record {
        kept = heard.kept;
        same = at_with i new w.clients j ∙ else_same (i == j) (Some new) (client_at w.clients j) other;
        sources = heard.sources;
      }

  turned_life : (o : Option Runtime) (life : Life) → in_turn module_language roots w i o j life ≡ life
  turned_life None life = refl
  turned_life (Some r) life = else_same (i == j) _ life other

  closed : (o : Option Runtime) → Spared j w (close_of roots i w o).world
  closed None = untouched j w
  closed (Some r) = record {
    kept = other_leaves roots w.core i j other;
    same = at_without i w.clients j ∙ else_same (i == j) None (client_at w.clients j) other;
    sources = gone_sources (client_at w.core.clients i) i w.core;
  }

  looked : (lines : Runtime → List OutLine) (o : Option Runtime) → Spared j w (shown i w lines o).world
  looked lines None = untouched j w
  looked lines (Some r) = untouched j w

  fired : (n : Name) (value : Value) (o : Option Runtime) → Spared j w (fire_of module_language i n value w o).world
  fired n value None = untouched j w
  fired n value (Some r) =
      let new : Runtime = (fire module_language n value r).after in
      record {
        kept = refl;
        same = at_with i new w.clients j
            ∙ else_same (i == j) (Some new) (client_at w.clients j) other;
        sources = refl;
      }

  fired_life : (n : Name) (value : Value) (o : Option Runtime) (life : Life) → in_fire i n value o j life ≡ life
  fired_life n value None life = refl
  fired_life n value (Some r) life = else_same (i == j) _ life other

-- A client that comes, under the next number.

module _ (shelves : List (List (Text × ℕ))) (format : ℕ) (names : List Name) (j : ℕ) (w : World) (next :
    (w.core.given + 1 == j) ≡ false) (life : Life) where
  record Opened (after : Core × Reply) : Type 0 where
    spared : Spared j w (open_by module_language shelves format names w after).world
    lives : in_open shelves format names (message_for format after.1) (connected_as
        (message_for format after.1)) j life ≡ life

  admits : (full : Bool) (roots : List Name) → Opened (if_room full roots w.core)
  admits true roots = record { spared = untouched j w; lives = refl }
  admits false roots = record {
    spared = record {
      kept = at_with (w.core.given + 1) _ w.core.clients j
          ∙ else_same (w.core.given + 1 == j) _ (client_at w.core.clients j) next;
      same = at_with (w.core.given + 1) _ w.clients j ∙ else_same (w.core.given + 1 == j) _
          (client_at w.clients j) next;
      sources = refl;
    };
    lives = else_same (w.core.given + 1 == j) _ life next;
  }

  comes : (bad : Bool) (roots : List Name) → Opened (connected bad roots w.core)
  comes true roots = record { spared = untouched j w; lives = refl }
  comes false roots = admits (is_full w.core) roots

-- a client that is there hasn't the next number
not_next : (core : Core) → AreNumbered core → (j : ℕ) → is_some (client_at core.clients j) ≡ true
    → (b : Bool) → (core.given + 1 == j) ≡ b → b ≡ false
not_next core n j h false e = refl
not_next core n j h true e = absurd (false≢true (sym (next_absent core n)
    ∙ ap (λ k. is_some (client_at core.clients k)) (eqb-true (core.given + 1) j e) ∙ h))

-- A step.

module _ (run : Run) (j : ℕ) (c : Client) (r : Runtime) (h : HasClient run j c r) where
  abbrev w : World
  w = world_of run

  abbrev life : Life
  life = life_of module_language run.roots run.shelves run.steps j

  tied : (i : ℕ) → TiedAt i (client_at w.core.clients i) (client_at w.clients i)
  tied = (run_sound module_language run.roots run.shelves run.steps h.went).tied

  numbers : AreNumbered w.core
  numbers = let made : IsMade run.roots w.core = core_made module_language run.roots run.shelves run.steps in subst AreNumbered
      (sym made.made) (numbered run.roots made.events)

  next : (w.core.given + 1 == j) ≡ false
  next = not_next w.core numbers j (ap is_some h.is_open.connected) (w.core.given + 1 == j) refl

  opening : (format : ℕ) (names : List Name) → Opened run.shelves format names j w next life
      (step run.roots w.core (connect names))
  opening format names = comes run.shelves format names j w next life (are_bad names) (roots_or names run.roots)

  spares : (s : Step) → is_of_another j s ≡ true → Spared j w
      (world_step module_language run.roots run.shelves w s).world
  spares (edits n t) e = absurd (false≢true e)
  spares (settles n v) e = absurd (false≢true e)
  spares (opens format names) e = (opening format names).spared
  spares (turn i) e = turned run.roots i j (is_not (i == j) e) w (client_at w.clients i) (tied i)
  spares (closes i) e = closed run.roots i j (is_not (i == j) e) w (client_at w.clients i)
  spares (show i) e = looked run.roots i j (is_not (i == j) e) w _ (client_at w.clients i)
  spares (values i) e = looked run.roots i j (is_not (i == j) e) w _ (client_at w.clients i)
  spares (fates i) e = looked run.roots i j (is_not (i == j) e) w _ (client_at w.clients i)
  spares fresh e = absurd (false≢true e)
  spares (fresh_of i) e = looked run.roots i j (is_not (i == j) e) w _ (client_at w.clients i)
  spares (fires i n value) e = fired run.roots i j (is_not (i == j) e) w n value (client_at w.clients i)

  lives_on : (s : Step) → is_of_another j s ≡ true → lived_in module_language run.roots run.shelves w s j life ≡ life
  lives_on (edits n t) e = refl
  lives_on (settles n v) e = refl
  lives_on (opens format names) e = (opening format names).lives
  lives_on (turn i) e = turned_life run.roots i j (is_not (i == j) e) w (client_at w.clients i) life
  lives_on (closes i) e = refl
  lives_on (show i) e = refl
  lives_on (values i) e = refl
  lives_on (fates i) e = refl
  lives_on fresh e = refl
  lives_on (fresh_of i) e = refl
  lives_on (fires i n value) e = fired_life run.roots i j (is_not (i == j) e) w n value (client_at w.clients i) life

pub others_are_spared : (run : Run) (s : Step) → OthersAreSpared run s
others_are_spared run s j c r h e =
    let spared : Spared j (world_of run) (world_of (then_step run s)) = spares run j c r h s e in
    record {
      is_open = record { connected = spared.kept ∙ h.is_open.connected; open_is = spared.same ∙ h.is_open.open_is };
      life = lives_on run j c r h s e;
      sources = spared.sources;
    }
