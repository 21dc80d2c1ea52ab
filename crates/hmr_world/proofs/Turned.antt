-- A turn of the world.
use Rattle.std.proofs.Common.{◌≡◌, ℕ, List, [], ◌∷◌, sym, ap, ◌∙◌}
use Rattle.std.specs.Prelude.{Result, Ok, Err, OnOk, Some, None}
use Rattle.std.specs.Global.{Vec}
use Rattle.std.proofs.Math.Path.{subst}
use Rattle.output_lines.specs.declared.out_line.OutLine.{OutLine}
use Rattle.output_lines.specs.declared.out_line.OutLine.TheVariants as line
use Rattle.core_model.specs.Core as model
use Rattle.core_model.specs.Core.{client_at, with_client, without_client, disconnect, step}
use Rattle.core_model.specs.Names.{Name}
use Rattle.client_model.specs.Runtime.{Runtime}
use Rattle.client_model.specs.Requesting.{request}
use Rattle.client_model.specs.Taking.{Taking}
use Rattle.module_language.specs.ModuleLanguage.{module_language}
use Rattle.runtime_state.specs.declared.runtime.HotRuntime.{HotRuntime}
use Rattle.world_model.specs.World.{World, Stepped, turn, closes, stepped}
use Rattle.world_model.specs.Turning.{turn_of, close_of, lines_taken}
use Rattle.world_model.specs.Ties.{IsUnderstood, UnderstandsAt}
use Rattle.world_model.proofs.Tying.{understands, run_sound}
use Rattle.world_laws.specs.Runs.{Run, world_of}
use Rattle.hmr_world.specs.Clients.{IsRuntime, AreOpen}
use Rattle.world_parts.specs.Cores.{IsCore}
use Rattle.world_parts.specs.Shelves.{AreShelves}
use Rattle.hmr_world.specs.Standing.{Has, IsStepped, StandsFor}
use Rattle.world_parts.specs.Stops.{AreLines}
use Rattle.hmr_world.specs.Turns.{CanTurn, answer_to, taking_of}
use Rattle.world_parts.specs.declared.stop.WorldStop.{WorldStop}
use Rattle.hmr_world.specs.declared.world.World as code
use Rattle.world_parts.proofs.Issued.{message_goes, bye_goes}
use Rattle.hmr_world.proofs.Opened.{Opened, opened_at, closed_at, with_open, without_open}
use Rattle.hmr_world.proofs.Stepped.{stepped_by, later_shelves}

module _ {F : Type 0} (run : Run) (i : ℕ) (old : code.World F) (stands : StandsFor run old) where
  -- the world of the definitions
  abbrev w : World
  w = world_of run

  -- what the client's code makes of its turn, where the server has these roots
  abbrev taken : List Name → Runtime → Taking
  taken roots r = taking_of roots w.core i r

  -- the core after it
  abbrev answered : List Name → Runtime → model.Core
  answered roots r = (answer_to roots w.core i r).0

  abbrev gone : List Name → model.Core
  gone roots = (step roots w.core (disconnect i)).0

  closed : client_at old.clients.items i ≡ None → client_at w.clients i ≡ None
  closed none = closed_at w.clients old.clients.items i stands.has.clients none

  -- the client isn't open
  pub turn_unknown : (lines : Vec OutLine) → client_at old.clients.items i ≡ None
      → lines.items ≡ line.Unknown i ∷ [] → IsStepped run (turn i) old (Ok lines)
  turn_unknown lines none e =
      let unknown = stepped w (line.Unknown i ∷ []) in
      let is = ap (turn_of module_language run.roots i w) (closed none) in
      stepped_by run (turn i) old (Ok lines) unknown is (ap Some (sym e)) stands.has

  module _ (h : HotRuntime F) (there : client_at old.clients.items i ≡ Some h) where
    opened : Opened w.clients i h
    opened = opened_at w.clients old.clients.items i h stands.has.clients there

    -- the client understands what the core will say
    understood : IsUnderstood (taken run.roots opened.r).answer
    understood =
        let sound = run_sound module_language run.roots run.shelves run.steps stands.went in
        subst (UnderstandsAt module_language run.roots w i) opened.there
        (understands module_language run.roots w sound i)

    pub can_turn : CanTurn i old.core h
    can_turn = record {
      c = w.core;
      r = opened.r;
      core_is = stands.has.core;
      is = opened.is;
      understood = subst (λ rs. IsUnderstood (taken rs opened.r).answer) (sym stands.has.roots_are) understood;
    }

    -- the world of the definitions after the turn
    abbrev turned : Stepped
    turned = turn_of module_language run.roots i w (Some opened.r)

    module _ (h' : HotRuntime F) (new : code.World F)
        (clients : new.clients.items ≡ with_client i h' old.clients.items)
        (roots : new.core.roots ≡ old.core.roots) (jobs : new.jobs ≡ old.jobs)
        (shelves : new.shelves.items ≡ old.shelves.items) where
      turned_clients : IsRuntime (taken run.roots opened.r).after h'
          → AreOpen turned.world.clients new.clients.items
      turned_clients runtime =
          subst (AreOpen turned.world.clients) (sym clients)
          (with_open w.clients old.clients.items i _ h' stands.has.clients runtime)

      turned_shelves : AreShelves turned.world.core.given run.shelves new.shelves.items
      turned_shelves =
          let goes = message_goes run.roots w.core i (request module_language opened.r) in
          subst (AreShelves turned.world.core.given run.shelves) (sym shelves)
          (later_shelves w.core.given _ run.shelves old.shelves.items goes.given stands.has.shelves_are)

      turned_has : IsCore (answered old.core.roots opened.r) new.core
          → IsRuntime (taken old.core.roots opened.r).after h' → Has run.roots run.shelves turned.world new
      turned_has core runtime = record {
        roots_are = roots ∙ stands.has.roots_are;
        core = subst (λ rs. IsCore (answered rs opened.r) new.core) stands.has.roots_are core;
        clients = turned_clients
            (subst (λ rs. IsRuntime (taken rs opened.r).after h') stands.has.roots_are runtime);
        jobs = jobs ∙ stands.has.jobs;
        shelves_are = turned_shelves;
      }

      turned_if : (result : Result (Vec OutLine) WorldStop)
          → OnOk result (IsCore (answered old.core.roots opened.r) new.core)
          → OnOk result (IsRuntime (taken old.core.roots opened.r).after h')
          → OnOk result (Has run.roots run.shelves turned.world new)
      turned_if (Ok lines) core runtime = turned_has core runtime
      turned_if (Err e) core runtime = tt

      pub turn_step : (result : Result (Vec OutLine) WorldStop)
          → ((c : model.Core) (r : Runtime) → IsCore c old.core → IsRuntime r h
          → OnOk result (IsCore (answer_to old.core.roots c i r).0 new.core))
          → ((c : model.Core) (r : Runtime) → IsCore c old.core → IsRuntime r h
          → OnOk result (IsRuntime (taking_of old.core.roots c i r).after h'))
          → ((c : model.Core) (r : Runtime) → IsCore c old.core → IsRuntime r h
          → AreLines (lines_taken (taking_of old.core.roots c i r).answer) result)
          → IsStepped run (turn i) new result
      turn_step result core runtime lines =
          let shown = lines w.core opened.r stands.has.core opened.is in
          let core_is = core w.core opened.r stands.has.core opened.is in
          let runtime_is = runtime w.core opened.r stands.has.core opened.is in
          stepped_by run (turn i) new result turned (ap (turn_of module_language run.roots i w) opened.there)
          (subst (λ rs. AreLines (lines_taken (taken rs opened.r).answer) result) stands.has.roots_are shown)
          (turned_if result core_is runtime_is)

  -- a client that goes
  pub close_unknown : (lines : Vec OutLine) → client_at old.clients.items i ≡ None
      → lines.items ≡ line.Unknown i ∷ [] → IsStepped run (closes i) old (Ok lines)
  close_unknown lines none e =
      let unknown = stepped w (line.Unknown i ∷ []) in
      let is = ap (close_of run.roots i w) (closed none) in
      stepped_by run (closes i) old (Ok lines) unknown is (ap Some (sym e)) stands.has

  pub close_step : (h : HotRuntime F) → client_at old.clients.items i ≡ Some h → (new : code.World F)
      → new.clients.items ≡ without_client i old.clients.items → new.core.roots ≡ old.core.roots
      → new.jobs ≡ old.jobs → new.shelves.items ≡ old.shelves.items
      → IsCore (step old.core.roots (world_of run).core (disconnect i)).0 new.core → (lines : Vec OutLine)
      → lines.items ≡ line.Close i ∷ [] → IsStepped run (closes i) new (Ok lines)
  close_step h there new clients roots jobs shelves core lines e =
      let opened = opened_at w.clients old.clients.items i h stands.has.clients there in
      let is = ap (close_of run.roots i w) opened.there in
      stepped_by run (closes i) new (Ok lines) (close_of run.roots i w (Some opened.r)) is (ap Some (sym e))
      (record {
        roots_are = roots ∙ stands.has.roots_are;
        core = subst (λ rs. IsCore (gone rs) new.core) stands.has.roots_are core;
        clients = subst (AreOpen (without_client i w.clients)) (sym clients)
            (without_open w.clients old.clients.items i stands.has.clients);
        jobs = jobs ∙ stands.has.jobs;
        shelves_are = subst (AreShelves (gone run.roots).given run.shelves) (sym shelves)
            (later_shelves w.core.given _ run.shelves old.shelves.items (bye_goes run.roots w.core i).given
            stands.has.shelves_are);
      })
