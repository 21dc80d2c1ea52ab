-- Each open client of the world is what came to it makes, and its page stayed as the
-- server keeps it all along; so what holds of every past holds of it.
use Rattle.std.proofs.Common.{◌≡◌, ◌↔◌, ℕ, Bool, true, false, List, [], ◌∷◌, refl, ap, sym, ◌∙◌, Contains}
use Rattle.std.specs.Prelude.{find, ◌==◌, Option, Some, None, IfSome, if◌then◌else◌, ⊤}
use Rattle.std.proofs.Math.Path.{subst}
use Rattle.std.proofs.lemmas.Bool.{false≢true, eqb-true}
use Rattle.std.proofs.lemmas.Option.{IfSome_then}
use Rattle.hmr_types.specs.declared.analysis.Analysis.{Analysis}
use Rattle.hmr_types.specs.declared.words.PlanKind.{PlanKind}
use Rattle.hmr_types.specs.declared.words.PlanKind.TheVariants.{Load, Reload, Update}
use Rattle.output_lines.specs.declared.out_line.OutLine.{OutLine}
use Rattle.update_msgs.specs.declared.message.ServerMsg.{ServerMsg}
use Rattle.core_model.specs.Names.{Name}
use Rattle.core_model.specs.Sources.{Text, Sources}
use Rattle.core_model.specs.View.{View, imports}
use Rattle.core_model.specs.Page.{Plan}
use Rattle.core_model.specs.Client.{Client}
use Rattle.core_model.specs.Core.{Core, connect, client_at, step, core_after, changes_of}
use Rattle.core_model.specs.Exchange.{event_of, message_for}
use Rattle.core_model.proofs.Clients.{at_with, at_without}
use Rattle.core_laws.specs.Given.{analysis_given}
use Rattle.core_laws.specs.Facts.{ClientFacts, PlanIs, KindIs}
use Rattle.core_laws.proofs.Events.{client_facts}
use Rattle.client_model.specs.Language.{Language}
use Rattle.client_model.specs.Runtime.{Runtime, Opening, new_runtime}
use Rattle.client_model.specs.Requesting.{request}
use Rattle.client_model.specs.Past.{Incoming, message, event, met, runtime_after}
use Rattle.client_model.specs.Firing.{fire}
use Rattle.core_model.specs.Requests.{Reply}
use Rattle.hmr_types.specs.declared.value.Value.{Value}
use Rattle.client_model.specs.Stale.{IsStale, stale_of}
use Rattle.world_model.specs.World.{Job, World, Step, edits, settles, opens, turn, closes, show, values, fates, fresh, fresh_of, fires}
use Rattle.world_model.specs.Editing.{is_job, settle_job}
use Rattle.world_model.specs.Turning.{take_some, turn_of, opened_by, close_of, shown, fire_of, connected_as, opening_of}
use Rattle.world_model.specs.Steps.{world_step, world_after}
use Rattle.world_model.specs.Ties.{TiedAt, WentOn}
use Rattle.world_model.proofs.Tying.{run_sound}
use Rattle.world_laws.specs.Taken.{Life, message_too, in_turn, in_open, in_fire, lived_in, life_of}
use Rattle.world_laws.specs.Stops.{IsMadeBy, AreStops, AreListedStops, AreStopsAccepted, IsStopped}
use Rattle.world_laws.proofs.Freshness.{IsMade, core_made}
use Rattle.world_laws.proofs.Making.{listed_run}
use Rattle.world_laws.proofs.Stopping.{IsClosed, IsSane, KindSpread, PlanSpread}
use Rattle.world_laws.proofs.StopLists.{AtEach, stale_are_stopped, stops_are_accepted}

-- A record's page.

kind_spread : (kind : PlanKind) (roots : List Name) (loaded : Bool) (view : View) (forced replaced : List Name) → KindIs kind roots loaded view forced replaced → KindSpread kind view forced replaced
kind_spread Load roots loaded view forced replaced h = tt
kind_spread Reload roots loaded view forced replaced h = tt
kind_spread Update roots loaded view forced replaced h = h.spread

plan_spread : (plan : Option Plan) (roots : List Name) (by : Name → ℕ → Option Analysis) (loaded : Bool) (view : View) (forced : List Name) → PlanIs plan roots by loaded view forced → PlanSpread plan view forced
plan_spread None roots by loaded view forced h = tt
plan_spread (Some p) roots by loaded view forced h = kind_spread p.kind roots loaded view forced p.replaced h.0

closed_of : (by : Name → ℕ → Option Analysis) (s : Sources) (c : Client) (loaded : Bool) → c.page.loaded ≡ loaded → ClientFacts by s c → IsClosed c.page.view
closed_of by s c true e facts = (facts.closed e).on
closed_of by s c false e facts = λ b x i. absurd (false≢true (ap (λ v. imports v b x) (sym (facts.empty e)) ∙ i))

sane_of : (by : Name → ℕ → Option Analysis) (s : Sources) (c : Client) → ClientFacts by s c → IsSane c.page
sane_of by s c facts = record { closed = closed_of by s c c.page.loaded refl facts; spread = plan_spread c.page.plan c.roots by c.page.loaded c.page.view c.page.forced facts.planned }

sane_record : (roots : List Name) (core : Core) (i : ℕ) → IsMade roots core → IfSome (client_at core.clients i) (λ c. IsSane c.page)
sane_record roots core i m = subst (λ k. IfSome (client_at k.clients i) (λ c. IsSane c.page)) (sym m.made)
    (IfSome_then (client_at (core_after roots m.events).clients i) (client_facts roots m.events i) (λ c facts. sane_of (analysis_given (changes_of m.events)) (core_after roots m.events).sources c facts))

-- an open client's page
abbrev SaneAt : Option Runtime → Type 0
SaneAt None = ⊤
SaneAt (Some r) = IsSane r.page

sane_tied : (i : ℕ) (c : Option Client) (r : Option Runtime) → IfSome c (λ c. IsSane c.page) → TiedAt i c r → SaneAt r
sane_tied i c None h t = tt
sane_tied i None (Some r) h t = absurd t
sane_tied i (Some c) (Some r) h t = subst IsSane (sym t.page) h

module _ (language : Language) (roots : List Name) (shelves : List (List (Text × ℕ))) where
  all_sane : (past : List Step) → WentOn language roots shelves past → (i : ℕ) → SaneAt (client_at (world_after language roots shelves past).clients i)
  all_sane past h i =
      let w : World = world_after language roots shelves past in
      sane_tied i (client_at w.core.clients i) (client_at w.clients i) (sane_record roots w.core i (core_made language roots shelves past)) ((run_sound language roots shelves past h).tied i)

  -- an open client is what came to it makes, and its page was sane after each part of that
  abbrev Follows : Life → Option Runtime → Type 0
  Follows life None = ⊤
  Follows life (Some r) = (r ≡ runtime_after language life.opening life.past) × AtEach (λ s. IsSane s.page) language life.opening life.past

  abbrev AllFollow : (ℕ → Life) → List (ℕ × Runtime) → Type 0
  AllFollow lives clients = (i : ℕ) → Follows (lives i) (client_at clients i)

  abbrev AllSane : List (ℕ × Runtime) → Type 0
  AllSane clients = (i : ℕ) → SaneAt (client_at clients i)

  -- What comes to a client.

  one_more : (came : Incoming) (life : Life) (r : Runtime) → Follows life (Some r) → IsSane (met language came r).0.page → Follows (record life { past = came ∷ life.past }) (Some (met language came r).0)
  one_more came life r f s = (ap (λ q. (met language came q).0) f.0, (subst (λ q. IsSane (met language came q).0.page) f.0 s, f.1))

  message_more : (o : Option ServerMsg) (life : Life) (r : Runtime) → Follows life (Some r) → IsSane (take_some language r o).after.page → Follows (record life { past = message_too o life.past }) (Some (take_some language r o).after)
  message_more None life r f s = f
  message_more (Some m) life r f s = one_more (message m) life r f s

  turn_if : (lives : ℕ → Life) (j i : ℕ) (b : Bool) (m : Option ServerMsg) (r : Runtime) (o : Option Runtime) → (b ≡ true → j ≡ i) → Follows (lives j) (Some r) → Follows (lives i) o → SaneAt (if b then Some (take_some language r m).after else o)
      → Follows (if b then record (lives i) { past = message_too m (lives i).past } else lives i) (if b then Some (take_some language r m).after else o)
  turn_if lives j i true m r o e f g s = subst (λ k. Follows (record (lives k) { past = message_too m (lives k).past }) (Some (take_some language r m).after)) (e refl) (message_more m (lives j) r f s)
  turn_if lives j i false m r o e f g s = g

  turned : (lives : ℕ → Life) (w : World) (j : ℕ) (o : Option Runtime) → client_at w.clients j ≡ o → AllFollow lives w.clients → AllSane (turn_of language roots j w o).world.clients → AllFollow (λ i. in_turn language roots w j o i (lives i)) (turn_of language roots j w o).world.clients
  turned lives w j None e f s i = f i
  turned lives w j (Some r) e f s i =
      let m : Option ServerMsg = message_for r.format (step roots w.core (event_of j (request language r))).1 in
      let after : Runtime = (take_some language r m).after in
      subst (Follows (if j == i then record (lives i) { past = message_too m (lives i).past } else lives i)) (sym (at_with j after w.clients i))
      (turn_if lives j i (j == i) m r (client_at w.clients i) (eqb-true j i) (subst (Follows (lives j)) e (f j)) (f i) (subst SaneAt (at_with j after w.clients i) (s i)))

  fire_if : (lives : ℕ → Life) (j i : ℕ) (b : Bool) (n : Name) (value : Value) (r : Runtime) (o : Option Runtime) → (b ≡ true → j ≡ i) → Follows (lives j) (Some r) → Follows (lives i) o → SaneAt (if b then Some (fire language n value r).after else o)
      → Follows (if b then record (lives i) { past = event n value ∷ (lives i).past } else lives i) (if b then Some (fire language n value r).after else o)
  fire_if lives j i true n value r o e f g s = subst (λ k. Follows (record (lives k) { past = event n value ∷ (lives k).past }) (Some (fire language n value r).after)) (e refl) (one_more (event n value) (lives j) r f s)
  fire_if lives j i false n value r o e f g s = g

  fired : (lives : ℕ → Life) (w : World) (j : ℕ) (n : Name) (value : Value) (o : Option Runtime) → client_at w.clients j ≡ o → AllFollow lives w.clients → AllSane (fire_of language j n value w o).world.clients → AllFollow (λ i. in_fire j n value o i (lives i)) (fire_of language j n value w o).world.clients
  fired lives w j n value None e f s i = f i
  fired lives w j n value (Some r) e f s i =
      let after : Runtime = (fire language n value r).after in
      subst (Follows (if j == i then record (lives i) { past = event n value ∷ (lives i).past } else lives i)) (sym (at_with j after w.clients i))
      (fire_if lives j i (j == i) n value r (client_at w.clients i) (eqb-true j i) (subst (Follows (lives j)) e (f j)) (f i) (subst SaneAt (at_with j after w.clients i) (s i)))

  -- A client that opens, or closes.

  born : (opening : Opening) (o : Option ServerMsg) → SaneAt (Some (take_some language (new_runtime opening) o).after) → Follows (record { opening = opening; past = message_too o [] }) (Some (take_some language (new_runtime opening) o).after)
  born opening None s = (refl, tt)
  born opening (Some m) s = (refl, (s, tt))

  open_if : (life : Life) (b : Bool) (opening : Opening) (m : Option ServerMsg) (o : Option Runtime) → Follows life o → SaneAt (if b then Some (take_some language (new_runtime opening) m).after else o)
      → Follows (if b then record { opening = opening; past = message_too m [] } else life) (if b then Some (take_some language (new_runtime opening) m).after else o)
  open_if life true opening m o g s = born opening m s
  open_if life false opening m o g s = g

  opened : (lives : ℕ → Life) (w : World) (format : ℕ) (names : List Name) (after : Core × Reply) (number : Option ℕ) → AllFollow lives w.clients → AllSane (opened_by language shelves format names w after number).world.clients
      → AllFollow (λ i. in_open shelves format names (message_for format after.1) number i (lives i)) (opened_by language shelves format names w after number).world.clients
  opened lives w format names after None f s i = f i
  opened lives w format names after (Some j) f s i =
      let opening : Opening = opening_of shelves format names j in
      let m : Option ServerMsg = message_for format after.1 in
      let r : Runtime = (take_some language (new_runtime opening) m).after in
      subst (Follows (if j == i then record { opening = opening; past = message_too m [] } else lives i)) (sym (at_with j r w.clients i))
      (open_if (lives i) (j == i) opening m (client_at w.clients i) (f i) (subst SaneAt (at_with j r w.clients i) (s i)))

  close_if : (life : Life) (b : Bool) (o : Option Runtime) → Follows life o → Follows life (if b then None else o)
  close_if life true o f = tt
  close_if life false o f = f

  closed : (lives : ℕ → Life) (w : World) (j : ℕ) (o : Option Runtime) → AllFollow lives w.clients → AllFollow lives (close_of roots j w o).world.clients
  closed lives w j None f i = f i
  closed lives w j (Some r) f i = subst (Follows (lives i)) (sym (at_without j w.clients i)) (close_if (lives i) (j == i) (client_at w.clients i) (f i))

  settled : (lives : ℕ → Life) (w : World) (n : Name) (v : ℕ) (o : Option Job) → AllFollow lives w.clients → AllFollow lives (settle_job language roots n v w o).world.clients
  settled lives w n v None f i = f i
  settled lives w n v (Some j) f i = f i

  shows : (lives : ℕ → Life) (w : World) (j : ℕ) (lines : Runtime → List OutLine) (o : Option Runtime) → AllFollow lives w.clients → AllFollow lives (shown j w lines o).world.clients
  shows lives w j lines None f i = f i
  shows lives w j lines (Some r) f i = f i

  step_follows : (lives : ℕ → Life) (w : World) (s : Step) → AllFollow lives w.clients → AllSane (world_step language roots shelves w s).world.clients → AllFollow (λ i. lived_in language roots shelves w s i (lives i)) (world_step language roots shelves w s).world.clients
  step_follows lives w (edits n t) f s i = f i
  step_follows lives w (settles n v) f s i = settled lives w n v (find (is_job n v) w.issued) f i
  step_follows lives w (opens format names) f s i = opened lives w format names (step roots w.core (connect names)) (connected_as (message_for format (step roots w.core (connect names)).1)) f s i
  step_follows lives w (turn j) f s i = turned lives w j (client_at w.clients j) refl f s i
  step_follows lives w (closes j) f s i = closed lives w j (client_at w.clients j) f i
  step_follows lives w (show j) f s i = shows lives w j _ (client_at w.clients j) f i
  step_follows lives w (values j) f s i = shows lives w j _ (client_at w.clients j) f i
  step_follows lives w (fates j) f s i = shows lives w j _ (client_at w.clients j) f i
  step_follows lives w fresh f s i = f i
  step_follows lives w (fresh_of j) f s i = shows lives w j _ (client_at w.clients j) f i
  step_follows lives w (fires j n value) f s i = fired lives w j n value (client_at w.clients j) refl f s i

  run_follows : (past : List Step) → WentOn language roots shelves past → AllFollow (life_of language roots shelves past) (world_after language roots shelves past).clients
  run_follows [] h i = tt
  run_follows (s ∷ past) h i = step_follows (life_of language roots shelves past) (world_after language roots shelves past) s (run_follows past h.1) (all_sane (s ∷ past) h) i

  made_by : (life : Life) (o : Option Runtime) → Follows life o → IsMadeBy language life.opening life.past o
  made_by life None f = tt
  made_by life (Some r) f = f.0

  stops_by : (life : Life) (o : Option Runtime) → Follows life o → AreStops language life.opening life.past o
  stops_by life None f = tt
  stops_by life (Some r) f = subst (λ q. (b x : Name) → IsStale q b x ↔ IsStopped language life.opening life.past b x) (sym f.0) (stale_are_stopped language life.opening life.past f.1)

  listed_by : (life : Life) (o : Option Runtime) → Follows life o → AreListedStops language life.opening life.past o
  listed_by life None f = tt
  listed_by life (Some r) f = subst (λ q. (b x : Name) → Contains (stale_of q) (b, x) ↔ IsStopped language life.opening life.past b x) (sym f.0)
      (λ b x.
      let l = listed_run language life.opening life.past b x in
      let s = stale_are_stopped language life.opening life.past f.1 b x in
      ((λ c. s.0 (l.0 c)), (λ t. l.1 (s.1 t))))

  accepted_by : (life : Life) (o : Option Runtime) → Follows life o → AreStopsAccepted language life.opening life.past o
  accepted_by life None f = tt
  accepted_by life (Some r) f = stops_are_accepted language life.opening life.past f.1

pub made_run : (language : Language) (roots : List Name) (shelves : List (List (Text × ℕ))) (past : List Step) (i : ℕ) → WentOn language roots shelves past → IsMadeBy language (life_of language roots shelves past i).opening (life_of language roots shelves past i).past (client_at (world_after language roots shelves past).clients i)
made_run language roots shelves past i h = made_by language roots shelves (life_of language roots shelves past i) (client_at (world_after language roots shelves past).clients i) (run_follows language roots shelves past h i)

pub stops_run : (language : Language) (roots : List Name) (shelves : List (List (Text × ℕ))) (past : List Step) (i : ℕ) → WentOn language roots shelves past → AreStops language (life_of language roots shelves past i).opening (life_of language roots shelves past i).past (client_at (world_after language roots shelves past).clients i)
stops_run language roots shelves past i h = stops_by language roots shelves (life_of language roots shelves past i) (client_at (world_after language roots shelves past).clients i) (run_follows language roots shelves past h i)

pub listed_stops_run : (language : Language) (roots : List Name) (shelves : List (List (Text × ℕ))) (past : List Step) (i : ℕ) → WentOn language roots shelves past → AreListedStops language (life_of language roots shelves past i).opening (life_of language roots shelves past i).past (client_at (world_after language roots shelves past).clients i)
listed_stops_run language roots shelves past i h = listed_by language roots shelves (life_of language roots shelves past i) (client_at (world_after language roots shelves past).clients i) (run_follows language roots shelves past h i)

pub accepted_run : (language : Language) (roots : List Name) (shelves : List (List (Text × ℕ))) (past : List Step) (i : ℕ) → WentOn language roots shelves past → AreStopsAccepted language (life_of language roots shelves past i).opening (life_of language roots shelves past i).past (client_at (world_after language roots shelves past).clients i)
accepted_run language roots shelves past i h = accepted_by language roots shelves (life_of language roots shelves past i) (client_at (world_after language roots shelves past).clients i) (run_follows language roots shelves past h i)
