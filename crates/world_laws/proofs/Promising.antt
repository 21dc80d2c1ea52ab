-- The parts of the headline, from the laws of the world and of the core.
use Rattle.std.proofs.Common.{◌≡◌, ◌↔◌, ℕ, ◌≤◌, Bool, true, false, List, refl, ap, sym, ◌∙◌, Contains}
use Rattle.std.specs.Prelude.{Option, Some, None}
use Rattle.std.proofs.Math.Path.{subst}
use Rattle.std.proofs.lemmas.Bool.{false≢true}
use Rattle.update_msgs.specs.declared.message.ClientMsg.{ClientMsg}
use Rattle.update_msgs.specs.declared.message.ClientMsg.TheVariants as told
use Rattle.update_msgs.specs.declared.message.ServerMsg.{ServerMsg}
use Rattle.update_msgs.specs.declared.message.ServerMsg.TheVariants as msg
use Rattle.core_model.specs.Names.{Name, at}
use Rattle.core_model.specs.Sources.{Sources}
use Rattle.core_model.specs.FreshLoad.{fresh_table}
use Rattle.core_model.specs.Page.{Plan}
use Rattle.core_model.specs.Client.{Client}
use Rattle.core_model.specs.Requests.{Reply, edited, settled, to_client, refused, gone, FetchRow, text, not_yet, broken, missing, fetch_row, fetched_in, fetch_reply, AppliedRow, unfetched, mismatch, done, applied_row, applied_reply, applied_in, aborted_in, is_at_version, invalidate_reply, invalidated_in}
use Rattle.core_model.specs.Core.{Core, client_at, step}
use Rattle.core_model.specs.Exchange.{event_of}
use Rattle.core_laws.specs.Reloading.{IsFullReload, IsReloadDue}
use Rattle.core_laws.proofs.Replying.{reload_exactly}
use Rattle.client_model.specs.Requesting.{request}
use Rattle.client_model.specs.Runtime.{Runtime}
use Rattle.client_model.specs.Stale.{IsStale}
use Rattle.module_language.specs.ModuleLanguage.{module_language}
use Rattle.module_language.proofs.Binding.{module_texts_bind}
use Rattle.world_model.specs.CaughtUp.{IsCaughtUp, largest_debt}
use Rattle.world_model.specs.Ties.{IsTied, TiedAt}
use Rattle.world_model.proofs.Tying.{run_sound}
use Rattle.world_laws.specs.Fresh.{HoldsFreshLoad, IsFreshAt, HasInstancesAt}
use Rattle.world_laws.specs.Instances.{IsLiveAs}
use Rattle.world_laws.specs.Stops.{IsStopped, AreStops}
use Rattle.world_laws.specs.Quiet.{IsSettled, AreQuiet, IsUpAmongLooks}
use Rattle.world_laws.specs.Runs.{Run, world_of, sources_of, served_of, life_in, HasClient, next_reply, IsReloadTurn}
use Rattle.world_laws.proofs.CatchingUp.{debt_bound}
use Rattle.world_laws.proofs.Freshness.{are_fresh}
use Rattle.world_laws.proofs.FreshInstances.{instances_run}
use Rattle.world_laws.proofs.Following.{stops_run}
use Rattle.world_laws.proofs.Looking.{up_among}
use Rattle.world_laws.proofs.OwnRoots.{OwnRoots, own_roots}
use Rattle.core_model.specs.Roots.{roots_or}
use Rattle.world_laws.proofs.TurnsLowering.{caught_within}
use Rattle.world_laws.proofs.TurnsTaken.{heard_by, IsRequest, is_request, request_is, step_by}

module _ (run : Run) (i : ℕ) (c : Client) (r : Runtime) (h : HasClient run i c r) where
  -- what holds at the number holds of the client
  of_client : (P : Option Client → Option Runtime → Type 0) → P (client_at (world_of run).core.clients i) (client_at (world_of run).clients i) → P (Some c) (Some r)
  of_client P k = subst (λ o. P o (Some r)) h.is_open.connected (subst (P (client_at (world_of run).core.clients i)) h.is_open.open_is k)

  tie : IsTied i c r
  tie = of_client (TiedAt i) ((run_sound module_language run.roots run.shelves run.steps h.went).tied i)

  pub holds_fresh : IsCaughtUp (sources_of run) c r → HoldsFreshLoad (served_of run) r
  holds_fresh = of_client (IsFreshAt (world_of run)) (are_fresh module_language run.roots run.shelves run.steps h.went i)

  pub has_own_roots : r.roots ≡ roots_or (life_in run i).opening.roots run.roots
  has_own_roots = of_client (OwnRoots module_language run.roots run.shelves (life_in run i)) (own_roots module_language run.roots run.shelves run.steps i h.went)

  pub has_instances : IsCaughtUp (sources_of run) c r → (n : Name) (v : ℕ) → Contains (fresh_table (served_of run) r.roots) (n, v) ↔ IsLiveAs r.instances n v
  has_instances = of_client (HasInstancesAt (world_of run)) (instances_run module_language run.roots run.shelves run.steps h.went i)

  pub stale_stops : (b x : Name) → IsStale r b x ↔ IsStopped module_language (life_in run i).opening (life_in run i).past b x
  stale_stops = of_client (λ o. AreStops module_language (life_in run i).opening (life_in run i).past) (stops_run module_language run.roots run.shelves run.steps i h.went)

  pub catches_up : IsSettled module_language c.roots (sources_of run) → AreQuiet module_language run.roots run.shelves i (largest_debt (sources_of run) c r) run.steps → IsUpAmongLooks module_language run.roots run.shelves i (largest_debt (sources_of run) c r) run.steps
  catches_up whole quiet = up_among module_language run.roots run.shelves i (largest_debt (sources_of run) c r) run.steps
      (caught_within module_language run.roots run.shelves i module_texts_bind (largest_debt (sources_of run) c r) run.steps c r h.went whole h.is_open (debt_bound (sources_of run) c r) quiet)

-- A full reload answers an Ask alone.

abbrev is_reload_in : ServerMsg → Bool
is_reload_in (msg.Connected client roots) = false
is_reload_in (msg.Update replaced updates batch triggered) = false
is_reload_in (msg.Prune paths) = false
is_reload_in (msg.FullReload cause path batch triggered) = true
is_reload_in (msg.Error n row column word) = false
is_reload_in (msg.Broken n row column word) = false
is_reload_in msg.Idle = false
is_reload_in msg.Done = false
is_reload_in (msg.Text n v t) = false
is_reload_in (msg.Missing n) = false
is_reload_in (msg.NotYet n) = false
is_reload_in (msg.Refused code n asked kept) = false

abbrev is_reload : Reply → Bool
is_reload (edited answer) = false
is_reload (settled answer) = false
is_reload (to_client m) = is_reload_in m
is_reload (refused refusal) = false
is_reload gone = false

fetch_other : (row : FetchRow) (n : Name) → is_reload (fetch_reply row n) ≡ false
fetch_other (text s) n = refl
fetch_other not_yet n = refl
fetch_other (broken fault) n = refl
fetch_other missing n = refl

applied_other : (row : AppliedRow) → is_reload (applied_reply row) ≡ false
applied_other (unfetched n) = refl
applied_other (mismatch n asked kept) = refl
applied_other done = refl

invalidate_other : (there : Bool) → is_reload (invalidate_reply there) ≡ false
invalidate_other true = refl
invalidate_other false = refl

fetched_other : (q : Option Plan) (s : Sources) (n : Name) (c : Client) → is_reload (fetched_in q s n c).1 ≡ false
fetched_other None s n c = refl
fetched_other (Some p) s n c = fetch_other (fetch_row s n) n

told_other : (q : Option Plan) (table : List (Name × ℕ)) (c : Client) → is_reload (applied_in q table c).1 ≡ false
told_other None table c = refl
told_other (Some p) table c = applied_other (applied_row c.roots p c.page.view table)

aborted_other : (q : Option Plan) (c : Client) → is_reload (aborted_in q c).1 ≡ false
aborted_other None c = refl
aborted_other (Some p) c = refl

invalidated_other : (q : Option Plan) (n : Name) (v : ℕ) (c : Client) → is_reload (invalidated_in q n v c).1 ≡ false
invalidated_other None n v c = invalidate_other (is_at_version (at c.page.view n) v)
invalidated_other (Some p) n v c = refl

abbrev is_ask : ClientMsg → Bool
is_ask (told.Hello format roots) = false
is_ask told.Ask = true
is_ask (told.Fetch n) = false
is_ask (told.Applied table) = false
is_ask (told.Aborted cause n from x) = false
is_ask (told.Invalidate n v message) = false
is_ask told.Bye = false

module _ (roots : List Name) (core : Core) (i : ℕ) (c : Client) (there : client_at core.clients i ≡ Some c) where
  -- what is asked is an Ask, and a reload is due
  record AsksDue (asked : ClientMsg) : Type 0 where
    asks : asked ≡ told.Ask
    due : IsReloadDue core.sources c

  other : (asked : ClientMsg) → IsRequest asked → is_ask asked ≡ false → is_reload (heard_by asked i core.sources c).1 ≡ false → IsFullReload (step roots core (event_of i asked)).1 ↔ AsksDue asked
  other asked is a e = (
    (λ (f : IsFullReload (step roots core (event_of i asked)).1). absurd (false≢true (sym e ∙ ap (λ (x : Core × Reply). is_reload x.1) (sym (step_by asked roots i core c is there)) ∙ ap is_reload f.is))),
    (λ (d : AsksDue asked). absurd (false≢true (sym a ∙ ap is_ask d.asks))),
  )

  reload_by : (asked : ClientMsg) → IsRequest asked → IsFullReload (step roots core (event_of i asked)).1 ↔ AsksDue asked
  reload_by (told.Hello format names) is = absurd is
  reload_by told.Ask is = let k = reload_exactly roots core i c there in ((λ f. record { asks = refl; due = k.0 f }), (λ (d : AsksDue told.Ask). k.1 d.due))
  reload_by (told.Fetch n) is = other (told.Fetch n) is refl (fetched_other c.page.plan core.sources n c)
  reload_by (told.Applied table) is = other (told.Applied table) is refl (told_other c.page.plan table c)
  reload_by (told.Aborted cause n from x) is = other (told.Aborted cause n from x) is refl (aborted_other c.page.plan c)
  reload_by (told.Invalidate n v message) is = other (told.Invalidate n v message) is refl (invalidated_other c.page.plan n v c)
  reload_by told.Bye is = absurd is

module _ (run : Run) (i : ℕ) (c : Client) (r : Runtime) (h : HasClient run i c r) where
  requests : IsRequest (request module_language r)
  requests = subst IsRequest (sym (request_is module_language r (subst (λ k. 1 ≤ k) (sym (tie run i c r h).number) (tie run i c r h).counted))) (is_request r.page.plan module_language r)

  pub reloads : IsFullReload (next_reply run i r) ↔ IsReloadTurn run c r
  reloads =
      let k = reload_by run.roots (world_of run).core i c h.is_open.connected (request module_language r) requests in
      ((λ f. let d = k.0 f in record { asks = d.asks; due = d.due }), (λ (t : IsReloadTurn run c r). k.1 (record { asks = t.asks; due = t.due })))
