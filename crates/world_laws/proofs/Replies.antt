-- A text that comes for a fetch is the served one; so where each served text fits its version and its
-- analysis, the live instances of the open clients fit their page's modules after each step.
use Rattle.std.proofs.Common.{◌≡◌, ℕ, Bool, true, false, List, refl, sym}
use Rattle.std.specs.Prelude.{find, ◌==◌, Option, Some, None, if◌then◌else◌, ⊤}
use Rattle.std.proofs.Math.Path.{subst}
use Rattle.output_lines.specs.declared.out_line.OutLine.{OutLine}
use Rattle.update_msgs.specs.declared.message.ClientMsg.{ClientMsg}
use Rattle.update_msgs.specs.declared.message.ClientMsg.TheVariants as told
use Rattle.update_msgs.specs.declared.message.ServerMsg.{ServerMsg}
use Rattle.update_msgs.specs.declared.message.ServerMsg.TheVariants as msg
use Rattle.core_model.specs.Names.{Name, at}
use Rattle.core_model.specs.Sources.{Text, Source, Serving, Sources, Verdict, outstanding, good, bad}
use Rattle.core_model.specs.Page.{Plan}
use Rattle.core_model.specs.Client.{Client}
use Rattle.core_model.specs.Asking.{AskRow, out_of_turn, tell, load, idle, prune, reload, update, ask_row, asked}
use Rattle.core_model.specs.Requests.{Request, Reply, ask, fetch, applied_as, aborted, invalidate, ask_reply, row_source, row_served, fetch_reply, fetched_in, AppliedRow, unfetched, mismatch, done, applied_row, applied_reply, applied_in, aborted_in, is_at_version, invalidate_reply, invalidated_in}
use Rattle.core_model.specs.Core.{Core, connect, step, client_at, with_client, is_full, if_room, connected, requested, disconnected}
use Rattle.core_model.specs.Exchange.{event_of, message_for}
use Rattle.core_model.specs.Roots.{are_bad, roots_or}
use Rattle.core_model.proofs.Clients.{at_with, at_without}
use Rattle.client_model.specs.Language.{Language}
use Rattle.client_model.specs.Runtime.{Runtime, Opening, new_runtime}
use Rattle.client_model.specs.Requesting as requesting
use Rattle.client_model.specs.Taking.{take}
use Rattle.client_model.specs.Firing.{fire}
use Rattle.client_model.specs.Past.{Incoming, met}
use Rattle.client_model.specs.Past as came_is
use Rattle.hmr_types.specs.declared.value.Value.{Value}
use Rattle.world_model.specs.World.{Job, World, Step, edits, settles, opens, turn, closes, show, values, fates, fresh, fresh_of, fires}
use Rattle.world_model.specs.Editing.{is_job, settle_job}
use Rattle.world_model.specs.Turning.{take_some, turn_of, opened_by, close_of, shown, fire_of, connected_as, opening_of}
use Rattle.world_model.specs.Steps.{world_step}
use Rattle.world_laws.proofs.Holding.{HoldsOf}
use Rattle.world_laws.proofs.Messages.{take_goes, fire_goes, new_holds}
use Rattle.world_laws.proofs.Texts.{Fit, FitsIn, MessageFits, take_fits, fire_fits}

-- The server's replies.

module _ (language : Language) (P : Name → Fit) where
  abbrev Sent : ServerMsg → Type 0
  Sent m = MessageFits language P m

  -- of a reply, as the message that it is in a format
  abbrev SentSome : Option ServerMsg → Type 0
  SentSome None = ⊤
  SentSome (Some m) = Sent m

  abbrev Replied : ℕ → Reply → Type 0
  Replied format reply = SentSome (message_for format reply)

  -- what is served fits
  abbrev pub ServedFits : Name → Option Serving → Type 0
  ServedFits n None = ⊤
  ServedFits n (Some s) = Sent (msg.Text n s.version s.text)

  fetch_sent : (format : ℕ) (n : Name) (o : Option Serving) (c : Option Source) → ServedFits n o → Replied format ((fetch_reply (row_served o c) n))
  fetch_sent format n (Some s) c h = h
  fetch_sent format n None None h = tt
  fetch_sent format n None (Some x) h = by x.verdict
    where
      by : (v : Verdict) → Replied format ((fetch_reply (row_source (Some (record x { verdict = v }))) n))
      by outstanding = tt
      by good = tt
      by (bad fault) = tt

  ask_sent : (format : ℕ) (i : ℕ) (s : Sources) (c : Client) (row : AskRow) → Replied format ((ask_reply i s c row))
  ask_sent format i s c out_of_turn = tt
  ask_sent format i s c (tell n fault) = tt
  ask_sent format i s c load = tt
  ask_sent format i s c idle = tt
  ask_sent format i s c (prune ns) = tt
  ask_sent format i s c (reload path) = tt
  ask_sent format i s c (update ns ps) = tt

  applied_sent : (format : ℕ) (row : AppliedRow) → Replied format ((applied_reply row))
  applied_sent format (unfetched n) = tt
  applied_sent format (mismatch n a b) = tt
  applied_sent format done = tt

  invalidate_sent : (format : ℕ) (b : Bool) → Replied format ((invalidate_reply b))
  invalidate_sent format true = tt
  invalidate_sent format false = tt

  fetched_sent : (format : ℕ) (q : Option Plan) (s : Sources) (n : Name) (c : Client) → ServedFits n (at s.served n) → Replied format ((fetched_in q s n c).1)
  fetched_sent format None s n c h = tt
  fetched_sent format (Some p) s n c h = fetch_sent format n (at s.served n) (at s.current n) h

  told_sent : (format : ℕ) (q : Option Plan) (table : List (Name × ℕ)) (c : Client) → Replied format ((applied_in q table c).1)
  told_sent format None table c = tt
  told_sent format (Some p) table c = applied_sent format (applied_row c.roots p c.page.view table)

  aborted_sent : (format : ℕ) (q : Option Plan) (c : Client) → Replied format ((aborted_in q c).1)
  aborted_sent format None c = tt
  aborted_sent format (Some p) c = tt

  invalidated_sent : (format : ℕ) (q : Option Plan) (n : Name) (v : ℕ) (c : Client) → Replied format ((invalidated_in q n v c).1)
  invalidated_sent format None n v c = invalidate_sent format (is_at_version (at c.page.view n) v)
  invalidated_sent format (Some p) n v c = tt

  request_sent : (format : ℕ) (o : Option Client) (i : ℕ) (core : Core) (r : Request) → ((n : Name) → ServedFits n (at core.sources.served n)) → Replied format ((requested o i core r).1)
  request_sent format None i core r h = tt
  request_sent format (Some c) i core ask h = ask_sent format i core.sources (asked (ask_row core.sources c) core.sources c) (ask_row core.sources c)
  request_sent format (Some c) i core (fetch n) h = fetched_sent format c.page.plan core.sources n c (h n)
  request_sent format (Some c) i core (applied_as table) h = told_sent format c.page.plan table c
  request_sent format (Some c) i core aborted h = aborted_sent format c.page.plan c
  request_sent format (Some c) i core (invalidate n v) h = invalidated_sent format c.page.plan n v c

  room_sent : (format : ℕ) (full : Bool) (roots : List Name) (core : Core) → Replied format (if_room full roots core).1
  room_sent format true roots core = tt
  room_sent format false roots core = tt

  connect_sent : (format : ℕ) (bad : Bool) (roots : List Name) (core : Core) → Replied format (connected bad roots core).1
  connect_sent format true roots core = tt
  connect_sent format false roots core = room_sent format (is_full core) roots core

  disconnect_sent : (format : ℕ) (o : Option Client) (i : ℕ) (core : Core) → Replied format ((disconnected o i core).1)
  disconnect_sent format None i core = tt
  disconnect_sent format (Some c) i core = tt

  reply_sent : (format : ℕ) (asked : ClientMsg) (roots : List Name) (i : ℕ) (core : Core) → ((n : Name) → ServedFits n (at core.sources.served n)) → Replied format ((step roots core (event_of i asked)).1)
  reply_sent format (told.Hello speaks names) roots i core h = connect_sent format (are_bad names) (roots_or names roots) core
  reply_sent format told.Ask roots i core h = request_sent format (client_at core.clients i) i core ask h
  reply_sent format (told.Fetch n) roots i core h = request_sent format (client_at core.clients i) i core (fetch n) h
  reply_sent format (told.Applied table) roots i core h = request_sent format (client_at core.clients i) i core (applied_as table) h
  reply_sent format (told.Aborted cause n from x) roots i core h = request_sent format (client_at core.clients i) i core aborted h
  reply_sent format (told.Invalidate n v message) roots i core h = request_sent format (client_at core.clients i) i core (invalidate n v) h
  reply_sent format told.Bye roots i core h = disconnect_sent format (client_at core.clients i) i core

  -- Open clients, and what is asked of them besides.

  module _ (Also : Runtime → Type 0) (begins : (opening : Opening) → Also (new_runtime opening))
      (goes_on : (r : Runtime) (came : Incoming) → HoldsOf r → FitsIn P r → FitsIn P (met language came r).0 → Also r → Also (met language came r).0) where
    abbrev pub KeptAt : Option Runtime → Type 0
    KeptAt None = ⊤
    KeptAt (Some r) = HoldsOf r × FitsIn P r × Also r

    abbrev pub AllKept : List (ℕ × Runtime) → Type 0
    AllKept clients = (i : ℕ) → KeptAt (client_at clients i)

    take_kept : (r : Runtime) (m : ServerMsg) → Sent m → KeptAt (Some r) → KeptAt (Some (take language r m).after)
    take_kept r m fit k =
        let fits : FitsIn P (take language r m).after = take_fits language P r k.0 k.1 m fit in
        ((take_goes language r m k.0).holds, fits, goes_on r (came_is.message m) k.0 k.1 fits k.2)

    take_some_kept : (r : Runtime) (o : Option ServerMsg) → SentSome o → KeptAt (Some r) → KeptAt (Some (take_some language r o).after)
    take_some_kept r None fit k = k
    take_some_kept r (Some m) fit k = take_kept r m fit k

    fire_kept : (r : Runtime) (n : Name) (value : Value) → KeptAt (Some r) → KeptAt (Some (fire language n value r).after)
    fire_kept r n value k =
        let fits : FitsIn P (fire language n value r).after = fire_fits language P r k.0 k.1 n value in
        ((fire_goes language r n value k.0).holds, fits, goes_on r (came_is.event n value) k.0 k.1 fits k.2)

    kept_with : (b : Bool) (r : Runtime) (o : Option Runtime) → KeptAt (Some r) → KeptAt o → KeptAt (if b then Some r else o)
    kept_with true r o k h = k
    kept_with false r o k h = h

    kept_without : (b : Bool) (o : Option Runtime) → KeptAt o → KeptAt (if b then None else o)
    kept_without true o h = tt
    kept_without false o h = h

    all_with : (j : ℕ) (r : Runtime) (clients : List (ℕ × Runtime)) → KeptAt (Some r) → AllKept clients → AllKept (with_client j r clients)
    all_with j r clients k all i = subst KeptAt (sym (at_with j r clients i)) (kept_with (j == i) r (client_at clients i) k (all i))

    turned : (roots : List Name) (j : ℕ) (w : World) (o : Option Runtime) → client_at w.clients j ≡ o → ((n : Name) → ServedFits n (at w.core.sources.served n)) → AllKept w.clients → AllKept (turn_of language roots j w o).world.clients
    turned roots j w None e h all = all
    turned roots j w (Some r) e h all =
        let m : Option ServerMsg = message_for r.format (step roots w.core (event_of j (requesting.request language r))).1 in
        all_with j (take_some language r m).after w.clients (take_some_kept r m (reply_sent r.format (requesting.request language r) roots j w.core h) (subst KeptAt e (all j))) all

    new_kept : (opening : Opening) → KeptAt (Some (new_runtime opening))
    new_kept opening = (new_holds opening, record { planned = tt; live = λ n. tt }, begins opening)

    opened : (shelves : List (List (Text × ℕ))) (format : ℕ) (names : List Name) (w : World) (after : Core × Reply) (number : Option ℕ) → Replied format after.1 → AllKept w.clients → AllKept (opened_by language shelves format names w after number).world.clients
    opened shelves format names w after None fit all = all
    opened shelves format names w after (Some j) fit all =
        let r : Runtime = new_runtime (opening_of shelves format names j) in
        all_with j (take_some language r (message_for format after.1)).after w.clients (take_some_kept r (message_for format after.1) fit (new_kept (opening_of shelves format names j))) all

    fired : (i : ℕ) (n : Name) (value : Value) (w : World) (o : Option Runtime) → client_at w.clients i ≡ o → AllKept w.clients → AllKept (fire_of language i n value w o).world.clients
    fired i n value w None e all = all
    fired i n value w (Some r) e all = all_with i (fire language n value r).after w.clients (fire_kept r n value (subst KeptAt e (all i))) all

    closed : (roots : List Name) (j : ℕ) (w : World) (o : Option Runtime) → AllKept w.clients → AllKept (close_of roots j w o).world.clients
    closed roots j w None all = all
    closed roots j w (Some r) all = λ i. subst KeptAt (sym (at_without j w.clients i)) (kept_without (j == i) (client_at w.clients i) (all i))

    shows : (i : ℕ) (w : World) (lines : Runtime → List OutLine) (o : Option Runtime) → AllKept w.clients → AllKept (shown i w lines o).world.clients
    shows i w lines None all = all
    shows i w lines (Some r) all = all

    settled : (roots : List Name) (n : Name) (v : ℕ) (w : World) (o : Option Job) → AllKept w.clients → AllKept (settle_job language roots n v w o).world.clients
    settled roots n v w None all = all
    settled roots n v w (Some j) all = all

    -- each step keeps it
    pub step_kept : (roots : List Name) (shelves : List (List (Text × ℕ))) (w : World) (s : Step) → ((n : Name) → ServedFits n (at w.core.sources.served n)) → AllKept w.clients → AllKept (world_step language roots shelves w s).world.clients
    step_kept roots shelves w (edits n t) h all = all
    step_kept roots shelves w (settles n v) h all = settled roots n v w (find (is_job n v) w.issued) all
    step_kept roots shelves w (opens format names) h all = opened shelves format names w (step roots w.core (connect names)) (connected_as (message_for format (step roots w.core (connect names)).1)) (connect_sent format (are_bad names) (roots_or names roots) w.core) all
    step_kept roots shelves w (turn i) h all = turned roots i w (client_at w.clients i) refl h all
    step_kept roots shelves w (closes i) h all = closed roots i w (client_at w.clients i) all
    step_kept roots shelves w (show i) h all = shows i w _ (client_at w.clients i) all
    step_kept roots shelves w (values i) h all = shows i w _ (client_at w.clients i) all
    step_kept roots shelves w (fates i) h all = shows i w _ (client_at w.clients i) all
    step_kept roots shelves w fresh h all = all
    step_kept roots shelves w (fresh_of i) h all = shows i w _ (client_at w.clients i) all
    step_kept roots shelves w (fires i n value) h all = fired i n value w (client_at w.clients i) refl all
