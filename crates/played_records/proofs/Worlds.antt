-- In a run of the world whose steps have names, each event that the core is told can be told by a line of a record.
use Rattle.std.proofs.Common.{◌≡◌, ℕ, ◌≤◌, Bool, true, false, cond, List, [], ◌∷◌, Option, Some, None, arith, refl, sym, subst}
use Rattle.std.specs.Prelude.{◌==◌, not, find, is_some, IfSome, ⊤}
use Rattle.std.proofs.lemmas.Bool.{eqb-true}
use Rattle.std.proofs.lemmas.List.Elements.{All-nil, All-from_recursion}
use Rattle.std.proofs.lemmas.List.Sums.{sum_by-append, sum_by-cons}
use Rattle.hmr_types.specs.declared.limits.TheConstants.{LARGEST_CLIENT, LARGEST_NUMBER}
use Rattle.hmr_types.specs.declared.value.Value.{Value}
use Rattle.output_lines.specs.declared.out_line.OutLine.{OutLine}
use Rattle.update_msgs.specs.declared.message.ClientMsg.{ClientMsg}
use Rattle.update_msgs.specs.declared.message.ClientMsg.TheVariants as msg
use Rattle.update_msgs.specs.declared.message.ServerMsg.{ServerMsg}
use Rattle.module_language.specs.ModuleLanguage.{module_language}
use Rattle.core_model.specs.Client.{Client}
use Rattle.core_model.specs.Core.{Core, Event, client_at, connect, step, with_client, without_client}
use Rattle.core_model.specs.Exchange.{event_of, message_for}
use Rattle.core_model.specs.Formed.{IsFormed, IsName}
use Rattle.core_model.specs.Names.{Name, same_name}
use Rattle.core_model.specs.Requests.{Reply}
use Rattle.core_model.specs.Sources.{EditAnswer, Text, edit_answer, edit_refused, job, removed, same}
use Rattle.core_model.specs.Transcript.{most_bytes}
use Rattle.core_model.proofs.Clients.{at_with, at_without}
use Rattle.core_model.proofs.Naming.{both_true, same_true}
use Rattle.core_laws.specs.Ranges.{CoreFits}
use Rattle.core_laws.proofs.Messaging.{after_fits}
use Rattle.client_model.specs.Firing.{Firing, fire}
use Rattle.client_model.specs.Requesting as requesting
use Rattle.client_model.specs.Runtime.{Opening, Runtime, new_runtime}
use Rattle.world_model.specs.Editing.{is_job, settle_job, with_job}
use Rattle.world_model.specs.Playing.{Stage}
use Rattle.world_model.specs.Steps.{world_after, world_step}
use Rattle.world_model.specs.Ties.{IsTied, TiedAt, WentOn}
use Rattle.world_model.specs.Turning.{close_of, connected_as, fire_of, fired_at, fired_by, heard_at, opened_by, opening_of, shown, take_some, turn_of}
use Rattle.world_model.specs.World.{Job, Step, World, closes, edits, fates, fires, fresh, fresh_of, new_world, opens, settles, show, turn, values}
use Rattle.world_model.proofs.Tying.{run_sound}
use Rattle.world_laws.specs.Runs.{Run}
use Rattle.world_laws.specs.Unsent.{AreUnsentVersions}
use Rattle.world_laws.proofs.Unsent.{unsent_run}
use Rattle.run_promises.specs.Events.{TellsItsEvent, bye_of, event_at, request_of, result_of, told}
use Rattle.event_runs.specs.Logs.{core_events, listed}
use Rattle.record_laws.specs.Bounds.{entry_bytes, past_bytes}
use Rattle.record_laws.proofs.Ranges.{goes}
use Rattle.record_laws.proofs.Recorded.{IsTrue}
use Rattle.record_agreement.specs.Recordable.{IsRecordable}
use Rattle.record_agreement.proofs.Lists.{Each, each_append, each_filter}
use Rattle.record_agreement.proofs.Named.{ClientNamed, CoreNamed, Names, ViewNamed, client_named, steps_named}
use Rattle.record_agreement.proofs.Places.{EditFits, edit_fits}
use Rattle.played_records.proofs.Acts.{ClientNames, begins_named, fire_keeps, take_keeps}
use Rattle.played_records.proofs.Asked.{request_told}
use Rattle.played_records.proofs.Formed.{outcome_formed}
use Rattle.played_records.proofs.Walks.{PageNamed}

-- a step's names are names
abbrev pub StepNamed : Step → Type 0
StepNamed (edits n t) = IsName n
StepNamed (settles n v) = ⊤
StepNamed (opens format names) = Names names
StepNamed (turn i) = ⊤
StepNamed (closes i) = ⊤
StepNamed (show i) = ⊤
StepNamed (values i) = ⊤
StepNamed (fates i) = ⊤
StepNamed fresh = ⊤
StepNamed (fresh_of i) = ⊤
StepNamed (fires i n value) = ⊤

-- a record can tell the event, and its result is true
pub record IsTold (event : Event) : Type 0 where
  pub recordable : IsRecordable event
  pub true_result : IsTrue event

abbrev IsSmall : Event → Type 0
IsSmall event = entry_bytes event ≤ most_bytes

-- the job of a name, at the version of a counted edit
pub record JobNamed (j : Job) : Type 0 where
  pub name : IsName j.name
  pub version : j.version ≤ LARGEST_NUMBER

-- what is kept
pub record IsKept (w : World) : Type 0 where
  pub fits : CoreFits w.core
  pub named : CoreNamed w.core
  pub issued : Each JobNamed w.issued
  pub clients : (i : ℕ) → IfSome (client_at w.clients i) ClientNames

-- ---- the event of a step

found_if : (n : Name) (v : ℕ) (b : Bool) (j : Job) (o : Option Job) → is_job n v j ≡ b → JobNamed j → IfSome o (λ k. JobNamed k × (is_job n v k ≡ true)) → IfSome (cond b (Some j) o) (λ k. JobNamed k × (is_job n v k ≡ true))
found_if n v true j o e g h = (g, e)
found_if n v false j o e g h = h

found_job : (n : Name) (v : ℕ) (jobs : List Job) → Each JobNamed jobs → IfSome (find (is_job n v) jobs) (λ k. JobNamed k × (is_job n v k ≡ true))
found_job n v [] h = tt
found_job n v (j ∷ jobs) h = found_if n v (is_job n v j) j (find (is_job n v) jobs) refl h.0 (found_job n v jobs h.1)

result_told : (n : Name) (v : ℕ) (o : Option Job) → IfSome o (λ k. JobNamed k × (is_job n v k ≡ true)) → IfSome (result_of module_language n v o) IsSmall → IfSome (result_of module_language n v o) IsTold
result_told n v None h small = tt
result_told n v (Some j) h small =
    let parts = both_true (same_name j.name n) (j.version == v) h.1 in
    let named : IsName n = subst IsName (same_true j.name n parts.0) h.0.name in
    record {
      recordable = record {
        tellable = (named, outcome_formed n j.text named (omega (arith, small)));
        client = tt;
        counted = omega (arith, h.0.version, eqb-true j.version v parts.1);
      };
      true_result = refl;
    }

tied_page : (i : ℕ) (c : Client) (r : Runtime) → IsTied i c r → ClientNamed c → PageNamed r.roots r.page
tied_page i c r tie n = record {
  roots_are = subst Names (sym tie.roots_are) n.roots;
  view = subst (λ page. ViewNamed page.view) (sym tie.page) n.view;
  staged = subst (λ page. IfSome page.plan (λ p. ViewNamed p.staged)) (sym tie.page) n.staged;
}

turn_told : (i : ℕ) (c : Option Client) (r : Option Runtime) → (is_some c ≡ true → i ≤ LARGEST_CLIENT) → IfSome c ClientNamed → TiedAt i c r → IfSome r ClientNames → IfSome r AreUnsentVersions → IfSome (request_of module_language i r) IsTold
turn_told i c None low n tie names versions = tt
turn_told i None (Some r) low n tie names versions = absurd tie
turn_told i (Some c) (Some r) low n tie names versions = record {
  recordable = request_told i (low refl) module_language r (tied_page i c r tie n) names versions (subst (λ k. 1 ≤ k) (sym tie.number) tie.counted);
  true_result = true_request i (requesting.request module_language r);
}
  where
    true_request : (i : ℕ) (m : ClientMsg) → IsTrue (event_of i m)
    true_request i (msg.Hello format roots) = tt
    true_request i msg.Ask = tt
    true_request i (msg.Fetch n) = tt
    true_request i (msg.Applied table) = tt
    true_request i (msg.Aborted cause n from x) = tt
    true_request i (msg.Invalidate n v text) = tt
    true_request i msg.Bye = tt

bye_told : (i : ℕ) (c : Option Client) (r : Option Runtime) → (is_some c ≡ true → i ≤ LARGEST_CLIENT) → TiedAt i c r → IfSome (bye_of i r) IsTold
bye_told i c None low tie = tt
bye_told i None (Some r) low tie = absurd tie
bye_told i (Some c) (Some r) low tie = record { recordable = record { tellable = tt; client = low refl; counted = tt }; true_result = tt }

module _ (w : World) (k : IsKept w) (tied : (i : ℕ) → TiedAt i (client_at w.core.clients i) (client_at w.clients i)) (versions : (i : ℕ) → IfSome (client_at w.clients i) AreUnsentVersions) where
  low : (i : ℕ) → is_some (client_at w.core.clients i) ≡ true → i ≤ LARGEST_CLIENT
  low i e = omega (arith, (k.fits.numbers i e).most, k.fits.given)

  pub event_told : (s : Step) → StepNamed s → IfSome (event_at module_language w s) IsSmall → IfSome (event_at module_language w s) IsTold
  event_told (edits n t) h small = record { recordable = record { tellable = h; client = tt; counted = tt }; true_result = tt }
  event_told (settles n v) h small = result_told n v (find (is_job n v) w.issued) (found_job n v w.issued k.issued) small
  event_told (opens format names) h small = record { recordable = record { tellable = All-from_recursion IsName names h; client = tt; counted = tt }; true_result = tt }
  event_told (turn i) h small = turn_told i (client_at w.core.clients i) (client_at w.clients i) (low i) (client_named w.core.clients i k.named.clients) (tied i) (k.clients i) (versions i)
  event_told (closes i) h small = bye_told i (client_at w.core.clients i) (client_at w.clients i) (low i) (tied i)
  event_told (show i) h small = tt
  event_told (values i) h small = tt
  event_told (fates i) h small = tt
  event_told fresh h small = tt
  event_told (fresh_of i) h small = tt
  event_told (fires i n value) h small = tt

-- ---- jobs under way

job_kept : (n : Name) (t : Option Text) (a : EditAnswer) (jobs : List Job) → IsName n → EditFits a → Each JobNamed jobs → Each JobNamed (with_job n t a jobs)
job_kept n None a jobs h f all = all
job_kept n (Some t) (job v) jobs h f all = (record { name = h; version = f }, all)
job_kept n (Some t) same jobs h f all = all
job_kept n (Some t) (removed v) jobs h f all = all
job_kept n (Some t) (edit_refused word) jobs h f all = all

module _ (roots : List Name) (shelves : List (List (Text × ℕ))) (w : World) (k : IsKept w) where
  settle_jobs : (n : Name) (v : ℕ) (o : Option Job) → Each JobNamed (settle_job module_language roots n v w o).world.issued
  settle_jobs n v None = k.issued
  settle_jobs n v (Some j) = each_filter JobNamed (λ j. not (is_job n v j)) w.issued k.issued

  open_jobs : (format : ℕ) (names : List Name) (after : Core × Reply) (i : Option ℕ) → Each JobNamed (opened_by module_language shelves format names w after i).world.issued
  open_jobs format names after None = k.issued
  open_jobs format names after (Some i) = k.issued

  turn_jobs : (i : ℕ) (r : Option Runtime) → Each JobNamed (turn_of module_language roots i w r).world.issued
  turn_jobs i None = k.issued
  turn_jobs i (Some r) = k.issued

  close_jobs : (i : ℕ) (r : Option Runtime) → Each JobNamed (close_of roots i w r).world.issued
  close_jobs i None = k.issued
  close_jobs i (Some r) = k.issued

  look_jobs : (i : ℕ) (lines : Runtime → List OutLine) (r : Option Runtime) → Each JobNamed (shown i w lines r).world.issued
  look_jobs i lines None = k.issued
  look_jobs i lines (Some r) = k.issued

  fire_jobs : (i : ℕ) (lines : Option (List OutLine)) (f : Option Firing) → Each JobNamed (fired_by i w lines f).world.issued
  fire_jobs i lines None = k.issued
  fire_jobs i lines (Some f) = k.issued

  jobs_kept : (s : Step) → StepNamed s → Each JobNamed (world_step module_language roots shelves w s).world.issued
  jobs_kept (edits n t) h = job_kept n t (edit_answer w.core.sources n t) w.issued h (edit_fits _ w.core.sources t) k.issued
  jobs_kept (settles n v) h = settle_jobs n v (find (is_job n v) w.issued)
  jobs_kept (opens format names) h = let after = step roots w.core (connect names) in open_jobs format names after (connected_as (message_for format after.1))
  jobs_kept (turn i) h = turn_jobs i (client_at w.clients i)
  jobs_kept (closes i) h = close_jobs i (client_at w.clients i)
  jobs_kept (show i) h = look_jobs i _ (client_at w.clients i)
  jobs_kept (values i) h = look_jobs i _ (client_at w.clients i)
  jobs_kept (fates i) h = look_jobs i _ (client_at w.clients i)
  jobs_kept fresh h = k.issued
  jobs_kept (fresh_of i) h = look_jobs i _ (client_at w.clients i)
  jobs_kept (fires i n value) h = let r = client_at w.clients i in fire_jobs i (heard_at module_language n value r) (fired_at module_language n value r)

-- ---- open clients

abbrev AllNamed : List (ℕ × Runtime) → Type 0
AllNamed clients = (i : ℕ) → IfSome (client_at clients i) ClientNames

some_if : (b : Bool) (r : Runtime) (o : Option Runtime) → ClientNames r → IfSome o ClientNames → IfSome (cond b (Some r) o) ClientNames
some_if true r o g h = g
some_if false r o g h = h

none_if : (b : Bool) (o : Option Runtime) → IfSome o ClientNames → IfSome (cond b None o) ClientNames
none_if true o h = tt
none_if false o h = h

with_named : (j : ℕ) (r : Runtime) (clients : List (ℕ × Runtime)) → ClientNames r → AllNamed clients → AllNamed (with_client j r clients)
with_named j r clients h all i = subst (λ o. IfSome o ClientNames) (sym (at_with j r clients i)) (some_if (j == i) r (client_at clients i) h (all i))

without_named : (j : ℕ) (clients : List (ℕ × Runtime)) → AllNamed clients → AllNamed (without_client j clients)
without_named j clients all i = subst (λ o. IfSome o ClientNames) (sym (at_without j clients i)) (none_if (j == i) (client_at clients i) (all i))

take_some_named : (r : Runtime) (m : Option ServerMsg) → PageNamed r.roots r.page → ClientNames r → ClientNames (take_some module_language r m).after
take_some_named r None h n = n
take_some_named r (Some m) h n = take_keeps module_language r m h n

-- a client that is new has nothing
new_page : (opening : Opening) → PageNamed (new_runtime opening).roots (new_runtime opening).page
new_page opening = record { roots_are = tt; view = tt; staged = tt }

opened_named : (shelves : List (List (Text × ℕ))) (format : ℕ) (names : List Name) (w : World) (after : Core × Reply) (number : Option ℕ) → AllNamed w.clients → AllNamed (opened_by module_language shelves format names w after number).world.clients
opened_named shelves format names w after None all = all
opened_named shelves format names w after (Some j) all =
    let opening = opening_of shelves format names j in
    let m = message_for format after.1 in
    with_named j (take_some module_language (new_runtime opening) m).after w.clients (take_some_named (new_runtime opening) m (new_page opening) (begins_named opening)) all

turned_named : (roots : List Name) (i : ℕ) (w : World) (c : Option Client) (r : Option Runtime) → TiedAt i c r → IfSome c ClientNamed → IfSome r ClientNames → AllNamed w.clients → AllNamed (turn_of module_language roots i w r).world.clients
turned_named roots i w c None tie n names all = all
turned_named roots i w None (Some r) tie n names all = absurd tie
turned_named roots i w (Some c) (Some r) tie n names all =
    let m = message_for r.format (step roots w.core (event_of i (requesting.request module_language r))).1 in
    with_named i (take_some module_language r m).after w.clients (take_some_named r m (tied_page i c r tie n) names) all

closed_named : (roots : List Name) (i : ℕ) (w : World) (r : Option Runtime) → AllNamed w.clients → AllNamed (close_of roots i w r).world.clients
closed_named roots i w None all = all
closed_named roots i w (Some r) all = without_named i w.clients all

looked_named : (i : ℕ) (w : World) (lines : Runtime → List OutLine) (r : Option Runtime) → AllNamed w.clients → AllNamed (shown i w lines r).world.clients
looked_named i w lines None all = all
looked_named i w lines (Some r) all = all

fired_named : (i : ℕ) (n : Name) (value : Value) (w : World) (r : Option Runtime) → IfSome r ClientNames → AllNamed w.clients → AllNamed (fire_of module_language i n value w r).world.clients
fired_named i n value w None names all = all
fired_named i n value w (Some r) names all = with_named i (fire module_language n value r).after w.clients (fire_keeps module_language r n value names) all

settled_named : (roots : List Name) (n : Name) (v : ℕ) (w : World) (o : Option Job) → AllNamed w.clients → AllNamed (settle_job module_language roots n v w o).world.clients
settled_named roots n v w None all = all
settled_named roots n v w (Some j) all = all

clients_kept : (roots : List Name) (shelves : List (List (Text × ℕ))) (w : World) → IsKept w → ((i : ℕ) → TiedAt i (client_at w.core.clients i) (client_at w.clients i)) → (s : Step) → AllNamed (world_step module_language roots shelves w s).world.clients
clients_kept roots shelves w k tied (edits n t) = k.clients
clients_kept roots shelves w k tied (settles n v) = settled_named roots n v w (find (is_job n v) w.issued) k.clients
clients_kept roots shelves w k tied (opens format names) = let after = step roots w.core (connect names) in opened_named shelves format names w after (connected_as (message_for format after.1)) k.clients
clients_kept roots shelves w k tied (turn i) = turned_named roots i w (client_at w.core.clients i) (client_at w.clients i) (tied i) (client_named w.core.clients i k.named.clients) (k.clients i) k.clients
clients_kept roots shelves w k tied (closes i) = closed_named roots i w (client_at w.clients i) k.clients
clients_kept roots shelves w k tied (show i) = looked_named i w _ (client_at w.clients i) k.clients
clients_kept roots shelves w k tied (values i) = looked_named i w _ (client_at w.clients i) k.clients
clients_kept roots shelves w k tied (fates i) = looked_named i w _ (client_at w.clients i) k.clients
clients_kept roots shelves w k tied fresh = k.clients
clients_kept roots shelves w k tied (fresh_of i) = looked_named i w _ (client_at w.clients i) k.clients
clients_kept roots shelves w k tied (fires i n value) = fired_named i n value w (client_at w.clients i) (k.clients i) k.clients

-- ---- the core

core_kept : (roots : List Name) (core : Core) (o : Option Event) → Names roots → CoreFits core → CoreNamed core → IfSome o IsTold → IfSome o IsSmall → CoreFits (told roots core o) × CoreNamed (told roots core o)
core_kept roots core None r fits named h small = (fits, named)
core_kept roots core (Some event) r fits named h small = (
  (goes roots core fits event h.recordable.tellable).fits,
  (steps_named core fits named roots event r h.recordable.tellable h.true_result small).core,
)

-- ---- a run

some_of : {X : Type 0} (P : X → Type 0) (o : Option X) → ((x : X) → o ≡ Some x → P x) → IfSome o P
some_of P None h = tt
some_of P (Some x) h = h x refl

listed_told : (o : Option Event) → IfSome o IsTold → Each IsTold (listed o)
listed_told None h = tt
listed_told (Some event) h = (h, tt)

listed_small : (o : Option Event) → past_bytes (listed o) ≤ most_bytes → IfSome o IsSmall
listed_small None h = tt
listed_small (Some event) h = omega (arith, sum_by-cons entry_bytes event [], h)

module _ (roots : List Name) (shelves : List (List (Text × ℕ))) (named_roots : Names roots) (each : (run : Run) (s : Step) → TellsItsEvent run s) where
  abbrev page : Stage
  page = record { language = module_language; roots = roots; shelves = shelves }

  abbrev world : List Step → World
  world past = world_after module_language roots shelves past

  -- what a run leaves, and what the core was told in it
  record Gone (past : List Step) : Type 0 where
    kept : IsKept (world past)
    told_are : Each IsTold (core_events page past)

  first : IsKept new_world
  first = record { fits = after_fits roots [] (All-nil IsFormed); named = record { served = tt; clients = tt }; issued = tt; clients = λ i. tt }

  goes_on : (past : List Step) (s : Step) → WentOn module_language roots shelves past → Gone past → StepNamed s → IfSome (event_at module_language (world past) s) IsSmall → Gone (s ∷ past)
  goes_on past s went h named small =
      let w = world past in
      let tied = (run_sound module_language roots shelves past went).tied in
      let versions : (i : ℕ) → IfSome (client_at (world past).clients i) AreUnsentVersions =
      λ i. some_of AreUnsentVersions (client_at (world past).clients i) (unsent_run module_language roots shelves past i) in
      let now = event_told w h.kept tied versions s named small in
      let core = core_kept roots w.core (event_at module_language w s) named_roots h.kept.fits h.kept.named now small in
      let same : (world (s ∷ past)).core ≡ told roots (world past).core (event_at module_language (world past) s) =
      each (record { roots = roots; shelves = shelves; steps = past }) s in
      record {
        kept = record {
          fits = subst CoreFits (sym same) core.0;
          named = subst CoreNamed (sym same) core.1;
          issued = jobs_kept roots shelves w h.kept s named;
          clients = clients_kept roots shelves w h.kept tied s;
        };
        told_are = each_append IsTold (core_events page past) (listed (event_at module_language w s)) h.told_are (listed_told (event_at module_language w s) now);
      }

  gone : (past : List Step) → WentOn module_language roots shelves past → Each StepNamed past → past_bytes (core_events page past) ≤ most_bytes → Gone past
  gone [] went named small = record { kept = first; told_are = tt }
  gone (s ∷ past) went named small =
      let event = event_at module_language (world past) s in
      let sum = sum_by-append entry_bytes (core_events page past) (listed event) in
      goes_on past s went.1 (gone past went.1 named.1 (omega (arith, sum, small))) named.0 (listed_small event (omega (arith, sum, small)))

  -- each event that the core is told can be told by a line of a record
  pub all_told : (past : List Step) → WentOn module_language roots shelves past → Each StepNamed past → past_bytes (core_events page past) ≤ most_bytes → Each IsTold (core_events page past)
  all_told past went named small = (gone past went named small).told_are
