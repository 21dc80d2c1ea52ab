-- A client comes.
use Rattle.std.proofs.Common.{◌≡◌, ◌+◌, ℕ, true, false, List, [], ◌∷◌, ◌++◌, refl, sym, ap, ◌∙◌}
use Rattle.std.specs.Prelude.{Result, Ok, Err, IfErr, IfOk, OnOk, Option, Some, None, is_some}
use Prim.{⊥}
use Rattle.std.specs.Global.{Vec}
use Rattle.std.proofs.Math.Path.{subst}
use Rattle.std.proofs.lemmas.Bool.{false≢true}
use Rattle.output_lines.specs.declared.out_line.OutLine.{OutLine}
use Rattle.output_lines.specs.declared.out_line.OutLine.TheVariants as line
use Rattle.update_msgs.specs.declared.message.ServerMsg.TheVariants as msg
use Rattle.core_model.specs.Names.{Name}
use Rattle.core_model.specs.Sources.{Text}
use Rattle.core_model.specs.Roots.{are_bad, roots_or}
use Rattle.core_model.specs.Requests as requests
use Rattle.core_model.specs.declared.refusal.Refusal.{Refusal}
use Rattle.core_model.specs.declared.refusal.Refusal.TheVariants.{TooManyClients, BadRoots}
use Rattle.core_model.specs.Core as model
use Rattle.core_model.specs.Core.{client_at, with_client, connect, admitted, step, core_after}
use Rattle.core_laws.proofs.Numbers.{numbered, next_absent}
use Rattle.client_model.specs.Runtime.{Opening, Runtime, new_runtime}
use Rattle.client_model.specs.Taking.{take}
use Rattle.module_language.specs.ModuleLanguage.{module_language}
use Rattle.handler_table.specs.Held.{Answers}
use Rattle.runtime_state.specs.Standing as runtimes
use Rattle.runtime_state.specs.declared.runtime.HotRuntime.{HotRuntime}
use Rattle.events_and_replies.specs.declared.event.Reply.{Reply}
use Rattle.world_model.specs.World.{Stepped, opens, stepped}
use Rattle.world_model.specs.Turning.{lines_taken, open_by, shelf_of}
use Rattle.world_model.proofs.Tying.{run_sound}
use Rattle.world_laws.specs.Runs.{Run, world_of}
use Rattle.hmr_world.specs.Clients.{AreOpen, Clients, IsOpen, IsRuntime, KeepWords}
use Rattle.world_parts.specs.Cores.{IsCore}
use Rattle.world_parts.specs.Greetings.{greeted, greeting_in, welcomed}
use Rattle.world_parts.specs.Shelves.{AreShelves}
use Rattle.hmr_world.specs.Standing.{IsStepped, StandsFor}
use Rattle.world_parts.specs.declared.greetings.Greeting.TheVariants as greetings
use Rattle.world_parts.specs.declared.stop.WorldStop.{WorldStop}
use Rattle.world_parts.specs.declared.stop.WorldStop.TheVariants.{NoMemory}
use Rattle.hmr_world.specs.declared.world.World.{World}
use Rattle.hmr_world.proofs.Opened.{at_end, with_open}
use Rattle.hmr_world.proofs.Stepped.{stepped_by, unmade}
use Rattle.hmr_world.proofs.Wording.{words_push}
use Rattle.world_parts.proofs.Greeted.{IsAdmitted, IsTold, absent_record, bad_by, full_by, taken_by}

absent_client : {F : Type 0} (h : Option (HotRuntime F)) → IsOpen None h → h ≡ None
absent_client None k = refl
absent_client (Some h) k = absurd k

-- What becomes of the world.

module _ {F : Type 0} (run : Run) (format : ℕ) (names : List Name)
    (old : World F) (stands : StandsFor run old) where
  abbrev before : model.Core
  before = (world_of run).core

  -- the roots that the client's page would have
  abbrev page : List Name
  page = roots_or names run.roots

  -- the core after the hello, and its reply
  abbrev after : model.Core × requests.Reply
  after = step run.roots before (connect names)

  abbrev opened_after : model.Core × requests.Reply → Stepped
  opened_after = open_by module_language run.shelves format names (world_of run)

  absent_in : (core : model.Core) → IsCore core old.core
      → is_some (client_at core.clients (core.given + 1)) ≡ false
  absent_in core k =
      subst (λ c. is_some (client_at c.clients (c.given + 1)) ≡ false) k.is
      (next_absent (core_after old.core.roots k.past) (numbered old.core.roots k.past))

  next_closed : (i : ℕ) → i ≡ before.given + 1 → client_at old.clients.items i ≡ None
  next_closed i e =
      let j = before.given + 1 in
      let here = client_at old.clients.items j in
      let ties = (run_sound module_language run.roots run.shelves run.steps stands.went).tied in
      let none : client_at (world_of run).clients j ≡ None =
      absent_record j _ _ (absent_in before stands.has.core) (ties j) in
      subst (λ k. client_at old.clients.items k ≡ None) (sym e)
      (absent_client here (subst (λ r. IsOpen r here) none (stands.has.clients j)))

  module _ (new : World F) (reply : Reply)
      (roots : new.core.roots ≡ old.core.roots) (jobs : new.jobs ≡ old.jobs)
      (told : IsTold old.core.roots before names new.core reply) where
    here : IsTold run.roots before names new.core reply
    here = subst (λ rs. IsTold rs before names new.core reply) stands.has.roots_are told

    -- the client isn't taken
    module _ (clients : new.clients.items ≡ old.clients.items)
        (shelves : new.shelves.items ≡ old.shelves.items) (lines : Vec OutLine) where
      refused_step : (refusal : Refusal) (l : OutLine) → after ≡ (before, requests.refused refusal)
          → opened_after (before, requests.refused refusal) ≡ stepped (world_of run) (l ∷ [])
          → lines.items ≡ l ∷ [] → IsStepped run (opens format names) new (Ok lines)
      refused_step refusal l is refuses e =
          stepped_by run (opens format names) new (Ok lines) (stepped (world_of run) (l ∷ []))
          (ap opened_after is ∙ refuses) (ap Some (sym e)) (record {
            roots_are = roots ∙ stands.has.roots_are;
            core = subst (λ (x : model.Core × requests.Reply). IsCore x.0 new.core) is here.stands;
            clients = subst (AreOpen (world_of run).clients) (sym clients) stands.has.clients;
            jobs = jobs ∙ stands.has.jobs;
            shelves_are = subst (AreShelves before.given run.shelves) (sym shelves) stands.has.shelves_are;
          })

      pub open_bad : greeting_in reply ≡ greetings.BadRoots → lines.items ≡ line.OpenBadRoots ∷ []
          → IsStepped run (opens format names) new (Ok lines)
      open_bad greeted e =
          let is = bad_by (are_bad names) page before (here.says ∙ greeted) in
          refused_step BadRoots line.OpenBadRoots is refl e

      pub open_full : greeting_in reply ≡ greetings.Full → lines.items ≡ line.OpenRefused ∷ []
          → IsStepped run (opens format names) new (Ok lines)
      open_full greeted e =
          let is = full_by (are_bad names) page before (here.says ∙ greeted) in
          refused_step TooManyClients line.OpenRefused is refl e

    -- the client is taken
    module _ (i : ℕ) (its : List Name) (greeted : greeting_in reply ≡ greetings.Taken i its) where
      abbrev welcomed_with : List (List (Text × ℕ)) → Runtime
      welcomed_with marks = welcomed marks format names i its

      taken : IsAdmitted after page before i its
      taken = taken_by (are_bad names) page before i its (here.says ∙ greeted)

      taken_step : (lines : Vec OutLine)
          → AreOpen (with_client i (welcomed_with run.shelves) (world_of run).clients) new.clients.items
          → AreShelves i run.shelves new.shelves.items → lines.items ≡ line.Open i ∷ []
          → IsStepped run (opens format names) new (Ok lines)
      taken_step lines clients shelves e =
          let welcome = λ (j : ℕ) (rs : List Name). welcomed run.shelves format names j rs in
          let rows = λ (j : ℕ) (rs : List Name). with_client j (welcome j rs) (world_of run).clients in
          let is_open = λ (j : ℕ) (rs : List Name). AreOpen (rows j rs) new.clients.items in
          stepped_by run (opens format names) new (Ok lines) (opened_after (admitted page before))
          (ap opened_after taken.is)
          (ap (λ j. Some (line.Open j ∷ [])) (sym taken.number) ∙ ap Some (sym e)) (record {
            roots_are = roots ∙ stands.has.roots_are;
            core = subst (λ (x : model.Core × requests.Reply). IsCore x.0 new.core) taken.is here.stands;
            clients = subst (λ j. is_open j page) taken.number (subst (is_open i) taken.roots_are clients);
            jobs = jobs ∙ stands.has.jobs;
            shelves_are = subst (λ j. AreShelves j run.shelves new.shelves.items) taken.number shelves;
          })

      -- whatever became of it
      pub open_taken : (result : Result (Vec OutLine) WorldStop)
          → ((rows : List (ℕ × Runtime)) (marks : List (List (Text × ℕ))) (given : ℕ) → i ≡ given + 1
          → AreOpen rows old.clients.items → client_at old.clients.items i ≡ None
          → AreShelves given marks old.shelves.items
          → OnOk result (AreOpen (with_client i (welcomed_with marks) rows) new.clients.items))
          → ((marks : List (List (Text × ℕ))) (given : ℕ) → i ≡ given + 1
          → AreShelves given marks old.shelves.items
          → OnOk result (AreShelves i marks new.shelves.items))
          → IfOk result (λ lines. lines.items ≡ line.Open i ∷ []) → IfErr result (λ e. e ≡ NoMemory)
          → IsStepped run (opens format names) new result
      open_taken (Ok lines) clients shelves e stops =
          let given = before.given in
          taken_step lines
          (clients (world_of run).clients run.shelves given taken.number
          stands.has.clients (next_closed i taken.number) stands.has.shelves_are)
          (shelves run.shelves given taken.number stands.has.shelves_are) e
      open_taken (Err stop) clients shelves e stops =
          unmade run (opens format names) new (Err stop) refl stops

-- A client that is taken is open with what was left of its number's closures.

module _ {F : Type 0} (format : ℕ) (names : List Name) (i : ℕ) (told : List Name) (h : HotRuntime F) where
  pub admitted_open : (rows : List (ℕ × Runtime)) (marks : List (List (Text × ℕ)))
      (clients now : Clients F) (shelf : List (Text × ℕ))
      → AreOpen rows clients → client_at clients i ≡ None → shelf ≡ shelf_of marks i
      → IsRuntime (greeted (record { shelf = shelf; roots = names; format = format }) i told) h
      → now ≡ clients ++ (i, h) ∷ []
      → AreOpen (with_client i (welcomed marks format names i told) rows) now
  admitted_open rows marks clients now shelf are none same runtime e =
      let welcome =
      λ (s : List (Text × ℕ)). greeted (record { shelf = s; roots = names; format = format }) i told in
      subst (AreOpen (with_client i (welcomed marks format names i told) rows))
      (at_end clients i h none ∙ sym e)
      (with_open rows clients i (welcomed marks format names i told) h are
      (subst (λ s. IsRuntime (welcome s) h) same runtime))

-- Each client still answers what is stated for it.

module _ {F : Type 0} (answers : Answers F) (clients now : Clients F) (keep : KeepWords answers clients) where
  pub same_words : now ≡ clients → KeepWords answers now
  same_words e = subst (KeepWords answers) (sym e) keep

  pub more_words : (i : ℕ) (h : HotRuntime F) → now ≡ clients ++ (i, h) ∷ [] → runtimes.KeepsWords answers h
      → KeepWords answers now
  more_words i h e words = subst (KeepWords answers) (sym e) (words_push answers clients keep (i, h) words)

-- a runtime that took no message yet
pub new_is : {F : Type 0} (opening : Opening) (h : HotRuntime F) → runtimes.StandsFor opening [] h
    → IsRuntime (new_runtime opening) h
new_is opening h stands = record { opening = opening; past = []; stands = stands; is = refl }

-- it understands that it is connected
pub never_full : (opening : Opening) (i : ℕ) (its : List Name)
    → lines_taken (take module_language (new_runtime opening) (msg.Connected i its)).answer ≡ None → ⊥
never_full opening i its e = false≢true (ap is_some (sym e))
