-- Each event keeps the ranges of each client's record, and of the numbers of clients.
use Rattle.std.proofs.Common.{◌≡◌, ℕ, ◌+◌, ◌≤◌, Bool, true, false, List, [], refl, ap, sym, ◌∙◌, arith}
use Rattle.std.specs.Prelude.{◌==◌, ◌||◌, nat_le, nat_lt, length, Option, Some, None, is_some, IfSome, option_map, if◌then◌else◌}
use Rattle.std.proofs.Math.Path.{subst}
use Rattle.std.proofs.lemmas.Bool.{false≢true, eqb-true, leb-false, ltb-true}
use Rattle.hmr_types.specs.declared.limits.TheConstants.{CLIENTS, LARGEST_NUMBER, LARGEST_CLIENT}
use Rattle.hmr_types.specs.declared.words.PlanKind.{PlanKind}
use Rattle.hmr_types.specs.declared.words.PlanKind.TheVariants.{Load, Reload, Update}
use Rattle.update_msgs.specs.Writable.{IsBetween, IsVersion}
use Rattle.core_model.specs.Names.{Name, has, at, without_all}
use Rattle.core_model.specs.Sources.{Text, Sources, Source, Serving, Verdict, outstanding, good, bad, Change, edit, result, EditAnswer, job, same, removed, edit_refused, edit_answer, ResultAnswer, serve, refuse, late, result_answer, is_awaited}
use Rattle.core_model.specs.View.{View, Entry}
use Rattle.core_model.specs.Page.{Plan, kept_or_staged, met_of, unmet_entry, new_entry, new_view}
use Rattle.core_model.specs.Client.{Client, new_client, next_batch, told_of_edit, told_of_result}
use Rattle.core_model.specs.Asking.{AskRow, out_of_turn, tell, load, idle, prune, reload, update, ask_row, asked}
use Rattle.core_model.specs.Requests.{Request, ask, fetch, applied_as, aborted, invalidate, row_served, row_verdict, fetched, AppliedRow, unfetched, mismatch, done, applied_row, after_applied, is_at_version, invalidated, fetched_in, applied_in, aborted_in, invalidated_in, heard}
use Rattle.core_model.specs.Roots.{are_bad, roots_or}
use Rattle.core_model.specs.Formed.{IsPlaced, IsFormedChange, IsFormed}
use Rattle.core_model.specs.Core.{Core, Event, change, connect, request, disconnect, client_at, told_of, after_change, is_full, if_room, connected, requested, disconnected, step}
use Rattle.core_model.proofs.Clients.{at_without, at_with, at_each}
use Rattle.core_model.proofs.Planning.{at_new}
use Rattle.core_laws.specs.Ranges.{SourcesFit, ServingFits, ViewFits, ClientFits, CoreFits}
use Rattle.core_laws.proofs.Looking.{at_without_all}
use Rattle.core_laws.proofs.Numbers.{map_there}
use Rattle.core_laws.proofs.Ranges.{some_if, row_fits, left_fits, Settling, settling, awaited_fits, change_fits}

-- Views.

abbrev EntryFits : Entry → Type 0
EntryFits e = IsVersion e.version

kept_fits : (kind : PlanKind) (is_replaced : Bool) (kept new : Option Entry) → IfSome kept EntryFits → IfSome new EntryFits → IfSome (kept_or_staged kind is_replaced kept new) EntryFits
kept_fits Load r kept new g h = h
kept_fits Reload r kept new g h = h
kept_fits Update true kept new g h = h
kept_fits Update false None new g h = h
kept_fits Update false (Some e) new g h = g

unmet_fits : (kind : PlanKind) (o : Option Entry) → IfSome o EntryFits → IfSome (unmet_entry kind o) EntryFits
unmet_fits Load o g = tt
unmet_fits Reload o g = tt
unmet_fits Update o g = g

entry_fits : (b : Bool) (p : Plan) (view : View) (n : Name) → ViewFits view → ViewFits p.staged → IfSome (new_entry b p view n) EntryFits
entry_fits true p view n g h = kept_fits p.kind (has p.replaced n) (at view n) (at p.staged n) (g n) (h n)
entry_fits false p view n g h = unmet_fits p.kind (at view n) (g n)

pub new_view_fits : (roots : List Name) (p : Plan) (view : View) → ViewFits view → ViewFits p.staged → ViewFits (new_view roots p view)
new_view_fits roots p view g h n = subst (λ o. IfSome o EntryFits) (sym (at_new roots p view n)) (entry_fits (has (met_of roots p view) n) p view n g h)

gone_fits : (ds : List Name) (view : View) → ViewFits view → ViewFits (without_all ds view)
gone_fits ds view g n = subst (λ o. IfSome o EntryFits) (sym (at_without_all ds view n)) (some_if EntryFits (has ds n) None (at view n) tt (g n))

-- A client's record.

batch_by : (batches : ℕ) (b : Bool) → nat_lt batches LARGEST_NUMBER ≡ b → batches ≤ LARGEST_NUMBER → (if b then batches + 1 else batches) ≤ LARGEST_NUMBER
batch_by batches true e l = omega (arith, ltb-true batches LARGEST_NUMBER e)
batch_by batches false e l = l

next_fits : (batches : ℕ) → batches ≤ LARGEST_NUMBER → next_batch batches ≤ LARGEST_NUMBER
next_fits batches l = batch_by batches (nat_lt batches LARGEST_NUMBER) refl l

module _ (c : Client) (f : ClientFits c) where
  begun : (batches at_no : ℕ) (kind : PlanKind) (names : List Name) → batches ≤ LARGEST_NUMBER
      → ClientFits (record c { batches = batches; page = record c.page { plan = Some (record { kind = kind; replaced = names; staged = [] }) }; plan_at = at_no })
  begun batches at_no kind names l = record { batches = l; view = f.view; staged = λ n. tt; notices = f.notices }

  pub ask_fits : (s : Sources) (row : AskRow) → ClientFits (asked row s c)
  ask_fits s out_of_turn = f
  ask_fits s (tell n fault) = record { batches = f.batches; view = f.view; staged = f.staged; notices = left_fits IsPlaced n c.notices f.notices }
  ask_fits s load = begun c.batches s.served_no Load [] f.batches
  ask_fits s idle = f
  ask_fits s (prune ns) = record { batches = f.batches; view = gone_fits ns c.page.view f.view; staged = f.staged; notices = f.notices }
  ask_fits s (reload path) = begun (next_batch c.batches) s.served_no Reload [] (next_fits c.batches f.batches)
  ask_fits s (update ns ps) = begun (next_batch c.batches) s.served_no Update ns (next_fits c.batches f.batches)

  fetched_fits : (s : Sources) (n : Name) (p : Plan) → ViewFits p.staged → (o : Option Serving) → IfSome o ServingFits → (src : Option Source) → ClientFits (fetched (row_served o src) p n c)
  fetched_fits s n p h (Some v) g src = record { batches = f.batches; view = f.view; staged = row_fits EntryFits n (record { version = v.version; analysis = v.analysis }) p.staged g.version h; notices = f.notices }
  fetched_fits s n p h None g None = f
  fetched_fits s n p h None g (Some src) = by_verdict src.verdict
    where
      by_verdict : (verdict : Verdict) → ClientFits (fetched (row_verdict verdict) p n c)
      by_verdict outstanding = f
      by_verdict good = f
      by_verdict (bad fault) = f

  fetch_fits : (s : Sources) (n : Name) → SourcesFit s → (plan : Option Plan) → c.page.plan ≡ plan → ClientFits (fetched_in plan s n c).0
  fetch_fits s n g None e = f
  fetch_fits s n g (Some p) e = fetched_fits s n p (subst (λ o. IfSome o (λ q. ViewFits q.staged)) e f.staged) (at s.served n) (g.served n) (at s.current n)

  after_fits : (p : Plan) → ViewFits p.staged → (row : AppliedRow) → ClientFits (after_applied row p c)
  after_fits p h (unfetched n) = f
  after_fits p h (mismatch n told kept) = f
  after_fits p h done = record { batches = f.batches; view = new_view_fits c.roots p c.page.view f.view h; staged = tt; notices = f.notices }

  apply_fits : (table : List (Name × ℕ)) (plan : Option Plan) → c.page.plan ≡ plan → ClientFits (applied_in plan table c).0
  apply_fits table None e = f
  apply_fits table (Some p) e = after_fits p (subst (λ o. IfSome o (λ q. ViewFits q.staged)) e f.staged) (applied_row c.roots p c.page.view table)

  abort_fits : (plan : Option Plan) → ClientFits (aborted_in plan c).0
  abort_fits None = f
  abort_fits (Some p) = record { batches = f.batches; view = f.view; staged = tt; notices = f.notices }

  forced_fits : (n : Name) (b : Bool) → ClientFits (invalidated b n c)
  forced_fits n true = record { batches = f.batches; view = f.view; staged = f.staged; notices = f.notices }
  forced_fits n false = f

  invalidate_fits : (n : Name) (v : ℕ) (plan : Option Plan) → ClientFits (invalidated_in plan n v c).0
  invalidate_fits n v None = forced_fits n (is_at_version (at c.page.view n) v)
  invalidate_fits n v (Some p) = f

  -- each request keeps the ranges
  pub heard_fits : (i : ℕ) (s : Sources) → SourcesFit s → (r : Request) → ClientFits (heard i s c r).0
  heard_fits i s g ask = ask_fits s (ask_row s c)
  heard_fits i s g (fetch n) = fetch_fits s n g c.page.plan refl
  heard_fits i s g (applied_as table) = apply_fits table c.page.plan refl
  heard_fits i s g aborted = abort_fits c.page.plan
  heard_fits i s g (invalidate n v) = invalidate_fits n v c.page.plan

  edit_told : (answer : EditAnswer) (n : Name) → ClientFits (told_of_edit answer n c)
  edit_told (job v) n = f
  edit_told same n = f
  edit_told (removed v) n = record { batches = f.batches; view = f.view; staged = f.staged; notices = left_fits IsPlaced n c.notices f.notices }
  edit_told (edit_refused w) n = f

  result_told : (answer : ResultAnswer) (n : Name) (t : Text) (v : ℕ) → Settling t v answer → ClientFits (told_of_result answer n c)
  result_told (serve a) n t v h = record { batches = f.batches; view = f.view; staged = f.staged; notices = left_fits IsPlaced n c.notices f.notices }
  result_told (refuse fault) n t v h = record { batches = f.batches; view = f.view; staged = f.staged; notices = row_fits IsPlaced n fault c.notices h.2 f.notices }
  result_told late n t v h = f

  told_fits : (s : Sources) (ch : Change) → IsFormedChange ch → SourcesFit s → ClientFits (told_of s ch c)
  told_fits s (edit n t) w g = edit_told (edit_answer s n t) n
  told_fits s (result n t o v) w g = result_told (result_answer s n t o v) n t v (settling o t v (is_awaited (at s.current n) t v) w.2 (awaited_fits (at s.current n) t v (g.current n)))

-- The core.

some_map : {X : Type 0} (P : X → Type 0) (h : X → X) (o : Option X) → ((x : X) → P x → P (h x)) → IfSome o P → IfSome (option_map h o) P
some_map P h None g p = tt
some_map P h (Some x) g p = g x p

new_fits : (roots : List Name) (k : ℕ) → ClientFits (new_client roots k)
new_fits roots k = record { batches = omega arith; view = λ n. tt; staged = λ n. tt; notices = λ n. tt }

within : (low given more i j : ℕ) (b : Bool) (x : Client) (o : Option Client) → (i == j) ≡ b → IsBetween 1 more i → given ≤ more → (is_some o ≡ true → IsBetween 1 given j) → is_some (if b then Some x else o) ≡ true → IsBetween 1 more j
within low given more i j true x o e w l g h = subst (IsBetween 1 more) (eqb-true i j e) w
within low given more i j false x o e w l g h = record { least = (g h).least; most = omega (arith, (g h).most, l) }

not_full : (a b : Bool) → (a || b) ≡ false → b ≡ false
not_full true b h = absurd (false≢true (sym h))
not_full false b h = h

pub room_left : (core : Core) → is_full core ≡ false → core.given + 1 ≤ LARGEST_CLIENT
room_left core e = omega (arith, leb-false LARGEST_CLIENT core.given (not_full (nat_le CLIENTS (length core.clients)) (nat_le LARGEST_CLIENT core.given) e))

module _ (core : Core) (f : CoreFits core) where
  change_keeps : (ch : Change) → IsFormedChange ch → CoreFits (after_change core ch)
  change_keeps ch w = record {
    sources = change_fits core.sources ch w f.sources;
    clients = λ j. subst (λ o. IfSome o ClientFits) (sym (at_each (told_of core.sources ch) core.clients j)) (some_map ClientFits (told_of core.sources ch) (client_at core.clients j) (λ c g. told_fits c g core.sources ch w f.sources) (f.clients j));
    numbers = λ j h. f.numbers j (sym (ap is_some (at_each (told_of core.sources ch) core.clients j) ∙ map_there (told_of core.sources ch) (client_at core.clients j)) ∙ h);
    given = f.given;
  }

  room_keeps : (full : Bool) (names : List Name) → is_full core ≡ full → CoreFits (if_room full names core).0
  room_keeps true names e = f
  room_keeps false names e = record {
    sources = f.sources;
    clients = λ j. subst (λ o. IfSome o ClientFits) (sym (at_with (core.given + 1) new core.clients j)) (some_if ClientFits (core.given + 1 == j) (Some new) (client_at core.clients j) (new_fits names core.sources.served_no) (f.clients j));
    numbers = λ j h. within 1 core.given (core.given + 1) (core.given + 1) j (core.given + 1 == j) new (client_at core.clients j) refl (record { least = omega arith; most = omega arith }) (omega arith) (f.numbers j) (sym (ap is_some (at_with (core.given + 1) new core.clients j)) ∙ h);
    given = room_left core e;
  }
    where
      new : Client
      new = new_client names core.sources.served_no

  connect_keeps : (bad : Bool) (names : List Name) → CoreFits (connected bad names core).0
  connect_keeps true names = f
  connect_keeps false names = room_keeps (is_full core) names refl

  request_keeps : (o : Option Client) (i : ℕ) (r : Request) → client_at core.clients i ≡ o → CoreFits (requested o i core r).0
  request_keeps None i r e = f
  request_keeps (Some c) i r e = record {
    sources = f.sources;
    clients = λ j. subst (λ o. IfSome o ClientFits) (sym (at_with i new core.clients j)) (some_if ClientFits (i == j) (Some new) (client_at core.clients j) (heard_fits c (subst (λ o. IfSome o ClientFits) e (f.clients i)) i core.sources f.sources r) (f.clients j));
    numbers = λ j h. within 1 core.given core.given i j (i == j) new (client_at core.clients j) refl (f.numbers i (ap is_some e)) (omega arith) (f.numbers j) (sym (ap is_some (at_with i new core.clients j)) ∙ h);
    given = f.given;
  }
    where
      new : Client
      new = (heard i core.sources c r).0

  gone_else : (i j : ℕ) (b : Bool) (o : Option Client) → (is_some o ≡ true → IsBetween 1 core.given j) → is_some (if b then None else o) ≡ true → IsBetween 1 core.given j
  gone_else i j true o g h = absurd (false≢true h)
  gone_else i j false o g h = g h

  disconnect_keeps : (o : Option Client) (i : ℕ) → CoreFits (disconnected o i core).0
  disconnect_keeps None i = f
  disconnect_keeps (Some c) i = record {
    sources = f.sources;
    clients = λ j. subst (λ o. IfSome o ClientFits) (sym (at_without i core.clients j)) (some_if ClientFits (i == j) None (client_at core.clients j) tt (f.clients j));
    numbers = λ j h. gone_else i j (i == j) (client_at core.clients j) (f.numbers j) (sym (ap is_some (at_without i core.clients j)) ∙ h);
    given = f.given;
  }

  -- each event keeps the ranges
  pub step_fits : (roots : List Name) (event : Event) → IsFormed event → CoreFits (step roots core event).0
  step_fits roots (change ch) w = change_keeps ch w
  step_fits roots (connect names) w = connect_keeps (are_bad names) (roots_or names roots)
  step_fits roots (request i r) w = request_keeps (client_at core.clients i) i r refl
  step_fits roots (disconnect i) w = disconnect_keeps (client_at core.clients i) i
