-- The core's answer to the request of a client that is tied to its record: it is an answer to that
-- request, and the page that it makes of the client's is the one that the record then has.
use Rattle.std.proofs.Common.{◌≡◌, ℕ, ◌≤◌, Bool, true, false, List, [], ◌∷◌, ◌++◌, refl, ap, sym, ◌∙◌, arith}
use Rattle.std.specs.Prelude.{filter, cond, not, ◌==◌, Option, Some, None, is_some, is_none, map, ⊤, if◌then◌else◌}
use Prim.{⊥}
use Rattle.std.proofs.Math.Path.{subst}
use Rattle.std.proofs.lemmas.Bool.{false≢true, eq-eqb, eqb-true}
use Rattle.hmr_types.specs.declared.analysis.TextFault.{TextFault}
use Rattle.hmr_types.specs.declared.words.PlanKind.TheVariants.{Load, Reload, Update}
use Rattle.hmr_types.specs.declared.words.ReloadCause.{ReloadCause}
use Rattle.hmr_types.specs.declared.analysis.Outcome.TheVariants.{Good}
use Rattle.update_msgs.specs.declared.message.ClientMsg.{ClientMsg}
use Rattle.update_msgs.specs.declared.message.ClientMsg.TheVariants as told
use Rattle.update_msgs.specs.declared.message.ServerMsg.{ServerMsg}
use Rattle.update_msgs.specs.declared.message.ServerMsg.TheVariants as msg
use Rattle.output_lines.specs.declared.out_line.OutLine.TheVariants as line
use Rattle.update_msgs.specs.declared.message.AbortCause.{AbortCause}
use Rattle.update_msgs.specs.declared.message.AbortCause.TheVariants as abort
use Rattle.core_model.specs.Names.{Name, has, at, names_of, sorted, in_order}
use Rattle.core_model.specs.Sources.{Sources, Source, Serving, Verdict, outstanding, good, bad}
use Rattle.core_model.specs.View.{table_of}
use Rattle.core_model.specs.Spread.{cause_of}
use Rattle.core_model.specs.Page.{Plan, Page, begun, entry_at, met_of, unfetched_of, new_view, staged, applied, given_up, forced_too, pruned}
use Rattle.core_model.specs.Client.{Client, is_held, dropped, reason, replaced, pairs, triggered, first_notice}
use Rattle.core_model.specs.Asking.{AskRow, out_of_turn, tell, load, idle, prune, reload, update, row_replaced, row_reason, row_held, row_dropped, row_loaded, row_notice, row_plan, ask_row, asked, js_update}
use Rattle.core_model.specs.Requests as core
use Rattle.core_model.specs.Requests.{Request, Reply, ask_reply, FetchRow, text, not_yet, broken, missing, row_verdict, row_source, row_served, fetch_row, fetched, fetch_reply, applied_row, row_differing, row_unfetched, AppliedRow, done, differing, version_at, heard, is_at_version, invalidated, invalidate_reply, after_applied, applied_reply, fetched_in, applied_in, aborted_in, invalidated_in}
use Rattle.core_model.specs.Core.{request}
use Rattle.core_model.specs.Exchange.{event_of, batch_in, names_in, message_for}
use Rattle.core_model.proofs.Naming.{true_same, filtered_from, filtered_in, sorted_has, no_names, none_first}
use Rattle.client_model.specs.Language.{Language}
use Rattle.client_model.specs.Runtime as causes
use Rattle.client_model.specs.Runtime.{Runtime, Cause, Invalidation, Did, nothing, and_then, for_each, write}
use Rattle.client_model.specs.Order.{fetch_order}
use Rattle.client_model.specs.Linking.{next_needed, link_cause}
use Rattle.client_model.specs.Requesting as requesting
use Rattle.client_model.specs.Requesting.{ask_or_invalidate, abort_message, apply_or_abort, fetch_or_finish, carry_on, request_by, cause_by}
use Rattle.client_model.specs.Applying.{live_of, prune_instance, apply}
use Rattle.client_model.specs.Answering as client
use Rattle.client_model.specs.Answering.{answered, accept_line, write_batch, start_reload, start_update, stage, stage_in, apply_in, abort_in, write_cause}
use Rattle.client_model.specs.Expecting.{is_answer}
use Rattle.client_model.proofs.Acts.{before_finish, kept_applying, kept_pruning, kept_lines}
use Rattle.client_model.proofs.Staying.{Stays, page_kept}
use Rattle.client_model.proofs.Walking.{walk_is}
use Rattle.core_model.proofs.Planning.{met_is}
use Rattle.world_model.specs.Ties.{IsServedRight}

-- the message answers what was told, and makes this page of the client's
pub record Matches (language : Language) (r : Runtime) (asks : ClientMsg) (m : ServerMsg) (page : Page) : Type 0 where
  pub answers : is_answer r.page.loaded asks m ≡ true
  pub page_is : (answered language asks m r).0.page ≡ page
  pub roots : (answered language asks m r).0.roots ≡ r.roots
  pub number : (answered language asks m r).0.client ≡ r.client
  pub running : (answered language asks m r).0.stopped ≡ r.stopped

-- there is a message, and it matches
abbrev pub MatchesSome : Language → Runtime → ClientMsg → Option ServerMsg → Page → Type 0
MatchesSome language r what None page = ⊥
MatchesSome language r what (Some m) page = Matches language r what m page

-- a reply matches as the message that it is in the client's format
abbrev pub ReplyMatches : Language → Runtime → ClientMsg → Reply → Page → Type 0
ReplyMatches language r asks reply page = MatchesSome language r asks (message_for r.format reply) page

-- what was told is a request, and the core's answer to it matches
pub record Fits (language : Language) (s : Sources) (c : Client) (r : Runtime) (asks : ClientMsg) : Type 0 where
  pub is : Request
  pub event : event_of r.client asks ≡ request r.client is
  pub matches : ReplyMatches language r asks (heard r.client s c is).1 (heard r.client s c is).0.page

-- A request leaves the roots of the record.

asked_roots : (row : AskRow) (s : Sources) (c : Client) → (asked row s c).roots ≡ c.roots
asked_roots out_of_turn s c = refl
asked_roots (tell n fault) s c = refl
asked_roots load s c = refl
asked_roots idle s c = refl
asked_roots (prune ns) s c = refl
asked_roots (reload path) s c = refl
asked_roots (update ns ps) s c = refl

fetched_roots : (row : FetchRow) (p : Plan) (n : Name) (c : Client) → (fetched row p n c).roots ≡ c.roots
fetched_roots (text s) p n c = refl
fetched_roots not_yet p n c = refl
fetched_roots (broken fault) p n c = refl
fetched_roots missing p n c = refl

applied_roots : (row : AppliedRow) (p : Plan) (c : Client) → (after_applied row p c).roots ≡ c.roots
applied_roots (core.unfetched n) p c = refl
applied_roots (core.mismatch n told kept) p c = refl
applied_roots done p c = refl

invalidated_roots : (there : Bool) (n : Name) (c : Client) → (invalidated there n c).roots ≡ c.roots
invalidated_roots true n c = refl
invalidated_roots false n c = refl

fetched_in_roots : (q : Option Plan) (s : Sources) (n : Name) (c : Client) → (fetched_in q s n c).0.roots ≡ c.roots
fetched_in_roots None s n c = refl
fetched_in_roots (Some p) s n c = fetched_roots (fetch_row s n) p n c

applied_in_roots : (q : Option Plan) (table : List (Name × ℕ)) (c : Client) → (applied_in q table c).0.roots ≡ c.roots
applied_in_roots None table c = refl
applied_in_roots (Some p) table c = applied_roots (applied_row c.roots p c.page.view table) p c

aborted_in_roots : (q : Option Plan) (c : Client) → (aborted_in q c).0.roots ≡ c.roots
aborted_in_roots None c = refl
aborted_in_roots (Some p) c = refl

invalidated_in_roots : (q : Option Plan) (n : Name) (v : ℕ) (c : Client) → (invalidated_in q n v c).0.roots ≡ c.roots
invalidated_in_roots None n v c = invalidated_roots (is_at_version (at c.page.view n) v) n c
invalidated_in_roots (Some p) n v c = refl

-- a request leaves the roots of the record
pub heard_roots : (i : ℕ) (s : Sources) (c : Client) (is : Request) → (heard i s c is).0.roots ≡ c.roots
heard_roots i s c core.ask = asked_roots (ask_row s c) s c
heard_roots i s c (core.fetch n) = fetched_in_roots c.page.plan s n c
heard_roots i s c (core.applied_as table) = applied_in_roots c.page.plan table c
heard_roots i s c core.aborted = aborted_in_roots c.page.plan c
heard_roots i s c (core.invalidate n v) = invalidated_in_roots c.page.plan n v c

-- An Ask.

-- what holds where a row is met
abbrev RowFits : Bool → AskRow → Type 0
RowFits loaded out_of_turn = ⊥
RowFits loaded (tell n fault) = ⊤
RowFits loaded load = loaded ≡ false
RowFits loaded idle = ⊤
RowFits loaded (prune ns) = loaded ≡ true
RowFits loaded (reload path) = loaded ≡ true
RowFits loaded (update ns ps) = loaded ≡ true

replaced_fits : (ns : List Name) (ps : List (Name × Name)) → RowFits true (row_replaced ns ps)
replaced_fits [] [] = tt
replaced_fits [] (p ∷ ps) = refl
replaced_fits (n ∷ ns) ps = refl

reason_fits : (path : Option (List Name)) (row : AskRow) → RowFits true row → RowFits true (row_reason path row)
reason_fits None row h = h
reason_fits (Some path) row h = refl

held_fits : (held : Bool) (row : AskRow) → RowFits true row → RowFits true (row_held held row)
held_fits true row h = tt
held_fits false row h = h

dropped_fits : (ns : List Name) (row : AskRow) → RowFits true row → RowFits true (row_dropped ns row)
dropped_fits [] row h = h
dropped_fits (n ∷ ns) row h = refl

loaded_fits : (loaded held : Bool) (row : AskRow) → RowFits true row → RowFits loaded (row_loaded loaded held row)
loaded_fits true held row h = h
loaded_fits false true row h = tt
loaded_fits false false row h = refl

notice_fits : (notice : Option (Name × TextFault)) (loaded : Bool) (row : AskRow) → RowFits loaded row → RowFits loaded (row_notice notice row)
notice_fits None loaded row h = h
notice_fits (Some notice) loaded row h = tt

plan_fits : (plan : Option Plan) (loaded : Bool) (row : AskRow) → plan ≡ None → RowFits loaded row → RowFits loaded (row_plan plan row)
plan_fits None loaded row e h = h
plan_fits (Some p) loaded row e h = absurd (false≢true (sym (ap is_some e)))

ask_fits : (s : Sources) (c : Client) → c.page.plan ≡ None → RowFits c.page.loaded (ask_row s c)
ask_fits s c e =
    plan_fits c.page.plan c.page.loaded _ e
    (notice_fits (first_notice c) c.page.loaded _
    (loaded_fits c.page.loaded (is_held s c) _
    (dropped_fits (dropped c) _
    (held_fits (is_held s c) _
    (reason_fits (reason s c) _
    (replaced_fits (replaced s c) (pairs s c)))))))

-- the line of a batch changes nothing
batch_same : (there : Bool) (r : Runtime) (line : Did) → line.0 ≡ r → (if there then nothing r else line).0 ≡ r
batch_same true r line e = refl
batch_same false r line e = e

-- what holds of a client that does what follows holds where the line of a batch is written before
pub after_batch : (batch : ℕ) (triggered : List Name) (r : Runtime) (next : Runtime → Did) (P : Runtime → Type 0) → P (next r).0 → P (and_then (write_batch batch triggered r) next).0
after_batch batch triggered r next P h = subst (λ t. P (next t).0) (sym (batch_same (batch == 0) r (write (line.Batch r.client batch (in_order triggered)) r) refl)) h

-- what a runtime keeps of a message, with the page that it makes
record Kept (r after : Runtime) (page : Page) : Type 0 where
  page_is : after.page ≡ page
  roots : after.roots ≡ r.roots
  number : after.client ≡ r.client
  running : after.stopped ≡ r.stopped

matched : (language : Language) (r : Runtime) (what : ClientMsg) (m : ServerMsg) (page : Page) → is_answer r.page.loaded what m ≡ true → Kept r (answered language what m r).0 page → Matches language r what m page
matched language r what m page h k = record { answers = h; page_is = k.page_is; roots = k.roots; number = k.number; running = k.running }

ask_matches : (language : Language) (s : Sources) (c : Client) (r : Runtime) → c.page ≡ r.page → c.roots ≡ r.roots → (row : AskRow) → RowFits r.page.loaded row → ReplyMatches language r told.Ask (ask_reply r.client s (asked row s c) row) (asked row s c).page
ask_matches language s c r e same out_of_turn h = absurd h
ask_matches language s c r e same (tell n fault) h = record { answers = refl; page_is = sym e; roots = refl; number = refl; running = refl }
ask_matches language s c r e same load h = record { answers = ap not h; page_is = ap (λ (p : Page). record p { plan = Some (record { kind = Load; replaced = []; staged = [] }) }) (sym e); roots = same; number = refl; running = refl }
ask_matches language s c r e same idle h = record { answers = refl; page_is = sym e; roots = refl; number = refl; running = refl }
ask_matches language s c r e same (prune ns) h =
    let k : Stays r (for_each (prune_instance language) (live_of (has ns) r) r) = kept_pruning Stays page_kept language ns r in
    record { answers = h; page_is = ap (λ (p : Page). pruned ns p) (k.page ∙ sym e); roots = k.roots; number = k.client; running = k.stopped }
ask_matches language s c r e same (reload path) h =
    let after : Client = asked (reload path) s c in
    let page : Page = begun Reload [] c.page in
    let batch : ℕ = batch_in r.format after.batches in
    let names : List Name = names_in r.format (triggered s after) in
    let cause : ReloadCause = cause_of after.page.view path in
    matched language r told.Ask (msg.FullReload cause path batch names) page h
    (after_batch batch names r (start_reload (line.Reload r.client cause path)) (λ t. Kept r t page) (record { page_is = ap (begun Reload []) (sym e); roots = refl; number = refl; running = refl }))
ask_matches language s c r e same (update ns ps) h =
    let after : Client = asked (update ns ps) s c in
    let page : Page = begun Update ns c.page in
    let batch : ℕ = batch_in r.format after.batches in
    let names : List Name = names_in r.format (triggered s after) in
    let told_pairs : List (Name × Name) = map client.pair_of (map (js_update s) ps) in
    let k : Stays r (for_each (λ pair t. write (accept_line t.client pair) t) told_pairs r) = kept_lines Stays page_kept language (λ pair t. accept_line t.client pair) told_pairs r in
    matched language r told.Ask (msg.Update ns (map (js_update s) ps) batch names) page h
    (after_batch batch names r (start_update ns told_pairs) (λ t. Kept r t page) (record { page_is = ap (begun Update ns) (k.page ∙ sym e); roots = k.roots; number = k.client; running = k.stopped }))

-- A Fetch.

-- what holds of a row for a Fetch
abbrev FetchFits : Language → Name → FetchRow → Type 0
FetchFits language n (text s) = language.transformed n s.text ≡ Good s.analysis
FetchFits language n not_yet = ⊤
FetchFits language n (broken fault) = ⊤
FetchFits language n missing = ⊤

verdict_fits : (language : Language) (n : Name) (v : Verdict) → FetchFits language n (row_verdict v)
verdict_fits language n outstanding = tt
verdict_fits language n good = tt
verdict_fits language n (bad fault) = tt

source_fits : (language : Language) (n : Name) (source : Option Source) → FetchFits language n (row_source source)
source_fits language n None = tt
source_fits language n (Some s) = verdict_fits language n s.verdict

served_fits : (language : Language) (n : Name) (s : Option Serving) (source : Option Source) → IsServedRight language n s → FetchFits language n (row_served s source)
served_fits language n None source h = source_fits language n source
served_fits language n (Some s) source h = h

-- a text that is served is staged
staged_by : (language : Language) (p : Plan) (n : Name) (s : Serving) (r : Runtime) (P : Did → Type 0) → r.page.plan ≡ Some p → language.transformed n s.text ≡ Good s.analysis → P (stage (Good s.analysis) p n s.version s.text r) → P (stage_in r.page.plan language n s.version s.text r)
staged_by language p n s r P e right h = subst (λ q. P (stage_in q language n s.version s.text r)) (sym e) (subst (λ o. P (stage o p n s.version s.text r)) (sym right) h)

fetch_matches : (language : Language) (p : Plan) (n : Name) (c : Client) (r : Runtime) → c.page ≡ r.page → r.page.plan ≡ Some p → (row : FetchRow) → FetchFits language n row → ReplyMatches language r (told.Fetch n) (fetch_reply row n) (fetched row p n c).page
fetch_matches language p n c r e plan_is (text s) h = record {
  answers = true_same n n refl;
  page_is = staged_by language p n s r (λ did. did.0.page ≡ staged p n (record { version = s.version; analysis = s.analysis }) c.page) plan_is h (ap (staged p n (record { version = s.version; analysis = s.analysis })) (sym e));
  roots = staged_by language p n s r (λ did. did.0.roots ≡ r.roots) plan_is h refl;
  number = staged_by language p n s r (λ did. did.0.client ≡ r.client) plan_is h refl;
  running = staged_by language p n s r (λ did. did.0.stopped ≡ r.stopped) plan_is h refl;
}
fetch_matches language p n c r e plan_is not_yet h = record { answers = true_same n n refl; page_is = sym e; roots = refl; number = refl; running = refl }
fetch_matches language p n c r e plan_is (broken fault) h = record { answers = true_same n n refl; page_is = sym e; roots = refl; number = refl; running = refl }
fetch_matches language p n c r e plan_is missing h = record { answers = true_same n n refl; page_is = sym e; roots = refl; number = refl; running = refl }

-- An Applied.

none_passes : (p : Name → Bool) → ((n : Name) → p n ≡ false) → (names : List Name) → filter p names ≡ []
none_passes p f [] = refl
none_passes p f (n ∷ names) = ap (λ b. cond b (n ∷ filter p names) (filter p names)) (f n) ∙ none_passes p f names

-- where nothing is needed any more, nothing is unfetched
all_fetched : (p : Plan) (r : Runtime) → next_needed p r ≡ None → unfetched_of r.roots p r.page.view ≡ []
all_fetched p r e = no_names (unfetched_of r.roots p r.page.view) (λ m h.
    let missing_one = filtered_from (λ n. not (is_some (entry_at p r.page.view n))) (met_of r.roots p r.page.view) m (sym (sorted_has _ m) ∙ h) in
    let met : has (fetch_order r.roots p r.page.view) m ≡ true = (walk_is r.roots p r.page.view m).1 ((met_is r.roots p r.page.view m).0 missing_one.1) in
    false≢true (ap (λ names. has names m) (sym (none_first (filter (λ n. is_none (entry_at p r.page.view n)) (fetch_order r.roots p r.page.view)) e)) ∙ filtered_in (λ n. is_none (entry_at p r.page.view n)) (fetch_order r.roots p r.page.view) m missing_one.0 met))

same_table : (table : List (Name × ℕ)) → differing table table ≡ []
same_table table = none_passes (λ n. not (version_at table n == version_at table n)) (λ n. ap not (eq-eqb (version_at table n) (version_at table n) refl)) (sorted (names_of table ++ names_of table))

row_is_done : (p : Plan) (r : Runtime) → next_needed p r ≡ None → applied_row r.roots p r.page.view (table_of (new_view r.roots p r.page.view)) ≡ done
row_is_done p r e =
    let t : List (Name × ℕ) = table_of (new_view r.roots p r.page.view) in
    ap (λ names. row_unfetched names (row_differing (differing t t) t t)) (all_fetched p r e) ∙ ap (λ names. row_differing names t t) (same_table t)

applied_by : (language : Language) (p : Plan) (r : Runtime) (P : Did → Type 0) → r.page.plan ≡ Some p → P (apply language p r) → P (apply_in r.page.plan language r)
applied_by language p r P e h = subst (λ q. P (apply_in q language r)) (sym e) h

applied_matches : (language : Language) (p : Plan) (table : List (Name × ℕ)) (c : Client) (r : Runtime) → c.page ≡ r.page → c.roots ≡ r.roots → r.page.plan ≡ Some p → (row : AppliedRow) → row ≡ done → ReplyMatches language r (told.Applied table) (applied_reply row) (after_applied row p c).page
applied_matches language p table c r e same plan_is row is_done = subst (λ w. ReplyMatches language r (told.Applied table) (applied_reply w) (after_applied w p c).page) (sym is_done)
    (let k : Stays r (before_finish language p r) = kept_applying Stays page_kept language p r in
    record {
      answers = refl;
      page_is = applied_by language p r (λ did. did.0.page ≡ applied c.roots p c.page) plan_is (ap (λ roots. applied roots p (before_finish language p r).0.page) (k.roots ∙ sym same) ∙ ap (applied c.roots p) (k.page ∙ sym e));
      roots = applied_by language p r (λ did. did.0.roots ≡ r.roots) plan_is k.roots;
      number = applied_by language p r (λ did. did.0.client ≡ r.client) plan_is k.client;
      running = applied_by language p r (λ did. did.0.stopped ≡ r.stopped) plan_is k.stopped;
    })

-- An Aborted.

pub write_same : (cause : Option Cause) (r : Runtime) → (write_cause cause r).0 ≡ r
write_same None r = refl
write_same (Some cause) r = refl

aborted_by : (language : Language) (p : Plan) (r : Runtime) (P : Runtime → Type 0) → r.page.plan ≡ Some p → P (record r { page = given_up r.page; texts = []; pairs = []; cause = None }) → P (abort_in r.page.plan language r).0
aborted_by language p r P e h = subst (λ q. P (abort_in q language r).0) (sym e) (subst (λ (t : Runtime). P (record t { page = given_up t.page; texts = []; pairs = []; cause = None })) (sym (write_same (cause_by r.cause language p r) r)) h)

aborted_matches : (language : Language) (p : Plan) (c : Client) (r : Runtime) (why : AbortCause) (n : Name) (from x : Option Name) → c.page ≡ r.page → r.page.plan ≡ Some p → Matches language r (told.Aborted why n from x) msg.Done (given_up c.page)
aborted_matches language p c r why n from x e plan_is = record {
  answers = refl;
  page_is = aborted_by language p r (λ t. t.page ≡ given_up c.page) plan_is (ap given_up (sym e));
  roots = aborted_by language p r (λ t. t.roots ≡ r.roots) plan_is refl;
  number = aborted_by language p r (λ t. t.client ≡ r.client) plan_is refl;
  running = aborted_by language p r (λ t. t.stopped ≡ r.stopped) plan_is refl;
}

-- An Invalidate.

invalidate_matches : (language : Language) (c : Client) (r : Runtime) (n : Name) (v : ℕ) (message : List ℕ) → c.page ≡ r.page → (there : Bool) → ReplyMatches language r (told.Invalidate n v message) (invalidate_reply there) (invalidated there n c).page
invalidate_matches language c r n v message e true = record { answers = refl; page_is = ap (forced_too n) (sym e); roots = refl; number = refl; running = refl }
invalidate_matches language c r n v message e false = record { answers = refl; page_is = sym e; roots = refl; number = refl; running = refl }

-- Every request.

module _ (language : Language) (s : Sources) (c : Client) (r : Runtime) (e : c.page ≡ r.page) (same : c.roots ≡ r.roots) (served : (n : Name) → IsServedRight language n (at s.served n)) where
  plan_of : (q : Option Plan) → r.page.plan ≡ q → c.page.plan ≡ q
  plan_of q h = ap (λ (page : Page). page.plan) e ∙ h

  fits_ask : r.page.plan ≡ None → Fits language s c r told.Ask
  fits_ask h = record { is = core.ask; event = refl; matches = ask_matches language s c r e same (ask_row s c) (subst (λ b. RowFits b (ask_row s c)) (ap (λ (page : Page). page.loaded) e) (ask_fits s c (plan_of None h))) }

  fits_invalidate : (n : Name) (v : ℕ) (message : List ℕ) → r.page.plan ≡ None → Fits language s c r (told.Invalidate n v message)
  fits_invalidate n v message h = record { is = core.invalidate n v; event = refl; matches = subst (λ q. ReplyMatches language r (told.Invalidate n v message) (invalidated_in q n v c).1 (invalidated_in q n v c).0.page) (sym (plan_of None h)) (invalidate_matches language c r n v message e (is_at_version (at c.page.view n) v)) }

  fits_fetch : (p : Plan) (n : Name) → r.page.plan ≡ Some p → Fits language s c r (told.Fetch n)
  fits_fetch p n h = record { is = core.fetch n; event = refl; matches = subst (λ q. ReplyMatches language r (told.Fetch n) (fetched_in q s n c).1 (fetched_in q s n c).0.page) (sym (plan_of (Some p) h)) (fetch_matches language p n c r e h (fetch_row s n) (served_fits language n (at s.served n) (at s.current n) (served n))) }

  fits_applied : (p : Plan) → r.page.plan ≡ Some p → next_needed p r ≡ None → Fits language s c r (told.Applied (table_of (new_view r.roots p r.page.view)))
  fits_applied p h needed =
      let t : List (Name × ℕ) = table_of (new_view r.roots p r.page.view) in
      let row : applied_row c.roots p c.page.view t ≡ done = subst (λ roots. applied_row roots p c.page.view t ≡ done) (sym same) (subst (λ (page : Page). applied_row r.roots p page.view t ≡ done) (sym e) (row_is_done p r needed)) in
      record { is = core.applied_as t; event = refl; matches = subst (λ q. ReplyMatches language r (told.Applied t) (applied_in q t c).1 (applied_in q t c).0.page) (sym (plan_of (Some p) h)) (applied_matches language p t c r e same h (applied_row c.roots p c.page.view t) row) }

  fits_aborted : (p : Plan) (cause : Cause) → r.page.plan ≡ Some p → Fits language s c r (abort_message cause)
  fits_aborted p (causes.missing n) h = record { is = core.aborted; event = refl; matches = subst (λ q. ReplyMatches language r (told.Aborted abort.Missing n None None) (aborted_in q c).1 (aborted_in q c).0.page) (sym (plan_of (Some p) h)) (aborted_matches language p c r abort.Missing n None None e h) }
  fits_aborted p (causes.broken n) h = record { is = core.aborted; event = refl; matches = subst (λ q. ReplyMatches language r (told.Aborted abort.Broken n None None) (aborted_in q c).1 (aborted_in q c).0.page) (sym (plan_of (Some p) h)) (aborted_matches language p c r abort.Broken n None None e h) }
  fits_aborted p (causes.unlinked n m x) h = record { is = core.aborted; event = refl; matches = subst (λ q. ReplyMatches language r (told.Aborted abort.Link n (Some m) (Some x)) (aborted_in q c).1 (aborted_in q c).0.page) (sym (plan_of (Some p) h)) (aborted_matches language p c r abort.Link n (Some m) (Some x) e h) }

  by_unsent : (unsent : List Invalidation) → r.page.plan ≡ None → Fits language s c r (ask_or_invalidate unsent)
  by_unsent [] h = fits_ask h
  by_unsent (i ∷ more) h = fits_invalidate i.name i.version i.message h

  by_link : (cause : Option Cause) (p : Plan) → r.page.plan ≡ Some p → next_needed p r ≡ None → Fits language s c r (apply_or_abort cause p r)
  by_link None p h needed = fits_applied p h needed
  by_link (Some cause) p h needed = fits_aborted p cause h

  by_needed : (o : Option Name) (p : Plan) → r.page.plan ≡ Some p → next_needed p r ≡ o → Fits language s c r (fetch_or_finish o (link_cause language p r) p r)
  by_needed None p h needed = by_link (link_cause language p r) p h needed
  by_needed (Some n) p h needed = fits_fetch p n h

  by_cause : (cause : Option Cause) (p : Plan) → r.page.plan ≡ Some p → Fits language s c r (carry_on cause language p r)
  by_cause None p h = by_needed (next_needed p r) p h refl
  by_cause (Some cause) p h = fits_aborted p cause h

  by_plan : (q : Option Plan) → r.page.plan ≡ q → Fits language s c r (request_by q language r)
  by_plan None h = by_unsent r.unsent h
  by_plan (Some p) h = by_cause r.cause p h

  not_new : (b : Bool) → (b ≡ true → ⊥) → Fits language s c r (request_by r.page.plan language r) → Fits language s c r (if b then requesting.hello r else request_by r.page.plan language r)
  not_new true f h = absurd (f refl)
  not_new false f h = h

  -- the request that stands is answered as it should be
  pub fits : 1 ≤ r.client → Fits language s c r (requesting.request language r)
  fits counted = not_new (r.client == 0) (λ h. omega (arith, counted, eqb-true r.client 0 h)) (by_plan r.page.plan refl)
