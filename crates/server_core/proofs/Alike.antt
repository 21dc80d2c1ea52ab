-- What is read of the sources by look-up alone is the same where the look-ups are: what a request makes of
-- a client, its reply, and what is kept of a client.
use Rattle.std.proofs.Common.{◌≡◌, ℕ, Bool, List, [], ◌∷◌, ◌++◌, refl, ap, sym, ◌∙◌}
use Rattle.std.specs.Prelude.{cond, map, filter, Option, Some, None}
use Rattle.core_model.specs.Names.{Name, at, names_of, sorted}
use Rattle.core_model.specs.Sources.{Sources}
use Rattle.core_model.specs.Page.{Plan}
use Rattle.core_model.specs.View.{View, differs, changed_of}
use Rattle.core_model.specs.FreshLoad.{Served, version_in}
use Rattle.core_model.specs.Spread.{reason_of, replaced_of, pairs_of, cause_of}
use Rattle.core_model.specs.Client.{Client, same_number, is_held, changed, dropped, triggered, first_notice}
use Rattle.core_model.specs.Asking.{AskRow, out_of_turn, tell, load, idle, prune, reload, update, row_plan, row_notice, row_loaded, row_dropped, row_held, row_reason, row_replaced, ask_row, asked, js_update, number_or_zero}
use Rattle.core_model.specs.Requests.{Request, ask, fetch, applied_as, aborted, invalidate, to_client, answer_ask, ask_reply, heard, fetched_in, fetched, fetch_row, fetch_reply, row_served}
use Rattle.update_msgs.specs.declared.message.ServerMsg.TheVariants as msg
use Rattle.version_map.specs.Standing.{Matches}
use Rattle.version_map.proofs.Alike.{same_filtered}
use Rattle.client_records.specs.Record as client
use Rattle.client_records.specs.Record.{IsRecord}

same_changed : (s t : Served) (view : View) → ((n : Name) → at s n ≡ at t n) → changed_of s view ≡ changed_of t view
same_changed s t view e = same_filtered (λ n. differs (at view n) (at s n)) (λ n. differs (at view n) (at t n)) (names_of view) (λ n. ap (differs (at view n)) (e n))

same_updates : (s t : Sources) → ((n : Name) → at s.served n ≡ at t.served n) → (ps : List (Name × Name)) → map (js_update s) ps ≡ map (js_update t) ps
same_updates s t e [] = refl
same_updates s t e (p ∷ ps) = ap (λ u. u ∷ map (js_update s) ps) (ap (λ o. record { path = p.0; accepted_path = p.1; timestamp = number_or_zero (version_in o) }) (e p.1)) ∙ ap (λ l. js_update t p ∷ l) (same_updates s t e ps)

-- the row of an Ask, by whether the client is held and by what changed
abbrev row_by : Client → Bool → List Name → AskRow
row_by c held changed =
    row_plan c.page.plan
    (row_notice (first_notice c)
    (row_loaded c.page.loaded held
    (row_dropped (dropped c)
    (row_held held
    (row_reason (reason_of c.page.view c.roots changed c.page.forced)
    (row_replaced (replaced_of c.page.view changed c.page.forced) (pairs_of c.page.view (replaced_of c.page.view changed c.page.forced) c.page.forced)))))))

module _ (s t : Sources) (m : Matches s t) where
  served_same : (n : Name) → at t.served n ≡ at s.served n
  served_same = m.served

  held_same : (c : Client) → is_held t c ≡ is_held s c
  held_same c = ap (same_number c.held_at) m.served_no

  changed_same : (c : Client) → changed t c ≡ changed s c
  changed_same c = same_changed t.served s.served c.page.view m.served

  row_same : (c : Client) → ask_row t c ≡ ask_row s c
  row_same c = ap (λ b. row_by c b (changed t c)) (held_same c) ∙ ap (row_by c (is_held s c)) (changed_same c)

  asked_same : (row : AskRow) (c : Client) → asked row t c ≡ asked row s c
  asked_same out_of_turn c = refl
  asked_same (tell n fault) c = refl
  asked_same load c = ap (λ k. asked load (record s { served_no = k }) c) m.served_no
  asked_same idle c = refl
  asked_same (prune ns) c = refl
  asked_same (reload path) c = ap (λ k. asked (reload path) (record s { served_no = k }) c) m.served_no
  asked_same (update ns ps) c = ap (λ k. asked (update ns ps) (record s { served_no = k }) c) m.served_no

  triggered_same : (c : Client) → triggered t c ≡ triggered s c
  triggered_same c = ap (λ ns. sorted (ns ++ c.page.forced)) (changed_same c)

  reply_same : (i : ℕ) (c : Client) (row : AskRow) → ask_reply i t c row ≡ ask_reply i s c row
  reply_same i c out_of_turn = refl
  reply_same i c (tell n fault) = refl
  reply_same i c load = refl
  reply_same i c idle = refl
  reply_same i c (prune ns) = refl
  reply_same i c (reload path) = ap (λ ns. to_client (msg.FullReload (cause_of c.page.view path) path c.batches ns)) (triggered_same c)
  reply_same i c (update ns ps) = ap (λ us. to_client (msg.Update ns us c.batches (triggered t c))) (same_updates t s m.served ps) ∙ ap (λ l. to_client (msg.Update ns (map (js_update s) ps) c.batches l)) (triggered_same c)

  answer_same : (i : ℕ) (c : Client) (row : AskRow) → answer_ask i t row c ≡ answer_ask i s row c
  answer_same i c row = ap (λ k. (k, ask_reply i t k row)) (asked_same row c) ∙ ap (λ r. (asked row s c, r)) (reply_same i (asked row s c) row)

  fetch_row_same : (n : Name) → fetch_row t n ≡ fetch_row s n
  fetch_row_same n = ap (λ o. row_served o (at t.current n)) (m.served n) ∙ ap (row_served (at s.served n)) (m.source n)

  fetched_same : (plan : Option Plan) (n : Name) (c : Client) → fetched_in plan t n c ≡ fetched_in plan s n c
  fetched_same None n c = refl
  fetched_same (Some p) n c = ap (λ row. (fetched row p n c, fetch_reply row n)) (fetch_row_same n)

  -- a request is heard the same
  pub heard_same : (i : ℕ) (c : Client) (r : Request) → heard i t c r ≡ heard i s c r
  heard_same i c ask = ap (λ row. answer_ask i t row c) (row_same c) ∙ answer_same i c (ask_row s c)
  heard_same i c (fetch n) = fetched_same c.page.plan n c
  heard_same i c (applied_as table) = refl
  heard_same i c aborted = refl
  heard_same i c (invalidate n v) = refl

-- what is kept of a client goes by what is served
pub record_same : (s t : Sources) → ((n : Name) → at t.served n ≡ at s.served n) → (c : Client) (k : client.Kept) → IsRecord s c k → IsRecord t c k
record_same s t e c k r = record { roots = r.roots; batches = r.batches; loaded = r.loaded; view = r.view; forced = r.forced; plan = r.plan; plan_at = r.plan_at; held = r.held; notices = r.notices; dropped = r.dropped; marks = λ n. r.marks n ∙ ap (differs (at c.page.view n)) (sym (e n)) }
