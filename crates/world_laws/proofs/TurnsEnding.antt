-- Every step keeps what holds of the plans and of the causes to give them up.
use Rattle.std.proofs.Common.{◌≡◌, inl, inr, ℕ, ◌+◌, ◌≤◌, ◌<◌, Bool, true, false, List, [], ◌∷◌, refl, ap, sym, ◌∙◌, arith}
use Rattle.std.specs.Prelude.{find, map, ◌==◌, Option, Some, None, is_some, option_map, if◌then◌else◌, IfSome}
use Prim.{⊥}
use Rattle.std.proofs.Math.Path.{subst}
use Rattle.std.proofs.lemmas.Bool.{false≢true, eqb-true}
use Rattle.std.proofs.lemmas.Option.{IfSome_then}
use Rattle.hmr_types.specs.declared.analysis.Analysis.{Analysis}
use Rattle.hmr_types.specs.declared.analysis.TextFault.{TextFault}
use Rattle.hmr_types.specs.declared.analysis.Outcome.{Outcome}
use Rattle.hmr_types.specs.declared.analysis.Outcome.TheVariants.{Good}
use Rattle.output_lines.specs.declared.out_line.OutLine.{OutLine}
use Rattle.update_msgs.specs.declared.message.ClientMsg.{ClientMsg}
use Rattle.update_msgs.specs.declared.message.ClientMsg.TheVariants as told
use Rattle.core_model.specs.Names.{Name, same_name, at, with_row}
use Rattle.core_model.specs.Sources.{Text, Sources, Source, Serving, Verdict, outstanding, good, bad, Change, edit, result, EditAnswer, job, same, removed, ResultAnswer, serve, refuse, late, edit_answer, result_answer, changed_by}
use Rattle.core_model.specs.Sources as sources
use Rattle.core_model.specs.View.{View, table_of}
use Rattle.core_model.specs.Page.{Page, Plan, new_view}
use Rattle.core_model.specs.Client.{Client, new_client, triggered, same_number, told_of_edit, told_of_result}
use Rattle.core_model.specs.Asking.{AskRow, out_of_turn, tell, load, idle, prune, reload, update, ask_row, asked, js_update}
use Rattle.core_model.specs.Requests.{FetchRow, text, row_verdict, row_source, row_served, fetch_row, fetched, fetch_reply, AppliedRow, unfetched, mismatch, done, applied_row, after_applied, applied_reply, ask_reply, is_at_version, invalidated, invalidate_reply}
use Rattle.core_model.specs.Core.{Core, client_at, with_client, without_client, told_of, after_change, is_full, if_room, connected, disconnected, core_after, changes_of}
use Rattle.core_model.proofs.Naming.{same_true}
use Rattle.core_model.proofs.Tables.{at_with_row}
use Rattle.core_model.proofs.Clients.{at_with, at_without, at_each}
use Rattle.core_model.proofs.Loading.{reached_is}
use Rattle.core_model.proofs.Replaying.{change_stays}
use Rattle.core_laws.specs.Given.{analysis_given, entry_of, IsGiven}
use Rattle.core_laws.specs.Facts.{PlanIsServed, IsAtMost, ClientFacts}
use Rattle.core_laws.proofs.Events.{IsLater, changed_later, client_facts, served_given}
use Rattle.client_model.specs.Language.{Language, Bag, BindsImports}
use Rattle.client_model.specs.Instance.{Instance}
use Rattle.client_model.specs.Runtime as causes
use Rattle.client_model.specs.Runtime.{Runtime, Cause, Invalidation, Did, for_each, write}
use Rattle.client_model.specs.Linking.{next_needed, link_cause}
use Rattle.client_model.specs.Requesting.{ask_or_invalidate, abort_message, apply_or_abort, fetch_or_finish, carry_on, request_by}
use Rattle.client_model.specs.Answering.{start_reload, start_update, stage, accept_line, pair_of}
use Rattle.client_model.specs.Firing.{fire}
use Rattle.core_model.specs.Exchange.{batch_in, names_in}
use Rattle.core_model.specs.Roots.{are_bad, roots_or}
use Rattle.core_model.specs.Spread.{cause_of}
use Rattle.hmr_types.specs.declared.words.ReloadCause.{ReloadCause}
use Rattle.hmr_types.specs.declared.value.Value.{Value}
use Rattle.output_lines.specs.declared.out_line.OutLine.TheVariants as line
use Rattle.world_model.proofs.Fitting.{after_batch}
use Rattle.world_laws.proofs.Firings.{fire_by}
use Rattle.client_model.proofs.Acts.{IsKept, kept_pruning, kept_hear, by_make}
use Rattle.world_model.specs.World.{World, Job, Step, edits, settles, opens, turn, closes, show, values, fates, fresh, fresh_of, fires}
use Rattle.world_model.specs.Editing.{is_job, settle_job}
use Rattle.world_model.specs.Turning.{turn_of, open_by, close_of, shown, fire_of}
use Rattle.world_model.specs.Steps.{world_step, world_after}
use Rattle.world_model.specs.Ties.{IsTied, TiedAt, IsServedRight, AreServedRight, WentOn}
use Rattle.world_model.proofs.Tying.{IsSound, change_roots, run_sound}
use Rattle.world_laws.specs.Quiet.{IsServedWhole, IsMissing, CauseIs, IsServedText, IsCurrent, IsIdle, IsBusy, IsIdleOrBusy, EndsAt, Ends, IsOpen, EachClient}
use Rattle.world_laws.proofs.Freshness.{IsMade, core_made}
use Rattle.world_laws.proofs.TurnsServed.{met_reached, needed_is, cause_counts, none_to_link}
use Rattle.world_laws.proofs.TurnsTaken.{heard_by, done_by, Turned, turned}

-- What stays.

record CauseStays (r : Runtime) (did : Did) : Type 0 where
  cause : did.0.cause ≡ r.cause

cause_kept : IsKept CauseStays
cause_kept = record {
  nothing = λ r. record { cause = refl };
  after = λ r did next h k. record { cause = k.cause ∙ h.cause };
  run = λ place i spot h left r. record { cause = refl };
  drop = λ test k r. record { cause = refl };
  end = λ fate k m r. record { cause = refl };
  give_up = λ m r. record { cause = refl };
  give_up_all = λ r. record { cause = refl };
  made = λ language b r. by_make (CauseStays r) language b r (record { cause = refl }) (record { cause = refl });
  wrote = λ l r. record { cause = refl };
}

-- lines that are written leave the client as it was
pub lines_leave : {X : Type 0} → (l : X → Runtime → OutLine) (xs : List X) (r : Runtime) → (for_each (λ x k. write (l x k) k) xs r).0 ≡ r
lines_leave l [] r = refl
lines_leave l (x ∷ xs) r = lines_leave l xs r

-- A turn of one client.

module _ (language : Language) (s : Sources) (right : AreServedRight language s.served) (format : ℕ) (named : List Name) (i : ℕ) (roots : List Name) (batches : ℕ) (loaded : Bool) (view : View) (forced : List Name) (texts : List (Name × Text)) (pairs : List (Name × Name)) (instances : List Instance) (bags : List (Name × Bag)) (shelf : List (Text × ℕ)) (stopped : Bool) (plan_at : ℕ) (held_at : Option ℕ) (notices : List (Name × TextFault)) where
  abbrev page : Option Plan → Page
  page plan = record { loaded = loaded; view = view; forced = forced; plan = plan }

  abbrev rt : Option Plan → Option Cause → List Invalidation → Runtime
  rt plan cause unsent = record { format = format; named = named; client = i; roots = roots; page = page plan; texts = texts; pairs = pairs; cause = cause; instances = instances; bags = bags; unsent = unsent; shelf = shelf; stopped = stopped }

  abbrev cl : Option Plan → Client
  cl plan = record { roots = roots; batches = batches; page = page plan; plan_at = plan_at; held_at = held_at; notices = notices }

  -- what holds once this is told and answered
  abbrev After : Option Plan → Option Cause → List Invalidation → ClientMsg → Type 0
  After plan cause unsent asked = IsIdleOrBusy (heard_by asked i s (cl plan)).0.page.plan language s (heard_by asked i s (cl plan)).0 (done_by language asked (heard_by asked i s (cl plan)).1 (rt plan cause unsent))

  ask_ends : (cause : Option Cause) (row : AskRow) → IsIdle language s (cl None) (rt None cause []) → IsIdleOrBusy (asked row s (cl None)).page.plan language s (asked row s (cl None)) (done_by language told.Ask (ask_reply i s (asked row s (cl None)) row) (rt None cause []))
  ask_ends cause out_of_turn h = h
  ask_ends cause (tell n fault) h = record { causeless = h.causeless; held = h.held }
  ask_ends cause load h = record { sent = refl; current = λ e. record { cause = tt; texts = λ n. tt } }
  ask_ends cause idle h = h
  ask_ends cause (prune ns) h = record { causeless = (kept_pruning CauseStays cause_kept language ns (rt None cause [])).cause ∙ h.causeless; held = h.held }
  ask_ends cause (reload path) h =
      let c : Client = asked (reload path) s (cl None) in
      let r : Runtime = rt None cause [] in
      let why : ReloadCause = cause_of c.page.view path in
      record { sent = after_batch (batch_in format c.batches) (names_in format (triggered s c)) r (start_reload (line.Reload r.client why path)) (λ t. t.unsent ≡ []) refl; current = λ e. record { cause = tt; texts = λ n. tt } }
  ask_ends cause (update ns ps) h =
      let c : Client = asked (update ns ps) s (cl None) in
      let r : Runtime = rt None cause [] in
      let told_pairs : List (Name × Name) = map pair_of (map (js_update s) ps) in
      record {
        sent = after_batch (batch_in format c.batches) (names_in format (triggered s c)) r (start_update ns told_pairs) (λ t. t.unsent ≡ []) (ap (λ (r : Runtime). r.unsent) (lines_leave (λ pair r. accept_line r.client pair) told_pairs r));
        current = λ e. record { cause = tt; texts = λ n. tt };
      }

  invalidate_ends : (cause : Option Cause) (n : Name) (v : ℕ) (message : Text) (more : List Invalidation) (there : Bool) → IsIdle language s (cl None) (rt None cause (record { name = n; version = v; message = message } ∷ more)) → IsIdleOrBusy (invalidated there n (cl None)).page.plan language s (invalidated there n (cl None)) (done_by language (told.Invalidate n v message) (invalidate_reply there) (rt None cause (record { name = n; version = v; message = message } ∷ more)))
  invalidate_ends cause n v message more true h = record { causeless = h.causeless; held = λ binds held. absurd (false≢true held) }
  invalidate_ends cause n v message more false h = record { causeless = h.causeless; held = h.held }

  by_unsent : (cause : Option Cause) (unsent : List Invalidation) → IsIdle language s (cl None) (rt None cause unsent) → After None cause unsent (ask_or_invalidate unsent)
  by_unsent cause [] h = ask_ends cause (ask_row s (cl None)) h
  by_unsent cause (k ∷ more) h = invalidate_ends cause k.name k.version k.message more (is_at_version (at view k.name) k.version) h

  -- a plan is given up
  abort_ends : (p : Plan) (found : Option Cause) (cause : Cause) (unsent : List Invalidation) → (BindsImports language → plan_at ≡ s.served_no → IsServedWhole language roots s → ⊥) → After (Some p) found unsent (abort_message cause)
  abort_ends p found (causes.missing n) unsent h = record { causeless = refl; held = λ binds held. h binds (eqb-true plan_at s.served_no held) }
  abort_ends p found (causes.broken n) unsent h = record { causeless = refl; held = λ binds held. h binds (eqb-true plan_at s.served_no held) }
  abort_ends p found (causes.unlinked n m x) unsent h = record { causeless = refl; held = λ binds held. h binds (eqb-true plan_at s.served_no held) }

  abbrev Current : Plan → Type 0
  Current p = plan_at ≡ s.served_no → PlanIsServed (Some p) view s.served

  -- a fetch
  needed_missing : (p : Plan) (n : Name) → Current p → next_needed p (rt (Some p) None []) ≡ Some n → at s.served n ≡ None → plan_at ≡ s.served_no → IsMissing roots s.served n
  needed_missing p n current e g now = record { reached = (reached_is s.served roots n).1 (met_reached roots p view s.served (current now) n (needed_is p (rt (Some p) None []) n e).1); unserved = g }

  text_if : (b : Bool) (t : Text) (o : Option Text) (v : Option Serving) → (b ≡ true → IsServedText (Some t) v) → IsServedText o v → IsServedText (if b then Some t else o) v
  text_if true t o v h g = h refl
  text_if false t o v h g = g

  text_served : (n : Name) (v : Serving) → at s.served n ≡ Some v → ((m : Name) → IsServedText (at texts m) (at s.served m)) → (m : Name) → IsServedText (at (with_row n v.text texts) m) (at s.served m)
  text_served n v e h m = subst (λ o. IsServedText o (at s.served m)) (sym (at_with_row n v.text texts m))
      (text_if (same_name n m) v.text (at texts m) (at s.served m) (λ t. subst (IsServedText (Some v.text)) (sym (ap (at s.served) (sym (same_true n m t)) ∙ e)) refl) (h m))

  fetch_ends : (p : Plan) (unsent : List Invalidation) (n : Name) (o : Option Serving) (row : FetchRow) → at s.served n ≡ o → row ≡ row_served o (at s.current n) → Current p → next_needed p (rt (Some p) None []) ≡ Some n → IsBusy s (cl (Some p)) (rt (Some p) None unsent) → IsIdleOrBusy (fetched row p n (cl (Some p))).page.plan language s (fetched row p n (cl (Some p))) (done_by language (told.Fetch n) (fetch_reply row n) (rt (Some p) None unsent))
  fetch_ends p unsent n o row e is current needed h = subst (λ w. IsIdleOrBusy (fetched w p n (cl (Some p))).page.plan language s (fetched w p n (cl (Some p))) (done_by language (told.Fetch n) (fetch_reply w n) (rt (Some p) None unsent))) (sym is) (by_served o e (at s.current n))
    where
      by_outcome : (v : Serving) (outcome : Outcome) → outcome ≡ Good v.analysis → at s.served n ≡ Some v → IsBusy s (fetched (text v) p n (cl (Some p))) (stage outcome p n v.version v.text (rt (Some p) None unsent)).0
      by_outcome v outcome g e = subst (λ k. IsBusy s (fetched (text v) p n (cl (Some p))) (stage k p n v.version v.text (rt (Some p) None unsent)).0) (sym g)
          (record { sent = h.sent; current = λ now. record { cause = tt; texts = text_served n v e (h.current now).texts } })

      found : (cause : Cause) → (IsMissing roots s.served n → CauseIs roots s.served (Some cause)) → at s.served n ≡ None → IsBusy s (cl (Some p)) (rt (Some p) (Some cause) unsent)
      found cause f e = record { sent = h.sent; current = λ now. record { cause = f (needed_missing p n current needed e now); texts = (h.current now).texts } }

      by_verdict : (verdict : Verdict) → at s.served n ≡ None → IsIdleOrBusy (fetched (row_verdict verdict) p n (cl (Some p))).page.plan language s (fetched (row_verdict verdict) p n (cl (Some p))) (done_by language (told.Fetch n) (fetch_reply (row_verdict verdict) n) (rt (Some p) None unsent))
      by_verdict outstanding e = h
      by_verdict good e = found (causes.missing n) (λ m. m) e
      by_verdict (bad fault) e = found (causes.broken n) (λ m. m) e

      by_source : (source : Option Source) → at s.served n ≡ None → IsIdleOrBusy (fetched (row_source source) p n (cl (Some p))).page.plan language s (fetched (row_source source) p n (cl (Some p))) (done_by language (told.Fetch n) (fetch_reply (row_source source) n) (rt (Some p) None unsent))
      by_source None e = found (causes.missing n) (λ m. m) e
      by_source (Some source) e = by_verdict source.verdict e

      by_served : (o : Option Serving) → at s.served n ≡ o → (source : Option Source) → IsIdleOrBusy (fetched (row_served o source) p n (cl (Some p))).page.plan language s (fetched (row_served o source) p n (cl (Some p))) (done_by language (told.Fetch n) (fetch_reply (row_served o source) n) (rt (Some p) None unsent))
      by_served None e source = by_source source e
      by_served (Some v) e source = by_outcome v (language.transformed n v.text) (right_at (at s.served n) e (right n)) e
        where
          right_at : (o : Option Serving) → o ≡ Some v → IsServedRight language n o → language.transformed n v.text ≡ Good v.analysis
          right_at o g k = subst (IsServedRight language n) g k

  applied_ends : (p : Plan) (unsent : List Invalidation) (table : List (Name × ℕ)) (row : AppliedRow) → IsBusy s (cl (Some p)) (rt (Some p) None unsent) → IsIdleOrBusy (after_applied row p (cl (Some p))).page.plan language s (after_applied row p (cl (Some p))) (done_by language (told.Applied table) (applied_reply row) (rt (Some p) None unsent))
  applied_ends p unsent table (unfetched n) h = h
  applied_ends p unsent table (mismatch n a b) h = h
  applied_ends p unsent table done h = record { causeless = refl; held = λ binds held. absurd (false≢true held) }

  by_link : (p : Plan) (unsent : List Invalidation) → Current p → next_needed p (rt (Some p) None []) ≡ None → (found : Option Cause) → link_cause language p (rt (Some p) None unsent) ≡ found → IsBusy s (cl (Some p)) (rt (Some p) None unsent) → After (Some p) None unsent (apply_or_abort found p (rt (Some p) None unsent))
  by_link p unsent current needed None e h = applied_ends p unsent (table_of (new_view roots p view)) (applied_row roots p view (table_of (new_view roots p view))) h
  by_link p unsent current needed (Some k) e h = abort_ends p None k unsent (λ binds now whole. absurd (false≢true (ap is_some (sym (none_to_link language s p (rt (Some p) None unsent) right binds whole (current now) (h.current now).texts needed) ∙ e))))

  by_needed : (p : Plan) (unsent : List Invalidation) → Current p → (o : Option Name) → next_needed p (rt (Some p) None []) ≡ o → IsBusy s (cl (Some p)) (rt (Some p) None unsent) → After (Some p) None unsent (fetch_or_finish o (link_cause language p (rt (Some p) None unsent)) p (rt (Some p) None unsent))
  by_needed p unsent current (Some n) e h = fetch_ends p unsent n (at s.served n) (fetch_row s n) refl refl current e h
  by_needed p unsent current None e h = by_link p unsent current e (link_cause language p (rt (Some p) None unsent)) refl h

  by_found : (p : Plan) (cause : Option Cause) (unsent : List Invalidation) → Current p → IsBusy s (cl (Some p)) (rt (Some p) cause unsent) → After (Some p) cause unsent (carry_on cause language p (rt (Some p) cause unsent))
  by_found p None unsent current h = by_needed p unsent current (next_needed p (rt (Some p) None [])) refl h
  by_found p (Some k) unsent current h = abort_ends p (Some k) k unsent (λ binds now whole. cause_counts language roots s k (h.current now).cause whole)

  by_plan : (plan : Option Plan) (cause : Option Cause) (unsent : List Invalidation) → (plan_at ≡ s.served_no → PlanIsServed plan view s.served) → IsIdleOrBusy plan language s (cl plan) (rt plan cause unsent) → After plan cause unsent (request_by plan language (rt plan cause unsent))
  by_plan None cause unsent current h = by_unsent cause unsent h
  by_plan (Some p) cause unsent current h = by_found p cause unsent current h

abbrev TurnKeeps : Language → ℕ → Sources → Client → Runtime → Type 0
TurnKeeps language i s c r =
    (c.plan_at ≡ s.served_no → PlanIsServed c.page.plan c.page.view s.served) → IsIdleOrBusy c.page.plan language s c r
    → IsIdleOrBusy (heard_by (request_by r.page.plan language r) i s c).0.page.plan language s (heard_by (request_by r.page.plan language r) i s c).0 (done_by language (request_by r.page.plan language r) (heard_by (request_by r.page.plan language r) i s c).1 r)

turn_keeps : (language : Language) (i : ℕ) (s : Sources) (c : Client) (r : Runtime) → AreServedRight language s.served → IsTied i c r → TurnKeeps language i s c r
turn_keeps language i s c r right tie =
    subst (λ k. TurnKeeps language k s c r) tie.number
    (subst (λ x. TurnKeeps language r.client s (record c { roots = x }) r) tie.roots_are
    (subst (λ (x : Page). TurnKeeps language r.client s (record c { roots = r.roots; page = x }) r) tie.page
    (by_plan language s right r.format r.named r.client r.roots c.batches r.page.loaded r.page.view r.page.forced r.texts r.pairs r.instances r.bags r.shelf r.stopped c.plan_at c.held_at c.notices r.page.plan r.cause r.unsent)))

-- What the core's laws say of a record.

pub record HasFacts (s : Sources) (c : Client) : Type 0 where
  pub by : Name → ℕ → Option Analysis
  pub all_given : (n : Name) → IsGiven (by n) (entry_of (at s.served n))
  pub facts : ClientFacts by s c

abbrev pub HaveFacts : Core → Type 0
HaveFacts core = (i : ℕ) → IfSome (client_at core.clients i) (HasFacts core.sources)

pub facts_of : (roots : List Name) (core : Core) → IsMade roots core → HaveFacts core
facts_of roots core h i = subst (λ k. IfSome (client_at k.clients i) (HasFacts k.sources)) (sym h.made)
    (IfSome_then (client_at (core_after roots h.events).clients i) (client_facts roots h.events i) (λ client facts. record { by = analysis_given (changes_of h.events); all_given = served_given roots h.events; facts = facts }))

-- Edits and results.

same_numbers : (j k : Option ℕ) (n m : ℕ) → j ≡ k → n ≡ m → same_number j n ≡ same_number k m
same_numbers j k n m e g = ap (λ o. same_number o n) e ∙ ap (same_number k) g

not_held : (o : Option ℕ) (k m : ℕ) → IsAtMost o k → k < m → same_number o m ≡ true → ⊥
not_held None k m l g e = false≢true e
not_held (Some j) k m l g e = omega (arith, l, g, eqb-true j m e)

later_ends : (language : Language) (s t : Sources) (c d : Client) (r : Runtime) (plan : Option Plan) → IsLater s t → d.roots ≡ c.roots → d.plan_at ≡ c.plan_at → d.held_at ≡ c.held_at → c.plan_at ≤ s.served_no → IsAtMost c.held_at s.served_no → IsIdleOrBusy plan language s c r → IsIdleOrBusy plan language t d r
later_ends language s t c d r None (inl e) roots_same at_same held_same low lows h = record {
  causeless = h.causeless;
  held = λ binds held whole. h.held binds (same_numbers c.held_at d.held_at s.served_no t.served_no (sym held_same) (sym e.1) ∙ held) (subst (λ roots. IsServedWhole language roots s) roots_same (subst (λ served. IsServedWhole language d.roots (record s { served = served })) e.0 whole));
}
later_ends language s t c d r None (inr g) roots_same at_same held_same low lows h = record {
  causeless = h.causeless;
  held = λ binds held whole. not_held c.held_at s.served_no t.served_no lows g (ap (λ o. same_number o t.served_no) (sym held_same) ∙ held);
}
later_ends language s t c d r (Some p) (inl e) roots_same at_same held_same low lows h = record {
  sent = h.sent;
  current = λ now. subst (λ roots. IsCurrent roots t.served r) (sym roots_same) (subst (λ served. IsCurrent c.roots served r) (sym e.0) (h.current (sym at_same ∙ now ∙ e.1)));
}
later_ends language s t c d r (Some p) (inr g) roots_same at_same held_same low lows h = record {
  sent = h.sent;
  current = λ now. absurd (omega (arith, g, low, at_same, now));
}

edit_times : (answer : EditAnswer) (n : Name) (c : Client) → ((told_of_edit answer n c).plan_at ≡ c.plan_at) × ((told_of_edit answer n c).held_at ≡ c.held_at)
edit_times (job v) n c = (refl, refl)
edit_times same n c = (refl, refl)
edit_times (removed v) n c = (refl, refl)
edit_times (sources.edit_refused word) n c = (refl, refl)

result_times : (answer : ResultAnswer) (n : Name) (c : Client) → ((told_of_result answer n c).plan_at ≡ c.plan_at) × ((told_of_result answer n c).held_at ≡ c.held_at)
result_times (serve a) n c = (refl, refl)
result_times (refuse fault) n c = (refl, refl)
result_times late n c = (refl, refl)

told_times : (s : Sources) (ch : Change) (c : Client) → ((told_of s ch c).plan_at ≡ c.plan_at) × ((told_of s ch c).held_at ≡ c.held_at)
told_times s (edit n t) c = edit_times (edit_answer s n t) n c
told_times s (result n t o v) c = result_times (result_answer s n t o v) n c

told_ends : (language : Language) (s : Sources) (ch : Change) (c : Option Client) (r : Option Runtime) → IfSome c (HasFacts s) → EndsAt language s c r → EndsAt language (changed_by s ch) (option_map (told_of s ch) c) r
told_ends language s ch None r f h = tt
told_ends language s ch (Some c) None f h = tt
told_ends language s ch (Some c) (Some r) f h = subst (λ plan. IsIdleOrBusy plan language (changed_by s ch) (told_of s ch c) r) (sym (ap (λ (page : Page). page.plan) (change_stays s ch c)))
    (later_ends language s (changed_by s ch) c (told_of s ch c) r c.page.plan (changed_later s ch) (change_roots s ch c) (told_times s ch c).0 (told_times s ch c).1 f.facts.begun f.facts.held h)

change_ends : (language : Language) (core : Core) (clients : List (ℕ × Runtime)) (ch : Change) → HaveFacts core → ((i : ℕ) → EndsAt language core.sources (client_at core.clients i) (client_at clients i)) → (i : ℕ) → EndsAt language (changed_by core.sources ch) (client_at (after_change core ch).clients i) (client_at clients i)
change_ends language core clients ch f h i = subst (λ o. EndsAt language (changed_by core.sources ch) o (client_at clients i)) (sym (at_each (told_of core.sources ch) core.clients i)) (told_ends language core.sources ch (client_at core.clients i) (client_at clients i) (f i) (h i))

settled_ends : (language : Language) (roots : List Name) (n : Name) (v : ℕ) (w : World) (o : Option Job) → HaveFacts w.core → Ends language w → Ends language (settle_job language roots n v w o).world
settled_ends language roots n v w None f h = h
settled_ends language roots n v w (Some j) f h = change_ends language w.core w.clients (result n j.text (language.transformed n j.text) v) f h

-- Clients that come and go.

ends_with : (language : Language) (s : Sources) (b : Bool) (c : Client) (r : Runtime) (oc : Option Client) (or : Option Runtime) → IsIdleOrBusy c.page.plan language s c r → EndsAt language s oc or → EndsAt language s (if b then Some c else oc) (if b then Some r else or)
ends_with language s true c r oc or h k = h
ends_with language s false c r oc or h k = k

both_with : (language : Language) (s : Sources) (i : ℕ) (c : Client) (r : Runtime) (clients : List (ℕ × Client)) (runtimes : List (ℕ × Runtime)) → IsIdleOrBusy c.page.plan language s c r → ((j : ℕ) → EndsAt language s (client_at clients j) (client_at runtimes j)) → (j : ℕ) → EndsAt language s (client_at (with_client i c clients) j) (client_at (with_client i r runtimes) j)
both_with language s i c r clients runtimes h k j = subst (λ o. EndsAt language s o (client_at (with_client i r runtimes) j)) (sym (at_with i c clients j))
    (subst (λ o. EndsAt language s (if i == j then Some c else client_at clients j) o) (sym (at_with i r runtimes j)) (ends_with language s (i == j) c r (client_at clients j) (client_at runtimes j) h (k j)))

room_ends : (language : Language) (shelves : List (List (Text × ℕ))) (format : ℕ) (names roots : List Name) (w : World) (full : Bool) → Ends language w → Ends language (open_by language shelves format names w (if_room full roots w.core)).world
room_ends language shelves format names roots w true h = h
room_ends language shelves format names roots w false h = both_with language w.core.sources (w.core.given + 1) (new_client roots w.core.sources.served_no) _ w.core.clients w.clients (record { sent = refl; current = λ e. record { cause = tt; texts = λ n. tt } }) h

opened_ends : (language : Language) (shelves : List (List (Text × ℕ))) (format : ℕ) (names roots : List Name) (w : World) (bad : Bool) → Ends language w → Ends language (open_by language shelves format names w (connected bad roots w.core)).world
opened_ends language shelves format names roots w true h = h
opened_ends language shelves format names roots w false h = room_ends language shelves format names roots w (is_full w.core) h

ends_gone : (language : Language) (s : Sources) (b : Bool) (oc : Option Client) (or : Option Runtime) → EndsAt language s oc or → EndsAt language s oc (if b then None else or)
ends_gone language s true None or h = tt
ends_gone language s true (Some c) or h = tt
ends_gone language s false oc or h = h

ends_without : (language : Language) (s : Sources) (b : Bool) (oc : Option Client) (or : Option Runtime) → EndsAt language s oc or → EndsAt language s (if b then None else oc) (if b then None else or)
ends_without language s true oc or h = tt
ends_without language s false oc or h = h

closed_core : (language : Language) (i : ℕ) (w : World) (o : Option Client) → Ends language w → Ends language (record w { core = (disconnected o i w.core).0; clients = without_client i w.clients })
closed_core language i w None h j = subst (λ o. EndsAt language w.core.sources (client_at w.core.clients j) o) (sym (at_without i w.clients j)) (ends_gone language w.core.sources (i == j) (client_at w.core.clients j) (client_at w.clients j) (h j))
closed_core language i w (Some c) h j = subst (λ o. EndsAt language w.core.sources o (client_at (without_client i w.clients) j)) (sym (at_without i w.core.clients j))
    (subst (λ o. EndsAt language w.core.sources (if i == j then None else client_at w.core.clients j) o) (sym (at_without i w.clients j)) (ends_without language w.core.sources (i == j) (client_at w.core.clients j) (client_at w.clients j) (h j)))

closed_ends : (language : Language) (roots : List Name) (i : ℕ) (w : World) (o : Option Runtime) → Ends language w → Ends language (close_of roots i w o).world
closed_ends language roots i w None h = h
closed_ends language roots i w (Some r) h = closed_core language i w (client_at w.core.clients i) h

shown_ends : (language : Language) (i : ℕ) (w : World) (lines : Runtime → List OutLine) (o : Option Runtime) → Ends language w → Ends language (shown i w lines o).world
shown_ends language i w lines None h = h
shown_ends language i w lines (Some r) h = h

-- Turns.

turn_by : (language : Language) (w after : World) (i : ℕ) (c : Client) (r : Runtime) → Turned language w after i c r → IsTied i c r → AreServedRight language w.core.sources.served → HasFacts w.core.sources c → IsIdleOrBusy c.page.plan language w.core.sources c r → Ends language w → Ends language after
turn_by language w after i c r t tie right f own h j =
    subst (λ s. EndsAt language s (client_at after.core.clients j) (client_at after.clients j)) (sym t.sources)
    (subst (λ o. EndsAt language w.core.sources o (client_at after.clients j)) (sym (t.clients j))
    (subst (λ o. EndsAt language w.core.sources (if i == j then Some (heard_by (request_by r.page.plan language r) i w.core.sources c).0 else client_at w.core.clients j) o) (sym (t.runtimes j))
    (ends_with language w.core.sources (i == j) _ _ (client_at w.core.clients j) (client_at w.clients j) (turn_keeps language i w.core.sources c r right tie f.facts.current own) (h j))))

turned_record : (language : Language) (roots : List Name) (w : World) (i : ℕ) (r : Runtime) (o : Option Client) → client_at w.core.clients i ≡ o → client_at w.clients i ≡ Some r → TiedAt i o (Some r) → IfSome o (HasFacts w.core.sources) → EndsAt language w.core.sources o (Some r) → IsSound language w → Ends language w → is_some (turn_of language roots i w (Some r)).lines ≡ true → Ends language (turn_of language roots i w (Some r)).world
turned_record language roots w i r None there open_is tie f own sound h some = absurd tie
turned_record language roots w i r (Some c) there open_is tie f own sound h some = turn_by language w (turn_of language roots i w (Some r)).world i c r (turned language roots w i c r sound there open_is (subst (λ k. 1 ≤ k) (sym tie.number) tie.counted) some) tie sound.served f own h

turned_ends : (language : Language) (roots : List Name) (w : World) (i : ℕ) (o : Option Runtime) → client_at w.clients i ≡ o → IsSound language w → HaveFacts w.core → Ends language w → is_some (turn_of language roots i w o).lines ≡ true → Ends language (turn_of language roots i w o).world
turned_ends language roots w i None e sound f h some = h
turned_ends language roots w i (Some r) e sound f h some = turned_record language roots w i r (client_at w.core.clients i) refl e (subst (TiedAt i (client_at w.core.clients i)) e (sound.tied i)) (f i) (subst (EndsAt language w.core.sources (client_at w.core.clients i)) e (h i)) sound h some

-- An event that is fired.

fire_ends : (language : Language) (s : Sources) (i : ℕ) (n : Name) (value : Value) (c : Client) (r : Runtime) (plan : Option Plan) → r.page.plan ≡ plan → IsIdleOrBusy plan language s c r → IsIdleOrBusy plan language s c (fire language n value r).after
fire_ends language s i n value c r None e h =
    fire_by language r n value (λ did. IsIdleOrBusy None language s c did.0) h
    (λ loaded none. record { causeless = (kept_hear CauseStays cause_kept language n value r).cause ∙ h.causeless; held = h.held })
fire_ends language s i n value c r (Some p) e h =
    fire_by language r n value (λ did. IsIdleOrBusy (Some p) language s c did.0) h
    (λ loaded none. absurd (false≢true (sym (ap is_some none) ∙ ap is_some e)))

fire_ends_at : (language : Language) (s : Sources) (i : ℕ) (n : Name) (value : Value) (r : Runtime) (o : Option Client) → TiedAt i o (Some r) → EndsAt language s o (Some r) → EndsAt language s o (Some (fire language n value r).after)
fire_ends_at language s i n value r None t h = h
fire_ends_at language s i n value r (Some c) t h = fire_ends language s i n value c r c.page.plan (ap (λ (page : Page). page.plan) t.page) h

ends_anew : (language : Language) (s : Sources) (i j : ℕ) (b : Bool) → (b ≡ true → i ≡ j) → (r : Runtime) (clients : List (ℕ × Client)) (or : Option Runtime) → EndsAt language s (client_at clients i) (Some r) → EndsAt language s (client_at clients j) or → EndsAt language s (client_at clients j) (if b then Some r else or)
ends_anew language s i j true e r clients or h k = subst (λ n. EndsAt language s (client_at clients n) (Some r)) (e refl) h
ends_anew language s i j false e r clients or h k = k

fired_ends : (language : Language) (i : ℕ) (n : Name) (value : Value) (w : World) (o : Option Runtime) → client_at w.clients i ≡ o → IsSound language w → Ends language w → Ends language (fire_of language i n value w o).world
fired_ends language i n value w None e sound h j = h j
fired_ends language i n value w (Some r) e sound h j =
    let s : Sources = w.core.sources in
    let after : Runtime = (fire language n value r).after in
    let own : EndsAt language s (client_at w.core.clients i) (Some after) = fire_ends_at language s i n value r (client_at w.core.clients i) (subst (TiedAt i (client_at w.core.clients i)) e (sound.tied i)) (subst (EndsAt language s (client_at w.core.clients i)) e (h i)) in
    subst (λ o. EndsAt language s (client_at w.core.clients j) o) (sym (at_with i after w.clients j)) (ends_anew language s i j (i == j) (eqb-true i j) after w.core.clients (client_at w.clients j) own (h j))

pub step_ends : (language : Language) (roots : List Name) (shelves : List (List (Text × ℕ))) (w : World) (s : Step) → IsSound language w → HaveFacts w.core → Ends language w → is_some (world_step language roots shelves w s).lines ≡ true → Ends language (world_step language roots shelves w s).world
step_ends language roots shelves w (edits n t) sound f h some = change_ends language w.core w.clients (edit n t) f h
step_ends language roots shelves w (settles n v) sound f h some = settled_ends language roots n v w (find (is_job n v) w.issued) f h
step_ends language roots shelves w (opens format names) sound f h some = opened_ends language shelves format names (roots_or names roots) w (are_bad names) h
step_ends language roots shelves w (turn i) sound f h some = turned_ends language roots w i (client_at w.clients i) refl sound f h some
step_ends language roots shelves w (closes i) sound f h some = closed_ends language roots i w (client_at w.clients i) h
step_ends language roots shelves w (show i) sound f h some = shown_ends language i w _ (client_at w.clients i) h
step_ends language roots shelves w (values i) sound f h some = shown_ends language i w _ (client_at w.clients i) h
step_ends language roots shelves w (fates i) sound f h some = shown_ends language i w _ (client_at w.clients i) h
step_ends language roots shelves w fresh sound f h some = h
step_ends language roots shelves w (fresh_of i) sound f h some = shown_ends language i w _ (client_at w.clients i) h
step_ends language roots shelves w (fires i n value) sound f h some = fired_ends language i n value w (client_at w.clients i) refl sound h

-- every run keeps it
pub run_ends : (language : Language) (roots : List Name) (shelves : List (List (Text × ℕ))) (past : List Step) → WentOn language roots shelves past → Ends language (world_after language roots shelves past)
run_ends language roots shelves [] h = λ i. tt
run_ends language roots shelves (s ∷ past) h = step_ends language roots shelves (world_after language roots shelves past) s (run_sound language roots shelves past h.1) (facts_of roots (world_after language roots shelves past).core (core_made language roots shelves past)) (run_ends language roots shelves past h.1) h.0

-- The same, of each client and fact by fact.

ends_of : (language : Language) (roots : List Name) (shelves : List (List (Text × ℕ))) (past : List Step) (i : ℕ) (c : Client) (r : Runtime) → WentOn language roots shelves past → IsOpen (world_after language roots shelves past) i c r → IsIdleOrBusy c.page.plan language (world_after language roots shelves past).core.sources c r
ends_of language roots shelves past i c r went is_open =
    let w : World = world_after language roots shelves past in
    subst (λ o. EndsAt language w.core.sources o (Some r)) is_open.connected (subst (EndsAt language w.core.sources (client_at w.core.clients i)) is_open.open_is (run_ends language roots shelves past went i))

busy_by : (plan : Option Plan) (language : Language) (roots : List Name) (s : Sources) (c : Client) (r : Runtime) → is_some plan ≡ true → IsIdleOrBusy plan language s c r → IsBusy s c r
busy_by None language roots s c r e h = absurd (false≢true e)
busy_by (Some p) language roots s c r e h = h

idle_by : (plan : Option Plan) (language : Language) (roots : List Name) (s : Sources) (c : Client) (r : Runtime) → is_some plan ≡ false → IsIdleOrBusy plan language s c r → IsIdle language s c r
idle_by None language roots s c r e h = h
idle_by (Some p) language roots s c r e h = absurd (false≢true (sym e))

pub busy : (language : Language) (roots : List Name) → EachClient language roots (λ s c r. is_some c.page.plan ≡ true → IsBusy s c r)
busy language roots shelves past i c r went is_open e = busy_by c.page.plan language roots (world_after language roots shelves past).core.sources c r e (ends_of language roots shelves past i c r went is_open)

pub at_rest : (language : Language) (roots : List Name) → EachClient language roots (λ s c r. is_some c.page.plan ≡ false → IsIdle language s c r)
at_rest language roots shelves past i c r went is_open e = idle_by c.page.plan language roots (world_after language roots shelves past).core.sources c r e (ends_of language roots shelves past i c r went is_open)
