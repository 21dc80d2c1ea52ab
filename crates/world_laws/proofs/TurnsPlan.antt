-- A turn with a plan under way lowers the debt: a fetch, an end, and a plan that is given up.
use Rattle.std.proofs.Common.{◌≡◌, ◌⊎◌, inl, inr, ℕ, ◌+◌, ◌<◌, ◌≤◌, Bool, true, false, List, [], ◌++◌, length, refl, ap, sym, ◌∙◌, arith}
use Rattle.std.specs.Prelude.{◌==◌, ◌&&◌, not, Option, Some, None, is_some, if◌then◌else◌}
use Rattle.std.specs.List.{list_all}
use Prim.{⊥}
use Rattle.std.proofs.Math.Path.{subst}
use Rattle.std.proofs.lemmas.Bool.{false≢true, eqb-true, eq-eqb}
use Rattle.hmr_types.specs.declared.analysis.TextFault.{TextFault}
use Rattle.hmr_types.specs.declared.analysis.Outcome.{Outcome}
use Rattle.hmr_types.specs.declared.analysis.Outcome.TheVariants.{Good}
use Rattle.hmr_types.specs.declared.words.PlanKind.{PlanKind}
use Rattle.hmr_types.specs.declared.words.PlanKind.TheVariants.{Load, Reload, Update}
use Rattle.update_msgs.specs.declared.message.ClientMsg.{ClientMsg}
use Rattle.update_msgs.specs.declared.message.ClientMsg.TheVariants as told
use Rattle.core_model.specs.Names.{Name, same_name, has, at, with_row, names_of}
use Rattle.core_model.specs.Paths.{Reaches}
use Rattle.core_model.specs.Sources.{Text, Sources, Source, Serving, Verdict, outstanding, good, bad}
use Rattle.core_model.specs.FreshLoad.{Served}
use Rattle.core_model.specs.View.{View, Entry, imports_of, imports, differs, changed_of, dropped_of, table_of}
use Rattle.core_model.specs.Page.{Page, Plan, kept_or_staged, entry_at, plan_imports, met_of, new_entry, new_view}
use Rattle.core_model.specs.Client.{Client}
use Rattle.core_model.specs.Requests.{FetchRow, text, row_verdict, row_source, row_served, fetched, fetch_reply, AppliedRow, unfetched, mismatch, done, applied_row, after_applied, applied_reply}
use Rattle.core_model.specs.Exchange.{message_for}
use Rattle.core_model.proofs.Naming.{true_same, or_cases, has_append, filtered_from, and_both}
use Rattle.core_model.proofs.Tables.{named, at_with_row}
use Rattle.core_model.proofs.Reaching.{reaches_within, reaches_on, reaches_start}
use Rattle.core_model.proofs.Planning.{met_is, at_new}
use Rattle.core_laws.specs.Facts.{IsServed, PlanIsServed}
use Rattle.core_laws.proofs.Requesting.{undropped_reached}
use Rattle.client_model.specs.Language.{Language, Bag, BindsImports}
use Rattle.client_model.specs.Instance.{Instance}
use Rattle.client_model.specs.Runtime as causes
use Rattle.client_model.specs.Runtime.{Runtime, Cause, Invalidation}
use Rattle.client_model.specs.Linking.{next_needed, link_cause}
use Rattle.client_model.specs.Requesting.{abort_message, apply_or_abort, fetch_or_finish, carry_on, cause_by}
use Rattle.client_model.specs.Answering.{stage}
use Rattle.world_model.specs.CaughtUp.{is_empty, wants_nothing, unstaged, plan_turns, debt_between, debt_within, debt}
use Rattle.world_model.specs.Ties.{IsServedRight, AreServedRight}
use Rattle.world_model.proofs.Fitting.{write_same}
use Rattle.world_laws.specs.Quiet.{IsBusy, HasResult, IsSettled}
use Rattle.world_laws.proofs.TurnsServed.{plan_served, needed_is, cause_counts, none_to_link}
use Rattle.world_laws.proofs.TurnsTaken.{heard_by, done_by, is_answered}
use Rattle.world_laws.proofs.TurnsCounted.{less, all_from, at_most_one, at_most_all, if_true, if_false, no_length}

-- A fetch.

staged_none : (kind : PlanKind) (r : Bool) (kept new : Option Entry) → kept_or_staged kind r kept new ≡ None → new ≡ None
staged_none Load r kept new e = e
staged_none Reload r kept new e = e
staged_none Update true kept new e = e
staged_none Update false None new e = e
staged_none Update false (Some k) new e = absurd (false≢true (sym (ap is_some e)))

unstaged_if : (b : Bool) (e : Entry) (o : Option Entry) → not (is_some (if b then Some e else o)) ≡ true → not (is_some o) ≡ true
unstaged_if true e o h = absurd (false≢true h)
unstaged_if false e o h = h

-- one served name less is unstaged
staging : (served : Served) (staged : View) (n : Name) (e : Entry) (v : Serving) → at served n ≡ Some v → at staged n ≡ None → length (unstaged served (with_row n e staged)) < length (unstaged served staged)
staging served staged n e v there none = less (λ m. not (is_some (at staged m))) (λ m. not (is_some (at (with_row n e staged) m))) n (names_of served)
    (λ m h. unstaged_if (same_name n m) e (at staged m) (ap (λ o. not (is_some o)) (sym (at_with_row n e staged m)) ∙ h))
    (ap (λ o. not (is_some o)) none)
    (ap (λ o. not (is_some o)) (at_with_row n e staged n) ∙ ap (λ b. not (is_some (if b then Some e else at staged n))) (true_same n n refl))
    (sym (named served n) ∙ ap is_some there)

-- An end.

served_same : (o : Option Entry) (v : Option Serving) → IsServed o v → differs o v ≡ true → ⊥
served_same None v g d = false≢true d
served_same (Some e) None g d = false≢true (ap is_some g)
served_same (Some e) (Some v) g d = false≢true (sym (ap not (eq-eqb e.version v.version (ap (version_or e.version) (sym g)))) ∙ d)
  where
    version_or : ℕ → Option Entry → ℕ
    version_or k None = k
    version_or k (Some e) = e.version

module _ (roots : List Name) (p : Plan) (view : View) (served : Served) (is : PlanIsServed (Some p) view served) where
  met_at : (n : Name) → has (met_of roots p view) n ≡ true → at (new_view roots p view) n ≡ entry_at p view n
  met_at n h = at_new roots p view n ∙ ap (λ b. new_entry b p view n) h

  reached_met : (n : Name) → Reaches (imports (new_view roots p view)) roots n → has (met_of roots p view) n ≡ true
  reached_met = reaches_within (imports (new_view roots p view)) roots (λ n. has (met_of roots p view) n ≡ true)
      (λ n h. (met_is roots p view n).1 (reaches_start (plan_imports p view) roots n h))
      (λ n m h by. (met_is roots p view m).1 (reaches_on (plan_imports p view) roots n m ((met_is roots p view n).0 h) (sym (ap (λ o. has (imports_of o) m) (met_at n h)) ∙ by)))

  reached_same : (n : Name) → Reaches (imports (new_view roots p view)) roots n → differs (at (new_view roots p view) n) (at served n) ≡ true → ⊥
  reached_same n r d = served_same (entry_at p view n) (at served n) (plan_served roots p view served is n) (ap (λ o. differs o (at served n)) (sym (met_at n (reached_met n r))) ∙ d)

  changed_dropped : (n : Name) → has (changed_of served (new_view roots p view)) n ≡ true → (b : Bool) → has (dropped_of (new_view roots p view) roots) n ≡ b → b ≡ true
  changed_dropped n h true e = refl
  changed_dropped n h false e =
      let f = filtered_from (λ k. differs (at (new_view roots p view) k) (at served k)) (names_of (new_view roots p view)) n h in
      absurd (reached_same n (undropped_reached (new_view roots p view) roots n (named (new_view roots p view) n ∙ f.1) e) f.0)

  -- once the plan is applied, all that is changed is dropped
  nothing_wanted : list_all (has (dropped_of (new_view roots p view) roots)) (changed_of served (new_view roots p view) ++ []) ≡ true
  nothing_wanted = all_from (has (dropped_of (new_view roots p view) roots)) (changed_of served (new_view roots p view) ++ [])
      (λ n h. in_changed n (or_cases (has (changed_of served (new_view roots p view)) n) (has [] n) (sym (has_append (changed_of served (new_view roots p view)) [] n) ∙ h)))
    where
      in_changed : (n : Name) → (has (changed_of served (new_view roots p view)) n ≡ true) ⊎ (has [] n ≡ true) → has (dropped_of (new_view roots p view) roots) n ≡ true
      in_changed n (inl h) = changed_dropped n h (has (dropped_of (new_view roots p view) roots) n) refl
      in_changed n (inr h) = absurd (false≢true h)

module _ (language : Language) (s : Sources) (right : AreServedRight language s.served) (format : ℕ) (named : List Name) (i : ℕ) (roots : List Name) (batches : ℕ) (settled : IsSettled language roots s) (loaded : Bool) (view : View) (forced : List Name) (texts : List (Name × Text)) (pairs : List (Name × Name)) (instances : List Instance) (bags : List (Name × Bag)) (shelf : List (Text × ℕ)) (stopped : Bool) (plan_at : ℕ) (held_at : Option ℕ) (notices : List (Name × TextFault)) where
  abbrev page : Option Plan → Page
  page plan = record { loaded = loaded; view = view; forced = forced; plan = plan }

  abbrev rt : Plan → Option Cause → List Invalidation → Runtime
  rt p cause unsent = record { format = format; named = named; client = i; roots = roots; page = page (Some p); texts = texts; pairs = pairs; cause = cause; instances = instances; bags = bags; unsent = unsent; shelf = shelf; stopped = stopped }

  abbrev cl : Plan → Client
  cl p = record { roots = roots; batches = batches; page = page (Some p); plan_at = plan_at; held_at = held_at; notices = notices }

  -- the debt once this is told and answered
  abbrev Lower : Plan → Option Cause → List Invalidation → ClientMsg → Type 0
  Lower p cause unsent asked = debt s (heard_by asked i s (cl p)).0 (done_by language asked (heard_by asked i s (cl p)).1 (rt p cause unsent)) < debt_within p s (cl p) (rt p cause unsent)

  abbrev Answers : Plan → Option Cause → List Invalidation → ClientMsg → Type 0
  Answers p cause unsent asked = is_answered loaded asked (message_for format (heard_by asked i s (cl p)).1) ≡ true

  abbrev Calm : Plan → Option Cause → List Invalidation → ClientMsg → Type 0
  Calm p cause unsent asked = length (done_by language asked (heard_by asked i s (cl p)).1 (rt p cause unsent)).unsent ≤ length unsent

  abbrev Current : Plan → Type 0
  Current p = plan_at ≡ s.served_no → PlanIsServed (Some p) view s.served

  abbrev FetchLess : Plan → List Invalidation → Name → FetchRow → Type 0
  FetchLess p unsent n row = debt s (fetched row p n (cl p)) (done_by language (told.Fetch n) (fetch_reply row n) (rt p None unsent)) < debt_within p s (cl p) (rt p None unsent)

  text_less : (p : Plan) (unsent : List Invalidation) (n : Name) (v : Serving) (outcome : Outcome) → outcome ≡ Good v.analysis → at s.served n ≡ Some v → at p.staged n ≡ None → debt s (fetched (text v) p n (cl p)) (stage outcome p n v.version v.text (rt p None unsent)).0 < debt_within p s (cl p) (rt p None unsent)
  text_less p unsent n v outcome g e none = subst (λ k. debt s (fetched (text v) p n (cl p)) (stage k p n v.version v.text (rt p None unsent)).0 < debt_within p s (cl p) (rt p None unsent)) (sym g)
      (omega (arith, staging s.served p.staged n (record { version = v.version; analysis = v.analysis }) v e none))

  verdict_less : (p : Plan) (unsent : List Invalidation) (n : Name) (verdict : Verdict) → HasResult (Some (record { version = 0; text = []; verdict = verdict })) → FetchLess p unsent n (row_verdict verdict)
  verdict_less p unsent n outstanding h = absurd (false≢true (sym h))
  verdict_less p unsent n good h = omega arith
  verdict_less p unsent n (bad fault) h = omega arith

  source_less : (p : Plan) (unsent : List Invalidation) (n : Name) (source : Option Source) → HasResult source → FetchLess p unsent n (row_source source)
  source_less p unsent n None h = omega arith
  source_less p unsent n (Some source) h = verdict_less p unsent n source.verdict h

  served_less : (p : Plan) (unsent : List Invalidation) (n : Name) (o : Option Serving) → at s.served n ≡ o → IsServedRight language n o → at p.staged n ≡ None → FetchLess p unsent n (row_served o (at s.current n))
  served_less p unsent n None e k none = source_less p unsent n (at s.current n) (settled.results n)
  served_less p unsent n (Some v) e k none = text_less p unsent n v (language.transformed n v.text) k e none

  fetch_less : (p : Plan) (unsent : List Invalidation) (n : Name) → next_needed p (rt p None []) ≡ Some n → Lower p None unsent (told.Fetch n)
  fetch_less p unsent n e = served_less p unsent n (at s.served n) refl (right n) (staged_none p.kind (has p.replaced n) (at view n) (at p.staged n) (needed_is p (rt p None []) n e).0)

  -- the plan is applied
  done_less : (p : Plan) (unsent : List Invalidation) (table : List (Name × ℕ)) (b : Bool) → (plan_at == s.served_no) ≡ b → Current p → length (done_by language (told.Applied table) (applied_reply done) (rt p None unsent)).unsent ≤ 0
      → debt s (after_applied done p (cl p)) (done_by language (told.Applied table) (applied_reply done) (rt p None unsent)) < debt_within p s (cl p) (rt p None unsent)
  done_less p unsent table false e current calm =
      let d : (if is_empty (dropped_of (new_view roots p view) roots) then 0 else 1) ≤ 1 = at_most_one (is_empty (dropped_of (new_view roots p view) roots)) in
      let rest : (if true && is_empty (done_by language (told.Applied table) (applied_reply done) (rt p None unsent)).unsent && wants_nothing s (after_applied done p (cl p)) then 0 else plan_turns s) ≤ plan_turns s
      = at_most_all (true && is_empty (done_by language (told.Applied table) (applied_reply done) (rt p None unsent)).unsent && wants_nothing s (after_applied done p (cl p))) (plan_turns s) in
      let before : ◌≡◌ {A = ℕ} (if plan_at == s.served_no then 0 else plan_turns s) (plan_turns s) = if_false (plan_at == s.served_no) 0 (plan_turns s) e in
      omega (arith, calm, d, rest, before)
  done_less p unsent table true e current calm =
      let d : (if is_empty (dropped_of (new_view roots p view) roots) then 0 else 1) ≤ 1 = at_most_one (is_empty (dropped_of (new_view roots p view) roots)) in
      let rest : ◌≡◌ {A = ℕ} (if true && is_empty (done_by language (told.Applied table) (applied_reply done) (rt p None unsent)).unsent && wants_nothing s (after_applied done p (cl p)) then 0 else plan_turns s) 0
      = if_true (true && is_empty (done_by language (told.Applied table) (applied_reply done) (rt p None unsent)).unsent && wants_nothing s (after_applied done p (cl p))) 0 (plan_turns s)
      (and_both (is_empty (done_by language (told.Applied table) (applied_reply done) (rt p None unsent)).unsent) (wants_nothing s (after_applied done p (cl p))) (no_length _ calm) (nothing_wanted roots p view s.served (current (eqb-true plan_at s.served_no e)))) in
      omega (arith, calm, d, rest)

  applied_less : (p : Plan) (unsent : List Invalidation) (table : List (Name × ℕ)) (row : AppliedRow) → unsent ≡ [] → Current p → is_answered loaded (told.Applied table) (message_for format (applied_reply row)) ≡ true → length (done_by language (told.Applied table) (applied_reply row) (rt p None unsent)).unsent ≤ length unsent
      → debt s (after_applied row p (cl p)) (done_by language (told.Applied table) (applied_reply row) (rt p None unsent)) < debt_within p s (cl p) (rt p None unsent)
  applied_less p unsent table (unfetched n) sent current answers calm = absurd (false≢true answers)
  applied_less p unsent table (mismatch n a b) sent current answers calm = absurd (false≢true answers)
  applied_less p unsent table done sent current answers calm = done_less p unsent table (plan_at == s.served_no) refl current (omega (arith, calm, ap length sent))

  -- the plan is given up
  given_up_less : (p : Plan) (found : Option Cause) (unsent left : List Invalidation) (b : Bool) → (plan_at == s.served_no) ≡ b → (plan_at ≡ s.served_no → ⊥) → left ≡ unsent → unsent ≡ []
      → debt_between s (record (cl p) { page = page None; held_at = Some plan_at }) (record (rt p found unsent) { unsent = left; cause = None }) < debt_within p s (cl p) (rt p found unsent)
  given_up_less p found unsent left true e h same sent = absurd (h (eqb-true plan_at s.served_no e))
  given_up_less p found unsent left false e h same sent =
      let d : (if is_empty (dropped_of view roots) then 0 else 1) ≤ 1 = at_most_one (is_empty (dropped_of view roots)) in
      let rest : (if loaded && is_empty left && wants_nothing s (record (cl p) { page = page None; held_at = Some plan_at }) then 0 else plan_turns s) ≤ plan_turns s
      = at_most_all (loaded && is_empty left && wants_nothing s (record (cl p) { page = page None; held_at = Some plan_at })) (plan_turns s) in
      let before : ◌≡◌ {A = ℕ} (if plan_at == s.served_no then 0 else plan_turns s) (plan_turns s) = if_false (plan_at == s.served_no) 0 (plan_turns s) e in
      let found_part : 1 ≤ (if is_some found then 1 else 2 + length (unstaged s.served p.staged)) = at_least_one (is_some found) in
      omega (arith, d, rest, before, found_part, ap length (same ∙ sent))
    where
      at_least_one : (b : Bool) → 1 ≤ (if b then 1 else 2 + length (unstaged s.served p.staged))
      at_least_one true = omega arith
      at_least_one false = omega arith

  abort_less : (p : Plan) (found : Option Cause) (cause : Cause) (unsent : List Invalidation) → (plan_at ≡ s.served_no → ⊥) → unsent ≡ [] → Lower p found unsent (abort_message cause)
  abort_less p found (causes.missing n) unsent h sent = given_up_less p found unsent _ (plan_at == s.served_no) refl h (ap (λ (r : Runtime). r.unsent) (write_same (cause_by found language p (rt p found unsent)) (rt p found unsent))) sent
  abort_less p found (causes.broken n) unsent h sent = given_up_less p found unsent _ (plan_at == s.served_no) refl h (ap (λ (r : Runtime). r.unsent) (write_same (cause_by found language p (rt p found unsent)) (rt p found unsent))) sent
  abort_less p found (causes.unlinked n m x) unsent h sent = given_up_less p found unsent _ (plan_at == s.served_no) refl h (ap (λ (r : Runtime). r.unsent) (write_same (cause_by found language p (rt p found unsent)) (rt p found unsent))) sent

  by_link : (p : Plan) (unsent : List Invalidation) → BindsImports language → Current p → next_needed p (rt p None []) ≡ None → (found : Option Cause) → link_cause language p (rt p None unsent) ≡ found → IsBusy s (cl p) (rt p None unsent)
      → Answers p None unsent (apply_or_abort found p (rt p None unsent)) → Calm p None unsent (apply_or_abort found p (rt p None unsent)) → Lower p None unsent (apply_or_abort found p (rt p None unsent))
  by_link p unsent binds current needed None e h answers calm = applied_less p unsent (table_of (new_view roots p view)) (applied_row roots p view (table_of (new_view roots p view))) h.sent current answers calm
  by_link p unsent binds current needed (Some k) e h answers calm = abort_less p None k unsent (λ now. false≢true (ap is_some (sym (none_to_link language s p (rt p None unsent) right binds settled.whole (current now) (h.current now).texts needed) ∙ e))) h.sent

  by_needed : (p : Plan) (unsent : List Invalidation) → BindsImports language → Current p → (o : Option Name) → next_needed p (rt p None []) ≡ o → IsBusy s (cl p) (rt p None unsent)
      → Answers p None unsent (fetch_or_finish o (link_cause language p (rt p None unsent)) p (rt p None unsent)) → Calm p None unsent (fetch_or_finish o (link_cause language p (rt p None unsent)) p (rt p None unsent)) → Lower p None unsent (fetch_or_finish o (link_cause language p (rt p None unsent)) p (rt p None unsent))
  by_needed p unsent binds current (Some n) e h answers calm = fetch_less p unsent n e
  by_needed p unsent binds current None e h answers calm = by_link p unsent binds current e (link_cause language p (rt p None unsent)) refl h answers calm

  -- a turn with a plan under way
  pub plan_less : (p : Plan) (cause : Option Cause) (unsent : List Invalidation) → BindsImports language → Current p → IsBusy s (cl p) (rt p cause unsent)
      → Answers p cause unsent (carry_on cause language p (rt p cause unsent)) → Calm p cause unsent (carry_on cause language p (rt p cause unsent)) → Lower p cause unsent (carry_on cause language p (rt p cause unsent))
  plan_less p None unsent binds current h answers calm = by_needed p unsent binds current (next_needed p (rt p None [])) refl h answers calm
  plan_less p (Some k) unsent binds current h answers calm = abort_less p (Some k) k unsent (λ now. cause_counts language roots s k (h.current now).cause settled.whole) h.sent
