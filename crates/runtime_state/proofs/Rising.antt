-- The modules of a client's page rise by name, whatever came to it.
use Rattle.std.proofs.Common.{◌≡◌, Bool, true, false, List, [], ◌∷◌, ◌++◌, map, refl, sym}
use Rattle.std.specs.Prelude.{◌==◌, ◌||◌, ℕ, cond, filter, not, is_some, Option, Some, None, if◌then◌else◌}
use Rattle.std.proofs.Math.Path.{subst}
use Rattle.std.specs.Ordering.{nat_cmp, is_lt}
use Rattle.std.specs.Cmp.Lexicographic.{slice_cmp}
use Rattle.hmr_types.specs.declared.analysis.Outcome.{Outcome}
use Rattle.hmr_types.specs.declared.analysis.Outcome.TheVariants.{Good, Bad}
use Rattle.hmr_types.specs.declared.value.Value.{Value}
use Rattle.output_lines.specs.declared.out_line.OutLine.TheVariants as line
use Rattle.update_msgs.specs.declared.message.ClientMsg.{ClientMsg}
use Rattle.update_msgs.specs.declared.message.ClientMsg.TheVariants as request_is
use Rattle.update_msgs.specs.declared.message.ServerMsg.{ServerMsg}
use Rattle.update_msgs.specs.declared.message.ServerMsg.TheVariants as msg
use Rattle.core_model.specs.Names.{Name, has, in_order, names_of, rising, sorted, without_all}
use Rattle.core_model.specs.Sources.{Text}
use Rattle.core_model.specs.Page.{Plan, met_of, new_entry, new_view}
use Rattle.core_model.specs.View.{View}
use Rattle.core_model.proofs.Naming.{and_both, both_true}
use Rattle.core_model.proofs.Rising.{collect_rises, left_out, sorted_rises, tail_rises}
use Rattle.client_model.specs.Answering.{abort_in, accept_line, answered, apply_in, done, pair_of, took_refusal, stage, stage_in, start_update, write_batch, write_cause}
use Rattle.client_model.specs.Applying.{live_of, prune, prune_instance}
use Rattle.client_model.specs.Firing as fires
use Rattle.client_model.specs.Firing.{Firing, busy, did_hear, fire, hear_all, unheard}
use Rattle.client_model.specs.Language.{Language}
use Rattle.client_model.specs.Past as came_is
use Rattle.client_model.specs.Past.{Incoming, Past, met, runtime_after}
use Rattle.client_model.specs.Requesting.{cause_by}
use Rattle.client_model.specs.Runtime.{Cause, Did, Opening, Runtime, for_each, nothing, write}
use Rattle.client_model.proofs.Acts.{before_finish, kept_hear, kept_lines, kept_pruning}
use Rattle.client_model.proofs.Staying.{Stays, page_kept}
use Rattle.client_model.proofs.Takes.{take_by}

module _ {X : Type 0} where
  kept_behind : (keep : Name × X → Bool) (k : Name) (rows : List (Name × X)) → rising (k ∷ names_of rows) ≡ true → rising (k ∷ names_of (filter keep rows)) ≡ true
  kept_behind keep k [] r = refl
  kept_behind keep k (row ∷ rows) r = by (keep row) (kept_behind keep row.0 rows (both_true (is_lt (slice_cmp nat_cmp k row.0)) _ r).1) (kept_behind keep k rows (left_out k row.0 (names_of rows) r))
    where
      by : (b : Bool) → rising (row.0 ∷ names_of (filter keep rows)) ≡ true → rising (k ∷ names_of (filter keep rows)) ≡ true → rising (k ∷ names_of (cond b (row ∷ filter keep rows) (filter keep rows))) ≡ true
      by true f g = and_both _ _ (both_true (is_lt (slice_cmp nat_cmp k row.0)) _ r).0 f
      by false f g = g

  -- what is left of entries that rise by name rises
  pub kept_rises : (keep : Name × X → Bool) (rows : List (Name × X)) → rising (names_of rows) ≡ true → rising (names_of (filter keep rows)) ≡ true
  kept_rises keep [] r = refl
  kept_rises keep (row ∷ rows) r = by (keep row) (kept_rises keep rows (tail_rises row.0 (names_of rows) r))
    where
      by : (b : Bool) → rising (names_of (filter keep rows)) ≡ true → rising (names_of (cond b (row ∷ filter keep rows) (filter keep rows))) ≡ true
      by true f = kept_behind keep row.0 rows r
      by false f = f

-- the view rises by name
abbrev IsRising : Runtime → Type 0
IsRising r = rising (names_of r.page.view) ≡ true

module _ (language : Language) where
  pub new_rises : (roots : List Name) (p : Plan) (view : View) → rising (names_of (new_view roots p view)) ≡ true
  new_rises roots p view = collect_rises (λ n. new_entry (has (met_of roots p view) n) p view n) (sorted (met_of roots p view ++ names_of view)) (sorted_rises (met_of roots p view ++ names_of view))

  batch_rises : (batch : ℕ) (triggered : List Name) (r : Runtime) → IsRising r → IsRising (write_batch batch triggered r).0
  batch_rises batch triggered r h = by (batch == 0)
    where
      by : (b : Bool) → let did : Did = if b then nothing r else write (line.Batch r.client batch (in_order triggered)) r in IsRising did.0
      by true = h
      by false = h

  update_rises : (replaced : List Name) (pairs : List (Name × Name)) (r : Runtime) → IsRising r → IsRising (start_update replaced pairs r).0
  update_rises replaced pairs r h =
      let told : Did = write (line.Update r.client (in_order replaced)) r in
      subst (λ page. rising (names_of page.view) ≡ true) (sym (kept_lines Stays page_kept language (λ pair (s : Runtime). accept_line s.client pair) pairs told.0).page) h

  prune_rises : (names : List Name) (r : Runtime) → IsRising r → IsRising (prune language names r).0
  prune_rises names r h =
      let did : Did = for_each (prune_instance language) (live_of (has names) r) r in
      subst (λ page. rising (names_of (without_all names page.view)) ≡ true) (sym (kept_pruning Stays page_kept language names r).page) (kept_rises (λ row. not (has names row.0)) r.page.view h)

  apply_rises : (plan : Option Plan) (r : Runtime) → IsRising r → IsRising (apply_in plan language r).0
  apply_rises None r h = h
  apply_rises (Some p) r h = let did : Did = before_finish language p r in new_rises did.0.roots p did.0.page.view

  abort_rises : (plan : Option Plan) (r : Runtime) → IsRising r → IsRising (abort_in plan language r).0
  abort_rises None r h = h
  abort_rises (Some p) r h = by (cause_by r.cause language p r)
    where
      by : (cause : Option Cause) → IsRising (write_cause cause r).0
      by None = h
      by (Some cause) = h

  done_rises : (asked : ClientMsg) (r : Runtime) → IsRising r → IsRising (done asked language r).0
  done_rises (request_is.Hello format roots) r h = h
  done_rises request_is.Ask r h = h
  done_rises (request_is.Fetch m) r h = h
  done_rises (request_is.Applied table) r h = apply_rises r.page.plan r h
  done_rises (request_is.Aborted cause m from x) r h = abort_rises r.page.plan r h
  done_rises (request_is.Invalidate m v message) r h = h
  done_rises request_is.Bye r h = h

  refused_rises : (asked : ClientMsg) (r : Runtime) → IsRising r → IsRising (took_refusal asked r).0
  refused_rises (request_is.Hello format roots) r h = h
  refused_rises request_is.Ask r h = h
  refused_rises (request_is.Fetch m) r h = h
  refused_rises (request_is.Applied table) r h = h
  refused_rises (request_is.Aborted cause m from x) r h = h
  refused_rises (request_is.Invalidate m v message) r h = h
  refused_rises request_is.Bye r h = h

  stage_rises : (o : Outcome) (p : Plan) (n : Name) (v : ℕ) (t : Text) (r : Runtime) → IsRising r → IsRising (stage o p n v t r).0
  stage_rises (Good a) p n v t r h = h
  stage_rises (Bad fault) p n v t r h = h

  text_rises : (plan : Option Plan) (n : Name) (v : ℕ) (t : Text) (r : Runtime) → IsRising r → IsRising (stage_in plan language n v t r).0
  text_rises None n v t r h = h
  text_rises (Some p) n v t r h = stage_rises (language.transformed n t) p n v t r h

  answered_rises : (asked : ClientMsg) (m : ServerMsg) (r : Runtime) → IsRising r → IsRising (answered language asked m r).0
  answered_rises asked (msg.Connected client roots) r h = h
  answered_rises asked (msg.Update replaced updates batch triggered) r h = update_rises replaced (map pair_of updates) (write_batch batch triggered r).0 (batch_rises batch triggered r h)
  answered_rises asked (msg.Prune paths) r h = prune_rises paths r h
  answered_rises asked (msg.FullReload cause path batch triggered) r h = batch_rises batch triggered r h
  answered_rises asked (msg.Error m row column word) r h = h
  answered_rises asked (msg.Broken m row column word) r h = h
  answered_rises asked msg.Idle r h = h
  answered_rises asked msg.Done r h = done_rises asked r h
  answered_rises asked (msg.Text m v t) r h = text_rises r.page.plan m v t r h
  answered_rises asked (msg.Missing m) r h = h
  answered_rises asked (msg.NotYet m) r h = h
  answered_rises asked (msg.Refused number m heard kept) r h = refused_rises asked r h

  fire_rises : (n : Name) (value : Value) (r : Runtime) → IsRising r → IsRising (fire language n value r).after
  fire_rises n value r h = by r.stopped (not r.page.loaded || is_some r.page.plan)
    where
      heard : IsRising (did_hear (hear_all language n value r)).after
      heard = subst (λ page. rising (names_of page.view) ≡ true) (sym (kept_hear Stays page_kept language n value r).page) h

      by : (stopped unfit : Bool) → let fired : Firing = if stopped then unheard fires.is_stopped r else (if unfit then unheard busy r else did_hear (hear_all language n value r)) in IsRising fired.after
      by true unfit = h
      by false true = h
      by false false = heard

  met_rises : (came : Incoming) (r : Runtime) → IsRising r → IsRising (met language came r).0
  met_rises (came_is.message m) r h = take_by language r m (λ did. IsRising did.0) h h (λ asked needs fit. answered_rises asked m r h)
  met_rises (came_is.event n value) r h = fire_rises n value r h

  pub view_rises : (opening : Opening) (past : Past) → rising (names_of (runtime_after language opening past).page.view) ≡ true
  view_rises opening [] = refl
  view_rises opening (came ∷ past) = met_rises came (runtime_after language opening past) (view_rises opening past)
