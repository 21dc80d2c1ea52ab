-- What each thing that comes to a client leaves unsent, and so what each open client of the world has: each
-- unsent invalidation is of the version of a counted edit, and each request can be written.
use Rattle.std.proofs.Common.{◌≡◌, ◌⊎◌, inl, inr, ℕ, ◌≤◌, Bool, true, false, List, [], ◌∷◌, refl, ap, sym, ◌∙◌, arith, Contains}
use Rattle.std.specs.Prelude.{map, ◌==◌, ◌&&◌, Option, Some, None, is_some, if◌then◌else◌}
use Rattle.std.proofs.Math.Path.{subst}
use Rattle.std.proofs.lemmas.Bool.{false≢true, eqb-true}
use Rattle.hmr_types.specs.declared.analysis.Outcome.{Outcome}
use Rattle.hmr_types.specs.declared.analysis.Outcome.TheVariants.{Good, Bad}
use Rattle.output_lines.specs.declared.out_line.OutLine.TheVariants as line
use Rattle.update_msgs.specs.Writable.{IsVersion, IsSayable}
use Rattle.update_msgs.specs.declared.message.ClientMsg.{ClientMsg}
use Rattle.update_msgs.specs.declared.message.ClientMsg.TheVariants as request_is
use Rattle.update_msgs.specs.declared.message.ServerMsg.{ServerMsg}
use Rattle.update_msgs.specs.declared.message.ServerMsg.TheVariants as msg
use Rattle.core_model.specs.Names.{Name, same_name, has, at}
use Rattle.core_model.specs.Sources.{Text, Change, edit, result, Serving, EditAnswer, job, same, removed, edit_refused, edit_answer, text_or_none, sources_after}
use Rattle.core_model.specs.View.{Entry}
use Rattle.core_model.specs.Page.{Plan, given_up}
use Rattle.core_model.specs.Client.{Client}
use Rattle.core_model.specs.Core.{client_at}
use Rattle.core_model.proofs.Naming.{both_true, has_is}
use Rattle.core_laws.specs.Written.{written_too, written, IsServedWritten}
use Rattle.core_laws.proofs.Ranges.{Fitting, answer_fits}
use Rattle.client_model.specs.Language.{Language}
use Rattle.client_model.specs.Runtime.{Runtime, Opening, new_runtime, Invalidation, Cause, missing, broken, unlinked, nothing, and_then, for_each, write}
use Rattle.client_model.specs.Linking.{new_names, next_needed, link_cause}
use Rattle.client_model.specs.Requesting.{ask_or_invalidate, abort_message, apply_or_abort, fetch_or_finish, carry_on, request_by, hello, request, cause_by}
use Rattle.client_model.specs.Answering.{accept_line, pair_of, start_update, start_reload, stage, stage_in, apply_in, abort_in, write_cause, without_first, done, took_refusal, answered}
use Rattle.client_model.specs.Expecting.{is_answer}
use Rattle.client_model.specs.Past.{Incoming, message, event, met}
use Rattle.client_model.proofs.Needs.{IsDue, Needs}
use Rattle.client_model.proofs.Takes.{take_by}
use Rattle.world_model.specs.World.{World, Step}
use Rattle.world_model.specs.Steps.{world_after}
use Rattle.world_model.specs.Ties.{TiedAt, WentOn}
use Rattle.world_model.proofs.Fitting.{after_batch}
use Rattle.world_model.proofs.Tying.{run_sound}
use Rattle.world_laws.specs.Changes.{changes_in}
use Rattle.world_laws.specs.Unsent.{AreUnsentVersions}
use Rattle.world_laws.proofs.Members.{none_in, head_in, tail_in, MadeOf, map_from}
use Rattle.world_laws.proofs.Frames.{Frame, frames, ended_by, live_one, made_cases}
use Rattle.world_laws.proofs.Births.{new_frame, news, olds, frames_after, live_after}
use Rattle.world_laws.proofs.Ending.{ended_names}
use Rattle.world_laws.proofs.Firings.{fire_by}
use Rattle.world_laws.proofs.Holding.{HoldsOf, is_ready}
use Rattle.world_laws.proofs.Messages.{Quiet, Applies, GoesTo, met_goes}
use Rattle.world_laws.proofs.Texts.{Fit, LiveFits, FitsIn}
use Rattle.world_laws.proofs.Changes.{served_written_in}
use Rattle.world_laws.proofs.Replies.{ServedFits, KeptAt, AllKept, step_kept}
use Rattle.world_laws.proofs.Invalidations.{AllVersioned, cut_versioned, pruned_versions, applied_versions, heard_versions}

-- Every answer.

rest_versions : (unsent : List Invalidation) →
    ((m : Invalidation) → Contains unsent m → IsVersion m.version) → (m : Invalidation) →
    Contains (without_first unsent) m → IsVersion m.version
rest_versions [] u m c = u m c
rest_versions (i ∷ more) u m c = u m (tail_in i more m c)

lines_versions : (pairs : List (Name × Name)) (r : Runtime) → AreUnsentVersions r →
    AreUnsentVersions (for_each (λ pair s. write (accept_line s.client pair) s) pairs r).0
lines_versions [] r u = u
lines_versions (pair ∷ pairs) r u = lines_versions pairs r u

stage_versions : (o : Outcome) (p : Plan) (n : Name) (v : ℕ) (t : Text) (r : Runtime) →
    AreUnsentVersions r → AreUnsentVersions (stage o p n v t r).0
stage_versions (Good a) p n v t r u = u
stage_versions (Bad fault) p n v t r u = u

stage_in_versions : (q : Option Plan) (language : Language) (n : Name) (v : ℕ) (t : Text) (r : Runtime) →
    AreUnsentVersions r → AreUnsentVersions (stage_in q language n v t r).0
stage_in_versions None language n v t r u = u
stage_in_versions (Some p) language n v t r u = stage_versions (language.transformed n t) p n v t r u

abort_versions : (q : Option Plan) (language : Language) (r : Runtime) → AreUnsentVersions r →
    AreUnsentVersions (abort_in q language r).0
abort_versions None language r u = u
abort_versions (Some p) language r u = by (cause_by r.cause language p r)
  where
    by : (o : Option Cause) →
        AreUnsentVersions
        (and_then (write_cause o r)
        (λ s. nothing (record s { page = given_up s.page; texts = []; pairs = []; cause = None }))).0
    by None = u
    by (Some cause) = u

-- it is so after it, where the instances that it leaves have versions
abbrev Leaves : Runtime → Type 0
Leaves s = AllVersioned (frames s.instances) → AreUnsentVersions s

module _ (language : Language) (r : Runtime) (h : HoldsOf r) (all : AllVersioned (frames r.instances))
    (u : AreUnsentVersions r) where
  apply_versions : (q : Option Plan) → r.page.plan ≡ q →
      ((p : Plan) → r.page.plan ≡ Some p → IsDue language p r) → Leaves (apply_in q language r).0
  apply_versions None e due after = u
  apply_versions (Some p) e due after =
      applied_versions language p r (is_ready p r e (due p e).0 h) h.numbered all after u

  done_versions : (asked : ClientMsg) → Needs language asked r → Leaves (done asked language r).0
  done_versions (request_is.Hello format names) n after = u
  done_versions request_is.Ask n after = u
  done_versions (request_is.Fetch m) n after = u
  done_versions (request_is.Applied table) n after = apply_versions r.page.plan refl n.1 after
  done_versions (request_is.Aborted cause m from x) n after = abort_versions r.page.plan language r u
  done_versions (request_is.Invalidate m v text) n after = rest_versions r.unsent u
  done_versions request_is.Bye n after = u

  refused_versions : (asked : ClientMsg) → AreUnsentVersions (took_refusal asked r).0
  refused_versions (request_is.Hello format names) = u
  refused_versions request_is.Ask = u
  refused_versions (request_is.Fetch m) = u
  refused_versions (request_is.Applied table) = u
  refused_versions (request_is.Aborted cause m from x) = u
  refused_versions (request_is.Invalidate m v text) = rest_versions r.unsent u
  refused_versions request_is.Bye = u

  answered_versions : (asked : ClientMsg) (m : ServerMsg) → Needs language asked r →
      is_answer r.page.loaded asked m ≡ true → Leaves (answered language asked m r).0
  answered_versions asked (msg.Connected client roots) n a after = u
  answered_versions asked (msg.Update replaced updates batch triggered) n a after =
      after_batch batch triggered r (start_update replaced (map pair_of updates)) AreUnsentVersions
      (lines_versions (map pair_of updates) r u)
  answered_versions asked (msg.Prune paths) n a after = pruned_versions language paths r h.numbered all u
  answered_versions asked (msg.FullReload cause path batch triggered) n a after =
      after_batch batch triggered r (start_reload (line.Reload r.client cause path)) AreUnsentVersions u
  answered_versions asked (msg.Error m row column word) n a after = u
  answered_versions asked (msg.Broken m row column word) n a after = u
  answered_versions asked msg.Idle n a after = u
  answered_versions asked msg.Done n a after = done_versions asked n after
  answered_versions asked (msg.Text m v t) n a after = stage_in_versions r.page.plan language m v t r u
  answered_versions asked (msg.Missing m) n a after = u
  answered_versions asked (msg.NotYet m) n a after = u
  answered_versions asked (msg.Refused number m told kept) n a after = refused_versions asked

  met_unsent : (came : Incoming) → Leaves (met language came r).0
  met_unsent (message m) =
      take_by language r m (λ did. Leaves did.0) (λ after. u) (λ after. u)
      (λ asked n a. answered_versions asked m n a)
  met_unsent (event n value) =
      fire_by language r n value (λ did. Leaves did.0) (λ after. u)
      (λ loaded none after. heard_versions language n value r h.numbered all u)

-- Instances.

-- a text that comes is of the version of a counted edit
abbrev Versioned : Name → Fit
Versioned n v t a = IsVersion v

live_versioned : (n : Name) (e : Option Entry) (f : Frame) → is_some e ≡ true →
    LiveFits (Versioned n) e (Some f) → IsVersion f.version
live_versioned n None f there l = absurd (false≢true there)
live_versioned n (Some e) f there l = subst IsVersion (sym l.0) l.2

met_versions : (language : Language) (r : Runtime) (came : Incoming) → HoldsOf r →
    FitsIn Versioned (met language came r).0 → AllVersioned (frames r.instances) →
    AllVersioned (frames (met language came r).0.instances)
met_versions language r came h fits all = by g.moves
  where
    s : Runtime
    s = (met language came r).0

    g : GoesTo language r s
    g = met_goes language r came h

    applies : (a : Applies language r s.page (frames s.instances)) → AllVersioned (frames_after a.plan r)
    applies a f c = by (made_cases (news a.plan r) (olds a.plan r) f c)
      where
        p : Plan
        p = a.plan

        new : (n : Name) → has (new_names p r) n ≡ true → IsVersion (new_frame p r n).version
        new n e =
            let one : live_one (frames s.instances) n ≡ Some (new_frame p r n) =
            ap (λ fs. live_one fs n) a.frames_are ∙ live_after p r h.numbered n
            ∙ ap
            (λ b. if b then Some (new_frame p r n)
            else (if ended_names p.kind p r n then None else live_one (frames r.instances) n)) e in
            live_versioned n (at s.page.view n) (new_frame p r n) (sym (g.holds.live n) ∙ ap is_some one)
            (subst (LiveFits (Versioned n) (at s.page.view n)) one (fits.live n))

        of_new : MadeOf (new_frame p r) (new_names p r) f → IsVersion f.version
        of_new m =
            subst (λ (x : Frame). IsVersion x.version) m.makes
            (new m.of ((has_is (new_names p r) m.of).0 m.there))

        by : Contains (news p r) f ⊎ Contains (olds p r) f → IsVersion f.version
        by (inl c) = of_new (map_from (new_frame p r) (new_names p r) f c)
        by (inr c) =
            cut_versioned (ended_by (ended_names p.kind p r) (frames r.instances)) (frames r.instances) all
            f c

    by : Quiet r.page.view s.page.view (frames r.instances) (frames s.instances) ⊎ Applies language r
        s.page (frames s.instances) → AllVersioned (frames s.instances)
    by (inl q) = subst AllVersioned (sym q.cuts) (cut_versioned q.ends (frames r.instances) all)
    by (inr a) = subst AllVersioned (sym a.frames_are) (applies a)

-- Versions of counted edits.

written_version : (past : List Change) (n : Name) (v : ℕ) (t : Text) → written past n v ≡ Some t →
    IsVersion v
written_version [] n v t e = absurd (false≢true (ap is_some e))
written_version (result m x o w ∷ past) n v t e = written_version past n v t e
written_version (edit m x ∷ past) n v t e =
    by (edit_answer (sources_after past) m x)
    (answer_fits (at (sources_after past).current m) (sources_after past) x) (written_version past n v t) e
  where
    counted : (w : ℕ) (y : Text) → IsVersion w → (written past n v ≡ Some t → IsVersion v) → (b : Bool) →
        (same_name m n && w == v) ≡ b → (if b then Some y else written past n v) ≡ Some t → IsVersion v
    counted w y f rest true s e = subst IsVersion (eqb-true w v (both_true (same_name m n) (w == v) s).1) f
    counted w y f rest false s e = rest e

    by : (answer : EditAnswer) → Fitting x answer → (written past n v ≡ Some t → IsVersion v) →
        written_too answer m x (written past) n v ≡ Some t → IsVersion v
    by (job w) f rest e = counted w (text_or_none x) f.0 rest (same_name m n && w == v) refl e
    by same f rest e = rest e
    by (removed w) f rest e = rest e
    by (edit_refused word) f rest e = rest e

-- Every step.

-- what is asked of a client beside its facts
abbrev Also : Runtime → Type 0
Also r = AllVersioned (frames r.instances) × AreUnsentVersions r

served_versioned : (language : Language) (n : Name) (by : ℕ → Option Text) (o : Option Serving) →
    ((v : ℕ) (t : Text) → by v ≡ Some t → IsVersion v) → IsServedWritten by o →
    ServedFits language Versioned n o
served_versioned language n by None f h = tt
served_versioned language n by (Some s) f h = λ a e. f s.version s.text h

module _ (language : Language) (roots : List Name) (shelves : List (List (Text × ℕ))) where
  begins : (opening : Opening) → Also (new_runtime opening)
  begins opening = (λ f c. absurd (none_in f c), λ m c. absurd (none_in m c))

  goes_on : (r : Runtime) (came : Incoming) → HoldsOf r → FitsIn Versioned r →
      FitsIn Versioned (met language came r).0 → Also r → Also (met language came r).0
  goes_on r came h old new a =
      let versions : AllVersioned (frames (met language came r).0.instances) =
      met_versions language r came h new a.0 in
      (versions, met_unsent language r h a.0 a.1 came versions)

  run_versions : (past : List Step) →
      AllKept language Versioned Also begins goes_on (world_after language roots shelves past).clients
  run_versions [] = λ i. tt
  run_versions (s ∷ past) =
      let w : World = world_after language roots shelves past in
      step_kept language Versioned Also begins goes_on roots shelves w s
      (λ n. served_versioned language n (written (changes_in language roots shelves past) n)
      (at w.core.sources.served n) (written_version (changes_in language roots shelves past) n)
      (served_written_in language roots shelves past n))
      (run_versions past)

  pub unsent_run : (past : List Step) (i : ℕ) (r : Runtime) →
      client_at (world_after language roots shelves past).clients i ≡ Some r → AreUnsentVersions r
  unsent_run past i r e = (subst (KeptAt language Versioned Also begins goes_on) e (run_versions past i)).2.1

-- What a client asks.

invalidate_sayable : (unsent : List Invalidation) →
    ((m : Invalidation) → Contains unsent m → IsVersion m.version) → IsSayable (ask_or_invalidate unsent)
invalidate_sayable [] u = tt
invalidate_sayable (i ∷ more) u = u i (head_in i more)

abort_sayable : (cause : Cause) → IsSayable (abort_message cause)
abort_sayable (missing n) = tt
abort_sayable (broken n) = tt
abort_sayable (unlinked n m x) = tt

apply_sayable : (o : Option Cause) (p : Plan) (r : Runtime) → IsSayable (apply_or_abort o p r)
apply_sayable None p r = tt
apply_sayable (Some cause) p r = abort_sayable cause

fetch_sayable : (o : Option Name) (at_links : Option Cause) (p : Plan) (r : Runtime) →
    IsSayable (fetch_or_finish o at_links p r)
fetch_sayable (Some n) at_links p r = tt
fetch_sayable None at_links p r = apply_sayable at_links p r

carry_sayable : (o : Option Cause) (language : Language) (p : Plan) (r : Runtime) →
    IsSayable (carry_on o language p r)
carry_sayable (Some cause) language p r = abort_sayable cause
carry_sayable None language p r = fetch_sayable (next_needed p r) (link_cause language p r) p r

request_sayable : (language : Language) (r : Runtime) → 1 ≤ r.client → AreUnsentVersions r →
    IsSayable (request language r)
request_sayable language r counted u = by (r.client == 0) refl
  where
    within : (q : Option Plan) → IsSayable (request_by q language r)
    within None = invalidate_sayable r.unsent u
    within (Some p) = carry_sayable r.cause language p r

    by : (b : Bool) → (r.client == 0) ≡ b →
        IsSayable (if b then hello r else request_by r.page.plan language r)
    by true e = absurd (omega (arith, counted, eqb-true r.client 0 e))
    by false e = within r.page.plan

pub sayable_run : (language : Language) (roots : List Name) (shelves : List (List (Text × ℕ)))
    (past : List Step) (i : ℕ) (r : Runtime) → WentOn language roots shelves past →
    client_at (world_after language roots shelves past).clients i ≡ Some r → IsSayable (request language r)
sayable_run language roots shelves past i r went e =
    request_sayable language r
    (by (client_at w.core.clients i)
    (subst (TiedAt i (client_at w.core.clients i)) e
    ((run_sound language roots shelves past went).tied i)))
    (unsent_run language roots shelves past i r e)
  where
    w : World
    w = world_after language roots shelves past

    by : (o : Option Client) → TiedAt i o (Some r) → 1 ≤ r.client
    by None t = absurd t
    by (Some c) t = subst (λ k. 1 ≤ k) (sym t.number) t.counted
