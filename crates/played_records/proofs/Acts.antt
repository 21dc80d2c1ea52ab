-- Whatever a client does, its instances and the invalidations that it hasn't sent have names, where its page has.
use Rattle.std.proofs.Common.{◌≡◌, ℕ, Bool, true, false, cond, List, [], ◌∷◌, map, Option, Some, None, refl, subst}
use Rattle.std.specs.Prelude.{◌==◌, IfSome, reverse, if◌then◌else◌}
use Rattle.hmr_types.specs.declared.analysis.Outcome.{Outcome}
use Rattle.hmr_types.specs.declared.analysis.Outcome.TheVariants.{Good, Bad}
use Rattle.hmr_types.specs.declared.value.Value.{Value}
use Rattle.output_lines.specs.declared.out_line.OutLine.TheVariants as line
use Rattle.output_lines.specs.declared.words.FaultPlace.{FaultPlace}
use Rattle.update_msgs.specs.declared.message.ClientMsg.{ClientMsg}
use Rattle.update_msgs.specs.declared.message.ClientMsg.TheVariants as request_is
use Rattle.update_msgs.specs.declared.message.ServerMsg.{ServerMsg}
use Rattle.update_msgs.specs.declared.message.ServerMsg.TheVariants as msg
use Rattle.core_model.specs.Formed.{IsName}
use Rattle.core_model.specs.Names.{Name, at}
use Rattle.core_model.specs.Page.{Plan, entry_at, given_up}
use Rattle.core_model.specs.Sources.{Text}
use Rattle.core_model.specs.View.{Entry}
use Rattle.client_model.specs.Answering.{abort_in, accept_line, answered, apply_in, done, pair_of, stage, stage_in, start_reload, start_update, took_refusal, without_first, write_cause}
use Rattle.client_model.specs.Applying.{apply, birth_of, births, end_old, live_of}
use Rattle.client_model.specs.Firing.{fire}
use Rattle.client_model.specs.Instance.{Handler, Instance, numbered, with_change, with_dropped}
use Rattle.client_model.specs.Language.{Language, Ran}
use Rattle.client_model.specs.Linking.{links_after, new_names, number_after}
use Rattle.client_model.specs.Making.{Birth, make}
use Rattle.client_model.specs.Requesting.{cause_by}
use Rattle.client_model.specs.Running.{after_run, did_run, invalidation, run_deed, scope_of}
use Rattle.client_model.specs.Runtime.{Cause, Did, Invalidation, Opening, Runtime, and_then, bag_of, for_each, new_runtime, nothing, write}
use Rattle.client_model.specs.Taking.{take}
use Rattle.client_model.proofs.Acts.{IsHandled, IsWalked, by_make, handled_hear, walked_applying, walked_pruning}
use Rattle.client_model.proofs.Takes.{take_by}
use Rattle.world_model.proofs.Fitting.{after_batch}
use Rattle.world_laws.proofs.Firings.{fire_by}
use Rattle.record_agreement.proofs.Lists.{Each, each_append, each_map}
use Rattle.record_agreement.proofs.Named.{Names, ViewNamed}
use Rattle.played_records.proofs.Walks.{PageNamed, new_are_named}

abbrev pub InstanceNamed : Instance → Type 0
InstanceNamed i = IsName i.name

abbrev pub UnsentNamed : Invalidation → Type 0
UnsentNamed m = IsName m.name

-- the instances and the unsent invalidations of a client have names
abbrev pub ClientNames : Runtime → Type 0
ClientNames r = Each InstanceNamed r.instances × Each UnsentNamed r.unsent

-- what is done keeps it
abbrev Keeps : Runtime → Did → Type 0
Keeps r did = ClientNames r → ClientNames did.0

-- ---- single things

instance_if : (b : Bool) (i j : Instance) → InstanceNamed i → InstanceNamed j → InstanceNamed (cond b i j)
instance_if true i j g h = g
instance_if false i j g h = h

change_named : (k : ℕ) (f : Instance → Instance) (is : List Instance) → ((i : Instance) → InstanceNamed i → InstanceNamed (f i)) → Each InstanceNamed is → Each InstanceNamed (with_change k f is)
change_named k f is on h = each_map InstanceNamed InstanceNamed (λ i. if i.number == k then f i else i) is (λ i n. instance_if (i.number == k) (f i) i (on i n) n) h

found_if : (b : Bool) (i : Instance) (o : Option Instance) → InstanceNamed i → IfSome o InstanceNamed → IfSome (cond b (Some i) o) InstanceNamed
found_if true i o g h = g
found_if false i o g h = h

found_named : (is : List Instance) (k : ℕ) → Each InstanceNamed is → IfSome (numbered is k) InstanceNamed
found_named [] k h = tt
found_named (i ∷ is) k h = found_if (i.number == k) i (numbered is k) h.0 (found_named is k h.1)

asked_named : (r : Runtime) (n : Name) (messages : List Text) → IsName n → Each UnsentNamed (map (invalidation r n) messages)
asked_named r n [] h = tt
asked_named r n (m ∷ messages) h = (h, asked_named r n messages h)

run_keeps : (spent_at : FaultPlace) (k : ℕ) (i : Instance) (spot : ℕ) (h : Handler) (left : Ran) (r : Runtime) → numbered r.instances k ≡ Some i → Keeps r (did_run spent_at i spot h left r)
run_keeps spent_at k i spot h left r e n =
    let named : IsName i.name = subst (λ o. IfSome o InstanceNamed) e (found_named r.instances k n.0) in (
      change_named i.number (after_run spot h.kind left) r.instances (λ j m. m) n.0,
      each_append UnsentNamed r.unsent (map (invalidation r i.name) left.invalidations) n.1 (asked_named r i.name left.invalidations named),
    )

module _ (language : Language) where
  handled : IsHandled language Keeps
  handled = record {
    nothing = λ r n. n;
    after = λ r did next f g n. g (f n);
    run = λ spent_at k i spot h arguments r e g none. run_keeps spent_at k i spot h (run_deed language h.deed (scope_of language r i) arguments (bag_of r i.name)) r e;
    drop = λ test k r n. (change_named k (λ i. record i { handlers = with_dropped test i.handlers }) r.instances (λ i m. m) n.0, n.1);
    wrote = λ l r n. n;
  }

  walk : IsWalked language Keeps
  walk = record {
    handled = handled;
    end = λ fate k m r n. (change_named k (λ i. record i { fate = fate }) r.instances (λ i m. m) n.0, n.1);
    give_up = λ m r n. n;
    give_up_all = λ r n. n;
  }

  -- ---- new instances

  abbrev BirthNamed : Birth → Type 0
  BirthNamed b = IsName b.name

  make_keeps : (b : Birth) (r : Runtime) → BirthNamed b → Keeps r (make language b r)
  make_keeps b r h = by_make (Keeps r) language b r (λ n. ((h, n.0), n.1)) (λ n. ((h, n.0), n.1))

  births_keep : (bs : List Birth) (r : Runtime) → Each BirthNamed bs → Keeps r (for_each (make language) bs r)
  births_keep [] r h n = n
  births_keep (b ∷ bs) r h n = births_keep bs (make language b r).0 h.1 (make_keeps b r h.0 n)

  birth_named : (e : Option Entry) (t : Option Text) (k : Option ℕ) (links : List Name → List (Name × ℕ)) (m : Name) → IsName m → Each BirthNamed (birth_of e t k links m)
  birth_named None t k links m h = tt
  birth_named (Some e) None k links m h = tt
  birth_named (Some e) (Some t) None links m h = tt
  birth_named (Some e) (Some t) (Some k) links m h = (h, tt)

  births_named : (names : List Name) (p : Plan) (r : Runtime) → Names names → Each BirthNamed (births names p r)
  births_named [] p r h = tt
  births_named (m ∷ names) p r h =
      each_append BirthNamed (birth_of (entry_at p r.page.view m) (at r.texts m) (number_after p r m) (links_after p r) m) (births names p r)
      (birth_named (entry_at p r.page.view m) (at r.texts m) (number_after p r m) (links_after p r) m h.0) (births_named names p r h.1)

  -- ---- answers

  apply_keeps : (p : Plan) (r : Runtime) → Names (new_names p r) → Keeps r (apply language p r)
  apply_keeps p r new =
      walked_applying language Keeps walk p r
      (births_keep (births (new_names p r) p r) (end_old p.kind language p r).0 (births_named (new_names p r) p r new))

  apply_in_keeps : (q : Option Plan) (r : Runtime) → ((p : Plan) → q ≡ Some p → Names (new_names p r)) → Keeps r (apply_in q language r)
  apply_in_keeps None r new n = n
  apply_in_keeps (Some p) r new n = apply_keeps p r (new p refl) n

  abort_keeps : (q : Option Plan) (r : Runtime) → Keeps r (abort_in q language r)
  abort_keeps None r n = n
  abort_keeps (Some p) r n = by (cause_by r.cause language p r)
    where
      by : (o : Option Cause) → ClientNames (and_then (write_cause o r) (λ s. nothing (record s { page = given_up s.page; texts = []; pairs = []; cause = None }))).0
      by None = n
      by (Some cause) = n

  stage_keeps : (o : Outcome) (p : Plan) (m : Name) (v : ℕ) (t : Text) (r : Runtime) → Keeps r (stage o p m v t r)
  stage_keeps (Good a) p m v t r n = n
  stage_keeps (Bad fault) p m v t r n = n

  stage_in_keeps : (q : Option Plan) (m : Name) (v : ℕ) (t : Text) (r : Runtime) → Keeps r (stage_in q language m v t r)
  stage_in_keeps None m v t r n = n
  stage_in_keeps (Some p) m v t r n = stage_keeps (language.transformed m t) p m v t r n

  rest_named : (unsent : List Invalidation) → Each UnsentNamed unsent → Each UnsentNamed (without_first unsent)
  rest_named [] h = tt
  rest_named (i ∷ more) h = h.1

  lines_keep : (pairs : List (Name × Name)) (r : Runtime) → Keeps r (for_each (λ pair s. write (accept_line s.client pair) s) pairs r)
  lines_keep [] r n = n
  lines_keep (pair ∷ pairs) r n = lines_keep pairs r n

  done_keeps : (asked : ClientMsg) (r : Runtime) → ((p : Plan) → r.page.plan ≡ Some p → Names (new_names p r)) → Keeps r (done asked language r)
  done_keeps (request_is.Hello format names) r new n = n
  done_keeps request_is.Ask r new n = n
  done_keeps (request_is.Fetch m) r new n = n
  done_keeps (request_is.Applied table) r new n = apply_in_keeps r.page.plan r new n
  done_keeps (request_is.Aborted cause m from x) r new n = abort_keeps r.page.plan r n
  done_keeps (request_is.Invalidate m v text) r new n = (n.0, rest_named r.unsent n.1)
  done_keeps request_is.Bye r new n = n

  refused_keeps : (asked : ClientMsg) (r : Runtime) → Keeps r (took_refusal asked r)
  refused_keeps (request_is.Hello format names) r n = n
  refused_keeps request_is.Ask r n = n
  refused_keeps (request_is.Fetch m) r n = n
  refused_keeps (request_is.Applied table) r n = n
  refused_keeps (request_is.Aborted cause m from x) r n = n
  refused_keeps (request_is.Invalidate m v text) r n = (n.0, rest_named r.unsent n.1)
  refused_keeps request_is.Bye r n = n

  answered_keeps : (asked : ClientMsg) (m : ServerMsg) (r : Runtime) → ((p : Plan) → r.page.plan ≡ Some p → Names (new_names p r)) → Keeps r (answered language asked m r)
  answered_keeps asked (msg.Connected client roots) r new n = n
  answered_keeps asked (msg.Update replaced updates batch triggered) r new n =
      after_batch batch triggered r (start_update replaced (map pair_of updates)) ClientNames (lines_keep (map pair_of updates) r n)
  answered_keeps asked (msg.Prune paths) r new n = walked_pruning language Keeps walk paths r n
  answered_keeps asked (msg.FullReload cause path batch triggered) r new n =
      after_batch batch triggered r (start_reload (line.Reload r.client cause path)) ClientNames n
  answered_keeps asked (msg.Error m row column word) r new n = n
  answered_keeps asked (msg.Broken m row column word) r new n = n
  answered_keeps asked msg.Idle r new n = n
  answered_keeps asked msg.Done r new n = done_keeps asked r new n
  answered_keeps asked (msg.Text m v t) r new n = stage_in_keeps r.page.plan m v t r n
  answered_keeps asked (msg.Missing m) r new n = n
  answered_keeps asked (msg.NotYet m) r new n = n
  answered_keeps asked (msg.Refused number m told kept) r new n = refused_keeps asked r n

  -- ---- what comes to a client

  new_of : (r : Runtime) → PageNamed r.roots r.page → (p : Plan) → r.page.plan ≡ Some p → Names (new_names p r)
  new_of r h p e = new_are_named p r h.roots_are h.view (subst (λ q. IfSome q (λ p. ViewNamed p.staged)) e h.staged)

  pub take_keeps : (r : Runtime) (m : ServerMsg) → PageNamed r.roots r.page → ClientNames r → ClientNames (take language r m).after
  take_keeps r m h n = take_by language r m (λ did. ClientNames did.0) n n (λ asked needs a. answered_keeps asked m r (new_of r h) n)

  pub fire_keeps : (r : Runtime) (event : Name) (value : Value) → ClientNames r → ClientNames (fire language event value r).after
  fire_keeps r event value n = fire_by language r event value (λ did. ClientNames did.0) n (λ loaded none. handled_hear language Keeps handled event value (reverse (live_of (λ n. true) r)) r n)

pub begins_named : (opening : Opening) → ClientNames (new_runtime opening)
begins_named opening = (tt, tt)
