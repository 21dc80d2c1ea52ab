-- A turn that goes on: the client's record and its runtime are what its request and the answer make.
use Rattle.std.proofs.Common.{◌≡◌, ℕ, ◌≤◌, Bool, true, false, List, [], ◌∷◌, refl, ap, sym, ◌∙◌, arith}
use Rattle.std.specs.Prelude.{◌==◌, not, Option, Some, None, is_some, if◌then◌else◌, ⊤}
use Prim.{⊥}
use Rattle.std.proofs.Math.Path.{subst}
use Rattle.std.proofs.lemmas.Bool.{false≢true, eqb-true}
use Rattle.update_msgs.specs.declared.message.ClientMsg.{ClientMsg}
use Rattle.update_msgs.specs.declared.message.ClientMsg.TheVariants as told
use Rattle.update_msgs.specs.declared.message.ServerMsg.{ServerMsg}
use Rattle.core_model.specs.Names.{Name}
use Rattle.core_model.specs.Sources.{Sources}
use Rattle.core_model.specs.Client.{Client}
use Rattle.core_model.specs.Page.{Plan}
use Rattle.core_model.specs.Requests.{Reply, gone, ask, fetch, applied_as, aborted, invalidate, heard}
use Rattle.core_model.specs.Core.{Core, step, requested, client_at, with_client}
use Rattle.core_model.specs.Exchange.{event_of, message_for}
use Rattle.core_model.proofs.Clients.{at_with}
use Rattle.client_model.specs.Language.{Language}
use Rattle.client_model.specs.Runtime.{Runtime, Cause, missing, broken, unlinked, Invalidation}
use Rattle.client_model.specs.Linking.{next_needed, link_cause}
use Rattle.client_model.specs.Requesting.{ask_or_invalidate, abort_message, apply_or_abort, fetch_or_finish, carry_on, request_by, request}
use Rattle.client_model.specs.Answering.{answered}
use Rattle.client_model.specs.Expecting.{is_answer, request_place, answer_place}
use Rattle.client_model.specs.Taking.{unexpected, instances_full, is_stopped, Taking, unchanged_by, did_take, stop, is_too_many}
use Rattle.world_model.specs.World.{World}
use Rattle.world_model.specs.Turning.{lines_taken, take_some, turn_of}
use Rattle.world_model.specs.Ties.{IsUnderstood, UnderstandsAt}
use Rattle.world_model.proofs.Tying.{IsSound, understands}
use Rattle.world_model.proofs.Fitting.{heard_roots}

-- what the request makes of the record, and the reply
abbrev pub heard_by : ClientMsg → ℕ → Sources → Client → Client × Reply
heard_by (told.Hello format names) i s c = (c, gone)
heard_by told.Ask i s c = heard i s c ask
heard_by (told.Fetch n) i s c = heard i s c (fetch n)
heard_by (told.Applied table) i s c = heard i s c (applied_as table)
heard_by (told.Aborted cause n from x) i s c = heard i s c aborted
heard_by (told.Invalidate n v message) i s c = heard i s c (invalidate n v)
heard_by told.Bye i s c = (c, gone)

-- a request leaves the roots of the record
pub heard_by_roots : (asked : ClientMsg) (i : ℕ) (s : Sources) (c : Client) → (heard_by asked i s c).0.roots ≡ c.roots
heard_by_roots (told.Hello format names) i s c = refl
heard_by_roots told.Ask i s c = heard_roots i s c ask
heard_by_roots (told.Fetch n) i s c = heard_roots i s c (fetch n)
heard_by_roots (told.Applied table) i s c = heard_roots i s c (applied_as table)
heard_by_roots (told.Aborted cause n from x) i s c = heard_roots i s c aborted
heard_by_roots (told.Invalidate n v message) i s c = heard_roots i s c (invalidate n v)
heard_by_roots told.Bye i s c = refl

-- what the answer makes of the runtime, where there is one
abbrev pub done_some : Language → ClientMsg → Option ServerMsg → Runtime → Runtime
done_some language asked None r = r
done_some language asked (Some m) r = (answered language asked m r).0

abbrev pub done_by : Language → ClientMsg → Reply → Runtime → Runtime
done_by language asked reply r = done_some language asked (message_for r.format reply) r

-- the answer, where there is one, is one to the request
abbrev pub is_answered : Bool → ClientMsg → Option ServerMsg → Bool
is_answered loaded asked None = true
is_answered loaded asked (Some m) = is_answer loaded asked m

abbrev pub IsRequest : ClientMsg → Type 0
IsRequest (told.Hello format names) = ⊥
IsRequest told.Ask = ⊤
IsRequest (told.Fetch n) = ⊤
IsRequest (told.Applied table) = ⊤
IsRequest (told.Aborted cause n from x) = ⊤
IsRequest (told.Invalidate n v message) = ⊤
IsRequest told.Bye = ⊥

by_cause : (cause : Cause) → IsRequest (abort_message cause)
by_cause (missing n) = tt
by_cause (broken n) = tt
by_cause (unlinked n m x) = tt

by_links : (cause : Option Cause) (p : Plan) (r : Runtime) → IsRequest (apply_or_abort cause p r)
by_links None p r = tt
by_links (Some cause) p r = by_cause cause

by_needed : (o : Option Name) (cause : Option Cause) (p : Plan) (r : Runtime) → IsRequest (fetch_or_finish o cause p r)
by_needed (Some n) cause p r = tt
by_needed None cause p r = by_links cause p r

by_found : (cause : Option Cause) (language : Language) (p : Plan) (r : Runtime) → IsRequest (carry_on cause language p r)
by_found (Some cause) language p r = by_cause cause
by_found None language p r = by_needed (next_needed p r) (link_cause language p r) p r

by_unsent : (unsent : List Invalidation) → IsRequest (ask_or_invalidate unsent)
by_unsent [] = tt
by_unsent (i ∷ more) = tt

pub is_request : (plan : Option Plan) (language : Language) (r : Runtime) → IsRequest (request_by plan language r)
is_request None language r = by_unsent r.unsent
is_request (Some p) language r = by_found r.cause language p r

pub step_by : (asked : ClientMsg) (roots : List Name) (i : ℕ) (core : Core) (c : Client) → IsRequest asked → client_at core.clients i ≡ Some c
    → step roots core (event_of i asked) ≡ (record core { clients = with_client i (heard_by asked i core.sources c).0 core.clients }, (heard_by asked i core.sources c).1)
step_by (told.Hello format names) roots i core c h e = absurd h
step_by told.Ask roots i core c h e = ap (λ o. requested o i core ask) e
step_by (told.Fetch n) roots i core c h e = ap (λ o. requested o i core (fetch n)) e
step_by (told.Applied table) roots i core c h e = ap (λ o. requested o i core (applied_as table)) e
step_by (told.Aborted cause n from x) roots i core c h e = ap (λ o. requested o i core aborted) e
step_by (told.Invalidate n v message) roots i core c h e = ap (λ o. requested o i core (invalidate n v)) e
step_by told.Bye roots i core c h e = absurd h

not_new : (b : Bool) (x y : ClientMsg) → (b ≡ true → ⊥) → (if b then x else y) ≡ y
not_new true x y f = absurd (f refl)
not_new false x y f = refl

pub request_is : (language : Language) (r : Runtime) → 1 ≤ r.client → request language r ≡ request_by r.page.plan language r
request_is language r counted = not_new (r.client == 0) _ _ (λ h. omega (arith, counted, eqb-true r.client 0 h))

-- an answer that was understood and that goes on is taken
record WasTaken (language : Language) (r : Runtime) (m : Option ServerMsg) (taking : Taking) : Type 0 where
  answers : is_answered r.page.loaded (request language r) m ≡ true
  after : taking.after ≡ done_some language (request language r) m r

taken_if : (language : Language) (r : Runtime) (m : ServerMsg) (stopped full : Bool) → (answers : Bool) → is_answer r.page.loaded (request language r) m ≡ answers → (first second third : Taking) → first.answer ≡ is_stopped → (second.answer ≡ unexpected (request_place (request language r)) (answer_place m)) → third.answer ≡ instances_full
    → IsUnderstood (if stopped then first else (if not answers then second else (if full then third else did_take (answered language (request language r) m r)))).answer
    → is_some (lines_taken (if stopped then first else (if not answers then second else (if full then third else did_take (answered language (request language r) m r)))).answer) ≡ true
    → WasTaken language r (Some m) (if stopped then first else (if not answers then second else (if full then third else did_take (answered language (request language r) m r))))
taken_if language r m true full answers a first second third e f g h some = absurd (subst IsUnderstood e h)
taken_if language r m false full false a first second third e f g h some = absurd (subst IsUnderstood f h)
taken_if language r m false true true a first second third e f g h some = absurd (false≢true (sym (ap (λ x. is_some (lines_taken x)) g) ∙ some))
taken_if language r m false false true a first second third e f g h some = record { answers = a; after = refl }

was_taken : (language : Language) (r : Runtime) (m : Option ServerMsg) → IsUnderstood (take_some language r m).answer → is_some (lines_taken (take_some language r m).answer) ≡ true → WasTaken language r m (take_some language r m)
was_taken language r None h some = record { answers = refl; after = refl }
was_taken language r (Some m) h some =
    let asks : ClientMsg = request language r in
    taken_if language r m r.stopped (is_too_many asks m r) (is_answer r.page.loaded asks m) refl (unchanged_by is_stopped r) (unchanged_by (unexpected (request_place asks) (answer_place m)) r) (stop r) refl refl refl h some

-- the turn of an open client, part by part
pub record Turned (language : Language) (w after : World) (i : ℕ) (c : Client) (r : Runtime) : Type 0 where
  pub answers : is_answered r.page.loaded (request_by r.page.plan language r) (message_for r.format (heard_by (request_by r.page.plan language r) i w.core.sources c).1) ≡ true
  pub clients : (j : ℕ) → client_at after.core.clients j ≡ (if i == j then Some (heard_by (request_by r.page.plan language r) i w.core.sources c).0 else client_at w.core.clients j)
  pub runtimes : (j : ℕ) → client_at after.clients j ≡ (if i == j then Some (done_by language (request_by r.page.plan language r) (heard_by (request_by r.page.plan language r) i w.core.sources c).1 r) else client_at w.clients j)
  pub sources : after.core.sources ≡ w.core.sources

turned_as : (language : Language) (roots : List Name) (w : World) (i : ℕ) (c : Client) (r : Runtime) (asked : ClientMsg) → request language r ≡ asked → IsRequest asked → client_at w.core.clients i ≡ Some c
    → UnderstandsAt language roots w i (Some r) → is_some (turn_of language roots i w (Some r)).lines ≡ true
    → (is_answered r.page.loaded asked (message_for r.format (heard_by asked i w.core.sources c).1) ≡ true)
    × ((j : ℕ) → client_at (turn_of language roots i w (Some r)).world.core.clients j ≡ (if i == j then Some (heard_by asked i w.core.sources c).0 else client_at w.core.clients j))
    × ((j : ℕ) → client_at (turn_of language roots i w (Some r)).world.clients j ≡ (if i == j then Some (done_by language asked (heard_by asked i w.core.sources c).1 r) else client_at w.clients j))
    × ((turn_of language roots i w (Some r)).world.core.sources ≡ w.core.sources)
turned_as language roots w i c r asked e is there understood some =
    let after : Core × Reply = step roots w.core (event_of i (request language r)) in
    let stepped : after ≡ (record w.core { clients = with_client i (heard_by asked i w.core.sources c).0 w.core.clients }, (heard_by asked i w.core.sources c).1)
    = ap (λ m. step roots w.core (event_of i m)) e ∙ step_by asked roots i w.core c is there in
    let t : WasTaken language r (message_for r.format after.1) (take_some language r (message_for r.format after.1)) = was_taken language r (message_for r.format after.1) understood some in (
      subst (λ m. is_answered r.page.loaded m (message_for r.format (heard_by asked i w.core.sources c).1) ≡ true) e (subst (λ (x : Core × Reply). is_answered r.page.loaded (request language r) (message_for r.format x.1) ≡ true) stepped t.answers),
      (λ j. ap (λ (x : Core × Reply). client_at x.0.clients j) stepped ∙ at_with i (heard_by asked i w.core.sources c).0 w.core.clients j),
      (λ j. at_with i (take_some language r (message_for r.format after.1)).after w.clients j
          ∙ ap (λ x. if i == j then Some x else client_at w.clients j) (t.after ∙ ap (λ m. done_some language m (message_for r.format after.1) r) e ∙ ap (λ (x : Core × Reply). done_by language asked x.1 r) stepped)),
      ap (λ (x : Core × Reply). x.0.sources) stepped,
    )

pub turned : (language : Language) (roots : List Name) (w : World) (i : ℕ) (c : Client) (r : Runtime) → IsSound language w → client_at w.core.clients i ≡ Some c → client_at w.clients i ≡ Some r → 1 ≤ r.client
    → is_some (turn_of language roots i w (Some r)).lines ≡ true → Turned language w (turn_of language roots i w (Some r)).world i c r
turned language roots w i c r sound there open_is counted some =
    let t = turned_as language roots w i c r (request_by r.page.plan language r) (request_is language r counted) (is_request r.page.plan language r) there (subst (UnderstandsAt language roots w i) open_is (understands language roots w sound i)) some in
    record { answers = t.0; clients = t.1; runtimes = t.2; sources = t.3 }
