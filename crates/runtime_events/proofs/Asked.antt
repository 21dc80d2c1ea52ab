-- What a request tells of its client.
use Rattle.std.proofs.Common.{◌≡◌, ℕ, Bool, true, false, List, [], ◌∷◌, refl, ap, sym, ◌∙◌}
use Rattle.std.specs.Prelude.{◌==◌, if◌then◌else◌, Option, Some, None}
use Rattle.std.proofs.lemmas.Bool.{eqb-true, false≢true}
use Rattle.update_msgs.specs.declared.message.AbortCause.{AbortCause}
use Rattle.update_msgs.specs.declared.message.ClientMsg.{ClientMsg}
use Rattle.update_msgs.specs.declared.message.ClientMsg.TheVariants as asks
use Rattle.update_msgs.specs.declared.message.ServerMsg.TheVariants as msg
use Rattle.core_model.specs.Names.{Name}
use Rattle.core_model.specs.Page.{Plan}
use Rattle.core_model.specs.Sources.{Text}
use Rattle.core_model.proofs.Naming.{not_true}
use Rattle.client_model.specs.Expecting.{is_answer}
use Rattle.client_model.specs.Linking.{link_cause, next_needed}
use Rattle.client_model.specs.Requesting.{abort_message, apply_or_abort, ask_or_invalidate, carry_on, fetch_or_finish, hello, request, request_by}
use Rattle.client_model.specs.Runtime as model
use Rattle.client_model.specs.Runtime.{Invalidation, Runtime}
use Rattle.module_language.specs.ModuleLanguage.{module_language}
use Rattle.client_plan.specs.UnderWay.{untold}
use Rattle.runtime_state.specs.Standing.{IsSound, Keeps}
use Rattle.runtime_state.specs.declared.runtime.HotRuntime.{HotRuntime}

-- what carries a plan on is a fetch, or tells that it was applied or given up
module _ (test : ClientMsg → Bool) (fetch : (n : Name) → test (asks.Fetch n) ≡ false) (applied : (table : List (Name × ℕ)) → test (asks.Applied table) ≡ false)
    (aborted : (cause : AbortCause) (n : Name) (from : Option Name) (x : Option Text) → test (asks.Aborted cause n from x) ≡ false) where
  given_up : (cause : model.Cause) → test (abort_message cause) ≡ false
  given_up (model.missing n) = aborted _ n None None
  given_up (model.broken n) = aborted _ n None None
  given_up (model.unlinked n m x) = aborted _ n (Some m) (Some x)

  ended : (o : Option model.Cause) (p : Plan) (r : Runtime) → test (apply_or_abort o p r) ≡ false
  ended None p r = applied _
  ended (Some cause) p r = given_up cause

  fetched : (o : Option Name) (at_links : Option model.Cause) (p : Plan) (r : Runtime) → test (fetch_or_finish o at_links p r) ≡ false
  fetched (Some n) at_links p r = fetch n
  fetched None at_links p r = ended at_links p r

  carried : (o : Option model.Cause) (p : Plan) (r : Runtime) → test (carry_on o module_language p r) ≡ false
  carried (Some cause) p r = given_up cause
  carried None p r = fetched (next_needed p r) (link_cause module_language p r) p r

-- what is there to do is asked
abbrev asking : ClientMsg → Bool
asking (asks.Hello format roots) = false
asking asks.Ask = true
asking (asks.Fetch n) = false
asking (asks.Applied table) = false
asking (asks.Aborted cause n from x) = false
asking (asks.Invalidate n v message) = false
asking asks.Bye = false

-- a client that asks what is there to do has no plan under way
pub ask_plan : (r : Runtime) → request module_language r ≡ asks.Ask → r.page.plan ≡ None
ask_plan r e = by (r.client == 0) r.page.plan e
  where
    by : (b : Bool) (o : Option Plan) → (if b then hello r else request_by o module_language r) ≡ asks.Ask → o ≡ None
    by true o e = absurd (false≢true (ap asking e))
    by false None e = refl
    by false (Some p) e = absurd (false≢true (sym (carried asking (λ n. refl) (λ table. refl) (λ cause n from x. refl) r.cause p r) ∙ ap asking e))

-- modules to be pruned are an answer to that alone
pub prune_asked : (loaded : Bool) (asked : ClientMsg) (paths : List Name) → is_answer loaded asked (msg.Prune paths) ≡ true → asked ≡ asks.Ask
prune_asked loaded (asks.Hello format roots) paths e = absurd (false≢true e)
prune_asked loaded asks.Ask paths e = refl
prune_asked loaded (asks.Fetch n) paths e = absurd (false≢true e)
prune_asked loaded (asks.Applied table) paths e = absurd (false≢true e)
prune_asked loaded (asks.Aborted cause n from x) paths e = absurd (false≢true e)
prune_asked loaded (asks.Invalidate n v message) paths e = absurd (false≢true e)
prune_asked loaded asks.Bye paths e = absurd (false≢true e)

-- a number is asked for
abbrev greeting : ClientMsg → Bool
greeting (asks.Hello format roots) = true
greeting asks.Ask = false
greeting (asks.Fetch n) = false
greeting (asks.Applied table) = false
greeting (asks.Aborted cause n from x) = false
greeting (asks.Invalidate n v message) = false
greeting asks.Bye = false

ungreeting : (unsent : List Invalidation) → greeting (ask_or_invalidate unsent) ≡ false
ungreeting [] = refl
ungreeting (i ∷ more) = refl

untold_greeting : (asked : ClientMsg) → greeting asked ≡ greeting (untold asked)
untold_greeting (asks.Hello format roots) = refl
untold_greeting asks.Ask = refl
untold_greeting (asks.Fetch n) = refl
untold_greeting (asks.Applied table) = refl
untold_greeting (asks.Aborted cause n from x) = refl
untold_greeting (asks.Invalidate n v message) = refl
untold_greeting asks.Bye = refl

-- a client that greets has none
greeting_unnumbered : (r : Runtime) → greeting (request module_language r) ≡ true → r.client ≡ 0
greeting_unnumbered r e = by (r.client == 0) refl r.page.plan e
  where
    by : (b : Bool) → (r.client == 0) ≡ b → (o : Option Plan) → greeting (if b then hello r else request_by o module_language r) ≡ true → r.client ≡ 0
    by true t o e = eqb-true r.client 0 t
    by false t None e = absurd (false≢true (sym (ungreeting r.unsent) ∙ e))
    by false t (Some p) e = absurd (false≢true (sym (carried greeting (λ n. refl) (λ table. refl) (λ cause n from x. refl) r.cause p r) ∙ e))

-- a client is connected only where its page isn't loaded
pub connect_asked : {F : Type 0} (r : Runtime) (h : HotRuntime F) (asked : ClientMsg) (client : ℕ) (roots : List Name) → Keeps r h → IsSound h → untold (request module_language r) ≡ asked
    → is_answer h.loaded asked (msg.Connected client roots) ≡ true → h.loaded ≡ false
connect_asked r h (asks.Hello format named) client roots k s e t = s.unnumbered (sym k.page.client ∙ greeting_unnumbered r (untold_greeting (request module_language r) ∙ ap greeting e))
connect_asked r h asks.Ask client roots k s e t = not_true h.loaded t
connect_asked r h (asks.Fetch n) client roots k s e t = absurd (false≢true t)
connect_asked r h (asks.Applied table) client roots k s e t = absurd (false≢true t)
connect_asked r h (asks.Aborted cause n from x) client roots k s e t = absurd (false≢true t)
connect_asked r h (asks.Invalidate n v message) client roots k s e t = absurd (false≢true t)
connect_asked r h asks.Bye client roots k s e t = absurd (false≢true t)
