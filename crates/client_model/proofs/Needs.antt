-- What holds of a client where each of its requests stands.
use Rattle.std.proofs.Common.{◌≡◌, Bool, true, false, List, [], ◌∷◌, refl, sym, ◌∙◌}
use Rattle.std.specs.Prelude.{◌==◌, Option, Some, None, if◌then◌else◌, ⊤}
use Rattle.std.proofs.Math.Path.{subst}
use Rattle.std.proofs.lemmas.Bool.{false≢true}
use Rattle.std.proofs.lemmas.Option.{same_Some}
use Rattle.update_msgs.specs.declared.message.ClientMsg.{ClientMsg}
use Rattle.update_msgs.specs.declared.message.ClientMsg.TheVariants as request_is
use Rattle.update_msgs.specs.declared.message.ServerMsg.TheVariants as msg
use Rattle.core_model.specs.Names.{Name}
use Rattle.core_model.specs.Page.{Plan}
use Rattle.client_model.specs.Language.{Language}
use Rattle.client_model.specs.Runtime.{Runtime, Cause, missing, broken, unlinked, Invalidation}
use Rattle.client_model.specs.Linking.{next_needed, link_cause}
use Rattle.client_model.specs.Requesting.{request, hello, request_by, carry_on, fetch_or_finish, apply_or_abort, abort_message, ask_or_invalidate}
use Rattle.client_model.specs.Expecting.{is_answer}

-- all is fetched, and every new instance can be linked
abbrev pub IsDue : Language → Plan → Runtime → Type 0
IsDue language p r = (next_needed p r ≡ None) × (link_cause language p r ≡ None)

abbrev pub Needs : Language → ClientMsg → Runtime → Type 0
Needs language (request_is.Hello format roots) r = (r.client == 0) ≡ true
Needs language request_is.Ask r = r.page.plan ≡ None
Needs language (request_is.Fetch n) r = ⊤
Needs language (request_is.Applied table) r = ((r.client == 0) ≡ false) × ((p : Plan) → r.page.plan ≡ Some p → IsDue language p r)
Needs language (request_is.Aborted cause n m x) r = ⊤
Needs language (request_is.Invalidate n v message) r = ⊤
Needs language request_is.Bye r = ⊤

module _ (language : Language) (r : Runtime) where
  abort_needs : (cause : Cause) → Needs language (abort_message cause) r
  abort_needs (missing n) = tt
  abort_needs (broken n) = tt
  abort_needs (unlinked n m x) = tt

  unsent_needs : (unsent : List Invalidation) → r.page.plan ≡ None → Needs language (ask_or_invalidate unsent) r
  unsent_needs [] e = e
  unsent_needs (i ∷ more) e = tt

  link_needs : (cause : Option Cause) (p : Plan) → (r.client == 0) ≡ false → r.page.plan ≡ Some p → next_needed p r ≡ None → link_cause language p r ≡ cause → Needs language (apply_or_abort cause p r) r
  link_needs None p c e needed linked = (c, λ q f. subst (λ x. IsDue language x r) (same_Some p q (sym e ∙ f)) (needed, linked))
  link_needs (Some cause) p c e needed linked = abort_needs cause

  fetch_needs : (o : Option Name) (p : Plan) → (r.client == 0) ≡ false → r.page.plan ≡ Some p → next_needed p r ≡ o → Needs language (fetch_or_finish o (link_cause language p r) p r) r
  fetch_needs None p c e needed = link_needs (link_cause language p r) p c e needed refl
  fetch_needs (Some n) p c e needed = tt

  carry_needs : (cause : Option Cause) (p : Plan) → (r.client == 0) ≡ false → r.page.plan ≡ Some p → Needs language (carry_on cause language p r) r
  carry_needs None p c e = fetch_needs (next_needed p r) p c e refl
  carry_needs (Some cause) p c e = abort_needs cause

  plan_needs : (q : Option Plan) → (r.client == 0) ≡ false → r.page.plan ≡ q → Needs language (request_by q language r) r
  plan_needs None c e = unsent_needs r.unsent e
  plan_needs (Some p) c e = carry_needs r.cause p c e

  hello_needs : (b : Bool) → (r.client == 0) ≡ b → Needs language (if b then hello r else request_by r.page.plan language r) r
  hello_needs true e = e
  hello_needs false e = plan_needs r.page.plan e refl

  pub request_needs : Needs language (request language r) r
  request_needs = hello_needs (r.client == 0) refl

-- modules are pruned only at an ask of a page that is loaded
pub prunes_at_ask : (language : Language) (asked : ClientMsg) (names : List Name) (r : Runtime) → Needs language asked r → is_answer r.page.loaded asked (msg.Prune names) ≡ true → (r.page.plan ≡ None) × (r.page.loaded ≡ true)
prunes_at_ask language (request_is.Hello format roots) names r n a = absurd (false≢true a)
prunes_at_ask language request_is.Ask names r n a = (n, a)
prunes_at_ask language (request_is.Fetch m) names r n a = absurd (false≢true a)
prunes_at_ask language (request_is.Applied table) names r n a = absurd (false≢true a)
prunes_at_ask language (request_is.Aborted cause m from x) names r n a = absurd (false≢true a)
prunes_at_ask language (request_is.Invalidate m v message) names r n a = absurd (false≢true a)
prunes_at_ask language request_is.Bye names r n a = absurd (false≢true a)
