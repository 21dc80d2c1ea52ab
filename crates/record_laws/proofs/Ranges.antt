-- Events that a record can tell keep the ranges of a core: a result or an invalidation of what is no version
-- changes nothing.
use Rattle.std.proofs.Common.{◌≡◌, ℕ, Bool, true, false, List, [], ◌∷◌, refl, ap, sym, subst, arith}
use Rattle.std.specs.Prelude.{◌==◌, ◌&&◌, Option, Some, None, All, IfSome}
use Rattle.std.proofs.lemmas.Bool.Decides.{nat_tests}
use Rattle.std.specs.List.{AllByRecursion}
use Rattle.std.proofs.lemmas.List.Elements.{All-nil, recursion_from_All}
use Rattle.hmr_types.specs.Table.{is_version}
use Rattle.hmr_types.specs.declared.analysis.Outcome.{Outcome}
use Rattle.update_msgs.specs.Writable.{IsVersion}
use Rattle.core_model.specs.declared.refusal.Refusal.TheVariants.{Ignored, UnknownClient}
use Rattle.core_model.specs.Client.{Client}
use Rattle.core_model.specs.Core.{Core, Event, change, connect, request, disconnect, client_at, core_after, requested, step}
use Rattle.core_model.specs.Formed.{IsFormed, IsFormedOutcome, IsName}
use Rattle.core_model.specs.Names.{Name, at, same_name}
use Rattle.core_model.specs.Page.{Plan}
use Rattle.core_model.specs.Requests.{Request, ask, fetch, applied_as, aborted, invalidate, refused, invalidated_in, is_at_version, invalidate_reply, settled}
use Rattle.core_model.specs.Sources.{Text, Source, Sources, edit, result, late, is_awaited, is_outstanding, result_answer}
use Rattle.core_model.specs.View.{Entry}
use Rattle.core_laws.specs.Ranges.{ClientFits, CoreFits, IsWritableReply, SourceFits}
use Rattle.core_laws.specs.Refusing.{is_refusal}
use Rattle.core_laws.proofs.Keeping.{step_fits}
use Rattle.core_laws.proofs.Messaging.{after_fits, out_of_turn_fits, step_says}
use Rattle.core_laws.proofs.Refusing.{late_is_nothing, refused_is_nothing}
use Rattle.event_facts.specs.Tellable.{IsTellable}

-- ---- what is no version is that of nothing

other_version : (w v : ℕ) → IsVersion w → is_version v ≡ false → (w == v) ≡ false
other_version w v is isnt = let a = is.least in let b = is.most in grind (arith, nat_tests)

not_awaited : (o : Option Source) (t : Text) (v : ℕ) → IfSome o SourceFits → is_version v ≡ false → is_awaited o t v ≡ false
not_awaited None t v fits isnt = refl
not_awaited (Some s) t v fits isnt = ap (λ b. b && same_name s.text t && is_outstanding s.verdict) (other_version s.version v fits.version isnt)

is_late : (s : Sources) (n : Name) (t : Text) (o : Outcome) (v : ℕ) → IfSome (at s.current n) SourceFits → is_version v ≡ false → result_answer s n t o v ≡ late
is_late s n t o v fits isnt = let e = not_awaited (at s.current n) t v fits isnt in rw e refl

not_there : (o : Option Entry) (v : ℕ) → IfSome o (λ e. IsVersion e.version) → is_version v ≡ false → is_at_version o v ≡ false
not_there None v fits isnt = refl
not_there (Some e) v fits isnt = ap (λ b. b && e.analysis.self_accepts) (other_version e.version v fits isnt)

unknown_fits : IsWritableReply (refused UnknownClient)
unknown_fits format = record { coded = record { least = omega arith; most = omega arith }; named = refl; telling = refl; keeping = refl; told_most = tt; kept_most = tt }

ignored_fits : IsWritableReply (refused Ignored)
ignored_fits format = record { coded = record { least = omega arith; most = omega arith }; named = refl; telling = refl; keeping = refl; told_most = tt; kept_most = tt }

-- ---- an event keeps the ranges, and its reply can be written

pub record Goes (roots : List Name) (core : Core) (event : Event) : Type 0 where
  pub fits : CoreFits (step roots core event).0
  pub says : IsWritableReply (step roots core event).1

-- a refusal that can be written
abbrev IsRefused : List Name → Core → Event → Type 0
IsRefused roots core event = (is_refusal (step roots core event).1 ≡ true) × IsWritableReply (step roots core event).1

by_refusal : (roots : List Name) (core : Core) (event : Event) → CoreFits core → IsRefused roots core event → Goes roots core event
by_refusal roots core event f r = record { fits = subst CoreFits (sym (refused_is_nothing roots core event r.0)) f; says = r.1 }

module _ (roots : List Name) (core : Core) (f : CoreFits core) where
  late_goes : (n : Name) (t : Text) (o : Outcome) (v : ℕ) → is_version v ≡ false → Goes roots core (change (result n t o v))
  late_goes n t o v isnt =
      let e : (step roots core (change (result n t o v))).1 ≡ settled late = ap settled (is_late core.sources n t o v (f.sources.current n) isnt) in
      record { fits = subst CoreFits (sym (late_is_nothing roots core n t o v e)) f; says = tt }

  result_goes : (n : Name) (t : Text) (o : Outcome) (v : ℕ) (b : Bool) → is_version v ≡ b → IsName n → IsFormedOutcome o → Goes roots core (change (result n t o v))
  result_goes n t o v true e name outcome = record { fits = step_fits core f roots (change (result n t o v)) (name, e, outcome); says = step_says core f roots (change (result n t o v)) (name, e, outcome) }
  result_goes n t o v false e name outcome = late_goes n t o v e

  ignored_in : (i : ℕ) (n : Name) (v : ℕ) (c : Client) (plan : Option Plan) → ClientFits c → is_version v ≡ false
      → (is_refusal (invalidated_in plan n v c).1 ≡ true) × IsWritableReply (invalidated_in plan n v c).1
  ignored_in i n v c None fits isnt =
      let e : invalidate_reply (is_at_version (at c.page.view n) v) ≡ refused Ignored = ap invalidate_reply (not_there (at c.page.view n) v (fits.view n) isnt) in
      (ap is_refusal e, subst IsWritableReply (sym e) ignored_fits)
  ignored_in i n v c (Some p) fits isnt = (refl, out_of_turn_fits)

  ignored_of : (i : ℕ) (n : Name) (v : ℕ) (o : Option Client) → IfSome o ClientFits → is_version v ≡ false
      → (is_refusal (requested o i core (invalidate n v)).1 ≡ true) × IsWritableReply (requested o i core (invalidate n v)).1
  ignored_of i n v None fits isnt = (refl, unknown_fits)
  ignored_of i n v (Some c) fits isnt = ignored_in i n v c c.page.plan fits isnt

  invalidate_goes : (i : ℕ) (n : Name) (v : ℕ) (b : Bool) → is_version v ≡ b → IsName n → Goes roots core (request i (invalidate n v))
  invalidate_goes i n v true e name = record { fits = step_fits core f roots (request i (invalidate n v)) (name, e); says = step_says core f roots (request i (invalidate n v)) (name, e) }
  invalidate_goes i n v false e name =
      by_refusal roots core (request i (invalidate n v)) f (ignored_of i n v (client_at core.clients i) (f.clients i) e)

  request_goes : (i : ℕ) (r : Request) → IsTellable (request i r) → Goes roots core (request i r)
  request_goes i ask w = record { fits = step_fits core f roots (request i ask) w; says = step_says core f roots (request i ask) w }
  request_goes i (fetch n) w = record { fits = step_fits core f roots (request i (fetch n)) w; says = step_says core f roots (request i (fetch n)) w }
  request_goes i (applied_as table) w = record { fits = step_fits core f roots (request i (applied_as table)) w; says = step_says core f roots (request i (applied_as table)) w }
  request_goes i aborted w = record { fits = step_fits core f roots (request i aborted) w; says = step_says core f roots (request i aborted) w }
  request_goes i (invalidate n v) w = invalidate_goes i n v (is_version v) refl w

  pub goes : (event : Event) → IsTellable event → Goes roots core event
  goes (change (edit n t)) w = record { fits = step_fits core f roots (change (edit n t)) w; says = step_says core f roots (change (edit n t)) w }
  goes (change (result n t o v)) w = result_goes n t o v (is_version v) refl w.0 w.1
  goes (connect names) w = record { fits = step_fits core f roots (connect names) w; says = step_says core f roots (connect names) w }
  goes (request i r) w = request_goes i r w
  goes (disconnect i) w = record { fits = step_fits core f roots (disconnect i) w; says = step_says core f roots (disconnect i) w }

fits_by : (roots : List Name) (past : List Event) → AllByRecursion IsTellable past → CoreFits (core_after roots past)
fits_by roots [] w = after_fits roots [] (All-nil IsFormed)
fits_by roots (event ∷ past) w = (goes roots (core_after roots past) (fits_by roots past w.1) event w.0).fits

-- each message that is answered to such events can be written
pub tellable_says : (roots : List Name) (past : List Event) (event : Event) → All IsTellable past → IsTellable event → IsWritableReply (step roots (core_after roots past) event).1
tellable_says roots past event w one =
    (goes roots (core_after roots past) (fits_by roots past (recursion_from_All IsTellable past w)) event one).says
