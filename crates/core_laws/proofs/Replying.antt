-- The reply to an Ask is a full reload exactly where one is to be sent.
use Rattle.std.proofs.Common.{◌≡◌, ◌↔◌, ℕ, List, refl, ap, sym, ◌∙◌}
use Rattle.std.specs.Prelude.{Option, Some, None, is_some, IfSome, IfNone}
use Prim.{⊥}
use Rattle.std.proofs.Math.Path.{subst}
use Rattle.std.proofs.lemmas.Bool.{false≢true}
use Rattle.hmr_types.specs.declared.words.ReloadCause.{ReloadCause}
use Rattle.update_msgs.specs.declared.message.ServerMsg.{ServerMsg}
use Rattle.update_msgs.specs.declared.message.ServerMsg.TheVariants as msg
use Rattle.core_model.specs.Names.{Name}
use Rattle.core_model.specs.Sources.{Sources}
use Rattle.core_model.specs.Spread.{cause_of, IsReason, IsReloadWanted}
use Rattle.core_model.specs.Client.{Client, changed, reason, triggered, next_batch}
use Rattle.core_model.specs.Asking.{AskRow, out_of_turn, tell, load, idle, prune, reload, update, ask_row, asked}
use Rattle.core_model.specs.Sent.{IsReloadSent}
use Rattle.core_model.specs.Requests.{ask, Reply, edited, settled, to_client, refused, gone, ask_reply, heard}
use Rattle.core_model.specs.Core.{Core, request, client_at, requested, step}
use Rattle.core_model.proofs.Sending.{reload_is}
use Rattle.core_model.proofs.Spreading.{reason_is}
use Rattle.core_laws.specs.Reloading.{IsFullReload, IsReloadDue}

-- what a full reload tells
abbrev told_in : ServerMsg → Option (ReloadCause × List Name × ℕ × List Name)
told_in (msg.Connected client roots) = None
told_in (msg.Update replaced updates batch triggered) = None
told_in (msg.Prune paths) = None
told_in (msg.FullReload cause path batch names) = Some (cause, path, batch, names)
told_in (msg.Error path line column kind) = None
told_in (msg.Broken path line column kind) = None
told_in msg.Idle = None
told_in msg.Done = None
told_in (msg.Text path version text) = None
told_in (msg.Missing path) = None
told_in (msg.NotYet path) = None
told_in (msg.Refused code path told kept) = None

abbrev told : Reply → Option (ReloadCause × List Name × ℕ × List Name)
told (edited answer) = None
told (settled answer) = None
told (to_client m) = told_in m
told (refused refusal) = None
told gone = None

abbrev Reload : Type 0
Reload = ReloadCause × List Name × ℕ × List Name

abbrev or_told : Reload → Option Reload → Reload
or_told d None = d
or_told d (Some x) = x

module _ (i : ℕ) (s : Sources) (c : Client) (cause : ReloadCause) (path : List Name) (batch : ℕ) (names : List Name) where
  other : (reply : Reply) → told reply ≡ None → reply ≡ to_client (msg.FullReload cause path batch names) → ⊥
  other reply e f = false≢true (ap is_some (sym e ∙ ap told f))

  abbrev IsOfClient : Type 0
  IsOfClient = (cause ≡ cause_of c.page.view path) × (batch ≡ next_batch c.batches) × (names ≡ triggered s c)

  reply_is : (row : AskRow) → ask_reply i s (asked row s c) row ≡ to_client (msg.FullReload cause path batch names) → IsOfClient × (row ≡ reload path)
  reply_is out_of_turn e = absurd (other _ refl e)
  reply_is (tell n fault) e = absurd (other _ refl e)
  reply_is load e = absurd (other _ refl e)
  reply_is idle e = absurd (other _ refl e)
  reply_is (prune ns) e = absurd (other _ refl e)
  reply_is (reload way) e =
      let f : (cause_of c.page.view way, way, next_batch c.batches, triggered s c) ≡ (cause, path, batch, names) = ap (λ reply. or_told (cause, path, batch, names) (told reply)) e in
      let p : way ≡ path = ap (λ (x : Reload). x.1) f in
      ((sym (ap (λ (x : Reload). x.0) f) ∙ ap (cause_of c.page.view) p, sym (ap (λ (x : Reload). x.2) f), sym (ap (λ (x : Reload). x.3) f)), ap reload p)
  reply_is (update ns ps) e = absurd (other _ refl e)

  abbrev IsTold : Type 0
  IsTold = (cause ≡ cause_of c.page.view path) × (batch ≡ next_batch c.batches) × (names ≡ triggered s c) × IsReloadSent s c path

  pub reload_reply : ((heard i s c ask).1 ≡ to_client (msg.FullReload cause path batch names)) ↔ IsTold
  reload_reply = (
    (λ e. let r = reply_is (ask_row s c) e in (r.0.0, r.0.1, r.0.2, (reload_is path s c).0 r.1)),
    (λ h. ap (λ row. ask_reply i s (asked row s c) row) ((reload_is path s c).1 h.3)
        ∙ ap (λ x. to_client (msg.FullReload x path (next_batch c.batches) (triggered s c))) (sym h.0)
        ∙ ap (λ x. to_client (msg.FullReload cause path x (triggered s c))) (sym h.1)
        ∙ ap (λ x. to_client (msg.FullReload cause path batch x)) (sym h.2)),
  )

-- the reply of the core
pub reload_answered : (roots : List Name) (core : Core) (i : ℕ) (c : Client) (cause : ReloadCause) (path : List Name) (batch : ℕ) (names : List Name) → client_at core.clients i ≡ Some c
    → ((step roots core (request i ask)).1 ≡ to_client (msg.FullReload cause path batch names)) ↔ IsTold i core.sources c cause path batch names
reload_answered roots core i c cause path batch names e = subst (λ o. ((requested o i core ask).1 ≡ to_client (msg.FullReload cause path batch names)) ↔ IsTold i core.sources c cause path batch names) (sym e) (reload_reply i core.sources c cause path batch names)

-- a reload is the reply exactly where one is due
module _ (roots : List Name) (core : Core) (i : ℕ) (c : Client) (e : client_at core.clients i ≡ Some c) where
  due_of : (path : List Name) → IsReloadSent core.sources c path → IsReloadDue core.sources c
  due_of path h = record { idle = h.idle; told = h.told; loaded = h.loaded; whole = h.whole; free = h.free; wanted = record { end = h.reason.end; path = record { path = path; is = h.reason.is }; badly = h.reason.badly } }

  by_reason : (o : Option (List Name)) → IfSome o (IsReason c.page.view c.roots (changed core.sources c) c.page.forced) → IfNone o (IsReloadWanted c.page.view c.roots (changed core.sources c) c.page.forced → ⊥) → IsReloadDue core.sources c → IsFullReload (step roots core (request i ask)).1
  by_reason None some none h = absurd (none h.wanted)
  by_reason (Some path) some none h = record {
    cause = cause_of c.page.view path;
    path = path;
    batch = next_batch c.batches;
    triggered = triggered core.sources c;
    is = (reload_answered roots core i c (cause_of c.page.view path) path (next_batch c.batches) (triggered core.sources c) e).1 (refl, refl, refl, record { idle = h.idle; told = h.told; loaded = h.loaded; whole = h.whole; free = h.free; reason = some });
  }

  pub reload_exactly : IsFullReload (step roots core (request i ask)).1 ↔ IsReloadDue core.sources c
  reload_exactly = (
    (λ f. due_of f.path ((reload_answered roots core i c f.cause f.path f.batch f.triggered e).0 f.is).3),
    (λ h. let r = reason_is c.page.view c.roots (changed core.sources c) c.page.forced in by_reason (reason core.sources c) r.0 r.1 h),
  )
