-- An Ask is answered by a full reload exactly where one is to be sent.
use Rattle.std.proofs.Common.{◌≡◌, ◌↔◌, ℕ, true, false, List, refl, ap, sym, ◌∙◌}
use Rattle.std.specs.Prelude.{Option, Some, None, is_some, Result, IfOk}
use Rattle.std.specs.declared.alloc.AllocError.{AllocError}
use Rattle.std.proofs.Math.Path.{subst}
use Rattle.std.proofs.lemmas.Bool.{false≢true}
use Rattle.core_model.specs.Names.{Name}
use Rattle.core_model.specs.Sources.{Sources}
use Rattle.core_model.specs.Client.{Client}
use Rattle.core_model.specs.Asking.{AskRow, out_of_turn, tell, load, idle, prune, reload, update, ask_row, asked}
use Rattle.core_model.specs.Requests.{ask, ask_reply}
use Rattle.core_model.specs.Sent.{IsReloadSent}
use Rattle.core_model.specs.Core.{Event, request, client_at, requested, step, core_after}
use Rattle.core_model.proofs.Sending.{reload_is}
use Rattle.events_and_replies.specs.declared.event.Reply.{Reply}
use Rattle.server_core.specs.Kept.{Kept, StandsFor, IsStep}
use Rattle.events_and_replies.specs.Said.{said, reload_path}
use Rattle.server_core.proofs.Stepping.{if_ok}

abbrev path_or : List Name → Option (List Name) → List Name
path_or d None = d
path_or d (Some path) = path

path_of : List Name → AskRow → List Name
path_of d out_of_turn = d
path_of d (tell n fault) = d
path_of d load = d
path_of d idle = d
path_of d (prune ns) = d
path_of d (reload path) = path
path_of d (update ns ps) = d

-- the path of a row, if it has one
abbrev told_of_row : AskRow → Option (List Name)
told_of_row out_of_turn = None
told_of_row (tell n fault) = None
told_of_row load = None
told_of_row idle = None
told_of_row (prune ns) = None
told_of_row (reload path) = Some path
told_of_row (update ns ps) = None

row_told : (i : ℕ) (s : Sources) (c : Client) (row : AskRow) → reload_path (said (ask_reply i s c row)) ≡ told_of_row row
row_told i s c out_of_turn = refl
row_told i s c (tell n fault) = refl
row_told i s c load = refl
row_told i s c idle = refl
row_told i s c (prune ns) = refl
row_told i s c (reload path) = refl
row_told i s c (update ns ps) = refl

row_of_path : (path : List Name) (row : AskRow) → told_of_row row ≡ Some path → row ≡ reload path
row_of_path path out_of_turn e = absurd (false≢true (ap is_some e))
row_of_path path (tell n fault) e = absurd (false≢true (ap is_some e))
row_of_path path load e = absurd (false≢true (ap is_some e))
row_of_path path idle e = absurd (false≢true (ap is_some e))
row_of_path path (prune ns) e = absurd (false≢true (ap is_some e))
row_of_path path (reload p) e = ap (λ o. reload (path_or p o)) e
row_of_path path (update ns ps) e = absurd (false≢true (ap is_some e))

-- the reply that the definitions give tells this path exactly where the reload is to be sent
told_exactly : (roots : List Name) (past : List Event) (i : ℕ) (c : Client) (path : List Name) (reply : Reply) → client_at (core_after roots past).clients i ≡ Some c → said (step roots (core_after roots past) (request i ask)).1 ≡ reply → (reload_path reply ≡ Some path) ↔ IsReloadSent (core_after roots past).sources c path
told_exactly roots past i c path reply is e =
    let core = core_after roots past in
    let row = ask_row core.sources c in
    let told : reload_path reply ≡ told_of_row row = ap reload_path (sym e ∙ ap (λ o. said (requested o i core ask).1) is) ∙ row_told i core.sources (asked row core.sources c) row in
    let law = reload_is path core.sources c in (
      (λ h. law.0 (row_of_path path row (sym told ∙ h))),
      (λ h. told ∙ ap told_of_row (law.1 h)),
    )

asked_exactly : (roots : List Name) (past : List Event) (event : Event) (i : ℕ) (c : Client) (path : List Name) (reply : Reply) → client_at (core_after roots past).clients i ≡ Some c → event ≡ request i ask → said (step roots (core_after roots past) event).1 ≡ reply → (reload_path reply ≡ Some path) ↔ IsReloadSent (core_after roots past).sources c path
asked_exactly roots past event i c path reply is e r = told_exactly roots past i c path reply is (subst (λ (v : Event). said (step roots (core_after roots past) v).1 ≡ reply) e r)

pub reload_step : (event : Event) (old new : Kept) (result : Result Reply AllocError) → IsStep event old new result → (past : List Event) (i : ℕ) (c : Client) (path : List Name) → StandsFor past old → event ≡ request i ask → client_at (core_after old.roots past).clients i ≡ Some c
    → IfOk result (λ reply. (reload_path reply ≡ Some path) ↔ IsReloadSent (core_after old.roots past).sources c path)
reload_step event old new result h past i c path g e is =
    if_ok result (λ (reply : Reply). said (step old.roots (core_after old.roots past) event).1 ≡ reply) (λ (reply : Reply). (reload_path reply ≡ Some path) ↔ IsReloadSent (core_after old.roots past).sources c path)
    (λ (reply : Reply) r. asked_exactly old.roots past event i c path reply is e r)
    (h.reply past g)
