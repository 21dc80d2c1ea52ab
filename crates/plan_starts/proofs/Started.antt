-- A plan that has begun: a load, a reload or an update, with its lines.
use Rattle.std.proofs.Common.{◌≡◌, ℕ, false, List, [], ◌∷◌, ◌++◌, refl, ap, sym, ◌∙◌}
use Rattle.std.specs.Prelude.{Option, Some, None}
use Rattle.std.proofs.lemmas.Bool.{false≢true}
use Rattle.std.proofs.Math.Path.{subst}
use Rattle.std.proofs.lemmas.List.{append_assoc}
use Rattle.hmr_types.specs.declared.words.PlanKind.TheVariants.{Load, Reload, Update}
use Rattle.hmr_types.specs.declared.words.ReloadCause.{ReloadCause}
use Rattle.output_lines.specs.declared.out_line.OutLine.{OutLine}
use Rattle.output_lines.specs.declared.out_line.OutLine.TheVariants as line
use Rattle.core_model.specs.Names.{Name, in_order}
use Rattle.core_model.specs.Page.{new_plan}
use Rattle.client_model.specs.Answering.{begin, connect, start_reload, start_update, write_batch}
use Rattle.client_model.specs.Runtime.{Runtime, and_then}
use Rattle.client_plan.specs.Planned.{IsPlanned}
use Rattle.client_plan.specs.Telling.{accept_lines, batch_lines}
use Rattle.client_plan.specs.UnderWay.{IsUnderWay}
use Rattle.client_plan.specs.declared.under_way.UnderWay.{UnderWay}
use Rattle.runtime_state.specs.Becoming.{Becomes}
use Rattle.runtime_state.specs.Standing.{IsPlan, IsPlannedWell, IsSound, Keeps}
use Rattle.runtime_state.specs.declared.runtime.HotRuntime.{HotRuntime}
use Rattle.plan_starts.proofs.Begun.{batch_lines_then, batch_then, begun, update_begins, update_told}
use Rattle.runtime_state.proofs.Keeping.{becomes_of, plan_sound, with_under_way}

-- the client with its number and its roots, and no plan under way
abbrev pub numbered_run : ℕ → List Name → Runtime → Runtime
numbered_run client roots r = record r { client = client; roots = roots; page = record r.page { plan = None } }

-- the code's
abbrev pub numbered_hot : {F : Type 0} → ℕ → List Name → HotRuntime F → HotRuntime F
numbered_hot client roots h = record h { page = record h.page { client = client }; roots = roots; plan = None; whole = false }

pub numbered_keeps : {F : Type 0} (client : ℕ) (roots : List Name) (r : Runtime) (h : HotRuntime F) → Keeps r h → Keeps (numbered_run client roots r) (numbered_hot client roots h)
numbered_keeps client roots r h k = record {
  format = k.format;
  named = k.named;
  roots = refl;
  loaded = k.loaded;
  view = k.view;
  forced = k.forced;
  plan = tt;
  page = record { client = refl; instances = k.page.instances; bags = k.page.bags; unsent = k.page.unsent; shelf = k.page.shelf };
  stopped = k.stopped;
}

-- all is sound as before, where the page isn't loaded
pub numbered_sound : {F : Type 0} (client : ℕ) (roots : List Name) (h : HotRuntime F) → h.loaded ≡ false → IsSound h → IsSound (numbered_hot client roots h)
numbered_sound client roots h fresh s = record {
  format = s.format;
  versions = s.versions;
  unsent = s.unsent;
  view = s.view;
  plan = tt;
  on_page = s.on_page;
  unloaded = s.unloaded;
  unnumbered = λ none. fresh;
  rises = s.rises;
  whole = λ e. absurd (false≢true e);
}

-- and with a load that has begun
pub connect_becomes : {F : Type 0} (client : ℕ) (roots given : List Name) (r : Runtime) (h : HotRuntime F) (u : UnderWay) (left : Option UnderWay) (tells : List OutLine) → Keeps r h → IsSound h → h.loaded ≡ false
    → IsUnderWay (begin Load [] [] (numbered_run client roots r)) (new_plan Load []) u → IsPlanned h.loaded u → given ≡ roots → left ≡ Some u → tells ≡ []
    → Becomes (connect client roots r) (record h { page = record h.page { client = client }; roots = given; plan = left; whole = false }) tells
connect_becomes {F} client roots given r h u left tells k s fresh is planned same now silent =
    subst (λ ns. Becomes (connect client roots r) (record h { page = record h.page { client = client }; roots = ns; plan = left; whole = false }) tells) (sym same)
    (subst (λ o. Becomes (connect client roots r) (record h { page = record h.page { client = client }; roots = roots; plan = o; whole = false }) tells) (sym now) (record {
      sound = plan_sound (numbered_hot client roots h) (Some u) planned (numbered_sound client roots h fresh s);
      keeps = begun (numbered_run client roots r) (numbered_hot client roots h) Load [] [] (Some u) (numbered_keeps client roots r h k) is;
      lines = silent;
    }))

pub reload_becomes : {F : Type 0} (cause : ReloadCause) (path : List Name) (batch : ℕ) (triggered : List Name) (r : Runtime) (h : HotRuntime F) (u : UnderWay) (left : Option UnderWay) (tells : List OutLine) → Keeps r h → IsSound h
    → IsUnderWay (begin Reload [] [] r) (new_plan Reload []) u → IsPlanned h.loaded u → left ≡ Some u → tells ≡ batch_lines h.page.client batch triggered ++ line.Reload h.page.client cause path ∷ []
    → Becomes (and_then (write_batch batch triggered r) (start_reload (line.Reload r.client cause path))) (with_under_way h left) tells
reload_becomes cause path batch triggered r h u left tells k s is planned now told =
    subst (λ o. Becomes (and_then (write_batch batch triggered r) (start_reload (line.Reload r.client cause path))) (with_under_way h o) tells) (sym now)
    (becomes_of (and_then (write_batch batch triggered r) (start_reload (line.Reload r.client cause path))) (begin Reload [] [] r) (with_under_way h (Some u)) tells
    (batch_then batch triggered (start_reload (line.Reload r.client cause path)) r)
    (plan_sound h (Some u) planned s)
    (begun r h Reload [] [] (Some u) k is)
    (told ∙ ap (λ c. batch_lines c batch triggered ++ line.Reload c cause path ∷ []) (sym k.page.client) ∙ sym (batch_lines_then batch triggered (start_reload (line.Reload r.client cause path)) r r.client)))

-- the lines of an update, one after another
pub update_lines : (client batch : ℕ) (triggered replaced put : List Name) (pairs : List (Name × Name)) (first more all : List OutLine) → first ≡ batch_lines client batch triggered → put ≡ in_order replaced
    → more ≡ first ++ line.Update client put ∷ [] → all ≡ more ++ accept_lines client pairs → all ≡ batch_lines client batch triggered ++ line.Update client (in_order replaced) ∷ accept_lines client pairs
update_lines client batch triggered replaced put pairs first more all one two three four =
    four ∙ ap (λ ls. ls ++ accept_lines client pairs) (three ∙ ap (λ ls. ls ++ line.Update client put ∷ []) one ∙ ap (λ ns. batch_lines client batch triggered ++ line.Update client ns ∷ []) two)
    ∙ append_assoc (batch_lines client batch triggered) (line.Update client (in_order replaced) ∷ []) (accept_lines client pairs)

pub update_becomes : {F : Type 0} (replaced : List Name) (batch : ℕ) (triggered : List Name) (pairs : List (Name × Name)) (r : Runtime) (h : HotRuntime F) (left : Option UnderWay) (tells : List OutLine) → Keeps r h → IsSound h
    → IsPlan (begin Update replaced pairs r) (Some (new_plan Update replaced)) left → IsPlannedWell h.loaded left
    → tells ≡ batch_lines h.page.client batch triggered ++ line.Update h.page.client (in_order replaced) ∷ accept_lines h.page.client pairs
    → Becomes (and_then (write_batch batch triggered r) (start_update replaced pairs)) (with_under_way h left) tells
update_becomes replaced batch triggered pairs r h left tells k s is planned told =
    becomes_of (and_then (write_batch batch triggered r) (start_update replaced pairs)) (begin Update replaced pairs r) (with_under_way h left) tells
    (batch_then batch triggered (start_update replaced pairs) r ∙ update_begins replaced pairs r)
    (plan_sound h left planned s)
    (begun r h Update replaced pairs left k is)
    (told ∙ ap (λ c. batch_lines c batch triggered ++ line.Update c (in_order replaced) ∷ accept_lines c pairs) (sym k.page.client)
    ∙ ap (λ ls. batch_lines r.client batch triggered ++ ls) (sym (update_told replaced pairs r r.client)) ∙ sym (batch_lines_then batch triggered (start_update replaced pairs) r r.client))
