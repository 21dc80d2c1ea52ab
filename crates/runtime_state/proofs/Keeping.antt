-- What a runtime keeps, where its page stays and its plan under way is another.
use Rattle.std.proofs.Common.{◌≡◌, List, ap, sym, ◌∙◌}
use Rattle.std.specs.Prelude.{Option}
use Rattle.std.proofs.Math.Path.{subst}
use Rattle.output_lines.specs.declared.out_line.OutLine.{OutLine}
use Rattle.core_model.specs.Names.{Name}
use Rattle.core_model.specs.Sources.{Text}
use Rattle.core_model.specs.Page as model
use Rattle.core_model.specs.Page.{Plan}
use Rattle.client_model.specs.Journal.{lines_of_all}
use Rattle.client_model.specs.Runtime.{Runtime, Cause, Did}
use Rattle.handler_table.specs.Held.{Answers}
use Rattle.page_state.specs.Standing as deeds
use Rattle.page_state.specs.declared.page.Page.{Page}
use Rattle.client_plan.specs.declared.under_way.UnderWay.{UnderWay}
use Rattle.runtime_state.specs.Becoming.{Becomes}
use Rattle.runtime_state.specs.Standing.{IsPlan, IsPlannedWell, IsSound, Keeps, KeepsWords}
use Rattle.runtime_state.specs.declared.runtime.HotRuntime.{HotRuntime}

-- the runtime with this plan under way
abbrev pub run_with : Runtime → Option Plan → List (Name × Text) → List (Name × Name) → Option Cause → Runtime
run_with r plan texts pairs cause = record r { page = record r.page { plan = plan }; texts = texts; pairs = pairs; cause = cause }

-- the code's with this plan under way
abbrev pub with_under_way : {F : Type 0} → HotRuntime F → Option UnderWay → HotRuntime F
with_under_way h u = record h { plan = u }

-- a page stands for whatever has its client, its instances, its data, its invalidations and its closures
pub still : {F : Type 0} (r : Runtime) (page : model.Page) (texts : List (Name × Text)) (pairs : List (Name × Name)) (cause : Option Cause) (p : Page F)
    → deeds.StandsFor r p → deeds.StandsFor (record r { page = page; texts = texts; pairs = pairs; cause = cause }) p
still r page texts pairs cause p s = record { client = s.client; instances = s.instances; bags = s.bags; unsent = s.unsent; shelf = s.shelf }

pub plan_kept : {F : Type 0} (r : Runtime) (h : HotRuntime F) (plan : Option Plan) (texts : List (Name × Text)) (pairs : List (Name × Name)) (cause : Option Cause) (u : Option UnderWay)
    → Keeps r h → IsPlan (run_with r plan texts pairs cause) plan u → Keeps (run_with r plan texts pairs cause) (with_under_way h u)
plan_kept r h plan texts pairs cause u k is = record {
  format = k.format;
  named = k.named;
  roots = k.roots;
  loaded = k.loaded;
  view = k.view;
  forced = k.forced;
  plan = is;
  page = still r (record r.page { plan = plan }) texts pairs cause h.page k.page;
  stopped = k.stopped;
}

-- with another plan that is planned well all is sound as before
pub plan_sound : {F : Type 0} (h : HotRuntime F) (u : Option UnderWay) → IsPlannedWell h.loaded u → IsSound h → IsSound (with_under_way h u)
plan_sound h u planned s = record {
  format = s.format;
  versions = s.versions;
  unsent = s.unsent;
  view = s.view;
  plan = planned;
  on_page = s.on_page;
  unloaded = s.unloaded;
  unnumbered = s.unnumbered;
  rises = s.rises;
  whole = s.whole;
}

-- what becomes of a runtime, where the definitions' client becomes this
pub becomes_of : {F : Type 0} (did : Did) (s : Runtime) (after : HotRuntime F) (tells : List OutLine) → did.0 ≡ s → IsSound after → Keeps s after → tells ≡ lines_of_all s.client did.1 → Becomes did after tells
becomes_of did s after tells e sound keeps lines = record {
  sound = sound;
  keeps = subst (λ r. Keeps r after) (sym e) keeps;
  lines = lines ∙ ap (λ r. lines_of_all r.client did.1) (sym e);
}

pub words_kept : {F : Type 0} (answers : Answers F) (h : HotRuntime F) (u : Option UnderWay) → KeepsWords answers h → KeepsWords answers (with_under_way h u)
words_kept answers h u w = w
