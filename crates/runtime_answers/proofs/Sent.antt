-- An invalidation that was sent is answered: it is taken or ignored, and the next one is the first.
use Rattle.std.proofs.Common.{◌≡◌, List, [], ◌∷◌, map, drop, refl, ap, sym, ◌∙◌}
use Rattle.std.specs.Global.{Vec}
use Rattle.std.specs.List.{All}
use Rattle.std.proofs.Math.Path.{subst}
use Rattle.std.proofs.lemmas.List.Elements.{All-tail}
use Rattle.output_lines.specs.declared.out_line.OutLine.{OutLine}
use Rattle.output_lines.specs.declared.out_line.OutLine.TheVariants as line
use Rattle.update_msgs.specs.Writable.{IsVersion}
use Rattle.core_model.specs.Names.{Name, put_name}
use Rattle.core_model.specs.Sources.{Text}
use Rattle.client_model.specs.Answering.{ignored, invalidated, without_first}
use Rattle.client_model.specs.Runtime.{Runtime}
use Rattle.page_state.specs.declared.page.Invalidation.{Invalidation}
use Rattle.page_state.specs.Standing.{invalidation_as}
use Rattle.runtime_state.specs.Becoming.{Becomes}
use Rattle.runtime_state.specs.Standing.{IsSound, Keeps}
use Rattle.runtime_state.specs.declared.runtime.HotRuntime.{HotRuntime}
use Rattle.runtime_state.proofs.Moving.{plan_moved}

first_gone : (xs : List Invalidation) → without_first (map invalidation_as xs) ≡ map invalidation_as (drop 1 xs)
first_gone [] = refl
first_gone (x ∷ xs) = refl

all_rest : (P : Invalidation → Type 0) (xs : List Invalidation) → All P xs → All P (drop 1 xs)
all_rest P [] h = h
all_rest P (x ∷ xs) h = All-tail P x xs h

module _ {F : Type 0} (name : Name) (r : Runtime) (h : HotRuntime F) (unsent : Vec Invalidation) (k : Keeps r h) (s : IsSound h) (dropped : unsent.items ≡ drop 1 h.page.unsent.items) where
  left : without_first r.unsent ≡ map invalidation_as unsent.items
  left = ap without_first k.page.unsent ∙ first_gone h.page.unsent.items ∙ ap (map invalidation_as) (sym dropped)

  counted : All (λ (i : Invalidation). IsVersion i.version) unsent.items
  counted = subst (All (λ (i : Invalidation). IsVersion i.version)) (sym dropped) (all_rest (λ (i : Invalidation). IsVersion i.version) h.page.unsent.items s.unsent)

  pub invalidated_becomes : (message : Text) (forced : Vec Name) (tells : List OutLine) → forced.items ≡ put_name name h.forced.items → tells ≡ line.Invalidated h.page.client name message ∷ []
      → Becomes (invalidated name message r) (record h { forced = forced; page = record h.page { unsent = unsent } }) tells
  invalidated_becomes message forced tells put told = record {
    sound = record { format = s.format; versions = s.versions; unsent = counted; view = s.view; plan = s.plan; on_page = s.on_page; unloaded = s.unloaded; unnumbered = s.unnumbered; rises = s.rises; whole = s.whole };
    keeps = record {
      format = k.format;
      named = k.named;
      roots = k.roots;
      loaded = k.loaded;
      view = k.view;
      forced = ap (put_name name) k.forced ∙ sym put;
      plan = plan_moved r r.page.loaded (put_name name r.page.forced) r.page.plan r.instances r.bags (without_first r.unsent) r.shelf r.stopped r.page.plan h.plan k.plan;
      page = record { client = k.page.client; instances = k.page.instances; bags = k.page.bags; unsent = left; shelf = k.page.shelf };
      stopped = k.stopped;
    };
    lines = told ∙ ap (λ c. line.Invalidated c name message ∷ []) (sym k.page.client);
  }

  pub ignored_becomes : (tells : List OutLine) → tells ≡ line.Ignored h.page.client name ∷ [] → Becomes (ignored name r) (record h { page = record h.page { unsent = unsent } }) tells
  ignored_becomes tells told = record {
    sound = record { format = s.format; versions = s.versions; unsent = counted; view = s.view; plan = s.plan; on_page = s.on_page; unloaded = s.unloaded; unnumbered = s.unnumbered; rises = s.rises; whole = s.whole };
    keeps = record {
      format = k.format;
      named = k.named;
      roots = k.roots;
      loaded = k.loaded;
      view = k.view;
      forced = k.forced;
      plan = plan_moved r r.page.loaded r.page.forced r.page.plan r.instances r.bags (without_first r.unsent) r.shelf r.stopped r.page.plan h.plan k.plan;
      page = record { client = k.page.client; instances = k.page.instances; bags = k.page.bags; unsent = left; shelf = k.page.shelf };
      stopped = k.stopped;
    };
    lines = told ∙ ap (λ c. line.Ignored c name ∷ []) (sym k.page.client);
  }
