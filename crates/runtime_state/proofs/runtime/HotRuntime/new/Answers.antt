use Rattle.std.proofs.Common.{arith, refl, sym, ap, ◌∙◌}
use Rattle.std.proofs.lemmas.Option.{none-some}
use Rattle.core_model.specs.Names.{at, names_of, rising}
use Rattle.core_model.specs.View.{View}
use Rattle.std.proofs.lemmas.Bool.{false≢true}
use Rattle.std.specs.List.{All}
use Rattle.update_msgs.specs.Writable.{IsVersion}
use Rattle.handler_table.specs.Held.{IsHost}
use Rattle.handler_table.specs.Shelf.{marks_of}
use Rattle.std.proofs.Math.Path.{subst}
use Rattle.runtime_state.proofs.Fresh.{none_live, page_fresh, words_fresh}
use Rattle.runtime_state.proofs.runtime.HotRuntime.new.Goals as goal

pub returns-clause-stands : goal.returns-clause-stands
returns-clause-stands g c =
    let e = c.new-4.ensures in
    record {
      sound = record {
        format = c.requires.format;
        versions = subst (All (λ i. IsVersion i.version)) (sym e.instances) (λ k d h. absurd (omega (arith, h)));
        unsent = subst (All (λ i. IsVersion i.version)) (sym e.unsent) (λ k d h. absurd (omega (arith, h)));
        view = λ n x h. absurd (none-some x (ap (λ view. at view n) (sym c.new-2.ensures) ∙ h));
        plan = tt;
        on_page = λ n h. none_live c.new-4.result e.live n;
        unloaded = λ h n. none_live c.new-4.result e.live n;
        unnumbered = λ h. refl;
        rises = ap (λ (view : View). rising (names_of view)) c.new-2.ensures;
        whole = λ h. absurd (false≢true h);
      };
      keeps = record {
        format = refl;
        named = sym c.from_vec.ensures;
        roots = sym c.new.ensures;
        loaded = refl;
        view = sym c.new-2.ensures;
        forced = sym c.new-3.ensures.items;
        plan = tt;
        page = page_fresh _ c.new-4.result e.client e.instances e.live e.bags e.unsent (ap marks_of (sym e.shelf));
        stopped = refl;
      };
    }

pub returns-clause-words : goal.returns-clause-words
returns-clause-words g c = λ h. words_fresh (goal.F-post g) c.new-4.result c.new-4.ensures.instances (subst (All (IsHost (goal.F-post g))) (sym c.new-4.ensures.shelf) c.requires.hosts)
