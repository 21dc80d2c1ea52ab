use Rattle.std.proofs.Common.{rules, ◌≡◌, refl, ◌∙◌, sym, ap, ◌++◌}
use Rattle.std.specs.Prelude.{fold}
use Rattle.std.proofs.Math.Path.{subst}
use Rattle.std.proofs.lemmas.Option.{slice_get_read, same_Some}
use Rattle.std.proofs.lemmas.List.{append_assoc}
use Rattle.client_model.specs.Journal.{log_lines, fault_lines}
use Rattle.client_model.specs.Running.{assigned}
use Rattle.retained_data.specs.Bags.{HasBag}
use Rattle.page_state.specs.Settling.{invalidated, live_in, version_in}
use Rattle.page_runs.proofs.settling.settle.Goals as goal

pub returns : goal.returns
returns g c =
    let there = slice_get_read c.args.page.now.instances.items _ c.args.place c.index_mut.result.now refl c.requires.place c.index_mut.ensures.value in
    let at_index = slice_get_read c.args.page.now.instances.items _ c.args.place c.index.result.now refl c.requires.place c.index.ensures in
    let named : c.index_mut.result.now.name ≡ c.in_ok-name.name = ap (λ x. x.name) (same_Some _ _ (sym there ∙ at_index)) ∙ search rules in
    record {
      client = refl;
      live = refl;
      shelf = refl;
      instance = c.index_mut.result.now;
      changed = _;
      there = there;
      instances = refl;
      values = λ i s. record {
        name = s.name;
        version = s.version;
        exports = s.exports;
        links = s.links;
        bindings = s.bindings;
        status = s.status;
        fate = s.fate;
        marks = s.marks;
        held = s.held;
        values = ap (λ vs. fold assigned vs c.args.ran.changes) s.values ∙ sym (c.in_ok-assign_all.ensures ∙ ap (fold assigned c.index_mut.result.now.values.items) c.as_slice-3.ensures);
      };
      rest = refl;
      bags = subst (λ n. HasBag n c.args.ran.bag c.args.page.now.bags c.put.new.self) (sym named) c.in_ok-put.ensures.ok;
      unsent = c.in_ok-add_invalidations.ensures
          ∙ ap (λ v. c.args.page.now.unsent.items ++ invalidated c.in_ok-name.name v c.as_slice-2.result.now) c.live_version-version.ensures
          ∙ ap (λ ms. c.args.page.now.unsent.items ++ invalidated c.in_ok-name.name (version_in (live_in c.args.page.now c.in_ok-name.name)) ms) c.as_slice-2.ensures
          ∙ ap (λ n. c.args.page.now.unsent.items ++ invalidated n (version_in (live_in c.args.page.now n)) c.args.ran.invalidations) (sym named);
      lines = c.in_ok-tell_fault.ensures
          ∙ ap (λ ls. ls ++ fault_lines c.args.page.now.client c.in_ok-name.name c.args.at c.args.ran.fault) (c.in_ok-tell_log.ensures ∙ ap (λ ts. c.args.lines.now.items ++ log_lines c.args.page.now.client c.in_ok-name.name ts) c.as_slice.ensures)
          ∙ append_assoc c.args.lines.now.items (log_lines c.args.page.now.client c.in_ok-name.name c.args.ran.lines) (fault_lines c.args.page.now.client c.in_ok-name.name c.args.at c.args.ran.fault)
          ∙ ap (λ n. c.args.lines.now.items ++ (log_lines c.args.page.now.client n c.args.ran.lines ++ fault_lines c.args.page.now.client n c.args.at c.args.ran.fault)) (sym named);
    }
