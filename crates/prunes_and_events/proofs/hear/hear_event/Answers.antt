use Rattle.std.proofs.Common.{◌≡◌, sym, suc, rules}
use Rattle.std.proofs.Math.Path.{subst}
use Rattle.output_lines.specs.declared.words.FaultPlace.TheVariants.{Dep}
use Rattle.client_model.specs.Firing.{event_arguments}
use Rattle.client_model.specs.Instance.{accepts_dep}
use Rattle.client_model.specs.Running.{run_each}
use Rattle.module_language.specs.ModuleLanguage.{module_language}
use Rattle.page_state.specs.Standing.{Follows}
use Rattle.prunes_and_events.proofs.hear.hear_event.Goals as goal

pub returns-clause-follows : goal.returns-clause-follows
returns-clause-follows g c = λ i k.
    let event = c.args.event.now in
    let its : c.in_ok-copy.copy ≡ c.args.value.now = search rules in
    subst (λ m. Follows (run_each module_language Dep (event_arguments event c.args.value.now) (accepts_dep event) m) c.args.page.now c.run_listing.new.page c.args.lines.now.items c.run_listing.new.lines.items) (sym k)
    (subst (λ v. Follows (run_each module_language Dep (event_arguments event v) (accepts_dep event) (suc c.args.place)) c.args.page.now c.run_listing.new.page c.args.lines.now.items c.run_listing.new.lines.items) its c.in_ok-run_listing.ensures.follows)
