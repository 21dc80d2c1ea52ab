use Rattle.std.proofs.Common.{sym, suc}
use Rattle.std.proofs.Math.Path.{subst}
use Rattle.std.proofs.lemmas.List.{append-nil}
use Rattle.output_lines.specs.declared.words.FaultPlace.TheVariants.{Dispose}
use Rattle.client_model.specs.Applying.{is_left_behind, fate_by}
use Rattle.client_model.specs.Instance.{disposes}
use Rattle.client_model.specs.Runtime.{and_then}
use Rattle.client_model.specs.Running.{drop_each, run_each, end_instance, no_arguments}
use Rattle.module_language.specs.ModuleLanguage.{module_language}
use Rattle.page_state.specs.Standing.{Follows}
use Rattle.page_state.proofs.Following.{follows_then}
use Rattle.page_lifecycle.proofs.replace.replace_instance.Goals as goal

pub returns-clause-follows : goal.returns-clause-follows
returns-clause-follows g c = λ number i k n.
    subst (λ m. Follows (λ r. and_then (and_then (run_each module_language Dispose no_arguments disposes m r) (drop_each is_left_behind m)) (end_instance (fate_by (number i.name)) m i.name)) c.args.page.now c.end_instance.new.page c.args.lines.now.items c.run_disposer.new.lines.items) (sym k)
    (subst (λ o. Follows (λ r. and_then (and_then (run_each module_language Dispose no_arguments disposes (suc c.args.place) r) (drop_each is_left_behind (suc c.args.place))) (end_instance (fate_by o) (suc c.args.place) i.name)) c.args.page.now c.end_instance.new.page c.args.lines.now.items c.run_disposer.new.lines.items) (sym n)
    (follows_then _ _ c.args.page.now c.drop_left_behind.new.page c.end_instance.new.page c.args.lines.now.items c.run_disposer.new.lines.items c.run_disposer.new.lines.items
    (follows_then _ _ c.args.page.now c.run_disposer.new.page c.drop_left_behind.new.page c.args.lines.now.items c.run_disposer.new.lines.items c.run_disposer.new.lines.items c.in_ok-run_disposer.ensures.follows (c.drop_left_behind.ensures.follows c.run_disposer.new.lines.items))
    (subst (Follows (end_instance _ (suc c.args.place) i.name) c.drop_left_behind.new.page c.end_instance.new.page c.run_disposer.new.lines.items) (append-nil c.run_disposer.new.lines.items) (c.end_instance.ensures.follows c.run_disposer.new.lines.items i.name))))
