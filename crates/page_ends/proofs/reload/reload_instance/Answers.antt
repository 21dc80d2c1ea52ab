use Rattle.std.proofs.Common.{sym, suc}
use Rattle.std.proofs.Math.Path.{subst}
use Rattle.std.proofs.lemmas.List.{append-nil}
use Rattle.output_lines.specs.declared.words.InstanceFate.TheVariants.{Reloaded}
use Rattle.client_model.specs.Instance.{is_held}
use Rattle.client_model.specs.Runtime.{and_then}
use Rattle.client_model.specs.Running.{drop_each, end_instance}
use Rattle.page_state.specs.Standing.{Follows}
use Rattle.page_state.proofs.Following.{follows_then}
use Rattle.page_ends.proofs.reload.reload_instance.Goals as goal

pub returns-clause-follows : goal.returns-clause-follows
returns-clause-follows g c = λ lines i k.
    subst (λ m. Follows (λ r. and_then (drop_each is_held m r) (end_instance Reloaded m i.name)) c.args.page.now c.end_instance.new.page lines lines) (sym k)
    (follows_then _ _ c.args.page.now c.drop_held.new.page c.end_instance.new.page lines lines lines (c.drop_held.ensures.follows lines)
    (subst (Follows (end_instance Reloaded (suc c.args.place) i.name) c.drop_held.new.page c.end_instance.new.page lines) (append-nil lines) (c.end_instance.ensures.follows lines i.name)))
