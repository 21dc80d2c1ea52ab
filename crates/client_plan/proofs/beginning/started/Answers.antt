use Rattle.std.proofs.Common.{refl, ap, sym, ◌∙◌}
use Rattle.std.specs.Prelude.{is_some}
use Rattle.std.specs.Option.{option_map}
use Rattle.std.proofs.lemmas.Option.{none-some}
use Rattle.module_tree.specs.Tree.{module_of}
use Rattle.core_model.specs.Names.{at}
use Rattle.core_model.specs.Page.{new_plan}
use Rattle.client_model.specs.Answering.{begin}
use Rattle.client_plan.proofs.beginning.started.Goals as goal

pub returns-clause-under_way : goal.returns-clause-under_way
returns-clause-under_way c = λ r kind replaced roots view same alone.
    let stand = c.in_ok-walk.ensures (begin kind replaced c.args.pairs.items r) (new_plan kind replaced) roots view same (λ n. ap (λ rows. option_map module_of (at rows n)) (sym c.new-trees.ensures.empty)) alone in
    record {
      plan = same;
      walk = stand.1;
      next = stand.0;
      texts = λ n. ap (λ rows. option_map module_of (at rows n)) (sym c.new-trees.ensures.empty);
      pairs = refl;
      cause = refl;
    }

pub returns-clause-planned : goal.returns-clause-planned
returns-clause-planned c = λ kind replaced loaded same loads. record {
  staged = λ n e found. absurd (none-some e (sym (same.staged n) ∙ found));
  trees = λ n. ap (λ rows. is_some (at rows n)) c.new-trees.ensures.empty ∙ ap is_some (sym (same.staged n));
  loads = λ e. loads (sym same.kind ∙ e);
}
