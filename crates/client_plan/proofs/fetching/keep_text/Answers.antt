use Rattle.std.proofs.Common.{ap, ◌∙◌}
use Rattle.core_model.specs.Names.{Name}
use Rattle.core_model.specs.Page.{Plan}
use Rattle.core_model.specs.View.{Entry}
use Rattle.module_graph.specs.Entries.{put_entry}
use Rattle.client_plan.proofs.fetching.keep_text.Goals as goal

pub returns : goal.returns
returns c =
    let before : Plan = c.args.plan.now in
    let entry : Entry = record { version = c.args.version; analysis = c.args.found.analysis } in
    record {
      plan = c.in_ok-stage.ensures.staged ∙ ap (λ (n : Name). record before { staged = put_entry n entry before.staged }) c.in_ok-copy_name.ensures;
      trees = λ m. c.in_ok-keep_tree.ensures m;
    }
