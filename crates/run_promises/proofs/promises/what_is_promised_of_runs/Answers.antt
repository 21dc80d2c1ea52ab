use Rattle.run_promises.proofs.promises.what_is_promised_of_runs.Goals as goal

pub returns : goal.returns
returns c = λ run. record {
  fresh_load = c.headline.ensures.fresh_load run;
  nothing_missing = c.headline.ensures.nothing_missing run;
  unlinked_is_stale = c.unlinked_imports_are_at_stale_edges.ensures run;
  own_roots = c.headline.ensures.own_roots run;
  stale_edges = c.headline.ensures.stale_bindings run;
  disposers = c.headline.ensures.held_disposers run;
  prune_handlers = c.what_happens_to_instances.ensures.prune_handlers run;
  held_prune_handlers = c.what_happens_to_instances.ensures.held_prune_handlers run;
  disposers_first = c.what_happens_to_instances.ensures.disposers_first run;
  data_to_successors = c.headline.ensures.data_to_the_successor run;
  data_of_disposers = c.headline.ensures.data_of_disposers run;
  data_to_no_other = c.headline.ensures.data_to_no_other run;
  fates = c.what_happens_to_instances.ensures.ends run;
  fates_once = c.what_happens_to_instances.ensures.told run;
  registered = c.what_happens_to_instances.ensures.registered run;
  runs = c.what_happens_to_instances.ensures.runs run;
  ended_once = c.what_happens_to_instances.ensures.fates run;
  values = c.what_happens_to_instances.ensures.values run;
  evaluations = c.what_happens_to_instances.ensures.evaluations run;
  unrun = c.what_happens_to_instances.ensures.unrun run;
  evaluated_once = c.what_happens_to_instances.ensures.evaluated_once run;
  assignments = c.what_happens_to_instances.ensures.assignments run;
  fresh_values = c.what_happens_to_instances.ensures.fresh_values run;
  full_reloads = c.headline.ensures.full_reload run;
  catching_up = c.headline.ensures.catches_up run;
  isolation = c.clients_are_isolated.ensures run;
  left_out = c.others_can_be_left_out.ensures run;
}
