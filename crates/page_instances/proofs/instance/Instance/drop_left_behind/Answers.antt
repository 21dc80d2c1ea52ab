use Rattle.std.proofs.Common.{refl, ap, ◌∙◌, sym}
use Rattle.client_model.specs.Applying.{is_left_behind}
use Rattle.page_instances.specs.Marks.{marks_dropped, is_held_of, is_of}
use Rattle.page_instances.specs.declared.marks.Those.TheVariants as those
use Rattle.page_instances.proofs.Filters.{marks_are}
use Rattle.page_instances.proofs.Losing.{left_behind}
use Rattle.page_instances.proofs.instance.Instance.drop_left_behind.Goals as goal

pub returns-clause-sees : goal.returns-clause-sees
returns-clause-sees g c = λ i s. record {
  name = s.name;
  version = s.version;
  exports = s.exports;
  links = s.links;
  bindings = s.bindings;
  status = s.status;
  fate = s.fate;
  values = s.values;
  marks = marks_are is_left_behind (is_held_of (is_of those.ButOwn)) (λ h. refl) i.handlers ∙ ap (marks_dropped (is_held_of (is_of those.ButOwn))) s.marks ∙ sym c.drop_marks.ensures;
  held = left_behind i.handlers c.args.self.now.held c.take_dispose.new.self c.take_prune.new.self c.drop_deps.new.self s.held c.take_dispose.ensures.left c.take_prune.ensures.left c.drop_deps.ensures;
}
