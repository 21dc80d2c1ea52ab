use Rattle.std.proofs.Common.{Bool, true, false, refl, ap, ◌∙◌, sym, ◌≡◌}
use Rattle.std.specs.Prelude.{◌&&◌}
use Rattle.client_model.specs.Instance.{is_held}
use Rattle.page_instances.specs.Marks.{marks_dropped, is_held_of, is_of}
use Rattle.page_instances.specs.declared.marks.Those.TheVariants as those
use Rattle.page_instances.proofs.Filters.{marks_are}
use Rattle.page_instances.proofs.Losing.{none_held}
use Rattle.page_instances.proofs.instance.Instance.drop_held.Goals as goal

with_true : (b : Bool) → (b && true) ≡ b
with_true true = refl
with_true false = refl

pub returns-clause-sees : goal.returns-clause-sees
returns-clause-sees g c = λ i s. record {
  name = s.name;
  version = s.version;
  exports = s.exports;
  links = s.links;
  bindings = s.bindings;
  status = s.status;
  fate = s.fate;
  values = s.values;
  marks = marks_are is_held (is_held_of (is_of those.All)) (λ h. with_true (is_held h)) i.handlers ∙ ap (marks_dropped (is_held_of (is_of those.All))) s.marks ∙ sym c.drop_marks.ensures;
  held = none_held i.handlers c.args.self.now.held c.take_dispose.new.self c.take_prune.new.self c.drop_own.new.held c.drop_deps.new.self c.take_dispose.ensures.left c.take_prune.ensures.left c.drop_own.ensures c.drop_deps.ensures;
}
