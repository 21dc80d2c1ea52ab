use Rattle.std.proofs.Common.{refl, ap, sym, false, ◌∙◌, ◌++◌, ◌∷◌, []}
use Rattle.hmr_types.specs.declared.words.HandlerKind.TheVariants as kind
use Rattle.output_lines.specs.declared.words.Handled.TheVariants as handled
use Rattle.output_lines.specs.declared.words.HandlerEnd.TheVariants.{Held}
use Rattle.module_tree.specs.Tree.{handler_of}
use Rattle.client_model.specs.Instance.{code}
use Rattle.page_instances.proofs.Gaining.{gains, all_marks, dep_held}
use Rattle.page_instances.proofs.instance.Instance.add_dep.Goals as goal

pub returns-clause-sees : goal.returns-clause-sees
returns-clause-sees g c = λ i s. gains kind.Dep c.args.deps.items (code (handler_of c.args.what)) (λ m. false) (λ h. refl) i c.args.self.now _ s refl
    (c.in_ok-add_mark.ensures ∙ ap (λ ms. ms ++ record { kind = kind.Dep; handled = handled.Code; end = Held } ∷ []) (sym (all_marks c.args.self.now.marks.items)))
    (dep_held i.handlers c.args.self.now.held c.add_dep.new.self s.held (record { deps = c.args.deps.items; code = c.args.what }) c.in_ok-add_dep.ensures.ok)
