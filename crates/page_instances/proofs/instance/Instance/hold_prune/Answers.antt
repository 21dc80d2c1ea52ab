use Rattle.std.proofs.Common.{refl, ap, ◌∙◌, ◌++◌, ◌∷◌, []}
use Rattle.hmr_types.specs.declared.words.HandlerKind.TheVariants as kind
use Rattle.output_lines.specs.declared.words.HandlerEnd.TheVariants.{Held}
use Rattle.page_instances.specs.Marks.{is_held_of, is_kind, marks_dropped}
use Rattle.page_instances.specs.Seeing.{deed_in}
use Rattle.page_instances.proofs.Gaining.{gains, prune_held}
use Rattle.page_instances.proofs.instance.Instance.hold_prune.Goals as goal

pub returns-clause-sees : goal.returns-clause-sees
returns-clause-sees g c = λ deps i s. gains kind.Prune deps (deed_in c.args.handler) (is_held_of (is_kind kind.Prune)) (λ h. refl) i c.args.self.now _ s refl
    (c.in_default.ensures ∙ ap (λ ms. ms ++ record { kind = kind.Prune; handled = c.args.handled; end = Held } ∷ []) c.drop_marks.ensures
    ∙ ap (λ handled. marks_dropped (is_held_of (is_kind kind.Prune)) c.args.self.now.marks.items ++ record { kind = kind.Prune; handled = handled; end = Held } ∷ []) c.requires.handled)
    (prune_held i.handlers c.args.self.now.held c.set_prune.new.self s.held deps c.args.handler c.set_prune.ensures.held)
