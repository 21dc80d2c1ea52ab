use Rattle.std.proofs.Common.{refl, ap, sym, false, ◌∙◌, ◌++◌, ◌∷◌, []}
use Rattle.hmr_types.specs.declared.words.HandlerKind.TheVariants as kind
use Rattle.output_lines.specs.declared.words.HandlerEnd.TheVariants.{Held}
use Rattle.page_instances.specs.Marks.{marks_dropped}
use Rattle.page_instances.specs.Seeing.{deed_in}
use Rattle.page_instances.proofs.Gaining.{gains, all_marks, own_held}
use Rattle.page_instances.proofs.instance.Instance.add_own.Goals as goal

pub returns-clause-sees : goal.returns-clause-sees
returns-clause-sees g c = λ deps i s. gains kind.Own deps (deed_in c.args.handler) (λ m. false) (λ h. refl) i c.args.self.now _ s refl
    (c.in_default.ensures ∙ ap (λ ms. ms ++ record { kind = kind.Own; handled = c.args.handled; end = Held } ∷ []) (sym (all_marks c.args.self.now.marks.items))
    ∙ ap (λ handled. marks_dropped (λ m. false) c.args.self.now.marks.items ++ record { kind = kind.Own; handled = handled; end = Held } ∷ []) c.requires.handled)
    (own_held i.handlers c.args.self.now.held c.add_own.new.self s.held deps c.args.handler c.in_default-add_own.ensures.ok)
