use Rattle.std.proofs.Common.{◌≡◌, ◌∷◌, ap, sym, ◌∙◌}
use Rattle.std.specs.Prelude.{IfOk}
use Rattle.std.proofs.Math.Path.{subst}
use Rattle.output_lines.specs.declared.out_line.OutLine.TheVariants.{Values}
use Rattle.core_model.specs.Names.{names_of, sorted}
use Rattle.client_model.specs.Past.{runtime_after}
use Rattle.module_language.specs.ModuleLanguage.{module_language}
use Rattle.page_showing.specs.Showing.{values_among}
use Rattle.runtime_showing.proofs.showing.values.Goals as goal

pub returns : goal.returns
returns g c = λ opening past s.
    let r = runtime_after module_language opening past in
    subst (λ names. IfOk c.value_lines.result (λ lines. lines.items ≡ Values r.client ∷ values_among r names))
    (c.deref.ensures.value ∙ c.in_ok-names-2.ensures ∙ ap sorted c.in_ok-names.ensures.names ∙ ap (λ view. sorted (names_of view)) (sym s.keeps.view))
    (c.value_lines.ensures r s.keeps.page)
