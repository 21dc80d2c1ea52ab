use Rattle.std.proofs.Common.{rules, ◌≡◌, ◌+◌, suc, length, refl, ap, sym, ◌∙◌, arith, Some, [], ◌∷◌, ◌++◌}
use Rattle.std.proofs.Math.Path.{subst}
use Rattle.module_semantics.specs.ModuleText.{parsing}
use Rattle.module_language.specs.ModuleLanguage.{bound_in, module_in}
use Rattle.handler_table.specs.Handlers.{KeepTheirWord}
use Rattle.page_state.specs.Live.{HasNumber}
use Rattle.page_births.proofs.Registering.{words_pushed}
use Rattle.page_births.proofs.make.add_instance.Goals as goal

pub returns-clause-words : goal.returns-clause-words
returns-clause-words g c = words_pushed (goal.F-post g) c.args.page.now _ c.new-instance.result (search rules) refl
    (subst (KeepTheirWord (goal.F-post g)) (sym c.new-instance.ensures.held) c.tables_keep_their_word.ensures.none) c.requires.words

pub returns-clause-adds : goal.returns-clause-adds
returns-clause-adds g c =
    let named : c.in_ok-clone.field-0 ≡ c.args.birth.name = search rules in
    let number : c.len.result + 1 ≡ suc (length c.args.page.now.instances.items) = (let long = c.len.ensures in omega (arith, long)) in
    record {
      rest = refl;
      new = c.new-instance.result;
      instances = search rules;
      sees = λ b is. c.new-instance.ensures.sees b is.name is.version is.exports is.links
          (ap (λ n. bound_in n (module_in (parsing b.text))) is.name ∙ ap (bound_in c.args.birth.name) is.tree ∙ sym c.requires.bindings);
      live = subst (λ n. HasNumber n (Some (suc (length c.args.page.now.instances.items))) c.args.page.now.live c.put.new.self) named
          (subst (λ k. HasNumber c.in_ok-clone.field-0 (Some k) c.args.page.now.live c.put.new.self) number c.in_ok-put.ensures.ok);
    }
