use Rattle.std.proofs.Common.{refl, ap, sym, ◌∙◌}
use Rattle.std.proofs.Math.Path.{subst}
use Rattle.std.proofs.lemmas.Option.{slice_get_read}
use Rattle.hmr_types.specs.declared.words.HandlerKind.TheVariants as kind
use Rattle.module_semantics.specs.Analysis.{meant}
use Rattle.module_tree.specs.Tree.{handler_of}
use Rattle.client_model.specs.Instance.{code}
use Rattle.page_instances.specs.Holding.{with_held}
use Rattle.page_instances.specs.Seeing.{Sees}
use Rattle.page_births.proofs.Registering.{code_registers}
use Rattle.page_state.proofs.Words.{word_at, words_set}
use Rattle.page_births.proofs.register.register_code.Goals as goal

pub returns-in-Dep-clause-words : goal.returns-in-Dep-clause-words
returns-in-Dep-clause-words g c = words_set (goal.F-post g) c.args.page.now _ c.args.place c.add_dep.new.self refl refl
    (c.in_ok-add_dep-in-Dep.ensures.word (word_at (goal.F-post g) c.args.page.now c.args.place c.index_mut.result.now c.requires.place c.index_mut.ensures.value c.requires.words)) c.requires.words

pub returns-in-Dep-clause-registers : goal.returns-in-Dep-clause-registers
returns-in-Dep-clause-registers g c = λ lines.
    code_registers c.args.place c.args.page.now _ c.index_mut.result.now c.add_dep.new.self c.args.name.now c.args.kind (meant c.args.name.now c.args.deps) (handler_of c.args.code) lines (record {
      rest = refl;
      there = slice_get_read c.args.page.now.instances.items _ c.args.place c.index_mut.result.now refl c.requires.place c.index_mut.ensures.value;
      set = refl;
      sees = λ i s. subst (λ k. Sees (with_held k (meant c.args.name.now c.args.deps) (code (handler_of c.args.code)) i) c.add_dep.new.self) (sym c.in-Dep.is)
          (subst (λ ds. Sees (with_held kind.Dep ds (code (handler_of c.args.code)) i) c.add_dep.new.self) (c.in_ok-deps-in-Dep.ensures ∙ ap (meant c.args.name.now) c.as_slice.ensures) (c.in_ok-add_dep-in-Dep.ensures.sees i s));
    }) refl

pub returns : goal.returns
returns g c = record {
  words = words_set (goal.F-post g) c.args.page.now _ c.args.place c.hold.new.self refl refl
      (c.in_ok-hold-in-Dispose.ensures.word (word_at (goal.F-post g) c.args.page.now c.args.place c.index_mut-in-Dispose.result.now c.requires.place c.index_mut-in-Dispose.ensures.value c.requires.words)) c.requires.words;
  registers = λ lines.
      code_registers c.args.place c.args.page.now _ c.index_mut-in-Dispose.result.now c.hold.new.self c.args.name.now c.args.kind (meant c.args.name.now c.args.deps) (handler_of c.args.code) lines (record {
        rest = refl;
        there = slice_get_read c.args.page.now.instances.items _ c.args.place c.index_mut-in-Dispose.result.now refl c.requires.place c.index_mut-in-Dispose.ensures.value;
        set = refl;
        sees = λ i s. c.in_ok-hold-in-Dispose.ensures.sees (meant c.args.name.now c.args.deps) i s;
      }) refl;
}
