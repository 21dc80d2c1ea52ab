use Rattle.std.proofs.Common.{rules, refl, ap, sym, ◌∙◌}
use Rattle.std.specs.List.{All}
use Rattle.std.proofs.Math.Path.{subst}
use Rattle.std.proofs.lemmas.Option.{slice_get_read}
use Rattle.output_lines.specs.declared.words.Handled.TheVariants as handled
use Rattle.handler_table.specs.Held.{IsHost}
use Rattle.page_births.proofs.Registering.{host_registers, none_registers, words_kept}
use Rattle.page_births.proofs.Shelves.{first_label}
use Rattle.page_state.proofs.Words.{word_at}
use Rattle.page_births.proofs.register.register_host.Goals as goal

pub hold-requires-clause-handled : goal.hold-requires-clause-handled
hold-requires-clause-handled g c = ap (λ t. handled.Host t c.number-number.result) (sym (first_label c.args.label c.args.page.now.shelf c.in-Some.held (sym c.next.ensures.first ∙ c.in-Some.is)))
    ∙ ap (λ n. handled.Host c.in-Some.held.label n) c.number-number.ensures

pub returns-in_ok-hold-in-Some-clause-words : goal.returns-in_ok-hold-in-Some-clause-words
returns-in_ok-hold-in-Some-clause-words g c = words_kept (goal.F-post g) c.args.page.now _ c.args.place c.hold.new.self refl
    (c.in_ok-hold-in-Some.ensures.word (word_at (goal.F-post g) c.args.page.now c.args.place c.index_mut.result.now c.requires.place c.index_mut.ensures.value c.requires.words))
    (subst (All (IsHost (goal.F-post g))) (sym c.next.ensures.left) (c.shelves_keep_their_word.ensures.left c.args.label c.args.page.now.shelf c.requires.words.shelf)) c.requires.words

pub returns-in_ok-hold-in-Some-clause-registers : goal.returns-in_ok-hold-in-Some-clause-registers
returns-in_ok-hold-in-Some-clause-registers g c = λ deps.
    host_registers c.args.place c.args.page.now _ c.index_mut.result.now c.hold.new.self c.args.name.now c.args.kind deps c.args.label c.in-Some.held c.args.lines.now.items (record {
      rest = refl;
      there = slice_get_read c.args.page.now.instances.items _ c.args.place c.index_mut.result.now refl c.requires.place c.index_mut.ensures.value;
      set = refl;
      sees = λ i s. c.in_ok-hold-in-Some.ensures.sees deps i s;
    }) (sym c.next.ensures.first ∙ c.in-Some.is) c.next.ensures.left

pub returns-in_ok-push-in-None-clause-registers : goal.returns-in_ok-push-in-None-clause-registers
returns-in_ok-push-in-None-clause-registers g c = λ deps.
    none_registers c.args.place c.args.page.now _ c.args.name.now c.args.kind deps c.args.label c.args.lines.now.items c.push.new.self.items c.requires.place refl
    (sym c.next.ensures.first ∙ c.in-None.is) c.next.ensures.left (search rules)
