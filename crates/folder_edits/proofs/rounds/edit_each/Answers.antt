use Rattle.std.proofs.Common.{rules, ◌≡◌, ◌≤◌, ◌++◌, ◌∷◌, [], ap, sym, ◌∙◌, subst}
use Rattle.std.specs.Prelude.{All, Err}
use Rattle.std.specs.Vec.Iter.{into_iter_items}
use Rattle.std.proofs.lemmas.List.Elements.{All-head, All-rest, All-same}
use Rattle.std.proofs.lemmas.Result.{err_from_is_err_and}
use Rattle.folder_edits.specs.Rounds.{MakesEach}
use Rattle.hmr_types.specs.declared.limits.TheConstants.{MESSAGE_BYTES}
use Rattle.hub_editor.specs.Edits.{Edit, edits_in, length_of, text_in}
use Rattle.hub_editor.proofs.Calls.{knower_self, knower_then}
use Rattle.folder_edits.proofs.Makings.{all_as, all_none, all_one, all_then, each_all, each_stopped, edits_push, edits_then, left_then, none_left}
use Rattle.folder_edits.proofs.rounds.edit_each.Goals as goal

abbrev IsShort : Edit → Type 0
IsShort e = length_of e ≤ MESSAGE_BYTES

pub loop-name-init : goal.loop-name-init
loop-name-init g c = record {
  of = c.requires.of;
  same = knower_self c.args.pass.now;
  transcript = λ h. h;
  edited = λ p x. x;
  going = c.requires.going;
  made = all_none c.args.editing.now.editor.works.items;
  all = ap edits_in c.into_iter-name-iterator.ensures.into_iter_gives.0;
  left = search rules;
  short = All-same IsShort (edits_in (into_iter_items c.into_iter-name-iterator.result)) (edits_in c.args.edits.items) (ap edits_in c.into_iter-name-iterator.ensures.into_iter_gives.0) c.requires.short;
  of_queue = c.requires.of_queue;
  puts = c.requires.puts;
  unclosed = c.requires.unclosed;
}

pub edit-requires-clause-short : goal.edit-requires-clause-short
edit-requires-clause-short g c =
    All-head IsShort (c.in-Some.name, text_in c.in-Some.text) (edits_in (into_iter_items c.next.new.self))
    (subst (λ es. All IsShort (edits_in es)) c.in-Some.ensures.steps.0 c.loop-name.invariant.short)

pub loop-name-preserved : goal.loop-name-preserved
loop-name-preserved g c =
    let i = c.loop-name.invariant in
    let old = c.loop-name.editing.editor.works.items in
    let new = c.edit.new.self.works.items in
    let done = c.loop-name.yielded in
    let steps : into_iter_items c.loop-name.name-iterator ≡ (c.in-Some.name, c.in-Some.text) ∷ into_iter_items c.next.new.self = c.in-Some.ensures.steps.0 in
    let added = c.in_ok-edit.ensures.added in
    record {
      of = c.edit.ensures.of;
      same = knower_then c.args.pass.now c.loop-name.pass c.edit.new.pass i.same c.edit.ensures.same;
      transcript = λ h. c.edit.ensures.transcript (i.transcript h);
      edited = λ p x. c.edit.ensures.edited p (i.edited p x);
      going = c.edit.ensures.going;
      made =
          all_as (edits_in done ++ (c.in-Some.name, text_in c.in-Some.text) ∷ []) (edits_in (done ++ (c.in-Some.name, c.in-Some.text) ∷ [])) c.args.editing.now.editor.works.items new
          (sym (edits_push done (c.in-Some.name, c.in-Some.text)))
          (all_then (edits_in done) ((c.in-Some.name, text_in c.in-Some.text) ∷ []) c.args.editing.now.editor.works.items old new i.made
          (all_one old new added.one (c.in-Some.name, text_in c.in-Some.text) added.whole added.edit_is added.accepted));
      all =
          edits_then done (c.in-Some.name, c.in-Some.text) (into_iter_items c.next.new.self)
          ∙ (ap (λ es. edits_in done ++ edits_in es) (sym steps) ∙ i.all);
      left = left_then _ _ _ _ (c.in-Some.name, c.in-Some.text) i.left (sym c.in-Some.ensures.steps.1) steps;
      short = All-rest IsShort (c.in-Some.name, text_in c.in-Some.text) (edits_in (into_iter_items c.next.new.self)) (edits_in (into_iter_items c.loop-name.name-iterator)) (ap edits_in steps) i.short;
      of_queue = c.edit.ensures.of_queue;
      puts = c.edit.ensures.puts;
      unclosed = c.edit.ensures.unclosed;
    }

pub returns-in_err-edit-clause-same : goal.returns-in_err-edit-clause-same
returns-in_err-edit-clause-same g c = knower_then c.args.pass.now c.loop-name.pass c.edit.new.pass c.loop-name.invariant.same c.edit.ensures.same

pub returns-in_err-edit-clause-transcript : goal.returns-in_err-edit-clause-transcript
returns-in_err-edit-clause-transcript g c = λ h. c.edit.ensures.transcript (c.loop-name.invariant.transcript h)

pub returns-in_err-edit-clause-edited : goal.returns-in_err-edit-clause-edited
returns-in_err-edit-clause-edited g c = λ p x. c.edit.ensures.edited p (c.loop-name.invariant.edited p x)

pub returns-in_err-edit-clause-makes : goal.returns-in_err-edit-clause-makes
returns-in_err-edit-clause-makes g c =
    let i = c.loop-name.invariant in
    let told = err_from_is_err_and c.from_residual.result c.from_residual.ensures.1 in
    let stop = c.in_err-edit.field-0.0 in
    subst (λ r. MakesEach (edits_in c.args.edits.items) c.args.editing.now.editor.works.items c.edit.new.self.works.items r) (sym (told.1 ∙ ap Err told.2))
    (each_stopped (edits_in c.loop-name.yielded) (edits_in (into_iter_items c.next.new.self)) (edits_in c.args.edits.items) c.args.editing.now.editor.works.items c.loop-name.editing.editor.works.items c.edit.new.self.works.items
    (c.in-Some.name, text_in c.in-Some.text) stop i.made (ap (λ es. edits_in c.loop-name.yielded ++ edits_in es) (sym c.in-Some.ensures.steps.0) ∙ i.all) c.in_err-edit.ensures.stopped)

pub returns-clause-makes : goal.returns-clause-makes
returns-clause-makes g c =
    let i = c.loop-name.invariant in
    each_all (edits_in c.loop-name.yielded) (edits_in (into_iter_items c.loop-name.name-iterator)) (edits_in c.args.edits.items) c.args.editing.now.editor.works.items c.loop-name.editing.editor.works.items
    i.made i.all (ap edits_in (none_left (into_iter_items c.loop-name.name-iterator) (sym i.left ∙ c.in-None.ensures.steps.0)))
