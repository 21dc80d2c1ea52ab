use Rattle.std.proofs.lemmas.Option.{slice_get_read}
use Rattle.std.proofs.lemmas.Grind.{common_steps}
use Rattle.std.proofs.Common.{rules, arith, length, refl, ap, ◌∙◌, sym}
use Rattle.output_lines.specs.declared.words.HandlerEnd.TheVariants.{Spent}
use Rattle.page_instances.specs.Marks.{first_ended, is_held_of, is_kind}
use Rattle.page_instances.proofs.Places.{first_here}
use Rattle.page_instances.proofs.marks.spend_mark.Goals as goal

pub returns-then-is_held : goal.returns-then-is_held
returns-then-is_held c = sym (first_here (is_held_of (is_kind c.args.kind)) Spent c.loop-place.marks.items c.loop-place.place c.index_mut.result.now (slice_get_read c.loop-place.marks.items (length c.loop-place.marks.items) c.loop-place.place c.index_mut.result.now refl (search rules) c.index_mut.ensures.value) (grind (arith, common_steps))) ∙ c.loop-place.invariant.first ∙ ap (first_ended (is_held_of (is_kind c.args.kind)) Spent) c.loop-place.invariant.same
