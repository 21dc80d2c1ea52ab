use Rattle.std.proofs.Common.{◌∙◌, ◌∷◌, [], length, get_or, slice_set, sym, ap, arith}
use Rattle.std.proofs.lemmas.List.{length-append}
use Rattle.std.proofs.lemmas.List.Edits.{map_over_more}
use Rattle.hot_events.specs.Rows.{Row, added_to}
use Rattle.hot_events.proofs.Places.{all_alike}
use Rattle.hot_events.proofs.waiting.add_to_each.Goals as goal
use Rattle.hot_events.proofs.waiting.add_to_each.Goals.{in-Some, in_default}

pub loop-place-preserved : goal.loop-place-preserved
loop-place-preserved c =
    let so_far = c.loop-place.invariant in
    let rows = c.args.lists.now in
    let here = c.loop-place.lists in
    let place = c.loop-place.place in
    let within = c.loop-place-test.true in
    elim c.match-pop.branch [
      | in-Some w ↦
          let x = w.in-Some.event in
          let row = w.index-lists-place.result in
          let before = c.pop.new.self.items in
          let parts = w.in-Some.ensures.items in
          let one_more = ap length parts ∙ length-append before (x ∷ []) in
          record {
            count = omega (arith, so_far.count, one_more);
            same = c.match-pop.auto.lists ∙ so_far.same;
            added = λ e alike.
                let left = so_far.added e alike in
                let last = all_alike e x before c.loop-place.events.items parts left.0 in
                let there = w.index-lists-place.is in (
                  last.0,
                  w.lists-is
                      ∙ ap (λ q. slice_set here place ((get_or here place row).0, q)) w.add_to.ensures
                      ∙ ap (λ r. slice_set here place (r.0, added_to x r.1)) (sym there)
                      ∙ ap (λ y. slice_set here place (row.0, added_to y row.1)) last.1
                      ∙ map_over_more (λ (r : Row). (r.0, added_to e r.1)) rows here place row within left.1 there,
                );
          }
      | in_default w ↦
          let none = w.in_default.ensures.cases.0 in
          let long = c.loop-place.events.ok.0 in
          absurd (omega (arith, so_far.count, none, long, within))
    ]
