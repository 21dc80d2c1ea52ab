use Rattle.std.proofs.Common.{◌≡◌, ◌∙◌, ap, length, ℕ, List, ◌∷◌, ◌++◌, []}
use Rattle.std.proofs.lemmas.List.{length-append}
use Rattle.turn_lock.specs.Histories.{calls, grown}
use Rattle.turn_lock.specs.Passes.{pass_view}
use Rattle.turn_tests.specs.declared.tally.Ask.TheVariants.{the_data, Add}
use Rattle.turn_tests.proofs.Totals.{recorded_where_told}
use Rattle.turn_tests.proofs.meet.add.Goals as goal

pub returns-clause-made : goal.returns-clause-made
returns-clause-made g c some =
    let old = pass_view c.args.pass.now in
    let new = pass_view c.call.new.pass in
    let call = c.call.ensures.called in
    let by = c.args.pass.now.number in
    let one : List (ℕ × the_data) = (by, Add c.args.amount) ∷ [] in
    let kept = recorded_where_told c.call.result call.recorded _ c.args.amount call.answered some in
    let more : grown (calls old.known old.seen) by (Add c.args.amount) call.recorded ≡ calls old.known old.seen ++ one =
    ap (λ b. grown (calls old.known old.seen) by (Add c.args.amount) b) kept in
    ap length (ap (λ ks. calls ks new.seen) c.call.ensures.same.known ∙ (call.known ∙ more))
    ∙ length-append (calls old.known old.seen) one
