use Rattle.std.proofs.Common.{◌≡◌, ◌+◌, ◌<◌, ◌≤◌, ◌∙◌, sym, ap, length, suc, arith}
use Rattle.std.proofs.Math.Path.{subst}
use Rattle.output_lines.specs.declared.words.FaultPlace.TheVariants.{Dep}
use Rattle.client_model.specs.Instance.{accepts_dep}
use Rattle.client_model.specs.Running.{run_each}
use Rattle.module_language.specs.ModuleLanguage.{module_language}
use Rattle.page_state.specs.Standing.{Follows}
use Rattle.page_runs.specs.Telling.{arguments_in, run_listing}
use Rattle.page_state.proofs.Following.{follows_as}
use Rattle.page_runs.proofs.Turns.{runs_all, past_last}
use Rattle.page_runs.proofs.callbacks.run_listing.Goals as goal

pub run_turn-requires-clause-place : goal.run_turn-requires-clause-place
run_turn-requires-clause-place g c = subst (λ n. c.args.place < n) (sym c.loop-turn.invariant.long) c.requires.place

pub run_turn-requires-clause-turn : goal.run_turn-requires-clause-turn
run_turn-requires-clause-turn g c = subst (λ n. c.loop-turn.turn < n) (c.callback_count-turn-end.ensures ∙ ap length (sym c.loop-turn.invariant.deps)) c.loop-turn-test.true

pub loop-turn-preserved : goal.loop-turn-preserved
loop-turn-preserved g c = record {
  long = c.in_ok-run_turn.ensures.count ∙ c.loop-turn.invariant.long;
  words = c.in_ok-run_turn.ensures.words;
  deps = c.in_ok-run_turn.ensures.deps ∙ c.loop-turn.invariant.deps;
  begins = λ z more f.
      let next : c.loop-turn.turn + 1 ≡ suc c.loop-turn.turn = omega arith in
      c.loop-turn.invariant.begins z more (c.in_ok-run_turn.ensures.runs z more
      (subst (λ k. Follows (run_listing c.args.name.now c.args.given.now k c.args.place) c.run_turn.new.page z c.run_turn.new.lines.items more) next f));
}

pub returns-clause-follows : goal.returns-clause-follows
returns-clause-follows g c =
    let n = c.args.name.now in
    let given = c.args.given.now in
    let place = c.args.place in
    follows_as (run_listing n given 0 place) (run_each module_language Dep (arguments_in n given) (accepts_dep n) (suc place)) c.args.page.now c.loop-turn.page c.args.lines.now.items c.loop-turn.lines.items (λ r s. runs_all n given place r)
    (c.loop-turn.invariant.begins c.loop-turn.page c.loop-turn.lines.items
    (past_last n given place c.loop-turn.page c.loop-turn.turn c.loop-turn.lines.items
    (subst (λ k. place < k) (sym c.loop-turn.invariant.long) c.requires.place)
    (subst (λ k. k ≤ c.loop-turn.turn) (c.callback_count-turn-end.ensures ∙ ap length (sym c.loop-turn.invariant.deps)) c.loop-turn-test.false)))
