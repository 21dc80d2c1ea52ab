use Rattle.std.proofs.Common.{◌≡◌, ◌+◌, ◌-◌, suc, true, false, ap, ◌∙◌, arith, rules}
use Rattle.std.specs.Prelude.{is_err}
use Rattle.world_model.specs.World.{turn}
use Rattle.event_runs.specs.Courses.{plain}
use Rattle.event_runs.specs.Playing.{play_step, play_turns}
use Rattle.script_runs.specs.Playing.{nothing, quieted}
use Rattle.input_commands.proofs.Commanding.{caught_up_at}
use Rattle.script_runs.proofs.Playing.{next_turn, turns_none}
use Rattle.input_commands.proofs.Stepping.{from_ok, quiet_nothing}
use Rattle.input_commands.proofs.Writing.{finishes, more, stops}
use Rattle.input_commands.proofs.play.take_turns.Goals as goal

pub returns-then-caught_up-clause-plays : goal.returns-then-caught_up-clause-plays
returns-then-caught_up-clause-plays g c = λ stage w h.
    let q = c.args.quiet in
    let i = c.args.client in
    let left = c.args.most - c.turns.counter in
    let world = c.turns.world in
    finishes stage _ _ (λ v. quieted q (play_turns stage i left (nothing v))) _ world tt
    (λ v at.
    let up = caught_up_at stage v world at c.world.result.now c.world.ensures i c.caught_up.result true c.caught_up.ensures c.if-caught_up.true in
    ap (quieted q) (turns_none stage i left v up) ∙ quiet_nothing q v)
    (c.turns.invariant.so_far stage w h)

pub returns-then-is_err-clause-plays : goal.returns-then-is_err-clause-plays
returns-then-is_err-clause-plays g c = λ stage w h.
    let q = c.args.quiet in
    let i = c.args.client in
    let left = c.args.most - c.turns.counter in
    let k = c.args.most - (c.turns.counter + 1) in
    let world = c.turns.world in
    let call = c.play_step-played in
    let e : is_err call.result ≡ true = search rules in
    let one_more : left ≡ suc k = omega (arith, c.turns-test.true) in
    stops stage _ _ _ (λ v. quieted q (play_turns stage i left (nothing v)))
    (λ v. quieted q (play_step stage (nothing v) (plain (turn i))))
    (λ v. quieted q (play_turns stage i k (nothing v))) _ world call.new.world
    (λ v at.
    let behind = caught_up_at stage v world at c.world.result.now c.world.ensures i c.caught_up.result false
    c.caught_up.ensures c.if-caught_up.false in
    next_turn stage i left k q v one_more behind)
    call.result e (λ v at. call.ensures.plays stage v at) (c.turns.invariant.so_far stage w h)

pub turns-preserved : goal.turns-preserved
turns-preserved g c =
    let q = c.args.quiet in
    let i = c.args.client in
    let left = c.args.most - c.turns.counter in
    let k = c.args.most - (c.turns.counter + 1) in
    let world = c.turns.world in
    let call = c.play_step-played in
    let e : is_err call.result ≡ false = search rules in
    let one_more : left ≡ suc k = omega (arith, c.turns-test.true) in
    record {
      so_far = λ stage w h.
          more stage _ _ _ (λ v. quieted q (play_turns stage i left (nothing v)))
          (λ v. quieted q (play_step stage (nothing v) (plain (turn i))))
          (λ v. quieted q (play_turns stage i k (nothing v))) _ world call.new.world
          (λ v at.
          let behind = caught_up_at stage v world at c.world.result.now c.world.ensures i c.caught_up.result false
          c.caught_up.ensures c.if-caught_up.false in
          next_turn stage i left k q v one_more behind)
          call.result e (λ v at. call.ensures.plays stage v at) (c.turns.invariant.so_far stage w h);
      words = call.ensures.words;
      running = from_ok call.result e call.ensures.running;
      on = call.ensures.on ∙ c.turns.invariant.on;
      later = omega (arith, call.ensures.faults.later);
    }

pub returns-clause-plays : goal.returns-clause-plays
returns-clause-plays g c = λ stage w h.
    let q = c.args.quiet in
    let i = c.args.client in
    let left = c.args.most - c.turns.counter in
    let none : left ≡ 0 = omega (arith, c.turns-test.false) in
    finishes stage _ _ (λ v. quieted q (play_turns stage i left (nothing v))) _ c.turns.world tt
    (λ v at. ap (λ n. quieted q (play_turns stage i n (nothing v))) none ∙ quiet_nothing q v)
    (c.turns.invariant.so_far stage w h)
