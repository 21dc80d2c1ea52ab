use Rattle.std.proofs.Common.{◌≡◌, ◌∷◌, [], ◌∙◌, length, true, false, ap, sym, refl, arith, rules}
use Rattle.std.specs.Prelude.{is_err}
use Rattle.std.specs.Vec.Iter.{into_iter_items}
use Rattle.std.proofs.lemmas.List.{nil_from_length}
use Rattle.std.proofs.lemmas.List.Elements.{All-rest, All-same}
use Rattle.play_script.specs.Asked.{HasFormat}
use Rattle.script_runs.specs.Commands.{command_seen}
use Rattle.script_runs.specs.Playing.{commanded, perform, quieted}
use Rattle.script_runs.proofs.Playing.{next_command, next_quiet}
use Rattle.input_commands.proofs.Stepping.{from_ok}
use Rattle.input_commands.proofs.Writing.{begins, finishes, likewise, more, stops}
use Rattle.input_commands.proofs.play.play_all.Goals as goal

pub lines-init : goal.lines-init
lines-init g c =
    let all = c.into_iter-line-iterator.ensures.into_iter_gives.0 in
    record {
      so_far = λ stage w h.
          begins stage _ (perform stage (into_iter_items c.into_iter-line-iterator.result) false) _ w c.args.world.now h
          (ap (λ lines. perform stage lines false w) all);
      count = search rules;
      formats = All-same HasFormat (into_iter_items c.into_iter-line-iterator.result) c.args.lines.items all
          c.requires.formats;
      words = c.requires.words;
      running = c.requires.running;
      on = refl;
      later = omega arith;
    }

pub returns-then-is_err-clause-plays : goal.returns-then-is_err-clause-plays
returns-then-is_err-clause-plays g c = λ stage w h.
    let q = c.lines.quiet in
    let line = c.in-Some.line in
    let command = command_seen c.in-Some-command_of.command in
    let left = into_iter_items c.lines.line-iterator in
    let behind = into_iter_items c.next.new.self in
    let call = c.play_command-played in
    let e : is_err call.result ≡ true = search rules in
    let first : left ≡ line ∷ behind = c.in-Some.ensures.steps.0 in
    stops stage _ _ _ (perform stage left q) (λ v. quieted q (commanded stage command v))
    (perform stage behind q) _ c.lines.world call.new.world
    (λ v at. next_command stage left behind line q command v first c.in-Some-command_of.ensures.command)
    call.result e (λ v at. call.ensures.plays stage v at) (c.lines.invariant.so_far stage w h)

pub lines-preserved-else-is_err-3 : goal.lines-preserved-else-is_err-3
lines-preserved-else-is_err-3 g c =
    let q = c.lines.quiet in
    let line = c.in-Some.line in
    let command = command_seen c.in-Some-command_of.command in
    let left = into_iter_items c.lines.line-iterator in
    let behind = into_iter_items c.next.new.self in
    let call = c.play_command-played in
    let e : is_err call.result ≡ false = search rules in
    let first : left ≡ line ∷ behind = c.in-Some.ensures.steps.0 in
    record {
      so_far = λ stage w h.
          more stage _ _ _ (perform stage left q) (λ v. quieted q (commanded stage command v))
          (perform stage behind q) _ c.lines.world call.new.world
          (λ v at. next_command stage left behind line q command v first c.in-Some-command_of.ensures.command)
          call.result e (λ v at. call.ensures.plays stage v at) (c.lines.invariant.so_far stage w h);
      count = (let was = c.lines.invariant.count in let gone = c.in-Some.ensures.steps.1 in
          let short = ap length first in omega arith);
      formats = All-rest HasFormat line behind left first c.lines.invariant.formats;
      words = call.ensures.words;
      running = from_ok call.result e call.ensures.running;
      on = call.ensures.on ∙ c.lines.invariant.on;
      later = omega (arith, call.ensures.faults.later, c.lines.invariant.later);
    }

pub lines-preserved : goal.lines-preserved
lines-preserved g c =
    let q = c.lines.quiet in
    let line = c.in-Some.line in
    let left = into_iter_items c.lines.line-iterator in
    let behind = into_iter_items c.next.new.self in
    let first : left ≡ line ∷ behind = c.in-Some.ensures.steps.0 in
    record {
      so_far = λ stage w h.
          likewise stage _ _ (perform stage left q) (perform stage behind true) _ c.lines.world
          (λ v. next_quiet stage left behind line q v first c.in-None-command_of.ensures.command)
          (c.lines.invariant.so_far stage w h);
      count = (let was = c.lines.invariant.count in let gone = c.in-Some.ensures.steps.1 in
          let short = ap length first in omega arith);
      formats = All-rest HasFormat line behind left first c.lines.invariant.formats;
      words = c.lines.invariant.words;
      running = c.lines.invariant.running;
      on = c.lines.invariant.on;
      later = c.lines.invariant.later;
    }

pub returns-clause-plays : goal.returns-clause-plays
returns-clause-plays g c = λ stage w h.
    let left = into_iter_items c.lines.line-iterator in
    let none = c.in-None.ensures.steps in
    let empty : left ≡ [] = nil_from_length left (sym c.lines.invariant.count ∙ none.0) in
    finishes stage _ _ (perform stage left c.lines.quiet) _ c.lines.world tt
    (λ v at. ap (λ lines. perform stage lines c.lines.quiet v) empty) (c.lines.invariant.so_far stage w h)
