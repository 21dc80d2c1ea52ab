use Rattle.std.proofs.Common.{false}
use Rattle.script_runs.specs.Playing.{perform}
use Rattle.input_commands.proofs.Recording.{logged_end}
use Rattle.input_commands.proofs.record.record_on.Goals as goal

pub record_log-requires-clause-some : goal.record_log-requires-clause-some
record_log-requires-clause-some g c =
    let where_at = c.requires.somewhere in
    let played = c.play_lines-played in
    let part = perform where_at.stage c.args.commands false where_at.course in
    record {
      stage = where_at.stage;
      part = part;
      is = logged_end where_at.stage _ _ part played.new.world played.result c.end_with_log-log.result
          c.end_with_log-log.ensures (played.ensures.plays where_at.stage where_at.course where_at.at);
    }

pub returns : goal.returns
returns g c = λ stage v h rooted.
    let played = c.play_lines-played in
    let part = perform stage c.args.commands false v in
    c.record_log.ensures stage part
    (logged_end stage _ _ part played.new.world played.result c.end_with_log-log.result c.end_with_log-log.ensures
    (played.ensures.plays stage v h)) rooted
