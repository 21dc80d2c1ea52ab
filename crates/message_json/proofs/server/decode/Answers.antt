use Rattle.serde_json.specs.View.{view}
use Rattle.message_json.specs.ServerReading.{server_of}
use Rattle.message_json.proofs.Causes.{given_cause}
use Rattle.message_json.proofs.Told.{exact_result}
use Rattle.message_json.proofs.Ranged.{server_ranged_result}
use Rattle.message_json.proofs.server.decode.Goals as goal

pub returns-in-Ok-clause-exact : goal.returns-in-Ok-clause-exact
returns-in-Ok-clause-exact c =
    exact_result c.args.format c.args.bytes.now (view c.in-Ok.value) c.message_of.result (record { utf8 = c.in-Ok.ensures.ok.0; value = c.in-Ok.ensures.ok.1 }) c.message_of.ensures

pub returns-in-Ok-clause-ranged : goal.returns-in-Ok-clause-ranged
returns-in-Ok-clause-ranged c = server_ranged_result c.args.format (view c.in-Ok.value) c.message_of.result c.message_of.ensures

pub returns-in-Ok-clause-cause : goal.returns-in-Ok-clause-cause
returns-in-Ok-clause-cause c =
    given_cause c.args.bytes.now (server_of c.args.format) (view c.in-Ok.value) c.message_of.result (record { utf8 = c.in-Ok.ensures.ok.0; value = c.in-Ok.ensures.ok.1 }) c.message_of.ensures
