use Rattle.serde_json.specs.View.{view}
use Rattle.message_json.specs.ClientReading.{client_of}
use Rattle.message_json.proofs.Causes.{given_cause}
use Rattle.message_json.proofs.Said.{exact_result, size_result}
use Rattle.message_json.proofs.Ranged.{client_ranged_result}
use Rattle.message_json.proofs.client.decode_value.Goals as goal

pub returns-in-Ok-clause-exact : goal.returns-in-Ok-clause-exact
returns-in-Ok-clause-exact c =
    exact_result c.args.bytes.now (view c.in-Ok.value) c.message_of.result (record { utf8 = c.in-Ok.ensures.ok.0; value = c.in-Ok.ensures.ok.1 }) c.message_of.ensures

pub returns-in-Ok-clause-size : goal.returns-in-Ok-clause-size
returns-in-Ok-clause-size c =
    size_result c.args.bytes.now (view c.in-Ok.value) c.message_of.result (record { utf8 = c.in-Ok.ensures.ok.0; value = c.in-Ok.ensures.ok.1 }) c.message_of.ensures

pub returns-in-Ok-clause-ranged : goal.returns-in-Ok-clause-ranged
returns-in-Ok-clause-ranged c = client_ranged_result (view c.in-Ok.value) c.message_of.result c.message_of.ensures

pub returns-in-Ok-clause-cause : goal.returns-in-Ok-clause-cause
returns-in-Ok-clause-cause c =
    given_cause c.args.bytes.now client_of (view c.in-Ok.value) c.message_of.result (record { utf8 = c.in-Ok.ensures.ok.0; value = c.in-Ok.ensures.ok.1 }) c.message_of.ensures
