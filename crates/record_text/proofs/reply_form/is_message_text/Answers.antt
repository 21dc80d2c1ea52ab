use Rattle.std.proofs.Common.{rules, ◌≡◌, ◌∙◌, subst}
use Rattle.message_json.specs.declared.fault.MsgFault.TheVariants as errors
use Rattle.message_json.specs.Reading.{HasCause}
use Rattle.message_json.specs.ServerReading.{server_of}
use Rattle.record_text.proofs.Messages.{message_read, no_message, no_reading}
use Rattle.record_text.proofs.reply_form.is_message_text.Goals as goal

pub returns-in-Ok : goal.returns-in-Ok
returns-in-Ok c =
    c.is_text.ensures
    ∙ message_read c.args.bytes.now c.deref.result.now c.in-Ok.msg c.in-Ok.ensures.exact c.in-Ok.ensures.read (c.deref.ensures.value ∙ c.in_ok-text-in-Ok.ensures.text)

pub returns-in-Err-NotJson : goal.returns-in-Err-NotJson
returns-in-Err-NotJson c =
    let e : c.in-Err-NotJson.field-0 ≡ errors.NotJson = search (rules, c.in-Err-NotJson.field-0-is) in
    no_reading c.args.bytes.now (subst (λ x. HasCause c.args.bytes.now (server_of 2) x) e c.in-Err-NotJson.ensures.cause)

pub returns-in-Err-NoType : goal.returns-in-Err-NoType
returns-in-Err-NoType c =
    let e : c.in-Err-NoType.field-0 ≡ errors.NoType = search (rules, c.in-Err-NoType.field-0-is) in
    no_message c.args.bytes.now _ (subst (λ x. HasCause c.args.bytes.now (server_of 2) x) e c.in-Err-NoType.ensures.cause)

pub returns-in-Err-BadField : goal.returns-in-Err-BadField
returns-in-Err-BadField c =
    let e : c.in-Err-BadField.field-0 ≡ errors.BadField c.in-Err-BadField.field-0-0 = search (rules, c.in-Err-BadField.field-0-is) in
    no_message c.args.bytes.now _ (subst (λ x. HasCause c.args.bytes.now (server_of 2) x) e c.in-Err-BadField.ensures.cause)

pub returns : goal.returns
returns c =
    let e : c.in-Err-ExtraField.field-0 ≡ errors.ExtraField c.in-Err-ExtraField.field-0-0 = search (rules, c.in-Err-ExtraField.field-0-is) in
    no_message c.args.bytes.now _ (subst (λ x. HasCause c.args.bytes.now (server_of 2) x) e c.in-Err-ExtraField.ensures.cause)
