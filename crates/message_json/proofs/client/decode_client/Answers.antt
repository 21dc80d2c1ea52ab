use Rattle.std.proofs.Common.{rules}
use Rattle.message_json.specs.TableText.{IsTableText}
use Rattle.message_json.proofs.TableText.{table_read, table_reads, table_size, table_written}
use Rattle.message_json.proofs.client.decode_client.Goals as goal

pub returns-in-Some-clause-exact : goal.returns-in-Some-clause-exact
returns-in-Some-clause-exact c =
    let text : IsTableText c.args.bytes.now c.in-Some.table = search rules in
    table_reads c.args.bytes.now c.in-Some.table text

pub returns-in-Some-clause-size : goal.returns-in-Some-clause-size
returns-in-Some-clause-size c =
    let text : IsTableText c.args.bytes.now c.in-Some.table = search rules in
    table_size c.args.bytes.now c.in-Some.table text

pub returns-in-Some-clause-read : goal.returns-in-Some-clause-read
returns-in-Some-clause-read c =
    let text : IsTableText c.args.bytes.now c.in-Some.table = search rules in
    λ d h. table_read c.args.bytes.now c.in-Some.table d text h

pub returns-in-Some-clause-written : goal.returns-in-Some-clause-written
returns-in-Some-clause-written c =
    let text : IsTableText c.args.bytes.now c.in-Some.table = search rules in
    λ m typed fits h. table_written c.args.bytes.now c.in-Some.table m text typed fits h
