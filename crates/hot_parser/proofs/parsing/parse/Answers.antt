use Rattle.syntax_faults.proofs.Meant.{fault_is, first_is, memory_is, reads_as}
use Rattle.hot_parser.proofs.parsing.parse.Goals as goal

pub returns-clause-reads : goal.returns-clause-reads
returns-clause-reads c = reads_as c.args.text.now c.parse_bytes.result c.parse_bytes.ensures.exact

pub returns-clause-fault : goal.returns-clause-fault
returns-clause-fault c = fault_is c.args.text.now c.parse_bytes.result c.parse_bytes.ensures.exact

pub returns-clause-first : goal.returns-clause-first
returns-clause-first c = first_is c.args.text.now c.parse_bytes.result c.parse_bytes.ensures.exact

pub returns-clause-memory : goal.returns-clause-memory
returns-clause-memory c = memory_is c.args.text.now c.parse_bytes.result c.parse_bytes.ensures.exact
