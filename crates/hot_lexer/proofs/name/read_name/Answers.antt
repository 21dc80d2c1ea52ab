use Rattle.std.proofs.Common.{◌∙◌}
use Rattle.module_semantics.specs.Bytes.{is_name_byte, span}
use Rattle.hot_lexer.proofs.Utf8.{name_bounds, name_cut}
use Rattle.hot_lexer.proofs.name.read_name.Goals as goal

pub range-requires-clause-start_boundary : goal.range-requires-clause-start_boundary
range-requires-clause-start_boundary c = λ after. (name_bounds c.args.text.now c.args.at c.args.first c.args.rest.now c.utf8.text c.requires.stands c.requires.start).0

pub range-requires-clause-end_boundary : goal.range-requires-clause-end_boundary
range-requires-clause-end_boundary c = rw (c.name_run-more.ensures).count (name_bounds c.args.text.now c.args.at c.args.first c.args.rest.now c.utf8.text c.requires.stands c.requires.start).1

pub returns : goal.returns
returns c = (c.range.ensures).value ∙ rw (c.name_run-more.ensures).count (name_cut c.args.text.now c.args.at c.args.first (span is_name_byte c.args.rest.now) c.args.rest.now c.requires.stands)
