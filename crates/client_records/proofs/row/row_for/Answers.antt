use Rattle.client_records.proofs.row.row_for.Goals as goal

pub returns-in-None-clause-tellable : goal.returns-in-None-clause-tellable
returns-in-None-clause-tellable c = λ view h. c.update_row.ensures.tellable view
