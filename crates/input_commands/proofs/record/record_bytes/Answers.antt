use Rattle.input_commands.proofs.record.record_bytes.Goals as goal

pub returns-clause-done : goal.returns-clause-done
returns-clause-done g c = c.write_recorded.ensures.done _ c.record_of-recorded.ensures

pub returns-clause-front : goal.returns-clause-front
returns-clause-front g c = c.write_recorded.ensures.front _ c.record_of-recorded.ensures

pub returns-clause-stops : goal.returns-clause-stops
returns-clause-stops g c = c.write_recorded.ensures.stops _ c.record_of-recorded.ensures

pub returns-clause-words : goal.returns-clause-words
returns-clause-words g c = c.write_recorded.ensures.words _ c.record_of-recorded.ensures

pub returns-clause-read : goal.returns-clause-read
returns-clause-read g c = c.write_recorded.ensures.read _ c.record_of-recorded.ensures

pub returns-clause-unwritten : goal.returns-clause-unwritten
returns-clause-unwritten g c = c.write_recorded.ensures.unwritten _ c.record_of-recorded.ensures
