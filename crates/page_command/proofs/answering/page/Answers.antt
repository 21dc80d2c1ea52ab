use Rattle.page_command.proofs.Writing.{rose_since, still_risen}
use Rattle.page_command.proofs.answering.page.Goals as goal

pub returns-clause-pages : goal.returns-clause-pages
returns-clause-pages g c = record {
  between = g.K.Sink.written c.answer-ended.new.out;
  answered = c.answer-ended.ensures.answered;
  line = c.write_last.ensures.front;
  line_whole = λ quiet. c.write_last.ensures.whole (λ rose. quiet (rose_since _ _ _ c.answer-ended.ensures.out_later rose));
}

pub returns-clause-unwritten : goal.returns-clause-unwritten
returns-clause-unwritten g c = λ e. still_risen _ _ _ c.write_last.ensures.later (c.answer-ended.ensures.unwritten e)
