use Rattle.std.proofs.Common.{refl, inl, inr}
use Rattle.std.specs.Prelude.{⊤, Err}
use Rattle.page_command.specs.Opening.{page_sources}
use Rattle.page_command.proofs.Bodies.{serves_same}
use Rattle.page_command.proofs.Stopping.{early_silent, err_is}
use Rattle.page_command.proofs.Writing.{appends_none}
use Rattle.page_command.proofs.answering.answer.Goals as goal

pub returns-in-Ok-clause-answered : goal.returns-in-Ok-clause-answered
returns-in-Ok-clause-answered g c =
    let opens = c.in-Ok.ensures.opens in
    inl (record {
      edits = opens.0;
      opens = opens.1;
      end = c.serve_http.result;
      ended_is = c.end_of.ensures.is;
      serves = serves_same c.in-Ok.map (page_sources opens.0) opens.2.served _ _ _ c.serve_http.result c.serve_http.ensures.serves;
    })

pub returns-in-Err-clause-answered : goal.returns-in-Err-clause-answered
returns-in-Err-clause-answered g c =
    inr (record { stop = c.in-Err.stop; ended_is = refl; stops = c.in-Err.ensures.stops; silent = appends_none (g.K.Sink.written c.args.out.now) })

pub returns-in-Err-clause-unread : goal.returns-in-Err-clause-unread
returns-in-Err-clause-unread g c =
    λ e. absurd ((early_silent (g.T.Tree.coming c.args.tree.now) c.in-Err.stop c.in-Err.ensures.stops).0 (err_is {T = ⊤} (Err c.in-Err.stop) c.in-Err.stop _ refl e))

pub returns-in-Err-clause-unwritten : goal.returns-in-Err-clause-unwritten
returns-in-Err-clause-unwritten g c =
    λ e. absurd ((early_silent (g.T.Tree.coming c.args.tree.now) c.in-Err.stop c.in-Err.ensures.stops).1 (err_is {T = ⊤} (Err c.in-Err.stop) c.in-Err.stop _ refl e))
