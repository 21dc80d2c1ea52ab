use Rattle.std.proofs.Common.{◌≡◌, rules, subst}
use Rattle.std.specs.Io.KnownBytes.{Appends}
use Rattle.hmr_base.specs.Fronts.{WritesFront}
use Rattle.hmr_base.proofs.Fronts.{front_none}
use Rattle.folder_edits.specs.Serving.{header}
use Rattle.folder_edits.proofs.setup.announce.Goals as goal

pub returns-in_err-line-clause-front : goal.returns-in_err-line-clause-front
returns-in_err-line-clause-front g c = front_none (g.K.Sink.written c.args.out.now) (header c.args.port)

pub returns-in_err-write_all-clause-front : goal.returns-in_err-write_all-clause-front
returns-in_err-write_all-clause-front g c =
    let text : c.as_bytes.result.now ≡ header c.args.port = search rules in
    subst (WritesFront (g.K.Sink.written c.args.out.now) (g.K.Sink.written c.write_all.new.sink)) text c.write_all.ensures.front

pub returns-clause-front : goal.returns-clause-front
returns-clause-front g c =
    let text : c.as_bytes.result.now ≡ header c.args.port = search rules in
    subst (WritesFront (g.K.Sink.written c.args.out.now) (g.K.Sink.written c.write_all.new.sink)) text c.write_all.ensures.front

pub returns-clause-done : goal.returns-clause-done
returns-clause-done g c =
    let text : c.as_bytes.result.now ≡ header c.args.port = search rules in
    subst (Appends (g.K.Sink.written c.args.out.now) (g.K.Sink.written c.write_all.new.sink)) text c.in_ok-write_all.ensures.done
