use Rattle.std.proofs.Common.{arith, ap, sym, ◌∙◌}
use Rattle.turn_lock.proofs.Calls.{run, grows, plain, left, follows, same_knower, all_may, called}
use Rattle.turn_lock.proofs.Steps.{releases}
use Rattle.turn_lock.proofs.pass.TurnLock.call.Goals as goal

pub count-requires-clause-grew : goal.count-requires-clause-grew
count-requires-clause-grew g c =
    let a = c.apply-reply.ensures in
    grows g.T.Keeps
    (run g.T.Keeps _ _ _ _ _ _ _ c.args.entry c.apply-reply.result.0 _ c.seize.ensures.took c.args.pass.now.idle c.take-value.ensures.value c.take-value.ensures.seat c.requires.may
    a.history a.follows a.answer c.give.ensures.seat)

pub count-requires-clause-plain : goal.count-requires-clause-plain
count-requires-clause-plain g c =
    let a = c.apply-reply.ensures in
    plain g.T.Keeps
    (run g.T.Keeps _ _ _ _ _ _ _ c.args.entry c.apply-reply.result.0 _ c.seize.ensures.took c.args.pass.now.idle c.take-value.ensures.value c.take-value.ensures.seat c.requires.may
    a.history a.follows a.answer c.give.ensures.seat)

pub store-requires : goal.store-requires
store-requires g c =
    let a = c.apply-reply.ensures in
    let r = run g.T.Keeps _ _ _ _ _ _ _ c.args.entry c.apply-reply.result.0 _ c.seize.ensures.took c.args.pass.now.idle c.take-value.ensures.value c.take-value.ensures.seat c.requires.may
    a.history a.follows a.answer c.give.ensures.seat in
    let is = left g.T.Keeps r c.count.new.seat.me c.count.ensures.seat in (
      c.count.ensures.table ∙ (c.give.ensures.table ∙ (c.take-value.ensures.table ∙ (c.seize.ensures.table ∙ c.requires.pass))),
      omega (arith, c.args.self.now.sized.0),
      releases g.T.Keeps.history g.T.Keeps.may g.T.Keeps.follows _ _ _ c.apply-reply.new.self c.seize.ensures.took.opening (ap (λ z. z.1) is) (ap (λ z. z.0.holds) is) (sym (ap (λ z. z.0.seen) is))
          (ap (λ z. z.0.opening) is ∙ c.seize.ensures.took.opened) (follows g.T.Keeps r) c.args.self.now.sized.1,
    )

pub returns-clause-called : goal.returns-clause-called
returns-clause-called g c =
    let a = c.apply-reply.ensures in
    called g.T.Keeps
    (run g.T.Keeps _ _ _ _ _ _ _ c.args.entry c.apply-reply.result.0 _ c.seize.ensures.took c.args.pass.now.idle c.take-value.ensures.value c.take-value.ensures.seat c.requires.may
    a.history a.follows a.answer c.give.ensures.seat) c.count.new.seat.me c.store.new.seat.me c.count.ensures.seat c.store.ensures.2

pub returns-clause-same : goal.returns-clause-same
returns-clause-same g c =
    let a = c.apply-reply.ensures in
    same_knower g.T.Keeps
    (run g.T.Keeps _ _ _ _ _ _ _ c.args.entry c.apply-reply.result.0 _ c.seize.ensures.took c.args.pass.now.idle c.take-value.ensures.value c.take-value.ensures.seat c.requires.may
    a.history a.follows a.answer c.give.ensures.seat) c.count.new.seat.me c.store.new.seat.me c.count.ensures.seat c.store.ensures.2

pub returns-clause-allowed : goal.returns-clause-allowed
returns-clause-allowed g c =
    let a = c.apply-reply.ensures in
    all_may g.T.Keeps
    (run g.T.Keeps _ _ _ _ _ _ _ c.args.entry c.apply-reply.result.0 _ c.seize.ensures.took c.args.pass.now.idle c.take-value.ensures.value c.take-value.ensures.seat c.requires.may
    a.history a.follows a.answer c.give.ensures.seat) c.count.new.seat.me c.store.new.seat.me c.count.ensures.seat c.store.ensures.2
