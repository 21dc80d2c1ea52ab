use Rattle.std.proofs.Common.{◌≡◌, sym, ◌∙◌}
use Rattle.std.specs.Prelude.{true}
use Rattle.std.proofs.Math.Path.{subst}
use Rattle.core_model.specs.Names.{Name}
use Rattle.core_model.specs.Spread.{AreIn}
use Rattle.core_model.specs.View.{is_in}
use Rattle.client_queue.specs.Queue.{Queue, is_marked, knows}
use Rattle.client_records.proofs.Invalidating.{forced_more}
use Rattle.client_records.proofs.client_record.ClientRecord.invalidate.Goals as goal

pub invariant_of-self-2 : goal.invariant_of-self-2
invariant_of-self-2 c =
    record {
      rising = c.self.invariant.rising;
      counted = c.self.invariant.counted;
      staged = c.self.invariant.staged;
      batches = c.self.invariant.batches;
      forced = subst (λ (q : Queue). AreIn q.forced c.self.inside.view) (sym c.release.ensures)
          (subst (λ (q : Queue). AreIn q.forced c.self.inside.view) (sym c.in_ok-force.ensures.ok)
          (forced_more c.self.inside.view c.self.inside.queue.forced c.args.name c.args.version c.self.invariant.forced (sym c.is_at_version.ensures ∙ c.if-not-is_at_version.false)));
      known = subst (λ (q : Queue). (n : Name) → is_in c.self.inside.view n ≡ true → knows q n ≡ true) (sym c.release.ensures)
          (subst (λ (q : Queue). (n : Name) → is_in c.self.inside.view n ≡ true → knows q n ≡ true) (sym c.in_ok-force.ensures.ok) c.self.invariant.known);
      marked = subst (λ (q : Queue). (n : Name) → is_marked q n ≡ true → is_in c.self.inside.view n ≡ true) (sym c.release.ensures)
          (subst (λ (q : Queue). (n : Name) → is_marked q n ≡ true → is_in c.self.inside.view n ≡ true) (sym c.in_ok-force.ensures.ok) c.self.invariant.marked);
      closed = c.self.invariant.closed;
      dropped = c.self.invariant.dropped;
    }
