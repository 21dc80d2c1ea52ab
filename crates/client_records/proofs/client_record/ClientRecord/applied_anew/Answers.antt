use Rattle.std.proofs.Common.{refl, sym}
use Rattle.std.proofs.Math.Path.{subst}
use Rattle.core_model.specs.Requests.{applied_in, done, mismatch, unfetched}
use Rattle.page_plan.specs.Renewals.{IsClosed}
use Rattle.client_records.specs.Inside.{IsStaged, kept_of}
use Rattle.client_records.specs.Made.{HasMade}
use Rattle.client_records.specs.Record.{IsRecord, Kept}
use Rattle.client_records.proofs.Applying.{applied_answers, closed_made, done_from, done_so, made_counted, made_rises, mismatch_from, refused_so, unfetched_from}
use Rattle.client_records.proofs.client_record.ClientRecord.applied_anew.Goals as goal

pub take-requires-clause-rising : goal.take-requires-clause-rising
take-requires-clause-rising c = made_rises c.self.inside.roots c.in-Some.plan c.self.inside.view c.in-Done.made
    (done_from c.as_slice.result.now c.self.inside.roots c.in-Some.plan c.self.inside.view c.args.table.now c.in_ok-name.field-0 c.in-Done.made c.as_slice.ensures c.in-Done.is c.in_ok-name.ensures).whole

pub take-requires-clause-counted : goal.take-requires-clause-counted
take-requires-clause-counted c = made_counted c.self.inside.roots c.in-Some.plan c.self.inside.view c.in-Done.made
    (done_from c.as_slice.result.now c.self.inside.roots c.in-Some.plan c.self.inside.view c.args.table.now c.in_ok-name.field-0 c.in-Done.made c.as_slice.ensures c.in-Done.is c.in_ok-name.ensures).whole
    c.self.invariant.counted (subst IsStaged c.in-Some.is c.self.invariant.staged)

pub take-requires-clause-closed : goal.take-requires-clause-closed
take-requires-clause-closed c = subst (λ (x : Kept). IsClosed x.roots c.in-Done.made) c.self.view_is
    (closed_made c.self.inside.roots c.in-Some.plan c.self.inside.view c.args.table.now c.in-Done.made
    (done_from c.as_slice.result.now c.self.inside.roots c.in-Some.plan c.self.inside.view c.args.table.now c.in_ok-name.field-0 c.in-Done.made c.as_slice.ensures c.in-Done.is c.in_ok-name.ensures))

pub returns-in-Unfetched-clause-stands : goal.returns-in-Unfetched-clause-stands
returns-in-Unfetched-clause-stands c = λ i d h.
    subst (IsRecord c.args.sources.now (applied_in d.page.plan c.args.table.now d).0) c.self.view_is
    (refused_so i c.args.sources.now d (kept_of c.self.inside) c.in-Some.plan c.args.table.now (unfetched c.in-Unfetched.name) (subst (IsRecord c.args.sources.now d) (sym c.self.view_is) h) c.in-Some.is
    (unfetched_from c.as_slice.result.now c.self.inside.roots c.in-Some.plan c.self.inside.view c.args.table.now c.in_ok-name.field-0 c.in-Unfetched.name c.as_slice.ensures c.in-Unfetched.is c.in_ok-name.ensures) (λ p. refl))

pub returns-in-Unfetched-clause-reply : goal.returns-in-Unfetched-clause-reply
returns-in-Unfetched-clause-reply c = λ i d h.
    applied_answers i c.args.sources.now d (kept_of c.self.inside) c.in-Some.plan c.args.table.now (unfetched c.in-Unfetched.name) (subst (IsRecord c.args.sources.now d) (sym c.self.view_is) h) c.in-Some.is
    (unfetched_from c.as_slice.result.now c.self.inside.roots c.in-Some.plan c.self.inside.view c.args.table.now c.in_ok-name.field-0 c.in-Unfetched.name c.as_slice.ensures c.in-Unfetched.is c.in_ok-name.ensures)

pub returns-in-Mismatch-clause-stands : goal.returns-in-Mismatch-clause-stands
returns-in-Mismatch-clause-stands c = λ i d h.
    subst (IsRecord c.args.sources.now (applied_in d.page.plan c.args.table.now d).0) c.self.view_is
    (refused_so i c.args.sources.now d (kept_of c.self.inside) c.in-Some.plan c.args.table.now (mismatch c.in-Mismatch.name c.in-Mismatch.told c.in-Mismatch.kept) (subst (IsRecord c.args.sources.now d) (sym c.self.view_is) h) c.in-Some.is
    (mismatch_from c.as_slice.result.now c.self.inside.roots c.in-Some.plan c.self.inside.view c.args.table.now c.in_ok-name.field-0 c.in-Mismatch.name c.in-Mismatch.told c.in-Mismatch.kept c.as_slice.ensures c.in-Mismatch.is c.in_ok-name.ensures) (λ p. refl))

pub returns-in-Mismatch-clause-reply : goal.returns-in-Mismatch-clause-reply
returns-in-Mismatch-clause-reply c = λ i d h.
    applied_answers i c.args.sources.now d (kept_of c.self.inside) c.in-Some.plan c.args.table.now (mismatch c.in-Mismatch.name c.in-Mismatch.told c.in-Mismatch.kept) (subst (IsRecord c.args.sources.now d) (sym c.self.view_is) h) c.in-Some.is
    (mismatch_from c.as_slice.result.now c.self.inside.roots c.in-Some.plan c.self.inside.view c.args.table.now c.in_ok-name.field-0 c.in-Mismatch.name c.in-Mismatch.told c.in-Mismatch.kept c.as_slice.ensures c.in-Mismatch.is c.in_ok-name.ensures)

pub returns-in_ok-take-in-Done-clause-stands : goal.returns-in_ok-take-in-Done-clause-stands
returns-in_ok-take-in-Done-clause-stands c = λ i d h.
    done_so i c.args.sources.now d (kept_of c.self.inside) c.take.new.self c.in-Some.plan c.args.table.now c.in-Done.made (subst (IsRecord c.args.sources.now d) (sym c.self.view_is) h) c.in-Some.is
    (done_from c.as_slice.result.now c.self.inside.roots c.in-Some.plan c.self.inside.view c.args.table.now c.in_ok-name.field-0 c.in-Done.made c.as_slice.ensures c.in-Done.is c.in_ok-name.ensures)
    (subst (λ (x : Kept). HasMade c.args.sources.now c.in-Done.made x c.take.new.self) (sym c.self.view_is) c.in_ok-take-in-Done.ensures.made)

pub returns-in_ok-take-in-Done-clause-reply : goal.returns-in_ok-take-in-Done-clause-reply
returns-in_ok-take-in-Done-clause-reply c = λ i d h.
    applied_answers i c.args.sources.now d (kept_of c.self.inside) c.in-Some.plan c.args.table.now done (subst (IsRecord c.args.sources.now d) (sym c.self.view_is) h) c.in-Some.is
    (done_from c.as_slice.result.now c.self.inside.roots c.in-Some.plan c.self.inside.view c.args.table.now c.in_ok-name.field-0 c.in-Done.made c.as_slice.ensures c.in-Done.is c.in_ok-name.ensures).row
