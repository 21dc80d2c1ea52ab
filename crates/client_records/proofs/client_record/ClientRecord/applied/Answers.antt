use Rattle.std.specs.Prelude.{IfSome, Option}
use Rattle.std.proofs.Math.Path.{subst}
use Rattle.core_model.specs.Requests.{done}
use Rattle.page_plan.specs.Renewals.{put_all}
use Rattle.client_records.specs.declared.renew.Renewal.{Renewal}
use Rattle.client_records.specs.InPlace.{IsFitting}
use Rattle.client_records.specs.Record.{Kept}
use Rattle.client_records.proofs.Applying.{applied_answers, done_so}
use Rattle.client_records.proofs.client_record.ClientRecord.applied.Goals as goal

pub returns-in_ok-renew-in-Some-clause-stands : goal.returns-in_ok-renew-in-Some-clause-stands
returns-in_ok-renew-in-Some-clause-stands c = λ i d h.
    let k : Kept = c.args.self.now in
    let made = put_all c.in-Some.renewal.rows.items k.view in
    let fits : IsFitting k c.args.table.now made =
    subst (λ (r : Option Renewal). IfSome r (λ w. IsFitting k c.args.table.now (put_all w.rows.items k.view))) c.in-Some.is c.in_ok-found.ensures.fits in
    done_so i c.args.sources.now d k c.renew.new.self fits.plan c.args.table.now made h fits.under_way fits.done (c.in_ok-renew-in-Some.ensures.made d h)

pub returns-in_ok-renew-in-Some-clause-reply : goal.returns-in_ok-renew-in-Some-clause-reply
returns-in_ok-renew-in-Some-clause-reply c = λ i d h.
    let k : Kept = c.args.self.now in
    let fits : IsFitting k c.args.table.now (put_all c.in-Some.renewal.rows.items k.view) =
    subst (λ (r : Option Renewal). IfSome r (λ w. IsFitting k c.args.table.now (put_all w.rows.items k.view))) c.in-Some.is c.in_ok-found.ensures.fits in
    applied_answers i c.args.sources.now d k fits.plan c.args.table.now done h fits.under_way fits.done.row
