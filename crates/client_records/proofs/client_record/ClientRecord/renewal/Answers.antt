use Rattle.std.proofs.Common.{ap, sym, ◌∙◌}
use Rattle.std.proofs.Math.Path.{subst}
use Rattle.page_plan.specs.Renewals.{fetched_of, put_all}
use Rattle.client_records.specs.InPlace.{IsFitting, IsInPlace}
use Rattle.client_records.specs.Inside.{kept_of}
use Rattle.client_records.specs.Record.{Kept}
use Rattle.client_records.proofs.InPlace.{fits_in_place, in_place}
use Rattle.client_records.proofs.client_record.ClientRecord.renewal.Goals as goal

-- the path on which all fits
pub returns-clause-in_place : goal.returns-clause-in_place
returns-clause-in_place c =
    let k : Kept = kept_of c.self.inside in
    let names = c.in_ok-names.names.items in
    let rows = c.in_ok-rows.rows.items in
    let p = c.in-Some.plan in
    subst (λ (x : Kept). IsInPlace x names rows) c.self.view_is
    (in_place k names rows p (sym c.is_whole.ensures ∙ c.if-not-is_whole.false) c.self.invariant.dropped c.in-Some.is (c.fits.ensures.growing c.if-not-fits.false) c.in_ok-names.ensures (c.in_ok-rows.ensures ∙ ap (fetched_of p) c.deref-2.ensures.value))

pub returns-clause-fits : goal.returns-clause-fits
returns-clause-fits c =
    let k : Kept = kept_of c.self.inside in
    let names = c.in_ok-names.names.items in
    let rows = c.in_ok-rows.rows.items in
    let p = c.in-Some.plan in
    let w : IsInPlace k names rows = in_place k names rows p (sym c.is_whole.ensures ∙ c.if-not-is_whole.false) c.self.invariant.dropped c.in-Some.is (c.fits.ensures.growing c.if-not-fits.false) c.in_ok-names.ensures (c.in_ok-rows.ensures ∙ ap (fetched_of p) c.deref-2.ensures.value) in
    let i = c.self.invariant in
    subst (λ (x : Kept). IsFitting x c.args.table.now (put_all rows x.view)) c.self.view_is
    (fits_in_place k names rows w i.rising i.closed i.dropped c.args.table.now (c.fits.ensures.told c.if-not-fits.false))
