use Rattle.std.proofs.Common.{◌≡◌, refl, sym, false, true}
use Rattle.std.specs.Prelude.{Ok}
use Rattle.std.proofs.Math.Path.{subst}
use Rattle.std.proofs.lemmas.Bool.{false≢true}
use Rattle.core_model.specs.Requests.{ask, fetch, applied_as, aborted, invalidate}
use Rattle.server_core.specs.Kept.{IsStep}
use Rattle.events_and_replies.specs.Said.{event_of}
use Rattle.std.specs.Vec.{with_items}
use Rattle.server_core.specs.Inside.{kept_of}
use Rattle.server_core.proofs.Keeping.{heard_step}
use Rattle.server_core.proofs.Reloads.{reload_step}
use Rattle.server_core.proofs.page_core.Core.step.Goals as goal

pub returns-in-Edit : goal.returns-in-Edit
returns-in-Edit c =
    let facts : IsStep (event_of c.args.event) c.args.self.now c.edit.new.self c.edit.result = subst (λ e. IsStep (event_of e) c.args.self.now c.edit.new.self c.edit.result) (sym c.in-Edit.is) c.edit.ensures in
    record {
      stands = facts.stands;
      reply = facts.reply;
      roots = facts.roots;
      kept = facts.kept;
      free = facts.free;
      written = facts.written;
      others = facts.others;
      reload = reload_step (event_of c.args.event) c.args.self.now (c.edit.new.self) c.edit.result facts;
    }

pub returns-in-Settle : goal.returns-in-Settle
returns-in-Settle c =
    let facts : IsStep (event_of c.args.event) c.args.self.now c.settle.new.self c.settle.result = subst (λ e. IsStep (event_of e) c.args.self.now c.settle.new.self c.settle.result) (sym c.in-Settle.is) c.settle.ensures in
    record {
      stands = facts.stands;
      reply = facts.reply;
      roots = facts.roots;
      kept = facts.kept;
      free = facts.free;
      written = facts.written;
      others = facts.others;
      reload = reload_step (event_of c.args.event) c.args.self.now (c.settle.new.self) c.settle.result facts;
    }

pub returns-in-Connect : goal.returns-in-Connect
returns-in-Connect c =
    let facts : IsStep (event_of c.args.event) c.args.self.now c.connect.new.self c.connect.result = subst (λ e. IsStep (event_of e) c.args.self.now c.connect.new.self c.connect.result) (sym c.in-Connect.is) c.connect.ensures in
    record {
      stands = facts.stands;
      reply = facts.reply;
      roots = facts.roots;
      kept = facts.kept;
      free = facts.free;
      written = facts.written;
      others = facts.others;
      reload = reload_step (event_of c.args.event) c.args.self.now (c.connect.new.self) c.connect.result facts;
    }

pub returns-in-Disconnect : goal.returns-in-Disconnect
returns-in-Disconnect c =
    let facts : IsStep (event_of c.args.event) c.args.self.now c.disconnect.new.self (Ok c.disconnect.result) = subst (λ e. IsStep (event_of e) c.args.self.now c.disconnect.new.self (Ok c.disconnect.result)) (sym c.in-Disconnect.is) c.disconnect.ensures in
    record {
      stands = facts.stands;
      reply = facts.reply;
      roots = facts.roots;
      kept = facts.kept;
      free = facts.free;
      written = facts.written;
      others = facts.others;
      reload = reload_step (event_of c.args.event) c.args.self.now (c.disconnect.new.self) (Ok c.disconnect.result) facts;
    }

pub returns-in-Ask : goal.returns-in-Ask
returns-in-Ask c =
    let step = heard_step c.self.inside c.args.self.now c.self.view_is c.deref_mut.result.now c.ask.new.clients c.deref_mut.ensures.value c.in-Ask.client ask c.ask.result c.ask.ensures (λ k l. absurd (false≢true l)) in
    let facts : IsStep (event_of c.args.event) c.args.self.now (kept_of (record c.self.inside { clients = with_items c.self.inside.clients c.ask.new.clients })) c.ask.result = subst (λ e. IsStep (event_of e) c.args.self.now (kept_of (record c.self.inside { clients = with_items c.self.inside.clients c.ask.new.clients })) c.ask.result) (sym c.in-Ask.is) step in
    record {
      stands = facts.stands;
      reply = facts.reply;
      roots = facts.roots;
      kept = facts.kept;
      free = facts.free;
      written = facts.written;
      others = facts.others;
      reload = reload_step (event_of c.args.event) c.args.self.now (kept_of (record c.self.inside { clients = with_items c.self.inside.clients c.ask.new.clients })) c.ask.result facts;
    }

pub returns-in-Fetch : goal.returns-in-Fetch
returns-in-Fetch c =
    let step = heard_step c.self-in-Fetch.inside c.args.self.now c.self-in-Fetch.view_is c.deref_mut-in-Fetch.result.now c.fetch.new.clients c.deref_mut-in-Fetch.ensures.value c.in-Fetch.client (fetch c.in-Fetch.name) c.fetch.result c.fetch.ensures (λ k l. absurd (false≢true l)) in
    let facts : IsStep (event_of c.args.event) c.args.self.now (kept_of (record c.self-in-Fetch.inside { clients = with_items c.self-in-Fetch.inside.clients c.fetch.new.clients })) c.fetch.result = subst (λ e. IsStep (event_of e) c.args.self.now (kept_of (record c.self-in-Fetch.inside { clients = with_items c.self-in-Fetch.inside.clients c.fetch.new.clients })) c.fetch.result) (sym c.in-Fetch.is) step in
    record {
      stands = facts.stands;
      reply = facts.reply;
      roots = facts.roots;
      kept = facts.kept;
      free = facts.free;
      written = facts.written;
      others = facts.others;
      reload = reload_step (event_of c.args.event) c.args.self.now (kept_of (record c.self-in-Fetch.inside { clients = with_items c.self-in-Fetch.inside.clients c.fetch.new.clients })) c.fetch.result facts;
    }

pub returns-in-Applied : goal.returns-in-Applied
returns-in-Applied c =
    let step = heard_step c.self-in-Applied.inside c.args.self.now c.self-in-Applied.view_is c.deref_mut-in-Applied.result.now c.applied.new.clients c.deref_mut-in-Applied.ensures.value c.in-Applied.client (applied_as c.in-Applied.table) c.applied.result c.applied.ensures (λ k l. absurd (false≢true l)) in
    let facts : IsStep (event_of c.args.event) c.args.self.now (kept_of (record c.self-in-Applied.inside { clients = with_items c.self-in-Applied.inside.clients c.applied.new.clients })) c.applied.result = subst (λ e. IsStep (event_of e) c.args.self.now (kept_of (record c.self-in-Applied.inside { clients = with_items c.self-in-Applied.inside.clients c.applied.new.clients })) c.applied.result) (sym c.in-Applied.is) step in
    record {
      stands = facts.stands;
      reply = facts.reply;
      roots = facts.roots;
      kept = facts.kept;
      free = facts.free;
      written = facts.written;
      others = facts.others;
      reload = reload_step (event_of c.args.event) c.args.self.now (kept_of (record c.self-in-Applied.inside { clients = with_items c.self-in-Applied.inside.clients c.applied.new.clients })) c.applied.result facts;
    }

pub returns-in-Invalidate : goal.returns-in-Invalidate
returns-in-Invalidate c =
    let step = heard_step c.self-in-Invalidate.inside c.args.self.now c.self-in-Invalidate.view_is c.deref_mut-in-Invalidate.result.now c.invalidate.new.clients c.deref_mut-in-Invalidate.ensures.value c.in-Invalidate.client (invalidate c.in-Invalidate.name c.in-Invalidate.ver) c.invalidate.result c.invalidate.ensures (λ k l. absurd (false≢true l)) in
    let facts : IsStep (event_of c.args.event) c.args.self.now (kept_of (record c.self-in-Invalidate.inside { clients = with_items c.self-in-Invalidate.inside.clients c.invalidate.new.clients })) c.invalidate.result = subst (λ e. IsStep (event_of e) c.args.self.now (kept_of (record c.self-in-Invalidate.inside { clients = with_items c.self-in-Invalidate.inside.clients c.invalidate.new.clients })) c.invalidate.result) (sym c.in-Invalidate.is) step in
    record {
      stands = facts.stands;
      reply = facts.reply;
      roots = facts.roots;
      kept = facts.kept;
      free = facts.free;
      written = facts.written;
      others = facts.others;
      reload = reload_step (event_of c.args.event) c.args.self.now (kept_of (record c.self-in-Invalidate.inside { clients = with_items c.self-in-Invalidate.inside.clients c.invalidate.new.clients })) c.invalidate.result facts;
    }

pub returns-in-Aborted : goal.returns-in-Aborted
returns-in-Aborted c =
    let step = heard_step c.self-in-Aborted.inside c.args.self.now c.self-in-Aborted.view_is c.deref_mut-in-Aborted.result.now c.aborted.new.clients c.deref_mut-in-Aborted.ensures.value c.in-Aborted.client aborted (Ok c.aborted.result) c.aborted.ensures (λ k l. refl) in
    let facts : IsStep (event_of c.args.event) c.args.self.now (kept_of (record c.self-in-Aborted.inside { clients = with_items c.self-in-Aborted.inside.clients c.aborted.new.clients })) (Ok c.aborted.result) = subst (λ e. IsStep (event_of e) c.args.self.now (kept_of (record c.self-in-Aborted.inside { clients = with_items c.self-in-Aborted.inside.clients c.aborted.new.clients })) (Ok c.aborted.result)) (sym c.in-Aborted.is) step in
    record {
      stands = facts.stands;
      reply = facts.reply;
      roots = facts.roots;
      kept = facts.kept;
      free = facts.free;
      written = facts.written;
      others = facts.others;
      reload = reload_step (event_of c.args.event) c.args.self.now (kept_of (record c.self-in-Aborted.inside { clients = with_items c.self-in-Aborted.inside.clients c.aborted.new.clients })) (Ok c.aborted.result) facts;
    }
