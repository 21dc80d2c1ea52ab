use Rattle.std.proofs.Common.{ap, refl, sym, ◌∙◌}
use Rattle.std.proofs.Math.Path.{subst}
use Rattle.world_laws.specs.Runs.{world_of}
use Rattle.world_parts.proofs.Greeted.{IsTold, newcomer_told, taken_number}
use Rattle.hmr_world.proofs.Opening.{open_bad, open_full, open_taken}
use Rattle.hmr_world.proofs.world.World.open.Goals as goal

-- the number that the newcomer is told is a client's
pub admit-requires-clause-number : goal.admit-requires-clause-number
admit-requires-clause-number g c =
    let run = c.requires.running.run in
    let stands = c.requires.running.stands.has.core in
    taken_number c.in_ok-reply.reply c.in-Taken.client c.in-Taken.roots
    (c.in_ok-reply.ensures.written (world_of run).core stands) (sym c.in-Taken.ensures)

pub admit-requires-clause-words : goal.admit-requires-clause-words
admit-requires-clause-words g c =
    record { clients = c.requires.words.clients; shelves = c.requires.words.shelves }

-- the client is taken
pub returns-in-Taken-clause-step : goal.returns-in-Taken-clause-step
returns-in-Taken-clause-step g c = λ run s.
    let old = c.args.self.now in
    let names = c.args.names.items in
    let reply = c.in_ok-reply.reply in
    let told =
    newcomer_told old.core c.tell.new.core c.in_ok-copy_of.field-0.items names reply
    (c.in_ok-copy_of.ensures ∙ c.deref.ensures.value)
    c.in_ok-reply.ensures.stands c.in_ok-reply.ensures.reply (world_of run).core s.has.core in
    let kept =
    subst (λ core. IsTold old.core.roots (world_of run).core names core reply) (sym c.admit.ensures.core) told in
    open_taken run c.args.format names old s c.admit.new.self reply
    (ap (λ k. k.roots) c.admit.ensures.core ∙ c.tell.ensures.roots) c.admit.ensures.jobs kept
    c.in-Taken.client c.in-Taken.roots (sym c.in-Taken.ensures) c.admit.result
    c.admit.ensures.clients c.admit.ensures.shelves c.admit.ensures.lines c.admit.ensures.stops

-- the client isn't taken
pub returns-in_ok-one_line-in-BadRoots-clause-step : goal.returns-in_ok-one_line-in-BadRoots-clause-step
returns-in_ok-one_line-in-BadRoots-clause-step g c = λ run s.
    let old = c.args.self.now in
    let names = c.args.names.items in
    let told =
    newcomer_told old.core c.tell.new.core c.in_ok-copy_of.field-0.items names c.in_ok-reply.reply
    (c.in_ok-copy_of.ensures ∙ c.deref.ensures.value)
    c.in_ok-reply.ensures.stands c.in_ok-reply.ensures.reply (world_of run).core s.has.core in
    open_bad run c.args.format names old s (record old { core = c.tell.new.core }) c.in_ok-reply.reply
    c.tell.ensures.roots refl told refl refl c.in_ok-one_line-in-BadRoots.field-0
    (sym c.in-BadRoots.ensures) c.in_ok-one_line-in-BadRoots.ensures

pub returns-in_ok-one_line-in-Full-clause-step : goal.returns-in_ok-one_line-in-Full-clause-step
returns-in_ok-one_line-in-Full-clause-step g c = λ run s.
    let old = c.args.self.now in
    let names = c.args.names.items in
    let told =
    newcomer_told old.core c.tell.new.core c.in_ok-copy_of.field-0.items names c.in_ok-reply.reply
    (c.in_ok-copy_of.ensures ∙ c.deref.ensures.value)
    c.in_ok-reply.ensures.stands c.in_ok-reply.ensures.reply (world_of run).core s.has.core in
    open_full run c.args.format names old s (record old { core = c.tell.new.core }) c.in_ok-reply.reply
    c.tell.ensures.roots refl told refl refl c.in_ok-one_line-in-Full.field-0
    (sym c.in-Full.ensures) c.in_ok-one_line-in-Full.ensures
