use Rattle.std.proofs.Common.{◌≡◌, ◌<◌, ◌≤◌, ◌+◌, length, get_or, get_or-set_other, ◌≢◌, refl, ap, sym, ◌∙◌, arith}
use Rattle.std.specs.Prelude.{IfSome, is_some}
use Rattle.std.proofs.Math.Path.{subst}
use Rattle.std.proofs.lemmas.List.Elements.{All-pop}
use Rattle.core_model.specs.Names.{Name}
use Rattle.server_core.specs.Clients.{HasRoom}
use Rattle.server_core.proofs.Numbers.{Becomes, TellsNotice, all_noticed, same_numbers}
use Rattle.std.proofs.lemmas.Bool.{false≢true}
use Rattle.server_core.proofs.Keeping.{one_longer}
use Rattle.server_core.proofs.Upto.{Upto, all_done, none_yet, one_further}
use Rattle.server_core.proofs.clients.give_notices.Goals as goal
use Rattle.server_core.proofs.clients.give_notices.Goals.{in-Some, in_default}

pub loop-row-init : goal.loop-row-init
loop-row-init c = (none_yet (Becomes (TellsNotice c.args.name.now c.args.fault)) c.args.clients.now, λ k d l h. c.requires.room k d h, c.requires.copies, omega (arith, c.requires.many))

pub loop-row-preserved : goal.loop-row-preserved
loop-row-preserved c =
    let i = c.loop-row.row-index in
    let R = Becomes (TellsNotice c.args.name.now c.args.fault) in
    let within : i < length c.loop-row.clients = omega (arith, c.loop-row-test.true, c.loop-row.auto.clients) in
    let popped = All-pop (λ m. m ≡ c.args.name.now) c.loop-row.copies.items c.pop.new.self.items c.pop.result c.pop.ensures.items c.loop-row.invariant.2 in
    elim c.match-pop.branch [
      | in-Some w ↦
          let is_name : w.in-Some.copy ≡ c.args.name.now = subst (λ r. IfSome r (λ (m : Name). m ≡ c.args.name.now)) w.in-Some.is popped.1 in
          let told = one_further R i c.args.clients.now c.loop-row.clients ((get_or c.loop-row.clients i c.row-item.result).0, w.notice.new.self) c.row-item.result c.loop-row.invariant.0 within (refl, subst (λ m. TellsNotice m c.args.fault (get_or c.loop-row.clients i c.row-item.result).1 w.notice.new.self) is_name w.notice.ensures) in (
            subst (Upto R (i + 1) c.args.clients.now) (sym w.clients-is) told,
            λ k d l h.
                let ne : k ≢ i = omega (arith, l) in
                let from : i ≤ k = omega (arith, l) in
                let there : k < length c.loop-row.clients = omega (arith, h, c.match-pop.auto.clients) in
                let room : HasRoom (get_or c.loop-row.clients k d) = c.loop-row.invariant.1 k d from there in
                rw (w.clients-is, get_or-set_other) room,
            popped.0,
            (
                let more : length c.loop-row.copies.items ≡ length c.pop.new.self.items + 1 = ap length w.in-Some.ensures.items ∙ one_longer w.in-Some.copy c.pop.new.self.items in
                omega (arith, more, c.loop-row.invariant.3, c.match-pop.auto.clients)),
          )
      | in_default w ↦
          let some : 0 < c.loop-row.copies.len = omega (arith, within, c.loop-row.invariant.3, c.loop-row.copies.ok.0) in
          absurd (false≢true (ap is_some (sym w.in_default.is) ∙ c.pop.ensures.variant.1 some))
    ]

pub notice-requires : goal.notice-requires
notice-requires c =
    let within : c.loop-row.row-index < length c.loop-row.clients = omega (arith, c.loop-row-test.true, c.loop-row.auto.clients) in
    let here : c.loop-row.row-index ≤ c.loop-row.row-index = omega arith in
    c.loop-row.invariant.1 c.loop-row.row-index c.row-item.result here within

pub returns-clause-stands : goal.returns-clause-stands
returns-clause-stands c = λ s rows h. all_noticed c.args.name.now c.args.fault s rows c.args.clients.now c.loop-row.clients (all_done (Becomes (TellsNotice c.args.name.now c.args.fault)) c.loop-row.row-index c.args.clients.now c.loop-row.clients c.loop-row.invariant.0 (omega (arith, c.loop-row-test.false, c.loop-row.auto.clients))) h

pub returns-clause-numbers : goal.returns-clause-numbers
returns-clause-numbers c = same_numbers (TellsNotice c.args.name.now c.args.fault) c.args.clients.now c.loop-row.clients (all_done (Becomes (TellsNotice c.args.name.now c.args.fault)) c.loop-row.row-index c.args.clients.now c.loop-row.clients c.loop-row.invariant.0 (omega (arith, c.loop-row-test.false, c.loop-row.auto.clients)))
