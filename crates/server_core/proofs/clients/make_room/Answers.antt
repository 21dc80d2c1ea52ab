use Rattle.std.proofs.Common.{◌<◌, length, get_or, refl, arith}
use Rattle.std.proofs.lemmas.List.Elements.{AllWithin-more_set}
use Rattle.server_core.specs.Clients.{HasRoom}
use Rattle.server_core.proofs.Numbers.{Becomes, Stays, all_kept, all_themselves, same_numbers, set_more}
use Rattle.server_core.proofs.clients.make_room.Goals as goal

pub loop-row-init : goal.loop-row-init
loop-row-init c = (all_themselves c.args.clients.now, λ k d l h. absurd (omega (arith, h)))

pub loop-row-preserved : goal.loop-row-preserved
loop-row-preserved c =
    let within : c.loop-row.row-index < length c.loop-row.clients = omega (arith, c.loop-row-test.true, c.loop-row.auto.clients) in (
      set_more c.loop-row.row-index c.args.clients.now c.loop-row.clients ((get_or c.loop-row.clients c.loop-row.row-index c.row-item.result).0, c.room_for_notice.new.self) c.row-item.result c.loop-row.invariant.0 within (refl, c.room_for_notice.ensures.stands),
      AllWithin-more_set c.loop-row.clients c.loop-row.row-index ((get_or c.loop-row.clients c.loop-row.row-index c.row-item.result).0, c.room_for_notice.new.self) within HasRoom c.loop-row.invariant.1 c.in_ok-room_for_notice.ensures.room,
    )

pub returns-clause-stands : goal.returns-clause-stands
returns-clause-stands c = λ s rows h. all_kept s rows c.args.clients.now c.loop-row.clients c.loop-row.invariant.0 h

pub returns-clause-numbers : goal.returns-clause-numbers
returns-clause-numbers c = same_numbers Stays c.args.clients.now c.loop-row.clients c.loop-row.invariant.0

pub returns-in_err-room_for_notice-clause-stands : goal.returns-in_err-room_for_notice-clause-stands
returns-in_err-room_for_notice-clause-stands c = λ s rows h.
    let within : c.loop-row.row-index < length c.loop-row.clients = omega (arith, c.loop-row-test.true, c.loop-row.auto.clients) in
    all_kept s rows c.args.clients.now _ (set_more c.loop-row.row-index c.args.clients.now c.loop-row.clients ((get_or c.loop-row.clients c.loop-row.row-index c.row-item.result).0, c.room_for_notice.new.self) c.row-item.result c.loop-row.invariant.0 within (refl, c.room_for_notice.ensures.stands)) h

pub returns-in_err-room_for_notice-clause-numbers : goal.returns-in_err-room_for_notice-clause-numbers
returns-in_err-room_for_notice-clause-numbers c =
    let within : c.loop-row.row-index < length c.loop-row.clients = omega (arith, c.loop-row-test.true, c.loop-row.auto.clients) in
    same_numbers Stays c.args.clients.now _ (set_more c.loop-row.row-index c.args.clients.now c.loop-row.clients ((get_or c.loop-row.clients c.loop-row.row-index c.row-item.result).0, c.room_for_notice.new.self) c.row-item.result c.loop-row.invariant.0 within (refl, c.room_for_notice.ensures.stands))
