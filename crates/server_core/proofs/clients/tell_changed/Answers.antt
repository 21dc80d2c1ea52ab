use Rattle.std.proofs.Common.{◌<◌, ◌≤◌, length, get_or, refl, arith}
use Rattle.std.specs.List.{AllZip}
use Rattle.server_core.proofs.Numbers.{Becomes, TellsChanged, all_changed, same_numbers}
use Rattle.server_core.proofs.Upto.{all_done, none_yet, one_further}
use Rattle.server_core.proofs.clients.tell_changed.Goals as goal

pub loop-row-init : goal.loop-row-init
loop-row-init c = none_yet (Becomes (TellsChanged c.args.name.now c.args.sources.now)) c.args.clients.now

pub loop-row-preserved : goal.loop-row-preserved
loop-row-preserved c =
    let within : c.loop-row.row-index < length c.loop-row.clients = omega (arith, c.loop-row-test.true, c.loop-row.auto.clients) in
    one_further (Becomes (TellsChanged c.args.name.now c.args.sources.now)) c.loop-row.row-index c.args.clients.now c.loop-row.clients ((get_or c.loop-row.clients c.loop-row.row-index c.row-item.result).0, c.source_changed.new.self) c.row-item.result c.loop-row.invariant within (refl, c.source_changed.ensures)

pub returns-clause-stands : goal.returns-clause-stands
returns-clause-stands c = λ s rows h e. all_changed c.args.name.now s c.args.sources.now rows c.args.clients.now c.loop-row.clients (all_done (Becomes (TellsChanged c.args.name.now c.args.sources.now)) c.loop-row.row-index c.args.clients.now c.loop-row.clients c.loop-row.invariant (omega (arith, c.loop-row-test.false, c.loop-row.auto.clients))) h e

pub returns-clause-numbers : goal.returns-clause-numbers
returns-clause-numbers c = same_numbers (TellsChanged c.args.name.now c.args.sources.now) c.args.clients.now c.loop-row.clients (all_done (Becomes (TellsChanged c.args.name.now c.args.sources.now)) c.loop-row.row-index c.args.clients.now c.loop-row.clients c.loop-row.invariant (omega (arith, c.loop-row-test.false, c.loop-row.auto.clients)))
