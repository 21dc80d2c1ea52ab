use Rattle.hmr_types.proofs.Events.{event_of-event_module, event_of-is, event_module-is_name}
use Rattle.hmr_types.proofs.event.events_and_modules_tell_each_other.Goals as goal

pub returns-clause-module : goal.returns-clause-module
returns-clause-module c event h = event_of-event_module event h

pub returns-clause-event : goal.returns-clause-event
returns-clause-event c name event h = event_of-is name event h

pub returns-clause-named : goal.returns-clause-named
returns-clause-named c event h = event_module-is_name event h
