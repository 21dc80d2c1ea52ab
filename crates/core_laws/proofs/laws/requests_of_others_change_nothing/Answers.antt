use Rattle.core_model.specs.Core.{core_after}
use Rattle.core_laws.proofs.Numbers.{numbered}
use Rattle.core_laws.proofs.Isolation.{same_record, same_sources, same_after, same_replay, same_replies}
use Rattle.core_laws.proofs.laws.requests_of_others_change_nothing.Goals as goal

pub returns-clause-record : goal.returns-clause-record
returns-clause-record c = same_record

pub returns-clause-sources : goal.returns-clause-sources
returns-clause-sources c = same_sources

pub returns-clause-reply : goal.returns-clause-reply
returns-clause-reply c = same_after

pub returns-clause-replayed : goal.returns-clause-replayed
returns-clause-replayed c = same_replay

pub returns-clause-replies : goal.returns-clause-replies
returns-clause-replies c roots d past events = same_replies roots d (core_after roots past) events (numbered roots past)
