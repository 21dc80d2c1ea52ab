use Rattle.std.proofs.lemmas.Map.Views.{All-remove_key}
use Rattle.handler_table.specs.Held.{IsHost}
use Rattle.handler_table.specs.Shelf.{has_label}
use Rattle.handler_table.proofs.Words.{found}
use Rattle.handler_table.proofs.laws.shelves_keep_their_word.Goals as goal

pub returns-clause-first : goal.returns-clause-first
returns-clause-first g c label hs hosts = found (IsHost (goal.F-post g)) (has_label label) hs hosts

pub returns-clause-left : goal.returns-clause-left
returns-clause-left g c label hs hosts = All-remove_key (has_label label) (IsHost (goal.F-post g)) hs hosts
