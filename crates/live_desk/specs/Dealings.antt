-- What a desk has dealt with.
use Rattle.std.specs.Prelude.{List, [], ◌∷◌, ◌++◌}
use Rattle.update_msgs.specs.declared.message.ClientMsg.{ClientMsg}
use Rattle.update_msgs.specs.declared.message.ServerMsg.{ServerMsg}
use Rattle.live_desk.specs.declared.dealings.Dealings.{Dealings, Nothing, More'}

-- the messages with their answers, in order
abbrev pub deals_of : Dealings → List (ClientMsg × ServerMsg)
deals_of Nothing = []
deals_of (More' marker before m answer) = deals_of before ++ (m.value, answer.value) ∷ []
