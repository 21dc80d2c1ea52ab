-- What a client's message is: its first, its last, or another.
use Rattle.std.specs.Prelude.{Bool, true, false}
use Rattle.update_msgs.specs.declared.message.ClientMsg.{ClientMsg}
use Rattle.update_msgs.specs.declared.message.ClientMsg.TheVariants as told

-- a client's first message
abbrev pub is_hello : ClientMsg → Bool
is_hello (told.Hello format roots) = true
is_hello told.Ask = false
is_hello (told.Fetch n) = false
is_hello (told.Applied table) = false
is_hello (told.Aborted cause n from x) = false
is_hello (told.Invalidate n v message) = false
is_hello told.Bye = false

-- a client's last message
abbrev pub is_bye : ClientMsg → Bool
is_bye (told.Hello format roots) = false
is_bye told.Ask = false
is_bye (told.Fetch n) = false
is_bye (told.Applied table) = false
is_bye (told.Aborted cause n from x) = false
is_bye (told.Invalidate n v message) = false
is_bye told.Bye = true
