-- What the core says to a client that comes.
use Rattle.std.specs.Prelude.{ℕ, List}
use Rattle.update_msgs.specs.declared.message.ServerMsg.TheVariants.{Connected}
use Rattle.core_model.specs.declared.refusal.Refusal.TheVariants as refusals
use Rattle.core_model.specs.Names.{Name}
use Rattle.core_model.specs.Sources.{Text}
use Rattle.client_model.specs.Runtime.{Opening, Runtime, new_runtime}
use Rattle.client_model.specs.Taking.{take}
use Rattle.module_language.specs.ModuleLanguage.{module_language}
use Rattle.world_model.specs.Turning.{opening_of}
use Rattle.events_and_replies.specs.declared.event.Reply.{Reply}
use Rattle.events_and_replies.specs.declared.event.Reply.TheVariants as replies
use Rattle.world_parts.specs.declared.greetings.Greeting.{Greeting}
use Rattle.world_parts.specs.declared.greetings.Greeting.TheVariants.{Taken, BadRoots, Full}

-- what a reply says to it
abbrev pub greeting_in : Reply → Greeting
greeting_in (replies.To (Connected i roots)) = Taken i roots
greeting_in (replies.Refused refusals.BadRoots) = BadRoots
greeting_in reply = Full

-- the client of the definitions with this opening, after it was connected
abbrev pub greeted : Opening → ℕ → List Name → Runtime
greeted opening i roots = (take module_language (new_runtime opening) (Connected i roots)).after

-- the client of this number, after it was connected
abbrev pub welcomed : List (List (Text × ℕ)) → ℕ → List Name → ℕ → List Name → Runtime
welcomed marks format names i roots = greeted (opening_of marks format names i) i roots
