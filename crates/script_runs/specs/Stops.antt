-- The stop of a command where a world's run ended.
use Rattle.world_parts.specs.declared.stop.WorldStop.{WorldStop}
use Rattle.world_parts.specs.declared.stop.WorldStop.TheVariants as worlds
use Rattle.text_commands.specs.declared.stop.Stop.{Stop}
use Rattle.text_commands.specs.declared.stop.Stop.TheVariants.{InstancesFull, NoMemory}

-- the stop for the end of a world's run
abbrev pub stop_of_world : WorldStop → Stop
stop_of_world worlds.InstancesFull = InstancesFull
stop_of_world worlds.NoMemory = NoMemory
