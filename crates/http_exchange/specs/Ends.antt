-- How an exchange ends at a stop.
use Rattle.http_exchange.specs.declared.stop.Stop.{Stop}
use Rattle.http_exchange.specs.declared.stop.Stop.TheVariants as stops
use Rattle.http_exchange.specs.declared.exchange.HttpEnd.{HttpEnd}
use Rattle.http_exchange.specs.declared.exchange.HttpEnd.TheVariants as ends

abbrev pub end_at : Stop → HttpEnd
end_at stops.ReadFault = ends.ReadFault
end_at stops.WriteFault = ends.WriteFault
end_at stops.NoMemory = ends.NoMemory
