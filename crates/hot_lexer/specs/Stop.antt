-- What readers inside the crate answer.
use Rattle.std.specs.Prelude.{◌≡◌, Result, Ok, Err}
use Rattle.module_semantics.specs.declared.tokens.LexFault.{LexFault}
use Rattle.module_semantics.specs.declared.tokens.LexKind.TheVariants.{NoMemory}
use Rattle.module_semantics.specs.Lexing.{lex_fault}
use Rattle.hot_lexer.specs.declared.stop.Stop.{Stop}
use Rattle.hot_lexer.specs.declared.stop.Stop.TheVariants as stops

-- how callers of the crate are told
abbrev pub fault_of : Stop → LexFault
fault_of (stops.Fault f) = f
fault_of stops.NoMemory = lex_fault NoMemory 0

-- reading stopped at the fault that the definition gives, or memory ran out
abbrev pub Stops : {Y : Type 0} → Stop → Result Y LexFault → Type 0
Stops stops.NoMemory reading = Unit {0}
Stops (stops.Fault f) reading = reading ≡ Err f

-- what a reader returned, seen by view, is what the definition gives, unless memory ran out
abbrev pub Reads : {X Y : Type 0} → (X → Y) → Result X Stop → Result Y LexFault → Type 0
Reads view (Ok x) reading = reading ≡ Ok (view x)
Reads view (Err e) reading = Stops e reading
