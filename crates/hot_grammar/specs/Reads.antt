-- What readers answer.
use Rattle.std.specs.Prelude.{◌≡◌, ℕ, List, Result, Ok, Err}
use Rattle.module_semantics.specs.Readers as plain
use Rattle.module_semantics.specs.Readers.{Reader, taken}
use Rattle.module_semantics.specs.Token.{LineToken}
use Rattle.hot_grammar.specs.declared.grammar_fault.GrammarFault.{GrammarFault}
use Rattle.hot_grammar.specs.declared.grammar_fault.GrammarFault.TheVariants as faults

-- reading stopped at the fault that the definition gives, or memory ran out
abbrev pub Stops : {Y : Type 0} → GrammarFault → Result Y plain.GrammarFault → Type 0
Stops faults.NoMemory reading = Unit {0}
Stops (faults.Unexpected n) reading = reading ≡ Err (plain.unexpected n)
Stops (faults.TooDeep n) reading = reading ≡ Err (plain.too_deep n)

-- what a reader returned, seen by view, is what the definition gives, unless memory ran out
abbrev pub Gives : {X Y : Type 0} → (X → Y) → Result X GrammarFault → Result Y plain.GrammarFault → Type 0
Gives view (Ok x) reading = reading ≡ Ok (view x)
Gives view (Err e) reading = Stops e reading

-- how many tokens are left at a fault
abbrev pub left_of : GrammarFault → ℕ
left_of faults.NoMemory = 0
left_of (faults.Unexpected n) = n
left_of (faults.TooDeep n) = n

-- nothing was told, and these tokens are left
abbrev pub past : List LineToken → Unit {0} × List LineToken
past ts = (tt, ts)

-- a token of one of these kinds, of which nothing is told
abbrev pub passed : List ℕ → Reader (Unit {0})
passed ks = taken ks (λ t. tt)
