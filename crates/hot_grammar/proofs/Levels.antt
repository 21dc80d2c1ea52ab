-- A row of operators, whatever their strength.
use Rattle.std.proofs.Common.{◌≡◌, ℕ, List, Ok, refl, sym, ◌∙◌, subst}
use Rattle.module_tree.specs.declared.tree.Op.{Op}
use Rattle.module_semantics.specs.Token.{LineToken}
use Rattle.module_semantics.specs.Raw.{RawExpr}
use Rattle.module_semantics.specs.Readers.{Reader, ◌&◌, many, mapped}
use Rattle.module_semantics.specs.Reading.{grouped, null, sum, prod}
use Rattle.hot_grammar.specs.declared.level.Level.{Level}
use Rattle.hot_grammar.specs.declared.level.Level.TheVariants as levels
use Rattle.hot_grammar.specs.Levels.{row_at, operand_at, operators_at, operation_at}
use Rattle.hot_grammar.specs.declared.grammar_fault.GrammarFault.{GrammarFault}
use Rattle.hot_grammar.specs.Reads.{Stops}
use Rattle.hot_grammar.proofs.Chains.{bind_stops, later_stops}

pub row_is : (level : Level) (e : Reader RawExpr) (ts : List LineToken) → row_at level e ts ≡ mapped (λ v. grouped v.0 v.1) (operand_at level e & many (operators_at level) (operation_at level e)) ts
unfolding null sum prod
row_is levels.Null e ts = refl
row_is levels.Sum e ts = refl
row_is levels.Product e ts = refl

-- how far a level is from the closest
abbrev pub rank : Level → ℕ
rank levels.Null = 2
rank levels.Sum = 1
rank levels.Product = 0

-- a row, by its first operand and what follows
pub row_read : (level : Level) (e : Reader RawExpr) (ts r s : List LineToken) (first whole : RawExpr) (rest : List (Op × RawExpr)) → operand_at level e ts ≡ Ok (first, r) → many (operators_at level) (operation_at level e) r ≡ Ok (rest, s) → whole ≡ grouped first rest → row_at level e ts ≡ Ok (whole, s)
row_read level e ts r s first whole rest one more is = row_is level e ts ∙ rw (one, more, is) refl

pub first_stops : (level : Level) (e : Reader RawExpr) (ts : List LineToken) (fault : GrammarFault) → Stops fault (operand_at level e ts) → Stops fault (row_at level e ts)
first_stops level e ts fault h = subst (Stops fault) (sym (row_is level e ts)) (bind_stops fault _ _ (bind_stops fault (operand_at level e ts) _ h))

pub rest_stops : (level : Level) (e : Reader RawExpr) (ts r : List LineToken) (fault : GrammarFault) (first : RawExpr) → operand_at level e ts ≡ Ok (first, r) → Stops fault (many (operators_at level) (operation_at level e) r) → Stops fault (row_at level e ts)
rest_stops level e ts r fault first one h = subst (Stops fault) (sym (row_is level e ts)) (bind_stops fault _ _ (later_stops fault (first, r) (operand_at level e ts) _ one (bind_stops fault (many (operators_at level) (operation_at level e) r) _ h)))
