-- What the outcomes of lexing mean by the rules on whole texts.
use Rattle.std.proofs.Common.{◌≡◌, ℕ, List, inl, inr, refl, subst}
use Rattle.module_semantics.specs.Lexing.{lexing}
use Rattle.module_semantics.specs.LexFaults.{Wrong, WrongPiece, IsFirstLexFault}
use Rattle.module_semantics.specs.declared.tokens.After.{After}
use Rattle.module_semantics.specs.declared.tokens.LexFault.{LexFault}
use Rattle.module_semantics.specs.declared.tokens.LexKind.TheVariants.{NoMemory}
use Rattle.module_semantics.proofs.FailedLex.{was_faulted}
use Rattle.hot_lexer.specs.Stop.{Stops, fault_of}
use Rattle.hot_lexer.specs.declared.stop.Stop.{Stop}
use Rattle.hot_lexer.specs.declared.stop.Stop.TheVariants as stops

not_wrong : (last : After) (count at b : ℕ) (bs : List ℕ) (f : LexFault) → f.kind ≡ NoMemory → Wrong last count at b bs f → ⊥
not_wrong last count at b bs f is (inl w) = let e = w.0 in cc
not_wrong last count at b bs f is (inr (inl w)) = subst (λ k. WrongPiece at b bs k f.at) is w.1
not_wrong last count at b bs f is (inr (inr w)) = let e = w.0 in cc

-- out of memory is no fault of a text
no_fault : (text : List ℕ) (f : LexFault) → IsFirstLexFault text f → f.kind ≡ NoMemory → ⊥
no_fault text f l is = not_wrong _ _ _ _ _ f is l.wrong

pub memory_at_zero : (e : Stop) (text : List ℕ) → Stops e (lexing text) → (fault_of e).kind ≡ NoMemory → (fault_of e).at ≡ 0
memory_at_zero (stops.Fault f) text h is = absurd (no_fault text f (was_faulted text f h) is)
memory_at_zero stops.NoMemory text h is = refl

pub first_fault : (e : Stop) (text : List ℕ) → Stops e (lexing text) → ((fault_of e).kind ≡ NoMemory → ⊥) → IsFirstLexFault text (fault_of e)
first_fault (stops.Fault f) text h k = was_faulted text f h
first_fault stops.NoMemory text h k = absurd (k refl)
