-- The bytes of a text, which are UTF-8 or not.
use Rattle.std.proofs.Common.{◌≡◌, ℕ, List, Bool, true, false, Result, Err, refl, ap, sym, subst, ◌∙◌}
use Rattle.std.specs.Prelude.{IsUtf8, Some}
use Rattle.std.specs.Str.{is_utf8}
use Rattle.std.specs.Str.Lossy.{utf8_valid_len}
use Rattle.std.proofs.lemmas.Str.{IsUtf8-from_is_utf8, is_utf8-from_IsUtf8}
use Rattle.module_tree.specs.Syntax.{ModuleTree}
use Rattle.hmr_types.specs.declared.analysis.FaultWord.TheVariants as words
use Rattle.module_semantics.specs.Lexing.{lexing}
use Rattle.module_semantics.specs.ModuleText.{fault_at, parsing, read_tokens}
use Rattle.syntax_faults.specs.Syntax.{FaultIs, Parses, text_fault_of}
use Rattle.syntax_faults.specs.declared.syntax_fault.SyntaxFault.{SyntaxFault}

text_is : (text : List ℕ) → is_utf8 text ≡ true → parsing text ≡ read_tokens text (lexing text)
unfolding parsing
text_is text yes_utf8 = rw yes_utf8 refl

-- UTF-8 is what its characters are parsed as
pub parsed : {X : Type 0} (view : X → ModuleTree) (result : Result X SyntaxFault) (text characters : List ℕ) → characters ≡ text → IsUtf8 text
    → Parses view result (read_tokens characters (lexing characters)) → Parses view result (parsing text)
parsed view result text characters same utf8 h =
    subst (λ r. Parses view result r) (ap (λ t. read_tokens t (lexing t)) same ∙ sym (text_is text (is_utf8-from_IsUtf8 text utf8))) h

other_than : (text : List ℕ) (b : Bool) → ¬ (IsUtf8 text) → is_utf8 text ≡ b → is_utf8 text ≡ false
other_than text true other e = absurd (other (IsUtf8-from_is_utf8 text e))
other_than text false other e = e

bytes_are : (text : List ℕ) → is_utf8 text ≡ false → parsing text ≡ Err (fault_at text (utf8_valid_len text) words.NotUtf8)
unfolding parsing
bytes_are text no_utf8 = rw no_utf8 refl

-- other bytes are no text
pub no_text : (text : List ℕ) (place : ℕ) (f : SyntaxFault) → ¬ (IsUtf8 text) → place ≡ utf8_valid_len text
    → text_fault_of f ≡ Some (fault_at text place words.NotUtf8) → FaultIs (text_fault_of f) f (parsing text)
no_text text place f other at told =
    let is : parsing text ≡ Err (fault_at text place words.NotUtf8) =
    bytes_are text (other_than text (is_utf8 text) other refl) ∙ ap (λ p. Err (fault_at text p words.NotUtf8)) (sym at) in
    subst (λ o. FaultIs o f (parsing text)) (sym told) is
