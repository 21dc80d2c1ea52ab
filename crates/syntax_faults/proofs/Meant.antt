-- What the definition gives means of the whole text, by the laws of the module language.
use Rattle.std.proofs.Common.{◌≡◌, ◌⊎◌, inl, inr, ℕ, List, Bool, true, false, Result, Ok, Err, Option, Some, None, refl, ap, sym, ◌∙◌}
use Rattle.std.specs.Prelude.{IfOk, IfErr, IfSome, is_some}
use Rattle.std.proofs.lemmas.Bool.{false≢true}
use Prim.{⊥}
use Rattle.module_tree.specs.Tree.{module_of}
use Rattle.module_tree.specs.declared.tree.Module.{Module}
use Rattle.hmr_types.specs.declared.analysis.FaultWord.{FaultWord}
use Rattle.hmr_types.specs.declared.analysis.FaultWord.TheVariants as words
use Rattle.hmr_types.specs.declared.analysis.TextFault.{TextFault}
use Rattle.module_semantics.specs.ModuleText.{ReadsAs, parsing, lex_word}
use Rattle.module_semantics.specs.TextFaults.{LeavesGrammar, BreaksNames, IsFault}
use Rattle.module_semantics.specs.declared.tokens.LexKind.{LexKind}
use Rattle.module_semantics.specs.declared.tokens.LexKind.TheVariants as lex
use Rattle.module_semantics.proofs.Texts.{was_parsed}
use Rattle.module_semantics.proofs.TextFaultLaws as laws
use Rattle.syntax_faults.specs.Syntax.{FaultIs, Parses, no_memory, text_fault_of}
use Rattle.syntax_faults.specs.declared.syntax_fault.SyntaxFault.{SyntaxFault}
use Rattle.syntax_faults.specs.declared.syntax_fault.SyntaxKind.{SyntaxKind}
use Rattle.syntax_faults.specs.declared.syntax_fault.SyntaxKind.TheVariants as kinds

pub reads_as : (text : List ℕ) (r : Result Module SyntaxFault) → Parses module_of r (parsing text) → IfOk r (λ m. ReadsAs text (module_of m))
reads_as text (Ok m) h = was_parsed text (module_of m) h
reads_as text (Err f) h = tt

fault_by : (text : List ℕ) (told : Option TextFault) (f : SyntaxFault) → FaultIs told f (parsing text) → IfSome told (IsFault text)
fault_by text None f h = tt
fault_by text (Some t) f h = laws.fault_is text t h

pub fault_is : (text : List ℕ) (r : Result Module SyntaxFault) → Parses module_of r (parsing text) → IfErr r (λ f. IfSome (text_fault_of f) (IsFault text))
fault_is text (Ok m) h = tt
fault_is text (Err f) h = fault_by text (text_fault_of f) f h

abbrev is_unexpected : FaultWord → Bool
is_unexpected words.Unexpected = true
is_unexpected word = false

lexed : (kind : LexKind) → is_unexpected (lex_word kind) ≡ false
lexed lex.BadByte = refl
lexed lex.OpenString = refl
lexed lex.OpenComment = refl
lexed lex.BadEscape = refl
lexed lex.NumberTooLarge = refl
lexed lex.TooManyTokens = refl
lexed lex.NoMemory = refl

-- a fault of another word isn't unexpected
other_word : (t : TextFault) (word : FaultWord) → t.word ≡ word → is_unexpected word ≡ false → t.word ≡ words.Unexpected → ⊥
other_word t word is other e = false≢true (sym other ∙ (ap is_unexpected (sym is) ∙ ap is_unexpected e))

unexpected_by : (text : List ℕ) (t : TextFault) → t.word ≡ words.Unexpected → IsFault text t → LeavesGrammar text t ⊎ BreaksNames text t
unexpected_by text t e (inl h) = absurd (other_word t words.NotUtf8 (ap (λ f. f.word) h.is) refl e)
unexpected_by text t e (inr (inl h)) = absurd (other_word t (lex_word h.fault.kind) (ap (λ f. f.word) h.is) (lexed h.fault.kind) e)
unexpected_by text t e (inr (inr (inl h))) = inl h
unexpected_by text t e (inr (inr (inr (inl h)))) = absurd (other_word t words.TooDeep (ap (λ f. f.word) h.is) refl e)
unexpected_by text t e (inr (inr (inr (inr h)))) = inr h

first_by : (text : List ℕ) (f : SyntaxFault) (kind : SyntaxKind) → f.kind ≡ kind → FaultIs (text_fault_of f) f (parsing text) → kind ≡ kinds.Unexpected
    → IfSome (text_fault_of f) (λ t. LeavesGrammar text t ⊎ BreaksNames text t)
first_by text f kind is h e = rw (is ∙ e) (unexpected_by text (record { line = f.line; col = f.col; word = words.Unexpected }) refl (laws.fault_is text _ (rw (is ∙ e) at h)))

pub first_is : (text : List ℕ) (r : Result Module SyntaxFault) → Parses module_of r (parsing text)
    → IfErr r (λ f. f.kind ≡ kinds.Unexpected → IfSome (text_fault_of f) (λ t. LeavesGrammar text t ⊎ BreaksNames text t))
first_is text (Ok m) h = tt
first_is text (Err f) h = λ e. first_by text f f.kind refl h e

memory_by : (text : List ℕ) (told : Option TextFault) (f : SyntaxFault) → FaultIs told f (parsing text) → told ≡ None → f ≡ no_memory
memory_by text None f h e = h
memory_by text (Some t) f h e = absurd (false≢true (sym (ap is_some e)))

pub memory_is : (text : List ℕ) (r : Result Module SyntaxFault) → Parses module_of r (parsing text) → IfErr r (λ f. text_fault_of f ≡ None → f ≡ no_memory)
memory_is text (Ok m) h = tt
memory_is text (Err f) h = memory_by text (text_fault_of f) f h
