-- The fault of parsing is what is wrong with the text.
use Rattle.std.proofs.Common.{◌≡◌, ℕ, List, Bool, true, false, cond, Option, Some, None, Result, Ok, Err, refl, inl, inr}
use Rattle.std.specs.Prelude.{IsUtf8}
use Rattle.std.specs.Str.{is_utf8}
use Rattle.std.specs.Str.Lossy.{utf8_valid_len}
use Rattle.std.proofs.lemmas.Str.{IsUtf8-from_is_utf8, is_utf8-from_IsUtf8}
use Rattle.hmr_types.specs.declared.analysis.FaultWord.TheVariants as words
use Rattle.hmr_types.specs.declared.analysis.TextFault.{TextFault}
use Rattle.hmr_types.specs.declared.limits.TheConstants.{DEPTH}
use Rattle.module_semantics.specs.Token.{Lexeme}
use Rattle.module_semantics.specs.Lexing.{lexing}
use Rattle.module_semantics.specs.Lines.{line_tokens}
use Rattle.module_semantics.specs.Pieces.{IsLexing}
use Rattle.module_semantics.specs.Raw.{RawItem}
use Rattle.module_semantics.specs.Readers.{GrammarFault, unexpected, too_deep}
use Rattle.module_semantics.specs.Reading.{reading}
use Rattle.module_semantics.specs.NameRules.{Broken, first_broken}
use Rattle.module_semantics.specs.ModuleText.{fault_at, grammar_fault, named, read_items, read_tokens, parsing}
use Rattle.module_semantics.specs.TextFaults.{IsFault}
use Rattle.module_semantics.specs.declared.tokens.LexFault.{LexFault}
use Rattle.module_semantics.proofs.LexedPieces.{was_lexed}
use Rattle.module_semantics.proofs.FailedLex.{was_faulted}
use Rattle.module_semantics.proofs.Modules.{was_read, stands_first, sinks_there}

named_err : (text : List ℕ) (items : List RawItem) (o : Option Broken) (f : TextFault) → named text items o ≡ Err f → (b : Broken) × (o ≡ Some b) × (f ≡ fault_at text b.at b.word)
named_err text items None f h = absurd cc
named_err text items (Some b) f h = (b, refl, cc)

grammar_err : (text : List ℕ) (tokens : List Lexeme) (g : GrammarFault) (f : TextFault) → IsUtf8 text → IsLexing text tokens → reading DEPTH (line_tokens text tokens) ≡ Err g → f ≡ grammar_fault text (line_tokens text tokens) g → IsFault text f
grammar_err text tokens (unexpected n) f utf8 lexed h is = inr (inr (inl (record { utf8 = utf8; tokens = tokens; lexed = lexed; left = n; first = stands_first DEPTH (line_tokens text tokens) n h; is = is })))
grammar_err text tokens (too_deep n) f utf8 lexed h is = inr (inr (inr (inl (record { utf8 = utf8; tokens = tokens; lexed = lexed; left = n; deep = sinks_there DEPTH (line_tokens text tokens) n h; is = is }))))

items_err : (text : List ℕ) (tokens : List Lexeme) (r : Result (List RawItem) GrammarFault) (f : TextFault) → IsUtf8 text → IsLexing text tokens → reading DEPTH (line_tokens text tokens) ≡ r → read_items text (line_tokens text tokens) r ≡ Err f → IsFault text f
items_err text tokens (Ok items) f utf8 lexed h e =
    let w = named_err text items (first_broken items) f e in
    inr (inr (inr (inr (record { utf8 = utf8; tokens = tokens; lexed = lexed; items = items; says = was_read DEPTH (line_tokens text tokens) items h; broken = w.0; first = w.1; is = w.2 }))))
items_err text tokens (Err g) f utf8 lexed h e = grammar_err text tokens g f utf8 lexed h cc

tokens_err : (text : List ℕ) (r : Result (List Lexeme) LexFault) (f : TextFault) → IsUtf8 text → lexing text ≡ r → read_tokens text r ≡ Err f → IsFault text f
tokens_err text (Ok ts) f utf8 h e = items_err text ts (reading DEPTH (line_tokens text ts)) f utf8 (was_lexed text ts h) refl e
tokens_err text (Err l) f utf8 h e = inr (inl (record { utf8 = utf8; fault = l; first = was_faulted text l h; is = cc }))

text_err : (text : List ℕ) (b : Bool) (f : TextFault) → is_utf8 text ≡ b → cond b (read_tokens text (lexing text)) (Err (fault_at text (utf8_valid_len text) words.NotUtf8)) ≡ Err f → IsFault text f
text_err text true f is e = tokens_err text (lexing text) f (IsUtf8-from_is_utf8 text is) refl e
text_err text false f is e = inl (record { other = λ u. let w = is_utf8-from_IsUtf8 text u in absurd cc; is = cc })

pub fault_is : (text : List ℕ) (f : TextFault) → parsing text ≡ Err f → IsFault text f
unfolding parsing
fault_is text f h = text_err text (is_utf8 text) f refl h
