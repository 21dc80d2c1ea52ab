-- Texts: what is parsed is what the text reads as.
use Rattle.std.proofs.Common.{◌≡◌, ℕ, List, Bool, true, false, cond, Option, Some, None, Result, Ok, Err, refl, ap}
use Rattle.std.specs.Str.{is_utf8}
use Rattle.std.proofs.lemmas.Str.{IsUtf8-from_is_utf8, is_utf8-from_IsUtf8}
use Rattle.module_tree.specs.Syntax.{ModuleTree}
use Rattle.hmr_types.specs.declared.analysis.TextFault.{TextFault}
use Rattle.hmr_types.specs.declared.limits.TheConstants.{DEPTH}
use Rattle.module_semantics.specs.Token.{Lexeme, LineToken}
use Rattle.module_semantics.specs.Lexing.{lexing}
use Rattle.module_semantics.specs.Lines.{line_tokens}
use Rattle.module_semantics.specs.Raw.{RawItem}
use Rattle.module_semantics.specs.Readers.{GrammarFault}
use Rattle.module_semantics.specs.Reading.{reading}
use Rattle.module_semantics.specs.NameRules.{Broken, first_broken}
use Rattle.module_semantics.specs.Resolving.{module_tree}
use Rattle.module_semantics.specs.ModuleText.{ReadsAs, named, read_items, read_tokens, parsing}
use Rattle.module_semantics.specs.declared.tokens.LexFault.{LexFault}
use Rattle.module_semantics.proofs.LexedPieces.{was_lexed}
use Rattle.module_semantics.proofs.PiecesLex.{is_lexed}
use Rattle.module_semantics.proofs.Modules.{is_read, was_read}

went_ok : (b : Bool) (x : Result ModuleTree TextFault) (f : TextFault) (m : ModuleTree) → cond b x (Err f) ≡ Ok m → (b ≡ true) × (x ≡ Ok m)
went_ok true x f m h = (refl, h)
went_ok false x f m h = absurd cc

named_ok : (text : List ℕ) (items : List RawItem) (o : Option Broken) (m : ModuleTree) → named text items o ≡ Ok m → (o ≡ None) × (module_tree items ≡ m)
named_ok text items None m h = (refl, cc)
named_ok text items (Some b) m h = absurd cc

items_ok : (text : List ℕ) (ts : List LineToken) (r : Result (List RawItem) GrammarFault) (m : ModuleTree) → read_items text ts r ≡ Ok m → (items : List RawItem) × (r ≡ Ok items) × (first_broken items ≡ None) × (module_tree items ≡ m)
items_ok text ts (Ok items) m h = let w = named_ok text items (first_broken items) m h in (items, refl, w.0, w.1)
items_ok text ts (Err f) m h = absurd cc

tokens_ok : (text : List ℕ) (r : Result (List Lexeme) LexFault) (m : ModuleTree) → read_tokens text r ≡ Ok m → (ts : List Lexeme) × (r ≡ Ok ts) × (read_items text (line_tokens text ts) (reading DEPTH (line_tokens text ts)) ≡ Ok m)
tokens_ok text (Ok ts) m h = (ts, refl, h)
tokens_ok text (Err f) m h = absurd cc

pub was_parsed : (text : List ℕ) (m : ModuleTree) → parsing text ≡ Ok m → ReadsAs text m
unfolding parsing
was_parsed text m h =
    let u = went_ok (is_utf8 text) (read_tokens text (lexing text)) _ m h in
    let t = tokens_ok text (lexing text) m u.1 in
    let i = items_ok text (line_tokens text t.0) (reading DEPTH (line_tokens text t.0)) m t.2 in
    record { utf8 = IsUtf8-from_is_utf8 text u.0; tokens = t.0; lexed = was_lexed text t.0 t.1; items = i.0; says = was_read DEPTH (line_tokens text t.0) i.0 i.1; named = i.2; is = i.3 }

pub is_parsed : (text : List ℕ) (m : ModuleTree) → ReadsAs text m → parsing text ≡ Ok m
unfolding parsing
is_parsed text m a =
    let u = is_utf8-from_IsUtf8 text a.utf8 in
    let t = is_lexed text a.tokens a.lexed in
    let i = is_read DEPTH (line_tokens text a.tokens) a.items a.says in
    rw (u, t, i, a.named) (ap Ok a.is)

pub one_tree : (text : List ℕ) (m n : ModuleTree) → ReadsAs text m → ReadsAs text n → m ≡ n
one_tree text m n a b = let one = is_parsed text m a in let other = is_parsed text n b in cc
