-- Numbers that replies tell: the version of an edit is one that can be given, and the place of a fault lies
-- within the text.
use Rattle.std.proofs.Common.{◌≡◌, ℕ, zero, suc, ◌+◌, ◌≤◌, List, [], ◌∷◌, length, take, Bool, true, false, cond, refl, arith, Option, Some, None, Result, Ok, Err}
use Rattle.std.specs.Prelude.{◌==◌, ◌&&◌, ⊤, nat_le, nat_lt, not, is_some}
use Rattle.std.proofs.lemmas.Bool.{leb-false}
use Rattle.std.specs.Str.{is_utf8}
use Rattle.std.specs.Str.Lossy.{utf8_valid_len}
use Rattle.hmr_types.specs.declared.analysis.Analysis.{Analysis}
use Rattle.hmr_types.specs.declared.analysis.FaultWord.{FaultWord}
use Rattle.hmr_types.specs.declared.analysis.FaultWord.TheVariants as words
use Rattle.hmr_types.specs.declared.analysis.Outcome.{Outcome}
use Rattle.hmr_types.specs.declared.analysis.Outcome.TheVariants.{Good, Bad}
use Rattle.hmr_types.specs.declared.analysis.TextFault.{TextFault}
use Rattle.hmr_types.specs.declared.limits.TheConstants.{DEPTH, LARGEST_CLIENT, LARGEST_NUMBER, SOURCE_NAMES, TEXT_BYTES}
use Rattle.hmr_types.specs.declared.words.EditRefusal.TheVariants as edit_refusals
use Rattle.core_model.specs.Sources.{Text, Sources, Source, EditAnswer, job, same, removed, edit_refused, answer_for, numbered, has_text, ResultAnswer, serve, refuse, late, answer_of}
use Rattle.module_tree.specs.Syntax.{ModuleTree}
use Rattle.module_semantics.specs.declared.scanning.ScanFault.{ScanFault}
use Rattle.module_semantics.specs.declared.tokens.LexFault.{LexFault}
use Rattle.module_semantics.specs.Analysis.{analysed, outcome_of, scan_outcome, transformed}
use Rattle.module_semantics.specs.Lexing.{lexing}
use Rattle.module_semantics.specs.Lines.{line_feeds, line_tokens, since_line_feed}
use Rattle.module_semantics.specs.ModuleText.{fault_at, grammar_fault, lex_word, named, parsing, read_items, read_tokens}
use Rattle.module_semantics.specs.NameRules.{Broken, first_broken}
use Rattle.module_semantics.specs.Raw.{RawItem}
use Rattle.module_semantics.specs.Readers.{GrammarFault, unexpected, too_deep}
use Rattle.module_semantics.specs.Reading.{reading}
use Rattle.module_semantics.specs.Token.{Lexeme, LineToken}

-- the place is of a text of this length
pub record Within (n : ℕ) (f : TextFault) : Type 0 where
  pub row : f.line ≤ n + 1
  pub place : f.col ≤ n + 1

feeds_if : (b : Bool) (k n : ℕ) → k ≤ n → cond b (suc k) k ≤ suc n
feeds_if true k n h = omega (arith, h)
feeds_if false k n h = omega (arith, h)

feeds_few : (xs : List ℕ) → line_feeds xs ≤ length xs
unfolding line_feeds
feeds_few [] = omega arith
feeds_few (b ∷ bs) = feeds_if (b == 10) (line_feeds bs) (length bs) (feeds_few bs)

since_if : (b : Bool) (k l n m : ℕ) → k ≤ m → l ≤ suc n + m → cond b k l ≤ n + suc m
since_if true k l n m g h = omega (arith, g)
since_if false k l n m g h = omega (arith, h)

since_few : (n : ℕ) (xs : List ℕ) → since_line_feed n xs ≤ n + length xs
unfolding since_line_feed
since_few n [] = omega arith
since_few n (b ∷ bs) = since_if (b == 10) (since_line_feed 0 bs) (since_line_feed (suc n) bs) n (length bs) (omega (arith, since_few 0 bs)) (since_few (suc n) bs)

take_few : (p : ℕ) (xs : List ℕ) → length (take p xs) ≤ length xs
take_few zero xs = omega arith
take_few (suc p) [] = omega arith
take_few (suc p) (x ∷ xs) = omega (arith, take_few p xs)

place_within : (t : List ℕ) (p : ℕ) (w : FaultWord) → Within (length t) (fault_at t p w)
place_within t p w = record {
  row = omega (arith, feeds_few (take p t), take_few p t);
  place = omega (arith, since_few 0 (take p t), take_few p t);
}

abbrev Reads : List ℕ → Result ModuleTree TextFault → Type 0
Reads t (Ok m) = ⊤
Reads t (Err f) = Within (length t) f

named_reads : (t : List ℕ) (items : List RawItem) (o : Option Broken) → Reads t (named t items o)
named_reads t items None = tt
named_reads t items (Some b) = place_within t b.at b.word

grammar_within : (t : List ℕ) (ts : List LineToken) (g : GrammarFault) → Within (length t) (grammar_fault t ts g)
grammar_within t ts (unexpected n) = place_within t _ _
grammar_within t ts (too_deep n) = place_within t _ _

items_read : (t : List ℕ) (ts : List LineToken) (r : Result (List RawItem) GrammarFault) → Reads t (read_items t ts r)
items_read t ts (Ok items) = named_reads t items (first_broken items)
items_read t ts (Err g) = grammar_within t ts g

tokens_read : (t : List ℕ) (r : Result (List Lexeme) LexFault) → Reads t (read_tokens t r)
tokens_read t (Ok ts) = items_read t (line_tokens t ts) (reading DEPTH (line_tokens t ts))
tokens_read t (Err f) = place_within t f.at (lex_word f.kind)

read_if : (t : List ℕ) (b : Bool) (r q : Result ModuleTree TextFault) → Reads t r → Reads t q → Reads t (cond b r q)
read_if t true r q g h = g
read_if t false r q g h = h

text_reads : (t : List ℕ) → Reads t (parsing t)
unfolding parsing
text_reads t = read_if t (is_utf8 t) (read_tokens t (lexing t)) (Err (fault_at t (utf8_valid_len t) words.NotUtf8)) (tokens_read t (lexing t)) (place_within t (utf8_valid_len t) words.NotUtf8)

abbrev pub Placed : ℕ → Outcome → Type 0
Placed n (Good a) = ⊤
Placed n (Bad f) = Within n f

scan_placed : (n : ℕ) (r : Result Analysis ScanFault) → Placed n (scan_outcome r)
scan_placed n (Ok a) = tt
scan_placed n (Err f) = record { row = omega arith; place = omega arith }

read_placed : (name t : List ℕ) (r : Result ModuleTree TextFault) → Reads t r → Placed (length t) (outcome_of name r)
read_placed name t (Ok m) h = scan_placed (length t) (analysed name m)
read_placed name t (Err f) h = h

-- what transforming a text gives has its place in the text
pub placed : (name t : List ℕ) → Placed (length t) (transformed parsing name t)
placed name t = read_placed name t (parsing t) (text_reads t)

-- ---- what is counted

abbrev pub EditFits : EditAnswer → Type 0
EditFits (job v) = v ≤ LARGEST_NUMBER
EditFits same = ⊤
EditFits (removed v) = v ≤ LARGEST_NUMBER
EditFits (edit_refused w) = ⊤

abbrev pub ResultFits : ResultAnswer → Type 0
ResultFits (serve a) = ⊤
ResultFits (refuse f) = (f.line ≤ LARGEST_CLIENT) × (f.col ≤ LARGEST_CLIENT)
ResultFits late = ⊤

edit_if : (b : Bool) (x y : EditAnswer) → EditFits x → EditFits y → EditFits (cond b x y)
edit_if true x y g h = g
edit_if false x y g h = h

next_fits : (b : Bool) (counted : ℕ) → nat_le LARGEST_NUMBER counted ≡ b → (EditFits (cond b (edit_refused edit_refusals.NumbersSpent) (job (counted + 1)))) × (EditFits (cond b (edit_refused edit_refusals.NumbersSpent) (removed (counted + 1))))
next_fits true counted e = (tt, tt)
next_fits false counted e = let low = leb-false LARGEST_NUMBER counted e in (omega (arith, low), omega (arith, low))

pub edit_fits : (old : Option Source) (s : Sources) (t : Option Text) → EditFits (answer_for old s t)
edit_fits old s None = edit_if (is_some old) (numbered removed s.counted) same (next_fits (nat_le LARGEST_NUMBER s.counted) s.counted refl).1 tt
edit_fits old s (Some t) =
    edit_if (nat_lt TEXT_BYTES (length t)) (edit_refused edit_refusals.TextTooLong) _ tt
    (edit_if (has_text old t) same _ tt
    (edit_if (not (is_some old) && nat_le SOURCE_NAMES (length s.current)) (edit_refused edit_refusals.TooManyNames) _ tt
    (edit_if _ (edit_refused edit_refusals.SourceTotal) (numbered job s.counted) tt (next_fits (nat_le LARGEST_NUMBER s.counted) s.counted refl).0)))

outcome_fits : (n : ℕ) (o : Outcome) → n + 1 ≤ LARGEST_CLIENT → Placed n o → ResultFits (answer_of o)
outcome_fits n (Good a) l h = tt
outcome_fits n (Bad f) l h = (omega (arith, l, h.row), omega (arith, l, h.place))

pub result_fits : (b : Bool) (n : ℕ) (o : Outcome) → n + 1 ≤ LARGEST_CLIENT → Placed n o → ResultFits (cond b (answer_of o) late)
result_fits true n o l h = outcome_fits n o l h
result_fits false n o l h = tt
