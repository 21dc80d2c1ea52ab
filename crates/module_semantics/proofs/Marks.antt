-- Names, texts, numbers and marks, each with its reader.
use Rattle.std.proofs.Common.{◌≡◌, ℕ, List, [], ◌∷◌, true, false, ◌==◌, refl, codes, Some}
use Rattle.std.proofs.lemmas.Bool.{eqb-true}
use Rattle.std.proofs.lemmas.Slice.Eq.{bytes_eq-Decides}
use Rattle.std.specs.Str.{bytes_eq}
use Rattle.module_semantics.specs.Token.{Token, name, number, text, punct, LineToken}
use Rattle.module_semantics.specs.Kinds.{ACCEPT, ARROW, AS, CLOSE, CLOSE_BRACE, CLOSE_BRACKET, COLON, COMMA, CONSOLE, CONST, DATA, DECLINE, DISPOSE, DOT, ELSE, EQUALS, EXPORT, FROM, HOST, HOT, IF, IMPORT, INVALIDATE, LET, LOG, META, MINUS, NEW, NULLISH, ON, OPEN, OPEN_BRACE, OPEN_BRACKET, PLUS, PRUNE, QUESTION, SAFE_DOT, THROW, TIMES, UNDEFINED, SEMICOLON, ERROR, NUMBER, TEXT, kind, found_word, word_kind, within, free_names, all_names, reserved, bytes_of, value_of, NameAt, name_at, same_name}
use Rattle.module_semantics.specs.Readers.{mark, taken}
use Rattle.module_semantics.specs.Reading.{but_console, but_host}
use Rattle.module_semantics.specs.Spelling as spell
use Rattle.module_semantics.proofs.PiecesLex.{both}
use Rattle.module_semantics.proofs.LexedPieces.{and_yes}
use Rattle.module_semantics.proofs.KindLists.{same_kind}
use Rattle.module_semantics.proofs.Parts.{Part, Reads, leaf}
use Rattle.module_semantics.proofs.Leaves.{Same, leaf_reads, one_is}

same_number : Same (λ (a : ℕ) (b : ℕ). a == b)
same_number = record { is = λ a b h. eqb-true a b h; again = λ a. same_kind a }

bytes_same : (a b : List ℕ) → bytes_eq a b ≡ true → a ≡ b
bytes_same a b h = (bytes_eq-Decides a b).0 h

bytes_again : (a : List ℕ) → bytes_eq a a ≡ true
bytes_again a = (bytes_eq-Decides a a).1 refl

pub same_bytes : Same bytes_eq
same_bytes = record { is = bytes_same; again = bytes_again }

name_same : (n m : NameAt) → n.name ≡ m.name → n.at ≡ m.at → n ≡ m
name_same n m h k = rw (← h, ← k) refl

pub same_names : Same same_name
same_names = record {
  is = λ n m h. let w = both (bytes_eq n.name m.name) (n.at == m.at) h in name_same n m (bytes_same n.name m.name w.0) (eqb-true n.at m.at w.1);
  again = λ n. and_yes _ _ (bytes_again n.name) (same_kind n.at);
}

-- a token that begins a line
abbrev pub on_line : Token → LineToken
on_line t = record { token = t; at = 0; later = true }

-- a mark
abbrev pub mark_part : ℕ → Part (Unit {0}) (Unit {0})
mark_part k = leaf (k ∷ []) (λ t. tt) (λ a b. true)

same_unit : Same (λ (a : Unit {0}) (b : Unit {0}). true)
same_unit = record { is = λ a b h. refl; again = λ a. refl }

mark_reads : (n k : ℕ) (t : Token) → within (k ∷ []) (kind t) ≡ true → within (SEMICOLON ∷ ERROR ∷ []) (kind t) ≡ false → Reads (k ∷ []) false [] n (mark_part k) (mark k) (mark k)
mark_reads n k t is plain = leaf_reads (k ∷ []) (λ t. tt) (λ a b. true) n same_unit (on_line t) is refl plain

pub import_mark : (n : ℕ) → Reads (IMPORT ∷ []) false [] n (mark_part IMPORT) (mark IMPORT) (mark IMPORT)
unfolding within word_kind found_word
import_mark n = mark_reads n IMPORT (name (codes "import")) refl refl

pub export_mark : (n : ℕ) → Reads (EXPORT ∷ []) false [] n (mark_part EXPORT) (mark EXPORT) (mark EXPORT)
unfolding within word_kind found_word
export_mark n = mark_reads n EXPORT (name (codes "export")) refl refl

pub const_mark : (n : ℕ) → Reads (CONST ∷ []) false [] n (mark_part CONST) (mark CONST) (mark CONST)
unfolding within word_kind found_word
const_mark n = mark_reads n CONST (name (codes "const")) refl refl

pub let_mark : (n : ℕ) → Reads (LET ∷ []) false [] n (mark_part LET) (mark LET) (mark LET)
unfolding within word_kind found_word
let_mark n = mark_reads n LET (name (codes "let")) refl refl

pub if_mark : (n : ℕ) → Reads (IF ∷ []) false [] n (mark_part IF) (mark IF) (mark IF)
unfolding within word_kind found_word
if_mark n = mark_reads n IF (name (codes "if")) refl refl

pub else_mark : (n : ℕ) → Reads (ELSE ∷ []) false [] n (mark_part ELSE) (mark ELSE) (mark ELSE)
unfolding within word_kind found_word
else_mark n = mark_reads n ELSE (name (codes "else")) refl refl

pub throw_mark : (n : ℕ) → Reads (THROW ∷ []) false [] n (mark_part THROW) (mark THROW) (mark THROW)
unfolding within word_kind found_word
throw_mark n = mark_reads n THROW (name (codes "throw")) refl refl

pub undefined_mark : (n : ℕ) → Reads (UNDEFINED ∷ []) false [] n (mark_part UNDEFINED) (mark UNDEFINED) (mark UNDEFINED)
unfolding within word_kind found_word
undefined_mark n = mark_reads n UNDEFINED (name (codes "undefined")) refl refl

pub console_mark : (n : ℕ) → Reads (CONSOLE ∷ []) false [] n (mark_part CONSOLE) (mark CONSOLE) (mark CONSOLE)
unfolding within word_kind found_word
console_mark n = mark_reads n CONSOLE (name (codes "console")) refl refl

pub log_mark : (n : ℕ) → Reads (LOG ∷ []) false [] n (mark_part LOG) (mark LOG) (mark LOG)
unfolding within word_kind found_word
log_mark n = mark_reads n LOG (name (codes "log")) refl refl

pub host_mark : (n : ℕ) → Reads (HOST ∷ []) false [] n (mark_part HOST) (mark HOST) (mark HOST)
unfolding within word_kind found_word
host_mark n = mark_reads n HOST (name (codes "host")) refl refl

pub new_mark : (n : ℕ) → Reads (NEW ∷ []) false [] n (mark_part NEW) (mark NEW) (mark NEW)
unfolding within word_kind found_word
new_mark n = mark_reads n NEW (name (codes "new")) refl refl

pub from_mark : (n : ℕ) → Reads (FROM ∷ []) false [] n (mark_part FROM) (mark FROM) (mark FROM)
unfolding within word_kind found_word
from_mark n = mark_reads n FROM (name (codes "from")) refl refl

pub as_mark : (n : ℕ) → Reads (AS ∷ []) false [] n (mark_part AS) (mark AS) (mark AS)
unfolding within word_kind found_word
as_mark n = mark_reads n AS (name (codes "as")) refl refl

pub meta_mark : (n : ℕ) → Reads (META ∷ []) false [] n (mark_part META) (mark META) (mark META)
unfolding within word_kind found_word
meta_mark n = mark_reads n META (name (codes "meta")) refl refl

pub hot_mark : (n : ℕ) → Reads (HOT ∷ []) false [] n (mark_part HOT) (mark HOT) (mark HOT)
unfolding within word_kind found_word
hot_mark n = mark_reads n HOT (name (codes "hot")) refl refl

pub data_mark : (n : ℕ) → Reads (DATA ∷ []) false [] n (mark_part DATA) (mark DATA) (mark DATA)
unfolding within word_kind found_word
data_mark n = mark_reads n DATA (name (codes "data")) refl refl

pub accept_mark : (n : ℕ) → Reads (ACCEPT ∷ []) false [] n (mark_part ACCEPT) (mark ACCEPT) (mark ACCEPT)
unfolding within word_kind found_word
accept_mark n = mark_reads n ACCEPT (name (codes "accept")) refl refl

pub dispose_mark : (n : ℕ) → Reads (DISPOSE ∷ []) false [] n (mark_part DISPOSE) (mark DISPOSE) (mark DISPOSE)
unfolding within word_kind found_word
dispose_mark n = mark_reads n DISPOSE (name (codes "dispose")) refl refl

pub prune_mark : (n : ℕ) → Reads (PRUNE ∷ []) false [] n (mark_part PRUNE) (mark PRUNE) (mark PRUNE)
unfolding within word_kind found_word
prune_mark n = mark_reads n PRUNE (name (codes "prune")) refl refl

pub decline_mark : (n : ℕ) → Reads (DECLINE ∷ []) false [] n (mark_part DECLINE) (mark DECLINE) (mark DECLINE)
unfolding within word_kind found_word
decline_mark n = mark_reads n DECLINE (name (codes "decline")) refl refl

pub invalidate_mark : (n : ℕ) → Reads (INVALIDATE ∷ []) false [] n (mark_part INVALIDATE) (mark INVALIDATE) (mark INVALIDATE)
unfolding within word_kind found_word
invalidate_mark n = mark_reads n INVALIDATE (name (codes "invalidate")) refl refl

pub on_mark : (n : ℕ) → Reads (ON ∷ []) false [] n (mark_part ON) (mark ON) (mark ON)
unfolding within word_kind found_word
on_mark n = mark_reads n ON (name (codes "on")) refl refl

pub open_brace_mark : (n : ℕ) → Reads (OPEN_BRACE ∷ []) false [] n (mark_part OPEN_BRACE) (mark OPEN_BRACE) (mark OPEN_BRACE)
unfolding within word_kind found_word
open_brace_mark n = mark_reads n OPEN_BRACE (punct 0) refl refl

pub close_brace_mark : (n : ℕ) → Reads (CLOSE_BRACE ∷ []) false [] n (mark_part CLOSE_BRACE) (mark CLOSE_BRACE) (mark CLOSE_BRACE)
unfolding within word_kind found_word
close_brace_mark n = mark_reads n CLOSE_BRACE (punct 1) refl refl

pub open_mark : (n : ℕ) → Reads (OPEN ∷ []) false [] n (mark_part OPEN) (mark OPEN) (mark OPEN)
unfolding within word_kind found_word
open_mark n = mark_reads n OPEN (punct 2) refl refl

pub close_mark : (n : ℕ) → Reads (CLOSE ∷ []) false [] n (mark_part CLOSE) (mark CLOSE) (mark CLOSE)
unfolding within word_kind found_word
close_mark n = mark_reads n CLOSE (punct 3) refl refl

pub open_bracket_mark : (n : ℕ) → Reads (OPEN_BRACKET ∷ []) false [] n (mark_part OPEN_BRACKET) (mark OPEN_BRACKET) (mark OPEN_BRACKET)
unfolding within word_kind found_word
open_bracket_mark n = mark_reads n OPEN_BRACKET (punct 4) refl refl

pub close_bracket_mark : (n : ℕ) → Reads (CLOSE_BRACKET ∷ []) false [] n (mark_part CLOSE_BRACKET) (mark CLOSE_BRACKET) (mark CLOSE_BRACKET)
unfolding within word_kind found_word
close_bracket_mark n = mark_reads n CLOSE_BRACKET (punct 5) refl refl

pub comma_mark : (n : ℕ) → Reads (COMMA ∷ []) false [] n (mark_part COMMA) (mark COMMA) (mark COMMA)
unfolding within word_kind found_word
comma_mark n = mark_reads n COMMA (punct 6) refl refl

pub dot_mark : (n : ℕ) → Reads (DOT ∷ []) false [] n (mark_part DOT) (mark DOT) (mark DOT)
unfolding within word_kind found_word
dot_mark n = mark_reads n DOT (punct 8) refl refl

pub equals_mark : (n : ℕ) → Reads (EQUALS ∷ []) false [] n (mark_part EQUALS) (mark EQUALS) (mark EQUALS)
unfolding within word_kind found_word
equals_mark n = mark_reads n EQUALS (punct 9) refl refl

pub plus_mark : (n : ℕ) → Reads (PLUS ∷ []) false [] n (mark_part PLUS) (mark PLUS) (mark PLUS)
unfolding within word_kind found_word
plus_mark n = mark_reads n PLUS (punct 10) refl refl

pub minus_mark : (n : ℕ) → Reads (MINUS ∷ []) false [] n (mark_part MINUS) (mark MINUS) (mark MINUS)
unfolding within word_kind found_word
minus_mark n = mark_reads n MINUS (punct 11) refl refl

pub times_mark : (n : ℕ) → Reads (TIMES ∷ []) false [] n (mark_part TIMES) (mark TIMES) (mark TIMES)
unfolding within word_kind found_word
times_mark n = mark_reads n TIMES (punct 12) refl refl

pub question_mark : (n : ℕ) → Reads (QUESTION ∷ []) false [] n (mark_part QUESTION) (mark QUESTION) (mark QUESTION)
unfolding within word_kind found_word
question_mark n = mark_reads n QUESTION (punct 13) refl refl

pub colon_mark : (n : ℕ) → Reads (COLON ∷ []) false [] n (mark_part COLON) (mark COLON) (mark COLON)
unfolding within word_kind found_word
colon_mark n = mark_reads n COLON (punct 14) refl refl

pub arrow_mark : (n : ℕ) → Reads (ARROW ∷ []) false [] n (mark_part ARROW) (mark ARROW) (mark ARROW)
unfolding within word_kind found_word
arrow_mark n = mark_reads n ARROW (punct 15) refl refl

pub safe_dot_mark : (n : ℕ) → Reads (SAFE_DOT ∷ []) false [] n (mark_part SAFE_DOT) (mark SAFE_DOT) (mark SAFE_DOT)
unfolding within word_kind found_word
safe_dot_mark n = mark_reads n SAFE_DOT (punct 16) refl refl

pub nullish_mark : (n : ℕ) → Reads (NULLISH ∷ []) false [] n (mark_part NULLISH) (mark NULLISH) (mark NULLISH)
unfolding within word_kind found_word
nullish_mark n = mark_reads n NULLISH (punct 17) refl refl

-- a name of some kinds
abbrev pub name_part : List ℕ → Part NameAt NameAt
name_part ks = leaf ks name_at same_name

pub name_reads : (n : ℕ) (ks : List ℕ) (t : Token) → within ks (kind t) ≡ true → within (SEMICOLON ∷ ERROR ∷ []) (kind t) ≡ false → Reads ks false [] n (name_part ks) (taken ks name_at) (taken ks name_at)
name_reads n ks t is plain = leaf_reads ks name_at same_name n same_names (on_line t) is refl plain

pub free_name_reads : (n : ℕ) → Reads free_names false [] n (name_part free_names) (taken free_names name_at) (taken free_names name_at)
unfolding within word_kind found_word
free_name_reads n = name_reads n free_names (name (codes "a")) refl refl

-- a name after a dot, or a reserved word before `as`
abbrev pub bytes_part : List ℕ → Part (List ℕ) (List ℕ)
bytes_part ks = leaf ks (λ t. bytes_of t.token) bytes_eq

bytes_reads : (n : ℕ) (ks : List ℕ) (t : Token) → within ks (kind t) ≡ true → within (SEMICOLON ∷ ERROR ∷ []) (kind t) ≡ false → Reads ks false [] n (bytes_part ks) (taken ks (λ t. bytes_of t.token)) (taken ks (λ t. bytes_of t.token))
bytes_reads n ks t is plain = leaf_reads ks (λ t. bytes_of t.token) bytes_eq n same_bytes (on_line t) is refl plain

pub key_reads : (n : ℕ) → Reads all_names false [] n (bytes_part all_names) (taken all_names (λ t. bytes_of t.token)) (taken all_names (λ t. bytes_of t.token))
unfolding within word_kind found_word
key_reads n = bytes_reads n all_names (name (codes "a")) refl refl

pub reserved_reads : (n : ℕ) → Reads reserved false [] n (bytes_part reserved) (taken reserved (λ t. bytes_of t.token)) (taken reserved (λ t. bytes_of t.token))
unfolding within word_kind found_word
reserved_reads n = bytes_reads n reserved (name (codes "if")) refl refl

pub text_reads : (n : ℕ) → Reads (TEXT ∷ []) false [] n (bytes_part (TEXT ∷ [])) (taken (TEXT ∷ []) (λ t. bytes_of t.token)) (taken (TEXT ∷ []) (λ t. bytes_of t.token))
unfolding within
text_reads n = bytes_reads n (TEXT ∷ []) (text []) refl refl

abbrev pub number_part : Part ℕ ℕ
number_part = leaf (NUMBER ∷ []) (λ t. value_of t.token) (λ a b. a == b)

pub number_reads : (n : ℕ) → Reads (NUMBER ∷ []) false [] n number_part (taken (NUMBER ∷ []) (λ t. value_of t.token)) (taken (NUMBER ∷ []) (λ t. value_of t.token))
unfolding within
number_reads n = leaf_reads (NUMBER ∷ []) (λ t. value_of t.token) (λ a b. a == b) n same_number (on_line (number 0)) refl refl refl

-- a token of a kind, by its place
abbrev pub place_part : ℕ → Part ℕ ℕ
place_part k = leaf (k ∷ []) (λ t. t.at) (λ a b. a == b)

pub import_place : (n : ℕ) → Reads (IMPORT ∷ []) false [] n (place_part IMPORT) (taken (IMPORT ∷ []) (λ t. t.at)) (taken (IMPORT ∷ []) (λ t. t.at))
unfolding within word_kind found_word
import_place n = leaf_reads (IMPORT ∷ []) (λ t. t.at) (λ a b. a == b) n same_number (on_line (name (codes "import"))) refl refl refl

pub console_reads : (n : ℕ) → Reads (CONSOLE ∷ []) false [] n (name_part (CONSOLE ∷ [])) (taken (CONSOLE ∷ []) name_at) (taken (CONSOLE ∷ []) name_at)
unfolding within word_kind found_word
console_reads n = name_reads n (CONSOLE ∷ []) (name (codes "console")) refl refl

pub but_console_reads : (n : ℕ) → Reads but_console false [] n (name_part but_console) (taken but_console name_at) (taken but_console name_at)
unfolding within word_kind found_word
but_console_reads n = name_reads n but_console (name (codes "a")) refl refl

pub host_reads : (n : ℕ) → Reads (HOST ∷ []) false [] n (name_part (HOST ∷ [])) (taken (HOST ∷ []) name_at) (taken (HOST ∷ []) name_at)
unfolding within word_kind found_word
host_reads n = name_reads n (HOST ∷ []) (name (codes "host")) refl refl

pub but_host_reads : (n : ℕ) → Reads but_host false [] n (name_part but_host) (taken but_host name_at) (taken but_host name_at)
unfolding within word_kind found_word
but_host_reads n = name_reads n but_host (name (codes "a")) refl refl

-- the name of an event, which is a text
pub event_reads : (n : ℕ) → Reads (TEXT ∷ []) false [] n (name_part (TEXT ∷ [])) (taken (TEXT ∷ []) name_at) (taken (TEXT ∷ []) name_at)
unfolding within
event_reads n = name_reads n (TEXT ∷ []) (text []) refl refl

-- a mark is spelled by its token
pub mark_spells : (k : ℕ) (t : LineToken) (s : List LineToken) → within (k ∷ []) (kind t.token) ≡ true → spell.mark k (t ∷ s) ≡ Some s
mark_spells k t s h = one_is (k ∷ []) spell.any_token t s h refl
