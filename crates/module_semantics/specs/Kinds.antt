-- The kinds of tokens that the grammar tells apart. A kind is a number: 0 for a name that is none of the
-- grammar's own words, then the words, first those that are never names, and then numbers, texts, and each
-- punctuation.
use Rattle.std.specs.Prelude.{ℕ, ◌+◌, List, [], ◌∷◌, Bool, false, ◌||◌, ◌==◌, ◌&&◌, if◌then◌else◌, codes}
use Rattle.std.specs.Str.{bytes_eq}
use Rattle.module_semantics.specs.Token.{Token, name, number, text, punct, LineToken}

abbrev pub OTHER : ℕ
OTHER = 0

abbrev pub IMPORT : ℕ
IMPORT = 1

abbrev pub EXPORT : ℕ
EXPORT = 2

abbrev pub CONST : ℕ
CONST = 3

abbrev pub LET : ℕ
LET = 4

abbrev pub IF : ℕ
IF = 5

abbrev pub ELSE : ℕ
ELSE = 6

abbrev pub THROW : ℕ
THROW = 7

abbrev pub UNDEFINED : ℕ
UNDEFINED = 8

abbrev pub NULL : ℕ
NULL = 9

abbrev pub TRUE : ℕ
TRUE = 10

abbrev pub FALSE : ℕ
FALSE = 11

abbrev pub CONSOLE : ℕ
CONSOLE = 12

abbrev pub LOG : ℕ
LOG = 13

abbrev pub HOST : ℕ
HOST = 14

abbrev pub NEW : ℕ
NEW = 15

abbrev pub ERROR : ℕ
ERROR = 16

abbrev pub FROM : ℕ
FROM = 17

abbrev pub AS : ℕ
AS = 18

abbrev pub META : ℕ
META = 19

abbrev pub HOT : ℕ
HOT = 20

abbrev pub DATA : ℕ
DATA = 21

abbrev pub ACCEPT : ℕ
ACCEPT = 22

abbrev pub DISPOSE : ℕ
DISPOSE = 23

abbrev pub PRUNE : ℕ
PRUNE = 24

abbrev pub DECLINE : ℕ
DECLINE = 25

abbrev pub INVALIDATE : ℕ
INVALIDATE = 26

abbrev pub ON : ℕ
ON = 27

abbrev pub NUMBER : ℕ
NUMBER = 40

abbrev pub TEXT : ℕ
TEXT = 41

abbrev pub OPEN_BRACE : ℕ
OPEN_BRACE = 50

abbrev pub CLOSE_BRACE : ℕ
CLOSE_BRACE = 51

abbrev pub OPEN : ℕ
OPEN = 52

abbrev pub CLOSE : ℕ
CLOSE = 53

abbrev pub OPEN_BRACKET : ℕ
OPEN_BRACKET = 54

abbrev pub CLOSE_BRACKET : ℕ
CLOSE_BRACKET = 55

abbrev pub COMMA : ℕ
COMMA = 56

abbrev pub SEMICOLON : ℕ
SEMICOLON = 57

abbrev pub DOT : ℕ
DOT = 58

abbrev pub EQUALS : ℕ
EQUALS = 59

abbrev pub PLUS : ℕ
PLUS = 60

abbrev pub MINUS : ℕ
MINUS = 61

abbrev pub TIMES : ℕ
TIMES = 62

abbrev pub QUESTION : ℕ
QUESTION = 63

abbrev pub COLON : ℕ
COLON = 64

abbrev pub ARROW : ℕ
ARROW = 65

abbrev pub SAFE_DOT : ℕ
SAFE_DOT = 66

abbrev pub NULLISH : ℕ
NULLISH = 67

-- each word of the grammar's own, with its kind
abbrev pub words : List (List ℕ × ℕ)
words =
    (codes "import", IMPORT) ∷ (codes "export", EXPORT) ∷ (codes "const", CONST) ∷ (codes "let", LET)
    ∷ (codes "if", IF) ∷ (codes "else", ELSE) ∷ (codes "throw", THROW) ∷ (codes "undefined", UNDEFINED)
    ∷ (codes "null", NULL) ∷ (codes "true", TRUE) ∷ (codes "false", FALSE) ∷ (codes "console", CONSOLE)
    ∷ (codes "log", LOG) ∷ (codes "host", HOST) ∷ (codes "new", NEW) ∷ (codes "Error", ERROR)
    ∷ (codes "from", FROM) ∷ (codes "as", AS) ∷ (codes "meta", META) ∷ (codes "hot", HOT)
    ∷ (codes "data", DATA) ∷ (codes "accept", ACCEPT) ∷ (codes "dispose", DISPOSE) ∷ (codes "prune", PRUNE)
    ∷ (codes "decline", DECLINE) ∷ (codes "invalidate", INVALIDATE) ∷ (codes "on", ON) ∷ []

-- the kind of a name by a table
unfoldable pub found_word : List ℕ → List (List ℕ × ℕ) → ℕ
found_word bytes [] = OTHER
found_word bytes (w ∷ ws) = if bytes_eq bytes w.0 then w.1 else found_word bytes ws

-- the kind of a name
unfoldable pub word_kind : List ℕ → ℕ
word_kind bytes = found_word bytes words

-- the kind of a token
abbrev pub kind : Token → ℕ
kind (name bytes) = word_kind bytes
kind (number n) = NUMBER
kind (text bytes) = TEXT
kind (punct p) = 50 + p

-- the number is one of the list
unfoldable pub within : List ℕ → ℕ → Bool
within [] k = false
within (x ∷ xs) k = k == x || within xs k

-- words that are never a declared, local, parameter or read name
abbrev pub reserved : List ℕ
reserved = IMPORT ∷ EXPORT ∷ CONST ∷ LET ∷ IF ∷ ELSE ∷ THROW ∷ UNDEFINED ∷ NULL ∷ TRUE ∷ FALSE ∷ []

-- all other names
abbrev pub free_names : List ℕ
free_names =
    OTHER ∷ CONSOLE ∷ LOG ∷ HOST ∷ NEW ∷ ERROR ∷ FROM ∷ AS ∷ META ∷ HOT ∷ DATA ∷ ACCEPT ∷ DISPOSE ∷ PRUNE
    ∷ DECLINE ∷ INVALIDATE ∷ ON ∷ []

-- names after a dot, which may be any
abbrev pub all_names : List ℕ
all_names =
    OTHER ∷ CONSOLE ∷ LOG ∷ HOST ∷ NEW ∷ ERROR ∷ FROM ∷ AS ∷ META ∷ HOT ∷ DATA ∷ ACCEPT
    ∷ DISPOSE ∷ PRUNE ∷ DECLINE ∷ INVALIDATE ∷ ON ∷ IMPORT ∷ EXPORT ∷ CONST ∷ LET ∷ IF ∷ ELSE ∷ THROW
    ∷ UNDEFINED ∷ NULL ∷ TRUE ∷ FALSE ∷ []

-- the bytes of a name or a text
abbrev pub bytes_of : Token → List ℕ
bytes_of (name bytes) = bytes
bytes_of (number n) = []
bytes_of (text bytes) = bytes
bytes_of (punct p) = []

-- the value of a number
abbrev pub value_of : Token → ℕ
value_of (name bytes) = 0
value_of (number n) = n
value_of (text bytes) = 0
value_of (punct p) = 0

-- a name where it stands
pub record NameAt : Type 0 where
  pub name : List ℕ
  pub at : ℕ

-- the name that a token is, where it stands
abbrev pub name_at : LineToken → NameAt
name_at t = record { name = bytes_of t.token; at = t.at }

-- the same name at the same place
abbrev pub same_name : NameAt → NameAt → Bool
same_name n m = bytes_eq n.name m.name && n.at == m.at
