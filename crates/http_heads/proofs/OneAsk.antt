-- Bytes are at most one head, and ask one thing.
use Rattle.std.proofs.Common.{◌≡◌, ℕ, false, List, [], refl, ap, map, take}
use Rattle.httparse.specs.Grammar.{RequestHead}
use Rattle.httparse.specs.Spans.{IsRequestAt, header_bytes, span_bytes}
use Rattle.httparse.specs.declared.spans.HeaderSpan.{HeaderSpan}
use Rattle.httparse.specs.declared.spans.RequestSpans.{RequestSpans}
use Rattle.httparse.proofs.GrammarLemmas.{request_unique}
use Rattle.http_heads.specs.Head.{IsHeadOf}
use Rattle.http_heads.specs.Asks.{Ask, Asks, a_head, no_head, asked_at, asked_of, bad_request}

-- what the spans of a head show asks what the head asks
pub spans_ask : (bytes : List ℕ) (slots : List HeaderSpan) (spans : RequestSpans) (h : RequestHead) → IsRequestAt bytes slots spans h
    → asked_at (span_bytes bytes spans.method) (span_bytes bytes spans.path) spans.version (map (header_bytes bytes) (take spans.headers slots)) ≡ asked_of h
spans_ask bytes slots spans h at = rw (at.method, at.path, at.version, at.fields) refl

pub one_head : (bytes : List ℕ) (h k : RequestHead) → IsHeadOf bytes h → IsHeadOf bytes k → h ≡ k
one_head bytes h k x y = (request_unique bytes h k [] [] x.reads y.reads).0

pub asks_of_head : (bytes : List ℕ) (a : Ask) (h : RequestHead) → Asks bytes a → IsHeadOf bytes h → a ≡ asked_of h
asks_of_head bytes _ h (a_head k y) x = ap asked_of (one_head bytes k h y x)
asks_of_head bytes _ h (no_head none) x = absurd (none h x)

pub asks_none : (bytes : List ℕ) (a : Ask) → ((h : RequestHead) → ¬ (IsHeadOf bytes h)) → Asks bytes a → a ≡ bad_request false
asks_none bytes _ none (a_head k y) = absurd (none k y)
asks_none bytes _ none (no_head _) = refl

-- two readings of the same bytes are equal: so a definition by `Asks` is a function
pub one_ask : (bytes : List ℕ) (a b : Ask) → Asks bytes a → Asks bytes b → a ≡ b
one_ask bytes a _ x (a_head h y) = asks_of_head bytes a h x y
one_ask bytes a _ x (no_head none) = asks_none bytes a none x
