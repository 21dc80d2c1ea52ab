-- The answers to the heads of bytes, in turn.
use Rattle.std.specs.Prelude.{◌≡◌, ◌⊎◌, ◌≤◌, ℕ, suc, List, [], ◌++◌, take, drop, Bool, true, false, ⊤}
use Rattle.std.specs.Prelude.{Option, Some, None}
use Rattle.std.specs.Io.KnownBytes.{Appends, Consumes}
use Rattle.hmr_base.specs.Fronts.{WritesFront}
use Rattle.http_heads.specs.Asks.{Ask, Asks}
use Rattle.http_heads.specs.Cutting.{Cuts}
use Rattle.http_heads.specs.declared.cutting.Cut.TheVariants as cut
use Rattle.http_exchange.specs.declared.reply.Reply.{Reply}
use Rattle.http_exchange.specs.declared.reply.Status.TheVariants as status
use Rattle.http_exchange.specs.declared.next.Turn.{Turn}
use Rattle.http_exchange.specs.declared.next.Turn.TheVariants as turns
use Rattle.http_exchange.specs.declared.exchange.HttpEnd.{HttpEnd}
use Rattle.http_exchange.specs.declared.exchange.HttpEnd.TheVariants as ends
use Rattle.http_exchange.specs.declared.exchange.TheConstants.{TURNS}
use Rattle.http_exchange.specs.Replies.{Answer, answer_of, answer_text, answer_to, refusal}

abbrev pub Bytes : Type 0
Bytes = Option (List ℕ)

-- the bodies by name
abbrev pub Bodies : Type 0
Bodies = List ℕ → Option (List ℕ)

-- The answer to the first head of bytes, of which there are some, and what is left behind the head. Where no
-- head ends within the most bytes of one, or within the last bytes, the answer closes.
pub data NextAnswer (bodies : Bodies) (bytes : List ℕ) : Answer → List ℕ → Type 0 where
  to_head : (end : ℕ) (ask : Ask) → Cuts bytes (cut.Head end) → Asks (take end bytes) ask
      → NextAnswer bodies bytes (answer_to bodies ask) (drop end bytes)
  to_long : (rest : List ℕ) → Cuts bytes cut.TooLong
      → NextAnswer bodies bytes (refusal status.FieldsTooLarge false true) rest
  to_part : (rest : List ℕ) → ¬ (bytes ≡ []) → Cuts bytes cut.Partial
      → NextAnswer bodies bytes (refusal status.BadRequest false true) rest

-- the answers to the heads of bytes in turn, up to the first that closes: how many, and their text
pub data Answers (bodies : Bodies) : List ℕ → ℕ → List ℕ → Type 0 where
  at_end : Answers bodies [] 0 []
  closing : (bytes rest : List ℕ) (a : Answer) → NextAnswer bodies bytes a rest → a.closes ≡ true
      → Answers bodies bytes 1 (answer_text a)
  going_on : (bytes rest text : List ℕ) (count : ℕ) (a : Answer) → NextAnswer bodies bytes a rest
      → a.closes ≡ false → Answers bodies rest count text → Answers bodies bytes (suc count) (answer_text a ++ text)

-- bytes were taken from the source and put behind what is held
pub record Moves (left left' : Bytes) (held held' : List ℕ) : Type 0 where
  pub taken : List ℕ
  pub consumed : Consumes left left' taken
  pub held_is : held' ≡ held ++ taken

-- the bytes that are held and then left were answered, or there are none
abbrev pub Gave : Bodies → List ℕ → Option Reply → List ℕ → Type 0
Gave bodies bytes None rest = bytes ≡ []
Gave bodies bytes (Some reply) rest = NextAnswer bodies bytes (answer_of reply) rest

-- the same where the source tells its bytes
abbrev pub GaveAt : Bodies → Bytes → Bytes → List ℕ → List ℕ → Option Reply → Type 0
GaveAt bodies None left' held held' reply = ⊤
GaveAt bodies (Some left) None held held' reply = ⊥
GaveAt bodies (Some left) (Some left') held held' reply = Gave bodies (held ++ left) reply (held' ++ left')

-- an answer was written, whole
pub record Answered (bodies : Bodies) (bytes rest : List ℕ) (old new : Bytes) (closes : Bool) : Type 0 where
  pub answer : Answer
  pub is_next : NextAnswer bodies bytes answer rest
  pub closes_is : answer.closes ≡ closes
  pub written : Appends old new (answer_text answer)

-- what a turn wrote: an answer, or nothing at the end
abbrev pub Turned : Bodies → List ℕ → List ℕ → Bytes → Bytes → Turn → Type 0
Turned bodies bytes rest old new turns.Ended = (bytes ≡ []) × Appends old new []
Turned bodies bytes rest old new (turns.Answered closes) = Answered bodies bytes rest old new closes

-- the same where the source tells its bytes
abbrev pub TurnedAt : Bodies → Bytes → Bytes → List ℕ → List ℕ → Bytes → Bytes → Turn → Type 0
TurnedAt bodies None left' held held' old new turn = ⊤
TurnedAt bodies (Some left) None held held' old new turn = ⊥
TurnedAt bodies (Some left) (Some left') held held' old new turn =
    Turned bodies (held ++ left) (held' ++ left') old new turn

-- a front of the next answer was written
pub record CutShort (bodies : Bodies) (bytes : List ℕ) (old new : Bytes) : Type 0 where
  pub answer : Answer
  pub rest : List ℕ
  pub is_next : NextAnswer bodies bytes answer rest
  pub front : WritesFront old new (answer_text answer)

-- nothing was written, or a front of the next answer
abbrev pub StoppedAt : Bodies → Bytes → List ℕ → Bytes → Bytes → Type 0
StoppedAt bodies None held old new = ⊤
StoppedAt bodies (Some left) held old new = Appends old new [] ⊎ CutShort bodies (held ++ left) old new

-- What was written: where the exchange came to its end, all answers; else a front of them; and the limit on
-- answers is met exactly where there are more.
pub record Serves (bodies : Bodies) (bytes : List ℕ) (old new : Bytes) (end : HttpEnd) : Type 0 where
  pub whole : end ≡ ends.Closed
      → (count : ℕ) × (text : List ℕ) × Answers bodies bytes count text × (count ≤ TURNS) × Appends old new text
  pub front : (count : ℕ) (text : List ℕ) → Answers bodies bytes count text → WritesFront old new text
  pub turns : end ≡ ends.Turns → (count : ℕ) (text : List ℕ) → Answers bodies bytes count text → TURNS ≤ count
