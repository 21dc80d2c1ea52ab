-- What a call, a split and a join of passes leave, as their callers are told.
use Rattle.std.specs.Prelude.{◌≡◌, ◌<◌, ◌≤◌, ◌↔◌, ◌⊎◌, ◌||◌, ◌+◌, [], ◌∷◌, ◌++◌}
use Rattle.std.specs.Prelude.{ℕ, true, false, List, length, max, Result, IfOk, IsErrOf}
use Rattle.core_model.specs.Names.{Name}
use Rattle.core_model.specs.Core.{Event}
use Rattle.core_model.specs.Transcript.{Recorded, reply_after}
use Rattle.update_msgs.specs.declared.desk.HubStop.{HubStop}
use Rattle.update_msgs.specs.declared.desk.HubStop.TheVariants.{TranscriptFull}
use Rattle.events_and_replies.specs.declared.event.Reply.{Reply}
use Rattle.events_and_replies.specs.Said.{IsWritten, said}
use Rattle.turn_lock.specs.Histories.{Past, calls, has}
use Rattle.turn_lock.specs.Views.{most_numbers}
use Rattle.hmr_hub.specs.declared.pass.Pass.{Pass}
use Rattle.hmr_hub.specs.Passes.{all_given, given_of, is_alone, known_of, mark_of, number_of}
use Rattle.hmr_hub.specs.Passes.{roots_of, seen_of}
use Rattle.transcripts.specs.Transcripts.{is_full, recorded}

-- the first pass of a hub with these roots
pub record IsFirst (roots : List Name) (p : Pass) : Type 0 where
  pub number : number_of p ≡ 0
  pub known : known_of p ≡ 0 ∷ []
  pub seen : seen_of p ≡ []
  pub alone : is_alone p ≡ true
  pub given : all_given p ≡ false
  pub roots_are : roots_of p ≡ roots

-- what a call leaves of a pass as it was
pub record SameKnower (p q : Pass) : Type 0 where
  pub mark : mark_of q ≡ mark_of p
  pub number : number_of q ≡ number_of p
  pub known : known_of q ≡ known_of p
  pub alone : is_alone q ≡ is_alone p
  pub given : all_given q ≡ all_given p
  pub numbers : given_of q ≡ given_of p
  pub roots : roots_of q ≡ roots_of p

-- An event by a pass. The transcript begins with all that the pass had seen, goes on with entries under
-- numbers that it doesn't know, and ends with the event where it was answered. The reply is the step's in
-- the state that the transcript before the event makes.
pub record Called (event : Event) (result : Result Reply HubStop) (p q : Pass) : Type 0 where
  pub before : List Recorded
  pub past : Past before (seen_of p) (known_of p)
  pub seen : seen_of q ≡ before ++ recorded (number_of p) event result
  pub reply : IfOk result (λ reply. said (reply_after (roots_of p) before event) ≡ reply)
  pub written : IfOk result IsWritten
  pub full : IsErrOf result TranscriptFull ↔ (is_full before event ≡ true)
  pub own : calls (number_of p ∷ []) (seen_of q)
      ≡ calls (number_of p ∷ []) (seen_of p) ++ recorded (number_of p) event result
  pub known : calls (known_of p) (seen_of q)
      ≡ calls (known_of p) (seen_of p) ++ recorded (number_of p) event result
  pub alone : is_alone p ≡ true → before ≡ seen_of p

-- a call that records nothing: what the pass has then seen has no further entry under a number that it knows
pub record Looked (p q : Pass) : Type 0 where
  pub past : Past (seen_of q) (seen_of p) (known_of p)
  pub known : calls (known_of p) (seen_of q) ≡ calls (known_of p) (seen_of p)
  pub alone : is_alone p ≡ true → seen_of q ≡ seen_of p

-- what a split leaves of a pass as it was; it is alone no more
pub record SameSeen (p q : Pass) : Type 0 where
  pub mark : mark_of q ≡ mark_of p
  pub number : number_of q ≡ number_of p
  pub known : known_of q ≡ known_of p
  pub seen : seen_of q ≡ seen_of p
  pub alone : is_alone q ≡ false
  pub roots : roots_of q ≡ roots_of p

-- a pass that was split off another: it has seen as much, and has a number of its own, above 0, which no
-- pass had before: it is above each that the other knows or gave in an earlier split, and no entry that was
-- seen is under it
pub record IsHalf (p half : Pass) : Type 0 where
  pub mark : mark_of half ≡ mark_of p
  pub least : 0 < number_of half
  pub most : number_of half < most_numbers
  pub above : (k : ℕ) → has k (known_of p) ≡ true → k < number_of half
  pub later : given_of p ≤ number_of half
  pub unused : calls (number_of half ∷ []) (seen_of half) ≡ []
  pub given : given_of half ≡ number_of half + 1
  pub known : known_of half ≡ number_of half ∷ []
  pub seen : seen_of half ≡ seen_of p
  pub alone : is_alone half ≡ false
  pub roots : roots_of half ≡ roots_of p

-- one of two transcripts begins the other, with all entries under the numbers of its pass; the longer stays
abbrev pub IsLonger : Pass → Pass → Pass → Type 0
IsLonger p o q =
    ((seen_of q ≡ seen_of o) × Past (seen_of o) (seen_of p) (known_of p))
    ⊎ ((seen_of q ≡ seen_of p) × Past (seen_of p) (seen_of o) (known_of o))

-- The second pass was joined into the first. What is seen now is the longer transcript, with all entries
-- under the numbers of both, each once.
pub record Joined (p o q : Pass) : Type 0 where
  pub longer : IsLonger p o q
  pub mine : Past (seen_of q) (seen_of p) (known_of p)
  pub other : Past (seen_of q) (seen_of o) (known_of o)
  pub apart : (k : ℕ) → has k (known_of p) ≡ true → has k (known_of o) ≡ false
  pub mine_calls : calls (known_of p) (seen_of q) ≡ calls (known_of p) (seen_of p)
  pub other_calls : calls (known_of o) (seen_of q) ≡ calls (known_of o) (seen_of o)
  pub count : length (calls (known_of q) (seen_of q))
      ≡ length (calls (known_of p) (seen_of p)) + length (calls (known_of o) (seen_of o))
  pub known : known_of q ≡ known_of p ++ known_of o
  pub mark : mark_of q ≡ mark_of p
  pub number : number_of q ≡ number_of p
  pub alone : is_alone q ≡ false
  pub given : all_given q ≡ (all_given p || all_given o)
  pub numbers : given_of q ≡ max (given_of p) (given_of o)
  pub roots : roots_of q ≡ roots_of p
