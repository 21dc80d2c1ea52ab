-- What is written, put together.
use Rattle.std.proofs.Common.{◌≡◌, ◌≤◌, ℕ, List, [], sym, subst, arith}
use Rattle.std.specs.Prelude.{⊤, Option, Some, None, Result, Ok, Err, OnOk, OnErr}
use Rattle.std.specs.Io.KnownBytes.{Appends}
use Rattle.std.proofs.lemmas.List.{append-nil}
use Rattle.hmr_base.specs.Causes.{Rose}

-- nothing was written
pub appends_none : (old : Option (List ℕ)) → Appends old old []
appends_none None = tt
appends_none (Some xs) = sym (append-nil xs)

-- a count that rose from a moment on rose from an earlier one, and has risen later
pub rose_since : (before mid now : ℕ) → before ≤ mid → Rose mid now → Rose before now
rose_since before mid now less rose = omega (arith, less, rose)

pub still_risen : (before mid now : ℕ) → mid ≤ now → Rose before mid → Rose before now
still_risen before mid now less rose = omega (arith, less, rose)

-- the whole line, unless the count rose
pub wrote_whole : {E : Type 0} (r : Result ⊤ E) (old new : Option (List ℕ)) (text line : List ℕ) (before now : ℕ) → text ≡ line → OnOk r (Appends old new text)
    → OnErr r (Rose before now) → ¬ Rose before now → Appends old new line
wrote_whole (Ok done) old new text line before now is whole failed quiet = subst (Appends old new) is whole
wrote_whole (Err fault) old new text line before now is whole failed quiet = absurd (quiet failed)
