-- Reads of a stream after waits without bytes.
use Rattle.std.proofs.Common.{◌≡◌, ◌∙◌, ℕ, List, Bool, true, false, Option, Some, None, refl, sym, subst}
use Rattle.std.proofs.lemmas.Bool.{false≢true}
use Rattle.std.specs.Prelude.{Result, Ok, Err, IfOk}
use Rattle.std.specs.Io.KnownBytes.{Keeps, ReadConsumes}

-- a wait took no byte
pub waited : {E : Type 0} → (a b : Option (List ℕ)) (w : Bool) (got : Result ℕ E) (buf : List ℕ)
    → IfOk got (λ _. w ≡ false) → w ≡ true → ReadConsumes a b got buf → Keeps a b
waited a b w (Ok n) buf never once r = absurd (false≢true (sym never ∙ once))
waited a b w (Err e) buf never once r = r

pub keeps_same : (a : Option (List ℕ)) → Keeps a a
keeps_same None = tt
keeps_same (Some xs) = refl

pub keeps_on : (a b c : Option (List ℕ)) → Keeps a b → Keeps b c → Keeps a c
keeps_on None b c h k = tt
keeps_on (Some xs) None c h k = absurd h
keeps_on (Some xs) (Some ys) c h k = subst (λ zs. Keeps (Some zs) c) h k

-- what a read takes after it
pub reads_on : {E : Type 0} → (a b c : Option (List ℕ)) (got : Result ℕ E) (buf : List ℕ)
    → Keeps a b → ReadConsumes b c got buf → ReadConsumes a c got buf
reads_on None b c (Ok n) buf h r = (tt, r.1)
reads_on None b c (Err e) buf h r = tt
reads_on (Some xs) None c got buf h r = absurd h
reads_on (Some xs) (Some ys) c got buf h r = subst (λ zs. ReadConsumes (Some zs) c got buf) h r
