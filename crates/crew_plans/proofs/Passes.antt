-- The pass from which those of the jobs are split off.
use Rattle.std.proofs.Common.{◌≡◌, Bool, true, false, [], refl, sym, subst}
use Rattle.std.specs.Prelude.{Result, Ok, Err, OnOk}
use Rattle.hmr_hub.specs.declared.pass.Pass.{Pass}
use Rattle.hmr_hub.specs.Calls.{SameSeen}
use Rattle.hmr_hub.specs.Passes.{HasTranscript, roots_of, seen_of}
use Rattle.transcripts.specs.Transcripts.{IsTranscript}
use Rattle.hmr_hub.proofs.Moves.{moved_no_more, moved_none, moved_split}
use Rattle.crew_plans.specs.declared.cause.Cause.TheVariants.{Spent}
use Rattle.crew_plans.specs.Splits.{Divided, IsSpentBy}

pub divided_none : (p : Pass) → Divided p p
divided_none p = record { moved = moved_none p; transcript = λ h. h }

pub divided_then : (p q r : Pass) → Divided p q → Divided q r → Divided p r
divided_then p q r h k = record {
  moved = moved_no_more p q r [] h.moved k.moved;
  transcript = λ t. k.transcript (h.transcript t);
}

has_transcript : (p q : Pass) → roots_of q ≡ roots_of p → seen_of q ≡ seen_of p → HasTranscript p → HasTranscript q
has_transcript p q roots seen t = subst (λ rs. IsTranscript rs (seen_of q)) (sym roots) (subst (λ es. IsTranscript (roots_of p) es) (sym seen) t)

pub divided_split : (p q : Pass) → SameSeen p q → Divided p q
divided_split p q same = record {
  moved = moved_split p q same;
  transcript = λ t. has_transcript p q same.roots same.seen t;
}

-- a begin that answers Ok found that not all numbers were given
pub given_ok : {T : Type 0} (a b : Bool) (x : T) → IsSpentBy a b (Ok x) → a ≡ false → b ≡ false
given_ok a false x h e = refl
given_ok a true x h e = let z = (h e).1 refl in absurd (let w : Ok x ≡ Err Spent = z in cc)

-- what follows of an Ok
pub on_ok : {T E A B : Type 0} (r : Result T E) → (A → B) → OnOk r A → OnOk r B
on_ok (Ok x) f h = f h
on_ok (Err e) f h = tt
