-- The pass from which those of the jobs are split off.
use Rattle.std.proofs.Common.{◌≡◌, [], sym, subst}
use Rattle.hmr_hub.specs.declared.pass.Pass.{Pass}
use Rattle.hmr_hub.specs.Calls.{SameSeen}
use Rattle.hmr_hub.specs.Passes.{HasTranscript, roots_of, seen_of}
use Rattle.transcripts.specs.Transcripts.{IsTranscript}
use Rattle.hmr_hub.proofs.Moves.{moved_no_more, moved_none, moved_split}
use Rattle.live_crew.specs.Splits.{Divided}

pub divided_none : (p : Pass) → Divided p p
divided_none p = record { moved = moved_none p; transcript = λ h. h }

pub divided_then : (p q r : Pass) → Divided p q → Divided q r → Divided p r
divided_then p q r h k = record {
  moved = moved_no_more p q r [] h.moved k.moved;
  transcript = λ t. k.transcript (h.transcript t);
}

has_transcript : (p q : Pass) → roots_of q ≡ roots_of p → seen_of q ≡ seen_of p → HasTranscript p → HasTranscript q
has_transcript p q roots seen t = subst (λ rs. IsTranscript rs (seen_of q)) (sym roots) (subst (λ es. IsTranscript (roots_of p) es) (sym seen) t)

pub divided_split : (p q : Pass) → SameSeen p q → Divided p q
divided_split p q same = record {
  moved = moved_split p q same;
  transcript = λ t. has_transcript p q same.roots same.seen t;
}
