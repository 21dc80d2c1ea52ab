-- One event of a core that has what the definitions' core has.
use Rattle.std.proofs.Common.{◌≡◌, ℕ, List, ◌∷◌, refl, sym, ap, ◌∙◌}
use Rattle.std.specs.Prelude.{Result, Ok, Err, IfOk, OnOk, Some}
use Rattle.std.specs.declared.alloc.AllocError.{AllocError}
use Rattle.core_model.specs.Core as model
use Rattle.core_model.specs.Core.{core_after, step}
use Rattle.core_model.specs.Requests as requests
use Rattle.core_model.specs.Sources.{EditAnswer, job, same, removed, edit_refused, ResultAnswer, serve, refuse, late}
use Rattle.output_lines.specs.declared.out_line.OutLine.TheVariants as line
use Rattle.core_model.specs.Names.{Name}
use Rattle.world_model.specs.Editing.{settle_line}
use Rattle.events_and_replies.specs.declared.event.Reply.{Reply}
use Rattle.server_core.specs.Kept.{Kept, StandsFor}
use Rattle.events_and_replies.specs.Said.{said, IsWritten}
use Rattle.version_map.specs.Standing.{settled_as}
use Rattle.world_parts.specs.Cores.{IsCore}
use Rattle.world_parts.specs.Replies.{answer_in, settled_word, word_in}

pub told_stands : (old new : Kept) (event : model.Event) (result : Result Reply AllocError)
    → new.roots ≡ old.roots
    → ((past : List model.Event) → StandsFor past old → OnOk result (StandsFor (event ∷ past) new))
    → (c : model.Core) → IsCore c old → OnOk result (IsCore (step old.roots c event).0 new)
told_stands old new event (Ok reply) alike f c h = record {
  past = event ∷ h.past;
  stands = f h.past h.stands;
  is = ap (λ roots. core_after roots (event ∷ h.past)) alike ∙ ap (λ x. (step old.roots x event).0) h.is;
}
told_stands old new event (Err e) alike f c h = tt

pub told_reply : (old : Kept) (event : model.Event) (result : Result Reply AllocError)
    → ((past : List model.Event) → StandsFor past old
    → IfOk result (λ reply. said (step old.roots (core_after old.roots past) event).1 ≡ reply))
    → (c : model.Core) → IsCore c old → IfOk result (λ reply. said (step old.roots c event).1 ≡ reply)
told_reply old event (Ok reply) f c h =
    ap (λ x. said (step old.roots x event).1) (sym h.is) ∙ f h.past h.stands
told_reply old event (Err e) f c h = tt

pub told_written : (old : Kept) (result : Result Reply AllocError)
    → ((past : List model.Event) → StandsFor past old → IfOk result IsWritten) → (c : model.Core)
    → IsCore c old → IfOk result IsWritten
told_written old (Ok reply) f c h = f h.past h.stands
told_written old (Err e) f c h = tt

-- What a reply says.

pub answer_said : (answer : EditAnswer) → answer_in (said (requests.edited answer)) ≡ Some answer
answer_said (job v) = refl
answer_said same = refl
answer_said (removed v) = refl
answer_said (edit_refused word) = refl

pub word_said : (answer : ResultAnswer)
    → word_in (said (requests.settled answer)) ≡ Some (settled_word (settled_as answer))
word_said answer = refl

pub settle_line_is : (n : Name) (v : ℕ) (answer : ResultAnswer)
    → settle_line n v answer ≡ line.Settle n v (settled_word (settled_as answer))
settle_line_is n v (serve a) = refl
settle_line_is n v (refuse fault) = refl
settle_line_is n v late = refl

-- What is read of a core.

-- this is read of the core
abbrev pub IsReadOfCore : {X : Type 0} → Kept → X → (model.Core → X) → Type 0
IsReadOfCore core x f =
    (past : List model.Event) → StandsFor past core → x ≡ f (core_after core.roots past)

-- and so of that of the definitions
pub core_of : {X : Type 0} (core : Kept) (x : X) (f : model.Core → X) → IsReadOfCore core x f
    → (c : model.Core) → IsCore c core → x ≡ f c
core_of core x f g c k = g k.past k.stands ∙ ap f k.is
