-- What an Aborted makes of what is kept: no plan is under way, and the client is held.
use Rattle.std.proofs.Common.{◌≡◌, true, ap, ◌∙◌}
use Rattle.std.specs.Prelude.{Option, Some, None, is_some}
use Prim.{⊥}
use Rattle.std.proofs.lemmas.Bool.{false≢true}
use Rattle.core_model.specs.Names.{at}
use Rattle.core_model.specs.Page.{Plan}
use Rattle.core_model.specs.Sources.{Sources}
use Rattle.core_model.specs.Client.{Client}
use Rattle.core_model.specs.Requests.{aborted_in}
use Rattle.client_queue.specs.Queue.{Queue, is_marked}
use Rattle.client_records.specs.Record.{Kept, IsPlan, IsRecord}

-- where a plan is kept, there is one: its client is held from the plan's start on
pub aborted_stands : (p : Option Plan) (s : Sources) (c : Client) (k : Kept) (q : Queue) → IsPlan p k.plan → is_some k.plan ≡ true
    → IsRecord s c k → q ≡ record k.queue { held = Some k.plan_at } → IsRecord s (aborted_in p c).0 (record k { queue = q; plan = None })
aborted_stands None s c k q i some h e = absurd (none_kept k.plan i some)
  where
    none_kept : (o : Option Plan) → IsPlan None o → is_some o ≡ true → ⊥
    none_kept None i some = false≢true some
    none_kept (Some o) i some = i
aborted_stands (Some p) s c k q i some h e = record {
  roots = h.roots;
  batches = h.batches;
  loaded = h.loaded;
  view = h.view;
  forced = ap (λ (r : Queue). r.forced) e ∙ h.forced;
  plan = tt;
  plan_at = h.plan_at;
  held = ap (λ (r : Queue). r.held) e ∙ ap Some h.plan_at;
  notices = λ m. ap (λ (r : Queue). at r.notices m) e ∙ h.notices m;
  dropped = h.dropped;
  marks = λ m. ap (λ (r : Queue). is_marked r m) e ∙ h.marks m;
}
