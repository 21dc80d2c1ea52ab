-- What a client does with its instances leaves its page, its roots and its number as they were.
use Rattle.std.proofs.Common.{◌≡◌, refl, ◌∙◌}
use Rattle.client_model.specs.Language.{Language}
use Rattle.client_model.specs.Runtime.{Runtime, Did, and_then}
use Rattle.client_model.specs.Making.{Birth, make}
use Rattle.client_model.proofs.Acts.{IsKept, by_make}

pub record Stays (r : Runtime) (did : Did) : Type 0 where
  pub page : did.0.page ≡ r.page
  pub roots : did.0.roots ≡ r.roots
  pub client : did.0.client ≡ r.client
  pub stopped : did.0.stopped ≡ r.stopped

pub stays : (r : Runtime) (did : Did) (next : Runtime → Did) → Stays r did → Stays did.0 (next did.0) → Stays r (and_then did next)
stays r did next h k = record { page = k.page ∙ h.page; roots = k.roots ∙ h.roots; client = k.client ∙ h.client; stopped = k.stopped ∙ h.stopped }

stays_made : (language : Language) (b : Birth) (r : Runtime) → Stays r (make language b r)
stays_made language b r = by_make (Stays r) language b r
    (record { page = refl; roots = refl; client = refl; stopped = refl })
    (record { page = refl; roots = refl; client = refl; stopped = refl })

pub page_kept : IsKept Stays
page_kept = record {
  nothing = λ r. record { page = refl; roots = refl; client = refl; stopped = refl };
  after = stays;
  run = λ place i spot h left r. record { page = refl; roots = refl; client = refl; stopped = refl };
  drop = λ test k r. record { page = refl; roots = refl; client = refl; stopped = refl };
  end = λ fate k m r. record { page = refl; roots = refl; client = refl; stopped = refl };
  give_up = λ m r. record { page = refl; roots = refl; client = refl; stopped = refl };
  give_up_all = λ r. record { page = refl; roots = refl; client = refl; stopped = refl };
  made = stays_made;
  wrote = λ l r. record { page = refl; roots = refl; client = refl; stopped = refl };
}
