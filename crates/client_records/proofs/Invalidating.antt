-- What an Invalidate makes of what is kept: a module more is forced.
use Rattle.std.proofs.Common.{◌≡◌, ◌⊎◌, inl, inr, ℕ, Bool, true, false, List, refl, ap, sym, ◌∙◌}
use Rattle.std.specs.Prelude.{Option, Some, None, is_some}
use Rattle.std.proofs.lemmas.Bool.{false≢true}
use Rattle.std.proofs.Math.Path.{subst}
use Rattle.core_model.specs.Names.{Name, same_name, has, at, names_of, put_name}
use Rattle.core_model.specs.Page.{Plan}
use Rattle.core_model.specs.Sources.{Sources}
use Rattle.core_model.specs.Spread.{AreIn}
use Rattle.core_model.specs.View.{View, Entry}
use Rattle.core_model.specs.Client.{Client}
use Rattle.core_model.specs.Requests.{invalidate, is_at_version, invalidated, invalidate_reply, invalidated_in, heard}
use Rattle.core_model.proofs.Naming.{has_is, or_cases, put_has, same_true}
use Rattle.core_model.proofs.Tables.{named}
use Rattle.client_queue.specs.Queue.{Queue, is_marked}
use Rattle.client_records.specs.Record.{Kept, IsPlan, IsRecord}

-- where no plan is kept, there is none
pub no_plan : (p q : Option Plan) → IsPlan p q → is_some q ≡ false → p ≡ None
no_plan None q h e = refl
no_plan (Some p) None h e = absurd h
no_plan (Some p) (Some q) h e = absurd (false≢true (sym e))

at_step : (e : Option Entry) (v : ℕ) → is_at_version e v ≡ true → is_some e ≡ true
at_step None v h = h
at_step (Some e) v h = refl

-- what is forced is on the page, and a module of it too
pub forced_more : (view : View) (forced : List Name) (n : Name) (v : ℕ) → AreIn forced view → is_at_version (at view n) v ≡ true → AreIn (put_name n forced) view
forced_more view forced n v h t = λ m k. go m (or_cases (same_name n m) (has forced m) (sym (put_has n forced m) ∙ (has_is (put_name n forced) m).0 k))
  where
    go : (m : Name) → (same_name n m ≡ true) ⊎ (has forced m ≡ true) → has (names_of view) m ≡ true
    go m (inl e) = ap (has (names_of view)) (sym (same_true n m e)) ∙ sym (named view n) ∙ at_step (at view n) v t
    go m (inr e) = h m ((has_is forced m).1 e)

forced_stands : (s : Sources) (c : Client) (k : Kept) (n : Name) (q : Queue) → IsRecord s c k → q ≡ record k.queue { forced = put_name n k.queue.forced; held = None } → IsRecord s (invalidated true n c) (record k { queue = q })
forced_stands s c k n q h e = record {
  roots = h.roots;
  batches = h.batches;
  loaded = h.loaded;
  view = h.view;
  forced = ap (λ (p : Queue). p.forced) e ∙ ap (put_name n) h.forced;
  plan = h.plan;
  plan_at = h.plan_at;
  held = ap (λ (p : Queue). p.held) e;
  notices = λ m. ap (λ (p : Queue). at p.notices m) e ∙ h.notices m;
  dropped = h.dropped;
  marks = λ m. ap (λ (p : Queue). is_marked p m) e ∙ h.marks m;
}

-- a module that is there and accepts itself is forced
pub invalidate_stands : (i : ℕ) (s : Sources) (c : Client) (k : Kept) (n : Name) (v : ℕ) (q : Queue) → IsRecord s c k → is_some k.plan ≡ false → is_at_version (at k.view n) v ≡ true
    → q ≡ record k.queue { forced = put_name n k.queue.forced; held = None } → IsRecord s (heard i s c (invalidate n v)).0 (record k { queue = q })
invalidate_stands i s c k n v q h e t is =
    subst (λ (o : Option Plan). IsRecord s (invalidated_in o n v c).0 (record k { queue = q })) (sym (no_plan c.page.plan k.plan h.plan e))
    (subst (λ b. IsRecord s (invalidated b n c) (record k { queue = q })) (sym (ap (λ (w : View). is_at_version (at w n) v) (sym h.view) ∙ t)) (forced_stands s c k n q h is))

-- a module that isn't there, or doesn't accept itself, is ignored
pub ignore_stands : (i : ℕ) (s : Sources) (c : Client) (k : Kept) (n : Name) (v : ℕ) → IsRecord s c k → is_some k.plan ≡ false → is_at_version (at k.view n) v ≡ false → IsRecord s (heard i s c (invalidate n v)).0 k
ignore_stands i s c k n v h e t =
    subst (λ (o : Option Plan). IsRecord s (invalidated_in o n v c).0 k) (sym (no_plan c.page.plan k.plan h.plan e))
    (subst (λ b. IsRecord s (invalidated b n c) k) (sym (ap (λ (w : View). is_at_version (at w n) v) (sym h.view) ∙ t)) h)

-- the reply, by the test
pub invalidate_answers : (i : ℕ) (s : Sources) (c : Client) (k : Kept) (n : Name) (v : ℕ) (b : Bool) → IsRecord s c k → is_some k.plan ≡ false → is_at_version (at k.view n) v ≡ b → invalidate_reply b ≡ (heard i s c (invalidate n v)).1
invalidate_answers i s c k n v b h e t = ap invalidate_reply (sym (ap (λ (w : View). is_at_version (at w n) v) (sym h.view) ∙ t)) ∙ ap (λ (o : Option Plan). (invalidated_in o n v c).1) (sym (no_plan c.page.plan k.plan h.plan e))
