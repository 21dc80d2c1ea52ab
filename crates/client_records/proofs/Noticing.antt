-- What a change of the sources makes of what is kept: the mark of one name, and its notice.
use Rattle.std.proofs.Common.{◌≡◌, Bool, true, false, List, [], ◌∷◌, refl, ap, sym, ◌∙◌}
use Rattle.std.specs.Prelude.{Option, Some, None, is_some, if◌then◌else◌, Result, Ok, Err, IsOk, OnOk}
use Rattle.std.specs.Cmp.Lexicographic.{slice_cmp}
use Rattle.std.specs.Ordering.{nat_cmp, is_lt}
use Rattle.std.proofs.lemmas.Bool.{false≢true}
use Rattle.hmr_types.specs.declared.analysis.TextFault.{TextFault}
use Rattle.core_model.specs.Names.{Name, same_name, at, without, with_row}
use Rattle.core_model.specs.Sources.{Sources, Serving}
use Rattle.core_model.specs.View.{View, Entry, differs, is_in}
use Rattle.core_model.specs.Client.{Client, with_notice, without_notice}
use Rattle.core_model.proofs.Naming.{same_true, true_same}
use Rattle.core_model.proofs.Tables.{at_without, at_with_row}
use Rattle.client_queue.specs.Queue.{Queue, put_row, is_marked, knows, mark_in, mark_where_known, MarkIs}
use Rattle.client_records.specs.Record.{Kept, IsRecord, SameBut}

-- what holds where there is a value holds of a value
pub on_ok : {A E P : Type 0} (r : Result A E) → IsOk r → OnOk r P → P
on_ok (Ok x) i p = p
on_ok (Err e) i p = absurd (false≢true i)

module _ {X : Type 0} where
  pub same_step : (a b : Bool) (x y : X) (o : Option X) → a ≡ b → (if a then Some x else o) ≡ (if a then Some x else (if b then Some y else o))
  same_step true b x y o e = refl
  same_step false true x y o e = absurd (false≢true e)
  same_step false false x y o e = refl

  pub behind_step : (a b : Bool) (x y : X) (o p : Option X) → (a ≡ true → b ≡ true → ⊥) → p ≡ (if a then Some x else o) → (if b then Some y else p) ≡ (if a then Some x else (if b then Some y else o))
  behind_step true true x y o p f e = absurd (f refl refl)
  behind_step true false x y o p f e = e
  behind_step false b x y o p f e = ap (λ k. if b then Some y else k) e

  put_step : (n : Name) (x : X) (row : Name × X) (rows : List (Name × X)) (m : Name) (same low : Bool) → same_name n row.0 ≡ same → at (put_row n x rows) m ≡ (if same_name n m then Some x else at rows m)
      → at (if same then (n, x) ∷ rows else (if low then (n, x) ∷ (row ∷ rows) else row ∷ put_row n x rows)) m ≡ (if same_name n m then Some x else at (row ∷ rows) m)
  put_step n x row rows m true low e h = same_step (same_name n m) (same_name row.0 m) x row.1 (at rows m) (ap (λ k. same_name k m) (same_true n row.0 e))
  put_step n x row rows m false true e h = refl
  put_step n x row rows m false false e h = behind_step (same_name n m) (same_name row.0 m) x row.1 (at rows m) (at (put_row n x rows) m)
      (λ p q. false≢true (sym e ∙ true_same n row.0 (same_true n m p ∙ sym (same_true row.0 m q)))) h

  -- an entry put in its place, looked up
  pub at_put : (n : Name) (x : X) (rows : List (Name × X)) (m : Name) → at (put_row n x rows) m ≡ (if same_name n m then Some x else at rows m)
  at_put n x [] m = refl
  at_put n x (row ∷ rows) m = put_step n x row rows m (same_name n row.0) (is_lt (slice_cmp nat_cmp n row.0)) refl (at_put n x rows m)

known_step : (o : Option Bool) (e : Option Entry) (served : Option Serving) → (is_some e ≡ true → is_some o ≡ true) → mark_in (mark_where_known (differs e served) o) ≡ differs e served
known_step (Some b) e served f = refl
known_step None None served f = refl
known_step None (Some e) served f = absurd (false≢true (f refl))

some_step : (mark : Bool) (o : Option Bool) → is_some (mark_where_known mark o) ≡ is_some o
some_step mark None = refl
some_step mark (Some b) = refl

-- what is known stays known where a name is marked or unmarked
pub stays_known : (n : Name) (mark : Bool) (old new : Queue) → MarkIs n (mark_where_known mark (at old.known n)) old new → (m : Name) → knows old m ≡ true → knows new m ≡ true
stays_known n mark old new h m k = ap is_some (h m) ∙ go (same_name n m) (same_true n m)
  where
    go : (same : Bool) → (same ≡ true → n ≡ m) → is_some (if same then mark_where_known mark (at old.known n) else at old.known m) ≡ true
    go true e = some_step mark (at old.known n) ∙ ap (knows old) (e refl) ∙ k
    go false e = k

-- with the mark of one name as its version and the served one want it, the marks fit what is served
pub marks_fit : (n : Name) (view : View) (s t : Sources) (old new : Queue) → ((m : Name) → is_marked old m ≡ differs (at view m) (at s.served m)) → ((m : Name) → is_in view m ≡ true → knows old m ≡ true)
    → MarkIs n (mark_where_known (differs (at view n) (at t.served n)) (at old.known n)) old new → SameBut n s t → (m : Name) → is_marked new m ≡ differs (at view m) (at t.served m)
marks_fit n view s t old new marks known h but m = ap mark_in (h m) ∙ go (same_name n m) refl
  where
    go : (same : Bool) → same_name n m ≡ same → mark_in (if same then mark_where_known (differs (at view n) (at t.served n)) (at old.known n) else at old.known m) ≡ differs (at view m) (at t.served m)
    go true e = known_step (at old.known n) (at view n) (at t.served n) (known n) ∙ ap (λ k. differs (at view k) (at t.served k)) (same_true n m e)
    go false e = marks m ∙ ap (differs (at view m)) (sym (but m e))

-- a notice more, looked up
pub noticed : (n : Name) (f : TextFault) (told kept : List (Name × TextFault)) → ((m : Name) → at kept m ≡ at told m) → (m : Name) → at (put_row n f kept) m ≡ at (with_row n f told) m
noticed n f told kept h m = at_put n f kept m ∙ ap (λ o. if same_name n m then Some f else o) (h m) ∙ sym (at_with_row n f told m)

-- a notice less, looked up
pub unnoticed : (n : Name) (told kept : List (Name × TextFault)) → ((m : Name) → at kept m ≡ at told m) → (m : Name) → at (without n kept) m ≡ at (without n told) m
unnoticed n told kept h m = at_without n kept m ∙ ap (λ o. if same_name n m then None else o) (h m) ∙ sym (at_without n told m)

-- the queue has this notice more, and else is as it was
pub notice_stands : (s : Sources) (c : Client) (k : Kept) (n : Name) (f : TextFault) (q : Queue) → IsRecord s c k → q ≡ record k.queue { notices = put_row n f k.queue.notices; spare = q.spare } → IsRecord s (with_notice n f c) (record k { queue = q })
notice_stands s c k n f q h e = record {
  roots = h.roots;
  batches = h.batches;
  loaded = h.loaded;
  view = h.view;
  forced = ap (λ (p : Queue). p.forced) e ∙ h.forced;
  plan = h.plan;
  plan_at = h.plan_at;
  held = ap (λ (p : Queue). p.held) e ∙ h.held;
  notices = λ m. ap (λ (p : Queue). at p.notices m) e ∙ noticed n f c.notices k.queue.notices h.notices m;
  dropped = h.dropped;
  marks = λ m. ap (λ (p : Queue). is_marked p m) e ∙ h.marks m;
}

-- the name is marked as the sources want it, and its notice is gone
pub change_stands : (s t : Sources) (c : Client) (k : Kept) (n : Name) (p q : Queue) → IsRecord s c k → ((m : Name) → is_in k.view m ≡ true → knows k.queue m ≡ true) → SameBut n s t
    → MarkIs n (mark_where_known (differs (at k.view n) (at t.served n)) (at k.queue.known n)) k.queue p → p ≡ record k.queue { known = p.known } → q ≡ record p { notices = without n p.notices; spare = q.spare }
    → IsRecord t (without_notice n c) (record k { queue = q })
change_stands s t c k n p q h known but marked kept e = record {
  roots = h.roots;
  batches = h.batches;
  loaded = h.loaded;
  view = h.view;
  forced = ap (λ (r : Queue). r.forced) e ∙ ap (λ (r : Queue). r.forced) kept ∙ h.forced;
  plan = h.plan;
  plan_at = h.plan_at;
  held = ap (λ (r : Queue). r.held) e ∙ ap (λ (r : Queue). r.held) kept ∙ h.held;
  notices = λ m. ap (λ (r : Queue). at r.notices m) e ∙ ap (λ (r : Queue). at (without n r.notices) m) kept ∙ unnoticed n c.notices k.queue.notices h.notices m;
  dropped = h.dropped;
  marks = λ m. ap (λ (r : Queue). is_marked r m) e ∙ marks_fit n k.view s t k.queue p (λ j. h.marks j ∙ ap (λ v. differs (at v j) (at s.served j)) (sym h.view)) known marked but m ∙ ap (λ v. differs (at v m) (at t.served m)) h.view;
}

marked_step : (o : Option Bool) (e : Option Entry) (served : Option Serving) → mark_in (mark_where_known (differs e served) o) ≡ true → is_some e ≡ true
marked_step None e served h = absurd (false≢true h)
marked_step (Some b) None served h = absurd (false≢true h)
marked_step (Some b) (Some e) served h = refl

-- what is marked is on the page
pub marked_within : (n : Name) (view : View) (t : Sources) (old new : Queue) → ((m : Name) → is_marked old m ≡ true → is_in view m ≡ true)
    → MarkIs n (mark_where_known (differs (at view n) (at t.served n)) (at old.known n)) old new → (m : Name) → is_marked new m ≡ true → is_in view m ≡ true
marked_within n view t old new within h m k = go (same_name n m) refl (sym (ap mark_in (h m)) ∙ k)
  where
    go : (same : Bool) → same_name n m ≡ same → mark_in (if same then mark_where_known (differs (at view n) (at t.served n)) (at old.known n) else at old.known m) ≡ true → is_in view m ≡ true
    go true e g = ap (is_in view) (sym (same_true n m e)) ∙ marked_step (at old.known n) (at view n) (at t.served n) g
    go false e g = within m g
