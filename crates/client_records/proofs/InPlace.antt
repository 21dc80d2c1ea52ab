-- What an update makes of a record whose page gets its new entries in place.
use Rattle.std.proofs.Common.{◌≡◌, ℕ, Bool, true, false, List, [], ◌∷◌, refl, ap, sym, ◌∙◌}
use Rattle.std.specs.Prelude.{◌&&◌, Option, Some, None, is_some, if◌then◌else◌}
use Rattle.std.specs.Cmp.Lexicographic.{slice_cmp}
use Rattle.std.specs.List.Sorted.{IsStrictlySortedBy}
use Rattle.std.specs.Ordering.{nat_cmp}
use Rattle.std.proofs.lemmas.Bool.{false≢true}
use Rattle.std.proofs.Math.Path.{subst}
use Rattle.core_model.specs.Names.{Name, has, at, names_of}
use Rattle.core_model.specs.Client.{Client}
use Rattle.core_model.specs.Page.{Plan, new_view}
use Rattle.core_model.specs.Sources.{Sources}
use Rattle.core_model.specs.Spread.{AreIn}
use Rattle.core_model.specs.View.{View, Entry, differs, dropped_of, is_in, table_of}
use Rattle.core_model.proofs.Listing.{none_in}
use Rattle.core_model.proofs.Naming.{both_true}
use Rattle.page_plan.specs.Renewals.{AreAlike, AreThere, IsClosed, fetched_of, is_growing, put_all, renewed_view, with_first}
use Rattle.page_plan.proofs.Growing.{IsFound, growing_is, growth_found, rows_alike, rows_there}
use Rattle.page_plan.proofs.Placing.{first_put}
use Rattle.page_plan.proofs.Renewals.{dropped_renewed, growth_fits, kept_at, renewed_closed, renewed_is_in, renewed_names, view_is}
use Rattle.client_queue.specs.Queue.{Queue, is_marked, is_none_left, knows, mark_in, mark_where_known}
use Rattle.page_marks.specs.Marks.{AreRenewed, mark_on}
use Rattle.page_marks.proofs.Renewing.{known_step, on_step}
use Rattle.client_records.specs.InPlace.{IsFitting, IsInPlace}
use Rattle.client_records.specs.Inside.{AreCounted, IsStaged}
use Rattle.client_records.specs.Made.{HasMade}
use Rattle.client_records.specs.Record.{IsRecord, Kept}
use Rattle.client_records.proofs.Applying.{made_counted}

-- where no name is forced
pub none_in_queue : (view : View) (q : Queue) → q.forced ≡ [] → AreIn q.forced view
none_in_queue view q e = subst (λ l. AreIn l view) (sym e) (λ n i. none_in n i)

pub no_names : (names : List Name) → is_none_left names ≡ true → names ≡ []
no_names [] h = refl
no_names (n ∷ names) h = absurd (false≢true h)

-- an update whose page gets its entries in place, by what the code has tested
abbrev pub in_place : (k : Kept) (names : List Name) (rows : List (Name × Entry)) (p : Plan) → (k.loaded && is_none_left k.dropped) ≡ true → k.dropped ≡ dropped_of k.view k.roots → k.plan ≡ Some p → is_growing p k.view ≡ true → names ≡ p.replaced → rows ≡ fetched_of p names → IsInPlace k names rows
in_place k names rows p whole dropped under_way growing replaced fetched =
    let both = both_true k.loaded (is_none_left k.dropped) whole in
    let none : k.dropped ≡ [] = no_names k.dropped both.1 in
    let is : rows ≡ fetched_of p p.replaced = fetched ∙ ap (fetched_of p) replaced in
    record {
      loaded = both.0;
      whole = none;
      plan = p;
      under_way = under_way;
      growth = growing_is p k.view growing k.roots (sym dropped ∙ none);
      there = subst (AreThere k.view) (sym is) (rows_there p k.view growing);
      alike = subst (λ l. AreAlike (with_first l k.view) l) (sym is) (rows_alike p k.view growing);
      replaced = replaced;
      fetched = is;
    }

module _ (k : Kept) (names : List Name) (rows : List (Name × Entry)) (w : IsInPlace k names rows) where
  found : IsFound w.plan k.view
  found = growth_found k.roots w.plan k.view w.growth

  -- the page is that of the plan
  pub put_is : put_all rows k.view ≡ renewed_view w.plan k.view
  put_is = ap (λ l. put_all l k.view) w.fetched

  -- once the first that lists others is put, each lists what its module does, and the view is the same
  pub first_alike : (l : List (Name × Entry)) (first : View) → l ≡ rows → first ≡ with_first l k.view → AreAlike first rows
  first_alike l first e f = subst (λ (v : View). AreAlike v rows) (sym (f ∙ ap (λ x. with_first x k.view) e)) w.alike

  pub first_same : (l : List (Name × Entry)) (first placed : View) → l ≡ rows → first ≡ with_first l k.view → placed ≡ put_all rows first → placed ≡ put_all rows k.view
  first_same l first placed e f is = is ∙ ap (put_all rows) (f ∙ ap (λ x. with_first x k.view) e) ∙ first_put rows k.view w.there

  pub same_names : names_of (put_all rows k.view) ≡ names_of k.view
  same_names = ap (λ (v : View). names_of v) put_is ∙ renewed_names w.plan k.view found

  there_is : (n : Name) → is_in (put_all rows k.view) n ≡ is_in k.view n
  there_is n = ap (λ (v : View). is_in v n) put_is ∙ renewed_is_in w.plan k.view found n

  named_there : (n : Name) → has names n ≡ true → is_in k.view n ≡ true
  named_there n h = found.there n (ap (λ l. has l n) (sym w.replaced) ∙ h)

  other_at : (n : Name) → has names n ≡ false → at (put_all rows k.view) n ≡ at k.view n
  other_at n h = ap (λ (v : View). at v n) put_is ∙ kept_at w.plan k.view found n (ap (λ l. has l n) (sym w.replaced) ∙ h)

  pub same_dropped : dropped_of (put_all rows k.view) k.roots ≡ dropped_of k.view k.roots
  same_dropped = ap (λ (v : View). dropped_of v k.roots) put_is ∙ dropped_renewed k.roots w.plan k.view w.growth

  -- what holds of the page as it was
  module _ (rising : IsStrictlySortedBy (slice_cmp nat_cmp) (names_of k.view)) (closed : k.loaded ≡ true → IsClosed k.roots k.view) (dropped : k.dropped ≡ dropped_of k.view k.roots) where
    none_dropped : dropped_of k.view k.roots ≡ []
    none_dropped = sym dropped ∙ w.whole

    pub made_is : put_all rows k.view ≡ new_view k.roots w.plan k.view
    made_is = put_is ∙ sym (view_is k.roots w.plan k.view w.growth (closed w.loaded) rising none_dropped)

    -- all fits where the table told is its
    pub fits_in_place : (told : List (Name × ℕ)) → told ≡ table_of (renewed_view w.plan k.view) → IsFitting k told (put_all rows k.view)
    fits_in_place told e = record {
      plan = w.plan;
      under_way = w.under_way;
      done = record { row = growth_fits k.roots w.plan k.view told w.growth (closed w.loaded) rising none_dropped e; whole = made_is };
    }

    pub rising_in_place : IsStrictlySortedBy (slice_cmp nat_cmp) (names_of (put_all rows k.view))
    rising_in_place = subst (IsStrictlySortedBy (slice_cmp nat_cmp)) (sym same_names) rising

    pub counted_in_place : AreCounted k.view → IsStaged k.plan → AreCounted (put_all rows k.view)
    counted_in_place counted staged = made_counted k.roots w.plan k.view (put_all rows k.view) made_is counted (subst IsStaged w.under_way staged)

    pub closed_in_place : IsClosed k.roots (put_all rows k.view)
    closed_in_place = subst (IsClosed k.roots) (sym put_is) (renewed_closed k.roots w.plan k.view w.growth (closed w.loaded))

    pub dropped_in_place : k.dropped ≡ dropped_of (put_all rows k.view) k.roots
    dropped_in_place = dropped ∙ sym same_dropped

  -- the marks, once those of the replaced modules are renewed
  module _ (s : Sources) (q : Queue) (f : AreRenewed names (put_all rows k.view) s k.queue q) (known : (n : Name) → is_in k.view n ≡ true → knows k.queue n ≡ true) where
    mark_by : (c : Client) → IsRecord s c k → (n : Name) (b : Bool) → has names n ≡ b → mark_in (if b then mark_on (put_all rows k.view) s n (at k.queue.known n) else at k.queue.known n) ≡ differs (at (put_all rows k.view) n) (at s.served n)
    mark_by c h n true e = on_step (at k.queue.known n) (at (put_all rows k.view) n) (at s.served n) (known n (named_there n e))
    mark_by c h n false e = h.marks n ∙ ap (λ (v : View). differs (at v n) (at s.served n)) (sym h.view) ∙ ap (λ o. differs o (at s.served n)) (sym (other_at n e))

    pub marks_in_place : (c : Client) → IsRecord s c k → (n : Name) → is_marked q n ≡ differs (at (put_all rows k.view) n) (at s.served n)
    marks_in_place c h n = ap mark_in (f.known n) ∙ mark_by c h n (has names n) refl

    known_by : (n : Name) (b : Bool) → is_in (put_all rows k.view) n ≡ true → knows k.queue n ≡ true → is_some (if b then mark_on (put_all rows k.view) s n (at k.queue.known n) else at k.queue.known n) ≡ true
    known_by n true there old = known_step (at k.queue.known n) (is_in (put_all rows k.view) n) (differs (at (put_all rows k.view) n) (at s.served n)) old there
    known_by n false there old = old

    pub known_in_place : (n : Name) → is_in (put_all rows k.view) n ≡ true → knows q n ≡ true
    known_in_place n h = ap is_some (f.known n) ∙ known_by n (has names n) h (known n (sym (there_is n) ∙ h))

    there_step : (there : Bool) (o : Option Bool) → mark_in (if there then o else None) ≡ true → there ≡ true
    there_step true o h = refl
    there_step false o h = h

    marked_by : (n : Name) (b : Bool) → (is_marked k.queue n ≡ true → is_in k.view n ≡ true) → mark_in (if b then mark_on (put_all rows k.view) s n (at k.queue.known n) else at k.queue.known n) ≡ true → is_in (put_all rows k.view) n ≡ true
    marked_by n true g h = there_step (is_in (put_all rows k.view) n) (mark_where_known (differs (at (put_all rows k.view) n) (at s.served n)) (at k.queue.known n)) h
    marked_by n false g h = there_is n ∙ g h

    pub marked_in_place : ((n : Name) → is_marked k.queue n ≡ true → is_in k.view n ≡ true) → (n : Name) → is_marked q n ≡ true → is_in (put_all rows k.view) n ≡ true
    marked_in_place g n h = marked_by n (has names n) (g n) (sym (ap mark_in (f.known n)) ∙ h)

    -- the page has the modules, once no name is forced and the hold is released
    module _ (unforced released : Queue) (u : unforced ≡ record q { forced = [] }) (r : released ≡ record unforced { held = None }) where
      pub queue_is : released ≡ record k.queue { known = q.known; forced = []; held = None }
      queue_is = r ∙ ap (λ (p : Queue). record p { held = None }) u ∙ ap (λ (p : Queue). record p { forced = []; held = None }) f.kept

      pub has_made : (c : Client) → IsRecord s c k → k.dropped ≡ dropped_of k.view k.roots → HasMade s (put_all rows k.view) k (record k { view = put_all rows k.view; queue = released; plan = None })
      has_made c h dropped = record {
        kept = ap (λ b. record k { loaded = b; view = put_all rows k.view; queue = released; plan = None }) w.loaded
            ∙ ap (λ l. record k { loaded = true; view = put_all rows k.view; queue = released; plan = None; dropped = l }) (dropped ∙ sym same_dropped);
        queue = queue_is ∙ ap (λ l. record k.queue { known = l; forced = []; held = None }) (sym (ap (λ (p : Queue). p.known) queue_is));
        marks = λ n. ap (λ (p : Queue). is_marked p n) queue_is ∙ marks_in_place c h n;
      }
