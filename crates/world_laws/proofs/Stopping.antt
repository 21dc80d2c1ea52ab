-- A client is stale exactly at the edges at which applied updates stopped, where its page had every
-- import of its modules all along.
use Rattle.std.proofs.Common.{◌≡◌, ◌↔◌, ◌⊎◌, inl, inr, ℕ, ◌≤◌, Bool, true, false, List, [], ◌∷◌, length, refl, ap, sym, ◌∙◌, arith, Contains}
use Rattle.std.specs.Prelude.{◌≢◌, not, ◌&&◌, ◌||◌, Option, Some, None, is_some, option_map, if◌then◌else◌, ⊤}
use Rattle.std.specs.List.{cons_option}
use Prim.{⊥}
use Rattle.std.proofs.Math.Path.{subst}
use Rattle.std.proofs.lemmas.Bool.{false≢true}
use Rattle.std.proofs.lemmas.List.{length-map}
use Rattle.std.proofs.lemmas.Option.{same_Some}
use Rattle.hmr_types.specs.declared.words.PlanKind.{PlanKind}
use Rattle.hmr_types.specs.declared.words.PlanKind.TheVariants.{Load, Reload, Update}
use Rattle.core_model.specs.Names.{Name, same_name, has, at, names_of}
use Rattle.core_model.specs.Sources.{Text}
use Rattle.core_model.specs.View.{View, Entry, is_in, imports, imports_of, accepts, self_accepts, IsDropped}
use Rattle.core_model.specs.Page.{Plan, Page, entry_at, kept_or_staged, unmet_entry, new_view, met_of, plan_imports}
use Rattle.core_model.proofs.Naming.{cases_bool, has_is, same_true, both_true}
use Rattle.core_model.proofs.Planning.{met_is}
use Rattle.core_model.proofs.Reaching.{reaches_on, reaches_start, reaches_within}
use Rattle.core_model.proofs.Tables.{named}
use Rattle.core_model.proofs.Views.{importer_named}
use Rattle.client_model.specs.Language.{Language}
use Rattle.client_model.specs.Instance.{Instance, live_at}
use Rattle.client_model.specs.Runtime.{Runtime}
use Rattle.client_model.specs.Linking.{is_kept_kind, number_after, number_in, links_after, link_to}
use Rattle.client_model.specs.Stale.{live_number, link_of, link_in, is_update, is_updating, StopsAt}
use Rattle.core_laws.specs.Facts.{AreSpread}
use Rattle.world_laws.proofs.Members.{head_in, tail_in}
use Rattle.world_laws.proofs.Frames.{Frame, frame, frames, live_one, Numbered, number_low, made_length, cut_length, found_in, is_of, ended_by}
use Rattle.world_laws.proofs.Ending.{ended_names}
use Rattle.world_laws.proofs.Births.{new_frame, news, olds}
use Rattle.world_laws.proofs.Holding.{Holds, HoldsOf, LeadsTo, live_is, number_at, number_is, one_after, entry_after, ends_kind, new_is}
use Rattle.world_laws.proofs.Messages.{Quiet, Applies}

-- what the modules of a page import is there
abbrev pub IsClosed : View → Type 0
IsClosed view = (b x : Name) → imports view b x ≡ true → is_in view x ≡ true

abbrev link_at : Option Frame → Name → Option ℕ
link_at None x = None
link_at (Some f) x = at f.links x

link_is : (r : Runtime) (b x : Name) → link_of r b x ≡ link_at (live_one (frames r.instances) b) x
link_is r b x = by (live_at r.instances b) ∙ ap (λ o. link_at o x) (sym (live_is r.instances b))
  where
    by : (o : Option Instance) → link_in o x ≡ link_at (option_map frame o) x
    by None = refl
    by (Some i) = refl

pub live_some : (r : Runtime) (n : Name) → is_some (live_number r n) ≡ is_some (live_one (frames r.instances) n)
live_some r n = ap is_some (number_is r.instances n) ∙ by (live_one (frames r.instances) n)
  where
    by : (o : Option Frame) → is_some (number_at o) ≡ is_some o
    by None = refl
    by (Some f) = refl

pub live_in_page : (r : Runtime) → HoldsOf r → (n : Name) → is_in r.page.view n ≡ true → is_some (live_number r n) ≡ true
live_in_page r h n e = live_some r n ∙ h.live n ∙ e

pub importer_in : (view : View) (b x : Name) → imports view b x ≡ true → is_in view b ≡ true
importer_in view b x h = named view b ∙ importer_named view b x h

-- Numbers and links are counted.

number_most : (fs : List Frame) → Numbered fs → (n : Name) (k : ℕ) → number_at (live_one fs n) ≡ Some k → k ≤ length fs
number_most fs d n k e = by (live_one fs n) refl e
  where
    by : (o : Option Frame) → live_one fs n ≡ o → number_at o ≡ Some k → k ≤ length fs
    by None f e = absurd (false≢true (ap is_some e))
    by (Some g) f e = omega (arith, number_low fs d g (found_in (is_of n) fs g f).0, same_Some g.number k e)

pub row_in : (links : List (Name × ℕ)) (x : Name) (k : ℕ) → at links x ≡ Some k → Contains links (x, k)
row_in [] x k e = absurd (false≢true (ap is_some e))
row_in (row ∷ links) x k e = by (same_name row.0 x) refl (row_in links x k) e
  where
    by : (b : Bool) → same_name row.0 x ≡ b → (at links x ≡ Some k → Contains links (x, k)) → (if b then Some row.1 else at links x) ≡ Some k → Contains (row ∷ links) (x, k)
    by true s rest e = subst (λ n. Contains {X = Name × ℕ} (row ∷ links) (n, k)) (same_true row.0 x s) (subst (λ j. Contains {X = Name × ℕ} (row ∷ links) (row.0, j)) (same_Some row.1 k e) (head_in row links))
    by false s rest e = tail_in row links (x, k) (rest e)

link_most : (client : ℕ) (page : Page) (texts : List (Name × Text)) (fs : List Frame) → Holds client page texts fs → (b x : Name) (k : ℕ) → link_at (live_one fs b) x ≡ Some k → k ≤ length fs
link_most client page texts fs h b x k e = by (live_one fs b) refl e
  where
    of_lead : LeadsTo fs x k → k ≤ length fs
    of_lead l = omega (arith, number_low fs h.numbered l.to l.there, l.number)

    by : (o : Option Frame) → live_one fs b ≡ o → link_at o x ≡ Some k → k ≤ length fs
    by None f e = absurd (false≢true (ap is_some e))
    by (Some g) f e = of_lead (h.linked g (found_in (is_of b) fs g f).0 x k (row_in g.links x k e))

-- One message.

-- what is stale where past stops are these
pub record Stales (r : Runtime) (Past : ℕ → Name → Name → Type 0) : Type 0 where
  pub below : (k : ℕ) (b x : Name) → Past k b x → k ≤ length (frames r.instances)
  pub exact : (k : ℕ) (b x : Name) → imports r.page.view b x ≡ true → live_number r b ≡ Some k → (link_of r b x ≢ live_number r x) ↔ Past k b x

abbrev pub Next : Runtime → Runtime → (ℕ → Name → Name → Type 0) → ℕ → Name → Name → Type 0
Next r s Past k b x = StopsAt r s k b x ⊎ Past k b x

-- Without a plan that is applied.

module _ (r s : Runtime) (Past : ℕ → Name → Name → Type 0) (q : Quiet r.page.view s.page.view (frames r.instances) (frames s.instances)) (t : Stales r Past) (h : HoldsOf s) (closed : IsClosed s.page.view) where
  same_number : (n : Name) → (live_one (frames s.instances) n ≡ None) ⊎ (live_one (frames s.instances) n ≡ live_one (frames r.instances) n) → is_some (live_number s n) ≡ true → live_one (frames s.instances) n ≡ live_one (frames r.instances) n
  same_number n (inl e) l = absurd (false≢true (sym (ap is_some e) ∙ sym (live_some s n) ∙ l))
  same_number n (inr e) l = e

  kept_number : (n : Name) → is_some (live_number s n) ≡ true → live_number s n ≡ live_number r n
  kept_number n l = number_is s.instances n ∙ ap number_at (same_number n (q.lives n) l) ∙ sym (number_is r.instances n)

  pub no_stop : (k : ℕ) (b x : Name) → StopsAt r s k b x → ⊥
  no_stop k b x a = a.renewed (sym (kept_number x a.new))

  only_past : (k : ℕ) (b x : Name) → Next r s Past k b x → Past k b x
  only_past k b x (inl a) = absurd (no_stop k b x a)
  only_past k b x (inr p) = p

  old_import : (b x : Name) → (at s.page.view b ≡ None) ⊎ (at s.page.view b ≡ at r.page.view b) → imports s.page.view b x ≡ true → imports r.page.view b x ≡ true
  old_import b x (inl e) i = absurd (false≢true (ap (λ o. has (imports_of o) x) (sym e) ∙ i))
  old_import b x (inr e) i = ap (λ o. has (imports_of o) x) (sym e) ∙ i

  pub quiet_stales : Stales s (Next r s Past)
  quiet_stales = record {
    below = λ k b x n. omega (arith, t.below k b x (only_past k b x n), q.made);
    exact = λ k b x i l.
        let live_b : is_some (live_number s b) ≡ true = ap is_some l in
        let link : link_of s b x ≡ link_of r b x = link_is s b x ∙ ap (λ o. link_at o x) (same_number b (q.lives b) live_b) ∙ sym (link_is r b x) in
        let number : live_number s x ≡ live_number r x = kept_number x (live_in_page s h x (closed b x i)) in
        let e = t.exact k b x (old_import b x (q.entries b) i) (sym (kept_number b live_b) ∙ l) in
        ((λ d. inr (e.0 (λ f. d (link ∙ f ∙ sym number)))), (λ n f. e.1 (only_past k b x n) (sym link ∙ f ∙ number)));
  }

-- an update replaces all that a change passes on to
abbrev pub KindSpread : PlanKind → View → List Name → List Name → Type 0
KindSpread Load view forced replaced = ⊤
KindSpread Reload view forced replaced = ⊤
KindSpread Update view forced replaced = AreSpread view forced replaced

abbrev pub PlanSpread : Option Plan → View → List Name → Type 0
PlanSpread None view forced = ⊤
PlanSpread (Some p) view forced = KindSpread p.kind view forced p.replaced

-- what the server keeps true of a page
pub record IsSane (page : Page) : Type 0 where
  pub closed : IsClosed page.view
  pub spread : PlanSpread page.plan page.view page.forced

spread_of : (kind : PlanKind) (view : View) (forced replaced : List Name) → kind ≡ Update → KindSpread kind view forced replaced → AreSpread view forced replaced
spread_of Load view forced replaced e h = absurd (false≢true (ap is_update e))
spread_of Reload view forced replaced e h = absurd (false≢true (ap is_update e))
spread_of Update view forced replaced e h = h

not_replaced : (kind : PlanKind) (replaced met : Bool) (old : Option Entry) → kind ≡ Update → (not (is_kept_kind kind replaced old) && met) ≡ false → met ≡ true → replaced ≡ false
not_replaced Load replaced met old u e m = absurd (false≢true (ap is_update u))
not_replaced Reload replaced met old u e m = absurd (false≢true (ap is_update u))
not_replaced Update true met old u e m = absurd (false≢true (sym e ∙ m))
not_replaced Update false met old u e m = refl

new_replaced : (kind : PlanKind) (replaced met : Bool) (old : Option Entry) → kind ≡ Update → (not (is_kept_kind kind replaced old) && met) ≡ true → is_some old ≡ true → replaced ≡ true
new_replaced Load replaced met old u e o = absurd (false≢true (ap is_update u))
new_replaced Reload replaced met old u e o = absurd (false≢true (ap is_update u))
new_replaced Update true met old u e o = refl
new_replaced Update false met None u e o = absurd (false≢true o)
new_replaced Update false met (Some x) u e o = absurd (false≢true e)

accepted_from : (a b c d : Bool) → a ≡ true → ((a && not b && (not c || d)) ≡ true → ⊥) → (b ≡ true) ⊎ ((c ≡ true) × (d ≡ false))
accepted_from true true c d e f = inl refl
accepted_from true false true true e f = absurd (f refl)
accepted_from true false true false e f = inr (refl, refl)
accepted_from true false false d e f = absurd (f refl)
accepted_from false b c d e f = absurd (false≢true e)

-- With one.

stays_so : (kind : PlanKind) (met replaced : Bool) (old staged : Option Entry) (one : Option Frame) → (not (is_kept_kind kind replaced old) && met) ≡ false → is_some (if met then kept_or_staged kind replaced old staged else unmet_entry kind old) ≡ true
    → (kind ≡ Update) × ((if met then kept_or_staged kind replaced old staged else unmet_entry kind old) ≡ old) × ((if ends_kind kind replaced (not (is_kept_kind kind replaced old) && met) then None else one) ≡ one)
stays_so Load true replaced old staged one e h = absurd (false≢true (sym e))
stays_so Load false replaced old staged one e h = absurd (false≢true h)
stays_so Reload true replaced old staged one e h = absurd (false≢true (sym e))
stays_so Reload false replaced old staged one e h = absurd (false≢true h)
stays_so Update true true old staged one e h = absurd (false≢true (sym e))
stays_so Update false true old staged one e h = (refl, refl, refl)
stays_so Update true false None staged one e h = absurd (false≢true (sym e))
stays_so Update false false None staged one e h = (refl, refl, refl)
stays_so Update true false (Some o) staged one e h = (refl, refl, refl)
stays_so Update false false (Some o) staged one e h = (refl, refl, refl)

-- a name without a number is linked to nothing
missing_row : (p : Plan) (r : Runtime) (names : List Name) (x : Name) → number_after p r x ≡ None → at (links_after p r names) x ≡ None
missing_row p r [] x e = refl
missing_row p r (m ∷ names) x e = by (same_name m x) refl (number_after p r m) refl (missing_row p r names x e)
  where
    by : (b : Bool) → same_name m x ≡ b → (o : Option ℕ) → number_after p r m ≡ o → at (links_after p r names) x ≡ None → at (cons_option (link_to m o) (links_after p r names)) x ≡ None
    by b s None f rest = rest
    by true s (Some k) f rest = absurd (false≢true (ap is_some (sym e ∙ ap (number_after p r) (sym (same_true m x s)) ∙ f)))
    by false s (Some k) f rest = ap (λ b. if b then Some k else at (links_after p r names) x) s ∙ rest

links_at : (p : Plan) (r : Runtime) (names : List Name) (x : Name) → has names x ≡ true → at (links_after p r names) x ≡ number_after p r x
links_at p r [] x h = absurd (false≢true h)
links_at p r (m ∷ names) x h = by (same_name m x) refl (number_after p r m) refl (links_at p r names x) h
  where
    by : (b : Bool) → same_name m x ≡ b → (o : Option ℕ) → number_after p r m ≡ o → (has names x ≡ true → at (links_after p r names) x ≡ number_after p r x) → (b || has names x) ≡ true → at (cons_option (link_to m o) (links_after p r names)) x ≡ number_after p r x
    by true s None e rest h = missing_row p r names x (ap (number_after p r) (sym (same_true m x s)) ∙ e) ∙ sym (ap (number_after p r) (sym (same_true m x s)) ∙ e)
    by true s (Some k) e rest h = ap (λ b. if b then Some k else at (links_after p r names) x) s ∙ sym e ∙ ap (number_after p r) (same_true m x s)
    by false s None e rest h = rest h
    by false s (Some k) e rest h = ap (λ b. if b then Some k else at (links_after p r names) x) s ∙ rest h

module _ {language : Language} (r s : Runtime) (Past : ℕ → Name → Name → Type 0) (a : Applies language r s.page (frames s.instances)) (t : Stales r Past) (old : HoldsOf r) (h : HoldsOf s) (was_closed : IsClosed r.page.view) (closed : IsClosed s.page.view) where
  abbrev p : Plan
  p = a.plan

  abbrev view : View
  view = new_view r.roots p r.page.view

  abbrev is_new : Name → Bool
  is_new n = not (is_kept_kind p.kind (has p.replaced n) (at r.page.view n)) && has (met_of r.roots p r.page.view) n

  view_is : s.page.view ≡ view
  view_is = ap (λ (page : Page). page.view) a.page_is

  one_now : (n : Name) → live_one (frames s.instances) n ≡ (if is_new n then Some (new_frame p r n) else (if ends_kind p.kind (has p.replaced n) (is_new n) then None else live_one (frames r.instances) n))
  one_now n = ap (λ fs. live_one fs n) a.frames_are ∙ one_after p r a.plan_is a.needed old n

  entry_now : (n : Name) → at s.page.view n ≡ (if has (met_of r.roots p r.page.view) n then kept_or_staged p.kind (has p.replaced n) (at r.page.view n) (at p.staged n) else unmet_entry p.kind (at r.page.view n))
  entry_now n = ap (λ v. at v n) view_is ∙ entry_after p r a.plan_is a.needed old n

  -- what isn't new stays as it was
  stayed : (n : Name) → is_new n ≡ false → is_in s.page.view n ≡ true → (p.kind ≡ Update) × (at s.page.view n ≡ at r.page.view n) × (live_one (frames s.instances) n ≡ live_one (frames r.instances) n)
  stayed n e i =
      let k = stays_so p.kind (has (met_of r.roots p r.page.view) n) (has p.replaced n) (at r.page.view n) (at p.staged n) (live_one (frames r.instances) n) e (sym (ap is_some (entry_now n)) ∙ i) in
      (k.0, entry_now n ∙ k.1, one_now n ∙ ap (λ b. if b then Some (new_frame p r n) else (if ends_kind p.kind (has p.replaced n) (is_new n) then None else live_one (frames r.instances) n)) e ∙ k.2)

  renewed_one : (n : Name) → is_new n ≡ true → live_one (frames s.instances) n ≡ Some (new_frame p r n)
  renewed_one n e = one_now n ∙ ap (λ b. if b then Some (new_frame p r n) else (if ends_kind p.kind (has p.replaced n) (is_new n) then None else live_one (frames r.instances) n)) e

  new_number : (n : Name) → is_new n ≡ true → live_number s n ≡ Some (new_frame p r n).number
  new_number n e = number_is s.instances n ∙ ap number_at (renewed_one n e)

  stayed_number : (n : Name) → is_new n ≡ false → is_in s.page.view n ≡ true → live_number s n ≡ live_number r n
  stayed_number n e i = number_is s.instances n ∙ ap number_at (stayed n e i).2 ∙ sym (number_is r.instances n)

  stayed_link : (b x : Name) → is_new b ≡ false → is_in s.page.view b ≡ true → link_of s b x ≡ link_of r b x
  stayed_link b x e i = link_is s b x ∙ ap (λ o. link_at o x) (stayed b e i).2 ∙ sym (link_is r b x)

  old_count : length (frames r.instances) ≡ length r.instances
  old_count = length-map r.instances frame

  more : length (frames r.instances) ≤ length (frames s.instances)
  more = omega (arith, ap length a.frames_are, made_length (news p r) (olds p r), cut_length (ended_by (ended_names p.kind p r) (frames r.instances)) (frames r.instances))

  live_most : (n : Name) (k : ℕ) → live_number r n ≡ Some k → k ≤ length (frames r.instances)
  live_most n k e = number_most (frames r.instances) old.numbered n k (sym (number_is r.instances n) ∙ e)

  below_next : (k : ℕ) (b x : Name) → Next r s Past k b x → k ≤ length (frames r.instances)
  below_next k b x (inl e) = live_most b k e.was
  below_next k b x (inr e) = t.below k b x e

  -- the number that a new instance is linked to is the live one
  number_now : (x : Name) → is_in s.page.view x ≡ true → (is_new x ≡ true) ⊎ (is_new x ≡ false) → number_after p r x ≡ live_number s x
  number_now x i (inl e) = ap (λ b. if b then Some (new_frame p r x).number else number_in (live_at r.instances x)) (new_is p r x ∙ e) ∙ sym (new_number x e)
  number_now x i (inr e) = ap (λ b. if b then Some (new_frame p r x).number else number_in (live_at r.instances x)) (new_is p r x ∙ e) ∙ sym (stayed_number x e i)

  -- an instance that is made isn't stale
  new_exact : (k : ℕ) (b x : Name) → imports s.page.view b x ≡ true → live_number s b ≡ Some k → is_new b ≡ true → (link_of s b x ≢ live_number s x) ↔ Next r s Past k b x
  new_exact k b x i l e =
      let entry : at s.page.view b ≡ entry_at p r.page.view b = entry_now b ∙ ap (λ c. if c then entry_at p r.page.view b else unmet_entry p.kind (at r.page.view b)) (both_true (not (is_kept_kind p.kind (has p.replaced b) (at r.page.view b))) (has (met_of r.roots p r.page.view) b) e).1 in
      let link : link_of s b x ≡ live_number s x = link_is s b x ∙ ap (λ o. link_at o x) (renewed_one b e) ∙ links_at p r (imports_of (entry_at p r.page.view b)) x (ap (λ o. has (imports_of o) x) (sym entry) ∙ i) ∙ number_now x (closed b x i) (cases_bool (is_new x)) in
      ((λ d. absurd (d link)), (λ n f. omega (arith, below_next k b x n, old_count, same_Some (new_frame p r b).number k (sym (new_number b e) ∙ l))))

  -- one that stays is stale at what is made
  stop_exact : (k : ℕ) (b x : Name) → imports s.page.view b x ≡ true → live_number s b ≡ Some k → is_new b ≡ false → is_new x ≡ true → (link_of s b x ≢ live_number s x) ↔ Next r s Past k b x
  stop_exact k b x i l e f =
      let in_b : is_in s.page.view b ≡ true = importer_in s.page.view b x i in
      let st = stayed b e in_b in
      let old_import : imports r.page.view b x ≡ true = ap (λ o. has (imports_of o) x) (sym st.1) ∙ i in
      let was : live_number r b ≡ Some k = sym (stayed_number b e in_b) ∙ l in (
        (λ d. inl (record {
          updating = ap is_updating a.plan_is ∙ ap is_update st.0;
          importing = old_import;
          was = was;
          is = l;
          old = live_in_page r old x (was_closed b x old_import);
          new = live_in_page s h x (closed b x i);
          renewed = λ g. not_new x (live_number r x) refl (g ∙ new_number x f);
        })),
        (λ n g. link_old (link_of r b x) refl (sym (stayed_link b x e in_b) ∙ g ∙ new_number x f)),
      )
    where
      not_new : (n : Name) (o : Option ℕ) → live_number r n ≡ o → live_number r n ≡ Some (new_frame p r x).number → ⊥
      not_new n o g e = omega (arith, live_most n (new_frame p r x).number e, old_count)

      link_old : (o : Option ℕ) → link_of r b x ≡ o → link_of r b x ≡ Some (new_frame p r x).number → ⊥
      link_old o g e = omega (arith, link_most r.client r.page r.texts (frames r.instances) old b x (new_frame p r x).number (sym (link_is r b x) ∙ e), old_count)

  -- where both stay, nothing changes
  both_exact : (k : ℕ) (b x : Name) → imports s.page.view b x ≡ true → live_number s b ≡ Some k → is_new b ≡ false → is_new x ≡ false → (link_of s b x ≢ live_number s x) ↔ Next r s Past k b x
  both_exact k b x i l e f =
      let in_b : is_in s.page.view b ≡ true = importer_in s.page.view b x i in
      let link : link_of s b x ≡ link_of r b x = stayed_link b x e in_b in
      let number : live_number s x ≡ live_number r x = stayed_number x f (closed b x i) in
      let g = t.exact k b x (ap (λ o. has (imports_of o) x) (sym (stayed b e in_b).1) ∙ i) (sym (stayed_number b e in_b) ∙ l) in
      ((λ d. inr (g.0 (λ z. d (link ∙ z ∙ sym number)))), (λ n z. back number n (g.1) (sym link ∙ z ∙ number)))
    where
      back : live_number s x ≡ live_number r x → Next r s Past k b x → (Past k b x → link_of r b x ≢ live_number r x) → link_of r b x ≡ live_number r x → ⊥
      back number (inl c) m z = c.renewed (sym number)
      back number (inr c) m z = m c z

  exact_by : (k : ℕ) (b x : Name) → imports s.page.view b x ≡ true → live_number s b ≡ Some k → (is_new b ≡ true) ⊎ (is_new b ≡ false) → (is_new x ≡ true) ⊎ (is_new x ≡ false) → (link_of s b x ≢ live_number s x) ↔ Next r s Past k b x
  exact_by k b x i l (inl e) f = new_exact k b x i l e
  exact_by k b x i l (inr e) (inl f) = stop_exact k b x i l e f
  exact_by k b x i l (inr e) (inr f) = both_exact k b x i l e f

  pub applied_stales : Stales s (Next r s Past)
  applied_stales = record {
    below = λ k b x n. omega (arith, below_next k b x n, more);
    exact = λ k b x i l. exact_by k b x i l (cases_bool (is_new b)) (cases_bool (is_new x));
  }

  -- Why it stopped.

  in_page : (n : Name) → is_some (live_number s n) ≡ true → is_in s.page.view n ≡ true
  in_page n l = sym (h.live n) ∙ sym (live_some s n) ∙ l

  not_made : (k : ℕ) (b x : Name) → StopsAt r s k b x → (is_new b ≡ true) ⊎ (is_new b ≡ false) → is_new b ≡ false
  not_made k b x st (inl e) = absurd (omega (arith, live_most b k st.was, same_Some (new_frame p r b).number k (sym (new_number b e) ∙ st.is), old_count))
  not_made k b x st (inr e) = e

  is_made : (k : ℕ) (b x : Name) → StopsAt r s k b x → (is_new x ≡ true) ⊎ (is_new x ≡ false) → is_new x ≡ true
  is_made k b x st (inl e) = e
  is_made k b x st (inr e) = absurd (st.renewed (sym (stayed_number x e (in_page x st.new))))

  pub applied_accepts : KindSpread p.kind r.page.view r.page.forced p.replaced → (k : ℕ) (b x : Name) → StopsAt r s k b x → has (met_of r.roots p r.page.view) b ≡ true → (accepts r.page.view b x ≡ true) ⊎ ((self_accepts r.page.view x ≡ true) × (has r.page.forced x ≡ false))
  applied_accepts spread k b x st met =
      let b_old : is_new b ≡ false = not_made k b x st (cases_bool (is_new b)) in
      let x_new : is_new x ≡ true = is_made k b x st (cases_bool (is_new x)) in
      let update : p.kind ≡ Update = (stayed b b_old (in_page b (ap is_some st.is))).0 in
      let kept : has p.replaced b ≡ false = not_replaced p.kind (has p.replaced b) (has (met_of r.roots p r.page.view) b) (at r.page.view b) update b_old met in
      let replaced : has p.replaced x ≡ true = new_replaced p.kind (has p.replaced x) (has (met_of r.roots p r.page.view) x) (at r.page.view x) update x_new (sym (old.live x) ∙ sym (live_some r x) ∙ st.old) in
      accepted_from (imports r.page.view b x) (accepts r.page.view b x) (self_accepts r.page.view x) (has r.page.forced x) st.importing
      (λ f. false≢true (sym kept ∙ spread_of p.kind r.page.view r.page.forced p.replaced update spread x b (inl replaced) f))

  met_on : (n m : Name) → has (met_of r.roots p r.page.view) n ≡ true → imports s.page.view n m ≡ true → has (met_of r.roots p r.page.view) m ≡ true
  met_on n m e i = (met_is r.roots p r.page.view m).1 (reaches_on (plan_imports p r.page.view) r.roots n m ((met_is r.roots p r.page.view n).0 e)
      (ap (λ o. has (imports_of o) m) (sym (entry_now n ∙ ap (λ c. if c then entry_at p r.page.view n else unmet_entry p.kind (at r.page.view n)) e)) ∙ i))

  -- what the walk didn't meet no root reaches
  pub unmet_dropped : (b : Name) → is_in s.page.view b ≡ true → has (met_of r.roots p r.page.view) b ≡ false → IsDropped s.page.view r.roots b
  unmet_dropped b i e = record {
    listed = (has_is (names_of s.page.view) b).1 (sym (named s.page.view b) ∙ i);
    unreached = λ reached. false≢true (sym e ∙ reaches_within (imports s.page.view) r.roots (λ n. has (met_of r.roots p r.page.view) n ≡ true)
        (λ n c. (met_is r.roots p r.page.view n).1 (reaches_start (plan_imports p r.page.view) r.roots n c)) met_on b reached);
  }
