-- Every message that a client takes keeps the numbers of its instances, at most one live instance a name,
-- a live one for each module of the page alone, and links to instances of the imported names.
use Rattle.std.proofs.Common.{◌≡◌, ◌⊎◌, inl, inr, ℕ, ◌≤◌, Bool, true, false, List, [], ◌∷◌, refl, ap, sym, ◌∙◌, arith, Contains}
use Rattle.std.specs.Prelude.{filter, cond, not, ◌&&◌, ◌==◌, Option, Some, None, is_some, is_none, option_map, if◌then◌else◌, ⊤}
use Rattle.std.specs.List.{cons_option}
use Rattle.std.proofs.Math.Path.{subst}
use Rattle.std.proofs.lemmas.Bool.{false≢true}
use Rattle.std.proofs.lemmas.Option.{same_Some}
use Rattle.hmr_types.specs.declared.words.PlanKind.{PlanKind}
use Rattle.hmr_types.specs.declared.words.PlanKind.TheVariants.{Load, Reload, Update}
use Rattle.core_model.specs.Names.{Name, same_name, has, at}
use Rattle.core_model.specs.Sources.{Text}
use Rattle.core_model.specs.View.{View, Entry, is_in, imports_of}
use Rattle.core_model.specs.Page.{Plan, Page, entry_at, applied, kept_or_staged, unmet_entry, new_entry, new_view, met_of}
use Rattle.core_model.proofs.Naming.{filtered_from, filtered_in, filtered_has, same_true, same_test, none_first, true_from, both_true}
use Rattle.core_model.proofs.Planning.{met_is, at_new}
use Rattle.client_model.specs.Instance.{Instance, live_at}
use Rattle.client_model.specs.Runtime.{Runtime}
use Rattle.client_model.specs.Order.{fetch_order, evaluation_order}
use Rattle.client_model.specs.Linking.{is_kept_kind, is_kept, next_needed, new_names, number_after, number_in, links_after, link_to}
use Rattle.client_model.proofs.Walking.{walk_is, orders_agree}
use Rattle.world_laws.specs.KeptClient.{KindFits}
use Rattle.world_laws.proofs.Members.{in_cases, none_in, map_in, MadeOf, map_from}
use Rattle.world_laws.proofs.Frames.{Frame, frame, frames, dead, is_of, cut, ended_by, made_on, live_one, live_count, live_cut, none_counted, cut_count, made_count, old_in, new_in, made_cases, Numbered, found_in}
use Rattle.world_laws.proofs.Births.{new_frame, Ready, news, olds, frames_after, news_names, news_once, numbered_after, live_after, new_there}
use Rattle.world_laws.proofs.Ending.{ended_names}

-- an instance of this number was made of this name
pub record LeadsTo (fs : List Frame) (x : Name) (k : ℕ) : Type 0 where
  pub to : Frame
  pub there : Contains fs to
  pub number : to.number ≡ k
  pub name : to.name ≡ x

-- what the plan staged has its text
abbrev pub PlanFits : Option Plan → Bool → List (Name × Text) → Type 0
PlanFits None loaded texts = ⊤
PlanFits (Some p) loaded texts = KindFits p.kind loaded × ((n : Name) → is_some (at p.staged n) ≡ true → is_some (at texts n) ≡ true)

pub record Holds (client : ℕ) (page : Page) (texts : List (Name × Text)) (fs : List Frame) : Type 0 where
  pub numbered : Numbered fs
  pub one : (n : Name) → live_count fs n ≤ 1
  pub live : (n : Name) → is_some (live_one fs n) ≡ is_in page.view n
  pub linked : (f : Frame) → Contains fs f → (x : Name) (k : ℕ) → Contains f.links (x, k) → LeadsTo fs x k
  pub planned : PlanFits page.plan page.loaded texts
  pub empty : page.loaded ≡ false → page.view ≡ []
  pub talks : page.loaded ≡ true → (client == 0) ≡ false

abbrev pub HoldsOf : Runtime → Type 0
HoldsOf r = Holds r.client r.page r.texts (frames r.instances)

-- What leads somewhere, leads there later.

pub lead_cut : (ends : ℕ → Bool) (fs : List Frame) (x : Name) (k : ℕ) → LeadsTo fs x k → LeadsTo (cut ends fs) x k
lead_cut ends fs x k l = record { to = if ends l.to.number then dead l.to else l.to; there = map_in (λ f. if ends f.number then dead f else f) fs l.to l.there; number = same_number (ends l.to.number) ∙ l.number; name = same_names (ends l.to.number) ∙ l.name }
  where
    same_number : (b : Bool) → (if b then dead l.to else l.to).number ≡ l.to.number
    same_number true = refl
    same_number false = refl

    same_names : (b : Bool) → (if b then dead l.to else l.to).name ≡ l.to.name
    same_names true = refl
    same_names false = refl

cut_links : (ends : ℕ → Bool) (f : Frame) → (if ends f.number then dead f else f).links ≡ f.links
cut_links ends f = by (ends f.number)
  where
    by : (b : Bool) → (if b then dead f else f).links ≡ f.links
    by true = refl
    by false = refl

-- the links of what is cut lead on
pub linked_cut : (ends : ℕ → Bool) (fs : List Frame) → ((f : Frame) → Contains fs f → (x : Name) (k : ℕ) → Contains f.links (x, k) → LeadsTo fs x k) → (f : Frame) → Contains (cut ends fs) f → (x : Name) (k : ℕ) → Contains f.links (x, k) → LeadsTo (cut ends fs) x k
linked_cut ends fs h f c x k l =
    let m : MadeOf (λ g. if ends g.number then dead g else g) fs f = map_from (λ g. if ends g.number then dead g else g) fs f c in
    lead_cut ends fs x k (h m.of m.there x k (subst (λ links. Contains {X = Name × ℕ} links (x, k)) (sym (ap (λ (g : Frame). g.links) m.makes) ∙ cut_links ends m.of) l))

pub lead_made : (bs fs : List Frame) (x : Name) (k : ℕ) → LeadsTo fs x k → LeadsTo (made_on bs fs) x k
lead_made bs fs x k l = record { to = l.to; there = old_in bs fs l.to l.there; number = l.number; name = l.name }

-- Links of new instances.

pub link_from : (p : Plan) (r : Runtime) (imports : List Name) (x : Name) (k : ℕ) → Contains {X = Name × ℕ} (links_after p r imports) (x, k) → number_after p r x ≡ Some k
link_from p r [] x k c = absurd (none_in (x, k) c)
link_from p r (m ∷ imports) x k c = by (number_after p r m) refl (link_from p r imports x k) c
  where
    row : (j : ℕ) → number_after p r m ≡ Some j → (number_after p r m ≡ Some j → Contains {X = Name × ℕ} (links_after p r imports) (x, k) → number_after p r x ≡ Some k) → (◌≡◌ {A = Name × ℕ} (m, j) (x, k)) ⊎ Contains {X = Name × ℕ} (links_after p r imports) (x, k) → number_after p r x ≡ Some k
    row j e rest (inl s) = ap (number_after p r) (sym (ap (λ (q : Name × ℕ). q.0) s)) ∙ e ∙ ap (λ (q : Name × ℕ). Some q.1) s
    row j e rest (inr t) = rest e t

    by : (o : Option ℕ) → number_after p r m ≡ o → (Contains {X = Name × ℕ} (links_after p r imports) (x, k) → number_after p r x ≡ Some k) → Contains {X = Name × ℕ} (cons_option (link_to m o) (links_after p r imports)) (x, k) → number_after p r x ≡ Some k
    by None e rest c = rest c
    by (Some j) e rest c = row j e (λ h. rest) (in_cases {X = Name × ℕ} (m, j) (links_after p r imports) (x, k) c)

-- the live instance of a name, as a frame
pub live_is : (is : List Instance) (n : Name) → live_one (frames is) n ≡ option_map frame (live_at is n)
live_is [] n = refl
live_is (i ∷ is) n = by (is_of n (frame i)) (live_is is n)
  where
    by : (b : Bool) → live_one (frames is) n ≡ option_map frame (live_at is n) → cond b (Some (frame i)) (live_one (frames is) n) ≡ option_map frame (cond b (Some i) (live_at is n))
    by true h = refl
    by false h = h

abbrev pub number_at : Option Frame → Option ℕ
number_at None = None
number_at (Some f) = Some f.number

pub number_is : (is : List Instance) (n : Name) → number_in (live_at is n) ≡ number_at (live_one (frames is) n)
number_is is n = by (live_at is n) ∙ ap number_at (sym (live_is is n))
  where
    by : (o : Option Instance) → number_in o ≡ number_at (option_map frame o)
    by None = refl
    by (Some i) = refl

pub live_leads : (fs : List Frame) (x : Name) (k : ℕ) (o : Option Frame) → live_one fs x ≡ o → number_at o ≡ Some k → LeadsTo fs x k
live_leads fs x k None e h = absurd (false≢true (ap is_some h))
live_leads fs x k (Some f) e h =
    let found = found_in (is_of x) fs f e in
    record { to = f; there = found.0; number = same_Some f.number k h; name = same_true f.name x (both_true f.live (same_name f.name x) found.1).1 }

pub new_leads : (p : Plan) (r : Runtime) (x : Name) (k : ℕ) → number_after p r x ≡ Some k → LeadsTo (frames_after p r) x k
new_leads p r x k e = by (has (new_names p r) x) refl e
  where
    by : (b : Bool) → has (new_names p r) x ≡ b → (if b then Some (new_frame p r x).number else number_in (live_at r.instances x)) ≡ Some k → LeadsTo (frames_after p r) x k
    by true h e = record { to = new_frame p r x; there = new_in (news p r) (olds p r) (new_frame p r x) (new_there p r (new_names p r) x h); number = same_Some (new_frame p r x).number k e; name = refl }
    by false h e = lead_made (news p r) (olds p r) x k (lead_cut (ended_by (ended_names p.kind p r) (frames r.instances)) (frames r.instances) x k
        (live_leads (frames r.instances) x k (live_one (frames r.instances) x) refl (sym (number_is r.instances x) ∙ e)))

linked_after : (p : Plan) (r : Runtime) → ((f : Frame) → Contains (frames r.instances) f → (x : Name) (k : ℕ) → Contains f.links (x, k) → LeadsTo (frames r.instances) x k)
    → (f : Frame) → Contains (frames_after p r) f → (x : Name) (k : ℕ) → Contains f.links (x, k) → LeadsTo (frames_after p r) x k
linked_after p r h f c x k l = by (made_cases (news p r) (olds p r) f c)
  where
    of_new : MadeOf (new_frame p r) (new_names p r) f → LeadsTo (frames_after p r) x k
    of_new m = new_leads p r x k (link_from p r (imports_of (entry_at p r.page.view m.of)) x k (subst (λ links. Contains {X = Name × ℕ} links (x, k)) (sym (ap (λ (g : Frame). g.links) m.makes)) l))

    by : Contains (news p r) f ⊎ Contains (olds p r) f → LeadsTo (frames_after p r) x k
    by (inl c) = of_new (map_from (new_frame p r) (new_names p r) f c)
    by (inr c) = lead_made (news p r) (olds p r) x k (linked_cut (ended_by (ended_names p.kind p r) (frames r.instances)) (frames r.instances) h f c x k l)

-- A plan that can be applied.

-- where nothing is needed, each met module has its entry
pub all_there : (p : Plan) (r : Runtime) → next_needed p r ≡ None → (n : Name) → has (fetch_order r.roots p r.page.view) n ≡ true → is_some (entry_at p r.page.view n) ≡ true
all_there p r e n h = true_from _ (λ t. false≢true (ap (λ names. has names n) (sym (none_first (filter (λ m. is_none (entry_at p r.page.view m)) (fetch_order r.roots p r.page.view)) e)) ∙ filtered_in (λ m. is_none (entry_at p r.page.view m)) (fetch_order r.roots p r.page.view) n t h))

staged_from : (kind : PlanKind) (b : Bool) (old staged : Option Entry) → not (is_kept_kind kind b old) ≡ true → is_some (kept_or_staged kind b old staged) ≡ true → is_some staged ≡ true
staged_from Load b old staged e h = h
staged_from Reload b old staged e h = h
staged_from Update true old staged e h = h
staged_from Update false None staged e h = h
staged_from Update false (Some o) staged e h = absurd (false≢true e)

pub ready_for : (p : Plan) (r : Runtime) → next_needed p r ≡ None → ((n : Name) → is_some (at p.staged n) ≡ true → is_some (at r.texts n) ≡ true) → Ready p r
ready_for p r e staged n h =
    let f = filtered_from (λ m. not (is_kept p r.page.view m)) (evaluation_order r.roots p r.page.view) n h in
    let there = all_there p r e n (orders_agree r.roots p r.page.view n ∙ f.1) in
    (there, staged n (staged_from p.kind (has p.replaced n) (at r.page.view n) (at p.staged n) f.0 there))

pub met_same : (p : Plan) (r : Runtime) (n : Name) → has (evaluation_order r.roots p r.page.view) n ≡ has (met_of r.roots p r.page.view) n
met_same p r n = sym (orders_agree r.roots p r.page.view n) ∙ same_test _ _ (λ h. (met_is r.roots p r.page.view n).1 ((walk_is r.roots p r.page.view n).0 h)) (λ h. (walk_is r.roots p r.page.view n).1 ((met_is r.roots p r.page.view n).0 h))

-- new are the met names that aren't kept
pub new_is : (p : Plan) (r : Runtime) (n : Name) → has (new_names p r) n ≡ (not (is_kept p r.page.view n) && has (met_of r.roots p r.page.view) n)
new_is p r n = filtered_has (λ m. not (is_kept p r.page.view m)) (evaluation_order r.roots p r.page.view) n ∙ ap (λ b. not (is_kept p r.page.view n) && b) (met_same p r n)

-- the names that end, by what is known of one name
abbrev pub ends_kind : PlanKind → Bool → Bool → Bool
ends_kind Load replaced new = false
ends_kind Reload replaced new = true
ends_kind Update replaced new = replaced && new

pub ends_is : (kind : PlanKind) (p : Plan) (r : Runtime) (n : Name) → ended_names kind p r n ≡ ends_kind kind (has p.replaced n) (has (new_names p r) n)
ends_is Load p r n = refl
ends_is Reload p r n = refl
ends_is Update p r n = refl

-- a load finds nothing old
pub nothing_old : (kind : PlanKind) (loaded : Bool) (view : View) → KindFits kind loaded → (loaded ≡ false → view ≡ []) → (n : Name) → kind ≡ Load → is_some (at view n) ≡ false
nothing_old Load loaded view f e n k = ap (λ v. is_some (at v n)) (e f)
nothing_old Reload loaded view f e n k = absurd (false≢true (ap is_load k))
  where
    is_load : PlanKind → Bool
    is_load Load = true
    is_load Reload = false
    is_load Update = false
nothing_old Update loaded view f e n k = absurd (false≢true (ap is_load k))
  where
    is_load : PlanKind → Bool
    is_load Load = true
    is_load Reload = false
    is_load Update = false

live_now : (kind : PlanKind) (met replaced : Bool) (old staged : Option Entry) (one : Option Frame) (new : Frame) → is_some one ≡ is_some old → (kind ≡ Load → is_some old ≡ false) → (met ≡ true → is_some (kept_or_staged kind replaced old staged) ≡ true)
    → is_some (if not (is_kept_kind kind replaced old) && met then Some new else (if ends_kind kind replaced (not (is_kept_kind kind replaced old) && met) then None else one)) ≡ is_some (if met then kept_or_staged kind replaced old staged else unmet_entry kind old)
live_now Load true replaced old staged one new s l h = sym (h refl)
live_now Load false replaced old staged one new s l h = s ∙ l refl
live_now Reload true replaced old staged one new s l h = sym (h refl)
live_now Reload false replaced old staged one new s l h = refl
live_now Update true true old staged one new s l h = sym (h refl)
live_now Update false true old staged one new s l h = s
live_now Update true false None staged one new s l h = sym (h refl)
live_now Update false false None staged one new s l h = s
live_now Update true false (Some e) staged one new s l h = s
live_now Update false false (Some e) staged one new s l h = s

none_is : (o : Option Frame) → is_some o ≡ false → o ≡ None
none_is None h = refl
none_is (Some f) h = absurd (false≢true (sym h))

gone : (kind : PlanKind) (replaced met : Bool) (old : Option Entry) (one : Option Frame) → (not (is_kept_kind kind replaced old) && met) ≡ true → is_some one ≡ is_some old → (kind ≡ Load → is_some old ≡ false) → (if ends_kind kind replaced (not (is_kept_kind kind replaced old) && met) then None else one) ≡ None
gone Load replaced met old one n s l = none_is one (s ∙ l refl)
gone Reload replaced met old one n s l = refl
gone Update true true old one n s l = refl
gone Update true false old one n s l = absurd (false≢true n)
gone Update false met None one n s l = none_is one s
gone Update false met (Some e) one n s l = absurd (false≢true n)

new_entry_is : (b : Bool) (p : Plan) (view : View) (n : Name) → new_entry b p view n ≡ (if b then kept_or_staged p.kind (has p.replaced n) (at view n) (at p.staged n) else unmet_entry p.kind (at view n))
new_entry_is true p view n = refl
new_entry_is false p view n = refl

module _ (p : Plan) (r : Runtime) (plan_is : r.page.plan ≡ Some p) (needed : next_needed p r ≡ None) (h : HoldsOf r) where
  pub fits : PlanFits (Some p) r.page.loaded r.texts
  fits = subst (λ q. PlanFits q r.page.loaded r.texts) plan_is h.planned

  pub is_ready : Ready p r
  is_ready = ready_for p r needed fits.1

  pub loads_none : (n : Name) → p.kind ≡ Load → is_some (at r.page.view n) ≡ false
  loads_none n = nothing_old p.kind r.page.loaded r.page.view fits.0 h.empty n

  pub met_there : (n : Name) → has (met_of r.roots p r.page.view) n ≡ true → is_some (entry_at p r.page.view n) ≡ true
  met_there n m = all_there p r needed n (orders_agree r.roots p r.page.view n ∙ met_same p r n ∙ m)

  pub entry_after : (n : Name) → at (new_view r.roots p r.page.view) n ≡ (if has (met_of r.roots p r.page.view) n then kept_or_staged p.kind (has p.replaced n) (at r.page.view n) (at p.staged n) else unmet_entry p.kind (at r.page.view n))
  entry_after n = at_new r.roots p r.page.view n ∙ new_entry_is (has (met_of r.roots p r.page.view) n) p r.page.view n

  abbrev made_new : Name → Bool
  made_new n = not (is_kept p r.page.view n) && has (met_of r.roots p r.page.view) n

  pub one_after : (n : Name) → live_one (frames_after p r) n ≡ (if made_new n then Some (new_frame p r n) else (if ends_kind p.kind (has p.replaced n) (made_new n) then None else live_one (frames r.instances) n))
  one_after n = live_after p r h.numbered n
      ∙ ap (λ b. if has (new_names p r) n then Some (new_frame p r n) else (if b then None else live_one (frames r.instances) n)) (ends_is p.kind p r n)
      ∙ ap (λ b. if b then Some (new_frame p r n) else (if ends_kind p.kind (has p.replaced n) b then None else live_one (frames r.instances) n)) (new_is p r n)

  live_in : (n : Name) → is_some (live_one (frames_after p r) n) ≡ is_in (new_view r.roots p r.page.view) n
  live_in n = ap is_some (one_after n)
      ∙ live_now p.kind (has (met_of r.roots p r.page.view) n) (has p.replaced n) (at r.page.view n) (at p.staged n) (live_one (frames r.instances) n) (new_frame p r n) (h.live n) (loads_none n) (met_there n)
      ∙ ap is_some (sym (entry_after n))

  old_gone : (n : Name) → has (new_names p r) n ≡ true → live_one (olds p r) n ≡ None
  old_gone n t = live_cut (ended_names p.kind p r) (frames r.instances) h.numbered n
      ∙ ap (λ b. if b then None else live_one (frames r.instances) n) (ends_is p.kind p r n ∙ ap (ends_kind p.kind (has p.replaced n)) (new_is p r n))
      ∙ gone p.kind (has p.replaced n) (has (met_of r.roots p r.page.view) n) (at r.page.view n) (live_one (frames r.instances) n) (sym (new_is p r n) ∙ t) (h.live n) (loads_none n)

  one_each : (n : Name) → live_count (frames_after p r) n ≤ 1
  one_each = made_count (news p r) (olds p r) (news_once p r)
      (λ n t. none_counted (olds p r) n (old_gone n (ap (λ names. has names n) (sym (news_names p r)) ∙ t)))
      (λ n. omega (arith, cut_count (ended_by (ended_names p.kind p r) (frames r.instances)) (frames r.instances) n, h.one n))

  pub holds_after : (r.client == 0) ≡ false → Holds r.client (applied r.roots p r.page) [] (frames_after p r)
  holds_after counted = record {
    numbered = numbered_after p r h.numbered;
    one = one_each;
    live = live_in;
    linked = linked_after p r h.linked;
    planned = tt;
    empty = λ e. absurd (false≢true (sym e));
    talks = λ e. counted;
  }
