-- A plan that is applied keeps what holds of links to instances that were made later.
use Rattle.std.proofs.Common.{◌≡◌, ◌⊎◌, inl, inr, ℕ, suc, ◌+◌, ◌≤◌, ◌<◌, Bool, true, false, List, [], ◌∷◌, length, refl, ap, sym, ◌∙◌, arith}
use Rattle.std.specs.Prelude.{not, ◌&&◌, Option, Some, None, is_some, if◌then◌else◌}
use Rattle.std.proofs.Math.Path.{subst}
use Rattle.std.proofs.lemmas.Bool.{false≢true}
use Rattle.std.proofs.lemmas.List.{length-map}
use Rattle.std.proofs.lemmas.Option.{same_Some}
use Rattle.hmr_types.specs.declared.words.PlanKind.{PlanKind}
use Rattle.hmr_types.specs.declared.words.PlanKind.TheVariants.{Load, Reload, Update}
use Rattle.core_model.specs.Names.{Name, has, at}
use Rattle.core_model.specs.Paths.{Leads}
use Rattle.core_model.specs.View.{Entry, is_in, imports_of}
use Rattle.core_model.specs.Page.{Plan, entry_at, kept_or_staged, unmet_entry, new_view, met_of, plan_imports}
use Rattle.core_model.proofs.Naming.{both_true}
use Rattle.core_model.proofs.Planning.{met_is}
use Rattle.core_model.proofs.Reaching.{reaches_on}
use Rattle.client_model.specs.Instance.{live_at}
use Rattle.client_model.specs.Runtime.{Runtime}
use Rattle.client_model.specs.Linking.{is_kept_kind, is_kept, next_needed, new_names, number_after, number_in, place_of}
use Rattle.world_laws.proofs.Frames.{Frame, frame, frames, live_one, is_of, ended_by, found_in, number_low, made_length, cut_length}
use Rattle.world_laws.proofs.Births.{new_frame, news, olds, frames_after, live_after, numbered_after}
use Rattle.world_laws.proofs.Ending.{ended_names}
use Rattle.world_laws.proofs.Holding.{HoldsOf, number_at, number_is, ends_kind, ends_is, new_is, entry_after, met_there}
use Rattle.journal_laws.proofs.LeadingBack.{Linking, linked_import, import_number, some_of, Chain, later, WasMade, Traced, Later, live_name, live_later}
use Rattle.journal_laws.proofs.LeadingPlan.{same_place, at_most, new_placed}

-- an old entry that isn't replaced stays
entry_same : (kind : PlanKind) (met replaced : Bool) (old staged : Option Entry) → (not (is_kept_kind kind replaced old) && met) ≡ false → is_some (if met then kept_or_staged kind replaced old staged else unmet_entry kind old) ≡ true → (if met then kept_or_staged kind replaced old staged else unmet_entry kind old) ≡ old
entry_same Load true replaced old staged e h = absurd (false≢true (sym e))
entry_same Load false replaced old staged e h = absurd (false≢true h)
entry_same Reload true replaced old staged e h = absurd (false≢true (sym e))
entry_same Reload false replaced old staged e h = absurd (false≢true h)
entry_same Update true true old staged e h = absurd (false≢true (sym e))
entry_same Update true false None staged e h = absurd (false≢true (sym e))
entry_same Update true false (Some o) staged e h = refl
entry_same Update false replaced old staged e h = refl

-- a module that is kept isn't ended
ends_kept : (kind : PlanKind) (replaced : Bool) (old : Option Entry) → is_kept_kind kind replaced old ≡ true → ends_kind kind replaced false ≡ false
ends_kept Load replaced old h = refl
ends_kept Reload replaced old h = absurd (false≢true h)
ends_kept Update true old h = refl
ends_kept Update false old h = refl

kept_if : (a b : Bool) → (not a && b) ≡ false → b ≡ true → a ≡ true
kept_if true b e h = refl
kept_if false b e h = absurd (false≢true (sym e ∙ h))

module _ (There : Frame → Type 0) (p : Plan) (r : Runtime) (plan_is : r.page.plan ≡ Some p) (needed : next_needed p r ≡ None) (h : HoldsOf r) (t : Traced There r.page.view (frames r.instances))
    (lives : (n : Name) → is_some (live_one (frames_after p r) n) ≡ is_in (new_view r.roots p r.page.view) n) where
  abbrev MayBe : Frame → Type 0
  MayBe = Later (frames_after p r) There

  -- Which are live then.

  live_cases : (n : Name) (f : Frame) → live_one (frames_after p r) n ≡ Some f → ((has (new_names p r) n ≡ true) × (f ≡ new_frame p r n)) ⊎ ((has (new_names p r) n ≡ false) × (live_one (frames r.instances) n ≡ Some f))
  live_cases n f e = by (has (new_names p r) n) refl (ended_names p.kind p r n) (sym (live_after p r h.numbered n) ∙ e)
    where
      by : (b : Bool) → has (new_names p r) n ≡ b → (c : Bool) → (if b then Some (new_frame p r n) else (if c then None else live_one (frames r.instances) n)) ≡ Some f
          → ((has (new_names p r) n ≡ true) × (f ≡ new_frame p r n)) ⊎ ((has (new_names p r) n ≡ false) × (live_one (frames r.instances) n ≡ Some f))
      by true x c e = inl (x, sym (same_Some (new_frame p r n) f e))
      by false x true e = absurd (false≢true (ap is_some e))
      by false x false e = inr (x, e)

  new_lives : (n : Name) → has (new_names p r) n ≡ true → live_one (frames_after p r) n ≡ Some (new_frame p r n)
  new_lives n x = live_after p r h.numbered n ∙ ap (λ b. if b then Some (new_frame p r n) else (if ended_names p.kind p r n then None else live_one (frames r.instances) n)) x

  new_met : (n : Name) → has (new_names p r) n ≡ true → has (met_of r.roots p r.page.view) n ≡ true
  new_met n x = (both_true (not (is_kept p r.page.view n)) _ (sym (new_is p r n) ∙ x)).1

  kept_lives : (n : Name) → has (met_of r.roots p r.page.view) n ≡ true → has (new_names p r) n ≡ false → live_one (frames_after p r) n ≡ live_one (frames r.instances) n
  kept_lives n m x =
      let kept : is_kept p r.page.view n ≡ true = kept_if (is_kept p r.page.view n) (has (met_of r.roots p r.page.view) n) (sym (new_is p r n) ∙ x) m in
      live_after p r h.numbered n
      ∙ ap (λ b. if b then Some (new_frame p r n) else (if ended_names p.kind p r n then None else live_one (frames r.instances) n)) x
      ∙ ap (λ b. if b then None else live_one (frames r.instances) n) (ends_is p.kind p r n ∙ ap (ends_kind p.kind (has p.replaced n)) x ∙ ends_kept p.kind (has p.replaced n) (at r.page.view n) kept)

  number_lives : (n : Name) → has (met_of r.roots p r.page.view) n ≡ true → number_after p r n ≡ number_at (live_one (frames_after p r) n)
  number_lives n m = by (has (new_names p r) n) refl
    where
      by : (b : Bool) → has (new_names p r) n ≡ b → (if b then Some (suc (length r.instances) + place_of (new_names p r) n) else number_in (live_at r.instances n)) ≡ number_at (live_one (frames_after p r) n)
      by true x = sym (ap number_at (new_lives n x))
      by false x = number_is r.instances n ∙ ap number_at (sym (kept_lives n m x))

  met_entry : (n : Name) → has (met_of r.roots p r.page.view) n ≡ true → at (new_view r.roots p r.page.view) n ≡ entry_at p r.page.view n
  met_entry n m = entry_after p r plan_is needed h n ∙ ap (λ b. if b then kept_or_staged p.kind (has p.replaced n) (at r.page.view n) (at p.staged n) else unmet_entry p.kind (at r.page.view n)) m

  met_live : (n : Name) → has (met_of r.roots p r.page.view) n ≡ true → (f : Frame) × (live_one (frames_after p r) n ≡ Some f)
  met_live n m = some_of (live_one (frames_after p r) n) (lives n ∙ ap is_some (met_entry n m) ∙ met_there p r plan_is needed h n m)

  met_on : (n m : Name) → has (met_of r.roots p r.page.view) n ≡ true → plan_imports p r.page.view n m ≡ true → has (met_of r.roots p r.page.view) m ≡ true
  met_on n m k e = (met_is r.roots p r.page.view m).1 (reaches_on (plan_imports p r.page.view) r.roots n m ((met_is r.roots p r.page.view n).0 k) e)

  old_entry : (n : Name) (f : Frame) → live_one (frames_after p r) n ≡ Some f → has (new_names p r) n ≡ false → at (new_view r.roots p r.page.view) n ≡ at r.page.view n
  old_entry n f e x = entry_after p r plan_is needed h n ∙ entry_same p.kind (has (met_of r.roots p r.page.view) n) (has p.replaced n) (at r.page.view n) (at p.staged n)
      (sym (new_is p r n) ∙ x) (sym (ap is_some (entry_after p r plan_is needed h n)) ∙ sym (lives n) ∙ ap is_some e)

  -- Numbers.

  there_cases : (f : Frame) → MayBe f → ((has (new_names p r) f.name ≡ true) × (f ≡ new_frame p r f.name)) ⊎ There f
  there_cases f (inr k) = inr k
  there_cases f (inl e) = by (live_cases f.name f e)
    where
      by : ((has (new_names p r) f.name ≡ true) × (f ≡ new_frame p r f.name)) ⊎ ((has (new_names p r) f.name ≡ false) × (live_one (frames r.instances) f.name ≡ Some f)) → ((has (new_names p r) f.name ≡ true) × (f ≡ new_frame p r f.name)) ⊎ There f
      by (inl x) = inl x
      by (inr k) = inr (t.live f.name f k.1)

  old_low : (f : Frame) → There f → f.number ≤ length r.instances
  old_low f k = omega (arith, t.low f k, length-map r.instances frame)

  new_high : (f : Frame) (n : Name) → f ≡ new_frame p r n → suc (length r.instances) + place_of (new_names p r) n ≡ f.number
  new_high f n e = sym (ap (λ (g : Frame). g.number) e)

  low_after : (f : Frame) → MayBe f → f.number ≤ length (frames_after p r)
  low_after f (inl e) = number_low (frames_after p r) (numbered_after p r h.numbered) f (found_in (is_of f.name) (frames_after p r) f e).0
  low_after f (inr k) = omega (arith, t.low f k, made_length (news p r) (olds p r), cut_length (ended_by (ended_names p.kind p r) (frames r.instances)) (frames r.instances))

  one_after : (f g : Frame) → MayBe f → MayBe g → f.number ≡ g.number → f ≡ g
  one_after f g mf mg e = by (there_cases f mf) (there_cases g mg)
    where
      by : ((has (new_names p r) f.name ≡ true) × (f ≡ new_frame p r f.name)) ⊎ There f → ((has (new_names p r) g.name ≡ true) × (g ≡ new_frame p r g.name)) ⊎ There g → f ≡ g
      by (inl x) (inl y) = x.1 ∙ ap (new_frame p r) (same_place (new_names p r) f.name g.name x.0 y.0 (omega (arith, e, new_high f f.name x.1, new_high g g.name y.1))) ∙ sym y.1
      by (inl x) (inr k) = absurd (omega (arith, e, new_high f f.name x.1, old_low g k))
      by (inr k) (inl y) = absurd (omega (arith, e, new_high g g.name y.1, old_low f k))
      by (inr k) (inr l) = t.one f g k l e

  newest_after : (f g : Frame) → MayBe g → live_one (frames_after p r) g.name ≡ Some f → g.number ≤ f.number
  newest_after f g mg e = by (live_cases g.name f e) (there_cases g mg)
    where
      by : ((has (new_names p r) g.name ≡ true) × (f ≡ new_frame p r g.name)) ⊎ ((has (new_names p r) g.name ≡ false) × (live_one (frames r.instances) g.name ≡ Some f)) → ((has (new_names p r) g.name ≡ true) × (g ≡ new_frame p r g.name)) ⊎ There g → g.number ≤ f.number
      by (inl x) (inl y) = omega (arith, new_high f g.name x.1, new_high g g.name y.1)
      by (inl x) (inr k) = omega (arith, new_high f g.name x.1, old_low g k)
      by (inr x) (inl y) = absurd (false≢true (sym x.0 ∙ y.0))
      by (inr x) (inr k) = t.newest f g k x.1

  -- Links.

  number_some : (n m : Name) → has (new_names p r) n ≡ true → plan_imports p r.page.view n m ≡ true → is_some (number_after p r m) ≡ true
  number_some n m x e =
      let met : has (met_of r.roots p r.page.view) m ≡ true = met_on n m (new_met n x) e in
      let g = met_live m met in
      ap is_some (number_lives m met) ∙ ap (λ o. is_some (number_at o)) g.1

  new_linking : (n : Name) (f : Frame) → has (new_names p r) n ≡ true → f ≡ new_frame p r n → Linking f.links (imports_of (entry_at p r.page.view n))
  new_linking n f x e = record { number = number_after p r; links_are = ap (λ (g : Frame). g.links) e; each = λ m i. number_some n m x i }

  linking_after : (n : Name) (f : Frame) → live_one (frames_after p r) n ≡ Some f → Linking f.links (imports_of (at (new_view r.roots p r.page.view) n))
  linking_after n f e = by (live_cases n f e)
    where
      by : ((has (new_names p r) n ≡ true) × (f ≡ new_frame p r n)) ⊎ ((has (new_names p r) n ≡ false) × (live_one (frames r.instances) n ≡ Some f)) → Linking f.links (imports_of (at (new_view r.roots p r.page.view) n))
      by (inl x) = subst (λ o. Linking f.links (imports_of o)) (sym (met_entry n (new_met n x.0))) (new_linking n f x.0 x.1)
      by (inr x) = subst (λ o. Linking f.links (imports_of o)) (sym (old_entry n f e x.0)) (t.linking n f x.1)

  -- what a new instance is linked to
  record IsNewLink (n x : Name) (l : ℕ) : Type 0 where
    importing : plan_imports p r.page.view n x ≡ true
    met : has (met_of r.roots p r.page.view) x ≡ true
    number : number_after p r x ≡ Some l
    to : Frame
    live : live_one (frames_after p r) x ≡ Some to
    numbered : to.number ≡ l

  new_link : (n : Name) (f : Frame) → has (new_names p r) n ≡ true → f ≡ new_frame p r n → (x : Name) (l : ℕ) → at f.links x ≡ Some l → IsNewLink n x l
  unfolding new_linking
  new_link n f new e x l link =
      let importing : plan_imports p r.page.view n x ≡ true = linked_import f.links (imports_of (entry_at p r.page.view n)) (new_linking n f new e) x l link in
      let met : has (met_of r.roots p r.page.view) x ≡ true = met_on n x (new_met n new) importing in
      let number : number_after p r x ≡ Some l = sym (import_number f.links (imports_of (entry_at p r.page.view n)) (new_linking n f new e) x importing) ∙ link in
      let to = met_live x met in
      record { importing = importing; met = met; number = number; to = to.0; live = to.1; numbered = same_Some to.0.number l (sym (ap number_at to.1) ∙ sym (number_lives x met) ∙ number) }

  led_after : (n : Name) (f : Frame) → live_one (frames_after p r) n ≡ Some f → (x : Name) (l : ℕ) → at f.links x ≡ Some l → WasMade MayBe x l
  led_after n f e x l link = by (live_cases n f e)
    where
      by : ((has (new_names p r) n ≡ true) × (f ≡ new_frame p r n)) ⊎ ((has (new_names p r) n ≡ false) × (live_one (frames r.instances) n ≡ Some f)) → WasMade MayBe x l
      by (inl y) = let k : IsNewLink n x l = new_link n f y.0 y.1 x l link in record { made = k.to; there = live_later (frames_after p r) There x k.to k.live; name = live_name (frames_after p r) x k.to k.live; number = k.numbered }
      by (inr y) = let m : WasMade There x l = t.led n f y.1 x l link in record { made = m.made; there = inr m.there; name = m.name; number = m.number }

  -- A link of a live instance goes on to the live one of its import, or is out of date.

  hop_on : (a b : Name) (f g : Frame) (k : ℕ) → live_one (frames_after p r) a ≡ Some f → live_one (frames_after p r) b ≡ Some g → has (imports_of (at (new_view r.roots p r.page.view) a)) b ≡ true → Chain MayBe g.number k → Chain MayBe f.number k
  hop_on a b f g k ef eg importing c =
      let linking : Linking f.links (imports_of (at (new_view r.roots p r.page.view) a)) = linking_after a f ef in
      let l = some_of (linking.number b) (linking.each b importing) in
      let link : at f.links b ≡ Some l.0 = import_number f.links (imports_of (at (new_view r.roots p r.page.view) a)) linking b importing ∙ l.1 in
      by l.0 link (led_after a f ef b l.0 link)
    where
      go : (l : ℕ) → at f.links b ≡ Some l → (l ≡ g.number) ⊎ (l < g.number) → Chain MayBe f.number k
      go l link (inl e) = record { through = f ∷ c.through; is = (live_later (frames_after p r) There a f ef, refl, record { over = b; to = g.number; link = link ∙ ap Some e; on = inr c.is }) }
      go l link (inr less) = record { through = f ∷ []; is = (live_later (frames_after p r) There a f ef, refl, record { over = b; to = l; link = link; on = inl (record { newer = g; there = live_later (frames_after p r) There b g eg; name = live_name (frames_after p r) b g eg; above = less }) }) }

      by : (l : ℕ) → at f.links b ≡ Some l → WasMade MayBe b l → Chain MayBe f.number k
      by l link w = go l link (at_most l g.number (omega (arith, w.number, newest_after g w.made w.there (ap (live_one (frames_after p r)) w.name ∙ eg))))

  chain_along : (n : Name) → has (new_names p r) n ≡ true → (a : Name) (rest : List Name) (f : Frame) → has (met_of r.roots p r.page.view) a ≡ true → live_one (frames_after p r) a ≡ Some f → Leads (plan_imports p r.page.view) a rest n → Chain MayBe f.number (new_frame p r n).number
  chain_along n new a [] f m e l = record { through = []; is = ap (λ (g : Frame). g.number) (same_Some f (new_frame p r n) (sym e ∙ ap (live_one (frames_after p r)) l ∙ new_lives n new)) }
  chain_along n new a (b ∷ rest) f m e l =
      let met : has (met_of r.roots p r.page.view) b ≡ true = met_on a b m l.0 in
      let g = met_live b met in
      hop_on a b f g.0 (new_frame p r n).number e g.1 (ap (λ o. has (imports_of o) b) (met_entry a m) ∙ l.0) (chain_along n new b rest g.0 met g.1 l.1)

  back_new : (n : Name) (f : Frame) → has (new_names p r) n ≡ true → f ≡ new_frame p r n → (x : Name) (l : ℕ) → at f.links x ≡ Some l → f.number ≤ l → Chain MayBe l f.number
  back_new n f new e x l link high = by (has (new_names p r) x) refl
    where
      k : IsNewLink n x l
      k = new_link n f new e x l link

      on : has (new_names p r) x ≡ true → (rest : List Name) × Leads (plan_imports p r.page.view) x rest n → Chain MayBe l f.number
      on new_x path = subst (λ j. Chain MayBe j f.number) k.numbered (subst (Chain MayBe k.to.number) (sym (ap (λ (g : Frame). g.number) e)) (chain_along n new x path.0 k.to k.met k.live path.1))

      to_new : has (new_names p r) x ≡ true → l ≡ suc (length r.instances) + place_of (new_names p r) x
      to_new new_x = same_Some l (suc (length r.instances) + place_of (new_names p r) x) (sym k.number ∙ ap (λ b. if b then Some (suc (length r.instances) + place_of (new_names p r) x) else number_in (live_at r.instances x)) new_x)

      old : live_one (frames r.instances) x ≡ Some k.to → Chain MayBe l f.number
      old live = absurd (omega (arith, new_high f n e, high, k.numbered, old_low k.to (t.live x k.to live)))

      by : (b : Bool) → has (new_names p r) x ≡ b → Chain MayBe l f.number
      by true new_x = on new_x (new_placed p r n x new new_x k.importing (omega (arith, new_high f n e, high, to_new new_x)))
      by false other = old (sym (kept_lives x k.met other) ∙ k.live)

  back_after : (n : Name) (f : Frame) → live_one (frames_after p r) n ≡ Some f → (x : Name) (l : ℕ) → at f.links x ≡ Some l → f.number ≤ l → Chain MayBe l f.number
  back_after n f e x l link high = by (live_cases n f e)
    where
      by : ((has (new_names p r) n ≡ true) × (f ≡ new_frame p r n)) ⊎ ((has (new_names p r) n ≡ false) × (live_one (frames r.instances) n ≡ Some f)) → Chain MayBe l f.number
      by (inl y) = back_new n f y.0 y.1 x l link high
      by (inr y) = later There MayBe (λ g m. inr m) l f.number (t.back n f y.1 x l link high)

  pub plan_traced : Traced (Later (frames_after p r) There) (new_view r.roots p r.page.view) (frames_after p r)
  plan_traced = record {
    low = low_after;
    live = λ n f e. live_later (frames_after p r) There n f e;
    one = one_after;
    newest = newest_after;
    linking = linking_after;
    led = led_after;
    back = back_after;
  }
