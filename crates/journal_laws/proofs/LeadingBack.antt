-- Instances that were live lead to others by their links. Where one is linked to one that was made later, or
-- to itself, that one leads back to it, or some instance on the way holds a link that is out of date.
use Rattle.std.proofs.Common.{◌≡◌, ◌⊎◌, inl, inr, ℕ, ◌≤◌, ◌<◌, Bool, true, false, List, [], ◌∷◌, length, refl, ap, sym, ◌∙◌, arith}
use Rattle.std.specs.Prelude.{filter_map, ◌||◌, Option, Some, None, is_some, if◌then◌else◌}
use Rattle.std.specs.List.{cons_option}
use Rattle.std.proofs.Math.Path.{subst}
use Rattle.std.proofs.lemmas.Bool.{false≢true}
use Rattle.core_model.specs.Names.{Name, same_name, has, at}
use Rattle.core_model.specs.View.{View, is_in, imports_of}
use Rattle.core_model.proofs.Naming.{same_true, both_true}
use Rattle.client_model.specs.Linking.{link_to}
use Rattle.world_laws.proofs.Frames.{Frame, live_one, is_of, found_in}
use Rattle.world_laws.proofs.Messages.{Quiet}

-- Links by imports.

-- the links of a module that imports these: one for each import
pub record Linking (links : List (Name × ℕ)) (imports : List Name) : Type 0 where
  pub number : Name → Option ℕ
  pub links_are : links ≡ filter_map (λ m. link_to m (number m)) imports
  pub each : (m : Name) → has imports m ≡ true → is_some (number m) ≡ true

pub at_linked : (number : Name → Option ℕ) (imports : List Name) (x : Name) → at (filter_map (λ m. link_to m (number m)) imports) x ≡ (if has imports x then number x else None)
at_linked number [] x = refl
at_linked number (m ∷ imports) x = row (number m) refl (at_linked number imports x)
  where
    some : (j : ℕ) (b : Bool) → same_name m x ≡ b → number m ≡ Some j → at (filter_map (λ m. link_to m (number m)) imports) x ≡ (if has imports x then number x else None) → (if b then Some j else at (filter_map (λ m. link_to m (number m)) imports) x) ≡ (if b || has imports x then number x else None)
    some j true s e h = sym e ∙ ap number (same_true m x s)
    some j false s e h = h

    none : (b : Bool) → same_name m x ≡ b → number m ≡ None → (c : Bool) → at (filter_map (λ m. link_to m (number m)) imports) x ≡ (if c then number x else None) → at (filter_map (λ m. link_to m (number m)) imports) x ≡ (if b || c then number x else None)
    none true s e true h = h
    none true s e false h = h ∙ sym e ∙ ap number (same_true m x s)
    none false s e c h = h

    row : (o : Option ℕ) → number m ≡ o → at (filter_map (λ m. link_to m (number m)) imports) x ≡ (if has imports x then number x else None) → at (cons_option (link_to m o) (filter_map (λ m. link_to m (number m)) imports)) x ≡ (if same_name m x || has imports x then number x else None)
    row None e h = none (same_name m x) refl e (has imports x) h
    row (Some j) e h = some j (same_name m x) refl e h

-- a link is of an import
pub linked_import : (links : List (Name × ℕ)) (imports : List Name) → Linking links imports → (x : Name) (l : ℕ) → at links x ≡ Some l → has imports x ≡ true
linked_import links imports k x l e = by (has imports x) (sym (ap (λ rows. at rows x) k.links_are ∙ at_linked k.number imports x) ∙ e)
  where
    by : (b : Bool) → (if b then k.number x else None) ≡ Some l → b ≡ true
    by true e = refl
    by false e = absurd (false≢true (ap is_some e))

pub import_number : (links : List (Name × ℕ)) (imports : List Name) (k : Linking links imports) (x : Name) → has imports x ≡ true → at links x ≡ k.number x
import_number links imports k x h = ap (λ rows. at rows x) k.links_are ∙ at_linked k.number imports x ∙ ap (λ b. if b then k.number x else None) h

pub some_of : {X : Type 0} → (o : Option X) → is_some o ≡ true → (x : X) × (o ≡ Some x)
some_of None h = absurd (false≢true h)
some_of (Some x) h = (x, refl)

-- Chains of links.

-- one of the name was there with a higher number
pub record Outdated (There : Frame → Type 0) (x : Name) (l : ℕ) : Type 0 where
  pub newer : Frame
  pub there : There newer
  pub name : newer.name ≡ x
  pub above : l < newer.number

-- a link of f that is out of date, or goes on
pub record Hop (There : Frame → Type 0) (f : Frame) (Rest : ℕ → Type 0) : Type 0 where
  pub over : Name
  pub to : ℕ
  pub link : at f.links over ≡ Some to
  pub on : Outdated There over to ⊎ Rest to

-- links lead from number j to k, or to one that is out of date
abbrev pub IsChain : (Frame → Type 0) → List Frame → ℕ → ℕ → Type 0
IsChain There [] j k = j ≡ k
IsChain There (f ∷ rest) j k = There f × (f.number ≡ j) × Hop There f (λ l. IsChain There rest l k)

pub record Chain (There : Frame → Type 0) (j k : ℕ) : Type 0 where
  pub through : List Frame
  pub is : IsChain There through j k

module _ (There More : Frame → Type 0) (more : (f : Frame) → There f → More f) where
  chain_later : (through : List Frame) (j k : ℕ) → IsChain There through j k → IsChain More through j k
  chain_later [] j k c = c
  chain_later (f ∷ rest) j k c = (more f c.0, c.1, record { over = c.2.over; to = c.2.to; link = c.2.link; on = by (λ d. chain_later rest c.2.to k d) c.2.on })
    where
      by : (IsChain There rest c.2.to k → IsChain More rest c.2.to k) → Outdated There c.2.over c.2.to ⊎ IsChain There rest c.2.to k → Outdated More c.2.over c.2.to ⊎ IsChain More rest c.2.to k
      by on (inl o) = inl (record { newer = o.newer; there = more o.newer o.there; name = o.name; above = o.above })
      by on (inr d) = inr (on d)

  pub later : (j k : ℕ) → Chain There j k → Chain More j k
  later j k c = record { through = c.through; is = chain_later c.through j k c.is }

-- What was live.

-- one of the name and the number was there
pub record WasMade (There : Frame → Type 0) (x : Name) (l : ℕ) : Type 0 where
  pub made : Frame
  pub there : There made
  pub name : made.name ≡ x
  pub number : made.number ≡ l

-- There are the frames that were live at some time; these are the page's modules and the frames now.
pub record Traced (There : Frame → Type 0) (view : View) (fs : List Frame) : Type 0 where
  pub low : (f : Frame) → There f → f.number ≤ length fs
  pub live : (n : Name) (f : Frame) → live_one fs n ≡ Some f → There f
  pub one : (f g : Frame) → There f → There g → f.number ≡ g.number → f ≡ g
  pub newest : (f g : Frame) → There g → live_one fs g.name ≡ Some f → g.number ≤ f.number
  pub linking : (n : Name) (f : Frame) → live_one fs n ≡ Some f → Linking f.links (imports_of (at view n))
  pub led : (n : Name) (f : Frame) → live_one fs n ≡ Some f → (x : Name) (l : ℕ) → at f.links x ≡ Some l → WasMade There x l
  pub back : (n : Name) (f : Frame) → live_one fs n ≡ Some f → (x : Name) (l : ℕ) → at f.links x ≡ Some l → f.number ≤ l → Chain There l f.number

-- what is live now, or was there before
abbrev pub Later : List Frame → (Frame → Type 0) → Frame → Type 0
Later fs There f = (live_one fs f.name ≡ Some f) ⊎ There f

pub live_name : (fs : List Frame) (n : Name) (f : Frame) → live_one fs n ≡ Some f → f.name ≡ n
live_name fs n f e = same_true f.name n (both_true f.live (same_name f.name n) (found_in (is_of n) fs f e).1).1

pub live_later : (fs : List Frame) (There : Frame → Type 0) (n : Name) (f : Frame) → live_one fs n ≡ Some f → Later fs There f
live_later fs There n f e = inl (ap (live_one fs) (live_name fs n f e) ∙ e)

-- Where nothing is made.

module _ (There : Frame → Type 0) (old new : View) (before after : List Frame) (t : Traced There old before) (q : Quiet old new before after) (lives : (n : Name) → is_some (live_one after n) ≡ is_in new n) where
  was_live : (n : Name) (f : Frame) → live_one after n ≡ Some f → live_one before n ≡ Some f
  was_live n f e = by (q.lives n)
    where
      by : (live_one after n ≡ None) ⊎ (live_one after n ≡ live_one before n) → live_one before n ≡ Some f
      by (inl none) = absurd (false≢true (sym (ap is_some none) ∙ ap is_some e))
      by (inr same) = sym same ∙ e

  was_there : (f : Frame) → Later after There f → There f
  was_there f (inl e) = t.live f.name f (was_live f.name f e)
  was_there f (inr h) = h

  same_entry : (n : Name) (f : Frame) → live_one after n ≡ Some f → at new n ≡ at old n
  same_entry n f e = by (q.entries n)
    where
      by : (at new n ≡ None) ⊎ (at new n ≡ at old n) → at new n ≡ at old n
      by (inl none) = absurd (false≢true (sym (ap is_some none) ∙ sym (lives n) ∙ ap is_some e))
      by (inr same) = same

  pub quiet_traced : Traced (Later after There) new after
  quiet_traced = record {
    low = λ f h. omega (arith, t.low f (was_there f h), q.made);
    live = λ n f e. live_later after There n f e;
    one = λ f g h k e. t.one f g (was_there f h) (was_there g k) e;
    newest = λ f g h e. t.newest f g (was_there g h) (was_live g.name f e);
    linking = λ n f e. subst (λ o. Linking f.links (imports_of o)) (sym (same_entry n f e)) (t.linking n f (was_live n f e));
    led = λ n f e x l k. let m : WasMade There x l = t.led n f (was_live n f e) x l k in record { made = m.made; there = inr m.there; name = m.name; number = m.number };
    back = λ n f e x l k b. later There (Later after There) (λ g h. inr h) l f.number (t.back n f (was_live n f e) x l k b);
  }
