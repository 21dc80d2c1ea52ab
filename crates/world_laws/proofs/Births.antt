-- The frames that a plan leaves once it is applied.
use Rattle.std.proofs.Common.{◌≡◌, ℕ, suc, ◌+◌, Bool, true, false, List, [], ◌∷◌, ◌++◌, length, refl, ap, sym, ◌∙◌, Contains}
use Rattle.std.specs.Prelude.{map, cond, ◌||◌, Option, Some, None, is_some, if◌then◌else◌}
use Rattle.std.specs.Option.{option_or}
use Rattle.std.proofs.Math.Path.{subst}
use Rattle.std.proofs.lemmas.Bool.{false≢true}
use Rattle.std.proofs.lemmas.List.{length-map}
use Rattle.std.proofs.lemmas.Option.{same_Some}
use Rattle.core_model.specs.Names.{Name, same_name, has, at}
use Rattle.core_model.specs.Sources.{Text, text_or_none}
use Rattle.core_model.specs.View.{Entry, imports_of}
use Rattle.core_model.specs.Page.{Plan, entry_at, applied}
use Rattle.core_model.proofs.Naming.{or_left, or_right, same_true, true_same}
use Rattle.client_model.specs.Language.{Language}
use Rattle.client_model.specs.Instance.{live_at}
use Rattle.client_model.specs.Runtime.{Runtime, Did, for_each}
use Rattle.client_model.specs.Linking.{new_names, number_after, number_in, links_after, place_of, exports_of}
use Rattle.client_model.specs.Making.{Birth, make}
use Rattle.client_model.specs.Applying.{birth_of, births, end_old, tell_all, apply}
use Rattle.client_model.proofs.Acts.{before_finish, kept_applying, by_make}
use Rattle.client_model.proofs.Staying.{Stays, page_kept}
use Rattle.world_laws.proofs.Members.{head_in, tail_in}
use Rattle.world_laws.proofs.Frames.{Frame, frame, frames, cut, ended_by, made_on, made_at, names_in, AllLive, NumberedFrom, Distinct, live_one, live_made, live_cut, Numbered, cut_numbered, made_numbered, cut_length}
use Rattle.world_laws.proofs.Orders.{left_once, filter_once, CountsFrom, places_count}
use Rattle.world_laws.proofs.Ending.{ended_names, ends_old, same_tell_all, same_set_aside}

abbrev pub birth_frame : Birth → Frame
birth_frame b = record { number = b.number; name = b.name; version = b.entry.version; text = b.text; exports = b.entry.analysis.exports; links = b.links; live = true }

-- the version of a module, 0 for none
abbrev pub version_of : Option Entry → ℕ
version_of None = 0
version_of (Some e) = e.version

-- the frame of a new instance
abbrev pub new_frame : Plan → Runtime → Name → Frame
new_frame p r n =
    let entry : Option Entry = entry_at p r.page.view n in
    record { number = suc (length r.instances) + place_of (new_names p r) n; name = n; version = version_of entry; text = text_or_none (at r.texts n); exports = exports_of entry; links = links_after p r (imports_of entry); live = true }

-- each new name has what its instance is made of
abbrev pub Ready : Plan → Runtime → Type 0
Ready p r = (n : Name) → has (new_names p r) n ≡ true → (is_some (entry_at p r.page.view n) ≡ true) × (is_some (at r.texts n) ≡ true)

one_birth : (o : Option Entry) (t : Option Text) (k : Option ℕ) (j : ℕ) (links : List Name → List (Name × ℕ)) (n : Name) (rest : List Birth) → is_some o ≡ true → is_some t ≡ true → k ≡ Some j
    → map birth_frame (birth_of o t k links n ++ rest) ≡ record { number = j; name = n; version = version_of o; text = text_or_none t; exports = exports_of o; links = links (imports_of o); live = true } ∷ map birth_frame rest
one_birth None t k j links n rest h g e = absurd (false≢true h)
one_birth (Some o) None k j links n rest h g e = absurd (false≢true g)
one_birth (Some o) (Some t) None j links n rest h g e = absurd (false≢true (ap is_some e))
one_birth (Some o) (Some t) (Some k) j links n rest h g e = ap (λ i. record { number = i; name = n; version = o.version; text = t; exports = o.analysis.exports; links = links o.analysis.imports; live = true } ∷ map birth_frame rest) (same_Some k j e)

pub number_new : (p : Plan) (r : Runtime) (n : Name) → has (new_names p r) n ≡ true → number_after p r n ≡ Some (suc (length r.instances) + place_of (new_names p r) n)
number_new p r n h = ap (λ b. if b then Some (suc (length r.instances) + place_of (new_names p r) n) else number_in (live_at r.instances n)) h

pub births_are : (p : Plan) (r : Runtime) → Ready p r → (names : List Name) → ((n : Name) → has names n ≡ true → has (new_names p r) n ≡ true) → map birth_frame (births names p r) ≡ map (new_frame p r) names
births_are p r ready [] h = refl
births_are p r ready (n ∷ names) h =
    let new : has (new_names p r) n ≡ true = h n (or_left (same_name n n) _ (true_same n n refl)) in
    one_birth (entry_at p r.page.view n) (at r.texts n) (number_after p r n) (suc (length r.instances) + place_of (new_names p r) n) (links_after p r) n (births names p r) (ready n new).0 (ready n new).1 (number_new p r n new)
    ∙ ap (λ fs. new_frame p r n ∷ fs) (births_are p r ready names (λ m t. h m (or_right (same_name n m) _ t)))

made_frame : (language : Language) (b : Birth) (r : Runtime) → frames (make language b r).0.instances ≡ birth_frame b ∷ frames r.instances
made_frame language b r = by_make (λ did. frames did.0.instances ≡ birth_frame b ∷ frames r.instances) language b r refl refl

made_frames : (language : Language) (bs : List Birth) (r : Runtime) → frames (for_each (make language) bs r).0.instances ≡ made_on (map birth_frame bs) (frames r.instances)
made_frames language [] r = refl
made_frames language (b ∷ bs) r = made_frames language bs (make language b r).0 ∙ ap (made_on (map birth_frame bs)) (made_frame language b r)

-- the new instances of a plan
abbrev pub news : Plan → Runtime → List Frame
news p r = map (new_frame p r) (new_names p r)

-- those before it that it leaves
abbrev pub olds : Plan → Runtime → List Frame
olds p r = cut (ended_by (ended_names p.kind p r) (frames r.instances)) (frames r.instances)

abbrev pub frames_after : Plan → Runtime → List Frame
frames_after p r = made_on (news p r) (olds p r)

-- once the new instances are made
pub born_frames : (language : Language) (p : Plan) (r : Runtime) → Ready p r → frames (for_each (make language) (births (new_names p r) p r) (end_old p.kind language p r).0).0.instances ≡ frames_after p r
born_frames language p r ready =
    let ended : Did = end_old p.kind language p r in
    made_frames language (births (new_names p r) p r) ended.0
    ∙ ap (λ bs. made_on bs (frames ended.0.instances)) (births_are p r ready (new_names p r) (λ n h. h))
    ∙ ap (made_on (news p r)) (ends_old p.kind language p r)

pub applied_frames : (language : Language) (p : Plan) (r : Runtime) → Ready p r → frames (apply language p r).0.instances ≡ frames_after p r
applied_frames language p r ready =
    let ended : Did = end_old p.kind language p r in
    let born : Did = for_each (make language) (births (new_names p r) p r) ended.0 in
    let told : Did = tell_all p.kind language p r born.0 in
    same_set_aside language p r told.0 ∙ same_tell_all p.kind language p r born.0 ∙ born_frames language p r ready

pub applied_page : (language : Language) (p : Plan) (r : Runtime) → (apply language p r).0.page ≡ applied r.roots p r.page
applied_page language p r =
    let k : Stays r (before_finish language p r) = kept_applying Stays page_kept language p r in
    ap (λ roots. applied roots p (before_finish language p r).0.page) k.roots ∙ ap (applied r.roots p) k.page

pub applied_client : (language : Language) (p : Plan) (r : Runtime) → (apply language p r).0.client ≡ r.client
applied_client language p r = (kept_applying Stays page_kept language p r).client

-- Facts of the new ones.

names_are : (p : Plan) (r : Runtime) (names : List Name) → names_in (map (new_frame p r) names) ≡ names
names_are p r [] = refl
names_are p r (n ∷ names) = ap (λ ns. n ∷ ns) (names_are p r names)

pub news_names : (p : Plan) (r : Runtime) → names_in (news p r) ≡ new_names p r
news_names p r = names_are p r (new_names p r)

pub news_once : (p : Plan) (r : Runtime) → Distinct (names_in (news p r))
news_once p r = subst Distinct (sym (news_names p r)) (filter_once _ _ (left_once r.roots p r.page.view))

live_news : (p : Plan) (r : Runtime) (names : List Name) → AllLive (map (new_frame p r) names)
live_news p r [] = tt
live_news p r (n ∷ names) = (refl, live_news p r names)

made_new : (p : Plan) (r : Runtime) (names : List Name) (n : Name) → made_at (map (new_frame p r) names) n ≡ (if has names n then Some (new_frame p r n) else None)
made_new p r [] n = refl
made_new p r (m ∷ names) n = by (same_name m n) (same_true m n) (made_new p r names n)
  where
    by : (b : Bool) → (b ≡ true → m ≡ n) → made_at (map (new_frame p r) names) n ≡ (if has names n then Some (new_frame p r n) else None) → cond b (Some (new_frame p r m)) (made_at (map (new_frame p r) names) n) ≡ (if b || has names n then Some (new_frame p r n) else None)
    by true e h = ap (λ k. Some (new_frame p r k)) (e refl)
    by false e h = h

from_counts : (p : Plan) (r : Runtime) (k : ℕ) (names : List Name) → CountsFrom (suc k) (λ n. suc (length r.instances) + place_of (new_names p r) n) names → NumberedFrom k (map (new_frame p r) names)
from_counts p r k [] c = tt
from_counts p r k (n ∷ names) c = (c.0, from_counts p r (suc k) names c.1)

pub news_numbered : (p : Plan) (r : Runtime) → NumberedFrom (length (olds p r)) (news p r)
news_numbered p r = subst (λ k. NumberedFrom k (news p r)) (sym (cut_length (ended_by (ended_names p.kind p r) (frames r.instances)) (frames r.instances) ∙ length-map r.instances frame))
    (from_counts p r (length r.instances) (new_names p r) (places_count (suc (length r.instances)) (new_names p r) (filter_once _ _ (left_once r.roots p r.page.view))))

pub numbered_after : (p : Plan) (r : Runtime) → Numbered (frames r.instances) → Numbered (frames_after p r)
numbered_after p r d = made_numbered (news p r) (olds p r) (news_numbered p r) (cut_numbered (ended_by (ended_names p.kind p r) (frames r.instances)) (frames r.instances) d)

either : (b : Bool) (x : Frame) (o : Option Frame) → option_or (if b then Some x else None) o ≡ (if b then Some x else o)
either true x o = refl
either false x o = refl

-- the live one of a name: the new one, none where the old one ended, else the old one
pub live_after : (p : Plan) (r : Runtime) → Numbered (frames r.instances) → (n : Name) → live_one (frames_after p r) n ≡ (if has (new_names p r) n then Some (new_frame p r n) else (if ended_names p.kind p r n then None else live_one (frames r.instances) n))
live_after p r d n = live_made (news p r) (olds p r) n (news_once p r) (live_news p r (new_names p r))
    ∙ ap (λ o. option_or o (live_one (olds p r) n)) (made_new p r (new_names p r) n)
    ∙ either (has (new_names p r) n) (new_frame p r n) (live_one (olds p r) n)
    ∙ ap (λ o. if has (new_names p r) n then Some (new_frame p r n) else o) (live_cut (ended_names p.kind p r) (frames r.instances) d n)

-- the new one is among them
pub new_there : (p : Plan) (r : Runtime) (names : List Name) (n : Name) → has names n ≡ true → Contains (map (new_frame p r) names) (new_frame p r n)
new_there p r [] n h = absurd (false≢true h)
new_there p r (m ∷ names) n h = by (same_name m n) refl (new_there p r names n) h
  where
    by : (b : Bool) → same_name m n ≡ b → (has names n ≡ true → Contains (map (new_frame p r) names) (new_frame p r n)) → (b || has names n) ≡ true → Contains (new_frame p r m ∷ map (new_frame p r) names) (new_frame p r n)
    by true s rest h = subst (λ k. Contains (new_frame p r m ∷ map (new_frame p r) names) (new_frame p r k)) (same_true m n s) (head_in (new_frame p r m) (map (new_frame p r) names))
    by false s rest h = tail_in (new_frame p r m) (map (new_frame p r) names) (new_frame p r n) (rest h)
