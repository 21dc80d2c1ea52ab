-- What the check of a record has read is a draft of the record: a line that it takes may stand there, and the
-- draft behind it is what the check then has.
use Rattle.std.proofs.Common.{ℕ, ◌+◌, ◌<◌, ◌≤◌, List, [], ◌∷◌, ◌++◌, Bool, true, false, length, ◌≡◌, refl, sym, ap, subst, ◌∙◌, arith, Option, Some, None, Ok, Err}
use Rattle.std.specs.Prelude.{nat_le, nat_lt}
use Rattle.std.specs.Option.{option_map}
use Rattle.std.proofs.lemmas.Bool.{and_parts, and_from, le-leb, leb-true}
use Rattle.std.proofs.lemmas.List.Sums.{sum_by-cons}
use Rattle.hmr_types.specs.ModName.{is_text}
use Rattle.core_model.proofs.Naming.{same_true}
use Rattle.core_model.specs.Core.{Event}
use Rattle.core_model.specs.Names.{Name}
use Rattle.core_model.specs.Transcript.{most_bytes, most_entries}
use Rattle.record_text.specs.Order.{after_root, at_first, has_text, may_stand}
use Rattle.record_text.specs.Reading.{entries, with_piece, with_said}
use Rattle.record_text.specs.declared.draft.Draft.{Draft}
use Rattle.record_text.specs.declared.next.Next.{Next}
use Rattle.record_text.specs.declared.record.RecordEvent.{RecordEvent}
use Rattle.record_text.specs.declared.record.RecordLine.{RecordLine}
use Rattle.record_text.specs.declared.record.RecordLine.TheVariants as lines
use Rattle.record_text.specs.declared.said.Said.{Said}
use Rattle.record_text.specs.declared.said.Said.TheVariants as says
use Rattle.record_laws.specs.Answers.{answer_text}
use Rattle.record_laws.specs.Bounds.{entry_bytes, has_place, past_bytes}
use Rattle.record_laws.specs.Course.{Course, in_roots, between, within, Replayed, Taken, answered, begun, first_begun, rested, roots_fault, taken, untold, with_event, with_more}
use Rattle.record_laws.specs.Events.{event_in}
use Rattle.record_laws.specs.Resting.{is_page_with, rests_with}
use Rattle.record_laws.specs.Sound.{AreTrue, IsAtRest, past_behind, past_in, rests_behind}
use Rattle.record_laws.specs.Course.{Opened}
use Rattle.record_laws.specs.declared.verdict.Why.{Why}
use Rattle.record_laws.specs.declared.verdict.Why.TheVariants.{BadLine, Limit, Reply, Rest}
use Rattle.record_laws.proofs.Tables.{page_same}

-- ---- lines behind lines

pub past_more : (past : List Event) (ls ms : List RecordLine) → past_behind past (ls ++ ms) ≡ past_behind (past_behind past ls) ms
past_more past [] ms = refl
past_more past (lines.Entry event reply ∷ ls) ms = past_more (event_in event ∷ past) ls ms
past_more past (lines.Rest client table ∷ ls) ms = past_more past ls ms

pub rests_more : (rests : ℕ) (ls ms : List RecordLine) → rests_behind rests (ls ++ ms) ≡ rests_behind (rests_behind rests ls) ms
rests_more rests [] ms = refl
rests_more rests (lines.Entry event reply ∷ ls) ms = rests_more rests ls ms
rests_more rests (lines.Rest client table ∷ ls) ms = rests_more (rests + 1) ls ms

pub true_more : (roots : List Name) (past : List Event) (ls ms : List RecordLine) → AreTrue roots past ls → AreTrue roots (past_behind past ls) ms → AreTrue roots past (ls ++ ms)
true_more roots past [] ms h k = k
true_more roots past (lines.Entry event reply ∷ ls) ms h k = (h.0, true_more roots (event_in event ∷ past) ls ms h.1 k)
true_more roots past (lines.Rest client table ∷ ls) ms h k = (h.0, true_more roots past ls ms h.1 k)

pub true_behind : (roots : List Name) (past : List Event) (ls ms : List RecordLine) → AreTrue roots past (ls ++ ms) → AreTrue roots (past_behind past ls) ms
true_behind roots past [] ms h = h
true_behind roots past (lines.Entry event reply ∷ ls) ms h = true_behind roots (event_in event ∷ past) ls ms h.1
true_behind roots past (lines.Rest client table ∷ ls) ms h = true_behind roots past ls ms h.1

-- ---- the draft that the check has

-- what may come behind these roots
abbrev pub roots_next : List Name → Next
roots_next [] = at_first
roots_next (root ∷ roots) = after_root

abbrev pub between_next : Bool → Next
between_next may = record { root = false; event = true; text = false; reply = false; rest = may }

abbrev pub within_next : Bool → Next
within_next text = record { root = false; event = false; text = text; reply = true; rest = false }

pub record HasRoots (d : Draft) (roots : List Name) : Type 0 where
  pub roots_are : d.roots ≡ roots
  pub event : d.event ≡ None
  pub lines : d.lines ≡ []
  pub next : d.next ≡ roots_next roots

-- what was replayed is what the lines tell, and it is true
pub record AreReplayed (r : Replayed) (ls : List RecordLine) : Type 0 where
  pub fault : roots_fault r.roots ≡ None
  pub past : r.past ≡ past_in ls
  pub rests : r.rests ≡ rests_behind 0 ls
  pub told : AreTrue r.roots [] ls
  pub few : length r.past ≤ most_entries
  pub small : past_bytes r.past ≤ most_bytes

pub record HasEntries (d : Draft) (r : Replayed) (may : Bool) : Type 0 where
  pub roots_are : d.roots ≡ r.roots
  pub event : d.event ≡ None
  pub next : d.next ≡ between_next may
  pub replayed : AreReplayed r d.lines

pub record HasEvent (d : Draft) (r : Replayed) (opened : Opened) : Type 0 where
  pub roots_are : d.roots ≡ r.roots
  pub event : d.event ≡ Some opened.event
  pub next : d.next ≡ within_next opened.text
  pub replayed : AreReplayed r d.lines
  pub place : has_place r.past (event_in opened.event) ≡ true

abbrev pub IsOf : Draft → Course → Type 0
IsOf d (in_roots roots) = HasRoots d roots
IsOf d (between r may) = HasEntries d r may
IsOf d (within r opened) = HasEvent d r opened

-- a line that is taken may stand, and the draft behind it is what the check then has
pub record Stands (d : Draft) (s : Said) (course : Course) : Type 0 where
  pub may : may_stand s d.next ≡ true
  pub is : IsOf (with_said d s) course

abbrev ok_of : Course → Taken
ok_of course = Ok course

abbrev err_of : ℕ × Why → Taken
err_of wrong = Err wrong

no_course : {C : Type 0} (n : ℕ) (why : Why) (course : Course) → err_of (n, why) ≡ Ok course → C
no_course n why course h = absurd (cc)

-- ---- roots

root_may : (roots : List Name) → (roots_next roots).root ≡ true
root_may [] = refl
root_may (root ∷ roots) = refl

roots_more : (roots : List Name) (name : Name) → after_root ≡ roots_next (roots ++ name ∷ [])
roots_more [] name = refl
roots_more (root ∷ roots) name = refl

pub event_may : (roots : List Name) → roots_fault roots ≡ None → (roots_next roots).event ≡ true
event_may [] h = absurd (cc)
event_may (root ∷ roots) h = refl

root_stands : (d : Draft) (roots : List Name) (name : Name) (course : Course) → HasRoots d roots → ok_of (in_roots (roots ++ name ∷ [])) ≡ Ok course → Stands d (says.Root name) course
root_stands d roots name course h e =
    let is : in_roots (roots ++ name ∷ []) ≡ course = cc in
    record {
      may = ap (λ (x : Next). x.root) h.next ∙ root_may roots;
      is = subst (λ c. IsOf (with_said d (says.Root name)) c) is (record { roots_are = ap (λ rs. rs ++ name ∷ []) h.roots_are; event = h.event; lines = h.lines; next = roots_more roots name });
    }

-- ---- events

with_event_by : (opened : Opened) (r : Replayed) (course : Course) (b : Bool) → has_place r.past (event_in opened.event) ≡ b → with_event opened r ≡ Ok course → (has_place r.past (event_in opened.event) ≡ true) × (within r opened ≡ course)
with_event_by opened r course true e h = let is : ok_of (within r opened) ≡ Ok course = sym (rw e refl) ∙ h in (e, cc)
with_event_by opened r course false e h = let is : err_of (opened.line, Limit) ≡ Ok course = sym (rw e refl) ∙ h in no_course opened.line Limit course is

event_stands : (d : Draft) (r : Replayed) (n : ℕ) (event : RecordEvent) (course : Course) → d.next.event ≡ true → d.roots ≡ r.roots → AreReplayed r d.lines → begun n event r ≡ Ok course → Stands d (says.Event event) course
event_stands d r n event course may roots replayed h =
    let opened : Opened = record { line = n; event = event; text = has_text event } in
    let p = with_event_by opened r course (has_place r.past (event_in event)) refl h in
    record {
      may = may;
      is = subst (λ c. IsOf (with_said d (says.Event event)) c) p.1 (record { roots_are = roots; event = refl; next = refl; replayed = replayed; place = p.0 });
    }

none_told : (roots : List Name) → roots_fault roots ≡ None → AreReplayed (untold roots) []
none_told roots h = record { fault = h; past = refl; rests = refl; told = tt; few = omega arith; small = omega arith }

first_stands : (d : Draft) (roots : List Name) (n : ℕ) (event : RecordEvent) (course : Course) (o : Option Why) → roots_fault roots ≡ o → HasRoots d roots → first_begun o n event roots ≡ Ok course → Stands d (says.Event event) course
first_stands d roots n event course (Some why) e h k = no_course n why course k
first_stands d roots n event course None e h k =
    event_stands d (untold roots) n event course (ap (λ (x : Next). x.event) h.next ∙ event_may roots e) h.roots_are (subst (λ ls. AreReplayed (untold roots) ls) (sym h.lines) (none_told roots e)) k

-- ---- pieces

more_by : (n : ℕ) (more : Bool) (piece : List ℕ) (opened : Opened) (r : Replayed) (course : Course) (b : Bool) → opened.text ≡ b → with_more n more piece opened r ≡ Ok course
    → (opened.text ≡ true) × (has_place r.past (event_in (with_piece piece opened.event)) ≡ true) × (within r (record opened { event = with_piece piece opened.event; text = more }) ≡ course)
more_by n more piece opened r course true e h =
    let next : Opened = record opened { event = with_piece piece opened.event; text = more } in
    let k : with_event next r ≡ Ok course = sym (rw e refl) ∙ h in
    let p = with_event_by next r course (has_place r.past (event_in next.event)) refl k in
    (e, p.0, p.1)
more_by n more piece opened r course false e h = let is : err_of (n, BadLine) ≡ Ok course = sym (rw e refl) ∙ h in no_course n BadLine course is

text_stands : (d : Draft) (r : Replayed) (n : ℕ) (piece : List ℕ) (opened : Opened) (course : Course) → HasEvent d r opened → with_more n true piece opened r ≡ Ok course → Stands d (says.Text piece) course
text_stands d r n piece opened course h k =
    let p = more_by n true piece opened r course opened.text refl k in
    record {
      may = ap (λ (x : Next). x.text) h.next ∙ p.0;
      is = subst (λ c. IsOf (with_said d (says.Text piece)) c) p.2 (record { roots_are = h.roots_are; event = ap (option_map (with_piece piece)) h.event; next = refl; replayed = h.replayed; place = p.1 });
    }

last_stands : (d : Draft) (r : Replayed) (n : ℕ) (piece : List ℕ) (opened : Opened) (course : Course) → HasEvent d r opened → with_more n false piece opened r ≡ Ok course → Stands d (says.Last piece) course
last_stands d r n piece opened course h k =
    let p = more_by n false piece opened r course opened.text refl k in
    record {
      may = ap (λ (x : Next). x.text) h.next ∙ p.0;
      is = subst (λ c. IsOf (with_said d (says.Last piece)) c) p.2 (record { roots_are = h.roots_are; event = ap (option_map (with_piece piece)) h.event; next = refl; replayed = h.replayed; place = p.1 });
    }

-- ---- replies

pub record FitsIn (past : List Event) (event : Event) : Type 0 where
  pub few : length past < most_entries
  pub small : entry_bytes event + past_bytes past ≤ most_bytes

pub place_is : (past : List Event) (event : Event) → has_place past event ≡ true → FitsIn past event
place_is past event h =
    let both = and_parts (nat_lt (length past) most_entries) (nat_le (entry_bytes event + past_bytes past) most_bytes) h in
    record { few = leb-true _ _ both.0; small = leb-true _ _ both.1 }

pub is_place : (past : List Event) (event : Event) → FitsIn past event → has_place past event ≡ true
is_place past event f =
    and_from (nat_lt (length past) most_entries) (nat_le (entry_bytes event + past_bytes past) most_bytes) (le-leb _ _ f.few) (le-leb _ _ f.small)

entry_told : (r : Replayed) (event : RecordEvent) (reply : List ℕ) (ls : List RecordLine) → AreReplayed r ls → has_place r.past (event_in event) ≡ true → reply ≡ answer_text r.roots r.past (event_in event)
    → AreReplayed (record r { past = event_in event ∷ r.past }) (ls ++ lines.Entry event reply ∷ [])
entry_told r event reply ls h place is =
    let f = place_is r.past (event_in event) place in
    let few = f.few in
    record {
      fault = h.fault;
      past = ap (λ past. event_in event ∷ past) h.past ∙ sym (past_more [] ls (lines.Entry event reply ∷ []));
      rests = h.rests ∙ sym (rests_more 0 ls (lines.Entry event reply ∷ []));
      told = true_more r.roots [] ls (lines.Entry event reply ∷ []) h.told (subst (λ past. reply ≡ answer_text r.roots past (event_in event)) h.past is, tt);
      few = omega arith;
      small = subst (λ (k : ℕ). k ≤ most_bytes) (sym (sum_by-cons entry_bytes (event_in event) r.past)) f.small;
    }

answered_by : (n : ℕ) (reply : List ℕ) (opened : Opened) (r : Replayed) (course : Course) (b : Bool) → is_text reply (answer_text r.roots r.past (event_in opened.event)) ≡ b → answered n reply opened r ≡ Ok course
    → (reply ≡ answer_text r.roots r.past (event_in opened.event)) × (between (record r { past = event_in opened.event ∷ r.past }) true ≡ course)
answered_by n reply opened r course true e h =
    let is : ok_of (between (record r { past = event_in opened.event ∷ r.past }) true) ≡ Ok course = sym (rw e refl) ∙ h in
    (same_true reply (answer_text r.roots r.past (event_in opened.event)) e, cc)
answered_by n reply opened r course false e h = let is : err_of (n, Reply) ≡ Ok course = sym (rw e refl) ∙ h in no_course n Reply course is

reply_stands : (d : Draft) (r : Replayed) (n : ℕ) (reply : List ℕ) (opened : Opened) (course : Course) → HasEvent d r opened → answered n reply opened r ≡ Ok course → Stands d (says.Reply reply) course
reply_stands d r n reply opened course h k =
    let p = answered_by n reply opened r course (is_text reply (answer_text r.roots r.past (event_in opened.event))) refl k in
    record {
      may = ap (λ (x : Next). x.reply) h.next;
      is = subst (λ c. IsOf (with_said d (says.Reply reply)) c) p.1 (record {
        roots_are = h.roots_are;
        event = refl;
        next = refl;
        replayed = subst (λ o. AreReplayed (record r { past = event_in opened.event ∷ r.past }) (d.lines ++ entries o reply)) (sym h.event) (entry_told r opened.event reply d.lines h.replayed h.place p.0);
      });
    }

-- ---- clients at rest

rest_told : (r : Replayed) (client : ℕ) (table : List (Name × ℕ)) (ls : List RecordLine) → AreReplayed r ls → IsAtRest r.roots r.past client table → AreReplayed (record r { rests = r.rests + 1 }) (ls ++ lines.Rest client table ∷ [])
rest_told r client table ls h is = record {
  fault = h.fault;
  past = h.past ∙ sym (past_more [] ls (lines.Rest client table ∷ []));
  rests = ap (λ k. k + 1) h.rests ∙ sym (rests_more 0 ls (lines.Rest client table ∷ []));
  told = true_more r.roots [] ls (lines.Rest client table ∷ []) h.told (subst (λ past. IsAtRest r.roots past client table) h.past is, tt);
  few = h.few;
  small = h.small;
}

is_at_rest : (roots : List Name) (past : List Event) (client : ℕ) (table : List (Name × ℕ)) → rests_with roots past client table ≡ true → IsAtRest roots past client table
is_at_rest roots past client table h =
    let both = and_parts _ (is_page_with _ table) h in
    record { rests = both.0; page = page_same _ table both.1 }

rested_in : (n client : ℕ) (table : List (Name × ℕ)) (r : Replayed) (course : Course) (b : Bool) → rests_with r.roots r.past client table ≡ b
    → rested n client table true r ≡ Ok course
    → IsAtRest r.roots r.past client table × (between (record r { rests = r.rests + 1 }) false ≡ course)
rested_in n client table r course true e h =
    let is : ok_of (between (record r { rests = r.rests + 1 }) false) ≡ Ok course = sym (rw e refl) ∙ h in
    (is_at_rest r.roots r.past client table e, cc)
rested_in n client table r course false e h = let is : err_of (n, Rest) ≡ Ok course = sym (rw e refl) ∙ h in no_course n Rest course is

rest_stands : (d : Draft) (r : Replayed) (n client : ℕ) (table : List (Name × ℕ)) (may : Bool) (course : Course) → HasEntries d r may → rested n client table may r ≡ Ok course → Stands d (says.Rest client table) course
rest_stands d r n client table true course h k =
    let p = rested_in n client table r course (rests_with r.roots r.past client table) refl k in
    record {
      may = ap (λ (x : Next). x.rest) h.next;
      is = subst (λ c. IsOf (with_said d (says.Rest client table)) c) p.1 (record { roots_are = h.roots_are; event = h.event; next = refl; replayed = rest_told r client table d.lines h.replayed p.0 });
    }
rest_stands d r n client table false course h k = no_course n BadLine course k

-- ---- a line

pub stands : (d : Draft) (n : ℕ) (s : Said) (now course : Course) → IsOf d now → taken n s now ≡ Ok course → Stands d s course
stands d n (says.Root name) (in_roots roots) course h k = root_stands d roots name course h k
stands d n (says.Event event) (in_roots roots) course h k = first_stands d roots n event course (roots_fault roots) refl h k
stands d n (says.Text piece) (in_roots roots) course h k = no_course n BadLine course k
stands d n (says.Last piece) (in_roots roots) course h k = no_course n BadLine course k
stands d n (says.Reply reply) (in_roots roots) course h k = no_course n BadLine course k
stands d n (says.Rest client table) (in_roots roots) course h k = no_course n BadLine course k
stands d n (says.Root name) (between r may) course h k = no_course n BadLine course k
stands d n (says.Event event) (between r may) course h k = event_stands d r n event course (ap (λ (x : Next). x.event) h.next) h.roots_are h.replayed k
stands d n (says.Text piece) (between r may) course h k = no_course n BadLine course k
stands d n (says.Last piece) (between r may) course h k = no_course n BadLine course k
stands d n (says.Reply reply) (between r may) course h k = no_course n BadLine course k
stands d n (says.Rest client table) (between r may) course h k = rest_stands d r n client table may course h k
stands d n (says.Root name) (within r opened) course h k = no_course n BadLine course k
stands d n (says.Event event) (within r opened) course h k = no_course n BadLine course k
stands d n (says.Text piece) (within r opened) course h k = text_stands d r n piece opened course h k
stands d n (says.Last piece) (within r opened) course h k = last_stands d r n piece opened course h k
stands d n (says.Reply reply) (within r opened) course h k = reply_stands d r n reply opened course h k
stands d n (says.Rest client table) (within r opened) course h k = no_course n BadLine course k
