-- The lines of a sound record are all taken.
use Rattle.std.proofs.Common.{ℕ, ◌+◌, ◌≤◌, List, [], ◌∷◌, ◌++◌, Bool, true, false, length, ◌≡◌, refl, sym, ap, subst, ◌∙◌, arith, append_assoc, Some, None, Ok}
use Rattle.std.specs.Prelude.{not, ◌||◌, nat_lt}
use Rattle.std.specs.Option.{option_map}
use Rattle.std.proofs.lemmas.Bool.{and_from, false≢true, ltb-false}
use Rattle.std.proofs.lemmas.Bool.Decides.{nat_tests}
use Rattle.std.proofs.lemmas.List.Sums.{sum_by-cons}
use Rattle.hmr_types.specs.declared.limits.TheConstants.{ROOTS}
use Rattle.core_model.proofs.Naming.{true_same}
use Rattle.core_model.specs.Core.{Event}
use Rattle.core_model.specs.Names.{Name}
use Rattle.core_model.specs.Roots.{AreRoots, are_bad, are_distinct}
use Rattle.core_model.specs.Transcript.{most_bytes, most_entries}
use Rattle.record_text.specs.Order.{has_text, may_stand}
use Rattle.record_text.specs.Reading.{of_draft, with_piece, with_said}
use Rattle.record_text.specs.declared.draft.Draft.{Draft}
use Rattle.record_text.specs.declared.next.Next.{Next}
use Rattle.record_text.specs.declared.record.RecordEvent.{RecordEvent}
use Rattle.record_text.specs.declared.record.RecordLine.{RecordLine}
use Rattle.record_text.specs.declared.record.RecordLine.TheVariants as lines
use Rattle.record_text.specs.declared.said.Said.{Said}
use Rattle.record_text.specs.declared.said.Said.TheVariants as says
use Rattle.record_laws.specs.Answers.{answer_text}
use Rattle.record_laws.specs.Bounds.{entry_bytes, has_place, past_bytes}
use Rattle.record_laws.specs.Course.{Course, in_roots, between, within, Replayed, answered, begun, first_begun, rested, roots_fault, taken, untold, with_more}
use Rattle.record_laws.specs.Events.{event_in}
use Rattle.record_laws.specs.Resting.{is_page_with, rests_with}
use Rattle.record_laws.specs.Sound.{AreTrue, IsAtRest, IsSound, past_behind, past_in}
use Rattle.record_laws.specs.Course.{Opened}
use Rattle.record_laws.specs.declared.verdict.Why.TheVariants.{Roots}
use Rattle.record_laws.proofs.Extending.{Extends, GoOn}
use Rattle.record_laws.proofs.Simulating.{AreReplayed, HasEntries, HasEvent, HasRoots, IsOf, between_next, is_place, past_more, roots_next, true_behind, within_next}
use Rattle.record_laws.proofs.Tables.{same_page}

-- ---- roots

good_or : (b : Bool) (a c : Bool) → a ≡ false → c ≡ true → (a || not c) ≡ false
good_or b a c e f = rw (e, f) refl

are_good : (roots : List Name) → AreRoots roots → are_bad roots ≡ false
are_good roots h = let few = h.few in good_or true (nat_lt ROOTS (length roots)) (are_distinct roots) (grind (arith, nat_tests)) h.distinct

pub no_fault : (roots : List Name) → AreRoots roots → roots_fault roots ≡ None
no_fault [] h = let some = h.some in absurd (omega arith)
no_fault (root ∷ roots) h = let e = are_good (root ∷ roots) h in rw e refl

bad_parts : (a c : Bool) → (a || not c) ≡ false → (a ≡ false) × (c ≡ true)
bad_parts true c h = absurd (false≢true (sym h))
bad_parts false true h = (refl, refl)
bad_parts false false h = absurd (false≢true (sym h))

roots_of : (root : Name) (roots : List Name) (b : Bool) → are_bad (root ∷ roots) ≡ b → roots_fault (root ∷ roots) ≡ None → AreRoots (root ∷ roots)
roots_of root roots true e h = let is : Some Roots ≡ None = sym (rw e refl) ∙ h in absurd (cc)
roots_of root roots false e h =
    let p = bad_parts (nat_lt ROOTS (length (root ∷ roots))) (are_distinct (root ∷ roots)) e in
    let few = ltb-false ROOTS (length (root ∷ roots)) p.0 in
    record { some = omega arith; few = few; distinct = p.1 }

pub are_roots : (roots : List Name) → roots_fault roots ≡ None → AreRoots roots
are_roots [] h = absurd (cc)
are_roots (root ∷ roots) h = roots_of root roots (are_bad (root ∷ roots)) refl h

-- ---- bounds

behind_longer : (past : List Event) (ls : List RecordLine) → length past ≤ length (past_behind past ls)
behind_longer past [] = omega arith
behind_longer past (lines.Entry event reply ∷ ls) = let more = behind_longer (event_in event ∷ past) ls in omega arith
behind_longer past (lines.Rest client table ∷ ls) = behind_longer past ls

behind_heavier : (past : List Event) (ls : List RecordLine) → past_bytes past ≤ past_bytes (past_behind past ls)
behind_heavier past [] = omega arith
behind_heavier past (lines.Entry event reply ∷ ls) = let more = behind_heavier (event_in event ∷ past) ls in let sum = sum_by-cons entry_bytes (event_in event) past in omega arith
behind_heavier past (lines.Rest client table ∷ ls) = behind_heavier past ls

module _ (f : Draft) (sound : IsSound (of_draft f)) where
  place_on : (r : Replayed) (event : RecordEvent) (done : List RecordLine) → AreReplayed r done → GoOn (Some event) done f.lines → has_place r.past (event_in event) ≡ true
  place_on r event done h g =
      let past = ap (λ ls. past_behind [] ls) g.3 ∙ past_more [] done (lines.Entry g.0 g.1 ∷ g.2) ∙ ap (λ past. past_behind (event_in g.0 ∷ past) g.2) (sym h.past) in
      let few = subst (λ (past : List Event). length past ≤ most_entries) past sound.few in
      let small = subst (λ (past : List Event). past_bytes past ≤ most_bytes) past sound.small in
      let longer = behind_longer (event_in g.0 ∷ r.past) g.2 in
      let heavier = behind_heavier (event_in g.0 ∷ r.past) g.2 in
      let most = g.4 in
      let sum = sum_by-cons entry_bytes (event_in g.0) r.past in
      is_place r.past (event_in event) (record { few = omega arith; small = omega arith })

  told_on : (r : Replayed) (done : List RecordLine) (line : RecordLine) (tail : List RecordLine) → f.roots ≡ r.roots → AreReplayed r done → f.lines ≡ (done ++ line ∷ []) ++ tail → AreTrue r.roots r.past (line ∷ tail)
  told_on r done line tail roots h e =
      let told = subst (λ ls. AreTrue f.roots [] ls) (e ∙ append_assoc done (line ∷ []) tail) sound.told in
      subst (λ past. AreTrue r.roots past (line ∷ tail)) (sym h.past) (subst (λ rs. AreTrue rs (past_in done) (line ∷ tail)) roots (true_behind f.roots [] done (line ∷ tail) told))

  -- ---- a line

  abbrev Takes : ℕ → Said → Course → Type 0
  Takes n s now = (next : Course) × (taken n s now ≡ Ok next)

  takes_event : (n : ℕ) (event : RecordEvent) (r : Replayed) → has_place r.past (event_in event) ≡ true → (next : Course) × (begun n event r ≡ Ok next)
  takes_event n event r place = (within r (record { line = n; event = event; text = has_text event }), rw place refl)

  takes_first : (n : ℕ) (event : RecordEvent) (roots : List Name) → roots_fault roots ≡ None → has_place [] (event_in event) ≡ true → (next : Course) × (first_begun (roots_fault roots) n event roots ≡ Ok next)
  takes_first n event roots fault place = (within (untold roots) (record { line = n; event = event; text = has_text event }), rw (fault, place) refl)

  takes_more : (n : ℕ) (more : Bool) (piece : List ℕ) (opened : Opened) (r : Replayed) → opened.text ≡ true → has_place r.past (event_in (with_piece piece opened.event)) ≡ true → (next : Course) × (with_more n more piece opened r ≡ Ok next)
  takes_more n more piece opened r text place = (within r (record opened { event = with_piece piece opened.event; text = more }), rw (text, place) refl)

  takes_reply : (n : ℕ) (reply : List ℕ) (opened : Opened) (r : Replayed) → reply ≡ answer_text r.roots r.past (event_in opened.event) → (next : Course) × (answered n reply opened r ≡ Ok next)
  takes_reply n reply opened r e =
      let same = true_same reply (answer_text r.roots r.past (event_in opened.event)) e in
      (between (record r { past = event_in opened.event ∷ r.past }) true, rw same refl)

  takes_rest : (n client : ℕ) (table : List (Name × ℕ)) (may : Bool) (r : Replayed) → may ≡ true → IsAtRest r.roots r.past client table → (next : Course) × (rested n client table may r ≡ Ok next)
  takes_rest n client table may r e h =
      let same : rests_with r.roots r.past client table ≡ true = and_from _ (is_page_with _ table) h.rests (same_page _ table h.page) in
      (between (record r { rests = r.rests + 1 }) false, rw (e, same) refl)

  -- what may not stand
  never : {C : Type 0} (get : Next → Bool) (next at : Next) → next ≡ at → get at ≡ false → get next ≡ true → C
  never get next at e f h = absurd (false≢true (sym f ∙ (sym (ap get e) ∙ h)))

  roots_never_text : (roots : List Name) → (roots_next roots).text ≡ false
  roots_never_text [] = refl
  roots_never_text (root ∷ roots) = refl

  roots_never_reply : (roots : List Name) → (roots_next roots).reply ≡ false
  roots_never_reply [] = refl
  roots_never_reply (root ∷ roots) = refl

  roots_never_rest : (roots : List Name) → (roots_next roots).rest ≡ false
  roots_never_rest [] = refl
  roots_never_rest (root ∷ roots) = refl

  event_on : (d : Draft) (event : RecordEvent) (r : Replayed) → AreReplayed r d.lines → Extends (with_said d (says.Event event)) f → has_place r.past (event_in event) ≡ true
  event_on d event r h e = place_on r event d.lines h e.on

  piece_on : (d : Draft) (r : Replayed) (piece : List ℕ) (opened : Opened) → HasEvent d r opened → GoOn (option_map (with_piece piece) d.event) d.lines f.lines → has_place r.past (event_in (with_piece piece opened.event)) ≡ true
  piece_on d r piece opened h g = place_on r (with_piece piece opened.event) d.lines h.replayed (subst (λ o. GoOn (option_map (with_piece piece) o) d.lines f.lines) h.event g)

  in_roots_takes : (d : Draft) (n : ℕ) (s : Said) (roots : List Name) → HasRoots d roots → may_stand s d.next ≡ true → Extends (with_said d s) f → Takes n s (in_roots roots)
  in_roots_takes d n (says.Root name) roots h may e = (in_roots (roots ++ name ∷ []), refl)
  in_roots_takes d n (says.Event event) roots h may e =
      let fault : roots_fault roots ≡ None = no_fault roots (subst AreRoots (e.roots refl ∙ h.roots_are) sound.roots) in
      let none : AreReplayed (untold roots) [] = record { fault = fault; past = refl; rests = refl; told = tt; few = omega arith; small = omega arith } in
      takes_first n event roots fault (place_on (untold roots) event [] none (subst (λ ls. GoOn (Some event) ls f.lines) h.lines e.on))
  in_roots_takes d n (says.Text piece) roots h may e = never (λ x. x.text) d.next (roots_next roots) h.next (roots_never_text roots) may
  in_roots_takes d n (says.Last piece) roots h may e = never (λ x. x.text) d.next (roots_next roots) h.next (roots_never_text roots) may
  in_roots_takes d n (says.Reply reply) roots h may e = never (λ x. x.reply) d.next (roots_next roots) h.next (roots_never_reply roots) may
  in_roots_takes d n (says.Rest client table) roots h may e = never (λ x. x.rest) d.next (roots_next roots) h.next (roots_never_rest roots) may

  between_takes : (d : Draft) (n : ℕ) (s : Said) (r : Replayed) (allowed : Bool) → HasEntries d r allowed → may_stand s d.next ≡ true → Extends (with_said d s) f → Takes n s (between r allowed)
  between_takes d n (says.Root name) r allowed h may e = never (λ x. x.root) d.next (between_next allowed) h.next refl may
  between_takes d n (says.Event event) r allowed h may e = takes_event n event r (event_on d event r h.replayed e)
  between_takes d n (says.Text piece) r allowed h may e = never (λ x. x.text) d.next (between_next allowed) h.next refl may
  between_takes d n (says.Last piece) r allowed h may e = never (λ x. x.text) d.next (between_next allowed) h.next refl may
  between_takes d n (says.Reply reply) r allowed h may e = never (λ x. x.reply) d.next (between_next allowed) h.next refl may
  between_takes d n (says.Rest client table) r allowed h may e =
      let g = subst (λ o. GoOn o (d.lines ++ lines.Rest client table ∷ []) f.lines) h.event e.on in
      takes_rest n client table allowed r (sym (ap (λ (x : Next). x.rest) h.next) ∙ may) (told_on r d.lines (lines.Rest client table) g.0 (e.roots refl ∙ h.roots_are) h.replayed g.1).0

  within_takes : (d : Draft) (n : ℕ) (s : Said) (r : Replayed) (opened : Opened) → HasEvent d r opened → may_stand s d.next ≡ true → Extends (with_said d s) f → Takes n s (within r opened)
  within_takes d n (says.Root name) r opened h may e = never (λ x. x.root) d.next (within_next opened.text) h.next refl may
  within_takes d n (says.Event event) r opened h may e = never (λ x. x.event) d.next (within_next opened.text) h.next refl may
  within_takes d n (says.Text piece) r opened h may e = takes_more n true piece opened r (sym (ap (λ (x : Next). x.text) h.next) ∙ may) (piece_on d r piece opened h e.on)
  within_takes d n (says.Last piece) r opened h may e = takes_more n false piece opened r (sym (ap (λ (x : Next). x.text) h.next) ∙ may) (piece_on d r piece opened h e.on)
  within_takes d n (says.Reply reply) r opened h may e =
      let g = e.on in
      let same : f.lines ≡ (d.lines ++ lines.Entry opened.event reply ∷ []) ++ g.0 = g.1 ∙ ap (λ o. (d.lines ++ Rattle.record_text.specs.Reading.entries o reply) ++ g.0) h.event in
      takes_reply n reply opened r (told_on r d.lines (lines.Entry opened.event reply) g.0 (e.roots refl ∙ h.roots_are) h.replayed same).0
  within_takes d n (says.Rest client table) r opened h may e = never (λ x. x.rest) d.next (within_next opened.text) h.next refl may

  pub takes : (d : Draft) (n : ℕ) (s : Said) (now : Course) → IsOf d now → may_stand s d.next ≡ true → Extends (with_said d s) f → (next : Course) × (taken n s now ≡ Ok next)
  takes d n s (in_roots roots) h may e = in_roots_takes d n s roots h may e
  takes d n s (between r allowed) h may e = between_takes d n s r allowed h may e
  takes d n s (within r opened) h may e = within_takes d n s r opened h may e
