-- The check says yes exactly of sound records.
use Rattle.std.proofs.Common.{ℕ, ◌+◌, ◌≤◌, List, [], ◌∷◌, Bool, true, false, length, ◌≡◌, refl, sym, ap, subst, ◌∙◌, arith, Option, Some, None, Result, Ok, Err}
use Rattle.std.proofs.lemmas.Bool.{false≢true}
use Rattle.hmr_types.specs.Results.{◌>>=◌}
use Rattle.play_script.specs.Script.{Line, lines_from}
use Rattle.core_model.specs.Core.{Event}
use Rattle.core_model.specs.Names.{Name}
use Rattle.core_model.specs.Roots.{AreRoots}
use Rattle.core_model.specs.Transcript.{most_bytes, most_entries}
use Rattle.record_text.specs.Lines.{said_of}
use Rattle.record_text.specs.Order.{may_stand}
use Rattle.record_text.specs.Reading.{all_read, beginning, line_read, of_draft, or_bad, whole, with_said}
use Rattle.record_text.specs.declared.draft.Draft.{Draft}
use Rattle.record_text.specs.declared.next.Next.{Next}
use Rattle.record_text.specs.declared.record.Record.{Record}
use Rattle.record_text.specs.declared.said.Said.{Said}
use Rattle.record_laws.specs.Bounds.{past_bytes}
use Rattle.record_laws.specs.Course.{Course, in_roots, between, within, Replayed, Taken, at_end, judged, line_taken, or_no, read_as, roots_alone, roots_fault, taken, verdict_of}
use Rattle.record_laws.specs.Sound.{IsSound, IsSoundText, past_in, rests_behind}
use Rattle.record_laws.specs.declared.verdict.Verdict.{Verdict}
use Rattle.record_laws.specs.declared.verdict.Verdict.TheVariants.{No, Yes}
use Rattle.record_laws.specs.declared.verdict.Why.{Why}
use Rattle.record_laws.specs.declared.verdict.Why.TheVariants.{BadLine}
use Rattle.record_laws.proofs.Extending.{Extends, Waits, all_reads, end_reads, extends, waits_behind}
use Rattle.record_laws.proofs.Simulating.{HasEntries, HasRoots, IsOf, event_may, stands}
use Rattle.record_laws.proofs.Taking.{are_roots, no_fault, takes}

-- ---- from yes to a sound record

-- a sound record is read
pub record IsFound (d : Draft) (n : ℕ) (ls : List Line) (steps rests : ℕ) : Type 0 where
  pub whole : Draft
  pub read : all_read d n ls ≡ Ok whole
  pub sound : IsSound (of_draft whole)
  pub steps_are : steps ≡ length (past_in whole.lines)
  pub rests_are : rests ≡ rests_behind 0 whole.lines

whole_at : (d : Draft) (n : ℕ) → d.next.event ≡ true → whole n d ≡ Ok d
whole_at d n e = rw e refl

same_yes : (a b c d : ℕ) → Yes a b ≡ Yes c d → (a ≡ c) × (b ≡ d)
same_yes a b c d h = (cc, cc)

not_no : {C : Type 0} (n : ℕ) (why : Why) (steps rests : ℕ) → No n why ≡ Yes steps rests → C
not_no n why steps rests h = absurd (cc)

empty_sound : (roots : List Name) → AreRoots roots → IsSound (record { roots = roots; lines = [] })
empty_sound roots h = record { roots = h; few = omega arith; small = omega arith; told = tt }

alone_sound : (d : Draft) (roots : List Name) → HasRoots d roots → AreRoots roots → IsSound (of_draft d)
alone_sound d roots h good =
    subst (λ rs. IsSound (record { roots = rs; lines = d.lines })) (sym h.roots_are)
    (subst (λ ls. IsSound (record { roots = roots; lines = ls })) (sym h.lines) (empty_sound roots good))

roots_end : (d : Draft) (n : ℕ) (roots : List Name) (steps rests : ℕ) (o : Option Why) → roots_fault roots ≡ o → HasRoots d roots → roots_alone o n ≡ Yes steps rests → IsFound d n [] steps rests
roots_end d n roots steps rests (Some why) e h k = not_no n why steps rests k
roots_end d n roots steps rests None e h k =
    let counts = same_yes 0 0 steps rests k in
    record {
      whole = d;
      read = whole_at d n (ap (λ (x : Next). x.event) h.next ∙ event_may roots e);
      sound = alone_sound d roots h (are_roots roots e);
      steps_are = sym counts.0 ∙ sym (ap (λ ls. length (past_in ls)) h.lines);
      rests_are = sym counts.1 ∙ sym (ap (λ ls. rests_behind 0 ls) h.lines);
    }

entries_sound : (d : Draft) (r : Replayed) (may : Bool) → HasEntries d r may → IsSound (of_draft d)
entries_sound d r may h =
    let replayed = h.replayed in
    subst (λ rs. IsSound (record { roots = rs; lines = d.lines })) (sym h.roots_are)
    (record {
      roots = are_roots r.roots replayed.fault;
      few = subst (λ (past : List Event). length past ≤ most_entries) replayed.past replayed.few;
      small = subst (λ (past : List Event). past_bytes past ≤ most_bytes) replayed.past replayed.small;
      told = replayed.told;
    })

entries_end : (d : Draft) (n : ℕ) (r : Replayed) (may : Bool) (steps rests : ℕ) → HasEntries d r may → Yes (length r.past) r.rests ≡ Yes steps rests → IsFound d n [] steps rests
entries_end d n r may steps rests h k =
    let counts = same_yes (length r.past) r.rests steps rests k in
    record {
      whole = d;
      read = whole_at d n (ap (λ (x : Next). x.event) h.next);
      sound = entries_sound d r may h;
      steps_are = sym counts.0 ∙ ap length h.replayed.past;
      rests_are = sym counts.1 ∙ h.replayed.rests;
    }

found_at_end : (d : Draft) (n : ℕ) (c : Course) (steps rests : ℕ) → IsOf d c → at_end n c ≡ Yes steps rests → IsFound d n [] steps rests
found_at_end d n (in_roots roots) steps rests h k = roots_end d n roots steps rests (roots_fault roots) refl h k
found_at_end d n (between r may) steps rests h k = entries_end d n r may steps rests h k
found_at_end d n (within r opened) steps rests h k = not_no n BadLine steps rests k

-- a line that is taken
record IsLine (line : List ℕ) (ended : Bool) (n : ℕ) (c next : Course) : Type 0 where
  pub is_ended : ended ≡ true
  pub what : Said
  pub says : said_of line ≡ Some what
  pub is : taken n what c ≡ Ok next

line_says : (line : List ℕ) (n : ℕ) (c next : Course) (o : Option Said) → said_of line ≡ o → read_as n o c ≡ Ok next → IsLine line true n c next
line_says line n c next None e h = absurd (cc)
line_says line n c next (Some what) e h = record { is_ended = refl; what = what; says = e; is = h }

line_is : (line : List ℕ) (ended : Bool) (n : ℕ) (c next : Course) → line_taken n line ended c ≡ Ok next → IsLine line ended n c next
line_is line true n c next h = line_says line n c next (said_of line) refl h
line_is line false n c next h = absurd (cc)

line_read_as : (d : Draft) (line : List ℕ) (ended : Bool) (what : Said) → ended ≡ true → said_of line ≡ Some what → may_stand what d.next ≡ true → line_read d line ended ≡ Some (with_said d what)
line_read_as d line ended what e says may = rw (e, says, may) refl

with_line : (d : Draft) (n : ℕ) (line : Line) (more : List Line) (next whole : Draft) → line_read d line.bytes line.ended ≡ Some next → all_read next (n + 1) more ≡ Ok whole → all_read d n (line ∷ more) ≡ Ok whole
with_line d n line more next whole e h = ap (λ o. or_bad n o >>= λ x. all_read x (n + 1) more) e ∙ h

found_line : (d : Draft) (n : ℕ) (line : Line) (more : List Line) (c next : Course) (steps rests : ℕ) → IsOf d c → IsLine line.bytes line.ended n c next
    → ((e : Draft) → IsOf e next → IsFound e (n + 1) more steps rests) → IsFound d n (line ∷ more) steps rests
found_line d n line more c next steps rests h is below =
    let s = stands d n is.what c next h is.is in
    let found = below (with_said d is.what) s.is in
    record {
      whole = found.whole;
      read = with_line d n line more (with_said d is.what) found.whole (line_read_as d line.bytes line.ended is.what is.is_ended is.says s.may) found.read;
      sound = found.sound;
      steps_are = found.steps_are;
      rests_are = found.rests_are;
    }

found_by : (d : Draft) (n : ℕ) (line : Line) (more : List Line) (c : Course) (steps rests : ℕ) (o : Taken) → line_taken n line.bytes line.ended c ≡ o → IsOf d c → or_no o (λ next. judged next (n + 1) more) ≡ Yes steps rests
    → ((next : Course) (e : Draft) → IsOf e next → judged next (n + 1) more ≡ Yes steps rests → IsFound e (n + 1) more steps rests) → IsFound d n (line ∷ more) steps rests
found_by d n line more c steps rests (Err wrong) e h k below = not_no wrong.0 wrong.1 steps rests k
found_by d n line more c steps rests (Ok next) e h k below =
    found_line d n line more c next steps rests h (line_is line.bytes line.ended n c next e) (λ x is. below next x is k)

found : (ls : List Line) (d : Draft) (n : ℕ) (c : Course) (steps rests : ℕ) → IsOf d c → judged c n ls ≡ Yes steps rests → IsFound d n ls steps rests
found [] d n c steps rests h k = found_at_end d n c steps rests h k
found (line ∷ more) d n c steps rests h k =
    found_by d n line more c steps rests (line_taken n line.bytes line.ended c) refl h k (λ next e is l. found more e (n + 1) next steps rests is l)

at_beginning : IsOf beginning (in_roots [])
at_beginning = record { roots_are = refl; event = refl; lines = refl; next = refl }

pub yes_is_sound : (text : List ℕ) (steps rests : ℕ) → verdict_of text ≡ Yes steps rests → IsSoundText text steps rests
yes_is_sound text steps rests h =
    let f = found (lines_from [] text) beginning 1 (in_roots []) steps rests at_beginning h in
    record {
      meant = of_draft f.whole;
      read = ap (λ x. x >>= λ draft. Ok (of_draft draft)) f.read;
      sound = f.sound;
      steps_are = f.steps_are;
      rests_are = f.rests_are;
    }

-- ---- from a sound record to yes

abbrev Counts : Draft → Verdict
Counts d = Yes (length (past_in d.lines)) (rests_behind 0 d.lines)

roots_yes : (d : Draft) (n : ℕ) (roots : List Name) → HasRoots d roots → IsSound (of_draft d) → roots_alone (roots_fault roots) n ≡ Counts d
roots_yes d n roots h sound =
    let fault : roots_fault roots ≡ None = no_fault roots (subst AreRoots h.roots_are sound.roots) in
    ap (λ o. roots_alone o n) fault ∙ sym (ap (λ ls. Yes (length (past_in ls)) (rests_behind 0 ls)) h.lines)

end_yes : (d : Draft) (n : ℕ) (c : Course) → IsOf d c → d.next.event ≡ true → IsSound (of_draft d) → at_end n c ≡ Counts d
end_yes d n (in_roots roots) h may sound = roots_yes d n roots h sound
end_yes d n (between r allowed) h may sound = ap (λ past. Yes (length past) r.rests) h.replayed.past ∙ ap (λ k. Yes (length (past_in d.lines)) k) h.replayed.rests
end_yes d n (within r opened) h may sound = absurd (false≢true (sym (ap (λ (x : Next). x.event) h.next) ∙ may))

line_taken_as : (n : ℕ) (line : List ℕ) (ended : Bool) (what : Said) (c next : Course) → ended ≡ true → said_of line ≡ Some what → taken n what c ≡ Ok next → line_taken n line ended c ≡ Ok next
line_taken_as n line ended what c next e says is = rw (e, says) is

-- behind an event something waits, and behind nothing else
waits_at : (d : Draft) (c : Course) → IsOf d c → Waits d.event d.next
waits_at d (in_roots roots) h = subst (λ o. Waits o d.next) (sym h.event) tt
waits_at d (between r may) h = subst (λ o. Waits o d.next) (sym h.event) tt
waits_at d (within r opened) h = subst (λ o. Waits o d.next) (sym h.event)
    (ap (λ (x : Next). x.root) h.next, ap (λ (x : Next). x.event) h.next, ap (λ (x : Next). x.rest) h.next)

judged_yes : (ls : List Line) (d : Draft) (n : ℕ) (c : Course) (f : Draft) → IsOf d c → all_read d n ls ≡ Ok f → IsSound (of_draft f) → judged c n ls ≡ Counts f
judged_yes [] d n c f h read sound =
    let e = end_reads d n f d.next.event refl read in
    subst (λ x. at_end n c ≡ Counts x) e.is (end_yes d n c h e.may (subst (λ x. IsSound (of_draft x)) (sym e.is) sound))
judged_yes (line ∷ more) d n c f h read sound =
    let r = all_reads d n line more f read in
    let waits = waits_behind d r.next line.bytes line.ended (waits_at d c h) r.first in
    let on = extends r.next (n + 1) more f waits r.below in
    let t = takes f sound d n r.first.what c h r.first.may (subst (λ x. Extends x f) (sym r.first.is) on) in
    let s = stands d n r.first.what c t.0 h t.1 in
    let rest = judged_yes more r.next (n + 1) t.0 f (subst (λ x. IsOf x t.0) r.first.is s.is) r.below sound in
    ap (λ o. or_no o (λ next. judged next (n + 1) more)) (line_taken_as n line.bytes line.ended r.first.what c t.0 r.first.is_ended r.first.says t.1) ∙ rest

record IsReadSo (text : List ℕ) (r : Record) : Type 0 where
  pub whole : Draft
  pub read : all_read beginning 1 (lines_from [] text) ≡ Ok whole
  pub is : of_draft whole ≡ r

read_so_by : (text : List ℕ) (r : Record) (x : Result Draft ℕ) → all_read beginning 1 (lines_from [] text) ≡ x → (x >>= λ draft. Ok (of_draft draft)) ≡ Ok r → IsReadSo text r
read_so_by text r (Ok whole) e h = record { whole = whole; read = e; is = cc }
read_so_by text r (Err n) e h = absurd (cc)

pub sound_is_yes : (text : List ℕ) (steps rests : ℕ) → IsSoundText text steps rests → verdict_of text ≡ Yes steps rests
sound_is_yes text steps rests s =
    let read = read_so_by text s.meant (all_read beginning 1 (lines_from [] text)) refl s.read in
    let yes = judged_yes (lines_from [] text) beginning 1 (in_roots []) read.whole at_beginning read.read (subst IsSound (sym read.is) s.sound) in
    yes ∙ (ap (λ (r : Record). Yes (length (past_in r.lines)) (rests_behind 0 r.lines)) read.is
    ∙ (ap (λ k. Yes k (rests_behind 0 s.meant.lines)) (sym s.steps_are) ∙ ap (λ k. Yes steps k) (sym s.rests_are)))
