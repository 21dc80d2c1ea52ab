-- The edits of an editor, one after another, and the jobs that it works itself.
use Rattle.std.proofs.Common.{◌≡◌, inl, inr, ◌<◌, ◌+◌, ℕ, suc, Bool, true, false, List, [], ◌∷◌, ◌++◌, length, map, take, drop, get_or, refl, ap, sym, ◌∙◌, subst, append_assoc, arith}
use Prim.{⊥}
use Rattle.std.specs.Prelude.{◌&&◌, All, IfErr, Result, flat_map, Some, None, Ok, Err, if◌then◌else◌}
use Rattle.std.proofs.Math.ListN.{set}
use Rattle.std.specs.List.Sorted.{IsPermutation}
use Rattle.std.proofs.lemmas.Bool.{false≢true}
use Rattle.std.proofs.lemmas.Grind.{flat_map-append}
use Rattle.std.proofs.lemmas.List.{append-nil, drop_more, map-append, nil_from_length, set_split, take-append-drop}
use Rattle.std.proofs.lemmas.List.Elements.{All-cons, All-head, All-nil, All-push, All-tail, All-weaker}
use Rattle.std.proofs.lemmas.List.Sorted.{IsPermutation-append_comm, IsPermutation-append_left, IsPermutation-append_right, IsPermutation-refl, IsPermutation-trans, length_permutation}
use Rattle.core_model.specs.Names.{same_name}
use Rattle.core_model.specs.Transcript.{Recorded, reply_after}
use Rattle.events_and_replies.specs.Said.{said}
use Rattle.turn_lock.specs.Histories.{calls}
use Rattle.transform_pool.specs.Tasks.{Task}
use Rattle.hmr_hub.specs.declared.pass.Pass.{Pass}
use Rattle.hmr_hub.specs.Passes.{is_alone, seen_of}
use Rattle.version_map.specs.declared.outcome.EditOutcome.TheVariants.{Job, Same, Removed}
use Rattle.hmr_hub.specs.Moves.{Moved, own_of}
use Rattle.hmr_hub.proofs.Moves.{moved_no_more, moved_none, moved_then}
use Rattle.hub_editor.specs.declared.worked.Worked.{Worked}
use Rattle.hub_editor.specs.declared.worked.Worked.TheVariants.{No, AtOnce, AtEnd}
use Rattle.hub_editor.specs.Edits.{Answer, Edit, Made, counted_by, edit_entry, edit_event, edit_of, if_at_end, if_at_once, is_job, is_unworked, is_waiting, jobs_at_end, jobs_from, jobs_of}
use Rattle.hub_editor.specs.Results.{HasOwnResults, HasResult, IsResulted, last_in, result_entry, result_event}
use Rattle.hub_editor.specs.Causes.{IsRoomStop, IsStopBy}
use Rattle.hub_editor.specs.declared.stop.EditStop.{EditStop}
use Rattle.hub_editor.specs.Editing.{AreAnswered, Edited, Fronted, IsAnswered, IsAnsweredAt, IsGoing, SameEdits, Settled, Steps, StoppedAt, Told, Went, WorkedOut, entries_of}
use Rattle.hub_editor.proofs.Calls.{settled_later, went_then}
use Rattle.hub_editor.proofs.Lasting.{last_more, last_same, same_there}

-- What stays true when the pass goes on.

pub result_moved : (q r : Pass) (mine : List Recorded) (work : Task) → Moved q r mine → HasResult (seen_of q) work → HasResult (seen_of r) work
result_moved q r mine work m h = record {
  by = h.by;
  before = h.before;
  after = h.after ++ m.more;
  whole = m.longer ∙ (ap (λ es. es ++ m.more) h.whole ∙ append_assoc h.before ((h.by, result_event work) ∷ h.after) m.more);
}

resulted_moved : (q r : Pass) (mine : List Recorded) (w : Worked) (jobs : List Task) → Moved q r mine → IsResulted (seen_of q) w jobs → IsResulted (seen_of r) w jobs
resulted_moved q r mine No jobs m h = tt
resulted_moved q r mine AtOnce jobs m h = All-weaker (HasResult (seen_of q)) (HasResult (seen_of r)) (λ work x. result_moved q r mine work m x) jobs h
resulted_moved q r mine AtEnd jobs m h = All-weaker (HasResult (seen_of q)) (HasResult (seen_of r)) (λ work x. result_moved q r mine work m x) jobs h

results_moved : (q r : Pass) (mine : List Recorded) (made : List Made) → Moved q r mine → All (HasOwnResults (seen_of q)) made → All (HasOwnResults (seen_of r)) made
results_moved q r mine made m h = All-weaker (HasOwnResults (seen_of q)) (HasOwnResults (seen_of r)) (λ x own. resulted_moved q r mine x.worked (jobs_of x) m own) made h

answered_later : (q r : Pass) (mine own : List Recorded) (e : Edit) (a : Answer) → Moved q r mine → IsAnsweredAt q own e a → IsAnsweredAt r own e a
answered_later q r mine own e a m h = record {
  before = h.before;
  after = h.after ++ m.more;
  whole = m.longer ∙ (ap (λ es. es ++ m.more) h.whole ∙ append_assoc h.before (edit_entry e ∷ h.after) m.more);
  own_are = ap (λ k. calls (k ∷ []) h.before) m.number ∙ h.own_are;
  reply_is = ap (λ roots. said (reply_after roots h.before (edit_event e))) m.roots ∙ h.reply_is;
}

pub answers_moved : (q r : Pass) (mine own : List Recorded) (made : List Made) → Moved q r mine → AreAnswered q own made → AreAnswered r own made
answers_moved q r mine own [] m h = tt
answers_moved q r mine own (x ∷ made) m h =
    (answered_later q r mine own (edit_of x) x.answer m h.0, answers_moved q r mine (own ++ entries_of x) made m h.1)

-- one edit more
answers_push : (q : Pass) (own : List Recorded) (made : List Made) (m : Made) → AreAnswered q own made → IsAnsweredAt q (own ++ flat_map entries_of made) (edit_of m) m.answer
    → AreAnswered q own (made ++ m ∷ [])
answers_push q own [] m h a = (subst (λ es. IsAnsweredAt q es (edit_of m) m.answer) (append-nil own) a, tt)
answers_push q own (x ∷ made) m h a = (
  h.0,
  answers_push q (own ++ entries_of x) made m h.1
      (subst (λ es. IsAnsweredAt q es (edit_of m) m.answer) (sym (append_assoc own (entries_of x) (flat_map entries_of made))) a),
)

same_answered : (q : Pass) (own : List Recorded) (m n : Made) → edit_of n ≡ edit_of m → n.answer ≡ m.answer → IsAnsweredAt q own (edit_of m) m.answer → IsAnsweredAt q own (edit_of n) n.answer
same_answered q own m n e a h = subst (λ x. IsAnsweredAt q own x n.answer) (sym e) (subst (λ x. IsAnsweredAt q own (edit_of m) x) (sym a) h)

-- the last of them in place of another
answers_last : (q : Pass) (own : List Recorded) (made : List Made) (m n : Made) → edit_of n ≡ edit_of m → n.answer ≡ m.answer → AreAnswered q own (made ++ m ∷ []) → AreAnswered q own (made ++ n ∷ [])
answers_last q own [] m n e a h = (same_answered q own m n e a h.0, tt)
answers_last q own (x ∷ made) m n e a h = (h.0, answers_last q (own ++ entries_of x) made m n e a h.1)

-- one of them in place of another with the same entries
answers_there : (q : Pass) (own : List Recorded) (front back : List Made) (m n : Made) → entries_of n ≡ entries_of m → edit_of n ≡ edit_of m → n.answer ≡ m.answer
    → AreAnswered q own (front ++ m ∷ back) → AreAnswered q own (front ++ n ∷ back)
answers_there q own [] back m n entries e a h = (same_answered q own m n e a h.0, subst (λ es. AreAnswered q (own ++ es) back) (sym entries) h.1)
answers_there q own (x ∷ front) back m n entries e a h = (h.0, answers_there q (own ++ entries_of x) front back m n entries e a h.1)

pub answered_all : (q : Pass) (own : List Recorded) (made : List Made) → AreAnswered q own made → All (IsAnswered q) made
answered_all q own [] h = All-nil (IsAnswered q)
answered_all q own (m ∷ made) h =
    All-cons (IsAnswered q) m made (record { before = h.0.before; after = h.0.after; whole = h.0.whole; reply_is = h.0.reply_is })
    (answered_all q (own ++ entries_of m) made h.1)

-- one of a list in place of another
all_there : {X : Type 0} (P : X → Type 0) (front back : List X) (x y : X) → All P (front ++ x ∷ back) → P y → All P (front ++ y ∷ back)
all_there P [] back x y h p = All-cons P y back p (All-tail P x back h)
all_there P (z ∷ front) back x y h p = All-cons P z (front ++ y ∷ back) (All-head P z (front ++ x ∷ back) h) (all_there P front back x y (All-tail P z (front ++ x ∷ back) h) p)

pub all_at : {X : Type 0} (P : X → Type 0) (front back : List X) (x : X) → All P (front ++ x ∷ back) → P x
all_at P [] back x h = All-head P x back h
all_at P (z ∷ front) back x h = all_at P front back x (All-tail P z (front ++ x ∷ back) h)

-- No edit yet.
pub edited_none : (p : Pass) → Edited p p []
edited_none p = record {
  settled = [];
  moved = moved_none p;
  each = IsPermutation-refl [];
  answered = tt;
  results = All-nil (HasOwnResults (seen_of p));
  sources = λ n. refl;
}

-- Nothing of the editor happened.
pub edited_went : (p q r : Pass) (made : List Made) → Edited p q made → Went q r [] → Edited p r made
edited_went p q r made x w = record {
  settled = x.settled;
  moved = moved_no_more p q r (flat_map entries_of made ++ map result_entry x.settled) x.moved w.moved;
  each = x.each;
  answered = answers_moved q r [] (own_of p) made w.moved x.answered;
  results = results_moved q r [] made w.moved x.results;
  sources = λ n. w.sources n ∙ x.sources n;
}

none_settled : (xs settled : List Task) → xs ≡ [] → IsPermutation xs settled → settled ≡ []
none_settled xs settled none each = nil_from_length settled (length_permutation xs settled each ∙ ap length none)

unworked_end : (m : Made) → m.worked ≡ No → jobs_at_end m ≡ []
unworked_end m e = ap (λ w. if_at_end w (jobs_of m)) e

unworked_entries : (m : Made) → m.worked ≡ No → entries_of m ≡ edit_entry (edit_of m) ∷ []
unworked_entries m e = ap (λ w. edit_entry (edit_of m) ∷ map result_entry (if_at_once w (jobs_of m))) e

-- no job was worked at the end, with one edit more
pub going_more : (made : List Made) (m : Made) → IsGoing made → jobs_at_end m ≡ [] → IsGoing (made ++ m ∷ [])
going_more made m going none = flat_map-append jobs_at_end made (m ∷ []) ∙ (ap (λ jobs. jobs ++ (jobs_at_end m ++ [])) going ∙ ap (λ jobs. jobs ++ []) none)

-- One edit more.
module _ (p q r : Pass) (made : List Made) (m : Made) (going : IsGoing made) (x : Edited p q made) (unworked : m.worked ≡ No) (t : Told (edit_of m) m.answer q r) where
  entries_more : (flat_map entries_of made ++ map result_entry x.settled) ++ edit_entry (edit_of m) ∷ [] ≡ flat_map entries_of (made ++ m ∷ []) ++ []
  entries_more =
      let one : flat_map entries_of (m ∷ []) ≡ edit_entry (edit_of m) ∷ [] = append-nil (entries_of m) ∙ unworked_entries m unworked in
      ap (λ settled. (flat_map entries_of made ++ map result_entry settled) ++ edit_entry (edit_of m) ∷ []) (none_settled (flat_map jobs_at_end made) x.settled going x.each)
      ∙ (ap (λ es. es ++ edit_entry (edit_of m) ∷ []) (append-nil (flat_map entries_of made))
      ∙ (ap (λ es. flat_map entries_of made ++ es) (sym one) ∙ (sym (flat_map-append entries_of made (m ∷ [])) ∙ sym (append-nil (flat_map entries_of (made ++ m ∷ []))))))

  own_now : own_of q ≡ own_of p ++ flat_map entries_of made
  own_now =
      x.moved.own
      ∙ (ap (λ settled. own_of p ++ (flat_map entries_of made ++ map result_entry settled)) (none_settled (flat_map jobs_at_end made) x.settled going x.each)
      ∙ ap (λ es. own_of p ++ es) (append-nil (flat_map entries_of made)))

  pub edited_told : Edited p r (made ++ m ∷ [])
  edited_told = record {
    settled = [];
    moved = subst (λ mine. Moved p r mine) entries_more (moved_then p q r (flat_map entries_of made ++ map result_entry x.settled) (edit_entry (edit_of m) ∷ []) x.moved t.moved);
    each = subst (λ jobs. IsPermutation jobs []) (sym (going_more made m going (unworked_end m unworked))) (IsPermutation-refl []);
    answered =
        answers_push r (own_of p) made m (answers_moved q r (edit_entry (edit_of m) ∷ []) (own_of p) made t.moved x.answered)
        (subst (λ es. IsAnsweredAt r es (edit_of m) m.answer) own_now t.placed);
    results = All-push (HasOwnResults (seen_of r)) made m (results_moved q r (edit_entry (edit_of m) ∷ []) made t.moved x.results) (subst (λ w. IsResulted (seen_of r) w (jobs_of m)) (sym unworked) tt);
    sources = λ n.
        t.sources n
        ∙ (ap (λ last. if same_name m.name n then counted_by m.answer m.text last else last) (x.sources n) ∙ sym (last_more made (m ∷ []) (last_in (seen_of p) n) n));
  }

-- The editor worked a job.

one_result : (q r : Pass) (m : Made) (work : Task) → jobs_of m ≡ work ∷ [] → Settled work q r → All (HasResult (seen_of r)) (jobs_of m)
one_result q r m work e s = subst (λ jobs. All (HasResult (seen_of r)) jobs) (sym e) (All-cons (HasResult (seen_of r)) work [] s.there (All-nil (HasResult (seen_of r))))

marked_same : (front back : List Made) (m n : Made) (w : Worked) → n ≡ record m { worked = w } → SameEdits (front ++ m ∷ back) (front ++ n ∷ back)
marked_same front back m n w e = same_there front back m n (ap edit_of e) (ap (λ x. x.answer) e)

-- At once, after the last edit.
module _ (p q r : Pass) (made : List Made) (m n : Made) (going : IsGoing made) (x : Edited p q (made ++ m ∷ [])) (s : WorkedOut AtOnce m n q r) where
  abbrev pub entry : List Recorded
  entry = result_entry s.job ∷ []

  once_end : jobs_at_end n ≡ []
  once_end = ap jobs_at_end s.marked

  once_entries : entries_of n ≡ edit_entry (edit_of m) ∷ entry
  once_entries = ap entries_of s.marked ∙ ap (λ jobs. edit_entry (edit_of m) ∷ map result_entry jobs) s.jobs

  entries_once : (flat_map entries_of (made ++ m ∷ []) ++ map result_entry x.settled) ++ entry ≡ flat_map entries_of (made ++ n ∷ []) ++ []
  entries_once =
      let before : flat_map entries_of (made ++ m ∷ []) ≡ flat_map entries_of made ++ edit_entry (edit_of m) ∷ [] =
      flat_map-append entries_of made (m ∷ []) ∙ ap (λ es. flat_map entries_of made ++ es) (append-nil (entries_of m) ∙ unworked_entries m s.unworked) in
      let after : flat_map entries_of (made ++ n ∷ []) ≡ flat_map entries_of made ++ edit_entry (edit_of m) ∷ entry =
      flat_map-append entries_of made (n ∷ []) ∙ ap (λ es. flat_map entries_of made ++ es) (append-nil (entries_of n) ∙ once_entries) in
      ap (λ settled. (flat_map entries_of (made ++ m ∷ []) ++ map result_entry settled) ++ entry) (none_settled (flat_map jobs_at_end (made ++ m ∷ [])) x.settled (going_more made m going (unworked_end m s.unworked)) x.each)
      ∙ (ap (λ es. es ++ entry) (append-nil (flat_map entries_of (made ++ m ∷ [])))
      ∙ (ap (λ es. es ++ entry) before ∙ (append_assoc (flat_map entries_of made) (edit_entry (edit_of m) ∷ []) entry ∙ (sym after ∙ sym (append-nil (flat_map entries_of (made ++ n ∷ [])))))))

  pub edited_once : Edited p r (made ++ n ∷ [])
  edited_once = record {
    settled = [];
    moved = subst (λ mine. Moved p r mine) entries_once (moved_then p q r (flat_map entries_of (made ++ m ∷ []) ++ map result_entry x.settled) entry x.moved s.settled.went.moved);
    each = subst (λ jobs. IsPermutation jobs []) (sym (going_more made n going once_end)) (IsPermutation-refl []);
    answered =
        answers_last r (own_of p) made m n (ap edit_of s.marked) (ap (λ y. y.answer) s.marked)
        (answers_moved q r entry (own_of p) (made ++ m ∷ []) s.settled.went.moved x.answered);
    results = all_there (HasOwnResults (seen_of r)) made [] m n (results_moved q r entry (made ++ m ∷ []) s.settled.went.moved x.results)
        (subst (λ y. HasOwnResults (seen_of r) y) (sym s.marked) (one_result q r m s.job s.jobs s.settled));
    sources = λ k.
        s.settled.went.sources k
        ∙ (x.sources k ∙ sym (last_same (made ++ m ∷ []) (made ++ n ∷ []) (last_in (seen_of p) k) k (marked_same made [] m n AtOnce s.marked)));
  }

-- At the end, any of the edits.
module _ (p q r : Pass) (front back : List Made) (m n : Made) (x : Edited p q (front ++ m ∷ back)) (s : WorkedOut AtEnd m n q r) where
  abbrev pub old : List Made
  old = front ++ m ∷ back

  abbrev pub now : List Made
  now = front ++ n ∷ back

  same_entries : flat_map entries_of old ≡ flat_map entries_of now
  same_entries =
      flat_map-append entries_of front (m ∷ back)
      ∙ (ap (λ es. flat_map entries_of front ++ (es ++ flat_map entries_of back)) (unworked_entries m s.unworked ∙ sym (ap entries_of s.marked)) ∙ sym (flat_map-append entries_of front (n ∷ back)))

  entries_end : (flat_map entries_of old ++ map result_entry x.settled) ++ result_entry s.job ∷ [] ≡ flat_map entries_of now ++ map result_entry (x.settled ++ s.job ∷ [])
  entries_end =
      append_assoc (flat_map entries_of old) (map result_entry x.settled) (result_entry s.job ∷ [])
      ∙ (ap (λ es. flat_map entries_of old ++ es) (sym (map-append result_entry x.settled (s.job ∷ []))) ∙ ap (λ es. es ++ map result_entry (x.settled ++ s.job ∷ [])) same_entries)

  abbrev pub front_jobs : List Task
  front_jobs = flat_map jobs_at_end front

  abbrev pub back_jobs : List Task
  back_jobs = flat_map jobs_at_end back

  old_jobs : flat_map jobs_at_end old ≡ front_jobs ++ back_jobs
  old_jobs = flat_map-append jobs_at_end front (m ∷ back) ∙ ap (λ jobs. front_jobs ++ (jobs ++ back_jobs)) (unworked_end m s.unworked)

  now_jobs : flat_map jobs_at_end now ≡ front_jobs ++ (s.job ∷ [] ++ back_jobs)
  now_jobs = flat_map-append jobs_at_end front (n ∷ back) ∙ ap (λ jobs. front_jobs ++ (jobs ++ back_jobs)) (ap jobs_at_end s.marked ∙ s.jobs)

  one_last : IsPermutation (front_jobs ++ (s.job ∷ [] ++ back_jobs)) ((front_jobs ++ back_jobs) ++ s.job ∷ [])
  one_last =
      subst (λ jobs. IsPermutation (front_jobs ++ (s.job ∷ [] ++ back_jobs)) jobs) (sym (append_assoc front_jobs back_jobs (s.job ∷ [])))
      (IsPermutation-append_right front_jobs (s.job ∷ [] ++ back_jobs) (back_jobs ++ s.job ∷ []) (IsPermutation-append_comm (s.job ∷ []) back_jobs))

  each_end : IsPermutation (flat_map jobs_at_end now) (x.settled ++ s.job ∷ [])
  each_end =
      subst (λ jobs. IsPermutation jobs (x.settled ++ s.job ∷ [])) (sym now_jobs)
      (IsPermutation-trans (front_jobs ++ (s.job ∷ [] ++ back_jobs)) ((front_jobs ++ back_jobs) ++ s.job ∷ []) (x.settled ++ s.job ∷ []) one_last
      (IsPermutation-append_left (s.job ∷ []) (front_jobs ++ back_jobs) x.settled (subst (λ jobs. IsPermutation jobs x.settled) old_jobs x.each)))

  pub edited_end : Edited p r now
  edited_end = record {
    settled = x.settled ++ s.job ∷ [];
    moved = subst (λ mine. Moved p r mine) entries_end (moved_then p q r (flat_map entries_of old ++ map result_entry x.settled) (result_entry s.job ∷ []) x.moved s.settled.went.moved);
    each = each_end;
    answered =
        answers_there r (own_of p) front back m n (ap entries_of s.marked ∙ sym (unworked_entries m s.unworked)) (ap edit_of s.marked) (ap (λ y. y.answer) s.marked)
        (answers_moved q r (result_entry s.job ∷ []) (own_of p) old s.settled.went.moved x.answered);
    results = all_there (HasOwnResults (seen_of r)) front back m n (results_moved q r (result_entry s.job ∷ []) old s.settled.went.moved x.results)
        (subst (λ y. HasOwnResults (seen_of r) y) (sym s.marked) (one_result q r m s.job s.jobs s.settled));
    sources = λ k.
        s.settled.went.sources k
        ∙ (x.sources k ∙ sym (last_same old now (last_in (seen_of p) k) k (marked_same front back m n AtEnd s.marked)));
  }

-- What a step is to all edits.

module _ {w : Worked} {m n : Made} {q r : Pass} where
  -- the pass went on
  pub step_moved : Steps w m n q r → (mine : List Recorded) × Moved q r mine
  step_moved (inl h) = ([], h.1.moved)
  step_moved (inr s) = (result_entry s.job ∷ [], s.settled.went.moved)

  -- the edit is the same
  pub step_edit : Steps w m n q r → (edit_of n ≡ edit_of m) × (n.answer ≡ m.answer)
  step_edit (inl h) = (ap edit_of h.0, ap (λ x. x.answer) h.0)
  step_edit (inr s) = (ap edit_of s.marked, ap (λ x. x.answer) s.marked)

  pub step_jobs : Steps w m n q r → jobs_of n ≡ jobs_of m
  step_jobs (inl h) = ap jobs_of h.0
  step_jobs (inr s) = ap jobs_of s.marked

-- a step after nothing of the editor
pub steps_later : (w : Worked) (m n : Made) (q r s : Pass) → is_alone r ≡ is_alone q → Went q r [] → Steps w m n r s → Steps w m n q s
steps_later w m n q r s same h (inl k) = inl (k.0, went_then q r s [] [] same h k.1)
steps_later w m n q r s same h (inr k) = inr record {
  unworked = k.unworked;
  job = k.job;
  jobs = k.jobs;
  settled = settled_later q r s k.job same h k.settled;
  marked = k.marked;
}

-- an edit that was told, and its job put or worked
pub edited_placed : (p q r s : Pass) (made : List Made) (m n : Made) → IsGoing made → Edited p q made → m.worked ≡ No → Told (edit_of m) m.answer q r → Steps AtOnce m n r s
    → Edited p s (made ++ n ∷ [])
edited_placed p q r s made m n going x unworked t (inl h) =
    subst (λ y. Edited p s (made ++ y ∷ [])) (sym h.0) (edited_went p r s (made ++ m ∷ []) (edited_told p q r made m going x unworked t) h.1)
edited_placed p q r s made m n going x unworked t (inr h) = edited_once p r s made m n going (edited_told p q r made m going x unworked t) h

pub going_placed : (made : List Made) (m n : Made) (q r : Pass) → IsGoing made → m.worked ≡ No → Steps AtOnce m n q r → IsGoing (made ++ n ∷ [])
going_placed made m n q r going unworked (inl h) = going_more made n going (ap jobs_at_end h.0 ∙ unworked_end m unworked)
going_placed made m n q r going unworked (inr h) = going_more made n going (ap jobs_at_end h.marked)

pub fronted_none : (first new : List Made) (edits : List Edit) → new ≡ first → Fronted first new edits
fronted_none first new edits e = record { rest = edits; whole = ap (λ ms. map edit_of ms ++ edits) e }

pub fronted_one : (first new : List Made) (m : Made) (e : Edit) → new ≡ first ++ m ∷ [] → edit_of m ≡ e → Fronted first new (e ∷ [])
fronted_one first new m e whole is = record {
  rest = [];
  whole = append-nil (map edit_of new) ∙ (ap (map edit_of) whole ∙ (map-append edit_of first (m ∷ []) ∙ ap (λ x. map edit_of first ++ x ∷ []) is));
}

-- where it stopped
pub stopped_none : {T : Type 0} (r : Result T EditStop) (first new : List Made) (e : Edit) → new ≡ first → IfErr r IsRoomStop → IfErr r (StoppedAt e first new)
stopped_none (Ok x) first new e same room = tt
stopped_none (Err stop) first new e same room = inl (same, room)

pub stopped_one : {T : Type 0} (r : Result T EditStop) (first new : List Made) (m : Made) (e : Edit) → new ≡ first ++ m ∷ [] → edit_of m ≡ e → IfErr r (IsStopBy m.answer)
    → IfErr r (StoppedAt e first new)
stopped_one (Ok x) first new m e whole is by = tt
stopped_one (Err stop) first new m e whole is by = inr (m, whole, is, by)

-- one of the edits by its index
module _ (made : List Made) (i : ℕ) (m n : Made) (below : i < length made) (read : m ≡ get_or made i m) where
  made_split : made ≡ take i made ++ m ∷ drop (i + 1) made
  made_split =
      sym (take-append-drop i made)
      ∙ ap (λ ms. take i made ++ ms) (drop_more made i m below ∙ ap (λ y. y ∷ drop (i + 1) made) (sym read))

  set_there : set made i n ≡ take i made ++ n ∷ drop (i + 1) made
  set_there = let e : suc i ≡ i + 1 = omega arith in set_split made i n below ∙ ap (λ k. take i made ++ n ∷ drop k made) e

  pub edited_step : (p q r : Pass) → Edited p q made → Steps AtEnd m n q r → Edited p r (set made i n)
  edited_step p q r x (inl h) =
      let same : set made i n ≡ made = set_there ∙ (ap (λ y. take i made ++ y ∷ drop (i + 1) made) h.0 ∙ sym made_split) in
      subst (λ ms. Edited p r ms) (sym same) (edited_went p q r made x h.1)
  edited_step p q r x (inr s) =
      subst (λ ms. Edited p r ms) (sym set_there)
      (edited_end p q r (take i made) (drop (i + 1) made) m n (subst (λ ms. Edited p q ms) made_split x) s)

  pub same_step : (q r : Pass) → Steps AtEnd m n q r → SameEdits made (set made i n)
  same_step q r s =
      subst (λ ms. SameEdits made ms) (sym set_there)
      (subst (λ ms. SameEdits ms (take i made ++ n ∷ drop (i + 1) made)) (sym made_split) (same_there (take i made) (drop (i + 1) made) m n (step_edit s).0 (step_edit s).1))

pub same_then : (a b c : List Made) → SameEdits a b → SameEdits b c → SameEdits a c
same_then a b c h k = k ∙ h

-- an edit that doesn't wait has its result, or it has no job
no_job : (e : Edit) (a : Answer) (work : Task) → is_job a ≡ false → jobs_from e a ≡ work ∷ [] → ⊥
no_job (n, None) a work f e = cc
no_job (n, Some t) (Ok (Job v)) work f e = false≢true (sym f)
no_job (n, Some t) (Ok Same) work f e = cc
no_job (n, Some t) (Ok (Removed v)) work f e = cc
no_job (n, Some t) (Err refusal) work f e = cc

worked_has : (entries : List Recorded) (w : Worked) (jobs : List Task) (work : Task) → is_unworked w ≡ false → IsResulted entries w jobs → jobs ≡ work ∷ [] → HasResult entries work
worked_has entries No jobs work f own e = absurd (false≢true (sym f))
worked_has entries AtOnce jobs work f own e = All-head (HasResult entries) work [] (subst (λ js. All (HasResult entries) js) e own)
worked_has entries AtEnd jobs work f own e = All-head (HasResult entries) work [] (subst (λ js. All (HasResult entries) js) e own)

waits_by : (entries : List Recorded) (m : Made) (work : Task) (b c : Bool) → is_job m.answer ≡ b → is_unworked m.worked ≡ c → (b && c) ≡ false
    → HasOwnResults entries m → jobs_of m ≡ work ∷ [] → HasResult entries work
waits_by entries m work false c j u f own e = absurd (no_job (edit_of m) m.answer work j e)
waits_by entries m work true false j u f own e = worked_has entries m.worked (jobs_of m) work u own e
waits_by entries m work true true j u f own e = absurd (false≢true (sym f))

pub not_waiting : (entries : List Recorded) (m : Made) (work : Task) → is_waiting m ≡ false → HasOwnResults entries m → jobs_of m ≡ work ∷ [] → HasResult entries work
not_waiting entries m work f own e = waits_by entries m work (is_job m.answer) (is_unworked m.worked) refl refl f own e

pub own_moved : (q r : Pass) (mine : List Recorded) (m : Made) → Moved q r mine → HasOwnResults (seen_of q) m → HasOwnResults (seen_of r) m
own_moved q r mine m moved own = resulted_moved q r mine m.worked (jobs_of m) moved own
