-- Edits one after another, and rounds one after another.
use Rattle.std.proofs.Common.{◌≡◌, ◌≤◌, ◌<◌, ◌+◌, ℕ, true, List, [], ◌∷◌, ◌++◌, length, map, refl, ap, sym, ◌∙◌, subst, inl, inr, append_assoc, arith}
use Rattle.std.specs.Prelude.{◌⊎◌, All, Result, Ok, Err, Option, Some, None, IfSome, OnOk, IsOk, IfErr, flat_map, is_ok}
use Rattle.std.specs.Option.{option_map}
use Rattle.std.specs.Global.{Vec}
use Rattle.std.proofs.lemmas.List.{append-nil, length-append, map-append}
use Rattle.std.proofs.lemmas.Grind.{flat_map-append}
use Rattle.std.proofs.lemmas.List.Sorted.{IsPermutation-refl}
use Rattle.std.proofs.lemmas.List.Elements.{All-append, All-cons, All-nil}
use Rattle.hmr_types.specs.declared.words.EditRefusal.{EditRefusal}
use Rattle.hmr_types.specs.declared.words.EditRefusal.TheVariants.{NumbersSpent, SourceTotal, TextTooLong, TooManyNames}
use Rattle.folders.specs.Files.{files_after, next_files}
use Rattle.folder_watch.specs.Scans.{StopsFor}
use Rattle.folder_watch.specs.declared.scan_stop.ScanStop.{ScanStop}
use Rattle.folder_watch.specs.declared.scan_stop.ScanStop.TheVariants as scans
use Rattle.hmr_hub.specs.declared.pass.Pass.{Pass}
use Rattle.hmr_hub.specs.Passes.{HasTranscript, number_of, seen_of}
use Rattle.hmr_hub.specs.Moves.{Moved}
use Rattle.hub_editor.specs.Causes.{IsRoomStop, IsStopBy, IsStopFor}
use Rattle.hub_editor.specs.Edits.{Answer, Edit, Made, answered_edit, edit_of, edits_in, text_in}
use Rattle.hub_editor.specs.Editing.{Edited, SameEdits, StoppedAt}
use Rattle.hub_editor.specs.Results.{HasOwnResults}
use Rattle.hub_editor.specs.declared.stop.EditStop.{EditStop}
use Rattle.hub_editor.specs.declared.stop.EditStop.TheVariants as edits
use Rattle.hub_editor.proofs.Calls.{sources_stay}
use Rattle.crew_plans.specs.declared.cause.Cause.{Cause}
use Rattle.crew_plans.specs.declared.cause.Cause.TheVariants as causes
use Rattle.folder_edits.specs.declared.stop.ServeStop.{ServeStop}
use Rattle.folder_edits.specs.declared.stop.ServeStop.TheVariants.{NoMemory}
use Rattle.folder_edits.specs.Rounds.{AreRounds, AtScan, EndsEdits, Files, IsRound, MakesEach, MakesEdits, MakesFront, Reply, ScanStops, StopsAt, StopsEdits, after_scans, edits_of, told}
use Rattle.folder_edits.specs.Stops.{stop_by, stop_of_edit, stop_of_scan}

-- the edits in a list of one more
pub edits_push : (edits : List (List ℕ × Option (Vec ℕ))) (e : List ℕ × Option (Vec ℕ)) → edits_in (edits ++ e ∷ []) ≡ edits_in edits ++ (e.0, text_in e.1) ∷ []
edits_push edits e = map-append (λ (x : List ℕ × Option (Vec ℕ)). (x.0, text_in x.1)) edits (e ∷ [])

pub edits_then : (done : List (List ℕ × Option (Vec ℕ))) (e : List ℕ × Option (Vec ℕ)) (left : List (List ℕ × Option (Vec ℕ)))
    → edits_in (done ++ e ∷ []) ++ edits_in left ≡ edits_in done ++ edits_in (e ∷ left)
edits_then done e left = ap (λ es. es ++ edits_in left) (edits_push done e) ∙ append_assoc (edits_in done) ((e.0, text_in e.1) ∷ []) (edits_in left)

-- what an iterator has left
pub none_left : {X : Type 0} (xs : List X) → length xs ≡ 0 → xs ≡ []
none_left [] e = refl
none_left (x ∷ xs) e = absurd (cc)

pub left_then : {X : Type 0} (n m : ℕ) (xs ys : List X) (x : X) → m ≡ length ys → m ≡ n + 1 → ys ≡ x ∷ xs → n ≡ length xs
left_then n m xs ys x e f g = let h = ap length g in omega (arith, e, f, h)

-- All of some edits were made, and none was refused.
pub record AllMade (edits : List Edit) (before now : List Made) : Type 0 where
  pub done : List Reply
  pub made : map answered_edit now ≡ map answered_edit before ++ done
  pub each : All (λ r. is_ok r.1 ≡ true) done
  pub edits_are : told done ≡ edits

pub all_none : (made : List Made) → AllMade [] made made
all_none made = record { done = []; made = sym (append-nil (map answered_edit made)); each = All-nil (λ (r : Reply). is_ok r.1 ≡ true); edits_are = refl }

pub all_then : (a b : List Edit) (x y z : List Made) → AllMade a x y → AllMade b y z → AllMade (a ++ b) x z
all_then a b x y z h k = record {
  done = h.done ++ k.done;
  made = k.made ∙ (ap (λ rs. rs ++ k.done) h.made ∙ append_assoc (map answered_edit x) h.done k.done);
  each = All-append (λ (r : Reply). is_ok r.1 ≡ true) h.done k.done h.each k.each;
  edits_are =
      map-append (λ (r : Reply). r.0) h.done k.done
      ∙ (ap (λ es. es ++ told k.done) h.edits_are ∙ ap (λ es. a ++ es) k.edits_are);
}

pub all_as : (a b : List Edit) (x y : List Made) → a ≡ b → AllMade a x y → AllMade b x y
all_as a b x y e h = subst (λ es. AllMade es x y) e h

-- one edit more was made
one_more : (old new : List Made) (one : Made) → new ≡ old ++ one ∷ [] → map answered_edit new ≡ map answered_edit old ++ answered_edit one ∷ []
one_more old new one whole = ap (map answered_edit) whole ∙ map-append answered_edit old (one ∷ [])

pub all_one : (old new : List Made) (one : Made) (e : Edit) → new ≡ old ++ one ∷ [] → edit_of one ≡ e → is_ok one.answer ≡ true → AllMade (e ∷ []) old new
all_one old new one e whole is ok = record {
  done = answered_edit one ∷ [];
  made = one_more old new one whole;
  each = All-cons (λ (r : Reply). is_ok r.1 ≡ true) (answered_edit one) [] ok (All-nil (λ (r : Reply). is_ok r.1 ≡ true));
  edits_are = ap (λ x. x ∷ []) is;
}

-- all of them, and no more
all_front : (edits : List Edit) (before now : List Made) → AllMade edits before now → (left all : List Edit) → edits ++ left ≡ all → MakesFront all before now
all_front edits before now h left all whole = record {
  accepted = h.done;
  refused = [];
  rest = left;
  made = h.made ∙ ap (λ rs. map answered_edit before ++ rs) (sym (append-nil h.done));
  each = h.each;
  front = ap (λ rs. told rs ++ left) (append-nil h.done) ∙ (ap (λ es. es ++ left) h.edits_are ∙ whole);
}

-- and then one that was refused
refused_front : (edits : List Edit) (before mid now : List Made) → AllMade edits before mid → (one : Made) (e : Edit) → now ≡ mid ++ one ∷ [] → edit_of one ≡ e
    → (left all : List Edit) → edits ++ e ∷ left ≡ all → MakesFront all before now
refused_front edits before mid now h one e whole is left all all_are = record {
  accepted = h.done;
  refused = answered_edit one ∷ [];
  rest = left;
  made = one_more mid now one whole ∙ (ap (λ rs. rs ++ answered_edit one ∷ []) h.made ∙ append_assoc (map answered_edit before) h.done (answered_edit one ∷ []));
  each = h.each;
  front =
      ap (λ es. es ++ left) (map-append (λ (r : Reply). r.0) h.done (answered_edit one ∷ []))
      ∙ (append_assoc (told h.done) (edit_of one ∷ []) left
      ∙ (ap (λ x. told h.done ++ x ∷ left) is ∙ (ap (λ es. es ++ e ∷ left) h.edits_are ∙ all_are)));
}

-- a stop that refused none
room_stop : (stop : EditStop) → IsRoomStop stop → StopsEdits [] stop
room_stop edits.Text h = absurd h
room_stop edits.Names h = absurd h
room_stop edits.Sources h = absurd h
room_stop edits.Full h = refl
room_stop edits.NoMemory h = refl

refusal_stop : (w : EditRefusal) (stop : EditStop) (e : Edit) (refused : List Reply) → refused ≡ (e, Err w) ∷ [] → IsStopFor w stop → StopsEdits refused stop
refusal_stop TextTooLong stop e refused is h = subst (StopsEdits refused) (sym h) (e, is)
refusal_stop TooManyNames stop e refused is h = subst (StopsEdits refused) (sym h) (e, is)
refusal_stop SourceTotal stop e refused is h = subst (StopsEdits refused) (sym h) (e, is)
refusal_stop NumbersSpent stop e refused is h = absurd h

stopped_by : (edits left all : List Edit) (before mid now : List Made) (one : Made) (e : Edit) (stop : EditStop) (a : Answer) → AllMade edits before mid → edits ++ e ∷ left ≡ all
    → now ≡ mid ++ one ∷ [] → edit_of one ≡ e → one.answer ≡ a → IsStopBy a stop → MakesEach all before now (Err stop)
unfolding all_front refused_front
stopped_by edits left all before mid now one e stop (Ok outcome) h all_are whole is said by = record {
  makes =
      all_front (edits ++ e ∷ []) before now
      (all_then edits (e ∷ []) before mid now h (all_one mid now one e whole is (ap is_ok said))) left all (append_assoc edits (e ∷ []) left ∙ all_are);
  end = room_stop stop by;
}
stopped_by edits left all before mid now one e stop (Err w) h all_are whole is said by = record {
  makes = refused_front edits before mid now h one e whole is left all all_are;
  end = refusal_stop w stop (edit_of one) (answered_edit one ∷ []) (ap (λ (x : Answer). (edit_of one, x) ∷ []) said) by;
}

-- the last of them may have been made or not, and others are left
pub each_stopped : (edits left all : List Edit) (before mid now : List Made) (e : Edit) (stop : EditStop) → AllMade edits before mid → edits ++ e ∷ left ≡ all
    → StoppedAt e mid now stop → MakesEach all before now (Err stop)
unfolding all_front
each_stopped edits left all before mid now e stop h all_are (inl (same, room)) = record {
  makes = all_front edits before now (subst (λ ms. AllMade edits before ms) (sym same) h) (e ∷ left) all all_are;
  end = room_stop stop room;
}
each_stopped edits left all before mid now e stop h all_are (inr (one, whole, is, by)) = stopped_by edits left all before mid now one e stop one.answer h all_are whole is refl by

-- all were made
pub each_all : (edits left all : List Edit) (before now : List Made) → AllMade edits before now → edits ++ left ≡ all → left ≡ [] → MakesEach all before now (Ok tt)
unfolding all_front
each_all edits left all before now h all_are none = record {
  makes = all_front edits before now h [] all (ap (λ es. edits ++ es) (sym none) ∙ all_are);
  end = (refl, refl);
}

-- a front that is all
front_all : (edits : List Edit) (before now : List Made) (m : MakesFront edits before now) → m.refused ≡ [] → m.rest ≡ [] → AllMade edits before now
front_all edits before now m unrefused all =
    let accepted : m.accepted ++ m.refused ≡ m.accepted = ap (λ rs. m.accepted ++ rs) unrefused ∙ append-nil m.accepted in
    record {
      done = m.accepted;
      made = m.made ∙ ap (λ rs. map answered_edit before ++ rs) accepted;
      each = m.each;
      edits_are =
          sym (ap (λ rs. told rs ++ m.rest) accepted ∙ (ap (λ es. told m.accepted ++ es) all ∙ append-nil (told m.accepted)))
          ∙ m.front;
    }

pub each_made : (edits : List Edit) (before now : List Made) → MakesEach edits before now (Ok tt) → AllMade edits before now
each_made edits before now h = front_all edits before now h.makes h.end.0 h.end.1

-- behind others
front_behind : (a b : List Edit) (before mid now : List Made) → AllMade a before mid → MakesFront b mid now → MakesFront (a ++ b) before now
front_behind a b before mid now h m = record {
  accepted = h.done ++ m.accepted;
  refused = m.refused;
  rest = m.rest;
  made =
      m.made ∙ (ap (λ rs. rs ++ (m.accepted ++ m.refused)) h.made
      ∙ (append_assoc (map answered_edit before) h.done (m.accepted ++ m.refused)
      ∙ ap (λ rs. map answered_edit before ++ rs) (sym (append_assoc h.done m.accepted m.refused))));
  each = All-append (λ (r : Reply). is_ok r.1 ≡ true) h.done m.accepted h.each m.each;
  front =
      ap (λ rs. told rs ++ m.rest) (append_assoc h.done m.accepted m.refused)
      ∙ (ap (λ es. es ++ m.rest) (map-append (λ (r : Reply). r.0) h.done (m.accepted ++ m.refused))
      ∙ (append_assoc (told h.done) (told (m.accepted ++ m.refused)) m.rest
      ∙ (ap (λ es. told h.done ++ es) m.front ∙ ap (λ es. es ++ b) h.edits_are)));
}

front_as : (a b : List Edit) (before now : List Made) → a ≡ b → (m : MakesFront a before now) → MakesFront b before now
front_as a b before now e m = record { accepted = m.accepted; refused = m.refused; rest = m.rest; made = m.made; each = m.each; front = m.front ∙ e }

-- So many rounds were made: they lead from one listing and the files to come then to another and those to come
-- now, and all of their edits were made.
pub record Rounds (coming coming' : Option (List Files)) (listing listing' : Files) (many : ℕ) (before now : List Made) : Type 0 where
  pub rounds : List (List Edit)
  pub leads : (more : List (List Edit)) → AreRounds coming' listing' more → AreRounds coming listing (rounds ++ more)
  pub all : AllMade (edits_of rounds) before now
  pub many_are : length rounds ≡ many

pub rounds_none : (coming : Option (List Files)) (listing : Files) (made : List Made) → Rounds coming coming listing listing 0 made made
rounds_none coming listing made = record {
  rounds = [];
  leads = λ more h. h;
  all = all_none made;
  many_are = refl;
}

edits_more : (rounds : List (List Edit)) (edits : List Edit) → edits_of (rounds ++ edits ∷ []) ≡ edits_of rounds ++ edits
edits_more rounds edits =
    flat_map-append (λ (es : List Edit). es) rounds (edits ∷ []) ∙ ap (λ es. edits_of rounds ++ es) (append-nil edits)

-- one round more
pub rounds_more : (coming coming' : Option (List Files)) (listing listing' next : Files) (many : ℕ) (before now then : List Made) (edits : List Edit)
    → Rounds coming coming' listing listing' many before now → IsRound coming' listing' next edits → AllMade edits now then
    → Rounds coming (option_map files_after coming') listing next (many + 1) before then
rounds_more coming coming' listing listing' next many before now then edits h round made = record {
  rounds = h.rounds ++ edits ∷ [];
  leads = λ more t.
      subst (λ es. AreRounds coming listing es) (sym (append_assoc h.rounds (edits ∷ []) more)) (h.leads (edits ∷ more) (next, round, t));
  all = all_as (edits_of h.rounds ++ edits) (edits_of (h.rounds ++ edits ∷ [])) before then (sym (edits_more h.rounds edits)) (all_then (edits_of h.rounds) edits before now then h.all made);
  many_are = length-append h.rounds (edits ∷ []) ∙ ap (λ n. n + 1) h.many_are;
}

-- the rounds so far are all that is made
rounds_are : (coming coming' : Option (List Files)) (listing listing' : Files) (many : ℕ) (before now : List Made) (h : Rounds coming coming' listing listing' many before now)
    → AreRounds coming listing h.rounds
rounds_are coming coming' listing listing' many before now h = subst (λ es. AreRounds coming listing es) (append-nil h.rounds) (h.leads [] tt)

pub rounds_all : (coming coming' : Option (List Files)) (listing listing' : Files) (many : ℕ) (before now : List Made)
    → Rounds coming coming' listing listing' many before now → MakesEdits coming listing [] many before now (Ok tt)
unfolding all_front
rounds_all coming coming' listing listing' many before now h = record {
  rounds = h.rounds;
  are = rounds_are coming coming' listing listing' many before now h;
  few = omega (arith, h.many_are);
  behind = [];
  script_last = inl refl;
  makes = all_front (edits_of h.rounds) before now h.all [] (edits_of h.rounds ++ []) refl;
  end = record { all_read = h.many_are; behind_is = refl; unrefused = refl; all = refl };
}

-- a scan stopped
scan_stop : (coming : Option (List Files)) (many read : ℕ) (accepted : List Reply) (stop : ScanStop) → AtScan coming many read [] [] stop → StopsAt coming many read accepted [] [] (stop_of_scan stop)
scan_stop coming many read accepted scans.TreeFault h = h
scan_stop coming many read accepted scans.TooManyNames h = inl h
scan_stop coming many read accepted (scans.TextTooLong path) h = inl (path, h)
scan_stop coming many read accepted scans.NoMemory h = refl

-- a stop between two rounds: of the scan, or since memory ran out
pub rounds_scan : (coming coming' : Option (List Files)) (listing listing' : Files) (many all : ℕ) (before now : List Made) (stop : ScanStop)
    → Rounds coming coming' listing listing' many before now → many < all → ScanStops coming many stop → MakesEdits coming listing [] all before now (Err (stop_of_scan stop))
unfolding all_front
rounds_scan coming coming' listing listing' many all before now stop h fewer stops = record {
  rounds = h.rounds;
  are = rounds_are coming coming' listing listing' many before now h;
  few = omega (arith, h.many_are, fewer);
  behind = [];
  script_last = inl refl;
  makes = all_front (edits_of h.rounds) before now h.all [] (edits_of h.rounds ++ []) refl;
  end =
      scan_stop coming all (length h.rounds) h.all.done stop
      (record { fewer = omega (arith, h.many_are, fewer); unrefused = refl; all = refl; stops = subst (λ n. ScanStops coming n stop) (sym h.many_are) stops });
}

pub rounds_memory : (coming coming' : Option (List Files)) (listing listing' : Files) (many all : ℕ) (before now : List Made)
    → Rounds coming coming' listing listing' many before now → many < all → MakesEdits coming listing [] all before now (Err NoMemory)
unfolding all_front
rounds_memory coming coming' listing listing' many all before now h fewer = record {
  rounds = h.rounds;
  are = rounds_are coming coming' listing listing' many before now h;
  few = omega (arith, h.many_are, fewer);
  behind = [];
  script_last = inl refl;
  makes = all_front (edits_of h.rounds) before now h.all [] (edits_of h.rounds ++ []) refl;
  end = refl;
}

-- a stop of an edit
edit_stop : (coming : Option (List Files)) (many read : ℕ) (accepted refused : List Reply) (rest : List Edit) (stop : EditStop) → StopsEdits refused stop → StopsAt coming many read accepted refused rest (stop_of_edit stop)
edit_stop coming many read accepted refused rest edits.Text h = inr h
edit_stop coming many read accepted refused rest edits.Names h = inr h
edit_stop coming many read accepted refused rest edits.Sources h = h
edit_stop coming many read accepted refused rest edits.Full h = h
edit_stop coming many read accepted refused rest edits.NoMemory h = h

-- in a round
pub round_stopped : (coming coming' : Option (List Files)) (listing listing' next : Files) (many all : ℕ) (before now then : List Made) (edits : List Edit) (stop : EditStop)
    → Rounds coming coming' listing listing' many before now → many < all → IsRound coming' listing' next edits → MakesEach edits now then (Err stop)
    → MakesEdits coming listing [] all before then (Err (stop_of_edit stop))
unfolding front_as front_behind
round_stopped coming coming' listing listing' next many all before now then edits stop h fewer round each =
    let behind = front_behind (edits_of h.rounds) edits before now then h.all each.makes in
    let same : edits_of h.rounds ++ edits ≡ edits_of (h.rounds ++ edits ∷ []) ++ [] = sym (edits_more h.rounds edits) ∙ sym (append-nil (edits_of (h.rounds ++ edits ∷ []))) in
    let count = length-append h.rounds (edits ∷ []) in
    record {
      rounds = h.rounds ++ edits ∷ [];
      are = h.leads (edits ∷ []) (next, round, tt);
      few = omega (arith, count, h.many_are, fewer);
      behind = [];
      script_last = inl refl;
      makes = front_as (edits_of h.rounds ++ edits) (edits_of (h.rounds ++ edits ∷ []) ++ []) before then same behind;
      end = edit_stop coming all (length (h.rounds ++ edits ∷ [])) behind.accepted each.makes.refused each.makes.rest stop each.end;
    }

-- behind the rounds the edits of a script are made
none_behind : {X : Type 0} (behind : List Edit) → (behind ≡ []) ⊎ ((behind ≡ []) × X) → behind ≡ []
none_behind behind (inl e) = e
none_behind behind (inr h) = h.0

pub script_stopped : (coming : Option (List Files)) (listing : Files) (script : List Edit) (many : ℕ) (before now : List Made) (stop : ServeStop)
    → MakesEdits coming listing [] many before now (Err stop) → MakesEdits coming listing script many before now (Err stop)
script_stopped coming listing script many before now stop h = record {
  rounds = h.rounds;
  are = h.are;
  few = h.few;
  behind = h.behind;
  script_last = inl (none_behind h.behind h.script_last);
  makes = h.makes;
  end = h.end;
}

rounds_made : (coming : Option (List Files)) (listing : Files) (many : ℕ) (before now : List Made) (h : MakesEdits coming listing [] many before now (Ok tt)) → AllMade (edits_of h.rounds) before now
rounds_made coming listing many before now h =
    all_as (edits_of h.rounds ++ h.behind) (edits_of h.rounds) before now (ap (λ es. edits_of h.rounds ++ es) h.end.behind_is ∙ append-nil (edits_of h.rounds))
    (front_all (edits_of h.rounds ++ h.behind) before now h.makes h.end.unrefused h.end.all)

pub script_made : (coming : Option (List Files)) (listing : Files) (script : List Edit) (many : ℕ) (before now then : List Made)
    → MakesEdits coming listing [] many before now (Ok tt) → MakesEach script now then (Ok tt) → MakesEdits coming listing script many before then (Ok tt)
unfolding front_behind
script_made coming listing script many before now then h each = record {
  rounds = h.rounds;
  are = h.are;
  few = h.few;
  behind = script;
  script_last = inr (refl, h.end.all_read);
  makes = front_behind (edits_of h.rounds) script before now then (rounds_made coming listing many before now h) each.makes;
  end = record { all_read = h.end.all_read; behind_is = refl; unrefused = each.end.0; all = each.end.1 };
}

pub script_stops : (coming : Option (List Files)) (listing : Files) (script : List Edit) (many : ℕ) (before now then : List Made) (stop : EditStop)
    → MakesEdits coming listing [] many before now (Ok tt) → MakesEach script now then (Err stop) → MakesEdits coming listing script many before then (Err (stop_of_edit stop))
unfolding front_behind
script_stops coming listing script many before now then stop h each =
    let behind = front_behind (edits_of h.rounds) script before now then (rounds_made coming listing many before now h) each.makes in
    record {
      rounds = h.rounds;
      are = h.are;
      few = h.few;
      behind = script;
      script_last = inr (refl, h.end.all_read);
      makes = behind;
      end = edit_stop coming many (length h.rounds) behind.accepted each.makes.refused each.makes.rest stop each.end;
    }

-- not all jobs were begun, or there was no memory before
begun_stop : (coming : Option (List Files)) (many : ℕ) (rest : List Edit) (cause : Cause) → StopsAt coming many 0 [] [] rest (stop_by cause)
begun_stop coming many rest causes.Fault = record { unread = refl; none = refl; unrefused = refl }
begun_stop coming many rest causes.Spent = record { unread = refl; none = refl; unrefused = refl }
begun_stop coming many rest causes.NoMemory = refl

pub makes_nothing : (coming : Option (List Files)) (listing : Files) (script : List Edit) (many : ℕ) (made : List Made) (cause : Cause) → MakesEdits coming listing script many made made (Err (stop_by cause))
unfolding all_front all_none
makes_nothing coming listing script many made cause = record {
  rounds = [];
  are = tt;
  few = omega arith;
  behind = [];
  script_last = inl refl;
  makes = all_front [] made made (all_none made) [] [] refl;
  end = begun_stop coming many [] cause;
}

-- the same edits, whichever of their jobs were worked
pub makes_same : (coming : Option (List Files)) (listing : Files) (script : List Edit) (many : ℕ) (before now then : List Made) (r : Result (Unit {0}) ServeStop)
    → MakesEdits coming listing script many before now r → SameEdits now then → MakesEdits coming listing script many before then r
makes_same coming listing script many before now then r h same = record {
  rounds = h.rounds;
  are = h.are;
  few = h.few;
  behind = h.behind;
  script_last = h.script_last;
  makes = record {
    accepted = h.makes.accepted;
    refused = h.makes.refused;
    rest = h.makes.rest;
    made = same ∙ h.makes.made;
    each = h.makes.each;
    front = h.makes.front;
  };
  end = h.end;
}

-- a stop when all edits were made, for want of a place or of memory
pub makes_room : (coming : Option (List Files)) (listing : Files) (script : List Edit) (many : ℕ) (before now : List Made) (stop : EditStop)
    → MakesEdits coming listing script many before now (Ok tt) → IsRoomStop stop → MakesEdits coming listing script many before now (Err (stop_of_edit stop))
makes_room coming listing script many before now stop h room = record {
  rounds = h.rounds;
  are = h.are;
  few = h.few;
  behind = h.behind;
  script_last = h.script_last;
  makes = h.makes;
  end =
      edit_stop coming many (length h.rounds) h.makes.accepted h.makes.refused h.makes.rest stop
      (subst (λ rs. StopsEdits rs stop) (sym h.end.unrefused) (room_stop stop room));
}

-- the files that come to a scan
pub scan_stops : (n : ℕ) (coming now : Option (List Files)) (stop : ScanStop) → now ≡ option_map (after_scans n) coming → IfSome now (λ files. StopsFor (next_files files) stop) → ScanStops coming n stop
scan_stops n None now stop e h = tt
scan_stops n (Some coming) now stop e h = subst (λ c. IfSome c (λ files. StopsFor (next_files files) stop)) e h

-- passes were split off, and no edit was made yet
pub edited_split : (p q : Pass) → number_of p ≡ 0 → HasTranscript q → Moved p q [] → Edited p q []
edited_split p q zero t m = record {
  settled = [];
  moved = m;
  each = IsPermutation-refl [];
  answered = tt;
  results = All-nil (HasOwnResults (seen_of q));
  sources = λ n. sources_stay p q zero t m n;
}
