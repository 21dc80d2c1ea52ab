-- All that comes to a client, where no run of a handler of those that are watched assigns, leaves each of
-- them with what its evaluation left.
use Rattle.std.proofs.Common.{◌≡◌, ℕ, Bool, List, [], ◌∷◌, length, ap, sym, ◌∙◌}
use Rattle.std.proofs.Math.Path.{subst}
use Rattle.std.proofs.lemmas.List.{length-map}
use Rattle.core_model.specs.Names.{Name, has}
use Rattle.core_model.specs.Page.{Plan}
use Rattle.client_model.specs.Language.{Language}
use Rattle.client_model.specs.Instance.{Instance}
use Rattle.client_model.specs.Runtime.{Runtime, Opening, Did, and_then, for_each}
use Rattle.client_model.specs.Linking.{new_names}
use Rattle.client_model.specs.Making.{Birth, make}
use Rattle.client_model.specs.Applying.{births, end_old, tell_all, drop_set_aside, live_of, finish, apply, prune_instance, leave_page, prune}
use Rattle.client_model.specs.Past.{Past, met, runtime_after, journal_of}
use Rattle.client_model.proofs.Acts.{kept_end_old, kept_tell_all, kept_set_aside, kept_pruning, kept_hear}
use Rattle.client_model.specs.Firing.{hear_all}
use Rattle.client_model.proofs.Takes.{IsTaken, met_does}
use Rattle.world_laws.proofs.Frames.{frame, frames, cut_length, ended_by}
use Rattle.world_laws.proofs.Ending.{same_hear, same_tell_all, same_set_aside, ends_prune, ended_names, ends_old}
use Rattle.journal_laws.specs.FreshValues.{NothingAssignedOf}
use Rattle.journal_laws.proofs.FreshMade.{gists, AreMade, made_one, LeavesOrAdds, assigned_first, assigned_rest, adds_kept, left_alone}

-- as many instances where the frames are as many
as_many : (new old : List Instance) → length (frames new) ≡ length (frames old) → length new ≡ length old
as_many new old e = sym (length-map new frame) ∙ e ∙ length-map old frame

module _ (watched : ℕ → Bool) (language : Language) where
  abbrev KeepsMade : Runtime → Did → Type 0
  KeepsMade r did = NothingAssignedOf watched did.1 → AreMade watched language (gists watched r.instances) → AreMade watched language (gists watched did.0.instances)

  made_then : (r : Runtime) (did : Did) (next : Runtime → Did) → KeepsMade r did → KeepsMade did.0 (next did.0) → KeepsMade r (and_then did next)
  made_then r did next h k n a = k (assigned_rest watched did.1 (next did.0).1 n) (h (assigned_first watched did.1 (next did.0).1 n) a)

  made_alone : (r : Runtime) (did : Did) → LeavesOrAdds watched r did → length (frames did.0.instances) ≡ length (frames r.instances) → KeepsMade r did
  made_alone r did h e n a = subst (AreMade watched language) (sym (left_alone watched r did h (as_many did.0.instances r.instances e) n)) a

  made_births : (bs : List Birth) (r : Runtime) → KeepsMade r (for_each (make language) bs r)
  made_births [] r n a = a
  made_births (b ∷ bs) r n a = made_births bs (make language b r).0 (assigned_rest watched (make language b r).1 (for_each (make language) bs (make language b r).0).1 n) (made_one watched language b r a)

  made_apply : (p : Plan) (r : Runtime) → KeepsMade r (apply language p r)
  made_apply p r =
      let ended : Did = end_old p.kind language p r in
      let making : Runtime → Did = for_each (make language) (births (new_names p r) p r) in
      let telling : Runtime → Did = tell_all p.kind language p r in
      let dropping : Runtime → Did = drop_set_aside p r in
      let made : Did = and_then ended making in
      let told : Did = and_then made telling in
      let all : Did = and_then told dropping in
      made_then r all (finish p)
      (made_then r told dropping
      (made_then r made telling
      (made_then r ended making
      (made_alone r ended (kept_end_old (LeavesOrAdds watched) (adds_kept watched) language p.kind p r) (ap length (ends_old p.kind language p r) ∙ cut_length (ended_by (ended_names p.kind p r) (frames r.instances)) (frames r.instances)))
      (made_births (births (new_names p r) p r) ended.0))
      (made_alone made.0 (telling made.0) (kept_tell_all (LeavesOrAdds watched) (adds_kept watched) language p.kind p r made.0) (ap length (same_tell_all p.kind language p r made.0))))
      (made_alone told.0 (dropping told.0) (kept_set_aside (LeavesOrAdds watched) (adds_kept watched) language p r told.0) (ap length (same_set_aside language p r told.0))))
      (λ n a. a)

  made_prune : (names : List Name) (r : Runtime) → KeepsMade r (prune language names r)
  made_prune names r = made_then r (for_each (prune_instance language) (live_of (has names) r) r) (leave_page names)
      (made_alone r (for_each (prune_instance language) (live_of (has names) r) r) (kept_pruning (LeavesOrAdds watched) (adds_kept watched) language names r) (ap length (ends_prune language names r) ∙ cut_length (ended_by (has names) (frames r.instances)) (frames r.instances)))
      (λ n a. a)

  made_taken : IsTaken language KeepsMade
  made_taken = record {
    quiet = λ r did q n a. subst (λ instances. AreMade watched language (gists watched instances)) (sym q.instances) a;
    prunes = λ names r none loaded. made_prune names r;
    applies = λ p r e due counted. made_apply p r;
    hears = λ event value r loaded idle. made_alone r (hear_all language event value r) (kept_hear (LeavesOrAdds watched) (adds_kept watched) language event value r) (ap length (same_hear language event value r));
  }

  -- each instance holds what its evaluation left
  pub run_made : (opening : Opening) (past : Past) → NothingAssignedOf watched (journal_of language opening past) → AreMade watched language (gists watched (runtime_after language opening past).instances)
  run_made opening [] n = tt
  run_made opening (came ∷ past) n = met_does language KeepsMade made_taken (runtime_after language opening past) came
      (assigned_rest watched (journal_of language opening past) (met language came (runtime_after language opening past)).1 n)
      (run_made opening past (assigned_first watched (journal_of language opening past) (met language came (runtime_after language opening past)).1 n))
