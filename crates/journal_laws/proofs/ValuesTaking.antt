-- What holds of each thing that a client does holds of each thing that comes to it.
use Rattle.std.proofs.Common.{◌≡◌, List, refl}
use Rattle.core_model.specs.Names.{Name, has}
use Rattle.core_model.specs.Page.{Plan}
use Rattle.client_model.specs.Language.{Language}
use Rattle.client_model.specs.Journal.{Journal}
use Rattle.client_model.specs.Runtime.{Runtime, Did, for_each, write}
use Rattle.client_model.specs.Applying.{live_of, finish, apply, prune_instance, leave_page, prune}
use Rattle.client_model.specs.Past.{Incoming, met}
use Rattle.client_model.proofs.Takes.{AreLines, IsTaken, lines_by, met_does}
use Rattle.client_model.proofs.Acts.{before_finish}
use Rattle.world_laws.proofs.Frames.{frames, Numbered}
use Rattle.journal_laws.proofs.ValuesWalk.{IsStepped, steps_applying, steps_pruning, steps_hearing}

module _ (language : Language) (P : Runtime → Did → Type 0) (k : IsStepped language P) where
  steps_told : (journal : Journal) → AreLines journal → (r s : Runtime) → s.instances ≡ r.instances → s.bags ≡ r.bags → P r (s, journal)
  steps_told journal lines r s e f = lines_by (λ told. P r (s, told)) (k.quiet r s e f) (λ l told rest. k.after r (write l r) (λ t. (s, told)) (k.wrote l r) rest) journal lines

  steps_apply : (p : Plan) (r : Runtime) → Numbered (frames r.instances) → P r (apply language p r)
  steps_apply p r d =
      let before : Did = before_finish language p r in
      k.after r before (finish p) (steps_applying language P k p r d)
      (steps_told (finish p before.0).1 (tt, tt) before.0 (finish p before.0).0 refl refl)

  steps_prune : (names : List Name) (r : Runtime) → P r (prune language names r)
  steps_prune names r =
      let before : Did = for_each (prune_instance language) (live_of (has names) r) r in
      k.after r before (leave_page names) (steps_pruning language P k names r) (k.quiet before.0 (leave_page names before.0).0 refl refl)

  steps_taken : IsTaken language (λ r did. Numbered (frames r.instances) → P r did)
  steps_taken = record {
    quiet = λ r did q d. steps_told did.1 q.lines r did.0 q.instances q.bags;
    prunes = λ names r none loaded d. steps_prune names r;
    applies = λ p r e due counted d. steps_apply p r d;
    hears = λ event value r loaded idle d. steps_hearing language P k event value r;
  }

  pub steps_met : (r : Runtime) (came : Incoming) → Numbered (frames r.instances) → P r (met language came r)
  steps_met r came = met_does language (λ s did. Numbered (frames s.instances) → P s did) steps_taken r came
