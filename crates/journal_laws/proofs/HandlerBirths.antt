-- The numbers of the instances that a plan makes rise above those of all that were there. So what was there
-- is left by their making, and of each number at most one is made.
use Rattle.std.proofs.Common.{◌≡◌, ℕ, suc, ◌≤◌, Bool, true, false, List, [], ◌∷◌, refl, sym, arith}
use Rattle.std.specs.Prelude.{◌==◌, None}
use Rattle.std.proofs.Math.Path.{subst}
use Rattle.std.proofs.lemmas.Bool.{eqb-true}
use Rattle.std.proofs.lemmas.List.{append-nil}
use Rattle.client_model.specs.Language.{Language}
use Rattle.client_model.specs.Instance.{Handler}
use Rattle.client_model.specs.Runtime.{Runtime, for_each}
use Rattle.client_model.specs.Making.{Birth, make}
use Rattle.world_laws.proofs.Frames.{apart}
use Rattle.journal_laws.proofs.HandlerShapes.{Shape, Word, seen, Quiet, quiet_then, At, Known, Takes, takes_then, quiet_takes}
use Rattle.journal_laws.proofs.HandlerLives.{IsLife, make_takes, make_quiet}
use Rattle.journal_laws.proofs.Numbers.{Rising, rising_from}

module _ (language : Language) (k : ℕ) where
  pub old_stays : (bs : List Birth) → Rising (suc k) bs → (s : Runtime) → Quiet k s (for_each (make language) bs s)
  old_stays [] h s = record { shapes = refl; words = refl }
  old_stays (b ∷ bs) h s = quiet_then k s (make language b s) (for_each (make language) bs) (make_quiet k language b s (above b.number h.0)) (old_stays bs (rising_from (suc k) (suc b.number) bs (omega (arith, h.0)) h.1))
    where
      above : (j : ℕ) → suc k ≤ j → (j == k) ≡ false
      above j l = apart j k (λ e. omega (arith, l, e))

  module _ (Young : List Handler → List Word → Type 0) (Whole Aside : Shape → List Word → Type 0) (life : IsLife Young Whole Aside) where
    pub new_comes : (bs : List Birth) (j : ℕ) → Rising j bs → (s : Runtime) → Takes k (Known None (At Whole)) (At Whole) s (for_each (make language) bs s)
    new_comes [] j h s = λ ws a. subst (At Whole (seen s.instances k)) (sym (append-nil ws)) a.1
    new_comes (b ∷ bs) j h s = by (b.number == k) refl (new_comes bs (suc b.number) h.1)
      where
        by : (c : Bool) → (b.number == k) ≡ c → ((t : Runtime) → Takes k (Known None (At Whole)) (At Whole) t (for_each (make language) bs t)) → Takes k (Known None (At Whole)) (At Whole) s (for_each (make language) (b ∷ bs) s)
        by true e rest =
            let same : b.number ≡ k = eqb-true b.number k e in
            takes_then k (Known None (At Whole)) (At Whole) (At Whole) s (make language b s) (for_each (make language) bs) (make_takes Young Whole Aside life language b k same s)
            (λ t. quiet_takes k (At Whole) t (for_each (make language) bs t) (old_stays bs (subst (λ m. Rising (suc m) bs) same h.1) t))
        by false e rest = takes_then k (Known None (At Whole)) (Known None (At Whole)) (At Whole) s (make language b s) (for_each (make language) bs) (quiet_takes k (Known None (At Whole)) s (make language b s) (make_quiet k language b s e)) rest
