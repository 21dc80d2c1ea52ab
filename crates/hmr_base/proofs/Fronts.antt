-- Fronts of a text that were written.
use Rattle.std.proofs.Common.{◌≡◌, ℕ, List, [], ◌++◌, append_assoc, ap, sym, refl, ◌∙◌}
use Rattle.std.specs.Prelude.{Option}
use Rattle.std.specs.Io.KnownBytes.{Appends}
use Rattle.std.proofs.KnownBytes.{Appends-trans, Appends-nil}
use Rattle.std.proofs.lemmas.List.{append-nil}
use Rattle.hmr_base.specs.Fronts.{WritesFront}

-- all of it
pub front_all : (a b : Option (List ℕ)) (text : List ℕ) → Appends a b text → WritesFront a b text
front_all a b text h = record { front = text; rest = []; whole = append-nil text; out = h }

-- a front of the next part, after all that went before
pub front_more : (a b c : Option (List ℕ)) (before part after text : List ℕ) → Appends a b before → WritesFront b c part → before ++ (part ++ after) ≡ text → WritesFront a c text
front_more a b c before part after text h w e =
    record {
      front = before ++ w.front;
      rest = w.rest ++ after;
      whole = append_assoc before w.front (w.rest ++ after) ∙ (ap (λ x. before ++ x) (sym (append_assoc w.front w.rest after) ∙ ap (λ x. x ++ after) w.whole) ∙ e);
      out = Appends-trans a b c before w.front h w.out;
    }

-- nothing yet
pub front_none : (a : Option (List ℕ)) (text : List ℕ) → WritesFront a a text
front_none a text = record { front = []; rest = text; whole = refl; out = Appends-nil a }
