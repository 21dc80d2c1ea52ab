-- Passes within a pass that others are joined into.
use Rattle.std.proofs.Common.{◌≡◌, List, [], ◌∷◌, ◌++◌, ap, sym, ◌∙◌, subst, append_assoc}
use Rattle.std.specs.List.{All}
use Rattle.std.proofs.lemmas.Bool.{or_left, or_right}
use Rattle.std.proofs.lemmas.List.Elements.{All-weaker, All-cons}
use Rattle.turn_lock.specs.Histories.{calls, has}
use Rattle.turn_lock.proofs.Histories.{calls_still, has_append, quiet_append, quiet_less}
use Rattle.hmr_hub.specs.declared.pass.Pass.{Pass}
use Rattle.hmr_hub.specs.Calls.{Joined, Looked, SameKnower}
use Rattle.hmr_hub.specs.Passes.{known_of, number_of, seen_of}
use Rattle.serve_reports.specs.Within.{HasCalls, IsWithin}

-- what the pass that stays has seen of another's
pub joined_other : (p o q : Pass) → Joined p o q → IsWithin o q
joined_other p o q j = record {
  more = j.other.rest;
  whole = j.other.whole;
  knows = λ own.
      ap (λ ks. has (number_of o) ks) j.known
      ∙ (has_append (number_of o) (known_of p) (known_of o)
      ∙ or_right (has (number_of o) (known_of p)) (has (number_of o) (known_of o)) own);
  quiet = λ own. quiet_less (known_of o) (number_of o) j.other.rest own j.other.quiet;
}

-- one that lies within a pass lies within it after another was joined
pub joined_on : (x p o q : Pass) → Joined p o q → IsWithin x p → IsWithin x q
joined_on x p o q j w = record {
  more = w.more ++ j.mine.rest;
  whole = j.mine.whole ∙ (ap (λ xs. xs ++ j.mine.rest) w.whole ∙ append_assoc (seen_of x) w.more j.mine.rest);
  knows = λ own.
      ap (λ ks. has (number_of x) ks) j.known
      ∙ (has_append (number_of x) (known_of p) (known_of o)
      ∙ or_left (has (number_of x) (known_of p)) (has (number_of x) (known_of o)) (w.knows own));
  quiet = λ own.
      quiet_append (number_of x ∷ []) w.more j.mine.rest (w.quiet own)
      (quiet_less (known_of p) (number_of x) j.mine.rest (w.knows own) j.mine.quiet);
}

-- one pass more was joined
pub joined_more : (passes rest left done : List Pass) (p q other : Pass) → rest ≡ left ++ other ∷ [] → passes ≡ rest ++ done
    → Joined p other q → All (λ x. IsWithin x p) done → (all : List Pass) × (passes ≡ left ++ all) × All (λ x. IsWithin x q) all
joined_more passes rest left done p q other e whole j h = (
  other ∷ done,
  whole ∙ (ap (λ x. x ++ done) e ∙ append_assoc left (other ∷ []) done),
  All-cons (λ x. IsWithin x q) other done (joined_other p other q j)
      (All-weaker (λ x. IsWithin x p) (λ x. IsWithin x q) (λ x w. joined_on x p other q j w) done h),
)

pub all_joined : (passes rest : List Pass) (q : Pass) → rest ≡ []
    → (done : List Pass) × (passes ≡ rest ++ done) × All (λ x. IsWithin x q) done → All (λ x. IsWithin x q) passes
all_joined passes rest q none (done, whole, h) =
    subst (λ xs. All (λ x. IsWithin x q) xs) (sym (whole ∙ ap (λ x. x ++ done) none)) h

-- the calls of a pass are the entries under its number
calls_within : (p q : Pass) → IsWithin p q → HasCalls p q
calls_within p q w own =
    ap (λ xs. calls (number_of p ∷ []) xs) w.whole ∙ calls_still (number_of p ∷ []) (seen_of p) w.more (w.quiet own)

pub all_calls : (passes : List Pass) (q : Pass) → All (λ p. IsWithin p q) passes → All (λ p. HasCalls p q) passes
all_calls passes q h = All-weaker (λ p. IsWithin p q) (λ p. HasCalls p q) (λ p w. calls_within p q w) passes h

-- a look at the transcript changes nothing of that
pub within_look : (x p q : Pass) → SameKnower p q → Looked p q → IsWithin x p → IsWithin x q
within_look x p q same look w = record {
  more = w.more ++ look.past.rest;
  whole = look.past.whole ∙ (ap (λ xs. xs ++ look.past.rest) w.whole ∙ append_assoc (seen_of x) w.more look.past.rest);
  knows = λ own. ap (λ ks. has (number_of x) ks) same.known ∙ w.knows own;
  quiet = λ own.
      quiet_append (number_of x ∷ []) w.more look.past.rest (w.quiet own)
      (quiet_less (known_of p) (number_of x) look.past.rest (w.knows own) look.past.quiet);
}

pub all_look : (passes : List Pass) (p q : Pass) → SameKnower p q → Looked p q → All (λ x. IsWithin x p) passes → All (λ x. IsWithin x q) passes
all_look passes p q same look h = All-weaker (λ x. IsWithin x p) (λ x. IsWithin x q) (λ x w. within_look x p q same look w) passes h
