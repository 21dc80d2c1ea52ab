-- Why a fault is noted.
use Rattle.std.proofs.Common.{◌≡◌, ◌⊎◌, inl, inr, ◌≤◌, ℕ, Bool, true, false, refl, sym, ◌∙◌, arith}
use Rattle.std.proofs.lemmas.Bool.{or_cases, or_left}
use Rattle.hmr_base.specs.Causes.{Rose}
use Rattle.std.specs.Prelude.{List}
use Rattle.hmr_hub.specs.declared.pass.Pass.{Pass}
use Rattle.sessions.specs.declared.log.Log.{Log}
use Rattle.crew_plans.specs.declared.gathered.Gathered.{Gathered}
use Rattle.crew_plans.specs.Gathers.{Gathers, SameGathered, TakenIn}

pub rose_later : (a b c : ℕ) → Rose a b → b ≤ c → Rose a c
rose_later a b c h k = omega arith

pub rose_before : (a b c : ℕ) → a ≤ b → Rose b c → Rose a c
rose_before a b c h k = omega arith

-- no fault was noted
pub gathers_later : (a b : Gathered) (n n' p p' : ℕ) → b.fault ≡ a.fault → n ≤ n' → p ≤ p' → Gathers a b n n' p p'
gathers_later a b n n' p p' same net spawner = record {
  net_later = net;
  spawner_later = spawner;
  stays = λ t. same ∙ t;
  fault = λ t. inl (sym same ∙ t);
}

pub gathers_same : (a b : Gathered) (n p : ℕ) → SameGathered a b → Gathers a b n n p p
gathers_same a b n p same = gathers_later a b n n p p same.fault (omega arith) (omega arith)

fault_first : {A : Type 0} (n m k p q r : ℕ) → m ≤ k → q ≤ r → A ⊎ (Rose n m ⊎ Rose p q) → A ⊎ (Rose n k ⊎ Rose p r)
fault_first n m k p q r hn hp (inl a) = inl a
fault_first n m k p q r hn hp (inr (inl x)) = inr (inl (rose_later n m k x hn))
fault_first n m k p q r hn hp (inr (inr x)) = inr (inr (rose_later p q r x hp))

fault_then : (a b c : Gathered) (n m k p q r : ℕ) → Gathers a b n m p q → Gathers b c m k q r → (b.fault ≡ true) ⊎ (Rose m k ⊎ Rose q r)
    → (a.fault ≡ true) ⊎ (Rose n k ⊎ Rose p r)
fault_then a b c n m k p q r h g (inr (inl x)) = inr (inl (rose_before n m k h.net_later x))
fault_then a b c n m k p q r h g (inr (inr x)) = inr (inr (rose_before p q r h.spawner_later x))
fault_then a b c n m k p q r h g (inl t) = fault_first n m k p q r g.net_later g.spawner_later (h.fault t)

-- one after another
pub gathers_then : (a b c : Gathered) (n m k p q r : ℕ) → Gathers a b n m p q → Gathers b c m k q r → Gathers a c n k p r
gathers_then a b c n m k p q r h g = record {
  net_later = omega (arith, h.net_later, g.net_later);
  spawner_later = omega (arith, h.spawner_later, g.spawner_later);
  stays = λ t. g.stays (h.stays t);
  fault = λ t. fault_then a b c n m k p q r h g (g.fault t);
}

-- what was noted later wasn't noted before
pub unfaulted : (a b : Gathered) (n m p q : ℕ) → Gathers a b n m p q → b.fault ≡ false → a.fault ≡ false
unfaulted a b n m p q h f = unless a.fault (λ t. let x : true ≡ false = sym (h.stays t) ∙ f in cc)
  where
    unless : (x : Bool) → (x ≡ true → false ≡ true) → x ≡ false
    unless false h = refl
    unless true h = sym (h refl)

faulted : {A B C : Type 0} → (B → C) → A ⊎ B → A ⊎ C
faulted f (inl a) = inl a
faulted f (inr b) = inr (f b)

-- what a job leaves was taken in
pub gathers_taken : (passes : List Pass) (logs : List Log) (memory full fault : Bool) (a b : Gathered) (n m p q : ℕ) → TakenIn passes logs memory full fault a b
    → n ≤ m → p ≤ q → (fault ≡ true → Rose n m ⊎ Rose p q) → Gathers a b n m p q
gathers_taken passes logs memory full fault a b n m p q taken net spawner cause = record {
  net_later = net;
  spawner_later = spawner;
  stays = λ t. taken.fault_is ∙ or_left a.fault fault t;
  fault = λ t. faulted cause (or_cases a.fault fault (sym taken.fault_is ∙ t));
}
