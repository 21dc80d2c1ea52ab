-- Numbers and links of a client's instances, and what they export.
use Rattle.std.specs.Prelude.{◌≡◌, ◌≢◌, ℕ, suc, ◌≤◌, true, List, [], ◌∷◌, length, Contains, Some, is_some, ⊤}
use Rattle.hmr_types.specs.declared.analysis.Analysis.{Analysis}
use Rattle.hmr_types.specs.declared.analysis.Outcome.TheVariants.{Good}
use Rattle.core_model.specs.Names.{Name, has, at}
use Rattle.client_model.specs.Language.{Language, Binding}
use Rattle.client_model.specs.Instance.{Instance, is_live}
use Rattle.client_model.specs.Runtime.{Runtime}
use Rattle.client_model.specs.Stale.{live_number}

-- each instance has as its number the place at which it was made; the newest stands first
abbrev pub AreNumbered : List Instance → Type 0
AreNumbered [] = ⊤
AreNumbered (i ∷ instances) = (i.number ≡ suc (length instances)) × AreNumbered instances

-- the instance of this number was made of this name
pub record IsMadeOf (instances : List Instance) (x : Name) (k : ℕ) : Type 0 where
  pub instance : Instance
  pub made : Contains instances instance
  pub number : instance.number ≡ k
  pub name : instance.name ≡ x

-- each link of each instance is to one that was made of the import's name
abbrev pub AreLinked : List Instance → Type 0
AreLinked instances = (i : Instance) → Contains instances i → (x : Name) (k : ℕ) →
    Contains i.links (x, k) → IsMadeOf instances x k

-- the instance of this number exports the name
pub record IsExporting (instances : List Instance) (k : ℕ) (x : Name) : Type 0 where
  pub instance : Instance
  pub made : Contains instances instance
  pub number : instance.number ≡ k
  pub exports : has instance.exports x ≡ true

-- each name that an instance's text imports from what it is linked to is exported there
abbrev pub AreExported : Language → List Instance → Type 0
AreExported language instances = (i : Instance) → Contains instances i → (b : Binding) →
    Contains (language.bindings i.name i.text) b → (k : ℕ) → Contains i.links (b.dependency, k) →
    IsExporting instances k b.exported

-- the numbers of all instances and links are counted
pub record AreCounted (instances : List Instance) : Type 0 where
  pub numbers : (i : Instance) → Contains instances i → (1 ≤ i.number) × (i.number ≤ length instances)
  pub links : (i : Instance) → Contains instances i → (x : Name) (k : ℕ) → Contains i.links (x, k) →
      (1 ≤ k) × (k ≤ length instances)

-- where the instance's text has a good analysis, its links are of exactly the imports
abbrev pub IsLinkedWhole : Language → Instance → Type 0
IsLinkedWhole language i = (a : Analysis) → language.transformed i.name i.text ≡ Good a → (x : Name) →
    is_some (at i.links x) ≡ has a.imports x

-- each does
abbrev pub AreLinkedWhole : Language → List Instance → Type 0
AreLinkedWhole language instances = (i : Instance) → Contains instances i → IsLinkedWhole language i

-- a live instance of n has version v
pub record IsLiveAs (instances : List Instance) (n : Name) (v : ℕ) : Type 0 where
  pub instance : Instance
  pub made : Contains instances instance
  pub live : is_live instance ≡ true
  pub name : instance.name ≡ n
  pub version : instance.version ≡ v

-- a live instance of b imports x, and the number that it holds for x isn't that of x's live instance
pub record HoldsOlder (r : Runtime) (b x : Name) : Type 0 where
  pub instance : Instance
  pub made : Contains r.instances instance
  pub live : is_live instance ≡ true
  pub name : instance.name ≡ b
  pub held : ℕ
  pub link : at instance.links x ≡ Some held
  pub older : live_number r x ≢ Some held
