-- What a head says of its request.
use Rattle.std.specs.Prelude.{ℕ, Bool, false, ◌&&◌, ◌||◌, ◌==◌, if◌then◌else◌}
use Rattle.std.specs.Prelude.{List, [], ◌∷◌, length, take, codes, Option, Some, None}
use Rattle.std.specs.List.{list_any}
use Rattle.httparse.specs.Grammar.{RequestHead}
use Rattle.http_heads.specs.Head.{Fields, IsHeadOf, fields_of, is_closing, same_letters}
use Rattle.request_guard.specs.Admissions.{has_foreign_origin}
use Rattle.request_details.specs.Bodies.{body_of}
use Rattle.request_details.specs.declared.body.Body.{Body}
use Rattle.request_details.specs.declared.body.Body.TheVariants as body
use Rattle.request_details.specs.declared.reading.Details.{Details}

-- what stands behind the first question mark of a target
abbrev pub behind_mark : List ℕ → List ℕ
behind_mark [] = []
behind_mark (b ∷ bytes) = if b == 63 then bytes else behind_mark bytes

-- a text up to its first hash
abbrev pub before_hash : List ℕ → List ℕ
before_hash [] = []
before_hash (b ∷ bytes) = if b == 35 then [] else b ∷ before_hash bytes

-- the query of a target
abbrev pub query_of : List ℕ → List ℕ
query_of target = before_hash (behind_mark target)

-- the word stands somewhere in the text, in any case of its letters
abbrev pub holds : List ℕ → List ℕ → Bool
holds word [] = false
holds word (b ∷ bytes) = same_letters (take (length word) (b ∷ bytes)) word || holds word bytes

-- the field says that pages are accepted
abbrev pub asks_page : List ℕ × List ℕ → Bool
asks_page f = same_letters f.0 (codes "accept") && holds (codes "text/html") f.1

abbrev pub wants_page : Fields → Bool
wants_page fields = list_any asks_page fields

-- what is said of a request
pub record Detail : Type 0 where
  pub method : List ℕ
  pub target : List ℕ
  pub wants_page : Bool
  pub is_foreign : Bool
  pub closes : Bool
  pub body : Body

abbrev pub said : Details → Detail
said d = record {
  method = d.method.now;
  target = d.target.now;
  wants_page = d.wants_page;
  is_foreign = d.is_foreign;
  closes = d.closes;
  body = d.body;
}

-- at a server at this port
abbrev pub details_at : ℕ → List ℕ → List ℕ → ℕ → Fields → Detail
details_at port method target minor fields = record {
  method = method;
  target = target;
  wants_page = wants_page fields;
  is_foreign = has_foreign_origin port fields;
  closes = minor == 0 || is_closing fields;
  body = body_of body.Untold fields;
}

abbrev pub details_of : ℕ → RequestHead → Detail
details_of port h = details_at port h.method h.target h.minor (fields_of h)

-- as a whole the bytes are a head, of which that is said; or there is none that they are
pub data Tells (port : ℕ) (bytes : List ℕ) : Option Detail → Type 0 where
  a_head : (h : RequestHead) → IsHeadOf bytes h → Tells port bytes (Some (details_of port h))
  no_head : ((h : RequestHead) → ¬ (IsHeadOf bytes h)) → Tells port bytes None
