-- The URLs of instances.
use Rattle.std.specs.Prelude.{◌≢◌, ◌≤◌, ℕ, List, [], ◌++◌, codes, Option, Some, None}
use Rattle.percent_encoding.specs.Percent.{percent_encode}
use Rattle.file_names.specs.FileNames.{decoded}
use Rattle.instance_urls.specs.Plans.{plan_text}
use Rattle.instance_urls.specs.declared.plan_id.PlanId.{PlanId}
use Rattle.instance_urls.specs.declared.url.TheConstants.{ESCAPED}

-- what tells an instance from the first one of its page
abbrev pub query_of : Option PlanId → List ℕ
query_of None = []
query_of (Some id) = codes "?hmr=" ++ plan_text id

-- the URL of the instance of a module that a plan made, or the plain URL
abbrev pub url_of : List ℕ → Option PlanId → List ℕ
url_of name plan = percent_encode ESCAPED (decoded name) ++ query_of plan

-- a visible character of ASCII that a string literal has as it is
pub record IsUrlByte (b : ℕ) : Type 0 where
  pub visible : 33 ≤ b
  pub ascii : b ≤ 126
  pub quote : b ≢ 34
  pub backslash : b ≢ 92
  pub less : b ≢ 60
  pub greater : b ≢ 62
