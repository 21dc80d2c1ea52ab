-- What a worker takes and posts.
use Rattle.std.specs.Prelude.{◌≡◌, ◌-◌, ◌^◌, [], ◌∷◌, ◌++◌}
use Rattle.std.specs.Prelude.{ℕ, min, List, length, map, All, Option, Result, Ok, Err}
use Rattle.update_msgs.specs.declared.desk.HubStop.{HubStop}
use Rattle.transforms.specs.Transform.{Transform}
use Rattle.transform_pool.specs.Boards.{told_more}
use Rattle.transform_pool.specs.Results.{post_of}
use Rattle.transform_pool.specs.Tasks.{Task}

-- how many there are, as a `u64` counts them
abbrev pub counted : List Task → ℕ
counted jobs = min (length jobs) (2 ^ 64 - 1)

-- the jobs that a worker took, where it posted the results of these: all of them where it came to the end,
-- and how many is answered; one more where it was stopped
abbrev pub Took : List Task → List Task → Result ℕ HubStop → Type 0
Took taken posted (Ok count) = (taken ≡ posted) × (count ≡ counted posted)
Took taken posted (Err stop) = (last : Task) × (taken ≡ posted ++ last ∷ [])

-- of the jobs that were taken the results were posted, in order
pub record Worked
    (taken taken' : Option (List Task)) (posted posted' : Option (List (Transform × ℕ)))
    (result : Result ℕ HubStop) : Type 0 where
  pub jobs : List Task
  pub done : List Task
  pub taken_is : taken' ≡ told_more taken jobs
  pub posted_is : posted' ≡ told_more posted (map post_of done)
  pub took : Took jobs done result

-- so far: the results of all jobs that were taken were posted
pub record Working
    (taken taken' : Option (List Task)) (posted posted' : Option (List (Transform × ℕ)))
    (count : ℕ) : Type 0 where
  pub jobs : List Task
  pub taken_is : taken' ≡ told_more taken jobs
  pub posted_is : posted' ≡ told_more posted (map post_of jobs)
  pub count_is : count ≡ counted jobs

-- what was posted since has passed the gate, each by its version
pub record IsGated (passed : ℕ → Type 0) (posted posted' : Option (List (Transform × ℕ))) : Type 0 where
  pub more : List (Transform × ℕ)
  pub posted_is : posted' ≡ told_more posted more
  pub gated : All (λ row. passed row.1) more
