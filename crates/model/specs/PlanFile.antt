-- The plan file: N steps of two numbers, the place of a triple pattern and a choice. Questions 18 to 20.
use Rattle.std.specs.Prelude.{ℕ, ◌&&◌, not, List, [], ◌∷◌, length, eqb}
use Rattle.model.specs.Lists.{any, concat_map}
use Rattle.model.specs.Reader.{Reply, Reader, ◌>>=◌, ◌>>◌, return, ask, whole_file, repeated}
use Rattle.model.specs.Numbers.{Limits, limits_in_force, number_under, number_bytes}
use Rattle.model.specs.Store.{Store}
use Rattle.model.specs.Pattern.{Pattern}
use Rattle.model.specs.Plan.{Step, Plan, places_of, is_place, may_choose}

module _ (limits : Limits) where
  -- a step, with those before it
  unfoldable pub step_under : Store → Pattern → Plan → Reader Step
  step_under store pattern done = do
    i ← number_under limits 18
    ask 19 (is_place pattern i && not (any (eqb i) (places_of done)))
    c ← number_under limits 18
    ask 20 (may_choose store pattern i c)
    return (record { place = i; choice = c })

  -- the plan of a file, or a refusal's number
  unfoldable pub read_plan_under : Store → Pattern → List ℕ → Reply Plan
  read_plan_under store pattern bytes = whole_file 18 (repeated (step_under store pattern) (length pattern) []) bytes

abbrev pub step : Store → Pattern → Plan → Reader Step
step = step_under limits_in_force

abbrev pub read_plan : Store → Pattern → List ℕ → Reply Plan
read_plan = read_plan_under limits_in_force

-- ---- the writer

-- a step's two numbers
abbrev pub step_numbers : Step → List ℕ
step_numbers x = x.place ∷ x.choice ∷ []

-- what is written for a plan
unfoldable pub plan_bytes : Plan → List ℕ
plan_bytes plan = concat_map number_bytes (concat_map step_numbers plan)
