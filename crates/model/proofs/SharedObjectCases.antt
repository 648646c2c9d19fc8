-- S-14 by computation: two sensors on one door.
use Prim.Native.Nat.{ℕ}
use mathlib.Core.Path.{refl}
use mathlib.Core.List.{List, [], ◌∷◌}
use Rattle.model.specs.Calls.{outcome, build, run, whether}
use Rattle.model.specs.declared.answer.Answer.TheVariants.{Rows, None, Built, Yes, Refused}
use Rattle.model.proofs.Cases.{lent, answered, Case, Hold, computing}
use Rattle.model.proofs.AnswerCases.{plan_over}

-- 1 has the rows 10 20, 11 21 and 12 21; 2 has 13 21; 3 has 10 20
abbrev pub two_sensors : List ℕ
two_sensors =
    0x03 ∷ 0x01 ∷ 0x03 ∷ 0x02 ∷ 0x01 ∷ 0x03 ∷ 0x01 ∷ 0x0A ∷ 0x14 ∷ 0x0B ∷ 0x15 ∷ 0x0C ∷ 0x15 ∷ 0x0D ∷ 0x15 ∷ 0x0A ∷ 0x14 ∷ []

abbrev pub two_sensors_words : List ℕ
two_sensors_words =
    3 ∷ 1000 ∷ 102
    ∷ 1 ∷ 3 ∷ 84 ∷ 2 ∷ 1 ∷ 90 ∷ 3 ∷ 1 ∷ 92
    -- 1 against 1, 2, 3: row count and start of SS, OS, SO, OO
    ∷ 3 ∷ 0 ∷ 0 ∷ 0 ∷ 0 ∷ 0 ∷ 3 ∷ 0
    ∷ 0 ∷ 0 ∷ 0 ∷ 0 ∷ 0 ∷ 0 ∷ 2 ∷ 94
    ∷ 1 ∷ 98 ∷ 0 ∷ 0 ∷ 0 ∷ 0 ∷ 1 ∷ 100
    -- 2 against 1, 2, 3
    ∷ 0 ∷ 0 ∷ 0 ∷ 0 ∷ 0 ∷ 0 ∷ 1 ∷ 0
    ∷ 1 ∷ 0 ∷ 0 ∷ 0 ∷ 0 ∷ 0 ∷ 1 ∷ 0
    ∷ 0 ∷ 0 ∷ 0 ∷ 0 ∷ 0 ∷ 0 ∷ 0 ∷ 0
    -- 3 against 1, 2, 3
    ∷ 1 ∷ 0 ∷ 0 ∷ 0 ∷ 0 ∷ 0 ∷ 1 ∷ 0
    ∷ 0 ∷ 0 ∷ 0 ∷ 0 ∷ 0 ∷ 0 ∷ 0 ∷ 0
    ∷ 1 ∷ 0 ∷ 0 ∷ 0 ∷ 0 ∷ 0 ∷ 1 ∷ 0
    ∷ 10 ∷ 20 ∷ 11 ∷ 21 ∷ 12 ∷ 21 ∷ 13 ∷ 21 ∷ 10 ∷ 20
    -- OO of 1 against 2; SS and OO of 1 against 3
    ∷ 11 ∷ 21 ∷ 12 ∷ 21 ∷ 10 ∷ 20 ∷ 10 ∷ 20 ∷ []

-- ?0 1 ?1, ?2 2 ?1
abbrev pub one_door : List ℕ
one_door = 0x02 ∷ 0x01 ∷ 0x02 ∷ 0x03 ∷ 0x05 ∷ 0x04 ∷ 0x03 ∷ []

abbrev pub shared_object_cases : List Case
shared_object_cases =
    (build 1000 two_sensors (lent 102), outcome (Built 102) two_sensors_words)
    -- place 0 takes OO against place 1, choice 8, and the rows are those of VP
    ∷ plan_over two_sensors_words one_door (1 ∷ 0 ∷ 0 ∷ 8 ∷ []) 2
    ∷ (run two_sensors_words one_door (0x01 ∷ 0x00 ∷ 0x00 ∷ 0x08 ∷ []) (lent 6), outcome (Rows 2 3) (11 ∷ 21 ∷ 13 ∷ 12 ∷ 21 ∷ 13 ∷ []))
    ∷ (run two_sensors_words one_door (0x01 ∷ 0x00 ∷ 0x00 ∷ 0x00 ∷ []) (lent 6), outcome (Rows 2 3) (11 ∷ 21 ∷ 13 ∷ 12 ∷ 21 ∷ 13 ∷ []))
    ∷ (answered (whether two_sensors_words one_door (0x01 ∷ 0x00 ∷ 0x00 ∷ 0x08 ∷ [])), answered Yes)
    -- OO of 2 against 1 is whole, and so not stored: 20
    ∷ (run two_sensors_words one_door (0x01 ∷ 0x04 ∷ 0x00 ∷ 0x08 ∷ []) (lent 6), outcome (Refused 20) (lent 6))
    -- ?0 2 ?1, ?2 3 ?1: OO is empty
    ∷ (run two_sensors_words (0x02 ∷ 0x01 ∷ 0x04 ∷ 0x03 ∷ 0x05 ∷ 0x06 ∷ 0x03 ∷ []) (0x00 ∷ 0x00 ∷ 0x01 ∷ 0x00 ∷ []) [], outcome None [])
    -- ?0 1 ?1, ?2 2 ?1, ?3 2 ?1: OO against either leaves two rows, and the lower j is chosen
    ∷ plan_over two_sensors_words (0x03 ∷ 0x01 ∷ 0x02 ∷ 0x03 ∷ 0x05 ∷ 0x04 ∷ 0x03 ∷ 0x07 ∷ 0x04 ∷ 0x03 ∷ []) (1 ∷ 0 ∷ 2 ∷ 0 ∷ 0 ∷ 8 ∷ []) 3
    -- ?0 1 ?1, ?0 3 ?1: SS and OO leave one row each, and the lower k is chosen
    ∷ plan_over two_sensors_words (0x02 ∷ 0x01 ∷ 0x02 ∷ 0x03 ∷ 0x01 ∷ 0x06 ∷ 0x03 ∷ []) (0 ∷ 5 ∷ 1 ∷ 0 ∷ []) 2
    ∷ []

pub shared_objects_worked : Hold shared_object_cases
unfolding computing
shared_objects_worked = refl
