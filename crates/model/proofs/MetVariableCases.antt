-- S-16 by computation: a variable met in an earlier step counts like a term.
use Prim.Native.Nat.{ℕ}
use mathlib.Core.Path.{refl}
use mathlib.Core.List.{List, [], ◌∷◌}
use Rattle.model.specs.Calls.{outcome, build, run, whether}
use Rattle.model.specs.declared.answer.Answer.TheVariants.{Rows, Built, Yes}
use Rattle.model.proofs.Cases.{lent, answered, Case, Hold, computing}
use Rattle.model.proofs.AnswerCases.{plan_over}

-- 1 has the row 10 20; 2 has 10 20 and 20 30
abbrev pub ring_site : List ℕ
ring_site = 0x02 ∷ 0x01 ∷ 0x01 ∷ 0x02 ∷ 0x02 ∷ 0x0A ∷ 0x14 ∷ 0x0A ∷ 0x14 ∷ 0x14 ∷ 0x1E ∷ []

abbrev pub ring_words : List ℕ
ring_words =
    2 ∷ 1000 ∷ 57
    ∷ 1 ∷ 1 ∷ 41 ∷ 2 ∷ 2 ∷ 43
    -- 1 against 1, 2: row count and start of SS, OS, SO, OO
    ∷ 1 ∷ 0 ∷ 0 ∷ 0 ∷ 0 ∷ 0 ∷ 1 ∷ 0
    ∷ 1 ∷ 0 ∷ 1 ∷ 0 ∷ 0 ∷ 0 ∷ 1 ∷ 0
    -- 2 against 1, 2
    ∷ 1 ∷ 47 ∷ 0 ∷ 0 ∷ 1 ∷ 49 ∷ 1 ∷ 51
    ∷ 2 ∷ 0 ∷ 1 ∷ 53 ∷ 1 ∷ 55 ∷ 2 ∷ 0
    ∷ 10 ∷ 20 ∷ 10 ∷ 20 ∷ 20 ∷ 30
    -- SS, SO and OO of 2 against 1; OS and SO of 2 against 2
    ∷ 10 ∷ 20 ∷ 20 ∷ 30 ∷ 10 ∷ 20 ∷ 10 ∷ 20 ∷ 20 ∷ 30 ∷ []

-- ?0 1 ?1, ?1 2 ?2, ?0 2 ?1
abbrev pub ring : List ℕ
ring = 0x03 ∷ 0x01 ∷ 0x02 ∷ 0x03 ∷ 0x03 ∷ 0x04 ∷ 0x05 ∷ 0x01 ∷ 0x04 ∷ 0x03 ∷ []

abbrev pub met_variable_cases : List Case
met_variable_cases =
    (build 1000 ring_site (lent 57), outcome (Built 57) ring_words)
    -- both variables of place 2 are met when place 0 is taken: it goes before place 1, which has as few rows and is lower
    ∷ plan_over ring_words ring (0 ∷ 0 ∷ 2 ∷ 1 ∷ 1 ∷ 3 ∷ []) 3
    -- the rows are those of the written order
    ∷ (run ring_words ring (0x00 ∷ 0x00 ∷ 0x02 ∷ 0x01 ∷ 0x01 ∷ 0x03 ∷ []) (lent 3), outcome (Rows 1 3) (10 ∷ 20 ∷ 30 ∷ []))
    ∷ (run ring_words ring (0x00 ∷ 0x00 ∷ 0x01 ∷ 0x00 ∷ 0x02 ∷ 0x00 ∷ []) (lent 3), outcome (Rows 1 3) (10 ∷ 20 ∷ 30 ∷ []))
    ∷ (answered (whether ring_words ring (0x00 ∷ 0x00 ∷ 0x02 ∷ 0x01 ∷ 0x01 ∷ 0x03 ∷ [])), answered Yes)
    -- ?0 1 ?1, ?2 2 ?1, ?0 2 ?1: a subject that is met counts as an object does
    ∷ plan_over ring_words (0x03 ∷ 0x01 ∷ 0x02 ∷ 0x03 ∷ 0x05 ∷ 0x04 ∷ 0x03 ∷ 0x01 ∷ 0x04 ∷ 0x03 ∷ []) (0 ∷ 0 ∷ 2 ∷ 1 ∷ 1 ∷ 4 ∷ []) 3
    -- ?0 1 ?1, ?1 2 ?2, ?1 2 ?1: each position counts
    ∷ plan_over ring_words (0x03 ∷ 0x01 ∷ 0x02 ∷ 0x03 ∷ 0x03 ∷ 0x04 ∷ 0x05 ∷ 0x03 ∷ 0x04 ∷ 0x03 ∷ []) (0 ∷ 0 ∷ 2 ∷ 3 ∷ 1 ∷ 3 ∷ []) 3
    -- ?0 1 ?1, ?1 2 30, ?0 2 ?2, ?1 2 ?3: ?1 is met twice and counts once, so place 3 ties with place 2
    ∷ plan_over ring_words
    (0x04 ∷ 0x01 ∷ 0x02 ∷ 0x03 ∷ 0x03 ∷ 0x04 ∷ 0x3C ∷ 0x01 ∷ 0x04 ∷ 0x05 ∷ 0x03 ∷ 0x04 ∷ 0x07 ∷ [])
    (1 ∷ 3 ∷ 0 ∷ 0 ∷ 2 ∷ 1 ∷ 3 ∷ 3 ∷ []) 4
    ∷ []

pub met_variables_worked : Hold met_variable_cases
unfolding computing
met_variables_worked = refl
