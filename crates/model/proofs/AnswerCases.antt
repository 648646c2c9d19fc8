-- Further cases by computation: each question answered no, at its limit where it has one, and two faults at once; then answers.
use Prim.Native.Nat.{ℕ, ◌-◌, ◌*◌}
use mathlib.Core.Path.{◌≡◌, refl}
use mathlib.Core.Option.{none, some}
use mathlib.Core.List.{List, [], ◌∷◌, ◌++◌, map}
use lib.ListN.{take, replicate}
use Rattle.model.specs.Lists.{concat_map, below}
use Rattle.model.specs.Numbers.{limits_of_01}
use Rattle.model.specs.SiteFile.{read_site}
use Rattle.model.specs.PatternFile.{read_pattern}
use Rattle.model.specs.Plan.{Plan}
use Rattle.model.specs.Join.{Partial, joined}
use Rattle.model.specs.Calls.{outcome, build_under, build, plan, run_under, run, whether}
use Rattle.model.specs.Chain.{chain}
use Rattle.model.specs.declared.answer.Answer.TheVariants.{Rows, None, Built, Refused}
use Rattle.model.specs.declared.answer.Answer.TheVariants.{Plan as PlanAnswer}
use Rattle.model.proofs.Cases.{shop, check, lent, stored, unstored, plan_outcome, answered, site_in, pattern_in, shown, Case, Hold, computing}

-- bytes, and the number of the question that is answered no
abbrev pub Refusal : Type 0
Refusal = List ℕ × ℕ

-- ---- sites

abbrev pub refused_sites : List Refusal
refused_sites =
    -- 2: a number is missing, has more than four bytes, or is not in shortest form
    (0x01 ∷ 0x05 ∷ [], 2)
    ∷ (0x80 ∷ 0x80 ∷ 0x80 ∷ 0x80 ∷ 0x01 ∷ [], 2)
    ∷ (0x01 ∷ 0x85 ∷ 0x00 ∷ [], 2)
    -- 3: 17 predicates; 2,097,152 of them, which has four bytes
    ∷ (0x11 ∷ [], 3)
    ∷ (0x80 ∷ 0x80 ∷ 0x80 ∷ 0x01 ∷ [], 3)
    -- 4: predicate 16,777,216; a predicate equal to the one before it, or below it
    ∷ (0x01 ∷ 0x80 ∷ 0x80 ∷ 0x80 ∷ 0x08 ∷ [], 4)
    ∷ (0x02 ∷ 0x05 ∷ 0x00 ∷ 0x05 ∷ [], 4)
    ∷ (0x02 ∷ 0x05 ∷ 0x00 ∷ 0x04 ∷ [], 4)
    -- 5: 1,025 rows of one predicate, or of two together; of 1,024 the first is asked for
    ∷ (0x01 ∷ 0x05 ∷ 0x81 ∷ 0x08 ∷ [], 5)
    ∷ (0x02 ∷ 0x05 ∷ 0x80 ∷ 0x08 ∷ 0x06 ∷ 0x01 ∷ [], 5)
    ∷ (0x01 ∷ 0x05 ∷ 0x80 ∷ 0x08 ∷ [], 2)
    -- 6: subject 16,777,216; object 16,777,216
    ∷ (0x01 ∷ 0x05 ∷ 0x01 ∷ 0x80 ∷ 0x80 ∷ 0x80 ∷ 0x08 ∷ [], 6)
    ∷ (0x01 ∷ 0x05 ∷ 0x01 ∷ 0x0A ∷ 0x80 ∷ 0x80 ∷ 0x80 ∷ 0x08 ∷ [], 6)
    -- 7: a row equal to the one before it; its object below; its subject below, though its object is above
    ∷ (0x01 ∷ 0x05 ∷ 0x02 ∷ 0x0A ∷ 0x14 ∷ 0x0A ∷ 0x14 ∷ [], 7)
    ∷ (0x01 ∷ 0x05 ∷ 0x02 ∷ 0x0A ∷ 0x14 ∷ 0x0A ∷ 0x13 ∷ [], 7)
    ∷ (0x01 ∷ 0x05 ∷ 0x02 ∷ 0x0A ∷ 0x14 ∷ 0x09 ∷ 0x15 ∷ [], 7)
    -- 8: a byte more, which is not read as a number
    ∷ (0x00 ∷ 0x80 ∷ [], 8)
    -- two faults: 5 of the first predicate and 4 of the second; 4 and 5 of the second
    ∷ (0x02 ∷ 0x05 ∷ 0x81 ∷ 0x08 ∷ 0x05 ∷ [], 5)
    ∷ (0x02 ∷ 0x05 ∷ 0x00 ∷ 0x05 ∷ 0x81 ∷ 0x08 ∷ [], 4)
    -- 5 of the second predicate and 6 in the rows of the first
    ∷ (0x02 ∷ 0x05 ∷ 0x01 ∷ 0x06 ∷ 0x80 ∷ 0x08 ∷ 0x80 ∷ 0x80 ∷ 0x80 ∷ 0x08 ∷ [], 5)
    -- 6 and 7 of one row; 7 of a row and 6 of the next; 7 of the last row and a byte more
    ∷ (0x01 ∷ 0x05 ∷ 0x02 ∷ 0x0A ∷ 0x14 ∷ 0x09 ∷ 0x80 ∷ 0x80 ∷ 0x80 ∷ 0x08 ∷ [], 6)
    ∷ (0x01 ∷ 0x05 ∷ 0x03 ∷ 0x0A ∷ 0x14 ∷ 0x0A ∷ 0x14 ∷ 0x80 ∷ 0x80 ∷ 0x80 ∷ 0x08 ∷ [], 7)
    ∷ (0x01 ∷ 0x05 ∷ 0x02 ∷ 0x0A ∷ 0x14 ∷ 0x0A ∷ 0x14 ∷ 0x00 ∷ [], 7)
    ∷ []

abbrev pub site_refusal : Refusal → Case
site_refusal c = (build 1000 c.0 (lent 4), outcome (Refused c.1) (lent 4))

pub sites_refused : Hold (map site_refusal refused_sites)
unfolding computing
sites_refused = refl

-- predicate 1 without rows, and 2 with the row 10 20
abbrev pub one_empty : List ℕ
one_empty = 0x02 ∷ 0x01 ∷ 0x00 ∷ 0x02 ∷ 0x01 ∷ 0x0A ∷ 0x14 ∷ []

-- the empty table starts where its rows would
abbrev pub one_empty_words : List ℕ
one_empty_words =
    2 ∷ 1000 ∷ 43 ∷ 1 ∷ 0 ∷ 41 ∷ 2 ∷ 1 ∷ 41
    -- 1 against 1 and 2, and 2 against 1; then 2 against 2, and the row
    ∷ (replicate 24 0 ++ 1 ∷ 0 ∷ 0 ∷ 0 ∷ 0 ∷ 0 ∷ 1 ∷ 0 ∷ 10 ∷ 20 ∷ [])

-- predicate 16,777,215 with the rows 300 16,777,215, 65,536 16,777,215 and 16,777,215 300: numbers of two, three and four bytes
abbrev pub long_numbers : List ℕ
long_numbers =
    0x01 ∷ 0xFF ∷ 0xFF ∷ 0xFF ∷ 0x07 ∷ 0x03
    ∷ 0xAC ∷ 0x02 ∷ 0xFF ∷ 0xFF ∷ 0xFF ∷ 0x07
    ∷ 0x80 ∷ 0x80 ∷ 0x04 ∷ 0xFF ∷ 0xFF ∷ 0xFF ∷ 0x07
    ∷ 0xFF ∷ 0xFF ∷ 0xFF ∷ 0x07 ∷ 0xAC ∷ 0x02 ∷ []

-- its subjects are all but 65,536 objects too
abbrev pub long_words : List ℕ
long_words =
    1 ∷ 1000 ∷ 24 ∷ 16777215 ∷ 3 ∷ 14 ∷ 3 ∷ 0 ∷ 3 ∷ 0 ∷ 2 ∷ 20 ∷ 3 ∷ 0
    ∷ 300 ∷ 16777215 ∷ 65536 ∷ 16777215 ∷ 16777215 ∷ 300
    ∷ 300 ∷ 16777215 ∷ 16777215 ∷ 300 ∷ []

abbrev pub build_cases : List Case
build_cases =
    -- 1: T 1,001, whatever the site; T 0: no table is stored
    (build 1001 shop (lent 102), outcome (Refused 1) (lent 102))
    ∷ (build 1001 [] (lent 102), outcome (Refused 1) (lent 102))
    ∷ (build 0 shop (lent 98), outcome (Built 98) (unstored 0))
    -- 8: the shop and a byte more; it is asked before 9
    ∷ (build 1000 (shop ++ 0x00 ∷ []) (lent 102), outcome (Refused 8) (lent 102))
    ∷ (build 1000 (0x00 ∷ 0x00 ∷ []) [], outcome (Refused 8) [])
    ∷ (build 1000 (0x00 ∷ []) (lent 2), outcome (Refused 9) (lent 2))
    -- within the limits
    ∷ (build 1000 one_empty (lent 43), outcome (Built 43) one_empty_words)
    ∷ (build 1000 long_numbers (lent 24), outcome (Built 24) long_words)
    ∷ []

pub builds_worked : Hold build_cases
unfolding computing
builds_worked = refl

-- ---- checks

-- predicates 1 and 2 are declared
abbrev pub refused_checks : List Refusal
refused_checks =
    -- 11: a number is missing, does not end, has more than four bytes, or is not in shortest form
    ([], 11)
    ∷ (0x01 ∷ 0x01 ∷ 0x04 ∷ [], 11)
    ∷ (0x01 ∷ 0x81 ∷ [], 11)
    ∷ (0x80 ∷ 0x80 ∷ 0x80 ∷ 0x80 ∷ 0x01 ∷ [], 11)
    ∷ (0x01 ∷ 0x81 ∷ 0x00 ∷ [], 11)
    -- 12: 9 triple patterns; 2,097,152 of them
    ∷ (0x09 ∷ [], 12)
    ∷ (0x80 ∷ 0x80 ∷ 0x80 ∷ 0x01 ∷ [], 12)
    -- 13: a variable; term 16,777,216
    ∷ (0x01 ∷ 0x01 ∷ 0x03 ∷ [], 13)
    ∷ (0x01 ∷ 0x01 ∷ 0x80 ∷ 0x80 ∷ 0x80 ∷ 0x10 ∷ [], 13)
    -- 14: 16,777,215 is a term, and not declared
    ∷ (0x01 ∷ 0x01 ∷ 0xFE ∷ 0xFF ∷ 0xFF ∷ 0x0F ∷ [], 14)
    -- 15: subject 16,777,216; object 16,777,216
    ∷ (0x01 ∷ 0x80 ∷ 0x80 ∷ 0x80 ∷ 0x10 ∷ [], 15)
    ∷ (0x01 ∷ 0x01 ∷ 0x04 ∷ 0x80 ∷ 0x80 ∷ 0x80 ∷ 0x10 ∷ [], 15)
    -- 16: ?1 first; ?2 behind ?0; ?8 first, and as the ninth variable
    ∷ (0x01 ∷ 0x03 ∷ [], 16)
    ∷ (0x01 ∷ 0x01 ∷ 0x04 ∷ 0x05 ∷ [], 16)
    ∷ (0x01 ∷ 0x11 ∷ [], 16)
    ∷ (0x05 ∷ 0x01 ∷ 0x04 ∷ 0x03 ∷ 0x05 ∷ 0x04 ∷ 0x07 ∷ 0x09 ∷ 0x04 ∷ 0x0B ∷ 0x0D ∷ 0x04 ∷ 0x0F ∷ 0x11 ∷ [], 16)
    -- 17: a byte more, which is not read as a number
    ∷ (0x01 ∷ 0x14 ∷ 0x04 ∷ 0x28 ∷ 0x80 ∷ [], 17)
    -- two faults: 15 or 16 of the subject and 13 of the predicate
    ∷ (0x01 ∷ 0x80 ∷ 0x80 ∷ 0x80 ∷ 0x10 ∷ 0x03 ∷ [], 15)
    ∷ (0x01 ∷ 0x03 ∷ 0x03 ∷ [], 16)
    -- 13 or 14 of the predicate and 15 or 16 of the object
    ∷ (0x01 ∷ 0x01 ∷ 0x03 ∷ 0x80 ∷ 0x80 ∷ 0x80 ∷ 0x10 ∷ [], 13)
    ∷ (0x01 ∷ 0x01 ∷ 0x06 ∷ 0x05 ∷ [], 14)
    -- 15 of the first object and 13 of the second predicate
    ∷ (0x02 ∷ 0x01 ∷ 0x04 ∷ 0x80 ∷ 0x80 ∷ 0x80 ∷ 0x10 ∷ 0x01 ∷ 0x03 ∷ [], 15)
    ∷ []

-- by each call that is given a check
abbrev pub check_refusals : Refusal → List Case
check_refusals c =
    (plan_outcome (plan one_empty_words c.0), outcome (Refused c.1) (replicate 17 0))
    ∷ (run one_empty_words c.0 [] (lent 4), outcome (Refused c.1) (lent 4))
    ∷ (answered (whether one_empty_words c.0 []), answered (Refused c.1))
    ∷ []

pub checks_refused : Hold (concat_map check_refusals refused_checks)
unfolding computing
checks_refused = refl

-- ---- plans

-- of the shop's check
abbrev pub refused_plans : List Refusal
refused_plans =
    -- 18: no step; no choice; a choice that does not end, has more than four bytes, or is not in shortest form; a step short; a byte more
    ([], 18)
    ∷ (0x00 ∷ [], 18)
    ∷ (0x00 ∷ 0x80 ∷ [], 18)
    ∷ (0x00 ∷ 0x80 ∷ 0x80 ∷ 0x80 ∷ 0x80 ∷ 0x01 ∷ [], 18)
    ∷ (0x00 ∷ 0x84 ∷ 0x00 ∷ [], 18)
    ∷ (0x00 ∷ 0x00 ∷ 0x01 ∷ 0x00 ∷ [], 18)
    ∷ (0x00 ∷ 0x00 ∷ 0x01 ∷ 0x00 ∷ 0x02 ∷ 0x00 ∷ 0x00 ∷ [], 18)
    -- 19: place 3 of three; a place of four bytes
    ∷ (0x03 ∷ [], 19)
    ∷ (0x80 ∷ 0x80 ∷ 0x80 ∷ 0x01 ∷ [], 19)
    -- 20: a table against its own place, against place 3, of kinds that do not qualify, OS and OO; SS of in against covers, which is whole and so not stored;
    -- a choice of four bytes
    ∷ (0x00 ∷ 0x01 ∷ [], 20)
    ∷ (0x00 ∷ 0x0D ∷ [], 20)
    ∷ (0x00 ∷ 0x06 ∷ [], 20)
    ∷ (0x00 ∷ 0x08 ∷ [], 20)
    ∷ (0x01 ∷ 0x01 ∷ [], 20)
    ∷ (0x00 ∷ 0x80 ∷ 0x80 ∷ 0x80 ∷ 0x01 ∷ [], 20)
    -- two faults: 19 of the place and 18 of its choice; 20 of a choice and 19 of the next place
    ∷ (0x00 ∷ 0x00 ∷ 0x00 ∷ [], 19)
    ∷ (0x00 ∷ 0x01 ∷ 0x00 ∷ [], 20)
    ∷ []

-- by each call that is given a plan
abbrev pub plan_refusals : Refusal → List Case
plan_refusals c =
    (run (stored 1000) check c.0 (lent 3), outcome (Refused c.1) (lent 3))
    ∷ (answered (whether (stored 1000) check c.0), answered (Refused c.1))
    ∷ []

pub plans_refused : Hold (concat_map plan_refusals refused_plans)
unfolding computing
plans_refused = refl

-- ---- runs

-- case (h)
abbrev pub cross_join : List ℕ
cross_join = 0x02 ∷ 0x01 ∷ 0x04 ∷ 0x3C ∷ 0x03 ∷ 0x06 ∷ 0x52 ∷ []

-- predicate 0 with the row x x
abbrev pub one_row : ℕ → List ℕ
one_row x = 1 ∷ 1000 ∷ 16 ∷ 0 ∷ 1 ∷ 14 ∷ 1 ∷ 0 ∷ 1 ∷ 0 ∷ 1 ∷ 0 ∷ 1 ∷ 0 ∷ x ∷ x ∷ []

-- ?0 16,777,215 ?1, ?1 16,777,215 ?0
abbrev pub there_and_back : List ℕ
there_and_back = 0x02 ∷ 0x01 ∷ 0xFE ∷ 0xFF ∷ 0xFF ∷ 0x0F ∷ 0x03 ∷ 0x03 ∷ 0xFE ∷ 0xFF ∷ 0xFF ∷ 0x0F ∷ 0x01 ∷ []

-- ?0 0 ?1, ?2 0 ?3, ?4 0 ?5, ?6 0 ?7
abbrev pub eight_variables : List ℕ
eight_variables = 0x04 ∷ 0x01 ∷ 0x00 ∷ 0x03 ∷ 0x05 ∷ 0x00 ∷ 0x07 ∷ 0x09 ∷ 0x00 ∷ 0x0B ∷ 0x0D ∷ 0x00 ∷ 0x0F ∷ []

abbrev pub run_cases : List Case
run_cases =
    -- 10: no words; a word short; T 1,001 of a site of no predicates; a table stored that is not at T 666; not 10: T 999, where the same is stored
    (run [] [] [] (lent 3), outcome (Refused 10) (lent 3))
    ∷ (run (take 101 (stored 1000)) check [] (lent 3), outcome (Refused 10) (lent 3))
    ∷ (run (0 ∷ 1001 ∷ 3 ∷ []) check [] (lent 3), outcome (Refused 10) (lent 3))
    ∷ (run (stored 666) check [] (lent 3), outcome (Refused 10) (lent 3))
    ∷ (run (stored 999) check [] (lent 3), outcome (Refused 18) (lent 3))
    -- T 666, and the table that is stored at T 667: 20
    ∷ (run (unstored 666) check (0x00 ∷ 0x05 ∷ 0x01 ∷ 0x00 ∷ 0x02 ∷ 0x00 ∷ []) (lent 3), outcome (Refused 20) (lent 3))
    -- the table of predicate 1 is empty: 18, 19 or 20 of a bad plan, and else None, for which no room is asked
    ∷ (run one_empty_words (0x01 ∷ 0x01 ∷ 0x02 ∷ 0x03 ∷ []) [] [], outcome (Refused 18) [])
    ∷ (run one_empty_words (0x01 ∷ 0x01 ∷ 0x02 ∷ 0x03 ∷ []) (0x01 ∷ 0x00 ∷ []) [], outcome (Refused 19) [])
    ∷ (run one_empty_words (0x01 ∷ 0x01 ∷ 0x02 ∷ 0x03 ∷ []) (0x00 ∷ 0x01 ∷ []) [], outcome (Refused 20) [])
    ∷ (run one_empty_words (0x01 ∷ 0x01 ∷ 0x02 ∷ 0x03 ∷ []) (0x00 ∷ 0x00 ∷ []) [], outcome None [])
    -- 21: two rows of two in three words and in four; a row of no words fits no words
    ∷ (run (stored 1000) cross_join (0x00 ∷ 0x00 ∷ 0x01 ∷ 0x00 ∷ []) (lent 3), outcome (Refused 21) (lent 3))
    ∷ (run (stored 1000) cross_join (0x00 ∷ 0x00 ∷ 0x01 ∷ 0x00 ∷ []) (lent 4), outcome (Rows 2 2) (10 ∷ 21 ∷ 11 ∷ 21 ∷ []))
    ∷ (run one_empty_words (0x01 ∷ 0x14 ∷ 0x04 ∷ 0x28 ∷ []) (0x00 ∷ 0x00 ∷ []) [], outcome (Rows 1 0) [])
    -- 8 triple patterns; 8 variables; subject 16,777,215, which no row has
    ∷ (
      run one_empty_words (0x08 ∷ concat_map (λ _. 0x14 ∷ 0x04 ∷ 0x28 ∷ []) (below 8)) (concat_map (λ i. i ∷ 0x00 ∷ []) (below 8)) [],
      outcome (Rows 1 0) [],
    )
    ∷ (
      run (one_row 0) eight_variables (0x00 ∷ 0x00 ∷ 0x01 ∷ 0x00 ∷ 0x02 ∷ 0x00 ∷ 0x03 ∷ 0x00 ∷ []) (lent 9),
      outcome (Rows 1 8) (replicate 8 0 ++ 7 ∷ []),
    )
    ∷ (run one_empty_words (0x01 ∷ 0xFE ∷ 0xFF ∷ 0xFF ∷ 0x0F ∷ 0x04 ∷ 0x01 ∷ []) (0x00 ∷ 0x00 ∷ []) (lent 1), outcome None (lent 1))
    -- terms above 65,535, by a stored table; the greatest term in a store, and 10 of one above it
    ∷ (run long_words there_and_back (0x00 ∷ 0x07 ∷ 0x01 ∷ 0x00 ∷ []) (lent 4), outcome (Rows 2 2) (300 ∷ 16777215 ∷ 16777215 ∷ 300 ∷ []))
    ∷ (run (one_row 16777215) (0x01 ∷ 0x01 ∷ 0x00 ∷ 0x01 ∷ []) (0x00 ∷ 0x00 ∷ []) (lent 1), outcome (Rows 1 1) (16777215 ∷ []))
    ∷ (run (one_row 16777216) (0x01 ∷ 0x01 ∷ 0x00 ∷ 0x01 ∷ []) (0x00 ∷ 0x00 ∷ []) (lent 1), outcome (Refused 10) (lent 1))
    ∷ []

pub runs_worked : Hold run_cases
unfolding computing
runs_worked = refl

-- ---- wider limits: what the limits of document 01 refuse, and what is answered now

-- predicate 0 with the row s o, which are not equal
abbrev pub one_row_apart : ℕ → ℕ → List ℕ
one_row_apart s o = 1 ∷ 1000 ∷ 16 ∷ 0 ∷ 1 ∷ 14 ∷ 1 ∷ 0 ∷ 0 ∷ 0 ∷ 0 ∷ 0 ∷ 1 ∷ 0 ∷ s ∷ o ∷ []

abbrev pub widened_cases : List Case
widened_cases =
    -- four bytes of a number were too many: 2, and now 3; predicate 65,536 was 4, subject and object 65,536 were 6
    (build_under limits_of_01 1000 (0x80 ∷ 0x80 ∷ 0x80 ∷ 0x01 ∷ []) [], outcome (Refused 2) [])
    ∷ (build 1000 (0x80 ∷ 0x80 ∷ 0x80 ∷ 0x01 ∷ []) [], outcome (Refused 3) [])
    ∷ (build_under limits_of_01 1000 (0x01 ∷ 0x80 ∷ 0x80 ∷ 0x04 ∷ 0x00 ∷ []) (lent 14), outcome (Refused 4) (lent 14))
    ∷ (build 1000 (0x01 ∷ 0x80 ∷ 0x80 ∷ 0x04 ∷ 0x00 ∷ []) (lent 14), outcome (Built 14) (1 ∷ 1000 ∷ 14 ∷ 65536 ∷ 0 ∷ 14 ∷ replicate 8 0))
    ∷ (build_under limits_of_01 1000 (0x01 ∷ 0x00 ∷ 0x01 ∷ 0x80 ∷ 0x80 ∷ 0x04 ∷ 0x01 ∷ []) (lent 16), outcome (Refused 6) (lent 16))
    ∷ (build 1000 (0x01 ∷ 0x00 ∷ 0x01 ∷ 0x80 ∷ 0x80 ∷ 0x04 ∷ 0x01 ∷ []) (lent 16), outcome (Built 16) (one_row_apart 65536 1))
    ∷ (build_under limits_of_01 1000 (0x01 ∷ 0x00 ∷ 0x01 ∷ 0x01 ∷ 0x80 ∷ 0x80 ∷ 0x04 ∷ []) (lent 16), outcome (Refused 6) (lent 16))
    ∷ (build 1000 (0x01 ∷ 0x00 ∷ 0x01 ∷ 0x01 ∷ 0x80 ∷ 0x80 ∷ 0x04 ∷ []) (lent 16), outcome (Built 16) (one_row_apart 1 65536))
    -- words that were no store
    ∷ (run_under limits_of_01 (one_row 65536) [] [] [], outcome (Refused 10) [])
    ∷ (run (one_row 65536) [] [] [], outcome (Refused 11) [])
    -- a check's number of four bytes was 11, and is 12; predicate 65,536 was 13, and is 14; subject 65,536 was 15
    ∷ (run_under limits_of_01 (one_row 0) (0x80 ∷ 0x80 ∷ 0x80 ∷ 0x01 ∷ []) [] [], outcome (Refused 11) [])
    ∷ (run (one_row 0) (0x80 ∷ 0x80 ∷ 0x80 ∷ 0x01 ∷ []) [] [], outcome (Refused 12) [])
    ∷ (run_under limits_of_01 (one_row 0) (0x01 ∷ 0x01 ∷ 0x80 ∷ 0x80 ∷ 0x08 ∷ []) [] [], outcome (Refused 13) [])
    ∷ (run (one_row 0) (0x01 ∷ 0x01 ∷ 0x80 ∷ 0x80 ∷ 0x08 ∷ []) [] [], outcome (Refused 14) [])
    ∷ (run_under limits_of_01 (one_row 0) (0x01 ∷ 0x80 ∷ 0x80 ∷ 0x08 ∷ 0x00 ∷ 0x01 ∷ []) (0x00 ∷ 0x00 ∷ []) [], outcome (Refused 15) [])
    ∷ (run (one_row 0) (0x01 ∷ 0x80 ∷ 0x80 ∷ 0x08 ∷ 0x00 ∷ 0x01 ∷ []) (0x00 ∷ 0x00 ∷ []) [], outcome None [])
    -- a choice of four bytes was 18, and is 20
    ∷ (run_under limits_of_01 (one_row 0) (0x01 ∷ 0x01 ∷ 0x00 ∷ 0x01 ∷ []) (0x00 ∷ 0x80 ∷ 0x80 ∷ 0x80 ∷ 0x01 ∷ []) [], outcome (Refused 18) [])
    ∷ (run (one_row 0) (0x01 ∷ 0x01 ∷ 0x00 ∷ 0x01 ∷ []) (0x00 ∷ 0x80 ∷ 0x80 ∷ 0x80 ∷ 0x01 ∷ []) [], outcome (Refused 20) [])
    ∷ []

pub widened_worked : Hold widened_cases
unfolding computing
widened_worked = refl

-- ---- the join

-- the partial solutions of the shop's check after the first n steps of a plan
abbrev pub shop_joined : Plan → ℕ → List Partial
shop_joined plan n = let site = site_in (read_site shop) in joined site (pattern_in (read_pattern site check)) plan n

-- two variables met
abbrev pub met : ℕ → ℕ → Partial
met x y = some x ∷ some y ∷ replicate 6 none

pub first_step : shop_joined (record { place = 0; choice = 5 } ∷ []) 1 ≡ met 10 20 ∷ met 11 21 ∷ []
unfolding computing
first_step = refl

-- ---- the planner

-- 1 has the rows 10 20 and 11 21, 2 has 10 30, 3 has 10 40, 4 has 21 10
abbrev pub tied : List ℕ
tied =
    0x04 ∷ 0x01 ∷ 0x02 ∷ 0x02 ∷ 0x01 ∷ 0x03 ∷ 0x01 ∷ 0x04 ∷ 0x01 ∷ 0x0A ∷ 0x14 ∷ 0x0B ∷ 0x15 ∷ 0x0A ∷ 0x1E ∷ 0x0A ∷ 0x28 ∷ 0x15 ∷ 0x0A ∷ []

-- the plan on a store
abbrev pub plan_over : List ℕ → List ℕ → List ℕ → ℕ → Case
plan_over words bytes steps count = (plan_outcome (plan words bytes), outcome PlanAnswer (steps ++ (replicate (16 - 2 * count) 0 ++ count ∷ [])))

-- on the store of a site
abbrev pub plan_of : List ℕ → List ℕ → List ℕ → ℕ → Case
plan_of site = plan_over (build 1000 site (lent 170)).memory

abbrev pub planner_cases : List Case
planner_cases =
    -- ?0 1 ?1, ?0 2 ?2, ?0 3 ?3: SS against 2 and against 3 leave one row each, and the lower j is chosen; of the chosen tables, each of
    -- one row, the lowest place is first, though VP of 1 has two
    plan_of tied (0x03 ∷ 0x01 ∷ 0x02 ∷ 0x03 ∷ 0x01 ∷ 0x04 ∷ 0x05 ∷ 0x01 ∷ 0x06 ∷ 0x07 ∷ []) (0 ∷ 5 ∷ 1 ∷ 0 ∷ 2 ∷ 0 ∷ []) 3
    -- ?0 1 ?1, ?1 4 ?0: OS and SO leave one row each, and the lower k is chosen
    ∷ plan_of tied (0x02 ∷ 0x01 ∷ 0x02 ∷ 0x03 ∷ 0x03 ∷ 0x08 ∷ 0x01 ∷ []) (0 ∷ 6 ∷ 1 ∷ 0 ∷ []) 2
    ∷ []

pub plans_worked : Hold planner_cases
unfolding computing
plans_worked = refl

-- ---- what is printed

abbrev pub printed_cases : List Case
printed_cases =
    -- rows 2 width 2, 10 21 and 11 21
    (
      shown (chain shop cross_join (lent 4)),
      outcome (Rows 2 2)
          (114 ∷ 111 ∷ 119 ∷ 115 ∷ 32 ∷ 50 ∷ 32 ∷ 119 ∷ 105 ∷ 100 ∷ 116 ∷ 104 ∷ 32 ∷ 50 ∷ 10
          ∷ 49 ∷ 48 ∷ 32 ∷ 50 ∷ 49 ∷ 10 ∷ 49 ∷ 49 ∷ 32 ∷ 50 ∷ 49 ∷ 10 ∷ []),
    )
    -- rows 1 width 0, and an empty line
    ∷ (
      shown (chain shop (0x01 ∷ 0x14 ∷ 0x02 ∷ 0x28 ∷ []) []),
      outcome (Rows 1 0) (114 ∷ 111 ∷ 119 ∷ 115 ∷ 32 ∷ 49 ∷ 32 ∷ 119 ∷ 105 ∷ 100 ∷ 116 ∷ 104 ∷ 32 ∷ 48 ∷ 10 ∷ 10 ∷ []),
    )
    -- 300 16,777,215 ?0: rows 1 width 1, and 16777215
    ∷ (
      shown (chain long_numbers (0x01 ∷ 0xD8 ∷ 0x04 ∷ 0xFE ∷ 0xFF ∷ 0xFF ∷ 0x0F ∷ 0x01 ∷ []) (lent 1)),
      outcome (Rows 1 1)
          (114 ∷ 111 ∷ 119 ∷ 115 ∷ 32 ∷ 49 ∷ 32 ∷ 119 ∷ 105 ∷ 100 ∷ 116 ∷ 104 ∷ 32 ∷ 49 ∷ 10
          ∷ 49 ∷ 54 ∷ 55 ∷ 55 ∷ 55 ∷ 50 ∷ 49 ∷ 53 ∷ 10 ∷ []),
    )
    ∷ []

pub printed_worked : Hold printed_cases
unfolding computing
printed_worked = refl
