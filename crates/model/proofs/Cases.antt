-- The worked shop: cases (a) to (j) of document 01 as one list, by computation, with the figures that S-14 gives them; and what S-7's call
-- says of each check.
use Prim.Native.Nat.{ℕ}
use mathlib.Core.Path.{◌≡◌, refl}
use mathlib.Core.List.{List, [], ◌∷◌, ◌++◌, map}
use lib.ListN.{replicate}
use Rattle.model.specs.Lists.{concat_map}
use Rattle.model.specs.Reader.{Reply, refused, gives, after, ask, repeated, whole_file}
use Rattle.model.specs.Numbers.{number_within, number_in_under, number_under}
use Rattle.model.specs.Site.{Site, is_site_under, facts, is_fact}
use Rattle.model.specs.SiteFile.{declaration_under, row_under, tables_under, site_file_under, read_site_under, read_site}
use Rattle.model.specs.Tables.{vp, semi_join, comparisons, kind_at, is_stored}
use Rattle.model.specs.Store.{semi_joins, stored_rows, semi_join_entries, layout, tables_in, decoded, is_store_of_under, store_of_under}
use Rattle.model.specs.Pattern.{Pattern, variables, width, full_table}
use Rattle.model.specs.PatternFile.{ask_position_under, ask_predicate_under, triple_pattern_under, pattern_file_under, read_pattern_under, read_pattern}
use Rattle.model.specs.Plan.{Plan, qualifies, reduced_table, chosen_table, may_choose}
use Rattle.model.specs.PlanFile.{step_under, read_plan_under}
use Rattle.model.specs.Planner.{table_rows, choose_table, is_joined, term_count, chosen_rows, beats, competitors, pick, order, planned}
use Rattle.model.specs.Solutions.{terms, rows_over, is_solution, solutions}
use Rattle.model.specs.Join.{extend, join_table, joined, join_rows}
use Rattle.model.specs.Calls.{Outcome, outcome, either, build_under, build, checked_under, given_plan_under, plan_under, plan, none_by_counts, rows_outcome, run_under, run, yes_or_no, whether_under, whether, number_of, values_of, plan_bytes_of, seen_of, seen_of_answer, seen_of_plan}
use Rattle.model.specs.Chain.{is_refused, plan_and_run, chain}
use Rattle.model.specs.Text.{decimal_within, decimal, spaced, row_line, first_line, row_lines, printed}
use Rattle.model.specs.declared.answer.Answer.{Answer}
use Rattle.model.specs.declared.answer.Answer.TheVariants.{Rows, None, Built, Yes, No, Refused}
use Rattle.model.specs.declared.answer.Answer.TheVariants.{Plan as PlanAnswer}
use Rattle.model.specs.declared.answer.Planned.{Planned}

-- predicates: 1 covers, 2 in, 3 state
abbrev pub shop : List ℕ
shop =
    0x03 ∷ 0x01 ∷ 0x03 ∷ 0x02 ∷ 0x02 ∷ 0x03 ∷ 0x02 ∷ 0x0A ∷ 0x14 ∷ 0x0B ∷ 0x15 ∷ 0x0C ∷ 0x15 ∷ 0x0A ∷ 0x1E ∷ 0x0B ∷ 0x1E
    ∷ 0x14 ∷ 0x28 ∷ 0x15 ∷ 0x29 ∷ []

-- ?0 covers ?1, ?0 in ?2, ?1 state 41
abbrev pub check : List ℕ
check = 0x03 ∷ 0x01 ∷ 0x02 ∷ 0x03 ∷ 0x01 ∷ 0x04 ∷ 0x05 ∷ 0x03 ∷ 0x06 ∷ 0x52 ∷ []

-- n words lent, each 7
abbrev pub lent : ℕ → List ℕ
lent n = replicate n 7

abbrev pub vp_rows : List ℕ
vp_rows = 10 ∷ 20 ∷ 11 ∷ 21 ∷ 12 ∷ 21 ∷ 10 ∷ 30 ∷ 11 ∷ 30 ∷ 20 ∷ 40 ∷ 21 ∷ 41 ∷ []

-- the shop's store at threshold t, where `used` words hold it and SS of covers against in starts at `start`
abbrev pub store_words : ℕ → ℕ → ℕ → List ℕ → List ℕ
store_words t used start stored =
    3 ∷ t ∷ used
    -- per predicate: term, row count, start
    ∷ 1 ∷ 3 ∷ 84 ∷ 2 ∷ 2 ∷ 90 ∷ 3 ∷ 2 ∷ 94
    -- covers against covers, in, state: row count and start of SS, OS, SO, OO
    ∷ 3 ∷ 0 ∷ 0 ∷ 0 ∷ 0 ∷ 0 ∷ 3 ∷ 0
    ∷ 2 ∷ start ∷ 0 ∷ 0 ∷ 0 ∷ 0 ∷ 0 ∷ 0
    ∷ 0 ∷ 0 ∷ 3 ∷ 0 ∷ 0 ∷ 0 ∷ 0 ∷ 0
    -- in against covers, in, state
    ∷ 2 ∷ 0 ∷ 0 ∷ 0 ∷ 0 ∷ 0 ∷ 0 ∷ 0
    ∷ 2 ∷ 0 ∷ 0 ∷ 0 ∷ 0 ∷ 0 ∷ 2 ∷ 0
    ∷ 0 ∷ 0 ∷ 0 ∷ 0 ∷ 0 ∷ 0 ∷ 0 ∷ 0
    -- state against covers, in, state
    ∷ 0 ∷ 0 ∷ 0 ∷ 0 ∷ 2 ∷ 0 ∷ 0 ∷ 0
    ∷ 0 ∷ 0 ∷ 0 ∷ 0 ∷ 0 ∷ 0 ∷ 0 ∷ 0
    ∷ 2 ∷ 0 ∷ 0 ∷ 0 ∷ 0 ∷ 0 ∷ 2 ∷ 0
    ∷ (vp_rows ++ stored)

-- the 102 words with the stored table's two rows, and the 98 without
abbrev pub stored : ℕ → List ℕ
stored t = store_words t 102 98 (10 ∷ 20 ∷ 11 ∷ 21 ∷ [])

abbrev pub unstored : ℕ → List ℕ
unstored t = store_words t 98 0 []

abbrev pub chosen_plan : List ℕ
chosen_plan = 0x02 ∷ 0x00 ∷ 0x00 ∷ 0x05 ∷ 0x01 ∷ 0x00 ∷ []

-- the plan chosen while a choice was 1 + 3j + k, which must be made anew: choice 4 at place 0 is now OO against itself
abbrev pub plan_of_before : List ℕ
plan_of_before = 0x02 ∷ 0x00 ∷ 0x00 ∷ 0x04 ∷ 0x01 ∷ 0x00 ∷ []

abbrev pub written_plan : List ℕ
written_plan = 0x00 ∷ 0x00 ∷ 0x01 ∷ 0x00 ∷ 0x02 ∷ 0x00 ∷ []

-- the plan's numbers and the count of steps, in the place of memory
abbrev pub plan_outcome : Planned → Outcome
plan_outcome p = outcome p.answer (p.plan.steps ++ p.plan.count ∷ [])

-- an answer beside which no memory is lent
abbrev pub answered : Answer → Outcome
answered answer = outcome answer []

abbrev pub site_in : Reply Site → Site
site_in (refused n) = []
site_in (gives site) = site

abbrev pub pattern_in : Reply Pattern → Pattern
pattern_in (refused n) = []
pattern_in (gives pattern) = pattern

-- the words of the rows that the join of a plan's own tables gives on the shop
abbrev pub join_words : List ℕ → Plan → List ℕ
join_words bytes plan = concat_map (λ row. row) (join_rows (site_in (read_site shop)) (pattern_in (read_pattern (site_in (read_site shop)) bytes)) plan)

-- the comparisons of the semi-join of kind k of predicate p against q on the shop
abbrev pub shop_comparisons : ℕ → ℕ → ℕ → ℕ
shop_comparisons k p q = comparisons (kind_at k) (vp (site_in (read_site shop)) p) (vp (site_in (read_site shop)) q)

-- what a caller sees of an outcome: the number returned, four words lent for the values, each 7 before, and the memory
abbrev pub told : Outcome → Outcome
told o = let s = seen_of o (lent 4) in outcome o.answer (s.number ∷ (s.values ++ s.memory))

-- what a caller sees of an answer beside which no memory is lent
abbrev pub told_answer : Answer → Outcome
told_answer a = let s = seen_of_answer a (lent 4) in outcome a (s.number ∷ (s.values ++ s.memory))

-- what a caller sees of a plan's answer: the same, and sixteen bytes lent for the plan
abbrev pub told_plan : Planned → Outcome
told_plan p = let s = seen_of_plan p (lent 16) (lent 4) in outcome p.answer (s.number ∷ (s.values ++ s.memory))

-- an answer, and what is printed of it
abbrev pub shown : Outcome → Outcome
shown o = outcome o.answer (printed o.answer o.memory)

-- what the definitions give, and what document 01 says
abbrev pub Case : Type 0
Case = Outcome × Outcome

-- the definitions give what document 01 says
abbrev pub Hold : List Case → Type 0
Hold cases = map (λ c. c.0) cases ≡ map (λ c. c.1) cases

-- unfolds with all that a case computes
unfoldable pub computing : Unit {0}
unfolding after ask repeated whole_file number_within number_in_under number_under is_site_under facts is_fact declaration_under row_under tables_under site_file_under read_site_under vp semi_join comparisons is_stored semi_joins stored_rows semi_join_entries layout tables_in decoded is_store_of_under store_of_under variables width full_table ask_position_under ask_predicate_under triple_pattern_under pattern_file_under read_pattern_under qualifies reduced_table chosen_table may_choose step_under read_plan_under table_rows choose_table is_joined term_count chosen_rows beats competitors pick order planned terms rows_over is_solution solutions extend join_table joined join_rows either build_under checked_under given_plan_under plan_under none_by_counts rows_outcome run_under yes_or_no whether_under number_of values_of plan_bytes_of is_refused plan_and_run chain decimal_within decimal spaced row_line first_line row_lines printed
computing = tt

abbrev pub cases : List Case
cases =
    -- (a), by S-14: 102 words, and a word past them; one stored table, SS of covers against in, 2 of 3 rows; 101 words: 9
    (build 1000 shop (lent 103), outcome (Built 102) (stored 1000 ++ 7 ∷ []))
    ∷ (build 1000 shop (lent 102), outcome (Built 102) (stored 1000))
    ∷ (build 1000 shop (lent 101), outcome (Refused 9) (lent 101))
    ∷ (told (outcome (Built 102) (stored 1000)), outcome (Built 102) (0 ∷ 3 ∷ 102 ∷ 0 ∷ 0 ∷ stored 1000))
    ∷ (told (outcome (Refused 9) (lent 101)), outcome (Refused 9) (9 ∷ 7 ∷ 7 ∷ 7 ∷ 7 ∷ lent 101))
    -- (b) T 667: stored; T 666: not, 98 words
    ∷ (build 667 shop (lent 102), outcome (Built 102) (stored 667))
    ∷ (build 666 shop (lent 102), outcome (Built 98) (unstored 666 ++ 7 ∷ 7 ∷ 7 ∷ 7 ∷ []))
    -- S-23: 5 comparisons for SS of covers against in; of state none is a partner; OS of covers against state, SO the other way, OO of in against itself
    ∷ (
      outcome PlanAnswer (shop_comparisons 0 1 2 ∷ shop_comparisons 0 1 3 ∷ shop_comparisons 1 1 3 ∷ shop_comparisons 2 3 1 ∷ shop_comparisons 3 2 2 ∷ []),
      outcome PlanAnswer (5 ∷ 6 ∷ 5 ∷ 3 ∷ 2 ∷ []),
    )
    -- (c) the plan chosen, choice 5 by S-14; that plan and the written order give the one row; 2 words: 21, 3: accepted
    ∷ (
      plan_outcome (plan (stored 1000) check),
      outcome PlanAnswer (2 ∷ 0 ∷ 0 ∷ 5 ∷ 1 ∷ 0 ∷ 0 ∷ 0 ∷ 0 ∷ 0 ∷ 0 ∷ 0 ∷ 0 ∷ 0 ∷ 0 ∷ 0 ∷ 3 ∷ []),
    )
    ∷ (
      told_plan (plan (stored 1000) check),
      outcome PlanAnswer (0 ∷ 4 ∷ 3 ∷ 0 ∷ 0 ∷ 2 ∷ 0 ∷ 0 ∷ 5 ∷ 1 ∷ 0 ∷ 0 ∷ 0 ∷ 0 ∷ 0 ∷ 0 ∷ 0 ∷ 0 ∷ 0 ∷ 0 ∷ 0 ∷ []),
    )
    ∷ (run (stored 1000) check written_plan (lent 4), outcome (Rows 1 3) (11 ∷ 21 ∷ 30 ∷ 7 ∷ []))
    ∷ (run (stored 1000) check chosen_plan (lent 2), outcome (Refused 21) (7 ∷ 7 ∷ []))
    ∷ (run (stored 1000) check chosen_plan (lent 3), outcome (Rows 1 3) (11 ∷ 21 ∷ 30 ∷ []))
    ∷ (told (outcome (Rows 1 3) (11 ∷ 21 ∷ 30 ∷ [])), outcome (Rows 1 3) (0 ∷ 1 ∷ 1 ∷ 3 ∷ 0 ∷ 11 ∷ 21 ∷ 30 ∷ []))
    ∷ (
      outcome PlanAnswer
          (join_words check
          (record { place = 2; choice = 0 } ∷ record { place = 0; choice = 5 } ∷ record { place = 1; choice = 0 } ∷ [])),
      outcome PlanAnswer (11 ∷ 21 ∷ 30 ∷ []),
    )
    ∷ (
      outcome PlanAnswer
          (join_words check
          (record { place = 0; choice = 0 } ∷ record { place = 1; choice = 0 } ∷ record { place = 2; choice = 0 } ∷ [])),
      outcome PlanAnswer (11 ∷ 21 ∷ 30 ∷ []),
    )
    ∷ (answered (whether (stored 1000) check chosen_plan), answered Yes)
    ∷ (answered (whether (stored 1000) check written_plan), answered Yes)
    ∷ (told_answer Yes, outcome Yes (0 ∷ 5 ∷ 0 ∷ 0 ∷ 0 ∷ []))
    -- the plan chosen before S-14: 20
    ∷ (run (stored 1000) check plan_of_before (lent 3), outcome (Refused 20) (lent 3))
    ∷ (answered (whether (stored 1000) check plan_of_before), answered (Refused 20))
    -- (d) first choice 7 at place 0, SO against place 1: 20; place 0 twice: 19
    ∷ (run (stored 1000) check (0x00 ∷ 0x07 ∷ 0x01 ∷ 0x00 ∷ 0x02 ∷ 0x00 ∷ []) (lent 3), outcome (Refused 20) (7 ∷ 7 ∷ 7 ∷ []))
    ∷ (run (stored 1000) check (0x00 ∷ 0x00 ∷ 0x00 ∷ 0x00 ∷ 0x02 ∷ 0x00 ∷ []) (lent 3), outcome (Refused 19) (7 ∷ 7 ∷ 7 ∷ []))
    ∷ (answered (whether (stored 1000) check (0x00 ∷ 0x07 ∷ 0x01 ∷ 0x00 ∷ 0x02 ∷ 0x00 ∷ [])), answered (Refused 20))
    ∷ (told_answer (Refused 20), outcome (Refused 20) (20 ∷ lent 4))
    ∷ (answered (whether (stored 1000) check (0x00 ∷ 0x00 ∷ 0x00 ∷ 0x00 ∷ 0x02 ∷ 0x00 ∷ [])), answered (Refused 19))
    ∷ (told_answer (Refused 19), outcome (Refused 19) (19 ∷ lent 4))
    -- (e) a site of no bytes: 2; of no predicates: 3 words, and then a pattern on predicate 1: 14; a store of zeros: 10
    ∷ (build 1000 [] (lent 4), outcome (Refused 2) (7 ∷ 7 ∷ 7 ∷ 7 ∷ []))
    ∷ (build 1000 (0x00 ∷ []) (lent 4), outcome (Built 3) (0 ∷ 1000 ∷ 3 ∷ 7 ∷ []))
    ∷ (
      plan_outcome (plan (0 ∷ 1000 ∷ 3 ∷ []) (0x01 ∷ 0x01 ∷ 0x02 ∷ 0x03 ∷ [])),
      outcome (Refused 14) (0 ∷ 0 ∷ 0 ∷ 0 ∷ 0 ∷ 0 ∷ 0 ∷ 0 ∷ 0 ∷ 0 ∷ 0 ∷ 0 ∷ 0 ∷ 0 ∷ 0 ∷ 0 ∷ 0 ∷ []),
    )
    ∷ (
      run (0 ∷ 1000 ∷ 3 ∷ []) (0x01 ∷ 0x01 ∷ 0x02 ∷ 0x03 ∷ []) (0x00 ∷ 0x00 ∷ []) (lent 2),
      outcome (Refused 14) (7 ∷ 7 ∷ []),
    )
    ∷ (
      plan_outcome (plan (replicate 102 0) check),
      outcome (Refused 10) (0 ∷ 0 ∷ 0 ∷ 0 ∷ 0 ∷ 0 ∷ 0 ∷ 0 ∷ 0 ∷ 0 ∷ 0 ∷ 0 ∷ 0 ∷ 0 ∷ 0 ∷ 0 ∷ 0 ∷ []),
    )
    ∷ (run (replicate 102 0) check chosen_plan (lent 3), outcome (Refused 10) (7 ∷ 7 ∷ 7 ∷ []))
    ∷ (answered (whether (0 ∷ 1000 ∷ 3 ∷ []) (0x01 ∷ 0x01 ∷ 0x02 ∷ 0x03 ∷ []) (0x00 ∷ 0x00 ∷ [])), answered (Refused 14))
    ∷ (told_answer (Refused 14), outcome (Refused 14) (14 ∷ lent 4))
    ∷ (answered (whether (replicate 102 0) check chosen_plan), answered (Refused 10))
    ∷ (told_answer (Refused 10), outcome (Refused 10) (10 ∷ lent 4))
    -- (f) 10 covers 20, and 10 covers 21
    ∷ (run (stored 1000) (0x01 ∷ 0x14 ∷ 0x02 ∷ 0x28 ∷ []) (0x00 ∷ 0x00 ∷ []) (lent 1), outcome (Rows 1 0) (7 ∷ []))
    ∷ (run (stored 1000) (0x01 ∷ 0x14 ∷ 0x02 ∷ 0x2A ∷ []) (0x00 ∷ 0x00 ∷ []) (lent 1), outcome None (7 ∷ []))
    ∷ (answered (whether (stored 1000) (0x01 ∷ 0x14 ∷ 0x02 ∷ 0x28 ∷ []) (0x00 ∷ 0x00 ∷ [])), answered Yes)
    ∷ (answered (whether (stored 1000) (0x01 ∷ 0x14 ∷ 0x02 ∷ 0x2A ∷ []) (0x00 ∷ 0x00 ∷ [])), answered No)
    ∷ (told_answer No, outcome No (0 ∷ 6 ∷ 0 ∷ 0 ∷ 0 ∷ []))
    -- (g) ?0 covers ?0
    ∷ (run (stored 1000) (0x01 ∷ 0x01 ∷ 0x02 ∷ 0x01 ∷ []) (0x00 ∷ 0x00 ∷ []) (lent 1), outcome None (7 ∷ []))
    ∷ (told (outcome None (7 ∷ [])), outcome None (0 ∷ 2 ∷ 0 ∷ 0 ∷ 0 ∷ 7 ∷ []))
    ∷ (answered (whether (stored 1000) (0x01 ∷ 0x01 ∷ 0x02 ∷ 0x01 ∷ []) (0x00 ∷ 0x00 ∷ [])), answered No)
    -- (h) a cross join
    ∷ (
      run (stored 1000) (0x02 ∷ 0x01 ∷ 0x04 ∷ 0x3C ∷ 0x03 ∷ 0x06 ∷ 0x52 ∷ []) (0x00 ∷ 0x00 ∷ 0x01 ∷ 0x00 ∷ []) (lent 5),
      outcome (Rows 2 2) (10 ∷ 21 ∷ 11 ∷ 21 ∷ 7 ∷ []),
    )
    -- (i) OS of in against covers is empty
    ∷ (
      run (stored 1000) (0x02 ∷ 0x01 ∷ 0x04 ∷ 0x03 ∷ 0x03 ∷ 0x02 ∷ 0x05 ∷ []) (0x00 ∷ 0x00 ∷ 0x01 ∷ 0x00 ∷ []) (lent 3),
      outcome None (7 ∷ 7 ∷ 7 ∷ []),
    )
    ∷ (
      answered (whether (stored 1000) (0x02 ∷ 0x01 ∷ 0x04 ∷ 0x03 ∷ 0x03 ∷ 0x02 ∷ 0x05 ∷ []) (0x00 ∷ 0x00 ∷ 0x01 ∷ 0x00 ∷ [])),
      answered No,
    )
    -- (j) no triple patterns: 12; a number that is not in shortest form: 2
    ∷ (
      plan_outcome (plan (stored 1000) (0x00 ∷ [])),
      outcome (Refused 12) (0 ∷ 0 ∷ 0 ∷ 0 ∷ 0 ∷ 0 ∷ 0 ∷ 0 ∷ 0 ∷ 0 ∷ 0 ∷ 0 ∷ 0 ∷ 0 ∷ 0 ∷ 0 ∷ 0 ∷ []),
    )
    ∷ (
      told_plan (plan (stored 1000) (0x00 ∷ [])),
      outcome (Refused 12) (12 ∷ 7 ∷ 7 ∷ 7 ∷ 7 ∷ 7 ∷ 7 ∷ 7 ∷ 7 ∷ 7 ∷ 7 ∷ 7 ∷ 7 ∷ 7 ∷ 7 ∷ 7 ∷ 7 ∷ 7 ∷ 7 ∷ 7 ∷ 7 ∷ []),
    )
    ∷ (run (stored 1000) (0x00 ∷ []) [] (lent 1), outcome (Refused 12) (7 ∷ []))
    ∷ (build 1000 (0x80 ∷ 0x00 ∷ []) (lent 3), outcome (Refused 2) (7 ∷ 7 ∷ 7 ∷ []))
    -- what the check program answers on this shop and prints of it: rows 1 width 3, and 11 21 30; then none; refused 14
    ∷ (chain shop check (lent 4), outcome (Rows 1 3) (11 ∷ 21 ∷ 30 ∷ 7 ∷ []))
    ∷ (
      shown (outcome (Rows 1 3) (11 ∷ 21 ∷ 30 ∷ 7 ∷ [])),
      outcome (Rows 1 3)
          (114 ∷ 111 ∷ 119 ∷ 115 ∷ 32 ∷ 49 ∷ 32 ∷ 119 ∷ 105 ∷ 100 ∷ 116 ∷ 104 ∷ 32 ∷ 51 ∷ 10 ∷ 49 ∷ 49 ∷ 32 ∷ 50 ∷ 49 ∷ 32 ∷ 51 ∷ 48 ∷ 10 ∷ []),
    )
    ∷ (shown (chain shop (0x01 ∷ 0x14 ∷ 0x02 ∷ 0x2A ∷ []) (lent 4)), outcome None (110 ∷ 111 ∷ 110 ∷ 101 ∷ 10 ∷ []))
    ∷ (
      shown (chain (0x00 ∷ []) check (lent 4)),
      outcome (Refused 14) (114 ∷ 101 ∷ 102 ∷ 117 ∷ 115 ∷ 101 ∷ 100 ∷ 32 ∷ 49 ∷ 52 ∷ 10 ∷ []),
    )
    ∷ []

pub worked : Hold cases
unfolding computing
worked = refl
