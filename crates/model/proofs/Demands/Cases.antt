-- Cases by computation: what the definitions give against what document 01 says.
use mathlib.Core.Path.{◌≡◌}
use mathlib.Core.List.{[], ◌∷◌, map}
use Rattle.model.specs.Lists.{concat_map}
use Rattle.model.proofs.Cases.{Hold, cases, worked}
use Rattle.model.proofs.AnswerCases.{refused_sites, site_refusal, sites_refused, build_cases, builds_worked, refused_checks, check_refusals, checks_refused, refused_plans, plan_refusals, plans_refused, run_cases, runs_worked, shop_joined, met, first_step, planner_cases, plans_worked, widened_cases, widened_worked, printed_cases, printed_worked}
use Rattle.model.proofs.SharedObjectCases.{shared_object_cases, shared_objects_worked}
use Rattle.model.proofs.MetVariableCases.{met_variable_cases, met_variables_worked}

-- ==== The worked shop: cases (a) to (j)

abbrev pub CasesHold : Type 0
CasesHold = Hold cases

pub cases_hold : CasesHold
cases_hold = worked

-- ==== Questions before an answer: each answered no, at its limit where it has one; of two faults the one that is met first, as bytes are
-- taken from the front

abbrev pub RefusalsHold : Type 0
RefusalsHold =
    Hold (map site_refusal refused_sites) × Hold (concat_map check_refusals refused_checks) × Hold (concat_map plan_refusals refused_plans)

pub refusals_hold : RefusalsHold
refusals_hold = (sites_refused, checks_refused, plans_refused)

-- ==== Built and Rows at the limits, None that is asked after 20 and needs no room, the planner's ties, and what is printed

abbrev pub AnswersHold : Type 0
AnswersHold = Hold build_cases × Hold run_cases × Hold planner_cases × Hold printed_cases

pub answers_hold : AnswersHold
answers_hold = (builds_worked, runs_worked, plans_worked, printed_worked)

-- ==== S-9: what document 01's limits refuse with 2, 4, 6, 10, 11, 13, 15 and 18, and what is answered now

abbrev pub WiderAnswersHold : Type 0
WiderAnswersHold = Hold widened_cases

pub wider_answers_hold : WiderAnswersHold
wider_answers_hold = widened_worked

-- ==== S-14: two sensors on one door, whose check takes a stored OO table

abbrev pub SharedObjectsHold : Type 0
SharedObjectsHold = Hold shared_object_cases

pub shared_objects_hold : SharedObjectsHold
shared_objects_hold = shared_objects_worked

-- ==== S-16: a ring whose closing triple pattern goes before one that is lower; 01's own plan stands in cases_hold

abbrev pub MetVariablesHold : Type 0
MetVariablesHold = Hold met_variable_cases

pub met_variables_hold : MetVariablesHold
met_variables_hold = met_variables_worked

-- ==== A step keeps each partial solution with each row of its table that agrees: choice 5 at place 0 of the shop's check gives the two
-- rows of the reduced table, and not the three of VP

abbrev pub FirstStepJoined : Type 0
FirstStepJoined = shop_joined (record { place = 0; choice = 5 } ∷ []) 1 ≡ met 10 20 ∷ met 11 21 ∷ []

pub first_step_joined : FirstStepJoined
first_step_joined = first_step
