-- The numbers that a reader refuses with.
use Prim.Native.Nat.{ℕ, zero, suc}
use native.Mathlib.Omega.{arith}
use mathlib.Core.Path.{◌≡◌, refl, subst}
use mathlib.Core.Bool.{Bool, true, false, cond}
use mathlib.Core.Option.{Option, none, some}
use mathlib.Core.List.{List, [], ◌∷◌, ◌++◌}
use lib.ListN.{length}
use Rattle.model.specs.Answers.{Between}
use Rattle.model.specs.Lists.{is_empty}
use Rattle.model.specs.Reader.{Reply, refused, gives, Reader, after, ask, all_read, whole_file, repeated}
use Rattle.model.specs.Numbers.{Sized, number_in, number_under, number, or_refused}
use Rattle.model.specs.Site.{Row, Site}
use Rattle.model.specs.SiteFile.{Declaration, declaration_under, declaration, row_under, row, tables_under, tables, site_file_under, site_file, read_site_under, read_site}
use Rattle.model.specs.Store.{Store}
use Rattle.model.specs.Pattern.{Pattern}
use Rattle.model.specs.PatternFile.{ask_position_under, ask_position, ask_predicate_under, ask_predicate, triple_pattern_under, triple_pattern, pattern_file_under, pattern_file, read_pattern_under, read_pattern}
use Rattle.model.specs.Plan.{Plan}
use Rattle.model.specs.PlanFile.{step_under, step, read_plan_under, read_plan}
use Rattle.model.specs.declared.pattern.Position.{Position}
use Rattle.model.specs.declared.pattern.Position.TheVariants.{Term, Var}

-- where it refuses, the number is between low and high
pub record Refuses {A : Type 0} (low high : ℕ) (reply : Reply A) : Type 0 where
  pub number_between : (n : ℕ) → reply ≡ refused n → Between low high n

module _ {low high : ℕ} where
  gave : {A : Type 0} {a : A} → Refuses low high (gives a)
  gave = record { number_between = λ n e. let z : ◌≡◌ {A = ℕ} 0 1 = cc in absurd (omega arith) }

  refuse : {A : Type 0} (m : ℕ) → Between low high m → Refuses {A = A} low high (refused m)
  refuse m h = record { number_between = λ n e. let k : m ≡ n = cc in subst (Between low high) k h }

  then_read : {A B : Type 0} {reply : Reply (A × List ℕ)} {next : A → Reader B} → Refuses low high reply
      → ((a : A) (bytes : List ℕ) → Refuses low high (next a bytes)) → Refuses low high (after reply next)
  unfolding after
  then_read {A} {B} {reply} {next} h k = go reply h
    where
      go : (r : Reply (A × List ℕ)) → Refuses low high r → Refuses low high (after r next)
      go (refused n) i = refuse n (i.number_between n refl)
      go (gives x) i = k x.0 x.1

  ask_refuses : (n : ℕ) (b : Bool) (bytes : List ℕ) → Between low high n → Refuses low high (ask n b bytes)
  unfolding ask
  ask_refuses n true bytes h = gave
  ask_refuses n false bytes h = refuse n h

  number_refuses : (n : ℕ) (bytes : List ℕ) → Between low high n → Refuses low high (number n bytes)
  unfolding number_under
  number_refuses n bytes h = go (number_in bytes)
    where
      go : (x : Option Sized) → Refuses low high (or_refused n bytes x)
      go none = refuse n h
      go (some x) = gave

  repeatedly : {A : Type 0} (one : List A → Reader A) → ((done : List A) (bytes : List ℕ) → Refuses low high (one done bytes))
      → (k : ℕ) (done : List A) (bytes : List ℕ) → Refuses low high (repeated one k done bytes)
  unfolding repeated
  repeatedly one h zero done bytes = gave
  repeatedly one h (suc k) done bytes = then_read (h done bytes) λ x rest. repeatedly one h k (done ++ x ∷ []) rest

  whole : {A : Type 0} (n : ℕ) (reader : Reader A) (bytes : List ℕ) → Between low high n → Refuses low high (reader bytes)
      → Refuses low high (whole_file n reader bytes)
  unfolding whole_file
  whole {A} n reader bytes h k = go (reader bytes) k
    where
      ended : (a : A) (b : Bool) → Refuses low high (cond b (gives a) (refused n))
      ended a true = gave
      ended a false = refuse n h

      go : (r : Reply (A × List ℕ)) → Refuses low high r → Refuses low high (all_read n r)
      go (refused m) i = refuse m (i.number_between m refl)
      go (gives x) i = ended x.0 (is_empty x.1)

  -- a number, then its question
  number-asked : {B : Type 0} (n m : ℕ) (test : ℕ → Bool) {next : ℕ → Reader B} (bytes : List ℕ) → Between low high n → Between low high m
      → ((v : ℕ) (rest : List ℕ) → Refuses low high (next v rest))
      → Refuses low high (after (number n bytes) (λ v rest. after (ask m (test v) rest) (λ _. next v)))
  number-asked n m test bytes h k i =
      then_read (number_refuses n bytes h) λ v rest. then_read (ask_refuses m (test v) rest k) λ _ rest. i v rest

-- ---- the site file: 2 to 8

declaration_refuses : (done : List Declaration) (bytes : List ℕ) → Refuses 2 8 (declaration done bytes)
unfolding declaration_under
declaration_refuses done bytes =
    number-asked _ _ _ bytes (omega arith) (omega arith) λ p rest. number-asked _ _ _ rest (omega arith) (omega arith) λ n rest. gave

row_refuses : (done : List Row) (bytes : List ℕ) → Refuses 2 8 (row done bytes)
unfolding row_under
row_refuses done bytes =
    number-asked _ _ _ bytes (omega arith) (omega arith)
    λ s rest. number-asked _ _ _ rest (omega arith) (omega arith) λ o rest. then_read (ask_refuses _ _ rest (omega arith)) λ _ rest. gave

tables_refuse : (ds : List Declaration) (done : Site) (bytes : List ℕ) → Refuses 2 8 (tables ds done bytes)
unfolding tables_under
tables_refuse [] done bytes = gave
tables_refuse (d ∷ ds) done bytes =
    then_read (repeatedly row row_refuses d.1 [] bytes) λ rows rest. tables_refuse ds (done ++ record { predicate = d.0; rows = rows } ∷ []) rest

pub site_refuses : (bytes : List ℕ) → Refuses 2 8 (read_site bytes)
unfolding read_site_under site_file_under
site_refuses bytes =
    whole _ site_file bytes (omega arith)
    (number-asked _ _ _ bytes (omega arith) (omega arith)
    λ p rest. then_read (repeatedly declaration declaration_refuses p [] rest) λ declared rest. tables_refuse declared [] rest)

-- ---- the pattern file: 11 to 17

position_refuses : (n : ℕ) (x : Position) (bytes : List ℕ) → Refuses 11 17 (ask_position n x bytes)
unfolding ask_position_under
position_refuses n (Term t) bytes = ask_refuses _ _ bytes (omega arith)
position_refuses n (Var v) bytes = ask_refuses _ _ bytes (omega arith)

predicate_refuses : (site : Site) (x : Position) (bytes : List ℕ) → Refuses 11 17 (ask_predicate site x bytes)
unfolding ask_predicate_under
predicate_refuses site (Term t) bytes = then_read (ask_refuses _ _ bytes (omega arith)) λ _ rest. ask_refuses _ _ rest (omega arith)
predicate_refuses site (Var v) bytes = ask_refuses _ _ bytes (omega arith)

triple_refuses : (site : Site) (done : Pattern) (bytes : List ℕ) → Refuses 11 17 (triple_pattern site done bytes)
unfolding triple_pattern_under
triple_refuses site done bytes =
    then_read (number_refuses _ bytes (omega arith))
    λ s rest. then_read (position_refuses _ _ rest)
    λ _ rest. then_read (number_refuses _ rest (omega arith))
    λ p rest. then_read (predicate_refuses site _ rest)
    λ _ rest. then_read (number_refuses _ rest (omega arith)) λ o rest. then_read (position_refuses _ _ rest) λ _ rest. gave

pub pattern_refuses : (site : Site) (bytes : List ℕ) → Refuses 11 17 (read_pattern site bytes)
unfolding read_pattern_under pattern_file_under
pattern_refuses site bytes =
    whole _ (pattern_file site) bytes (omega arith)
    (number-asked _ _ _ bytes (omega arith) (omega arith) λ n rest. repeatedly (triple_pattern site) (triple_refuses site) n [] rest)

-- ---- the plan file: 18 to 20

step_refuses : (store : Store) (pattern : Pattern) (done : Plan) (bytes : List ℕ) → Refuses 18 20 (step store pattern done bytes)
unfolding step_under
step_refuses store pattern done bytes =
    number-asked _ _ _ bytes (omega arith) (omega arith) λ i rest. number-asked _ _ _ rest (omega arith) (omega arith) λ c rest. gave

pub plan_refuses : (store : Store) (pattern : Pattern) (bytes : List ℕ) → Refuses 18 20 (read_plan store pattern bytes)
unfolding read_plan_under
plan_refuses store pattern bytes =
    whole _ (repeated (step store pattern) (length pattern) []) bytes (omega arith)
    (repeatedly (step store pattern) (step_refuses store pattern) (length pattern) [] bytes)
