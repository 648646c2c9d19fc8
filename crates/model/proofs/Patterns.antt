-- What an accepted pattern has: fixed predicates, and its variables numbered from 0, each in some subject or object.
use Prim.Native.Nat.{ℕ, ◌≤◌, ◌<◌}
use native.Mathlib.Omega.{arith}
use mathlib.Core.Path.{◌≡◌, refl, sym, ap, subst}
use mathlib.Core.Logic.{◌⊎◌, inl, inr}
use mathlib.Core.Bool.{Bool, true, false, ◌&&◌, false≢true}
use mathlib.Core.List.Memᴰ
use mathlib.Core.List.{List, [], ◌∷◌, ◌++◌}
use lib.ListN.{length}
use lib.Dec.{ltb, leb}
use borrow.Author.Tests.{ltb-true, ltb-false, leb-true}
use Rattle.model.specs.Lists.{◌∈◌, concat_map}
use Rattle.model.specs.Numbers.{is_term}
use Rattle.model.specs.Site.{Site, is_declared}
use Rattle.model.specs.Pattern.{Pattern, most_triple_patterns, most_variables, positions, variables_with, variables, width, is_position, is_predicate, is_triple_pattern, are_triple_patterns, is_pattern_length, is_accepted}
use Rattle.model.specs.declared.pattern.Position.{Position}
use Rattle.model.specs.declared.pattern.Position.TheVariants.{Term, Var}
use Rattle.model.specs.declared.pattern.TriplePattern.{TriplePattern}
use Rattle.model.proofs.Booleans.{and_cases, bool_cases}
use Rattle.model.proofs.Membership.{into_concat_map}

-- ---- the count of variables

pub variables-append : (n : ℕ) (xs ys : List Position) → variables n (xs ++ ys) ≡ variables (variables n xs) ys
unfolding variables
variables-append n [] ys = refl
variables-append n (x ∷ xs) ys = variables-append (variables_with n x) xs ys

with_grows : (n : ℕ) (x : Position) → n ≤ variables_with n x
with_grows n (Term t) = omega arith
with_grows n (Var v) = omega arith

pub variables_grow : (n : ℕ) (xs : List Position) → n ≤ variables n xs
unfolding variables
variables_grow n [] = omega arith
variables_grow n (x ∷ xs) = omega (arith, with_grows n x, variables_grow (variables_with n x) xs)

variable_counted : (n : ℕ) {v : ℕ} (xs : List Position) → Var v ∈ xs → v < variables n xs
unfolding variables
variable_counted n [] m = absurd (Memᴰ.not-nil m)
variable_counted n {v} (x ∷ xs) m = go (Memᴰ.cases_cons m) (λ k. variable_counted (variables_with n x) xs k)
  where
    go : (Var v ≡ x) ⊎ Var v ∈ xs → (Var v ∈ xs → v < variables (variables_with n x) xs) → v < variables (variables_with n x) xs
    go (inl e) rest =
        subst (λ (y : Position). v < variables (variables_with n y) xs) e
        (omega (arith, variables_grow (variables_with n (Var v)) xs))
    go (inr k) rest = rest k

-- ---- triple patterns that pass, n variables before them

-- the positions that a table's columns are matched with
abbrev pub columns : TriplePattern → List Position
columns q = q.subject ∷ q.object ∷ []

-- a position that passes has a term, a variable met before, or the next one
pub position_limit : (n : ℕ) (x : Position) → is_position n x ≡ true → n ≤ most_variables → variables_with n x ≤ most_variables
position_limit n (Term t) h k = k
position_limit n (Var v) h k = omega (arith, ltb-true v most_variables (and_cases (ltb v most_variables) (leb v n) h).0)

position_next : (n v : ℕ) (x : Position) → is_position n x ≡ true → n ≤ v → v < variables_with n x → x ≡ Var v
position_next n v (Term t) h a b = absurd (omega arith)
position_next n v (Var w) h a b =
    let k = leb-true w n (and_cases (ltb w most_variables) (leb w n) h).1 in
    ap Var (omega arith)

record TriplePasses (site : Site) (n : ℕ) (q : TriplePattern) : Type 0 where
  subject : is_position n q.subject ≡ true
  predicate : (p : ℕ) × (q.predicate ≡ Term p) × (is_declared site p ≡ true)
  object : is_position (variables_with n q.subject) q.object ≡ true
  counted : variables n (positions q) ≡ variables_with (variables_with n q.subject) q.object

triple-passes : (site : Site) (n : ℕ) (q : TriplePattern) → is_triple_pattern site n q ≡ true → TriplePasses site n q
unfolding variables
triple-passes site n q h = go q.predicate refl c.1
  where
    rest : Position → Bool
    rest x = is_predicate site x && is_position (variables_with (variables_with n q.subject) x) q.object

    c : (is_position n q.subject ≡ true) × (rest q.predicate ≡ true)
    c = and_cases (is_position n q.subject) (rest q.predicate) h

    go : (x : Position) → q.predicate ≡ x → rest x ≡ true → TriplePasses site n q
    go (Term p) e k =
        let d = and_cases (is_term p && is_declared site p) (is_position (variables_with n q.subject) q.object) k in
        record {
          subject = c.0;
          predicate = (p, e, (and_cases (is_term p) (is_declared site p) d.0).1);
          object = d.1;
          counted = rw e refl;
        }
    go (Var v) e k = absurd (false≢true k)

module _ (site : Site) where
  -- with a triple pattern that passes there are few variables
  pub triple_limit : (n : ℕ) (q : TriplePattern) → is_triple_pattern site n q ≡ true → n ≤ most_variables → variables n (positions q) ≤ most_variables
  triple_limit n q h k =
      let t = triple-passes site n q h in
      let s = position_limit n q.subject t.subject k in
      rw t.counted (position_limit (variables_with n q.subject) q.object t.object s)

  limit : (n : ℕ) (qs : Pattern) → are_triple_patterns site n qs ≡ true → n ≤ most_variables → variables n (concat_map positions qs) ≤ most_variables
  unfolding are_triple_patterns variables
  limit n [] h k = k
  limit n (q ∷ qs) h k =
      let c = and_cases (is_triple_pattern site n q) (are_triple_patterns site (variables n (positions q)) qs) h in
      rw (variables-append n (positions q) (concat_map positions qs)) (limit (variables n (positions q)) qs c.1 (triple_limit n q c.0 k))

  -- a variable counted at a triple pattern stands in its subject or object
  at-triple : (n v : ℕ) (q : TriplePattern) → TriplePasses site n q → n ≤ v → v < variables n (positions q) → Var v ∈ columns q
  at-triple n v q t a b = go (bool_cases (ltb v (variables_with n q.subject)))
    where
      go : (ltb v (variables_with n q.subject) ≡ true) ⊎ (ltb v (variables_with n q.subject) ≡ false) → Var v ∈ columns q
      go (inl l) = Memᴰ.head (sym (position_next n v q.subject t.subject a (ltb-true _ _ l)))
      go (inr l) =
          let m : variables_with n q.subject ≤ v = ltb-false _ _ l in
          let w : v < variables_with (variables_with n q.subject) q.object = rw t.counted at b in
          Memᴰ.tail (Memᴰ.head (sym (position_next _ v q.object t.object m w)))

  named : (n v : ℕ) (qs : Pattern) → are_triple_patterns site n qs ≡ true → n ≤ v → v < variables n (concat_map positions qs)
      → (q : TriplePattern) × (q ∈ qs) × (Var v ∈ columns q)
  unfolding are_triple_patterns variables
  named n v [] h a b = absurd (omega arith)
  named n v (q ∷ qs) h a b =
      go (bool_cases (ltb v (variables n (positions q)))) (λ m. named (variables n (positions q)) v qs c.1 m (rw (variables-append n (positions q) (concat_map positions qs)) at b))
    where
      c : (is_triple_pattern site n q ≡ true) × (are_triple_patterns site (variables n (positions q)) qs ≡ true)
      c = and_cases (is_triple_pattern site n q) (are_triple_patterns site (variables n (positions q)) qs) h

      go : (ltb v (variables n (positions q)) ≡ true) ⊎ (ltb v (variables n (positions q)) ≡ false)
          → (variables n (positions q) ≤ v → (r : TriplePattern) × (r ∈ qs) × (Var v ∈ columns r))
          → (r : TriplePattern) × (r ∈ q ∷ qs) × (Var v ∈ columns r)
      go (inl l) rest = (q, Memᴰ.head refl, at-triple n v q (triple-passes site n q c.0) a (ltb-true v (variables n (positions q)) l))
      go (inr l) rest = let r = rest (ltb-false v (variables n (positions q)) l) in (r.0, Memᴰ.tail r.1, r.2)

  fixed : {q : TriplePattern} (n : ℕ) (qs : Pattern) → are_triple_patterns site n qs ≡ true → q ∈ qs
      → (p : ℕ) × (q.predicate ≡ Term p) × (is_declared site p ≡ true)
  unfolding are_triple_patterns
  fixed n [] h m = absurd (Memᴰ.not-nil m)
  fixed {q} n (r ∷ rs) h m = go (Memᴰ.cases_cons m) (λ k. fixed (variables n (positions r)) rs c.1 k)
    where
      c : (is_triple_pattern site n r ≡ true) × (are_triple_patterns site (variables n (positions r)) rs ≡ true)
      c = and_cases (is_triple_pattern site n r) (are_triple_patterns site (variables n (positions r)) rs) h

      go : (q ≡ r) ⊎ q ∈ rs → (q ∈ rs → (p : ℕ) × (q.predicate ≡ Term p) × (is_declared site p ≡ true))
          → (p : ℕ) × (q.predicate ≡ Term p) × (is_declared site p ≡ true)
      go (inl e) rest = rw e (triple-passes site n r c.0).predicate
      go (inr k) rest = rest k

-- ---- an accepted pattern

module _ (site : Site) (pattern : Pattern) (accepted : is_accepted site pattern ≡ true) where
  passes : are_triple_patterns site 0 pattern ≡ true
  unfolding is_accepted
  passes = (and_cases (is_pattern_length (length pattern)) (are_triple_patterns site 0 pattern) accepted).1

  pub pattern_limit : length pattern ≤ most_triple_patterns
  unfolding is_accepted
  pattern_limit =
      let c = and_cases (is_pattern_length (length pattern)) (are_triple_patterns site 0 pattern) accepted in
      leb-true (length pattern) most_triple_patterns (and_cases (leb 1 (length pattern)) (leb (length pattern) most_triple_patterns) c.0).1

  pub width_limit : width pattern ≤ most_variables
  unfolding width
  width_limit = limit site 0 pattern passes (omega arith)

  -- a variable below V stands in a subject or an object
  pub variable_named : (v : ℕ) → v < width pattern → (q : TriplePattern) × (q ∈ pattern) × (Var v ∈ columns q)
  unfolding width
  variable_named v h = named site 0 v pattern passes (omega arith) h

  -- each predicate is a term that is declared
  pub predicate_fixed : {q : TriplePattern} → q ∈ pattern → (p : ℕ) × (q.predicate ≡ Term p) × (is_declared site p ≡ true)
  predicate_fixed m = fixed site 0 pattern passes m

-- each variable of a pattern is below V
pub variable_below : (pattern : Pattern) {q : TriplePattern} {v : ℕ} → q ∈ pattern → Var v ∈ positions q → v < width pattern
unfolding width
variable_below pattern m k = variable_counted 0 (concat_map positions pattern) (into_concat_map positions m k)
