-- V counts the variables of an accepted pattern.
use Prim.Native.Nat.{ℕ, zero, suc, ◌+◌, ◌≤◌}
use native.Mathlib.Omega.{arith}
use mathlib.Core.Path.{◌≡◌, refl, ap}
use mathlib.Core.Logic.{◌↔◌}
use mathlib.Core.Bool.{Bool, true, false, false≢true}
use mathlib.Core.List.Memᴰ
use mathlib.Core.List.{[]}
use lib.ListN.{length}
use lib.Dec.{ltb}
use borrow.Author.Tests.{ltb-true, ltb-false, lt-ltb, eqb-true, eq-eqb}
use Rattle.model.specs.Lists.{◌∈◌, filter, concat_map, count_up, below}
use Rattle.model.specs.Site.{Site}
use Rattle.model.specs.Pattern.{Pattern, most_variables, positions, width, is_accepted, same_variable, stands}
use Rattle.model.specs.declared.pattern.Position.{Position}
use Rattle.model.specs.declared.pattern.Position.TheVariants.{Term, Var}
use Rattle.model.specs.declared.pattern.TriplePattern.{TriplePattern}
use Rattle.model.proofs.Booleans.{bool_ext}
use Rattle.model.proofs.Membership.{from_any, into_any, into_concat_map, from_concat_map}
use Rattle.model.proofs.Patterns.{columns, width_limit, variable_named, variable_below}

pub is_variable : (v : ℕ) (x : Position) → same_variable (Var v) x ≡ true → Var v ≡ x
is_variable v (Term t) h = absurd (false≢true h)
is_variable v (Var w) h = ap Var (eqb-true v w h)

pub stands_exactly : (pattern : Pattern) (v : ℕ) → (stands pattern v ≡ true) ↔ ((q : TriplePattern) × (q ∈ pattern) × (Var v ∈ positions q))
stands_exactly pattern v = (from, λ s. into_any (same_variable (Var v)) (into_concat_map positions s.1 s.2) (eq-eqb v v refl))
  where
    from : stands pattern v ≡ true → (q : TriplePattern) × (q ∈ pattern) × (Var v ∈ positions q)
    from h =
        let x = from_any (same_variable (Var v)) (concat_map positions pattern) h in
        let q = from_concat_map positions pattern x.1 in
        (q.0, q.1, Memᴰ.cast (is_variable v x.0 x.2) q.2)

module _ (site : Site) (pattern : Pattern) (accepted : is_accepted site pattern ≡ true) where
  stands-below : (v : ℕ) → stands pattern v ≡ ltb v (width pattern)
  stands-below v = bool_ext (stands pattern v) (ltb v (width pattern)) into from
    where
      into : stands pattern v ≡ true → ltb v (width pattern) ≡ true
      into h = let q = (stands_exactly pattern v).0 h in lt-ltb v (width pattern) (variable_below pattern q.1 q.2)

      in_positions : (q : TriplePattern) → Var v ∈ columns q → Var v ∈ positions q
      in_positions q (Memᴰ.head e) = Memᴰ.head e
      in_positions q (Memᴰ.tail m) = Memᴰ.tail (Memᴰ.tail m)

      from : ltb v (width pattern) ≡ true → stands pattern v ≡ true
      from h =
          let q = variable_named site pattern accepted v (ltb-true v (width pattern) h) in
          (stands_exactly pattern v).1 (q.0, q.1, in_positions q.0 q.2)

  counted : (a k : ℕ) → a ≤ width pattern → width pattern ≤ a + k → a + length (filter (stands pattern) (count_up a k)) ≡ width pattern
  counted a zero l h = omega arith
  counted a (suc k) l h = go (ltb a (width pattern)) refl (λ m. counted (suc a) k m (omega arith))
    where
      none : (b n : ℕ) → width pattern ≤ b → filter (stands pattern) (count_up b n) ≡ []
      none b zero m = refl
      none b (suc n) m = rw (stands-below b, borrow.Author.Tests.le-ltb b (width pattern) m) (none (suc b) n (omega arith))

      go : (b : Bool) → ltb a (width pattern) ≡ b → (suc a ≤ width pattern → suc a + length (filter (stands pattern) (count_up (suc a) k)) ≡ width pattern)
          → a + length (filter (stands pattern) (count_up a (suc k))) ≡ width pattern
      go true e rest = let r = rest (ltb-true a (width pattern) e) in rw (stands-below a, e) (omega arith)
      go false e rest = let m = ltb-false a (width pattern) e in rw (none a (suc k) m) (omega arith)

  pub width_counts : width pattern ≡ length (filter (stands pattern) (below most_variables))
  width_counts = let e = counted 0 most_variables (omega arith) (let k = width_limit site pattern accepted in omega arith) in omega arith
