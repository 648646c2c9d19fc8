-- The cells of the variables that are met, and what the notes of a pick say of each place.
use Prim.Native.Nat.{ℕ, ◌+◌, ◌<◌}
use native.Mathlib.Omega.{arith}
use mathlib.Core.Path.{◌≡◌, refl, sym, ap, ◌∙◌}
use mathlib.Core.Bool.{Bool, true, false, ◌||◌, false≢true, or-false, or-true, or_assoc}
use mathlib.Core.List.Memᴰ
use mathlib.Core.List.{List, [], ◌∷◌, ◌++◌}
use lib.ListN.{length, get_or, get_or-replicate, set, length-set, replicate}
use lib.Seq.{get_or-set_same, get_or-set_other}
use lib.Dec.{eqb}
use borrow.Author.Tests.{eqb-true, eqb-false}
use Rattle.model.specs.Lists.{◌∈◌, filter, any, concat_map}
use Rattle.model.specs.Site.{Site}
use Rattle.model.specs.Pattern.{Pattern, most_variables, positions, is_accepted, no_triple_pattern, triple_at, same_variable}
use Rattle.model.specs.Planner.{is_fixed, is_met, is_joined, counts_as_term, term_count}
use Rattle.model.specs.declared.pattern.Position.{Position}
use Rattle.model.specs.declared.pattern.Position.TheVariants.{Term, Var}
use Rattle.model.proofs.Booleans.{bool_ext}
use Rattle.model.proofs.Membership.{at_place, any_append, any_same, filter_same, into_concat_map, from_concat_map}
use Rattle.model.proofs.Setting.{set_more}
use Rattle.model.proofs.Patterns.{width_limit, variable_below}
use Rattle.model.proofs.MetVariables.{met_exactly, joined-met}
use Rattle.positions.specs.Members.{member_at, pattern_in, PatternCells}
use Rattle.positions.specs.declared.pattern.Pattern.{Pattern as Members}
use Rattle.positions.proofs.MemberLaws.{pattern-length, triple_member}
use Rattle.ordering.specs.Met.{HaveCells, met_by, counts_by, meeting, meeting_all, PlacesNoted}

-- ---- cells

-- the variables of an accepted pattern have cells
pub accepted_cells : (site : Site) (pattern : Pattern) → is_accepted site pattern ≡ true → HaveCells (concat_map positions pattern)
accepted_cells site pattern accepted v m =
    let (q, inside, here) = from_concat_map positions pattern m in
    omega (arith, variable_below pattern inside here, width_limit site pattern accepted)

-- one of several
pub one_cell : {x : Position} {xs : List Position} → HaveCells xs → x ∈ xs → HaveCells (x ∷ [])
one_cell cells here v m = cells v (Memᴰ.cast (Memᴰ.eq_of_singleton m) here)

-- those of a place
pub place_cells : (p : Members) (i : ℕ) → i < p.count → PatternCells p → HaveCells (concat_map positions (pattern_in p)) → HaveCells (positions (member_at p i).triple)
place_cells p i h counted cells v m =
    cells v
    (into_concat_map positions (at_place (pattern_in p) no_triple_pattern i (rw (pattern-length counted) h)) (rw (triple_member p i h) m))

module _ (met : List Bool) where
  -- a cell is as it was, or that of the variable met
  cell_met : (x : Position) (v : ℕ) → v < length met → get_or (meeting met x) v false ≡ (get_or met v false || same_variable (Var v) x)
  cell_met (Term t) v h = sym (or-false (get_or met v false))
  cell_met (Var w) v h = go (eqb v w) refl
    where
      go : (b : Bool) → eqb v w ≡ b → get_or (set met w true) v false ≡ (get_or met v false || b)
      go true e = let same = eqb-true v w e in rw (same, or-true) (get_or-set_same met w true false (rw same at h))
      go false e = rw or-false (get_or-set_other met w v true false (eqb-false v w e))

  size-met : (x : Position) → length (meeting met x) ≡ length met
  size-met (Term t) = refl
  size-met (Var w) = length-set met w true

size-all : (met : List Bool) (xs : List Position) → length (meeting_all met xs) ≡ length met
size-all met [] = refl
size-all met (x ∷ xs) = size-all (meeting met x) xs ∙ size-met met x

-- of several variables met
cell_all : (met : List Bool) (xs : List Position) (v : ℕ) → v < length met
    → get_or (meeting_all met xs) v false ≡ (get_or met v false || any (same_variable (Var v)) xs)
cell_all met [] v h = sym (or-false (get_or met v false))
cell_all met (x ∷ xs) v h =
    cell_all (meeting met x) xs v (rw (size-met met x) h) ∙ rw (cell_met met x v h) (or_assoc (get_or met v false) (same_variable (Var v) x) (any (same_variable (Var v)) xs))

-- ---- the notes of a place

module _ (pattern : Pattern) (met : List Bool) where
  pub none_noted : (joined : List Bool) (terms : List ℕ) → PlacesNoted pattern 0 met joined terms
  none_noted joined terms = record { joins = λ i h. absurd (omega arith); counts = λ i h. absurd (omega arith) }

  -- one place more
  pub noted_more : {i t : ℕ} {j : Bool} {joined : List Bool} {terms : List ℕ} → PlacesNoted pattern i met joined terms → i < length joined → i < length terms
      → j ≡ any (met_by met) (positions (triple_at pattern i)) → t ≡ length (filter (counts_by met) (positions (triple_at pattern i)))
      → PlacesNoted pattern (i + 1) met (set joined i j) (set terms i t)
  noted_more {joined = joined} {terms} v h k p q = record {
    joins = set_more (λ a. any (met_by met) (positions (triple_at pattern a))) joined false v.joins h p;
    counts = set_more (λ a. length (filter (counts_by met) (positions (triple_at pattern a)))) terms 0 v.counts k q;
  }

-- ---- the cells of the places taken

-- the cells say which variables are met
pub record MetNoted (pattern : Pattern) (taken : List ℕ) (met : List Bool) : Type 0 where
  pub size : length met ≡ most_variables
  pub cell : (v : ℕ) → v < most_variables → get_or met v false ≡ is_met pattern taken (Var v)

module _ (pattern : Pattern) where
  pub met_none : MetNoted pattern [] (replicate most_variables false)
  met_none = record { size = refl; cell = λ v h. get_or-replicate most_variables v false false h }

  module _ (taken : List ℕ) {met : List Bool} (notes : MetNoted pattern taken met) where
    -- with one place more
    pub met-more : (i : ℕ) → MetNoted pattern (taken ++ i ∷ []) (meeting_all met (positions (triple_at pattern i)))
    met-more i = record {
      size = size-all met (positions (triple_at pattern i)) ∙ notes.size;
      cell = λ v h.
          let here : ℕ → Bool = λ j. any (same_variable (Var v)) (positions (triple_at pattern j)) in
          cell_all met (positions (triple_at pattern i)) v (rw notes.size h)
          ∙ rw (notes.cell v h) (sym (any_append here taken (i ∷ []) ∙ ap (λ b. any here taken || b) (or-false (here i))));
    }

    -- a position is met by its cell
    met_by_lem : (x : Position) → HaveCells (x ∷ []) → met_by met x ≡ is_met pattern taken x
    met_by_lem (Term t) cells =
        bool_ext false (is_met pattern taken (Term t)) (λ h. absurd (false≢true h)) (λ h. let (v, e, here) = (met_exactly pattern taken (Term t)).0 h in cc)
    met_by_lem (Var v) cells = notes.cell v (cells v (Memᴰ.head refl))

    module _ {n : ℕ} {joined : List Bool} {terms : List ℕ} (cells : HaveCells (concat_map positions pattern)) (size : length pattern ≡ n)
        (noted : PlacesNoted pattern n met joined terms) where
      position_cells : (i : ℕ) → i < n → {x : Position} → x ∈ positions (triple_at pattern i) → HaveCells (x ∷ [])
      position_cells i h m = one_cell cells (into_concat_map positions (at_place pattern no_triple_pattern i (rw size h)) m)

      -- what is noted of a place is what the definitions say of it
      pub noted_joined : (i : ℕ) → i < n → get_or joined i false ≡ is_joined pattern taken i
      noted_joined i h =
          noted.joins i h
          ∙ any_same (met_by met) (is_met pattern taken) (positions (triple_at pattern i)) (λ x m. met_by_lem x (position_cells i h m))
          ∙ sym (joined-met pattern taken i)

      pub noted_terms : (i : ℕ) → i < n → get_or terms i 0 ≡ term_count pattern taken i
      unfolding term_count
      noted_terms i h =
          noted.counts i h
          ∙ ap length
          (filter_same (counts_by met) (counts_as_term pattern taken) (positions (triple_at pattern i))
          (λ x m. ap (λ b. is_fixed x || b) (met_by_lem x (position_cells i h m))))
