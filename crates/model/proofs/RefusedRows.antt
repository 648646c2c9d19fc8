-- A declaration and a row: each is refused exactly where a line of specs/Questions holds, with its number.
use Prim.Native.Nat.{ℕ, ◌+◌, ◌≤◌, ◌<◌}
use native.Mathlib.Omega.{arith}
use mathlib.Core.Path.{◌≡◌, refl, sym, ap, ◌∙◌}
use mathlib.Core.Logic.{◌⊎◌, inl, inr, ◌↔◌}
use mathlib.Core.Bool.{Bool, true, false, ◌&&◌}
use mathlib.Core.List.{List, [], ◌∷◌}
use lib.Dec.{eqb, ltb}
use borrow.Author.Tests.{ltb-true, ltb-false, lt-ltb, le-ltb, leb-true, leb-false, le-leb, lt-leb, eqb-true, eqb-false, ne_eqb}
use Rattle.model.specs.Lists.{above_last}
use Rattle.model.specs.Reader.{refused, after, ask}
use Rattle.model.specs.Numbers.{most_term, is_term}
use Rattle.model.specs.Site.{Row, row_before, most_rows}
use Rattle.model.specs.SiteFile.{Declaration, declared_terms, declared_total, declaration_under, declaration, row_under, row}
use Rattle.model.specs.Questions.{IsLast, PredicateIsAbove, PredicateNotAbove, DeclarationRefused, RowNotAbove, RowRefused}
use Rattle.model.specs.Questions.DeclarationRefused.{predicate_not_whole, predicate_not_above, count_not_whole, total_too_large}
use Rattle.model.specs.Questions.RowRefused.{subject_not_whole, subject_no_term, object_not_whole, object_no_term, row_not_above}
use Rattle.model.proofs.Booleans.{and_cases, and_make, not_both, and_fails, left_fails, right_fails, or_fails}
use Rattle.model.proofs.Growing.{above_snoc}
use Rattle.model.proofs.Questions.{gives≢refused, begins, no_number, by_number, by_ask}

-- ---- the one before

module _ {A : Type 0} (before : A → A → Bool) where
  above_last_lem : (done : List A) (x : A) → above_last before done x ≡ true → (last : A) → IsLast last done → before last x ≡ true
  above_last_lem done x h last (front, e) = sym (above_snoc before front last x) ∙ sym (ap (λ l. above_last before l x) e) ∙ h

  not_above_last : (done : List A) (x : A) → above_last before done x ≡ false → (last : A) × IsLast last done × (before last x ≡ false)
  not_above_last [] x h = not_both refl h
  not_above_last (y ∷ []) x h = (y, ([], refl), h)
  not_above_last (y ∷ z ∷ zs) x h = let r = not_above_last (z ∷ zs) x h in (r.0, (y ∷ r.1.0, ap (λ l. y ∷ l) r.1.1), r.2)

  last_below : (done : List A) (x : A) → ((last : A) → IsLast last done → before last x ≡ true) → above_last before done x ≡ true
  last_below [] x h = refl
  last_below (y ∷ []) x h = h y ([], refl)
  last_below (y ∷ z ∷ zs) x h = last_below (z ∷ zs) x (λ last l. h last (y ∷ l.0, ap (λ l. y ∷ l) l.1))

  last_not_below : (done : List A) (x last : A) → IsLast last done → before last x ≡ false → above_last before done x ≡ false
  last_not_below done x last (front, e) h = ap (λ l. above_last before l x) e ∙ above_snoc before front last x ∙ h

-- ---- a declaration

module _ (done : List Declaration) where
  abbrev is_above : ℕ → Bool
  is_above p = is_term p && above_last ltb (declared_terms done) p

  is_above_lem : (p : ℕ) → (is_above p ≡ true) ↔ PredicateIsAbove done p
  is_above_lem p = (
    (λ h.
        let c = and_cases (is_term p) (above_last ltb (declared_terms done) p) h in
        (leb-true p most_term c.0, λ last l. ltb-true last p (above_last_lem ltb (declared_terms done) p c.1 last l))),
    λ (k : PredicateIsAbove done p). and_make (le-leb p most_term k.0) (last_below ltb (declared_terms done) p (λ last l. lt-ltb last p (k.1 last l))),
  )

  not_above : (p : ℕ) → (is_above p ≡ false) ↔ PredicateNotAbove done p
  not_above p = ((λ h. to (and_fails (is_term p) (above_last ltb (declared_terms done) p) h)), from)
    where
      to : (is_term p ≡ false) ⊎ ((is_term p ≡ true) × (above_last ltb (declared_terms done) p ≡ false)) → PredicateNotAbove done p
      to (inl h) = inl (leb-false p most_term h)
      to (inr h) = let l = not_above_last ltb (declared_terms done) p h.1 in inr (l.0, l.1, ltb-false l.0 p l.2)

      from : PredicateNotAbove done p → is_above p ≡ false
      from (inl h) = left_fails (above_last ltb (declared_terms done) p) (lt-leb p most_term h)
      from (inr (last, l, h)) = right_fails (is_term p) (last_not_below ltb (declared_terms done) p last l (le-ltb last p h))

  module _ (bytes : List ℕ) where
    pub declaration_exactly : (n : ℕ) → (declaration done bytes ≡ refused n) ↔ DeclarationRefused done bytes n
    unfolding declaration_under after ask
    declaration_exactly n = (to, from)
      where
        P : ℕ → Type 0
        P = DeclarationRefused done bytes

        to : declaration done bytes ≡ refused n → P n
        to h =
            by_number P _ bytes _ h predicate_not_whole
            λ p rest b h. by_ask P _ _ rest _ h (λ f. predicate_not_above b ((not_above p).0 f))
            λ f h. by_number P _ rest _ h (count_not_whole b ((is_above_lem p).0 f))
            λ c end d h. by_ask P _ _ end _ h (λ g. total_too_large b ((is_above_lem p).0 f) d (leb-false (declared_total done + c) most_rows g))
            λ _ h. gives≢refused h

        from : {n : ℕ} → DeclarationRefused done bytes n → declaration done bytes ≡ refused n
        from (predicate_not_whole broken) = rw (no_number _ bytes broken) refl
        from (predicate_not_above {p} b k) = rw (begins _ b, (not_above p).1 k) refl
        from (count_not_whole {p} {rest} b k broken) = rw (begins _ b, (is_above_lem p).1 k, no_number _ rest broken) refl
        from (total_too_large {p} {c} b k d l) = rw (begins _ b, (is_above_lem p).1 k, begins _ d, lt-leb (declared_total done + c) most_rows l) refl

-- ---- a row

row_not_before : (r s : Row) → (row_before r s ≡ false) ↔ ((s.0 < r.0) ⊎ ((s.0 ≡ r.0) × (s.1 ≤ r.1)))
row_not_before r s = (to, from)
  where
    to : row_before r s ≡ false → (s.0 < r.0) ⊎ ((s.0 ≡ r.0) × (s.1 ≤ r.1))
    to h = go (and_fails (eqb r.0 s.0) (ltb r.1 s.1) c.1)
      where
        c : (ltb r.0 s.0 ≡ false) × ((eqb r.0 s.0 && ltb r.1 s.1) ≡ false)
        c = or_fails (ltb r.0 s.0) (eqb r.0 s.0 && ltb r.1 s.1) h

        go : (eqb r.0 s.0 ≡ false) ⊎ ((eqb r.0 s.0 ≡ true) × (ltb r.1 s.1 ≡ false)) → (s.0 < r.0) ⊎ ((s.0 ≡ r.0) × (s.1 ≤ r.1))
        go (inl e) = let a = ltb-false r.0 s.0 c.0 in let b = eqb-false r.0 s.0 e in inl (omega arith)
        go (inr e) = inr (sym (eqb-true r.0 s.0 e.0), ltb-false r.1 s.1 e.1)

    from : (s.0 < r.0) ⊎ ((s.0 ≡ r.0) × (s.1 ≤ r.1)) → row_before r s ≡ false
    from (inl l) = rw (le-ltb r.0 s.0 (omega arith), ne_eqb r.0 s.0 (λ e. omega arith)) refl
    from (inr (e, l)) = rw (le-ltb r.0 s.0 (omega arith)) (right_fails (eqb r.0 s.0) (le-ltb r.1 s.1 l))

module _ (done : List Row) where
  row-above : (r : Row) → (above_last row_before done r ≡ false) ↔ RowNotAbove done r
  row-above r = (
    (λ h. let l = not_above_last row_before done r h in (l.0, l.1, (row_not_before l.0 r).0 l.2)),
    λ (l : RowNotAbove done r). last_not_below row_before done r l.0 l.1 ((row_not_before l.0 r).1 l.2),
  )

  module _ (bytes : List ℕ) where
    pub row_exactly : (n : ℕ) → (row done bytes ≡ refused n) ↔ RowRefused done bytes n
    unfolding row_under after ask
    row_exactly n = (to, from)
      where
        P : ℕ → Type 0
        P = RowRefused done bytes

        to : row done bytes ≡ refused n → P n
        to h =
            by_number P _ bytes _ h subject_not_whole
            λ s rest a h. by_ask P _ _ rest _ h (λ f. subject_no_term a (leb-false s most_term f))
            λ f h. by_number P _ rest _ h (object_not_whole a (leb-true s most_term f))
            λ o end b h. by_ask P _ _ end _ h (λ g. object_no_term a (leb-true s most_term f) b (leb-false o most_term g))
            λ g h. by_ask P _ _ end _ h (λ k. row_not_above a (leb-true s most_term f) b (leb-true o most_term g) ((row-above (s, o)).0 k))
            λ _ h. gives≢refused h

        from : {n : ℕ} → RowRefused done bytes n → row done bytes ≡ refused n
        from (subject_not_whole broken) = rw (no_number _ bytes broken) refl
        from (subject_no_term {s} a l) = rw (begins _ a, lt-leb s most_term l) refl
        from (object_not_whole {s} {rest} a l broken) = rw (begins _ a, le-leb s most_term l, no_number _ rest broken) refl
        from (object_no_term {s} {o} a l b m) = rw (begins _ a, le-leb s most_term l, begins _ b, lt-leb o most_term m) refl
        from (row_not_above {s} {o} a l b m k) = rw (begins _ a, le-leb s most_term l, begins _ b, le-leb o most_term m, (row-above (s, o)).1 k) refl
