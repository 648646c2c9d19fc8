-- No proper prefix of an accepted file is accepted: what a reader gives of some bytes it gives of them with more behind, and leaves what is
-- behind, so a file that ends where its prefix did would have to leave nothing of it.
use Prim.Native.Nat.{ℕ, zero, suc, ◌≤◌}
use native.Mathlib.Omega.{arith}
use mathlib.Core.Path.{◌≡◌, refl, ap}
use mathlib.Core.Bool.{Bool, true, false, cond, ◌||◌, not}
use mathlib.Core.Option.{Option, none, some}
use mathlib.Core.List.{List, [], ◌∷◌, ◌++◌}
use lib.ListN.{length}
use lib.Seq.{drop-append-le}
use lib.Dec.{eqb, ltb}
use Rattle.model.specs.Reader.{gives, Reader, after, ask, whole_file, repeated}
use Rattle.model.specs.Numbers.{Sized, last_group, low_group, number_within, number_in_under, number_in, or_refused, number_under, number}
use Rattle.model.specs.Site.{Row, Site}
use Rattle.model.specs.SiteFile.{Declaration, declaration_under, declaration, row_under, row, tables_under, tables, site_file_under, site_file, read_site_under, read_site}
use Rattle.model.specs.Pattern.{Pattern}
use Rattle.model.specs.PatternFile.{ask_position_under, ask_position, ask_predicate_under, ask_predicate, triple_pattern_under, triple_pattern, pattern_file_under, pattern_file, read_pattern_under, read_pattern}
use Rattle.model.specs.declared.pattern.Position.{Position}
use Rattle.model.specs.declared.pattern.Position.TheVariants.{Term, Var}
use Rattle.model.proofs.Readers.{refused≢gives, after_gives, whole_gives}
use Rattle.model.proofs.Numbers.{none≢some}

-- a value, and more bytes behind those that are left
abbrev followed : {A : Type 0} → A × List ℕ → List ℕ → A × List ℕ
followed x more = (x.0, x.1 ++ more)

-- what the reader gives of some bytes it gives of them with more behind
record Steady {A : Type 0} (reader : Reader A) : Type 0 where
  with_more : (bytes more : List ℕ) {x : A × List ℕ} → reader bytes ≡ gives x → reader (bytes ++ more) ≡ gives (followed x more)

-- ---- how readers are put together

given_more : {A : Type 0} (more : List ℕ) {x y : A × List ℕ} → gives x ≡ gives y → gives (followed x more) ≡ gives (followed y more)
given_more more {x} {y} h = let e : x ≡ y = cc in rw e refl

steady_return : {A : Type 0} (a : A) → Steady (λ bytes. gives (a, bytes))
steady_return a = record { with_more = λ bytes more h. given_more more h }

steady_ask : (n : ℕ) (b : Bool) → Steady (ask n b)
unfolding ask
steady_ask n true = steady_return tt
steady_ask n false = record { with_more = λ bytes more h. refused≢gives h }

steady_then : {A B : Type 0} {reader : Reader A} {next : A → Reader B} → Steady reader → ((a : A) → Steady (next a))
    → Steady (λ bytes. after (reader bytes) next)
unfolding after
steady_then {reader = reader} {next = next} s t = record {
  with_more = λ bytes more h.
      let x = after_gives (reader bytes) next h in
      rw (s.with_more bytes more x.2) ((t x.0).with_more x.1 more x.3);
}

steady_repeated : {A : Type 0} {one : List A → Reader A} → ((done : List A) → Steady (one done)) → (k : ℕ) (done : List A) → Steady (repeated one k done)
unfolding repeated
steady_repeated s zero done = steady_return done
steady_repeated s (suc k) done = steady_then (s done) (λ x. steady_repeated s k (done ++ x ∷ []))

-- ---- a number

-- it is read from the bytes that it takes
abbrev FromFront : ℕ → Bool → List ℕ → List ℕ → Sized → Type 0
FromFront k alone bytes more x = (number_within k alone (bytes ++ more) ≡ some x) × (x.1 ≤ length bytes)

within_more : (k : ℕ) (alone : Bool) (bytes more : List ℕ) {x : Sized} → number_within k alone bytes ≡ some x → FromFront k alone bytes more x
unfolding number_within
within_more zero alone bytes more h = none≢some h
within_more (suc k) alone [] more h = none≢some h
within_more (suc k) alone (b ∷ bs) more {x} h = go (ltb b 128) h (λ y e. within_more k false bs more e)
  where
    last : (t : Bool) → cond t (some (b, 1)) none ≡ some x → x.1 ≤ suc (length bs)
    last true e = let same : (b, 1) ≡ x = cc in rw (← same) (omega arith)
    last false e = none≢some e

    low : (o : Option Sized) → ((y : Sized) → o ≡ some y → FromFront k false bs more y) → low_group b o ≡ some x
        → (low_group b (number_within k false (bs ++ more)) ≡ some x) × (x.1 ≤ suc (length bs))
    low none others e = none≢some e
    low (some y) others e =
        let w = others y refl in
        let size : suc y.1 ≡ x.1 = cc in
        (rw w.0 e, omega arith)

    go : (t : Bool) → cond t (last_group alone b) (low_group b (number_within k false bs)) ≡ some x
        → ((y : Sized) → number_within k false bs ≡ some y → FromFront k false bs more y)
        → (cond t (last_group alone b) (low_group b (number_within k false (bs ++ more))) ≡ some x) × (x.1 ≤ suc (length bs))
    go true e others = (e, last (alone || not (eqb b 0)) e)
    go false e others = low (number_within k false bs) others e

steady_number : (n : ℕ) → Steady (number n)
unfolding number_under number_in_under
steady_number n = record { with_more = λ bytes more h. go bytes more (number_in bytes) refl h }
  where
    go : (bytes more : List ℕ) (o : Option Sized) → number_in bytes ≡ o → {y : ℕ × List ℕ} → or_refused n bytes o ≡ gives y
        → number n (bytes ++ more) ≡ gives (followed y more)
    go bytes more none e h = refused≢gives h
    go bytes more (some x) e h =
        let w = within_more _ true bytes more e in
        rw (w.0, drop-append-le x.1 bytes more w.1) (given_more more h)

-- ---- the files

steady_declaration : (done : List Declaration) → Steady (declaration done)
unfolding declaration_under
steady_declaration done =
    steady_then (steady_number 2) λ p. steady_then (steady_ask 4 _) λ _.
    steady_then (steady_number 2) λ n. steady_then (steady_ask 5 _) λ _. steady_return (p, n)

steady_row : (done : List Row) → Steady (row done)
unfolding row_under
steady_row done =
    steady_then (steady_number 2) λ s. steady_then (steady_ask 6 _) λ _.
    steady_then (steady_number 2) λ o. steady_then (steady_ask 6 _) λ _. steady_then (steady_ask 7 _) λ _. steady_return (s, o)

steady_tables : (ds : List Declaration) (done : Site) → Steady (tables ds done)
unfolding tables_under
steady_tables [] done = steady_return done
steady_tables (d ∷ ds) done = steady_then (steady_repeated steady_row d.1 []) λ rows. steady_tables ds _

steady_site : Steady site_file
unfolding site_file_under
steady_site =
    steady_then (steady_number 2) λ p. steady_then (steady_ask 3 _) λ _.
    steady_then (steady_repeated steady_declaration p []) λ declared. steady_tables declared []

steady_position : (n : ℕ) (x : Position) → Steady (ask_position n x)
unfolding ask_position_under
steady_position n (Term t) = steady_ask 15 _
steady_position n (Var v) = steady_ask 16 _

steady_predicate : (site : Site) (x : Position) → Steady (ask_predicate site x)
unfolding ask_predicate_under
steady_predicate site (Term t) = steady_then (steady_ask 13 _) λ _. steady_ask 14 _
steady_predicate site (Var v) = steady_ask 13 _

steady_triple_pattern : (site : Site) (done : Pattern) → Steady (triple_pattern site done)
unfolding triple_pattern_under
steady_triple_pattern site done =
    steady_then (steady_number 11) λ s. steady_then (steady_position _ _) λ _.
    steady_then (steady_number 11) λ p. steady_then (steady_predicate site _) λ _.
    steady_then (steady_number 11) λ o. steady_then (steady_position _ _) λ _. steady_return _

steady_pattern : (site : Site) → Steady (pattern_file site)
unfolding pattern_file_under
steady_pattern site =
    steady_then (steady_number 11) λ n. steady_then (steady_ask 12 _) λ _. steady_repeated (steady_triple_pattern site) n []

-- ---- a prefix

-- the file that ends where its prefix did leaves nothing
no_prefix : {A : Type 0} (n : ℕ) (reader : Reader A) → Steady reader → (front : List ℕ) (b : ℕ) (rest : List ℕ) (x y : A)
    → whole_file n reader (front ++ b ∷ rest) ≡ gives x → whole_file n reader front ≡ gives y → ⊥
no_prefix {A} n reader s front b rest x y whole short =
    let more = s.with_more front (b ∷ rest) (whole_gives n reader front short) in
    let all = whole_gives n reader (front ++ b ∷ rest) whole in
    let left : ◌≡◌ {A = A × List ℕ} (y, b ∷ rest) (x, []) = cc in
    let none : ◌≡◌ {A = List ℕ} (b ∷ rest) [] = ap (λ z. z.1) left in
    let z : ◌≡◌ {A = ℕ} 0 1 = cc in omega arith

pub no_site_prefix : (front : List ℕ) (b : ℕ) (rest : List ℕ) (site other : Site) → read_site (front ++ b ∷ rest) ≡ gives site → read_site front ≡ gives other → ⊥
unfolding read_site_under
no_site_prefix = no_prefix 8 site_file steady_site

pub no_pattern_prefix : (site : Site) (front : List ℕ) (b : ℕ) (rest : List ℕ) (pattern other : Pattern)
    → read_pattern site (front ++ b ∷ rest) ≡ gives pattern → read_pattern site front ≡ gives other → ⊥
unfolding read_pattern_under
no_pattern_prefix site = no_prefix 17 (pattern_file site) (steady_pattern site)
