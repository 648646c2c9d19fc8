-- How many bytes are written for a site and for a pattern at most.
use Prim.Native.Nat.{ℕ, zero, suc, ◌+◌, ◌*◌, ◌/◌, ◌%◌, ◌≤◌}
use native.Mathlib.Omega.{arith}
use mathlib.Core.Path.{◌≡◌}
use mathlib.Core.Bool.{Bool, true, false, cond}
use mathlib.Core.List.{List, [], ◌∷◌, ◌++◌}
use lib.ListN.{length, length-append, length-map}
use lib.Dec.{ltb}
use Rattle.model.specs.Lists.{concat_map}
use Rattle.model.specs.Numbers.{most_number_bytes, bytes_within, number_bytes}
use Rattle.model.specs.Site.{Site, is_site, row_total, most_predicates, most_rows}
use Rattle.model.specs.SiteFile.{declaration_bytes, row_bytes, declaration_of, site_bytes, declarations}
use Rattle.model.specs.Pattern.{Pattern, most_triple_patterns, positions}
use Rattle.model.specs.PatternFile.{position_bytes, position_number, triple_pattern_bytes, pattern_bytes}
use Rattle.model.specs.declared.pattern.TriplePattern.{TriplePattern}
use Rattle.model.proofs.Partition.{proper}

within_size : (k n : ℕ) → length (bytes_within k n) ≤ k
unfolding bytes_within
within_size zero n = omega arith
within_size (suc k) n = go (ltb n 128) (within_size k (n / 128))
  where
    go : (b : Bool) → length (bytes_within k (n / 128)) ≤ k → length (cond b (n ∷ []) ((128 + n % 128) ∷ bytes_within k (n / 128))) ≤ suc k
    go true h = omega arith
    go false h = omega arith

number_size : (n : ℕ) → length (number_bytes n) ≤ most_number_bytes
unfolding number_bytes
number_size n = within_size most_number_bytes n

concat_map-size : {A : Type 0} (write : A → List ℕ) (most : ℕ) → ((x : A) → length (write x) ≤ most) → (l : List A) → length (concat_map write l) ≤ length l * most
concat_map-size write most h [] = omega arith
concat_map-size write most h (x ∷ xs) = omega (arith, length-append (write x) (concat_map write xs), h x, concat_map-size write most h xs)

-- two numbers
pair_size : (a b : ℕ) → length (number_bytes a ++ number_bytes b) ≤ 2 * most_number_bytes
pair_size a b = omega (arith, length-append (number_bytes a) (number_bytes b), number_size a, number_size b)

rows-size : (site : Site) → length (concat_map (λ t. concat_map row_bytes t.rows) site) ≤ row_total site * (2 * most_number_bytes)
rows-size [] = omega arith
rows-size (t ∷ ts) =
    omega (
      arith,
      length-append (concat_map row_bytes t.rows) (concat_map (λ t. concat_map row_bytes t.rows) ts),
      concat_map-size row_bytes (2 * most_number_bytes) (λ r. pair_size r.0 r.1) t.rows,
      rows-size ts,
    )

pub site-size : (site : Site) → is_site site ≡ true → length (site_bytes site) ≤ most_number_bytes * (1 + 2 * most_predicates + 2 * most_rows)
unfolding site_bytes
site-size site yes-site =
    let declared = declarations site in
    let rest = concat_map (λ t. concat_map row_bytes t.rows) site in
    omega (
      arith,
      length-append (number_bytes (length site)) (concat_map declaration_bytes declared ++ rest),
      length-append (concat_map declaration_bytes declared) rest,
      number_size (length site),
      concat_map-size declaration_bytes (2 * most_number_bytes) (λ d. pair_size d.0 d.1) declared,
      length-map site declaration_of,
      rows-size site,
      (proper site yes-site).predicate_limit,
      (proper site yes-site).row_limit,
    )

triple-size : (q : TriplePattern) → length (triple_pattern_bytes q) ≤ 3 * most_number_bytes
triple-size q = concat_map-size position_bytes most_number_bytes (λ x. number_size (position_number x)) (positions q)

pub pattern-size : (pattern : Pattern) → length pattern ≤ most_triple_patterns → length (pattern_bytes pattern) ≤ most_number_bytes * (1 + 3 * most_triple_patterns)
unfolding pattern_bytes
pattern-size pattern few =
    omega (
      arith,
      length-append (number_bytes (length pattern)) (concat_map triple_pattern_bytes pattern),
      number_size (length pattern),
      concat_map-size triple_pattern_bytes (3 * most_number_bytes) triple-size pattern,
    )
