-- The semi-joins of a site one by one: their entries and their stored rows with one more, and how many they are.
use Prim.Native.Nat.{ℕ, ◌+◌, ◌*◌, ◌<◌}
use native.Mathlib.Numerals.{add-one}
use mathlib.Core.Path.{◌≡◌, refl, ap, ◌∙◌}
use mathlib.Core.List.{List, [], ◌∷◌, ◌++◌, append-nil}
use lib.ListN.{length, get_or, take}
use lib.Seq.{take-suc}
use Rattle.model.specs.Tables.{kind_count}
use Rattle.model.specs.Store.{Reduced, semi_joins, stored_rows, table_words, semi_join_entries, stored_words}
use Rattle.model.proofs.Blocks.{concat_map-append}
use Rattle.model.proofs.StoreLayout.{length-all, entries-append, length-entries, semi_join_entry, semi_join-entries, length-semi_joins}
use Rattle.tables.specs.SiteWords.{site_in, ImageOf, no_reduced}

pub length_entries_of : (t first : ℕ) (xs : List Reduced) → length (semi_join_entries t first xs) ≡ 2 * length xs
length_entries_of t first xs = rw (semi_join-entries t first xs) (length-entries (stored_rows t) (semi_join_entry t) 2 (λ here x. refl) first xs)

pub entries-more : (t first : ℕ) (xs : List Reduced) (r : Reduced)
    → semi_join_entries t first (xs ++ (r ∷ [])) ≡ semi_join_entries t first xs ++ semi_join_entry t (first + length (stored_words t xs)) r
entries-more t first xs r =
    rw (semi_join-entries t first (xs ++ (r ∷ [])), semi_join-entries t first xs, length-all (stored_rows t) xs) (entries-append (stored_rows t) (semi_join_entry t) first xs (r ∷ []))

pub stored_words-more : (t : ℕ) (xs : List Reduced) (r : Reduced) → stored_words t (xs ++ (r ∷ [])) ≡ stored_words t xs ++ table_words (stored_rows t r)
stored_words-more t xs r = concat_map-append (λ (x : Reduced). table_words (stored_rows t x)) xs (r ∷ []) ∙ ap (λ (l : List ℕ). stored_words t xs ++ l) (append-nil (table_words (stored_rows t r)))

pub take_more : (xs : List Reduced) (x : ℕ) → x < length xs → take (x + 1) xs ≡ take x xs ++ (get_or xs x no_reduced ∷ [])
take_more xs x h = rw add-one (take-suc xs x no_reduced h)

pub length_all_of : {count : ℕ} {image : List ℕ} → ImageOf count image → length (semi_joins (site_in count image)) ≡ count * (count * kind_count)
length_all_of {count} {image} o = rw o.predicates at (length-semi_joins (site_in count image))
