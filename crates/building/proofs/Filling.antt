-- What has been written when the first x semi-joins are done: their entries in the image, their rows in the store.
use Prim.Native.Nat.{ℕ, ◌+◌, ◌*◌, ◌≤◌, ◌<◌}
use native.Mathlib.Nat.{le_refl}
use native.Mathlib.Omega.{arith}
use mathlib.Core.Path.{◌≡◌, refl, sym, ap, ◌∙◌}
use mathlib.Core.Logic.{inl, inr}
use mathlib.Core.Bool.{Bool, true, false, cond}
use mathlib.Core.List.{List, [], ◌∷◌, ◌++◌, append-nil}
use lib.ListN.{length, get_or, take, drop, length-append, take-append-drop}
use lib.Seq.{length-take-le, take_all, sets, length-sets}
use Rattle.model.specs.Site.{Row, most_rows}
use Rattle.model.specs.Tables.{kind_count}
use Rattle.model.specs.Store.{Reduced, semi_joins, is_stored_table, stored_rows, table_words, semi_join_entries, stored_start, stored_words, layout, vp_entry_at}
use Rattle.model.proofs.Blocks.{element_block, get_or_block, head_block, concat_map-append}
use Rattle.model.proofs.StoreLayout.{length-table, entry_block, semi_join_entry, semi_join-entries, layout_used}
use Rattle.tables.specs.SiteWords.{site_in, ImageOf, no_reduced, reduced_at, CountsIn}
use Rattle.tables.proofs.Reduced.{length_entries_of, entries-more, stored_words-more, take_more, length_all_of}
use Rattle.model.proofs.Setting.{sets-append, get_or-sets, sets_block}
use Rattle.tables.specs.SemiJoins.{SemiJoinOf, left_of}
use Rattle.tables.specs.declared.semi_joins.SemiJoin.{SemiJoin}
use Rattle.tables.proofs.Entries.{Counted, counted_of}
use Rattle.tables.proofs.Images.{image_unchanged, few_predicates, few_semi_joins, stored_start_limit, entries_inside}

-- ---- one semi-join more

-- what a semi-join leaves, if it is stored
abbrev left_if : Bool → List Reduced → ℕ → List Row
left_if b xs x = cond b (get_or xs x no_reduced).rows []

module _ (t : ℕ) (xs : List Reduced) (x : ℕ) (h : x < length xs) (b : Bool) (e : b ≡ is_stored_table t (get_or xs x no_reduced)) where
  stored-take : stored_words t (take (x + 1) xs) ≡ stored_words t (take x xs) ++ table_words (left_if b xs x)
  unfolding stored_rows
  stored-take = rw (take_more xs x h, stored_words-more t (take x xs) (get_or xs x no_reduced), e) refl

  used_take : (first next : ℕ) → next ≡ first + length (stored_words t (take x xs))
      → cond b (next + 2 * length (get_or xs x no_reduced).rows) next ≡ first + length (stored_words t (take (x + 1) xs))
  used_take first next f = rw stored-take (go b)
    where
      go : (b : Bool) → cond b (next + 2 * length (get_or xs x no_reduced).rows) next ≡ first + length (stored_words t (take x xs) ++ table_words (left_if b xs x))
      go true = let l = length-table (left_if true xs x) in rw length-append (omega arith)
      go false = rw append-nil f

-- ---- the entries in the image

-- x entries are written, the first at `at`; the rows of their stored tables go from `first` up to `here`
pub record Filled (t at first : ℕ) (xs : List Reduced) (image₀ image : List ℕ) (here x : ℕ) : Type 0 where
  pub written : image ≡ sets image₀ at (semi_join_entries t first (take x xs))
  pub used : here ≡ first + length (stored_words t (take x xs))
  pub near : here ≤ first + 2 * most_rows * x

pub filled_none : (t at first : ℕ) (xs : List Reduced) (image : List ℕ) → Filled t at first xs image image first 0
unfolding semi_join_entries
filled_none t at first xs image = record { written = refl; used = omega arith; near = omega arith }

pub filled_more : {t at first : ℕ} {xs : List Reduced} {image₀ image : List ℕ} {here x : ℕ} → Filled t at first xs image₀ image here x → x < length xs
    → (b : Bool) → b ≡ is_stored_table t (get_or xs x no_reduced) → (n : ℕ) → n ≡ length (get_or xs x no_reduced).rows → n ≤ most_rows
    → Filled t at first xs image₀ (sets image (at + 2 * x) (n ∷ cond b here 0 ∷ [])) (cond b (here + 2 * n) here) (x + 1)
filled_more {t} {at} {first} {xs} {image₀} {image} {here} {x} f h b e n counted few =
    let done = take x xs in
    let es = semi_join_entries t first done in
    let r = get_or xs x no_reduced in
    let place : at + 2 * x ≡ at + length es = omega (arith, length_entries_of t first done, length-take-le x xs (omega arith)) in
    record {
      written = rw (take_more xs x h, entries-more t first done r, f.written, place, counted, e, f.used) (sym (sets-append image₀ at es _));
      used = rw counted (used_take t xs x h b e first here f.used);
      near = go b;
    }
  where
    go : (b : Bool) → cond b (here + 2 * n) here ≤ first + 2 * most_rows * (x + 1)
    go true = omega arith
    go false = omega arith

pub filled-length : {t at first : ℕ} {xs : List Reduced} {image₀ image : List ℕ} {here x : ℕ} → Filled t at first xs image₀ image here x
    → length image ≡ length image₀
filled-length f = ap length f.written ∙ simp length-sets

-- the image's semi-joins
module _ {count : ℕ} {image₀ : List ℕ} (o : ImageOf count image₀) where
  abbrev all : List Reduced
  all = semi_joins (site_in count image₀)

  module _ {t first x here : ℕ} {image : List ℕ} (f : Filled t (vp_entry_at count) first all image₀ image here x) where
    -- the site is as it was
    pub filled_image : x ≤ count * (count * kind_count) → ImageOf count image × (site_in count image ≡ site_in count image₀)
    filled_image h =
        let es = semi_join_entries t first (take x all) in
        let n = length_entries_of t first (take x all) in
        let m = length-take-le x all (rw (length_all_of o) h) in
        rw f.written (image_unchanged o (vp_entry_at count) es (inr (omega arith)) (omega arith))

    -- the entry of the next semi-join stands in the image
    pub next_inside : x < count * (count * kind_count) → vp_entry_at count + 2 * x + 2 ≤ length image
    next_inside h = omega (arith, entries_inside o, filled-length f, h)

    -- the next semi-join, as the code reads it in the image
    module _ (h : x < count * (count * kind_count)) {r : SemiJoin} (known : SemiJoinOf (site_in count image) image x r) where
      -- what it leaves is counted of the site as it was
      pub next_counted : {n : ℕ} → n ≡ length (left_of image r) → Counted (site_in count image₀) x n r.own.rows
      next_counted e =
          let same = filled_image (omega arith) in
          rw same.1 at (counted_of same.0 x h (rw known.left at e) known.full)

      -- its rows end at a small number
      pub next_small : first ≡ stored_start (site_in count image₀) → here + 2 * most_rows < 4294967296
      next_small e = omega (arith, e, f.near, h, few_semi_joins (few_predicates o), stored_start_limit (site_in count image₀) o.proper)

    module _ (h : x ≡ count * (count * kind_count)) where
      whole : take x all ≡ all
      whole = take_all x all (rw (length_all_of o, h) (le_refl _))

      pub filled-written : image ≡ sets image₀ (vp_entry_at count) (semi_join_entries t first all)
      filled-written = rw whole at f.written

      pub filled_used : first ≡ stored_start (site_in count image₀) → here ≡ length (layout t (site_in count image₀))
      unfolding layout
      filled_used e = f.used ∙ rw (whole, e) (layout_used t (site_in count image₀))

  -- every entry is written, and then the front: the image of the same site, with the counts of its semi-joins
  module _ (t first : ℕ) (front : List ℕ) (short : length front ≤ 3) where
    abbrev entered : List ℕ
    entered = sets image₀ (vp_entry_at count) (semi_join_entries t first all)

    length-entered : length (semi_join_entries t first all) ≡ 2 * (count * (count * kind_count))
    length-entered = length_entries_of t first all ∙ ap (λ (k : ℕ). 2 * k) (length_all_of o)

    image_entered : ImageOf count entered × (site_in count entered ≡ site_in count image₀)
    image_entered = image_unchanged o (vp_entry_at count) (semi_join_entries t first all) (inr (omega arith)) (omega (arith, length-entered))

    pub image_fronted : ImageOf count (sets entered 0 front) × (site_in count (sets entered 0 front) ≡ site_in count image₀)
    image_fronted =
        let x = image_unchanged image_entered.0 0 front (inl (omega arith)) (omega arith) in
        (x.0, x.1 ∙ image_entered.1)

    entry-count : (x : ℕ) → x < count * (count * kind_count) → get_or entered (vp_entry_at count + 2 * x) 0 ≡ length (reduced_at (site_in count image₀) x).rows
    entry-count x h =
        let es = semi_join_entries t first all in
        let n = length-entered in
        let few = few_predicates o in
        let fewer = few_semi_joins few in
        let inside = entries_inside o in
        let entry = entry_block (stored_rows t) (semi_join_entry t) 2 (λ here r. refl) first (element_block no_reduced all x (rw (length_all_of o) h)) in
        get_or_block (sets_block image₀ (vp_entry_at count) es (omega arith)) (2 * x) 0 (omega arith)
        ∙ rw (semi_join-entries t first all) (head_block entry 0)

    pub counts_fronted : CountsIn count (sets entered 0 front)
    counts_fronted = record {
      counts = λ x h. get_or-sets entered 0 front (vp_entry_at count + 2 * x) 0 (omega arith) ∙ rw image_fronted.1 (entry-count x h);
    }

-- ---- the rows in the store

-- the entry of a semi-join has counted the rows that it leaves
pub counted_in : {count : ℕ} {image : List ℕ} → ImageOf count image → CountsIn count image → {x n : ℕ} {r : SemiJoin} → x < count * (count * kind_count)
    → SemiJoinOf (site_in count image) image x r → n ≡ get_or image (vp_entry_at count + 2 * x) 0 → Counted (site_in count image) x n r.own.rows
counted_in o counts {x = x} h known read = counted_of o x h (read ∙ counts.counts x h) known.full

-- it is one of the site
pub join_inside : {count : ℕ} {image : List ℕ} → ImageOf count image → {x : ℕ} → x < count * (count * kind_count) → x < length (semi_joins (site_in count image))
join_inside o h = rw (length_all_of o) h

-- the rows of the stored tables of x semi-joins are written, from `first` up to `next`
pub record Stored (t first : ℕ) (xs : List Reduced) (store₀ store : List ℕ) (next x : ℕ) : Type 0 where
  pub written : store ≡ sets store₀ first (stored_words t (take x xs))
  pub used : next ≡ first + length (stored_words t (take x xs))

pub stored_none : (t first : ℕ) (xs : List Reduced) (store : List ℕ) → Stored t first xs store store first 0
stored_none t first xs store = record { written = refl; used = omega arith }

module _ {t first next x : ℕ} {xs : List Reduced} {store₀ store : List ℕ} (s : Stored t first xs store₀ store next x) (h : x < length xs) where
  pub stored_more : (b : Bool) → b ≡ is_stored_table t (get_or xs x no_reduced)
      → Stored t first xs store₀ (sets store next (table_words (left_if b xs x))) (cond b (next + 2 * length (get_or xs x no_reduced).rows) next) (x + 1)
  stored_more b e = record {
    written = rw (stored-take t xs x h b e, s.written, s.used) (sym (sets-append store₀ first (stored_words t (take x xs)) (table_words (left_if b xs x))));
    used = used_take t xs x h b e first next s.used;
  }

  -- there is room for the next rows where there is for all
  pub stored_room : true ≡ is_stored_table t (get_or xs x no_reduced) → first + length (stored_words t xs) ≤ length store₀
      → next + 2 * length (get_or xs x no_reduced).rows ≤ length store
  stored_room e room =
      let m = stored_more true e in
      let n = length-append (stored_words t (take (x + 1) xs)) (stored_words t (drop (x + 1) xs)) in
      let split : stored_words t xs ≡ stored_words t (take (x + 1) xs) ++ stored_words t (drop (x + 1) xs) =
      ap (stored_words t) (sym (take-append-drop (x + 1) xs)) ∙ concat_map-append (λ (r : Reduced). table_words (stored_rows t r)) (take (x + 1) xs) (drop (x + 1) xs) in
      rw (s.written, length-sets) (omega (arith, m.used, ap length split))

pub stored-all : {t first next x : ℕ} {xs : List Reduced} {store₀ store : List ℕ} → Stored t first xs store₀ store next x → x ≡ length xs
    → store ≡ sets store₀ first (stored_words t xs)
stored-all {x = x} {xs = xs} s h = rw (take_all x xs (rw h (le_refl (length xs)))) at s.written
