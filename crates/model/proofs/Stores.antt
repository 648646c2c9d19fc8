-- The decoder of a store: it answers exactly where question 10 is yes, with that site and threshold.
use Prim.Native.Nat.{ℕ, ◌+◌, ◌*◌, ◌≤◌, ◌<◌}
use native.Mathlib.Omega.{arith}
use native.Mathlib.Nat.{min-eq_left, add-zero}
use mathlib.Core.Path.{◌≡◌, refl, sym, ap, ◌∙◌, subst}
use mathlib.Core.Bool.{Bool, true, false, cond, ◌&&◌, false≢true}
use mathlib.Core.Option.{none, some}
use mathlib.Core.List.{List, [], ◌∷◌, ◌++◌, append_assoc}
use lib.ListN.{length, get_or, take, drop, take-append-drop, get_or-append}
use lib.Seq.{take_at, drop_at}
use lib.Dec.{eqb, leb}
use borrow.Author.Tests.{eqb-true, leb-true, le-leb, eq-eqb}
use Rattle.model.specs.SiteFile.{declarations}
use Rattle.model.specs.Lists.{same_words}
use Rattle.model.specs.Site.{Row, Site, row_total, most_rows, is_site}
use Rattle.model.specs.Tables.{most_threshold}
use Rattle.model.specs.Store.{table_words, vp_entries, vp_words, rows_start, layout, words_used, Holds, Store, store_at, rows_in, tables_in, decoded, is_store_of_under, is_store_of, store_of_under, store_of}
use Rattle.model.proofs.Booleans.{and_cases, and_make}
use Rattle.model.proofs.Partition.{proper}
use Rattle.model.proofs.Blocks.{longer_block, drop_block}
use Rattle.model.proofs.StoreLayout.{length-table, length-layout, layout_used, vp_entries_block, vp_words_block, vp-entry}

-- ---- general

pub same-words : (xs ys : List ℕ) → same_words xs ys ≡ true → xs ≡ ys
same-words [] [] e = refl
same-words [] (y ∷ ys) e = absurd (false≢true e)
same-words (x ∷ xs) [] e = absurd (false≢true e)
same-words (x ∷ xs) (y ∷ ys) e =
    let s = and_cases (eqb x y) (same_words xs ys) e in
    let p = eqb-true x y s.0 in
    let q = same-words xs ys s.1 in
    cc

pub words_same : (xs : List ℕ) → same_words xs xs ≡ true
words_same [] = refl
words_same (x ∷ xs) = and_make (eq-eqb x x refl) (words_same xs)

pub cond_some : {A : Type 0} (b : Bool) (x y : A) → cond b (some x) none ≡ some y → (b ≡ true) × (x ≡ y)
cond_some true x y e = (refl, cc)
cond_some false x y e = (cc, cc)

-- ---- what is decoded gives the words

pub store_sound : (words : List ℕ) (store : Store) → store_of words ≡ some store → Holds words store.threshold store.site
unfolding store_of_under is_store_of_under
store_sound words store e =
    let x = cond_some (is_store_of (decoded words) words) (decoded words) store e in
    let s = decoded words in
    let y = and_cases (leb s.threshold most_threshold && is_site s.site) (same_words (take (words_used words) words) (layout s.threshold s.site)) x.0 in
    let z = and_cases (leb s.threshold most_threshold) (is_site s.site) y.0 in
    subst (λ (s : Store). Holds words s.threshold s.site) x.1
    (record { threshold = leb-true s.threshold most_threshold z.0; proper = z.1; same = same-words _ _ y.1 })

-- ---- the words of a site decode to it

pub rows_back : (rows : List Row) (rest : List ℕ) → rows_in (length rows) (table_words rows ++ rest) ≡ rows
rows_back [] rest = refl
rows_back (r ∷ rs) rest = ap (λ (l : List Row). r ∷ l) (rows_back rs rest)

pub tables_back : (here : ℕ) (site : Site) (more rest : List ℕ) → row_total site ≤ most_rows → tables_in (length site) (vp_entries here (declarations site) ++ more) (vp_words site ++ rest) ≡ site
unfolding tables_in
tables_back here [] more rest h = refl
tables_back here (t ∷ ts) more rest h =
    let few : length t.rows ≤ most_rows = omega arith in
    rw (
      min-eq_left few,
      append_assoc (table_words t.rows) (vp_words ts) rest,
      rows_back t.rows (vp_words ts ++ rest),
      drop_at (table_words t.rows) (vp_words ts ++ rest) (2 * length t.rows) (length-table t.rows),
    )
    (ap (λ (l : Site). t ∷ l) (tables_back (here + 2 * length t.rows) ts more rest (omega arith)))

-- the first three words
pub first-words : (t : ℕ) (site : Site) (rest : List ℕ)
    → (get_or (layout t site ++ rest) 0 0 ≡ length site) × (get_or (layout t site ++ rest) 1 0 ≡ t) × (words_used (layout t site ++ rest) ≡ words_used (layout t site))
unfolding layout
first-words t site rest = (refl, refl, refl)

decoded_back : (t : ℕ) (site : Site) (rest : List ℕ) → is_site site ≡ true → decoded (layout t site ++ rest) ≡ store_at t site
unfolding decoded
decoded_back t site rest h =
    let f = first-words t site rest in
    let s = proper site h in
    let es = longer_block (vp_entries_block t site) rest in
    let rs = longer_block (vp_words_block t site) rest in
    rw (f.0, f.1, min-eq_left s.predicate_limit, drop_block es, drop_block rs, tables_back (rows_start (length site)) site es.after rs.after s.row_limit) refl

pub built_holds : (t : ℕ) (site : Site) (rest : List ℕ) → t ≤ most_threshold → is_site site ≡ true → Holds (layout t site ++ rest) t site
built_holds t site rest h e = record {
  threshold = h;
  proper = e;
  same = take_at (layout t site) rest (words_used (layout t site ++ rest)) (sym ((first-words t site rest).2 ∙ layout_used t site));
}

-- the rows of the first table begin behind the entries
pub first-start : (words : List ℕ) (t : ℕ) (site : Site) → Holds words t site → 1 ≤ get_or words 0 0 → get_or words 5 0 ≡ rows_start (get_or words 0 0)
first-start words t site h nonempty = rw (w, (first-words t site rest).0) first
  where
    rest : List ℕ
    rest = drop (words_used words) words

    w : words ≡ layout t site ++ rest
    w = sym (take-append-drop (words_used words) words) ∙ ap (λ (x : List ℕ). x ++ rest) h.same

    among : 0 < length site
    among = omega (arith, sym (ap (λ (x : List ℕ). get_or x 0 0) w ∙ (first-words t site rest).0))

    first : get_or (layout t site ++ rest) 5 0 ≡ rows_start (length site)
    first =
        get_or-append (layout t site) rest 0 5 (omega (arith, among, length-layout t site)) ∙ (vp-entry t site 0 among).start ∙ add-zero (rows_start (length site))

pub store_complete : (words : List ℕ) (t : ℕ) (site : Site) → Holds words t site → store_of words ≡ some (store_at t site)
unfolding store_of_under is_store_of_under
store_complete words t site h =
    let used = words_used words in
    let w : words ≡ layout t site ++ drop used words = sym (take-append-drop used words) ∙ ap (λ (x : List ℕ). x ++ drop used words) h.same in
    let d = ap decoded w ∙ decoded_back t site (drop used words) h.proper in
    rw (d, h.proper, le-leb t most_threshold h.threshold, h.same, words_same (layout t site)) refl
