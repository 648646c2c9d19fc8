-- What the decoder gives of words that are a store: the words whole, their first three, and that they are inside.
use Prim.Native.Nat.{ℕ, ◌≤◌}
use native.Mathlib.Omega.{arith}
use mathlib.Core.Path.{◌≡◌, sym, ap, ◌∙◌}
use mathlib.Core.Bool.{true, ◌&&◌}
use mathlib.Core.List.{List, ◌++◌}
use lib.ListN.{length, get_or, take, drop, length-take, take-append-drop}
use lib.Dec.{leb}
use borrow.Author.Tests.{leb-true, le-leb}
use Rattle.model.specs.Lists.{same_words}
use Rattle.model.specs.Site.{Site, is_site}
use Rattle.model.specs.Tables.{most_threshold}
use Rattle.model.specs.Store.{layout, words_used, Holds, decoded, is_store_of_under, is_store_of}
use Rattle.model.proofs.Booleans.{and_cases, and_make}
use Rattle.model.proofs.StoreLayout.{layout_used}
use Rattle.model.proofs.Stores.{same-words, words_same, first-words}

abbrev pub site_of : List ℕ → Site
site_of w = (decoded w).site

abbrev pub threshold_of : List ℕ → ℕ
threshold_of w = get_or w 1 0

pub store_holds : (w : List ℕ) → is_store_of (decoded w) w ≡ true → Holds w (threshold_of w) (site_of w)
unfolding is_store_of_under decoded
store_holds w e =
    let t = threshold_of w in
    let whole = and_cases (leb t most_threshold && is_site (site_of w)) (same_words (take (words_used w) w) (layout t (site_of w))) e in
    let limits = and_cases (leb t most_threshold) (is_site (site_of w)) whole.0 in
    record { threshold = leb-true t most_threshold limits.0; proper = limits.1; same = same-words _ _ whole.1 }

pub holds_store : (w : List ℕ) → Holds w (threshold_of w) (site_of w) → is_store_of (decoded w) w ≡ true
unfolding is_store_of_under decoded
holds_store w h =
    and_make (and_make (le-leb (threshold_of w) most_threshold h.threshold) h.proper) (rw h.same (words_same (layout (threshold_of w) (site_of w))))

module _ {w : List ℕ} {t : ℕ} {site : Site} (h : Holds w t site) where
  pub store_whole : w ≡ layout t site ++ drop (words_used w) w
  store_whole = sym (take-append-drop (words_used w) w) ∙ ap (λ (m : List ℕ). m ++ drop (words_used w) w) h.same

  pub store-predicates : get_or w 0 0 ≡ length site
  store-predicates = ap (λ (m : List ℕ). get_or m 0 0) store_whole ∙ (first-words t site _).0

  pub store_used : words_used w ≡ length (layout t site)
  store_used = ap words_used store_whole ∙ (first-words t site _).2 ∙ layout_used t site

  pub store_inside : words_used w ≤ length w
  store_inside = let e = length-take (words_used w) w in let f = ap length h.same in let g = store_used in omega arith
