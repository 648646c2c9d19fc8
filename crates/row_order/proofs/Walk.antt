-- The walk over the rows of words, each beside the next one: what is known when k rows have been.
use Prim.Native.Nat.{ℕ, ◌+◌, ◌-◌, ◌*◌, ◌<◌, ◌≤◌}
use native.Mathlib.Omega.{arith}
use mathlib.Core.Path.{◌≡◌, refl, sym, ap, ◌∙◌}
use mathlib.Core.Logic.{◌⊎◌, ⊎_elim}
use mathlib.Core.Bool.{Bool, true, ◌&&◌}
use mathlib.Core.List.{List, ◌++◌}
use lib.ListN.{length, get_or, take, drop, length-append, length-drop, get_or-append}
use lib.Seq.{get_or-take, get_or-drop, length-take-le, take_all, drop-drop, drop-append_seam}
use borrow.Author.Tests.{leb-true}
use Rattle.model.specs.Lists.{all, ascends}
use Rattle.model.specs.Numbers.{most_term, is_term}
use Rattle.model.specs.Site.{row_before}
use Rattle.model.specs.Store.{rows_in}
use Rattle.model.proofs.Rows.{rows_at_lem}
use Rattle.row_order.proofs.Proper.{row_more, word_passes}

module _ (w : List ℕ) (start n : ℕ) where
  abbrev pub words : List ℕ
  words = take (2 * n) (drop start w)

  -- k rows have been, and the row behind each; those left stand in `own`, and the rows behind them in `next`
  pub record Walk (k : ℕ) (ascending : Bool) (own next : List ℕ) (own_size next_size : ℕ) : Type 0 where
    pub own_pairs : own_size ≡ 2
    pub next_pairs : next_size ≡ 2
    pub own_left : own ≡ drop (2 * k) words
    pub next_left : next ≡ drop (2 * k + 2) words
    pub more : k < n
    pub answer : ascending ≡ ascends row_before (rows_in (k + 1) (drop start w))

  module _ (inside : start + 2 * n ≤ length w) where
    pub length_words : length words ≡ 2 * n
    length_words = length-take-le (2 * n) (drop start w) (omega (arith, length-drop start w))

    pub walk_starts : 0 < n → Walk 0 true words (take (length words - 2) (drop 2 words)) 2 2
    walk_starts more = record {
      own_pairs = refl;
      next_pairs = refl;
      own_left = refl;
      next_left = take_all (length words - 2) (drop 2 words) (omega (arith, length-drop 2 words));
      more = more;
      answer = rw (rows_at_lem w start 0 0 (omega arith)) refl;
    }

    -- two words that stand in front of those left from place p on
    pub record Row (p : ℕ) (row left : List ℕ) : Type 0 where
      pub room : p + 2 ≤ 2 * n
      pub word : (j : ℕ) → j < 2 → get_or row j 0 ≡ get_or w (start + (p + j)) 0
      pub behind : left ≡ drop (p + 2) words

    pub row_of : {p size : ℕ} {row left from : List ℕ} → from ≡ drop p words → size ≡ 2 → from ≡ row ++ left → length row ≡ size → Row p row left
    row_of {p} {size} {row} {left} {from} place pairs split long =
        let two : length row ≡ 2 = long ∙ pairs in
        let e : drop p words ≡ row ++ left = sym place ∙ split in
        let room : p + 2 ≤ 2 * n = omega (arith, length_words, length-drop p words, ap length e, length-append row left, two) in
        record {
          room = room;
          word = λ j h.
              sym (get_or-append row left 0 j (omega (arith, two, h))) ∙ ap (λ (l : List ℕ). get_or l j 0) (sym e) ∙ get_or-drop p words j 0
              ∙ get_or-take (2 * n) (drop start w) (p + j) 0 (omega (arith, room, h)) ∙ get_or-drop start w (p + j) 0;
          behind = sym (drop-append_seam row left) ∙ ap (drop (length row)) (sym e) ∙ ap (λ (k : ℕ). drop k (drop p words)) two ∙ drop-drop 2 p words;
        }

    -- its words are terms
    pub term : {p : ℕ} {row left : List ℕ} → all is_term words ≡ true → Row p row left → (j : ℕ) → j < 2 → get_or row j 0 ≤ most_term
    term {p} terms row j h = rw (row.word j h) (leb-true _ _ (word_passes is_term w start (2 * n) (p + j) inside terms (omega (arith, row.room, h))))

    -- one row more
    pub walk_on : {k k' own_size next_size own_size' next_size' : ℕ} {ascending ascending' : Bool} {row next own left next_own next_left : List ℕ}
        → Walk k ascending own next_own own_size next_size → Row (2 * k) row left → Row (2 * k + 2) next next_left
        → own_size' ≡ own_size → next_size' ≡ next_size → k' ≡ k + 1
        → ascending' ≡ (ascending && row_before (get_or row 0 0, get_or row 1 0) (get_or next 0 0, get_or next 1 0))
        → Walk k' ascending' left next_left own_size' next_size'
    walk_on {k} {row = row} {next = next} walk one two a b count e =
        let i = k + 1 in
        let subject : start + (2 * k + 0) ≡ start + 2 * i - 2 = omega arith in
        let object : start + (2 * k + 1) ≡ start + 2 * i - 1 = omega arith in
        let subject' : start + (2 * k + 2 + 0) ≡ start + 2 * i = omega arith in
        let object' : start + (2 * k + 2 + 1) ≡ start + 2 * i + 1 = omega arith in
        let s : get_or row 0 0 ≡ get_or w (start + 2 * i - 2) 0 = one.word 0 (omega arith) ∙ ap (λ (x : ℕ). get_or w x 0) subject in
        let o : get_or row 1 0 ≡ get_or w (start + 2 * i - 1) 0 = one.word 1 (omega arith) ∙ ap (λ (x : ℕ). get_or w x 0) object in
        let t : get_or next 0 0 ≡ get_or w (start + 2 * i) 0 = two.word 0 (omega arith) ∙ ap (λ (x : ℕ). get_or w x 0) subject' in
        let p : get_or next 1 0 ≡ get_or w (start + 2 * i + 1) 0 = two.word 1 (omega arith) ∙ ap (λ (x : ℕ). get_or w x 0) object' in
        let place : 2 * (k + 1) ≡ 2 * k + 2 = omega arith in
        rw count
        (record {
          own_pairs = a ∙ walk.own_pairs;
          next_pairs = b ∙ walk.next_pairs;
          own_left = rw place one.behind;
          next_left = rw place two.behind;
          more = omega (arith, two.room);
          answer = rw (row_more w start i (omega arith) (omega (arith, inside, two.room)), e, s, o, t, p, walk.answer) refl;
        })

    -- where the one or the other has no row left, all rows have been
    pub walk_ends : {k own_size next_size : ℕ} {ascending : Bool} {own next : List ℕ} → Walk k ascending own next own_size next_size
        → (length own < own_size) ⊎ (length next < next_size) → ascending ≡ ascends row_before (rows_in n (drop start w))
    walk_ends {k} walk short =
        let last : k + 1 ≡ n = ⊎_elim
        (λ a. absurd (omega (arith, a, walk.own_pairs, ap length walk.own_left, length-drop (2 * k) words, length_words, walk.more)))
        (λ b. omega (arith, b, walk.next_pairs, ap length walk.next_left, length-drop (2 * k + 2) words, length_words, walk.more)) short in
        rw last at walk.answer
