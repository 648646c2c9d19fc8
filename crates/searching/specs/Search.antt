-- Words that ascend, some apart, and where a value stands among them.
use Rattle.std.specs.Prelude.{ℕ, ◌+◌, ◌*◌, ◌≤◌, ◌<◌, Bool, List, length, get_or, eqb}
use Rattle.model.specs.Lists.{any, below}

module _ (words : List ℕ) (base stride : ℕ) where
  -- the i-th of the words that stand `stride` apart, from `base` on
  abbrev pub word_at : ℕ → ℕ
  word_at i = get_or words (base + stride * i) 0

  -- n of them ascend
  abbrev pub Ascending : ℕ → Type 0
  Ascending n = (i j : ℕ) → i ≤ j → j < n → word_at i ≤ word_at j

  -- n of them stand in the list, and ascend
  pub record SortedRun (n : ℕ) : Type 0 where
    pub spaced : 0 < stride
    pub inside : base + stride * n ≤ length words
    pub ascending : Ascending n

  -- the first r of n are below a value
  pub record FirstBelow (n value r : ℕ) : Type 0 where
    pub within : r ≤ n
    pub lower : (i : ℕ) → i < r → word_at i < value

  -- they are, and the others are not
  pub record IsLowerBound (n value r : ℕ) : Type 0 where
    pub within : r ≤ n
    pub lower : (i : ℕ) → i < r → word_at i < value
    pub others : (i : ℕ) → r ≤ i → i < n → value ≤ word_at i

  -- one of n has a value
  unfoldable pub has_word : ℕ → ℕ → Bool
  has_word n value = any (λ i. eqb (word_at i) value) (below n)
