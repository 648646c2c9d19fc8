-- The ways out of a row.
use Prim.Native.Nat.{ℕ}
use mathlib.Core.Path.{◌≡◌, refl, ◌∙◌}
use mathlib.Core.Bool.{true, false}
use mathlib.Core.List.{List, []}
use lib.ListN.{length, drop}
use Rattle.model.specs.Lists.{above_last}
use Rattle.model.specs.Reader.{refused, gives, Reader, ◌>>=◌, ◌>>◌, return, after, ask, repeated}
use Rattle.model.specs.Numbers.{is_term, number}
use Rattle.model.specs.Site.{Row, row_before}
use Rattle.model.specs.SiteFile.{row_under, row}
use Rattle.model.proofs.Readers.{repeated_read}
use Rattle.model.proofs.SiteFile.{rows_grow, row_reads}
use Rattle.site_elements.specs.Reading.{term}
use Rattle.site_elements.proofs.Terms.{term_then, number_refused, no_term, term_given}
use Rattle.numbers.specs.NumberAt.{number_at}
use Rattle.numbers.proofs.NumberReplies.{number_bad, number-value}
use Rattle.std.specs.Prelude.{Some, None}

module _ (done : List Row) (bytes : List ℕ) where
  -- what is read behind the terms
  abbrev placed : ℕ → ℕ → Reader Row
  placed v w = do
    ask 7 (above_last row_before done (v, w))
    return (v, w)

  abbrev behind_subject : ℕ → Reader Row
  behind_subject v = do
    w ← number 2
    ask 6 (is_term w)
    placed v w

  from_subject : row done bytes ≡ after (term 6 bytes) behind_subject
  unfolding row_under
  from_subject = term_then 6 behind_subject bytes

  pub subject_refused : {m : ℕ} → term 6 bytes ≡ refused m → row done bytes ≡ refused m
  unfolding after
  subject_refused e = from_subject ∙ rw e refl

  module _ {v : ℕ} {middle : List ℕ} (e : term 6 bytes ≡ gives (v, middle)) where
    from_object : row done bytes ≡ after (term 6 middle) (placed v)
    unfolding after
    from_object = from_subject ∙ rw e (term_then 6 (placed v) middle)

    pub object_refused : {m : ℕ} → term 6 middle ≡ refused m → row done bytes ≡ refused m
    unfolding after
    object_refused f = from_object ∙ rw f refl

    module _ {w : ℕ} {rest : List ℕ} (f : term 6 middle ≡ gives (w, rest)) where
      pub row_below : above_last row_before done (v, w) ≡ false → row done bytes ≡ refused 7
      unfolding after ask
      row_below a = from_object ∙ rw (f, a) refl

      pub row_given : above_last row_before done (v, w) ≡ true → row done bytes ≡ gives ((v, w), rest)
      unfolding after ask
      row_given a = from_object ∙ rw (f, a) refl

-- by the numbers that stand at places of some bytes
module _ (done : List Row) (s : List ℕ) (at : ℕ) where
  pub no_subject : number_at s at ≡ None → row done (drop at s) ≡ refused 2
  no_subject e = subject_refused done (drop at s) (number_refused 6 (drop at s) (number_bad 2 s at e))

  module _ {v middle : ℕ} (e : number_at s at ≡ Some (v, middle)) where
    pub wide_subject : is_term v ≡ false → row done (drop at s) ≡ refused 6
    wide_subject t = subject_refused done (drop at s) (no_term 6 (drop at s) (number-value 2 s at e) t)

    module _ (t : is_term v ≡ true) where
      subject_read : term 6 (drop at s) ≡ gives (v, drop middle s)
      subject_read = term_given 6 (drop at s) (number-value 2 s at e) t

      pub no_object : number_at s middle ≡ None → row done (drop at s) ≡ refused 2
      no_object f = object_refused done (drop at s) subject_read (number_refused 6 (drop middle s) (number_bad 2 s middle f))

      pub wide_object : {w next : ℕ} → number_at s middle ≡ Some (w, next) → is_term w ≡ false → row done (drop at s) ≡ refused 6
      wide_object f u = object_refused done (drop at s) subject_read (no_term 6 (drop middle s) (number-value 2 s middle f) u)

pub rows-count : (n : ℕ) (bytes : List ℕ) {rows : List Row} {rest : List ℕ} → repeated row n [] bytes ≡ gives (rows, rest) → length rows ≡ n
rows-count n bytes e = (repeated_read row_reads rows_grow n bytes e).0
