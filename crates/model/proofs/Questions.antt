-- How a reader comes to refuse: the first of its questions that is answered no, and the first of its elements that is refused.
use Prim.Native.Nat.{ℕ, zero, suc, ◌+◌, ◌-◌, ◌<◌}
use native.Mathlib.Omega.{arith}
use mathlib.Core.Path.{◌≡◌, refl, sym, ap, ◌∙◌}
use mathlib.Core.Logic.{◌↔◌}
use mathlib.Core.Bool.{Bool, true, false}
use mathlib.Core.Option.{Option, none, some}
use mathlib.Core.List.{List, [], ◌∷◌, ◌++◌, append-nil}
use lib.ListN.{length, drop}
use lib.Seq.{append_snoc}
use Rattle.model.specs.Reader.{Reply, refused, gives, Reader, after, ask, all_read, whole_file, repeated}
use Rattle.model.specs.Numbers.{Sized, number_in, or_refused, number_under, number}
use Rattle.model.specs.Questions.{NoNumber, Begins, FirstRefused}
use Rattle.model.proofs.Readers.{refused≢gives, Asks, PartRead, next_refused}

-- ---- one question

pub gives≢refused : {A X : Type 0} {n : ℕ} {a : A} → gives a ≡ refused n → X
gives≢refused h = refused≢gives (sym h)

pub same_number : {A B : Type 0} {m n : ℕ} → ◌≡◌ {A = Reply A} (refused m) (refused n) → ◌≡◌ {A = Reply B} (refused m) (refused n)
same_number {m} {n} h = let e : m ≡ n = cc in ap refused e

-- the number stands there
pub begins : (n : ℕ) {bytes rest : List ℕ} {v : ℕ} → Begins bytes v rest → number n bytes ≡ gives (v, rest)
unfolding number_under
begins n b = rw (b.front, b.behind) refl

-- it does not
pub no_number : (n : ℕ) (bytes : List ℕ) → NoNumber bytes → number n bytes ≡ refused n
unfolding number_under
no_number n bytes h = rw h refl

-- a question behind which nothing is read
pub by_last : (P : ℕ → Type 0) {n : ℕ} (own : ℕ) (b : Bool) (bytes : List ℕ) → ask own b bytes ≡ refused n → (b ≡ false → P own) → P n
unfolding ask
by_last P {n} own true bytes h f = gives≢refused h
by_last P {n} own false bytes h f = let same : n ≡ own = cc in rw same (f refl)

module _ (P : ℕ → Type 0) {B : Type 0} {n : ℕ} where
  -- one of two readers, one behind the other
  pub by_first : {A : Type 0} (x : Reply (A × List ℕ)) (next : A → Reader B) → after x next ≡ refused n
      → (x ≡ refused n → P n) → ((a : A) (rest : List ℕ) → x ≡ gives (a, rest) → next a rest ≡ refused n → P n) → P n
  unfolding after
  by_first (refused m) next h f g = f (same_number h)
  by_first (gives x) next h f g = g x.0 x.1 refl h

  -- a number's own form is questioned first
  pub by_number : (own : ℕ) (bytes : List ℕ) (next : ℕ → Reader B) → after (number own bytes) next ≡ refused n
      → (NoNumber bytes → P own) → ((v : ℕ) (rest : List ℕ) → Begins bytes v rest → next v rest ≡ refused n → P n) → P n
  unfolding after number_under
  by_number own bytes next h f g = go (number_in bytes) refl h
    where
      go : (x : Option Sized) → number_in bytes ≡ x → after (or_refused own bytes x) next ≡ refused n → P n
      go none e h = let same : n ≡ own = cc in rw same (f e)
      go (some x) e h = g x.0 (drop x.1 bytes) (record { size = x.1; front = e; behind = refl }) h

  -- then its field
  pub by_ask : (own : ℕ) (b : Bool) (bytes : List ℕ) (next : Unit {0} → Reader B) → after (ask own b bytes) next ≡ refused n
      → (b ≡ false → P own) → (b ≡ true → next tt bytes ≡ refused n → P n) → P n
  unfolding after ask
  by_ask own true bytes next h f g = g refl h
  by_ask own false bytes next h f g = let same : n ≡ own = cc in rw same (f refl)

  pub by_question_of : {question : Reader (Unit {0})} {b : Bool} → Asks question b → (bytes : List ℕ) (next : Unit {0} → Reader B)
      → after (question bytes) next ≡ refused n → (question bytes ≡ refused n → P n) → (b ≡ true → next tt bytes ≡ refused n → P n) → P n
  unfolding after ask
  by_question_of {question} {b} asks bytes next h f g = go b refl (asks.as_ask bytes)
    where
      go : (c : Bool) → b ≡ c → (m : ℕ) × (question bytes ≡ ask m b bytes) → P n
      go true e (m, q) = g e (rw (q, e) at h)
      go false e (m, q) = f (rw (q, e) (same_number (rw (q, e) at h)))

-- ---- a whole file

-- what the reader refuses, or bytes that are left
module _ {A : Type 0} (own : ℕ) (reader : Reader A) (bytes : List ℕ) where
  pub by_file : (P : ℕ → Type 0) {n : ℕ} → whole_file own reader bytes ≡ refused n
      → (reader bytes ≡ refused n → P n) → ((x : A) (b : ℕ) (rest : List ℕ) → reader bytes ≡ gives (x, b ∷ rest) → P own) → P n
  unfolding whole_file
  by_file P {n} h f g = go (reader bytes) refl h
    where
      go : (x : Reply (A × List ℕ)) → reader bytes ≡ x → all_read own x ≡ refused n → P n
      go (refused m) e h = f (e ∙ same_number h)
      go (gives (x, [])) e h = gives≢refused h
      go (gives (x, b ∷ rest)) e h = let same : n ≡ own = cc in rw same (g x b rest e)

  pub reader_refused : {n : ℕ} → reader bytes ≡ refused n → whole_file own reader bytes ≡ refused n
  unfolding whole_file
  reader_refused h = rw h refl

  pub bytes_left : {x : A} {b : ℕ} {rest : List ℕ} → reader bytes ≡ gives (x, b ∷ rest) → whole_file own reader bytes ≡ refused own
  unfolding whole_file
  bytes_left h = rw h refl

-- ---- elements

module _ {A : Type 0} (one : List A → Reader A) where
  repeated_split : (j k : ℕ) (done : List A) (bytes : List ℕ) → repeated one (j + k) done bytes ≡ after (repeated one j done bytes) (λ xs. repeated one k xs)
  unfolding repeated after
  repeated_split zero k done bytes = let none : 0 + k ≡ k = omega arith in rw none refl
  repeated_split (suc j) k done bytes = let less : suc j + k ≡ suc (j + k) = omega arith in rw less (go (one done bytes) λ x rest. repeated_split j k (done ++ x ∷ []) rest)
    where
      go : (r : Reply (A × List ℕ))
          → ((x : A) (rest : List ℕ) → repeated one (j + k) (done ++ x ∷ []) rest ≡ after (repeated one j (done ++ x ∷ []) rest) (λ xs. repeated one k xs))
          → after r (λ x. repeated one (j + k) (done ++ x ∷ [])) ≡ after (after r (λ x. repeated one j (done ++ x ∷ []))) (λ xs. repeated one k xs)
      go (refused n) h = refl
      go (gives x) h = h x.0 x.1

  -- behind those done
  record NextRefused (k : ℕ) (done : List A) (bytes : List ℕ) (n : ℕ) : Type 0 where
    more : List A
    rest : List ℕ
    fewer : length more < k
    read : repeated one (length more) done bytes ≡ gives (done ++ more, rest)
    refusal : one (done ++ more) rest ≡ refused n

  next_refusal : (k : ℕ) (done : List A) (bytes : List ℕ) {n : ℕ} → repeated one k done bytes ≡ refused n → NextRefused k done bytes n
  unfolding repeated after
  next_refusal zero done bytes h = gives≢refused h
  next_refusal (suc k) done bytes {n} h =
      by_first (NextRefused (suc k) done bytes) (one done bytes) _ h
      (λ e. record { more = []; rest = bytes; fewer = omega arith; read = rw append-nil refl; refusal = rw append-nil e })
      λ x rest e later.
      let r = next_refusal k (done ++ x ∷ []) rest later in
      let same = append_snoc done x r.more in
      let l = r.fewer in
      record { more = x ∷ r.more; rest = r.rest; fewer = omega arith; read = rw (e, ← same) r.read; refusal = rw (← same) r.refusal }

  -- elements are refused with the number of the first that is
  pub first_refused : (IsRefused : List A → List ℕ → ℕ → Type 0) → ((done : List A) (bytes : List ℕ) (n : ℕ) → (one done bytes ≡ refused n) ↔ IsRefused done bytes n)
      → (k : ℕ) (bytes : List ℕ) (n : ℕ) → (repeated one k [] bytes ≡ refused n) ↔ FirstRefused one IsRefused k bytes n
  unfolding after
  first_refused IsRefused exactly k bytes n = (
    (λ h. let r = next_refusal k [] bytes h in
        record { before = r.more; rest = r.rest; fewer = r.fewer; read = r.read; refusal = (exactly r.more r.rest n).0 r.refusal }),
    λ r. next_refused (part r) r.fewer ((exactly r.before r.rest n).1 r.refusal),
  )
    where
      part : (r : FirstRefused one IsRefused k bytes n) → PartRead one k bytes r.before r.rest
      part r =
          let l = r.fewer in
          let left = k - length r.before in
          let e : k ≡ length r.before + left = omega arith in
          record { left = left; count = omega arith; same = ap (λ m. repeated one m [] bytes) e ∙ repeated_split (length r.before) left [] bytes ∙ rw r.read refl }
