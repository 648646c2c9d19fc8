-- Bytes are taken from the front. A reader is given bytes and hands on a value and the bytes after it, or the number of the
-- question that is answered no; the order of its lines is the order of the questions.
use Rattle.std.specs.Prelude.{ℕ, zero, suc, Bool, true, false, cond, List, [], ◌∷◌, ◌++◌}
use Rattle.model.specs.Lists.{is_empty}

-- a value, or a refusal's number
pub data Reply (A : Type 0) : Type 0 where
  refused : ℕ → Reply A
  gives : A → Reply A

abbrev pub Reader : Type 0 → Type 0
Reader A = List ℕ → Reply (A × List ℕ)

infixl 20 ◌>>=◌
infixl 20 ◌>>◌
module _ {A B : Type 0} where
  -- the next reader, where the one before it did not refuse
  unfoldable pub after : Reply (A × List ℕ) → (A → Reader B) → Reply (B × List ℕ)
  after (refused n) next = refused n
  after (gives x) next = next x.0 x.1

  abbrev pub ◌>>=◌ : Reader A → (A → Reader B) → Reader B
  ◌>>=◌ reader next = λ bytes. after (reader bytes) next

  abbrev pub ◌>>◌ : Reader A → Reader B → Reader B
  ◌>>◌ reader next = λ bytes. after (reader bytes) (λ _. next)

abbrev pub return : {A : Type 0} → A → Reader A
return a = λ bytes. gives (a, bytes)

module _ {A : Type 0} where
  -- no byte is left, or refusal n
  abbrev pub all_read : ℕ → Reply (A × List ℕ) → Reply A
  all_read n (refused m) = refused m
  all_read n (gives x) = cond (is_empty x.1) (gives x.0) (refused n)

  -- what the reader gives of a file that ends there
  unfoldable pub whole_file : ℕ → Reader A → List ℕ → Reply A
  whole_file n reader bytes = all_read n (reader bytes)

  -- k more elements; each is read with those before it in view
  unfoldable pub repeated : (List A → Reader A) → ℕ → List A → Reader (List A)
  repeated one zero done = return done
  repeated one (suc k) done = do
    x ← one done
    repeated one k (done ++ x ∷ [])

-- the question passes, or refusal n
unfoldable pub ask : ℕ → Bool → Reader (Unit {0})
ask n true = λ bytes. gives (tt, bytes)
ask n false = λ bytes. refused n
