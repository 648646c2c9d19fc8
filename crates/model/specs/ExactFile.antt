-- What is promised of a file: of its reader and its writer, and of the test that says what is proper.
use Rattle.std.specs.Prelude.{ℕ, ◌≡◌, Bool, true, List}
use Rattle.model.specs.Reader.{Reply, gives}
use Rattle.model.specs.Numbers.{are_bytes}

-- what is read is proper; what is written is bytes and is read back; an accepted file is what is written for what was read
abbrev pub FileIsExact : {A : Type 0} → (List ℕ → Reply A) → (A → List ℕ) → (A → Bool) → Type 0
FileIsExact {A} read write is_proper =
    ((bytes : List ℕ) (x : A) → read bytes ≡ gives x → is_proper x ≡ true)
    × ((x : A) → is_proper x ≡ true → (are_bytes (write x) ≡ true) × (read (write x) ≡ gives x))
    × ((bytes : List ℕ) (x : A) → are_bytes bytes ≡ true → read bytes ≡ gives x → bytes ≡ write x)
