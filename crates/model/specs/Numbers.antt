-- A number is 1 to 4 bytes, seven bits each, low group first; the top bit is set in all bytes but its last. It is in shortest
-- form: a last byte of 00 stands only alone. Readers are defined under any limits, and named for those in force.
use Rattle.std.specs.Prelude.{ℕ, zero, suc, ◌+◌, ◌-◌, ◌*◌, ◌/◌, ◌%◌, ◌^◌, Bool, true, false, cond, ◌||◌, not, List, [], ◌∷◌, drop, eqb, ltb, leb}
use Rattle.std.proofs.Math.Option.{Option, none, some}
use Rattle.model.specs.Lists.{all}
use Rattle.model.specs.Reader.{Reply, refused, gives, Reader}

-- the most bytes of a number, and the greatest term
pub record Limits : Type 0 where
  pub bytes : ℕ
  pub term : ℕ

-- the most bytes of a number
abbrev pub most_number_bytes : ℕ
most_number_bytes = 4

-- the greatest term: radio serials have 24 bits
abbrev pub most_term : ℕ
most_term = 16777215

-- those of S-9
abbrev pub limits_in_force : Limits
limits_in_force = record { bytes = most_number_bytes; term = most_term }

-- those of document 01, in force before
abbrev pub limits_of_01 : Limits
limits_of_01 = record { bytes = 3; term = 65535 }

abbrev pub is_term_under : Limits → ℕ → Bool
is_term_under limits t = leb t limits.term

abbrev pub is_term : ℕ → Bool
is_term t = is_term_under limits_in_force t

-- each is a byte
abbrev pub are_bytes : List ℕ → Bool
are_bytes bytes = all (λ b. ltb b 256) bytes

-- a number's value, and how many bytes it takes
abbrev pub Sized : Type 0
Sized = ℕ × ℕ

-- a last byte: 00 stands only alone
abbrev pub last_group : Bool → ℕ → Option Sized
last_group alone b = cond (alone || not (eqb b 0)) (some (b, 1)) none

-- a byte with its top bit set, below the groups that follow
abbrev pub low_group : ℕ → Option Sized → Option Sized
low_group b none = none
low_group b (some x) = some (b - 128 + 128 * x.0, suc x.1)

-- the number of at most k bytes at the front, none where it is not whole or not in shortest form; `alone`: no byte of it stands before
unfoldable pub number_within : ℕ → Bool → List ℕ → Option Sized
number_within zero alone bytes = none
number_within (suc k) alone [] = none
number_within (suc k) alone (b ∷ bs) = cond (ltb b 128) (last_group alone b) (low_group b (number_within k false bs))

unfoldable pub number_in_under : Limits → List ℕ → Option Sized
number_in_under limits bytes = number_within limits.bytes true bytes

abbrev pub number_in : List ℕ → Option Sized
number_in = number_in_under limits_in_force

abbrev pub or_refused : ℕ → List ℕ → Option Sized → Reply (ℕ × List ℕ)
or_refused n bytes none = refused n
or_refused n bytes (some x) = gives (x.0, drop x.1 bytes)

-- a number, or refusal n
unfoldable pub number_under : Limits → ℕ → Reader ℕ
number_under limits n bytes = or_refused n bytes (number_in_under limits bytes)

abbrev pub number : ℕ → Reader ℕ
number = number_under limits_in_force

-- ---- the writer

-- numbers are below this
abbrev pub number_limit : ℕ
number_limit = 128 ^ most_number_bytes

unfoldable pub bytes_within : ℕ → ℕ → List ℕ
bytes_within zero n = []
bytes_within (suc k) n = cond (ltb n 128) (n ∷ []) ((128 + n % 128) ∷ bytes_within k (n / 128))

-- what is written for a number
unfoldable pub number_bytes : ℕ → List ℕ
number_bytes n = bytes_within most_number_bytes n
