-- A number at a place of some bytes.
use Rattle.std.specs.Prelude.{ℕ, ◌+◌, List, drop, Option, Some, None}
use Rattle.std.proofs.Math.Option.{Option as Optional, none, some}
use Rattle.model.specs.Numbers.{Sized, number_in}

-- its value and the place after it
abbrev pub placed : ℕ → Optional Sized → Option (ℕ × ℕ)
placed at none = None
placed at (some x) = Some (x.0, at + x.1)

unfoldable pub number_at : List ℕ → ℕ → Option (ℕ × ℕ)
number_at s at = placed at (number_in (drop at s))
