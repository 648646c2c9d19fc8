use Rattle.std.specs.Prelude.{ℕ, suc, ◌≤◌, ◌≡◌, List, length, ℤ, pos, negsuc}
use Rattle.files.specs.declared.reading.End.{End}
use Rattle.files.specs.declared.reading.End.TheVariants.{Reached, Unknown, Failed}
use Rattle.files.specs.declared.reading.Reading.{Reading}

-- how a reading ended, as the definitions number it
abbrev pub said : End → ℤ
said Reached = pos 0
said Unknown = pos 1
said Failed = negsuc 0

-- What was read of a file stands at the front of its buffer; where the file may go on, it fills the buffer. So a reader that stops before the
-- file has ended, and says so, keeps neither promise.
pub record IsRead (reading : Reading) (buffer : List ℕ) : Type 0 where
  pub inside : reading.size ≤ length buffer
  pub full : (n : ℕ) → said reading.end ≡ pos (suc n) → reading.size ≡ length buffer
