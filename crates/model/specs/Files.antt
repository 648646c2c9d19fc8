-- A file as the check program takes it: whole, or not at all. It is read into a buffer from the front, and a file that is longer is cut there.
use Rattle.std.specs.Prelude.{ℕ, zero, suc, cond, List, length, take, eqb, ℤ, pos, negsuc}

-- how many of the bytes read, by what the last read said. 0: the file has ended. Above 0: there may be more, so the bytes are taken only
-- where they fill the buffer. Below 0: the read failed, and the file counts as absent, so as empty
unfoldable pub taken_size : ℕ → ℕ → ℤ → ℕ
taken_size room size (pos zero) = size
taken_size room size (pos (suc n)) = cond (eqb size room) size 0
taken_size room size (negsuc n) = 0

-- what is taken of the file
abbrev pub taken : List ℕ → ℕ → ℤ → List ℕ
taken buffer size said = take (taken_size (length buffer) size said) buffer
