-- What is known of a read: no contract can say which bytes the system has put into the buffer.
use Rattle.std.specs.Prelude.{ℕ, ◌≤◌, List, length, Option, Some, None}

-- no more bytes are said to be read than the buffer has
abbrev pub InBuffer : List ℕ → Option ℕ → Type 0
InBuffer buffer (Some n) = n ≤ length buffer
InBuffer buffer None = Unit {0}
