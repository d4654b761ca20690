-- What the contract of `read_all` cites. Assumes nothing.
use Rattle.std.specs.Prelude.{ℕ, ◌<◌, List, length, take, Option}
use Rattle.std.specs.Io.KnownBytes.{Consumes, IsAtEnd}

-- the first n bytes of the room are the next that a reader had, and the last where they do not fill
-- it
abbrev pub Brings : Option (List ℕ) → Option (List ℕ) → ℕ → List ℕ → Type 0
Brings before after n room = Consumes before after (take n room) × (n < length room → IsAtEnd after)
