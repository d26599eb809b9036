-- Which partition keeps an item.
use Rattle.std.specs.Prelude.{ℕ, ◌+◌, ◌%◌, List}
use Rattle.us_base.specs.Vector.{sum_of}

-- the partition, counted from 1, of an item with this space and id, where there are so many partitions
abbrev pub place_of : (parts space : ℕ) → (id : List ℕ) → ℕ
place_of parts space id = 1 + (space + sum_of id) % parts
