-- Items.
use Rattle.std.specs.Prelude.{Bool, ◌&&◌, ◌==◌}
use Rattle.us_kind.specs.Comparison.{bytes_eq}
use Rattle.us_value.specs.declared.item.Item.{Item}

-- the same item
abbrev pub item_eq : Item → Item → Bool
item_eq a b = (a.space == b.space) && bytes_eq a.id b.id
