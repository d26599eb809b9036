-- The words for kinds and classes of operations.
use Rattle.std.specs.Prelude.{ℕ, if◌then◌else◌, List, codes, Option, Some, None}
use Rattle.std.specs.Str.{bytes_eq}
use Rattle.toml.specs.Data.{Data, Items, no_items, item, as_str, as_array}
use Rattle.us_value.specs.declared.operation.Kind.{Kind}
use Rattle.us_value.specs.declared.operation.Kind.TheVariants as kind
use Rattle.us_value.specs.declared.operation.Class.{Class}
use Rattle.us_value.specs.declared.operation.Class.TheVariants as class
use Rattle.us_value.specs.Values.{kind_has}

abbrev pub kind_of_word : List ℕ → Option Kind
kind_of_word word =
    if bytes_eq word (codes "register") then Some kind.Register
    else if bytes_eq word (codes "counter") then Some kind.Counter
    else if bytes_eq word (codes "set") then Some kind.Set
    else if bytes_eq word (codes "flag") then Some kind.Flag
    else if bytes_eq word (codes "multi") then Some kind.Multi
    else None

abbrev pub class_of_word : List ℕ → Option Class
class_of_word word =
    if bytes_eq word (codes "read") then Some class.Read
    else if bytes_eq word (codes "write") then Some class.Write
    else if bytes_eq word (codes "give") then Some class.Give
    else if bytes_eq word (codes "take") then Some class.Take
    else if bytes_eq word (codes "add") then Some class.Add
    else if bytes_eq word (codes "remove") then Some class.Remove
    else if bytes_eq word (codes "enable") then Some class.Enable
    else if bytes_eq word (codes "disable") then Some class.Disable
    else None

-- the kind that a text names
abbrev pub kind_in : Option (List ℕ) → Option Kind
kind_in None = None
kind_in (Some word) = kind_of_word word

abbrev pub if_had : Kind → Option Class → Option Class
if_had kind None = None
if_had kind (Some class) = if kind_has kind class then Some class else None

-- the class that a text names, where the kind has it
abbrev pub class_for : Kind → Option (List ℕ) → Option Class
class_for kind None = None
class_for kind (Some word) = if_had kind (class_of_word word)

abbrev pub both : Option Class → Option Class → Option (Class × Class)
both (Some one) (Some other) = Some (one, other)
both _ _ = None

-- two classes of the kind
abbrev pub pair_in : Kind → Option Items → Option (Class × Class)
pair_in kind (Some (item one (item other no_items))) = both (class_for kind (as_str one)) (class_for kind (as_str other))
pair_in kind _ = None

-- the pair of classes of the kind that a value is
abbrev pub pair_for : Kind → Data → Option (Class × Class)
pair_for kind d = pair_in kind (as_array d)
