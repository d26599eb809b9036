-- What a configuration says, key by key: what it means, and the faults in it.
use Rattle.std.specs.Prelude.{ℕ, zero, suc, ℤ, ◌+◌, ◌/◌, ◌==◌, not, ◌&&◌, Bool, true, false, if◌then◌else◌, List, [], ◌∷◌, ◌++◌, length, map, codes}
use Rattle.std.specs.Prelude.{Option, Some, None, is_some, unwrap_or}
use Rattle.std.specs.List.{list_any, list_all, filter_map}
use Rattle.std.specs.Fmt.{decimal}
use Rattle.std.specs.Str.{is_utf8}
use Rattle.toml.specs.Data.{Data, Items, Members, no_members, as_integer, as_str, as_array, as_table, get_member}
use Rattle.toml.specs.Parse.{parse_document}
use Rattle.us_base.specs.declared.shape.Shape.{Shape}
use Rattle.us_base.specs.Shape.{sites_of}
use Rattle.us_value.specs.declared.operation.Kind.{Kind}
use Rattle.us_value.specs.declared.operation.Kind.TheVariants.{Register}
use Rattle.us_value.specs.declared.operation.Class.{Class}
use Rattle.us_config.specs.declared.fault.Key.{Key}
use Rattle.us_config.specs.declared.fault.Key.TheVariants as key
use Rattle.us_config.specs.declared.fault.ConfigFault.TheVariants.{WrongValue}
use Rattle.us_config.specs.declared.node.NodePlan.{NodePlan}
use Rattle.us_config.specs.declared.space.Space.{Space}
use Rattle.us_config.specs.Address.{is_address_text}
use Rattle.us_config.specs.Checks.{Finding, found, unless, first_found, unknown_key, list_of, is_within, is_odd, limit_fault, whole_fault, natural}
use Rattle.us_config.specs.Checks.{number_or}
use Rattle.us_config.specs.Keywords.{kind_in, pair_for}

-- ---- sites and partitions

-- 1, 3, 5 or 7
abbrev pub is_count_of_sites : ℤ → Bool
is_count_of_sites z = is_within 1 7 z && is_odd z

abbrev pub shape_fault : Members → Option Finding
shape_fault ms = first_found
    (whole_fault key.Sites is_count_of_sites (get_member (codes "sites") ms)
    ∷ whole_fault key.Partitions (is_within 1 16) (get_member (codes "partitions") ms)
    ∷ [])

-- an odd number of sites leaves a majority when the lesser half is lost
abbrev pub shape_of : Members → Shape
shape_of ms = record { f = number_or 1 (get_member (codes "sites") ms) / 2; parts = number_or 1 (get_member (codes "partitions") ms) }

-- ---- spaces

-- the names of a space's keys
abbrev pub space_names : List (List ℕ)
space_names = codes "number" ∷ codes "kind" ∷ codes "conflicts" ∷ []

-- an earlier space has the number
abbrev pub is_taken : List Space → ℕ → Bool
is_taken earlier number = list_any (λ space. space.number == number) earlier

-- a number from 1 to 255, which no earlier space has
abbrev pub number_fault : List Space → Option Data → Option Finding
number_fault earlier None = found key.SpaceNumber WrongValue
number_fault earlier (Some d) = first_found
    (limit_fault key.SpaceNumber (is_within 1 255) (as_integer d)
    ∷ unless (not (is_taken earlier (natural (as_integer d)))) key.SpaceNumber WrongValue
    ∷ [])

-- the kind that a value names
abbrev pub kind_at : Option Data → Option Kind
kind_at None = None
kind_at (Some d) = kind_in (as_str d)

abbrev pub kind_fault : Option Data → Option Finding
kind_fault o = unless (is_some (kind_at o)) key.SpaceKind WrongValue

-- each item is a pair of classes of the kind
abbrev pub pairs_fault : Kind → Option Items → Option Finding
pairs_fault kind None = found key.SpaceConflicts WrongValue
pairs_fault kind (Some items) = unless (list_all (λ d. is_some (pair_for kind d)) (list_of items)) key.SpaceConflicts WrongValue

abbrev pub conflicts_fault : Kind → Option Data → Option Finding
conflicts_fault kind None = None
conflicts_fault kind (Some d) = pairs_fault kind (as_array d)

abbrev pub pairs_of : Kind → Option Items → List (Class × Class)
pairs_of kind None = []
pairs_of kind (Some items) = filter_map (pair_for kind) (list_of items)

abbrev pub conflicts_of : Kind → Option Data → List (Class × Class)
conflicts_of kind None = []
conflicts_of kind (Some d) = pairs_of kind (as_array d)

-- the kind of a space's table
abbrev pub kind_of : Members → Kind
kind_of ms = unwrap_or (kind_at (get_member (codes "kind") ms)) Register

abbrev pub table_fault : List Space → Members → Option Finding
table_fault earlier ms = first_found
    (unknown_key key.Space space_names ms
    ∷ number_fault earlier (get_member (codes "number") ms)
    ∷ kind_fault (get_member (codes "kind") ms)
    ∷ conflicts_fault (kind_of ms) (get_member (codes "conflicts") ms)
    ∷ [])

-- what is wrong with a space behind the earlier ones
abbrev pub space_fault : List Space → Option Members → Option Finding
space_fault earlier None = found key.Space WrongValue
space_fault earlier (Some ms) = table_fault earlier ms

abbrev pub space_of : Members → Space
space_of ms = record {
  number = number_or 0 (get_member (codes "number") ms);
  kind = kind_of ms;
  conflicts = conflicts_of (kind_of ms) (get_member (codes "conflicts") ms);
}

-- the table that a value is
abbrev pub table_in : Data → Members
table_in d = unwrap_or (as_table d) no_members

-- the faults of the spaces, in their order
abbrev pub each_fault : List Space → List Data → List (Option Finding)
each_fault earlier [] = []
each_fault earlier (d ∷ ds) = space_fault earlier (as_table d) ∷ each_fault (earlier ++ space_of (table_in d) ∷ []) ds

abbrev pub list_fault : Option Items → Option Finding
list_fault None = found key.Space WrongValue
list_fault (Some items) = first_found (each_fault [] (list_of items))

abbrev pub spaces_fault : Option Data → Option Finding
spaces_fault None = None
spaces_fault (Some d) = list_fault (as_array d)

-- without a space, space 1 holds registers
abbrev pub or_one_register : List Space → List Space
or_one_register [] = record { number = 1; kind = Register; conflicts = [] } ∷ []
or_one_register (space ∷ spaces) = space ∷ spaces

abbrev pub listed : Option Items → List Space
listed None = []
listed (Some items) = map (λ d. space_of (table_in d)) (list_of items)

abbrev pub given : Option Data → List Space
given None = []
given (Some d) = listed (as_array d)

abbrev pub spaces_of : Members → List Space
spaces_of ms = or_one_register (given (get_member (codes "space") ms))

-- ---- nodes

-- the names of a node's keys
abbrev pub node_names : List (List ℕ)
node_names = codes "peers" ∷ codes "clients" ∷ codes "tick" ∷ codes "suspect" ∷ []

-- the addresses of so many sites on one machine, the first of them with the port after this one
abbrev pub default_addresses : ℕ → ℕ → List (List ℕ)
default_addresses port zero = []
default_addresses port (suc sites) = (codes "127.0.0.1:" ++ decimal (port + 1)) ∷ default_addresses (port + 1) sites

-- the address that a text is
abbrev pub address_in : Option (List ℕ) → Option (List ℕ)
address_in None = None
address_in (Some text) = if is_address_text text then Some text else None

-- the address that a value is
abbrev pub address_for : Data → Option (List ℕ)
address_for d = address_in (as_str d)

-- an address for each site
abbrev pub are_addresses : ℕ → List Data → Bool
are_addresses sites ds = list_all (λ d. is_some (address_for d)) ds && (length ds == sites)

abbrev pub array_fault : Key → ℕ → Option Items → Option Finding
array_fault key sites None = found key WrongValue
array_fault key sites (Some items) = unless (are_addresses sites (list_of items)) key WrongValue

abbrev pub addresses_fault : Key → ℕ → Option Data → Option Finding
addresses_fault key sites None = None
addresses_fault key sites (Some d) = array_fault key sites (as_array d)

abbrev pub addresses_in : Option Items → List (List ℕ)
addresses_in None = []
addresses_in (Some items) = filter_map address_for (list_of items)

abbrev pub addresses_of : ℕ → ℕ → Option Data → List (List ℕ)
addresses_of port sites None = default_addresses port sites
addresses_of port sites (Some d) = addresses_in (as_array d)

-- clock units
abbrev pub is_units : ℤ → Bool
is_units z = is_within 1 1000000000 z

-- the table of the nodes, empty where there is none
abbrev pub node_table : Option Data → Option Members
node_table None = Some no_members
node_table (Some d) = as_table d

abbrev pub node_fault : ℕ → Option Members → Option Finding
node_fault sites None = found key.Node WrongValue
node_fault sites (Some ms) = first_found
    (unknown_key key.Node node_names ms
    ∷ addresses_fault key.NodePeers sites (get_member (codes "peers") ms)
    ∷ addresses_fault key.NodeClients sites (get_member (codes "clients") ms)
    ∷ whole_fault key.NodeTick is_units (get_member (codes "tick") ms)
    ∷ whole_fault key.NodeSuspect is_units (get_member (codes "suspect") ms)
    ∷ [])

abbrev pub plan_of : ℕ → Members → NodePlan
plan_of sites ms = record {
  peers = addresses_of 7100 sites (get_member (codes "peers") ms);
  clients = addresses_of 7200 sites (get_member (codes "clients") ms);
  tick = number_or 50 (get_member (codes "tick") ms);
  suspect = number_or 10000 (get_member (codes "suspect") ms);
}

-- ---- the whole

-- the names of a configuration's keys
abbrev pub top_names : List (List ℕ)
top_names = codes "sites" ∷ codes "partitions" ∷ codes "space" ∷ codes "node" ∷ []

-- THE FAULT of a configuration's table: the first in this order
abbrev pub fault_of : Members → Option Finding
fault_of ms = first_found
    (unknown_key key.Top top_names ms
    ∷ shape_fault ms
    ∷ spaces_fault (get_member (codes "space") ms)
    ∷ node_fault (sites_of (shape_of ms)) (node_table (get_member (codes "node") ms))
    ∷ [])

-- the table of a text, where it is TOML
abbrev pub document_of : List ℕ → Option Members
document_of text = if is_utf8 text then parse_document text else None
