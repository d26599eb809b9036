-- How a node's table is read.
use Rattle.std.specs.Prelude.{ℕ, ◌==◌, if◌then◌else◌, List, [], length, codes, Option, Some, None, Result, Ok, Err}
use Rattle.toml.specs.Data.{Data, Items, Members, no_members, as_array, as_table, get_member}
use Rattle.us_config.specs.declared.fault.Key.{Key}
use Rattle.us_config.specs.declared.fault.Key.TheVariants.{Node, NodePeers, NodeClients, NodeTick, NodeSuspect}
use Rattle.us_config.specs.declared.fault.ConfigFault.TheVariants.{WrongValue}
use Rattle.us_config.specs.declared.fault.ReadFault.{ReadFault}
use Rattle.us_config.specs.declared.fault.ReadFault.TheVariants as read
use Rattle.us_config.specs.declared.node.NodePlan.{NodePlan}
use Rattle.us_config.specs.Meaning.{default_addresses, address_for, node_names}
use Rattle.us_config.specs.Values.{◌>>=◌, only, whole_or, gathered, each_by}

abbrev pub one_a_site : Key → ℕ → List (List ℕ) → Result (List (List ℕ)) ReadFault
one_a_site key sites addresses = if length addresses == sites then Ok addresses else Err (read.Refused key WrongValue)

abbrev pub listed : Key → ℕ → Option Items → Result (List (List ℕ)) ReadFault
listed key sites None = Err (read.Refused key WrongValue)
listed key sites (Some items) = do
  addresses ← gathered (each_by key address_for) [] items
  one_a_site key sites addresses

-- an address for each site
abbrev pub addresses_or : Key → ℕ → ℕ → Option Data → Result (List (List ℕ)) ReadFault
addresses_or key port sites None = Ok (default_addresses port sites)
addresses_or key port sites (Some d) = listed key sites (as_array d)

unfoldable pub plan_in : ℕ → Members → Result NodePlan ReadFault
plan_in sites ms = do
  known ← only Node node_names ms
  peers ← addresses_or NodePeers 7100 sites (get_member (codes "peers") ms)
  clients ← addresses_or NodeClients 7200 sites (get_member (codes "clients") ms)
  tick ← whole_or NodeTick 1 1000000000 50 (get_member (codes "tick") ms)
  suspect ← whole_or NodeSuspect 1 1000000000 10000 (get_member (codes "suspect") ms)
  Ok (record { peers = peers; clients = clients; tick = tick; suspect = suspect })

abbrev pub plan_of : ℕ → Option Members → Result NodePlan ReadFault
plan_of sites None = Err (read.Refused Node WrongValue)
plan_of sites (Some ms) = plan_in sites ms

-- the plan of a configuration's nodes
abbrev pub node_plan_of : ℕ → Option Data → Result NodePlan ReadFault
node_plan_of sites None = plan_in sites no_members
node_plan_of sites (Some d) = plan_of sites (as_table d)
