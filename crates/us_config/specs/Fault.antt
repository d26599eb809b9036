-- How keys and faults are printed.
use Rattle.std.specs.Prelude.{ℕ, List, codes}
use Rattle.us_config.specs.declared.fault.Key.{Key}
use Rattle.us_config.specs.declared.fault.Key.TheVariants.{Top, Sites, Partitions, Space, SpaceNumber, SpaceKind, SpaceConflicts, Node, NodePeers}
use Rattle.us_config.specs.declared.fault.Key.TheVariants.{NodeClients, NodeTick, NodeSuspect}
use Rattle.us_config.specs.declared.fault.ConfigFault.{ConfigFault}
use Rattle.us_config.specs.declared.fault.ConfigFault.TheVariants.{NotToml, WrongKey, WrongValue, OutOfLimit}

-- a key as it is printed
abbrev pub key_text : Key → List ℕ
key_text Top = codes "top"
key_text Sites = codes "sites"
key_text Partitions = codes "partitions"
key_text Space = codes "space"
key_text SpaceNumber = codes "space.number"
key_text SpaceKind = codes "space.kind"
key_text SpaceConflicts = codes "space.conflicts"
key_text Node = codes "node"
key_text NodePeers = codes "node.peers"
key_text NodeClients = codes "node.clients"
key_text NodeTick = codes "node.tick"
key_text NodeSuspect = codes "node.suspect"

-- a fault as it is printed
abbrev pub fault_text : ConfigFault → List ℕ
fault_text NotToml = codes "NotToml"
fault_text WrongKey = codes "WrongKey"
fault_text WrongValue = codes "WrongValue"
fault_text OutOfLimit = codes "OutOfLimit"
