-- What links have done, where they tell it.
use Rattle.std.specs.Prelude.{◌≡◌, ℕ, ◌<◌, ◌≤◌, ◌==◌, ◌⊎◌, List, [], ◌∷◌, ◌++◌, length, count_by, Option, None, Some, IfSome, if◌then◌else◌}
use Rattle.std.specs.Option.{ForSome}
use Rattle.us_edge.specs.declared.links.LinkInput.{LinkInput}
use Rattle.us_edge.specs.declared.links.LinkInput.TheVariants.{Nothing, Opened, ClientBytes, ClientClosed, PeerBytes, PeerReset}
use Rattle.us_edge.specs.declared.links.Offer.{Offer}
use Rattle.us_edge.specs.declared.links.Offer.TheVariants.{Client, Peer}
use Rattle.us_edge.specs.declared.links.Dropped.{Dropped}

-- the bytes that came with the input
abbrev pub bytes_of : LinkInput → Option (List ℕ)
bytes_of Nothing = None
bytes_of (Opened conn) = None
bytes_of (ClientBytes conn bytes) = Some bytes
bytes_of (ClientClosed conn) = None
bytes_of (PeerBytes site bytes) = Some bytes
bytes_of (PeerReset site) = None

-- bytes that come at a time are 1 to 65,536
abbrev pub HasPiece : LinkInput → Type 0
HasPiece input = ForSome (bytes_of input) (λ bytes. (1 ≤ length bytes) × (length bytes ≤ 65536))

-- the connections that were opened and those that were dropped, in order
pub record Connections : Type 0 where
  pub opened : List ℕ
  pub dropped : List Dropped

-- one more at the end; what isn't told stays untold
abbrev pub recorded : {X : Type 0} → Option (List X) → X → Option (List X)
recorded None x = None
recorded (Some xs) x = Some (xs ++ x ∷ [])

-- one more at the end, or nothing is told from now on
abbrev pub RecordsOrForgets : {X : Type 0} → Option (List X) → Option (List X) → X → Type 0
RecordsOrForgets before now x = (now ≡ recorded before x) ⊎ (now ≡ None)

-- the next input, and those still to come; after the last there is nothing
abbrev pub Polls : Option (List LinkInput) → Option (List LinkInput) → LinkInput → Type 0
Polls None after input = after ≡ None
Polls (Some []) after input = (input ≡ Nothing) × (after ≡ Some [])
Polls (Some (next ∷ others)) after input = (input ≡ next) × (after ≡ Some others)

-- the connections that are opened with this input
abbrev pub opened_by : LinkInput → List ℕ → List ℕ
opened_by Nothing opened = opened
opened_by (Opened conn) opened = opened ++ conn ∷ []
opened_by (ClientBytes conn bytes) opened = opened
opened_by (ClientClosed conn) opened = opened
opened_by (PeerBytes site bytes) opened = opened
opened_by (PeerReset site) opened = opened

-- the connections after an input, which may open one
abbrev pub connections_after : LinkInput → Option Connections → Option Connections
connections_after input None = None
connections_after input (Some known) = Some (record { opened = opened_by input known.opened; dropped = known.dropped })

abbrev pub times_opened : ℕ → Connections → ℕ
times_opened conn known = count_by (λ k. k == conn) known.opened

abbrev pub times_dropped : ℕ → Connections → ℕ
times_dropped conn known = count_by (λ d. d.conn == conn) known.dropped

-- the connection was opened more often than dropped, where this is told
abbrev pub IsOpen : Option Connections → ℕ → Type 0
IsOpen None conn = Unit {0}
IsOpen (Some known) conn = times_dropped conn known < times_opened conn known

-- no connection was dropped more often than opened
abbrev pub AreDropsOfOpened : Option Connections → Type 0
AreDropsOfOpened None = Unit {0}
AreDropsOfOpened (Some known) = (conn : ℕ) → times_dropped conn known ≤ times_opened conn known

-- all bytes that were offered to a connection
abbrev pub offered_to : ℕ → List Offer → List ℕ
offered_to conn [] = []
offered_to conn (Client other bytes ∷ offers) = if other == conn then bytes ++ offered_to conn offers else offered_to conn offers
offered_to conn (Peer site bytes ∷ offers) = offered_to conn offers

-- all bytes that were offered to a site
abbrev pub offered_to_peer : ℕ → List Offer → List ℕ
offered_to_peer site [] = []
offered_to_peer site (Client conn bytes ∷ offers) = offered_to_peer site offers
offered_to_peer site (Peer other bytes ∷ offers) = if other == site then bytes ++ offered_to_peer site offers else offered_to_peer site offers

-- the connection was dropped, after so many bytes had been offered to it, where this is told
abbrev pub Drops : Option Connections → Option Connections → Option (List Offer) → ℕ → Type 0
Drops None after offered conn = after ≡ None
Drops (Some known) after offered conn = (before : ℕ)
    × (after ≡ Some (record { opened = known.opened; dropped = known.dropped ++ record { conn = conn; before = before } ∷ [] }))
    × IfSome offered (λ offers. before ≡ length (offered_to conn offers))
