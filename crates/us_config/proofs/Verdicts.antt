-- What is read step by step is what the checks find, and the meaning where they find nothing.
use Rattle.std.proofs.Common.{◌≡◌, ℕ, ◌/◌, ◌%◌, ℤ, pos, negsuc, Bool, true, false, not, ◌&&◌, cond, zero, suc, List, [], ◌∷◌, ◌++◌, map, length, Option, Some, None, Result, Ok, Err, refl, sym, ap, ◌∙◌, append_assoc}
use Rattle.std.specs.Prelude.{◌==◌, codes, is_some, unwrap_or}
use Rattle.std.specs.List.{list_all, filter_map, cons_option}
use Rattle.std.proofs.lemmas.Bool.{false≢true}
use Rattle.std.proofs.lemmas.List.{append-nil}
use Rattle.toml.specs.Data.{Data, Items, no_items, item, Members, no_members, as_integer, as_str, as_array, as_table, get_member}
use Rattle.us_base.specs.declared.shape.Shape.{Shape}
use Rattle.us_base.specs.Shape.{sites_of}
use Rattle.us_value.specs.declared.operation.Kind.{Kind}
use Rattle.us_value.specs.declared.operation.Kind.TheVariants.{Register}
use Rattle.us_value.specs.declared.operation.Class.{Class}
use Rattle.us_config.specs.declared.fault.Key.{Key}
use Rattle.us_config.specs.declared.fault.Key.TheVariants as key
use Rattle.us_config.specs.declared.fault.ConfigFault.{ConfigFault}
use Rattle.us_config.specs.declared.fault.ConfigFault.TheVariants.{NotToml, WrongKey, WrongValue, OutOfLimit}
use Rattle.us_config.specs.declared.fault.ReadFault.{ReadFault}
use Rattle.us_config.specs.declared.fault.ReadFault.TheVariants as read
use Rattle.us_config.specs.declared.node.NodePlan.{NodePlan}
use Rattle.us_config.specs.declared.space.Space.{Space}
use Rattle.us_config.specs.declared.config.Config.{Config}
use Rattle.us_config.specs.Keywords.{kind_in, pair_for}
use Rattle.us_config.specs.Checks.{Finding, unless, first_found, verdict, has_only, unknown_key, list_of, is_within, limit_fault, whole_fault, natural, number_or}
use Rattle.us_config.specs.Meaning.{is_count_of_sites, shape_fault, shape_of, space_names, is_taken, number_fault, kind_at, kind_fault, pairs_fault, conflicts_fault, pairs_of, conflicts_of, kind_of, table_fault, space_fault, space_of, table_in, each_fault, list_fault, spaces_fault, or_one_register, listed, given, node_names, address_for, are_addresses, array_fault, addresses_fault, addresses_in, addresses_of, is_units, node_table, node_fault, plan_of, top_names, fault_of, document_of}
use Rattle.us_config.specs.Assembly.{assembled}
use Rattle.us_config.specs.Whole.{config_of, of_table, config_said}
use Rattle.us_config.specs.Values.{◌>>=◌, only, whole_of, whole_or, or_wrong, gathered, each_by}
use Rattle.us_config.specs.Shape.{lost_of, shape_in}
use Rattle.us_config.specs.Spaces.{free_number, number_said, kind_said, listed_pairs, conflicts_said, space_in, space_of_table, space_step, listed_spaces, spaces_said}
use Rattle.us_config.specs.Node as node
use Rattle.us_config.specs.Node.{one_a_site, addresses_or, plan_in, node_plan_of}
use Rattle.us_config.specs.Document.{or_not_toml, config_in}

-- ---- steps

pub and_then : {X Y : Type 0} (m : Result X ReadFault) (f : Option Finding) (x : X) (k : X → Result Y ReadFault) (more : List (Option Finding)) (y : Y)
    → m ≡ verdict f x → k x ≡ verdict (first_found more) y → (m >>= k) ≡ verdict (first_found (f ∷ more)) y
and_then {X = X} m None x k more y e h = ap (λ (r : Result X ReadFault). r >>= k) e ∙ h
and_then {X = X} m (Some finding) x k more y e h = ap (λ (r : Result X ReadFault). r >>= k) e

-- the last step
at_last : {X Y : Type 0} (m : Result X ReadFault) (f : Option Finding) (x : X) (make : X → Y) → m ≡ verdict f x → (m >>= λ (z : X). Ok (make z)) ≡ verdict f (make x)
at_last {X = X} {Y = Y} m None x make e = ap (λ (r : Result X ReadFault). r >>= λ (z : X). Ok (make z)) e
at_last {X = X} {Y = Y} m (Some finding) x make e = ap (λ (r : Result X ReadFault). r >>= λ (z : X). Ok (make z)) e

regrouped : {X Y Z : Type 0} (m : Result X ReadFault) (f : X → Result Y ReadFault) (g : Y → Result Z ReadFault) → (m >>= λ (x : X). f x >>= g) ≡ ((m >>= f) >>= g)
regrouped (Ok x) f g = refl
regrouped (Err e) f g = refl

tested : {X : Type 0} (b : Bool) (key : Key) (fault : ConfigFault) (x : X) → cond b (Ok x) (Err (read.Refused key fault)) ≡ verdict (unless b key fault) x
tested true key fault x = refl
tested false key fault x = refl

tested_last : {X : Type 0} (b : Bool) (key : Key) (fault : ConfigFault) (x : X) → cond b (Ok x) (Err (read.Refused key fault)) ≡ verdict (first_found (unless b key fault ∷ [])) x
tested_last true key fault x = refl
tested_last false key fault x = refl

only_is : (key : Key) (names : List (List ℕ)) (ms : Members) → only key names ms ≡ verdict (unknown_key key names ms) tt
only_is key names ms = tested (has_only names ms) key WrongKey tt

or_wrong_is : {X : Type 0} (key : Key) (o : Option X) (default : X) → or_wrong key o ≡ verdict (unless (is_some o) key WrongValue) (unwrap_or o default)
or_wrong_is key None default = refl
or_wrong_is key (Some x) default = refl

-- ---- whole numbers

whole_of_is : (key : Key) (low high : ℕ) (o : Option ℤ) → whole_of key low high o ≡ verdict (limit_fault key (is_within low high) o) (natural o)
whole_of_is key low high None = refl
whole_of_is key low high (Some (pos n)) = tested (is_within low high (pos n)) key OutOfLimit n
whole_of_is key low high (Some (negsuc n)) = refl

whole_or_is : (key : Key) (low high default : ℕ) (o : Option Data) → whole_or key low high default o ≡ verdict (whole_fault key (is_within low high) o) (number_or default o)
whole_or_is key low high default None = refl
whole_or_is key low high default (Some d) = whole_of_is key low high (as_integer d)

-- ---- sites and partitions

odd_in : (b : Bool) (n : ℕ) → (cond b (Ok n) (Err (read.Refused key.Sites OutOfLimit)) >>= lost_of) ≡ verdict (unless (b && (n % 2 == 1)) key.Sites OutOfLimit) (n / 2)
odd_in true n = tested (n % 2 == 1) key.Sites OutOfLimit (n / 2)
odd_in false n = refl

count_is : (o : Option ℤ) → (whole_of key.Sites 1 7 o >>= lost_of) ≡ verdict (limit_fault key.Sites is_count_of_sites o) (natural o / 2)
count_is None = refl
count_is (Some (pos n)) = odd_in (is_within 1 7 (pos n)) n
count_is (Some (negsuc n)) = refl

sites_are : (o : Option Data) → (whole_or key.Sites 1 7 1 o >>= lost_of) ≡ verdict (whole_fault key.Sites is_count_of_sites o) (number_or 1 o / 2)
sites_are None = refl
sites_are (Some d) = count_is (as_integer d)

pub shape_is : (ms : Members) → shape_in ms ≡ verdict (shape_fault ms) (shape_of ms)
shape_is ms =
    let sites = get_member (codes "sites") ms in
    let parts = get_member (codes "partitions") ms in
    let last : ℕ → ℕ → Result Shape ReadFault = λ (f n : ℕ). Ok (record { f = f; parts = n }) in
    let rest : ℕ → Result Shape ReadFault = λ (f : ℕ). whole_or key.Partitions 1 16 1 parts >>= last f in
    regrouped (whole_or key.Sites 1 7 1 sites) lost_of rest
    ∙ and_then (whole_or key.Sites 1 7 1 sites >>= lost_of) (whole_fault key.Sites is_count_of_sites sites) (number_or 1 sites / 2) rest (whole_fault key.Partitions (is_within 1 16) parts ∷ []) (shape_of ms)
    (sites_are sites)
    (and_then (whole_or key.Partitions 1 16 1 parts) (whole_fault key.Partitions (is_within 1 16) parts) (number_or 1 parts) (last (number_or 1 sites / 2)) [] (shape_of ms)
    (whole_or_is key.Partitions 1 16 1 parts) refl)

-- ---- lists

all_step : {X : Type 0} (o : Option X) (key : Key) (front : List X) (k : X → Result (List X) ReadFault) (b : Bool) (more : List X) → ((x : X) → k x ≡ verdict (unless b key WrongValue) ((front ++ x ∷ []) ++ more))
    → (or_wrong key o >>= k) ≡ verdict (unless (is_some o && b) key WrongValue) (front ++ cons_option o more)
all_step None key front k b more h = refl
all_step {X = X} (Some x) key front k b more h = h x ∙ ap (λ (xs : List X). verdict (unless b key WrongValue) xs) (append_assoc front (x ∷ []) more)

all_are : {X : Type 0} (ds : Items) (key : Key) (part : Data → Option X) (front : List X) → gathered (each_by key part) front ds ≡ verdict (unless (list_all (λ (d : Data). is_some (part d)) (list_of ds)) key WrongValue) (front ++ filter_map part (list_of ds))
all_are {X = X} no_items key part front = ap (λ (xs : List X). Ok xs) (sym (append-nil front))
all_are {X = X} (item d ds) key part front =
    all_step (part d) key front (λ (x : X). gathered (each_by key part) (front ++ x ∷ []) ds) (list_all (λ (e : Data). is_some (part e)) (list_of ds)) (filter_map part (list_of ds)) (λ x. all_are ds key part (front ++ x ∷ []))

count_step : {X : Type 0} (o : Option X) (b : Bool) (more : List X) (n : ℕ) → (b ≡ true → length more ≡ n) → (is_some o && b) ≡ true → length (cons_option o more) ≡ suc n
count_step None b more n ih h = absurd (false≢true h)
count_step (Some x) b more n ih h = ap suc (ih h)

all_count : {X : Type 0} (ds : List Data) (part : Data → Option X) → list_all (λ (d : Data). is_some (part d)) ds ≡ true → length (filter_map part ds) ≡ length ds
all_count [] part h = refl
all_count (d ∷ ds) part h = count_step (part d) (list_all (λ (e : Data). is_some (part e)) ds) (filter_map part ds) (length ds) (all_count ds part) h

-- ---- spaces

number_is : (earlier : List Space) (o : Option Data) → number_said earlier o ≡ verdict (number_fault earlier o) (number_or 0 o)
number_is earlier None = refl
number_is earlier (Some d) =
    let n = natural (as_integer d) in
    and_then (whole_of key.SpaceNumber 1 255 (as_integer d)) (limit_fault key.SpaceNumber (is_within 1 255) (as_integer d)) n (free_number earlier) (unless (not (is_taken earlier n)) key.SpaceNumber WrongValue ∷ []) n
    (whole_of_is key.SpaceNumber 1 255 (as_integer d))
    (tested_last (not (is_taken earlier n)) key.SpaceNumber WrongValue n)

kind_is : (o : Option Data) → kind_said o ≡ verdict (kind_fault o) (unwrap_or (kind_at o) Register)
kind_is None = refl
kind_is (Some d) = or_wrong_is key.SpaceKind (kind_in (as_str d)) Register

pairs_are : (kind : Kind) (o : Option Items) → listed_pairs kind o ≡ verdict (pairs_fault kind o) (pairs_of kind o)
pairs_are kind None = refl
pairs_are kind (Some items) = all_are items key.SpaceConflicts (pair_for kind) []

conflicts_are : (kind : Kind) (o : Option Data) → conflicts_said kind o ≡ verdict (conflicts_fault kind o) (conflicts_of kind o)
conflicts_are kind None = refl
conflicts_are kind (Some d) = pairs_are kind (as_array d)

pub space_is : (earlier : List Space) (ms : Members) → space_in earlier ms ≡ verdict (table_fault earlier ms) (space_of ms)
unfolding space_in
space_is earlier ms =
    let number = get_member (codes "number") ms in
    let kind = get_member (codes "kind") ms in
    let conflicts = get_member (codes "conflicts") ms in
    let make : ℕ → Kind → List (Class × Class) → Result Space ReadFault = λ (n : ℕ) (k : Kind) (pairs : List (Class × Class)). Ok (record { number = n; kind = k; conflicts = pairs }) in
    let with_kind : ℕ → Kind → Result Space ReadFault = λ (n : ℕ) (k : Kind). conflicts_said k conflicts >>= make n k in
    let with_number : ℕ → Result Space ReadFault = λ (n : ℕ). kind_said kind >>= with_kind n in
    and_then (only key.Space space_names ms) (unknown_key key.Space space_names ms) tt (λ (_ : Unit {0}). number_said earlier number >>= with_number) _ (space_of ms)
    (only_is key.Space space_names ms)
    (and_then (number_said earlier number) (number_fault earlier number) (number_or 0 number) with_number _ (space_of ms)
    (number_is earlier number)
    (and_then (kind_said kind) (kind_fault kind) (kind_of ms) (with_kind (number_or 0 number)) _ (space_of ms)
    (kind_is kind)
    (and_then (conflicts_said (kind_of ms) conflicts) (conflicts_fault (kind_of ms) conflicts) (conflicts_of (kind_of ms) conflicts) (make (number_or 0 number) (kind_of ms)) [] (space_of ms)
    (conflicts_are (kind_of ms) conflicts) refl)))

table_is : (earlier : List Space) (o : Option Members) → space_of_table earlier o ≡ verdict (space_fault earlier o) (space_of (unwrap_or o no_members))
table_is earlier None = refl
table_is earlier (Some ms) = space_is earlier ms

each_is : (ds : Items) (earlier : List Space) → gathered space_step earlier ds ≡ verdict (first_found (each_fault earlier (list_of ds))) (earlier ++ map (λ (d : Data). space_of (table_in d)) (list_of ds))
each_is no_items earlier = ap (λ (xs : List Space). Ok xs) (sym (append-nil earlier))
each_is (item d ds) earlier =
    let space = space_of (table_in d) in
    let after = earlier ++ space ∷ [] in
    let more = map (λ (e : Data). space_of (table_in e)) (list_of ds) in
    let found = each_fault after (list_of ds) in
    and_then (space_step earlier d) (space_fault earlier (as_table d)) space (λ (x : Space). gathered space_step (earlier ++ x ∷ []) ds) found (earlier ++ space ∷ more)
    (table_is earlier (as_table d))
    (each_is ds after ∙ ap (λ (xs : List Space). verdict (first_found found) xs) (append_assoc earlier (space ∷ []) more))

listed_is : (o : Option Items) → listed_spaces o ≡ verdict (list_fault o) (or_one_register (listed o))
listed_is None = refl
listed_is (Some items) = at_last (gathered space_step [] items) (list_fault (Some items)) (listed (Some items)) or_one_register (each_is items [])

spaces_are : (o : Option Data) → spaces_said o ≡ verdict (spaces_fault o) (or_one_register (given o))
spaces_are None = refl
spaces_are (Some d) = listed_is (as_array d)

-- ---- nodes

with_right_length : (key : Key) (sites n : ℕ) (addresses : List (List ℕ)) (b : Bool) → (b ≡ true → length addresses ≡ n) → (verdict (unless b key WrongValue) addresses >>= one_a_site key sites) ≡ verdict (unless (b && (n == sites)) key WrongValue) addresses
with_right_length key sites n addresses true h = rw (h refl) (tested (n == sites) key WrongValue addresses)
with_right_length key sites n addresses false h = refl

array_is : (key : Key) (sites : ℕ) (o : Option Items) → node.listed key sites o ≡ verdict (array_fault key sites o) (addresses_in o)
array_is key sites None = refl
array_is key sites (Some items) =
    let ds = list_of items in
    let each = list_all (λ (d : Data). is_some (address_for d)) ds in
    ap (λ (r : Result (List (List ℕ)) ReadFault). r >>= one_a_site key sites) (all_are items key address_for [])
    ∙ with_right_length key sites (length ds) (filter_map address_for ds) each (all_count ds address_for)

addresses_are : (key : Key) (port sites : ℕ) (o : Option Data) → addresses_or key port sites o ≡ verdict (addresses_fault key sites o) (addresses_of port sites o)
addresses_are key port sites None = refl
addresses_are key port sites (Some d) = array_is key sites (as_array d)

pub plan_is : (sites : ℕ) (ms : Members) → plan_in sites ms ≡ verdict (node_fault sites (Some ms)) (plan_of sites ms)
unfolding plan_in
plan_is sites ms =
    let peers = get_member (codes "peers") ms in
    let clients = get_member (codes "clients") ms in
    let tick = get_member (codes "tick") ms in
    let suspect = get_member (codes "suspect") ms in
    let texts = List (List ℕ) in
    let make : texts → texts → ℕ → ℕ → Result NodePlan ReadFault = λ (p c : texts) (t s : ℕ). Ok (record { peers = p; clients = c; tick = t; suspect = s }) in
    let with_tick : texts → texts → ℕ → Result NodePlan ReadFault = λ (p c : texts) (t : ℕ). whole_or key.NodeSuspect 1 1000000000 10000 suspect >>= make p c t in
    let with_clients : texts → texts → Result NodePlan ReadFault = λ (p c : texts). whole_or key.NodeTick 1 1000000000 50 tick >>= with_tick p c in
    let with_peers : texts → Result NodePlan ReadFault = λ (p : texts). addresses_or key.NodeClients 7200 sites clients >>= with_clients p in
    let p = addresses_of 7100 sites peers in
    let c = addresses_of 7200 sites clients in
    let t = number_or 50 tick in
    let s = number_or 10000 suspect in
    and_then (only key.Node node_names ms) (unknown_key key.Node node_names ms) tt (λ (_ : Unit {0}). addresses_or key.NodePeers 7100 sites peers >>= with_peers) _ (plan_of sites ms)
    (only_is key.Node node_names ms)
    (and_then (addresses_or key.NodePeers 7100 sites peers) (addresses_fault key.NodePeers sites peers) p with_peers _ (plan_of sites ms)
    (addresses_are key.NodePeers 7100 sites peers)
    (and_then (addresses_or key.NodeClients 7200 sites clients) (addresses_fault key.NodeClients sites clients) c (with_clients p) _ (plan_of sites ms)
    (addresses_are key.NodeClients 7200 sites clients)
    (and_then (whole_or key.NodeTick 1 1000000000 50 tick) (whole_fault key.NodeTick is_units tick) t (with_tick p c) _ (plan_of sites ms)
    (whole_or_is key.NodeTick 1 1000000000 50 tick)
    (and_then (whole_or key.NodeSuspect 1 1000000000 10000 suspect) (whole_fault key.NodeSuspect is_units suspect) s (make p c t) [] (plan_of sites ms)
    (whole_or_is key.NodeSuspect 1 1000000000 10000 suspect) refl))))

node_is : (sites : ℕ) (o : Option Members) → node.plan_of sites o ≡ verdict (node_fault sites o) (plan_of sites (unwrap_or o no_members))
node_is sites None = refl
node_is sites (Some ms) = plan_is sites ms

node_plan_is : (sites : ℕ) (o : Option Data) → node_plan_of sites o ≡ verdict (node_fault sites (node_table o)) (plan_of sites (unwrap_or (node_table o) no_members))
node_plan_is sites None = plan_is sites no_members
node_plan_is sites (Some d) = node_is sites (as_table d)

-- ---- the whole

pub config_is : (ms : Members) → config_in ms ≡ verdict (fault_of ms) (config_of ms)
unfolding config_in
config_is ms =
    let space = get_member (codes "space") ms in
    let own = get_member (codes "node") ms in
    let make : Shape → List Space → NodePlan → Result Config ReadFault = λ (shape : Shape) (spaces : List Space) (plan : NodePlan). Ok (assembled shape spaces plan) in
    let with_spaces : Shape → List Space → Result Config ReadFault = λ (shape : Shape) (spaces : List Space). node_plan_of (sites_of shape) own >>= make shape spaces in
    let with_shape : Shape → Result Config ReadFault = λ (shape : Shape). spaces_said space >>= with_spaces shape in
    let sites = sites_of (shape_of ms) in
    and_then (only key.Top top_names ms) (unknown_key key.Top top_names ms) tt (λ (_ : Unit {0}). shape_in ms >>= with_shape) _ (config_of ms)
    (only_is key.Top top_names ms)
    (and_then (shape_in ms) (shape_fault ms) (shape_of ms) with_shape _ (config_of ms)
    (shape_is ms)
    (and_then (spaces_said space) (spaces_fault space) (or_one_register (given space)) (with_spaces (shape_of ms)) _ (config_of ms)
    (spaces_are space)
    (and_then (node_plan_of sites own) (node_fault sites (node_table own)) (plan_of sites (unwrap_or (node_table own) no_members)) (make (shape_of ms) (or_one_register (given space))) [] (config_of ms)
    (node_plan_is sites own) refl)))

read_is : (o : Option Members) → (or_not_toml o >>= config_in) ≡ of_table o
read_is None = refl
read_is (Some ms) = config_is ms

-- a text whose table was read says what the table says
pub table_says : (text : List ℕ) (ms : Members) → or_not_toml (document_of text) ≡ Ok ms → config_said text ≡ config_in ms
table_says text ms e = sym (read_is (document_of text)) ∙ ap (λ (r : Result Members ReadFault). r >>= config_in) e
