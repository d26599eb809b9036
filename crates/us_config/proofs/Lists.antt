-- What the items of an array say, one after the other.
use Rattle.std.proofs.Common.{◌≡◌, ℕ, zero, suc, ◌+◌, ◌-◌, ◌<◌, ◌≤◌, List, [], ◌∷◌, ◌++◌, map, length, get_or, drop, drop-cons, Result, Ok, Err, refl, sym, ap, ◌∙◌, append_assoc, arith}
use Rattle.std.specs.Prelude.{codes}
use Rattle.std.specs.Fmt.{decimal}
use Rattle.std.proofs.lemmas.List.{append-nil}
use Rattle.std.proofs.Math.ListN.{drop_of_length-le}
use Rattle.toml.specs.Data.{Data, Items, item}
use Rattle.toml.specs.View.{view, items_of}
use Rattle.toml.specs.declared.value.Value.{Value}
use Rattle.us_config.specs.declared.fault.ReadFault.{ReadFault}
use Rattle.us_config.specs.declared.fault.ReadFault.TheVariants as read
use Rattle.us_config.specs.Meaning.{default_addresses}
use Rattle.us_config.specs.Values.{◌>>=◌, FailsAs, gathered}

-- ---- default addresses

pub default_more : (front : List (List ℕ)) (port sites site : ℕ) (total : List (List ℕ)) → site < sites → front ++ default_addresses (port + site) (sites - site) ≡ total
    → (front ++ (codes "127.0.0.1:" ++ decimal (port + site + 1)) ∷ []) ++ default_addresses (port + (site + 1)) (sites - (site + 1)) ≡ total
default_more front port sites site total lt h =
    let k : sites - site ≡ suc (sites - (site + 1)) = omega arith in
    let p : port + (site + 1) ≡ port + site + 1 = omega arith in
    let step : default_addresses (port + site) (sites - site) ≡ (codes "127.0.0.1:" ++ decimal (port + site + 1)) ∷ default_addresses (port + (site + 1)) (sites - (site + 1)) = rw (k, p) refl in
    append_assoc front ((codes "127.0.0.1:" ++ decimal (port + site + 1)) ∷ []) (default_addresses (port + (site + 1)) (sites - (site + 1))) ∙ ap (λ (r : List (List ℕ)). front ++ r) (sym step) ∙ h

pub default_count : (port sites : ℕ) → length (default_addresses port sites) ≡ sites
default_count port zero = refl
default_count port (suc sites) = ap suc (default_count (port + 1) sites)

-- ---- items

-- the items from i on
abbrev pub left : List Value → ℕ → Items
left values i = items_of (map view (drop i values))

pub left_is : (values : List Value) (i : ℕ) (d : Value) → i < length values → left values i ≡ item (view (get_or values i d)) (left values (i + 1))
left_is values i d lt =
    let s : i + 1 ≡ suc i = omega arith in
    rw (s, drop-cons values i d lt) refl

-- the next item
pub next_is : (values : List Value) (i : ℕ) (d : Value) → i < length values → d ≡ get_or values i d → left values i ≡ item (view d) (left values (i + 1))
next_is values i d lt is = left_is values i d lt ∙ ap (λ (v : Value). item (view v) (left values (i + 1))) (sym is)

pub goes_on : {A : Type 0} (step : List A → Data → Result A ReadFault) (front : List A) (values : List Value) (i : ℕ) (d : Value) (x : A) (total : Result (List A) ReadFault) → i < length values → d ≡ get_or values i d → step front (view d) ≡ Ok x
    → gathered step front (left values i) ≡ total → gathered step (front ++ x ∷ []) (left values (i + 1)) ≡ total
goes_on {A = A} step front values i d x total lt is e h =
    let rest : Items = left values (i + 1) in
    let cut : gathered step front (left values i) ≡ gathered step front (item (view d) rest) = ap (λ (ds : Items). gathered step front ds) (next_is values i d lt is) in
    let one : gathered step front (item (view d) rest) ≡ gathered step (front ++ x ∷ []) rest = ap (λ (r : Result A ReadFault). r >>= λ (y : A). gathered step (front ++ y ∷ []) rest) e in
    sym one ∙ sym cut ∙ h

pub fails : {A : Type 0} (step : List A → Data → Result A ReadFault) (front : List A) (values : List Value) (i : ℕ) (d : Value) (e : ReadFault) (total : Result (List A) ReadFault) → i < length values → d ≡ get_or values i d → FailsAs e (step front (view d))
    → gathered step front (left values i) ≡ total → FailsAs e total
fails step front values i d read.Memory total lt is f h = tt
fails {A = A} step front values i d (read.Refused k c) total lt is f h =
    let rest : Items = left values (i + 1) in
    let cut : gathered step front (left values i) ≡ gathered step front (item (view d) rest) = ap (λ (ds : Items). gathered step front ds) (next_is values i d lt is) in
    let one : gathered step front (item (view d) rest) ≡ Err (read.Refused k c) = ap (λ (r : Result A ReadFault). r >>= λ (y : A). gathered step (front ++ y ∷ []) rest) f in
    sym h ∙ cut ∙ one

pub ends : {A : Type 0} (step : List A → Data → Result A ReadFault) (front : List A) (values : List Value) (i : ℕ) (total : Result (List A) ReadFault) → length values ≤ i → gathered step front (left values i) ≡ total → total ≡ Ok front
ends step front values i total le h =
    let none : drop i values ≡ [] = drop_of_length-le values le in
    let one : gathered step front (left values i) ≡ Ok front = rw none refl in
    sym h ∙ one
