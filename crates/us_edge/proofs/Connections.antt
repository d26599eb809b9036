-- Connections that are opened and dropped.
use Rattle.std.proofs.Common.{◌≡◌, ℕ, suc, ◌+◌, ◌<◌, ◌≤◌, ◌==◌, ◌≢◌, Bool, true, false, cond, Option, Some, None, option_to_list, List, [], ◌∷◌, ◌++◌, length, refl, sym, ap, subst, arith, ⊎_elim, length-append}
use Rattle.std.specs.List.{count_by, All}
use Rattle.std.proofs.lemmas.List.Sums.{sum_by-cons, sum_by-append, sum_by_push}
use Rattle.std.proofs.lemmas.Bool.Decides.{eqb_tells}
use Rattle.std.proofs.lemmas.Bool.{eq-eqb}
use Rattle.us_edge.specs.Links.{Connections, HasPiece, times_opened, times_dropped, connections_after, AreDropsOfOpened, IsOpen}
use Rattle.us_edge.specs.MemoryLinks.{IsInOrder}
use Rattle.us_edge.specs.declared.links.Dropped.{Dropped}
use Rattle.us_edge.specs.declared.links.LinkInput.{LinkInput}
use Rattle.us_edge.specs.declared.links.LinkInput.TheVariants.{Opened}

-- a number as it stands in a list for the first time, and the numbers around it
record Occurrence (x : ℕ) (ys : List ℕ) : Type 0 where
  front : List ℕ
  back : List ℕ
  is : ys ≡ front ++ x ∷ back

find : (x : ℕ) (ys : List ℕ) → 1 ≤ count_by (λ j. j == x) ys → Occurrence x ys
find x [] h = absurd (omega (arith, h))
find x (y ∷ ys) h = ⊎_elim here (later (find x ys)) (eqb_tells y x) where
  here : (y == x ≡ true) × (y ≡ x) → Occurrence x (y ∷ ys)
  here e = record { front = []; back = ys; is = ap (λ (z : ℕ). z ∷ ys) e.1 }

  later : (1 ≤ count_by (λ j. j == x) ys → Occurrence x ys) → (y == x ≡ false) × (y ≢ x) → Occurrence x (y ∷ ys)
  later others e =
      let rest : Occurrence x ys = others (omega (arith, h, sum_by-cons (λ j. cond (j == x) 1 0) y ys, ap (λ (b : Bool). cond {A = ℕ} b 1 0) e.0)) in
      record { front = y ∷ rest.front; back = rest.back; is = ap (λ (zs : List ℕ). y ∷ zs) rest.is }

-- how often a number stands in a list around another
count-around : (k x : ℕ) (front back : List ℕ) → count_by (λ j. j == k) (front ++ x ∷ back) ≡ count_by (λ j. j == k) (front ++ back) + cond (x == k) 1 0
count-around k x front back =
    omega (arith, sum_by-append (λ j. cond (j == k) 1 0) front (x ∷ back), sum_by-cons (λ j. cond (j == k) 1 0) x back, sum_by-append (λ j. cond (j == k) 1 0) front back)

-- where each number stands at most as often in the first list, that is at most as long
counts-length : {X : Type 0} (number : X → ℕ) (xs : List X) (ys : List ℕ) → ((k : ℕ) → count_by (λ x. number x == k) xs ≤ count_by (λ j. j == k) ys) → length xs ≤ length ys
counts-length number [] ys h = omega arith
counts-length number (x ∷ xs) ys h = taken (counts-length number xs) where
  found : Occurrence (number x) ys
  found = find (number x) ys (omega (arith, h (number x), sum_by-cons (λ y. cond (number y == number x) 1 0) x xs, ap (λ (b : Bool). cond {A = ℕ} b 1 0) (eq-eqb (number x) (number x) refl)))

  below : (k : ℕ) → count_by (λ y. number y == k) xs ≤ count_by (λ j. j == k) (found.front ++ found.back)
  below k = omega (arith, h k, sum_by-cons (λ y. cond (number y == k) 1 0) x xs, ap (λ (zs : List ℕ). count_by (λ j. j == k) zs) found.is, count-around k (number x) found.front found.back)

  taken : ((zs : List ℕ) → ((k : ℕ) → count_by (λ y. number y == k) xs ≤ count_by (λ j. j == k) zs) → length xs ≤ length zs) → length (x ∷ xs) ≤ length ys
  taken others = omega (arith, others (found.front ++ found.back) below, ap length found.is, length-append found.front (number x ∷ found.back), length-append found.front found.back)

-- one more drop, of a connection that was opened more often than dropped
more_drops : (opened : List ℕ) (dropped : List Dropped) (d : Dropped) → ((k : ℕ) → count_by (λ e. e.conn == k) dropped ≤ count_by (λ j. j == k) opened) → count_by (λ e. e.conn == d.conn) dropped < count_by (λ j. j == d.conn) opened → (k : ℕ) → count_by (λ e. e.conn == k) (dropped ++ d ∷ []) ≤ count_by (λ j. j == k) opened
more_drops opened dropped d h is_open k = ⊎_elim here other (eqb_tells d.conn k) where
  pushed : count_by (λ e. e.conn == k) (dropped ++ d ∷ []) ≡ count_by (λ e. e.conn == k) dropped + cond (d.conn == k) 1 0
  pushed = sum_by_push (λ (e : Dropped). cond (e.conn == k) 1 0) dropped d

  here : (d.conn == k ≡ true) × (d.conn ≡ k) → count_by (λ e. e.conn == k) (dropped ++ d ∷ []) ≤ count_by (λ j. j == k) opened
  here e =
      let P : ℕ → Type 0 = λ j. count_by (λ (x : Dropped). x.conn == j) dropped < count_by (λ i. i == j) opened in
      let below : P k = subst P e.1 is_open in
      omega (arith, pushed, below, ap (λ (b : Bool). cond {A = ℕ} b 1 0) e.0)

  other : (d.conn == k ≡ false) × (d.conn ≢ k) → count_by (λ e. e.conn == k) (dropped ++ d ∷ []) ≤ count_by (λ j. j == k) opened
  other e = omega (arith, pushed, h k, ap (λ (b : Bool). cond {A = ℕ} b 1 0) e.0)

-- what was pushed stands at the end
pub pushed_ok : {X : Type 0} (ok : Bool) (now before : List X) (x : X) → now ≡ cond ok (before ++ x ∷ []) before → ok ≡ true → now ≡ before ++ x ∷ []
pushed_ok true now before x is e = is
pushed_ok false now before x is e = absurd (cc)

-- more room is enough room
pub still_in_order : (coming : List LinkInput) (opened opened' : List ℕ) (dropped dropped' : List Dropped) (room room' : ℕ) → opened' ≡ opened → dropped' ≡ dropped → room ≤ room' → IsInOrder coming (record { opened = opened; dropped = dropped }) room → IsInOrder coming (record { opened = opened'; dropped = dropped' }) room'
still_in_order coming opened opened' dropped dropped' room room' same_opened same_dropped more h =
    let P : List ℕ → List Dropped → Type 0 = λ xs ds. (conn : ℕ) → count_by (λ d. d.conn == conn) ds ≤ count_by (λ k. k == conn) xs in
    record {
      pieces = h.pieces;
      enough = omega (arith, h.enough, ap length same_opened);
      drops = subst (λ (ds : List Dropped). P opened' ds) (sym same_dropped) (subst (λ (xs : List ℕ). P xs dropped) (sym same_opened) h.drops);
    }

-- a connection may be opened where there is room for its drop
pub opened_in_order : (coming : List LinkInput) (opened opened' : List ℕ) (dropped dropped' : List Dropped) (room room' conn : ℕ) → opened' ≡ opened ++ conn ∷ [] → dropped' ≡ dropped → length opened + 1 ≤ room' → IsInOrder coming (record { opened = opened; dropped = dropped }) room → IsInOrder coming (record { opened = opened'; dropped = dropped' }) room'
opened_in_order coming opened opened' dropped dropped' room room' conn is_opened same_dropped more h =
    let P : List ℕ → List Dropped → Type 0 = λ xs ds. (conn : ℕ) → count_by (λ d. d.conn == conn) ds ≤ count_by (λ k. k == conn) xs in
    let pushed : P (opened ++ conn ∷ []) dropped = λ k. omega (arith, h.drops k, sum_by_push (λ j. cond (j == k) 1 0) opened conn) in
    record {
      pieces = h.pieces;
      enough = omega (arith, ap length is_opened, length-append opened (conn ∷ []));
      drops = subst (λ (ds : List Dropped). P opened' ds) (sym same_dropped) (subst (λ (xs : List ℕ). P xs dropped) (sym is_opened) pushed);
    }

-- a connection that was opened more often than dropped may be dropped
pub dropped_in_order : (coming : List LinkInput) (opened : List ℕ) (dropped dropped' : List Dropped) (room room' : ℕ) (d : Dropped) → dropped' ≡ dropped ++ d ∷ [] → room ≤ room' → times_dropped d.conn (record { opened = opened; dropped = dropped }) < times_opened d.conn (record { opened = opened; dropped = dropped }) → IsInOrder coming (record { opened = opened; dropped = dropped }) room → IsInOrder coming (record { opened = opened; dropped = dropped' }) room'
dropped_in_order coming opened dropped dropped' room room' d is_dropped more is_open h =
    let P : List Dropped → Type 0 = λ ds. (conn : ℕ) → count_by (λ e. e.conn == conn) ds ≤ count_by (λ k. k == conn) opened in
    record {
      pieces = h.pieces;
      enough = omega (arith, h.enough);
      drops = subst P (sym is_dropped) (more_drops opened dropped d h.drops is_open);
    }

-- then there is room for the drop
pub room_for_drop : (coming : List LinkInput) (opened : List ℕ) (dropped : List Dropped) (room conn : ℕ) → times_dropped conn (record { opened = opened; dropped = dropped }) < times_opened conn (record { opened = opened; dropped = dropped }) → IsInOrder coming (record { opened = opened; dropped = dropped }) room → length dropped < room
room_for_drop coming opened dropped room conn is_open h =
    let d : Dropped = record { conn = conn; before = 0 } in
    omega (arith, h.enough, counts-length (λ (e : Dropped). e.conn) (dropped ++ d ∷ []) opened (more_drops opened dropped d h.drops is_open), length-append dropped (d ∷ []))

-- the inputs behind the one that was taken are in order too
pub taken_in_order : (taken : Option LinkInput) (coming others : List LinkInput) (known : Connections) (room : ℕ) → coming ≡ option_to_list taken ++ others → IsInOrder coming known room → IsInOrder others known room
taken_in_order None coming others known room is h = let P : List LinkInput → Type 0 = λ inputs. IsInOrder inputs known room in subst P is h
taken_in_order (Some next) coming others known room is h =
    let P : List LinkInput → Type 0 = λ inputs. All HasPiece inputs in
    record { pieces = behind_in_pieces next others (subst P is h.pieces); enough = h.enough; drops = h.drops } where
      behind_in_pieces : (next : LinkInput) (others : List LinkInput) → All HasPiece (next ∷ others) → All HasPiece others
      behind_in_pieces next others all = λ k d below. all (suc k) d (omega arith)

-- a connection that was just opened is open
pub opened_is_open : (before now : Connections) (conn : ℕ) → Some now ≡ connections_after (Opened conn) (Some before) → AreDropsOfOpened (Some before) → IsOpen (Some now) conn
opened_is_open before now conn is drops =
    let same : now ≡ record { opened = before.opened ++ conn ∷ []; dropped = before.dropped } = cc in
    let P : Connections → Type 0 = λ known. times_dropped conn known < times_opened conn known in
    subst P (sym same) (omega (arith, drops conn, sum_by_push (λ j. cond (j == conn) 1 0) before.opened conn, ap (λ (b : Bool). cond {A = ℕ} b 1 0) (eq-eqb conn conn refl)))
