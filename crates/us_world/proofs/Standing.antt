-- What is kept stands for the world, and goes along with it.
use Rattle.std.proofs.Common.{◌≡◌, ◌∙◌, ℕ, zero, suc, ◌+◌, ◌-◌, ◌≤◌, ◌<◌, List, [], ◌∷◌, ◌++◌, length, map, Bool, true, false, cond, Option, Some}
use Rattle.std.proofs.Common.{None, ◌⊎◌, inl, inr, refl, sym, ap, subst, arith, nat_lt, append_assoc, get_or}
use Rattle.std.proofs.lemmas.Option.{slice_get-get_or}
use Rattle.std.specs.Prelude.{◌||◌, ◌==◌, Result, Ok, Err, OnOk, IfOk}
use Rattle.us_world.specs.declared.fault.WorldFault.TheVariants as fault
use Rattle.us_world.specs.declared.fault.WorldFault.{WorldFault}
use Rattle.std.specs.List.{slice_get, slice_set}
use Rattle.std.proofs.lemmas.Bool.{cond-true}
use Rattle.std.proofs.lemmas.Bool.Decides.{nat_tests}
use Rattle.std.proofs.lemmas.List.{map-append}
use Rattle.std.proofs.lemmas.List.Folds.{list_any-append}
use Rattle.us_peer_wire.specs.declared.message.Packet.{Packet}
use Rattle.us_model.specs.declared.event.Event.{Event}
use Rattle.us_model.specs.declared.event.Event.TheVariants as event
use Rattle.us_model.specs.declared.event.Note.{Note}
use Rattle.us_model.specs.declared.event.Outputs.{Outputs}
use Rattle.us_site.specs.Served.{Served}
use Rattle.us_model.specs.State.{Site}
use Rattle.us_model.specs.Sites.{Stepped, site_step}
use Rattle.us_model.specs.Worlds.{World, DeliverPacket, nth, stepped, at_one, at_site, delivered, deliver_packet, world_step, is_delivered}
use Rattle.us_history.specs.Histories.{History, no_history}
use Rattle.us_model.specs.Executions.{noted, noted_all, decided_one}
use Rattle.us_model.specs.declared.event.Note.TheVariants as note
use Rattle.us_history.specs.Histories.{Begun, begun_of}
use Rattle.us_extract.specs.Decisions.{HasDecided}
use Rattle.us_kind.specs.declared.identity.Tid.{Tid}
use Rattle.us_kind.specs.declared.memory.Memory.{Memory}
use Rattle.us_network.specs.declared.sent.Sent.{Sent}
use Rattle.us_network.specs.Packets.{packet_of, fresh, is_marked_at, IsDelivered}
use Rattle.us_world.specs.Limits.{is_opening, is_beginning, how_many, opened_in, begun_in}
use Rattle.us_world.specs.WorldState.{WorldState, Represents, site_of, HasStepped, unmarked, after_step, after_nothing, after_one}
use Rattle.us_world.specs.WorldState.{after_at, marked, after_delivery, HasCome, LimitSays, passed_by}

-- PACKETS AND NOTES IN TURN
-- one more is on its way
pub sent-turn : (fore now next : List Sent) (ps : List Packet) (p : Packet) → next ≡ now ++ fresh p ∷ [] → now ≡ fore ++ unmarked ps
    → next ≡ fore ++ unmarked (ps ++ p ∷ [])
sent-turn fore now next ps p push is =
    push
    ∙ ap (λ ss. ss ++ fresh p ∷ []) is
    ∙ append_assoc fore (unmarked ps) (fresh p ∷ [])
    ∙ ap (λ ss. fore ++ ss) (sym (map-append fresh ps (p ∷ [])))

pub noted-append : (h : History) (ns ms : List Note) → noted_all h (ns ++ ms) ≡ noted_all (noted_all h ns) ms
noted-append h [] ms = refl
noted-append h (n ∷ ns) ms = noted-append (noted h n) ns ms

how_many-append : (p : Note → Bool) (ns ms : List Note) → how_many p (ns ++ ms) ≡ how_many p ns + how_many p ms
how_many-append p [] ms = omega arith
how_many-append p (n ∷ ns) ms = on (p n) (how_many-append p ns ms)
  where
    on : (t : Bool) → how_many p (ns ++ ms) ≡ how_many p ns + how_many p ms
        → cond t (how_many p (ns ++ ms) + 1) (how_many p (ns ++ ms)) ≡ cond t (how_many p ns + 1) (how_many p ns) + how_many p ms
    on true e = omega arith
    on false e = e

-- PLACES
-- of more packets that weren't delivered no place is marked
marked-append : (sent : List Sent) (ps : List Packet) (i : ℕ) → is_marked_at (sent ++ unmarked ps) i ≡ is_marked_at sent i
marked-append [] [] i = refl
marked-append [] (p ∷ ps) zero = refl
marked-append [] (p ∷ ps) (suc i) = marked-append [] ps i
marked-append (s ∷ ss) ps zero = refl
marked-append (s ∷ ss) ps (suc i) = marked-append ss ps i

marked-same : (sent : List Sent) (place : ℕ) (s t : Sent) → slice_get sent place ≡ Some s → is_marked_at (slice_set sent place t) place ≡ t.delivered
marked-same [] place s t e = absurd (cc)
marked-same (u ∷ us) zero s t e = refl
marked-same (u ∷ us) (suc place) s t e = marked-same us place s t e

marked-other : (sent : List Sent) (place i : ℕ) (t : Sent) → (place ≡ i → ⊥) → is_marked_at (slice_set sent place t) i ≡ is_marked_at sent i
marked-other [] place i t e = refl
marked-other (u ∷ us) zero zero t e = absurd (e refl)
marked-other (u ∷ us) zero (suc i) t e = refl
marked-other (u ∷ us) (suc place) zero t e = refl
marked-other (u ∷ us) (suc place) (suc i) t e = marked-other us place i t (λ h. e (ap suc h))

-- the packets are the same where one is marked
packets-set : (sent : List Sent) (place : ℕ) (s t : Sent) → slice_get sent place ≡ Some s → t.packet ≡ s.packet
    → map packet_of (slice_set sent place t) ≡ map packet_of sent
packets-set [] place s t e same = refl
packets-set (u ∷ us) zero s t e same =
    let is : u ≡ s = cc in
    ap (λ p. p ∷ map packet_of us) (same ∙ ap packet_of (sym is))
packets-set (u ∷ us) (suc place) s t e same = ap (λ ps. packet_of u ∷ ps) (packets-set us place s t e same)

packet-get : (sent : List Sent) (place : ℕ) (s : Sent) → slice_get sent place ≡ Some s → slice_get (map packet_of sent) place ≡ Some s.packet
packet-get [] place s e = absurd (cc)
packet-get (u ∷ us) zero s e =
    let is : u ≡ s = cc in
    ap (λ (v : Sent). Some v.packet) is
packet-get (u ∷ us) (suc place) s e = packet-get us place s e

nth-get : {X : Type 0} (ps : List X) (n : ℕ) (p : X) → 1 ≤ n → ((m : ℕ) → n ≡ 1 + m → slice_get ps m ≡ Some p) → nth ps n ≡ Some p
nth-get ps zero p l h = absurd (omega arith)
nth-get ps (suc m) p l h =
    let t : nat_lt 0 (suc m) ≡ true = grind (arith, nat_tests) in
    let e : suc m - 1 ≡ m = omega arith in
    cond-true _ _ _ t ∙ ap (λ i. slice_get ps i) e ∙ h m (omega arith)

slice-outside : {X : Type 0} (xs : List X) (i : ℕ) → length xs ≤ i → slice_get xs i ≡ None
slice-outside [] i l = refl
slice-outside (x ∷ xs) zero l = absurd (omega arith)
slice-outside (x ∷ xs) (suc i) l = slice-outside xs i (omega arith)

pub nth-outside : {X : Type 0} (xs : List X) (n : ℕ) → (n ≡ 0) ⊎ (length xs < n) → nth xs n ≡ None
nth-outside xs zero out = refl
nth-outside xs (suc m) (inl e) = absurd (omega arith)
nth-outside xs (suc m) (inr l) =
    let t : nat_lt 0 (suc m) ≡ true = grind (arith, nat_tests) in
    let e : suc m - 1 ≡ m = omega arith in
    cond-true _ _ _ t ∙ ap (λ i. slice_get xs i) e ∙ slice-outside xs m (omega arith)

-- the packet of the number is that of the place
pub nth-place : (k : WorldState) (w : World) (place number : ℕ) (s : Sent) → Represents k w → slice_get k.sent place ≡ Some s → number ≡ place + 1
    → nth w.packets number ≡ Some s.packet
nth-place k w place number s h at is =
    ap (λ ps. nth ps number) h.packets
    ∙ nth-get (map packet_of k.sent) number s.packet (omega arith) (λ m e.
    let same : m ≡ place = omega arith in
    ap (λ i. slice_get (map packet_of k.sent) i) same ∙ packet-get k.sent place s at)

-- AN EVENT AT A SITE
packets-append : (sent : List Sent) (ps : List Packet) → map packet_of (sent ++ unmarked ps) ≡ map packet_of sent ++ ps
packets-append [] [] = refl
packets-append [] (p ∷ ps) = ap (λ qs. p ∷ qs) (packets-append [] ps)
packets-append (s ∷ ss) ps = ap (λ qs. packet_of s ∷ qs) (packets-append ss ps)

stands_step : (k : WorldState) (w : World) (s : ℕ) (r : Stepped) → Represents k w → Represents (after_step s k r) (stepped w s r)
stands_step k w s r h = record {
  sites = ap (λ sites. slice_set sites (s - 1) r.site) h.sites;
  packets = ap (λ ps. ps ++ r.out.packets) h.packets ∙ sym (packets-append k.sent r.out.packets);
  marked = λ i. h.marked i ∙ sym (marked-append k.sent r.out.packets i);
  history = noted-append no_history w.notes r.out.notes ∙ ap (λ t. noted_all t r.out.notes) h.history;
  sessions = how_many-append is_opening w.notes r.out.notes ∙ ap (λ n. n + opened_in r.out.notes) h.sessions;
  transactions = how_many-append is_beginning w.notes r.out.notes ∙ ap (λ n. n + begun_in r.out.notes) h.transactions;
}

-- where no site is
stands_nothing : (k : WorldState) (w : World) → Represents k w → Represents (after_nothing k) w
stands_nothing k w h = record {
  sites = h.sites;
  packets = h.packets;
  marked = h.marked;
  history = h.history;
  sessions = h.sessions;
  transactions = h.transactions;
}

stands_one : (k : WorldState) (w : World) (s : ℕ) (e : Event) (o : Option Site) → Represents k w → Represents (after_one k s e o) (at_one w s e o)
stands_one k w s e None h = stands_nothing k w h
stands_one k w s e (Some site) h = stands_step k w s (site_step site e) h

pub stands_at : (k : WorldState) (w : World) (s : ℕ) (e : Event) → Represents k w → Represents (after_at k s e) (at_site w s e)
stands_at k w s e h = subst (λ sites. Represents (after_at k s e) (at_one w s e (nth sites s))) (sym h.sites) (stands_one k w s e (nth k.sites s) h)

events-one : (k : WorldState) (s : ℕ) (e : Event) (o : Option Site) → (after_one k s e o).events ≡ k.events + 1
events-one k s e None = refl
events-one k s e (Some site) = refl

pub events-at : (k : WorldState) (s : ℕ) (e : Event) → (after_at k s e).events ≡ k.events + 1
events-at k s e = events-one k s e (nth k.sites s)

-- the site of a number that there is, and where there is none
pub after_stepped : (k : WorldState) (s place : ℕ) (e : Event) (site : Site) → s ≡ place + 1 → slice_get k.sites place ≡ Some site
    → after_at k s e ≡ after_step (place + 1) k (site_step site e)
after_stepped k s place e site is at =
    ap (λ n. after_at k n e) is
    ∙ ap (after_one k (place + 1) e) (nth-get k.sites (place + 1) site (omega arith)
    (λ m f. let same : m ≡ place = omega arith in ap (λ i. slice_get k.sites i) same ∙ at))

pub after_none : (k : WorldState) (s : ℕ) (e : Event) → (s ≡ 0) ⊎ (length k.sites < s) → after_at k s e ≡ after_nothing k
after_none k s e out = ap (after_one k s e) (nth-outside k.sites s out)

-- A PACKET IS DELIVERED
or-false : (a b : Bool) → b ≡ false → (a || (b || false)) ≡ a
or-false true b e = refl
or-false false true e = e
or-false false false e = refl

or-true : (a b : Bool) → b ≡ true → (a || (b || false)) ≡ true
or-true true b e = refl
or-true false true e = refl
or-true false false e = e

del-other : (del : List ℕ) (n m : ℕ) → (n == m) ≡ false → is_delivered (del ++ n ∷ []) m ≡ is_delivered del m
del-other del n m e = list_any-append (λ j. j == m) del (n ∷ []) ∙ or-false (is_delivered del m) (n == m) e

del-same : (del : List ℕ) (n m : ℕ) → n ≡ m → is_delivered (del ++ n ∷ []) m ≡ true
del-same del n m e =
    let t : (n == m) ≡ true = grind (arith, nat_tests) in
    list_any-append (λ j. j == m) del (n ∷ []) ∙ or-true (is_delivered del m) (n == m) t

stands_marked : (k : WorldState) (w : World) (place number : ℕ) (s : Sent) → Represents k w → slice_get k.sent place ≡ Some s → number ≡ place + 1
    → Represents (marked place s k) (delivered w number)
stands_marked k w place number s h at is = record {
  sites = h.sites;
  packets = h.packets ∙ sym (packets-set k.sent place s (record s { delivered = true }) at refl);
  marked = λ i. mark i (number == (i + 1)) refl;
  history = h.history;
  sessions = h.sessions;
  transactions = h.transactions;
}
  where
    done : Sent
    done = record s { delivered = true }

    there : (i : ℕ) → (number == (i + 1)) ≡ true → is_marked_at (slice_set k.sent place (record s { delivered = true })) i ≡ true
    there i t =
        let same : i ≡ place = grind (arith, nat_tests) in
        ap (λ j. is_marked_at (slice_set k.sent place (record s { delivered = true })) j) same ∙ marked-same k.sent place s (record s { delivered = true }) at

    elsewhere : (i : ℕ) → (number == (i + 1)) ≡ false → is_marked_at (slice_set k.sent place (record s { delivered = true })) i ≡ is_marked_at k.sent i
    elsewhere i t = marked-other k.sent place i (record s { delivered = true }) (λ e. let same : (number == (i + 1)) ≡ true = grind (arith, nat_tests) in cc)

    mark : (i : ℕ) (t : Bool) → (number == (i + 1)) ≡ t
        → is_delivered (w.delivered ++ number ∷ []) (i + 1) ≡ is_marked_at (slice_set k.sent place (record s { delivered = true })) i
    mark i true t =
        let same : number ≡ i + 1 = grind (arith, nat_tests) in
        del-same w.delivered number (i + 1) same ∙ sym (there i t)
    mark i false t = del-other w.delivered number (i + 1) t ∙ h.marked i ∙ sym (elsewhere i t)

pub stands_delivery : (k : WorldState) (w : World) (place number : ℕ) (s : Sent) → Represents k w → slice_get k.sent place ≡ Some s → number ≡ place + 1
    → Represents (after_delivery place s k) (world_step w (DeliverPacket number))
unfolding world_step
stands_delivery k w place number s h at is =
    let sent : nth w.packets number ≡ Some s.packet = nth-place k w place number s h at is in
    subst (λ o. Represents (after_delivery place s k) (deliver_packet w number o)) (sym sent)
    (stands_at (marked place s k) (delivered w number) s.packet.to.site (event.Take s.packet) (stands_marked k w place number s h at is))

-- THE PACKET AT A PLACE IS DELIVERED
pub come_of : {A : Type 0} (r : Result A WorldFault) (place : ℕ) (old new : WorldState) (after : List Sent) (packet : Packet)
    → IsDelivered place old.sent after packet
    → OnOk r (new ≡ after_at (record old { sent = after }) packet.to.site (event.Take packet))
    → LimitSays r (passed_by (after_at (record old { sent = after }) packet.to.site (event.Take packet)))
    → HasCome r place old new
come_of r place old new after packet d happened limit =
    let same : after_at (record old { sent = after }) packet.to.site (event.Take packet) ≡ after_delivery place d.sent old =
    λ i. after_at (record old { sent = d.marked i }) (d.is i).to.site (event.Take (d.is i))
    in
    record {
      sent = d.sent;
      at = d.at;
      after = subst (λ k. OnOk r (new ≡ k)) same happened;
      limit = subst (λ k. LimitSays r (passed_by k)) same limit;
    }

some-place : {X : Type 0} (xs : List X) (i : ℕ) → i < length xs → (x : X) × (slice_get xs i ≡ Some x)
some-place [] i l = absurd (omega arith)
some-place (x ∷ xs) zero l = (x, refl)
some-place (x ∷ xs) (suc i) l = some-place xs i (omega arith)

-- or memory ran out
pub come_not : {A : Type 0} (place : ℕ) (old new : WorldState) → place < length old.sent → HasCome {A = A} (Err fault.Memory) place old new
come_not place old new within =
    let there = some-place old.sent place within in
    record { sent = there.0; at = there.1; after = tt; limit = tt }

-- A SITE TAKES AN EVENT
map-get : {A B : Type 0} (f : A → B) (xs : List A) (place : ℕ) (x : A) → slice_get xs place ≡ Some x → slice_get (map f xs) place ≡ Some (f x)
map-get f [] place x e = absurd (cc)
map-get f (y ∷ ys) zero x e =
    let same : y ≡ x = cc in
    ap (λ z. Some (f z)) same
map-get f (y ∷ ys) (suc place) x e = map-get f ys place x e

map-put : {A B : Type 0} (f : A → B) (xs : List A) (place : ℕ) (x : A) → map f (slice_set xs place x) ≡ slice_set (map f xs) place (f x)
map-put f [] place x = refl
map-put f (y ∷ ys) zero x = refl
map-put f (y ∷ ys) (suc place) x = ap (λ zs. f y ∷ zs) (map-put f ys place x)

pub has_stepped : {E : Type 0} (r : Result Outputs E) (sites : List Served) (place : ℕ) (other new : Served) (e : Event) → place < length sites
    → OnOk r (new.site ≡ (site_step (get_or sites place other).site e).site) → IfOk r (λ out. out ≡ (site_step (get_or sites place other).site e).out)
    → IfOk r (λ out. HasStepped place e sites (slice_set sites place new) out)
has_stepped (Ok out) sites place other new e within site gives = record {
  site = (get_or sites place other).site;
  at = map-get site_of sites place (get_or sites place other) (slice_get-get_or sites place other within);
  sites = map-put site_of sites place new ∙ ap (λ x. slice_set (map site_of sites) place x) site;
  gives = gives;
}
has_stepped (Err x) sites place other new e within site gives = tt

-- and the world is as after it
pub world_stepped : (k : WorldState) (s place : ℕ) (e : Event) (sites new : List Served) (out : Outputs) → s ≡ place + 1 → k.sites ≡ map site_of sites
    → (h : HasStepped place e sites new out)
    → after_at k s e ≡ record {
      sites = map site_of new;
      sent = k.sent ++ unmarked out.packets;
      history = noted_all k.history out.notes;
      events = k.events + 1;
      sessions = k.sessions + opened_in out.notes;
      transactions = k.transactions + begun_in out.notes;
    }
world_stepped k s place e sites new out is are h =
    let r = site_step h.site e in
    let at : slice_get k.sites place ≡ Some h.site = ap (λ xs. slice_get xs place) are ∙ h.at in
    let back : place + 1 - 1 ≡ place = omega arith in
    after_stepped k s place e h.site is at
    ∙ (λ i. record {
      sites = slice_set (are i) (back i) r.site;
      sent = k.sent ++ unmarked (sym h.gives i).packets;
      history = noted_all k.history (sym h.gives i).notes;
      events = k.events + 1;
      sessions = k.sessions + opened_in (sym h.gives i).notes;
      transactions = k.transactions + begun_in (sym h.gives i).notes;
    })
    ∙ ap (λ xs. record {
      sites = xs;
      sent = k.sent ++ unmarked out.packets;
      history = noted_all k.history out.notes;
      events = k.events + 1;
      sessions = k.sessions + opened_in out.notes;
      transactions = k.transactions + begun_in out.notes;
    }) (sym h.sites)

-- A NOTE IS TOLD
pub told_decided : {A : Type 0} (r : Result A Memory) (tid : Tid) (vector : List ℕ) (o : Option Begun) (old new : History) → o ≡ begun_of tid old.begun
    → OnOk r (HasDecided false vector o old new) → OnOk r (new ≡ noted old (note.Decided tid vector))
told_decided (Err e) tid vector o old new is h = tt
told_decided (Ok u) tid vector o old new is h = on o h ∙ ap (decided_one old false vector) is
  where
    on : (o : Option Begun) → HasDecided false vector o old new → new ≡ decided_one old false vector o
    on None h = h
    on (Some b) h = h
