-- Events, one after another: their limit, and what is kept along with them.
use Rattle.std.proofs.Common.{◌≡◌, ◌∙◌, ℕ, ◌+◌, List, [], ◌∷◌, ◌++◌, length, Option, Some, None, Ok, Err, refl, sym, ap, subst, arith}
use Rattle.std.specs.Prelude.{Result, OnOk, IfErr}
use Rattle.us_model.specs.Worlds.{World, WorldEvent, world_step, run}
use Rattle.us_world.specs.declared.fault.WorldFault.{WorldFault}
use Rattle.us_world.specs.declared.fault.WorldFault.TheVariants as fault
use Rattle.us_world.specs.Limits.{past_limits, passed, or_else, limit_of}
use Rattle.us_world.specs.WorldState.{WorldState, Represents, passed_by, LimitSays}
use Rattle.us_world.specs.Lines.{AdvancesBy, ExceedsBy, StoppedBy}

pub run-append : (hs gs : List WorldEvent) (w : World) → run (hs ++ gs) w ≡ run gs (run hs w)
run-append [] gs w = refl
run-append (h ∷ hs) gs w = run-append hs gs (world_step w h)

-- THE LIMIT OF MORE EVENTS
or-assoc : (a b c : Option WorldFault) → or_else (or_else a b) c ≡ or_else a (or_else b c)
or-assoc None b c = refl
or-assoc (Some which) b c = refl

pub limit-append : (n : ℕ) (hs gs : List WorldEvent) (w : World) → limit_of n (hs ++ gs) w ≡ or_else (limit_of n hs w) (limit_of (n + length hs) gs (run hs w))
limit-append n [] gs w =
    let same : n ≡ n + 0 = omega arith in
    ap (λ m. limit_of m gs w) same
limit-append n (h ∷ hs) gs w =
    let v = world_step w h in
    let same : n + 1 + length hs ≡ n + length (h ∷ hs) = omega arith in
    ap (λ o. or_else (passed (n + 1) v) o) (limit-append (n + 1) hs gs v ∙ ap (λ m. or_else (limit_of (n + 1) hs v) (limit_of m gs (run hs v))) same)
    ∙ sym (or-assoc (passed (n + 1) v) (limit_of (n + 1) hs v) (limit_of (n + length (h ∷ hs)) gs (run hs v)))

-- after events within the limits the limit is that of the others
pub limit_after : (n m : ℕ) (hs gs : List WorldEvent) (w : World) (o : Option WorldFault) → limit_of n hs w ≡ None → m ≡ n + length hs
    → limit_of m gs (run hs w) ≡ o
    → limit_of n (hs ++ gs) w ≡ o
limit_after n m hs gs w o none is rest =
    limit-append n hs gs w ∙ ap (λ p. or_else p (limit_of (n + length hs) gs (run hs w))) none ∙ ap (λ k. limit_of k gs (run hs w)) (sym is) ∙ rest

-- ONE EVENT
-- the counts are those of the world
passed-stands : (k : WorldState) (w : World) (n : ℕ) → Represents k w → n ≡ k.events → passed n w ≡ passed_by k
passed-stands k w n h is = λ i. past_limits (is i) (h.sessions i) (h.transactions i)

pub limit_one : (after : WorldState) (w : World) (h : WorldEvent) (n : ℕ) (o : Option WorldFault) → Represents after (world_step w h) → after.events ≡ n + 1
    → passed_by after ≡ o
    → limit_of n (h ∷ []) w ≡ o
limit_one after w h n o stands is says = ap (λ p. or_else p None) (passed-stands after (world_step w h) (n + 1) stands (sym is) ∙ says) ∙ or-none o
  where
    or-none : (p : Option WorldFault) → or_else p None ≡ p
    or-none None = refl
    or-none (Some which) = refl

-- what an event goes from and to, in each world
pub record OneEvent (Are : World → List WorldEvent → Type 0) (old after : WorldState) : Type 0 where
  pub world_event : World → WorldEvent
  pub is : (w : World) → Represents old w → Are w (world_event w ∷ [])
  pub stands : (w : World) → Represents old w → Represents after (world_step w (world_event w))
  pub counts : after.events ≡ old.events + 1

goes-one : (Are : World → List WorldEvent → Type 0) (old after new : WorldState) → OneEvent Are old after → new ≡ after → passed_by after ≡ None → AdvancesBy Are old new
goes-one Are old after new one is within =
    subst (λ m. AdvancesBy Are old m) (sym is) (λ w h.
    let g = one.world_event w in
    let stands = one.stands w h in
    let one-more : after.events ≡ old.events + length (g ∷ []) = one.counts in
    (g ∷ [], one.is w h, limit_one after w g old.events None stands one.counts within, stands, one-more))

passes-one : (Are : World → List WorldEvent → Type 0) (old after : WorldState) (which : WorldFault) → OneEvent Are old after → passed_by after ≡ Some which
    → ExceedsBy Are old which
passes-one Are old after which one past w h =
    let g = one.world_event w in
    (g ∷ [], one.is w h, limit_one after w g old.events (Some which) (one.stands w h) one.counts past)

pub one_goes : {A : Type 0} (r : Result A WorldFault) (Are : World → List WorldEvent → Type 0) (old after new : WorldState) → OneEvent Are old after
    → OnOk r (new ≡ after) → LimitSays r (passed_by after) → OnOk r (AdvancesBy Are old new)
one_goes (Ok u) Are old after new one is says = goes-one Are old after new one is says
one_goes (Err e) Are old after new one is says = tt

pub one_stops : {A : Type 0} (r : Result A WorldFault) (Are : World → List WorldEvent → Type 0) (old after : WorldState) → OneEvent Are old after
    → LimitSays r (passed_by after) → IfErr r (λ e. StoppedBy Are old e)
one_stops (Ok u) Are old after one says = tt
one_stops (Err fault.Memory) Are old after one says = tt
one_stops (Err fault.Events) Are old after one says = passes-one Are old after fault.Events one says
one_stops (Err fault.Sessions) Are old after one says = passes-one Are old after fault.Sessions one says
one_stops (Err fault.Transactions) Are old after one says = passes-one Are old after fault.Transactions one says

-- ---- what is said of events that are such

pub goes_weaker : (Are Be : World → List WorldEvent → Type 0) (old new : WorldState) → ((w : World) → Represents old w → (hs : List WorldEvent) → Are w hs → Be w hs)
    → AdvancesBy Are old new → AdvancesBy Be old new
goes_weaker Are Be old new weaker goes w h =
    let g = goes w h in
    (g.0, weaker w h g.0 g.1, g.2, g.3, g.4)

passes-weaker : (Are Be : World → List WorldEvent → Type 0) (old : WorldState) (which : WorldFault)
    → ((w : World) → Represents old w → (hs : List WorldEvent) → Are w hs → Be w hs)
    → ExceedsBy Are old which → ExceedsBy Be old which
passes-weaker Are Be old which weaker passes w h =
    let g = passes w h in
    (g.0, weaker w h g.0 g.1, g.2)

pub stopped_weaker : (Are Be : World → List WorldEvent → Type 0) (old : WorldState) (e : WorldFault)
    → ((w : World) → Represents old w → (hs : List WorldEvent) → Are w hs → Be w hs)
    → StoppedBy Are old e → StoppedBy Be old e
stopped_weaker Are Be old fault.Memory weaker h = tt
stopped_weaker Are Be old fault.Events weaker h = passes-weaker Are Be old fault.Events weaker h
stopped_weaker Are Be old fault.Sessions weaker h = passes-weaker Are Be old fault.Sessions weaker h
stopped_weaker Are Be old fault.Transactions weaker h = passes-weaker Are Be old fault.Transactions weaker h
