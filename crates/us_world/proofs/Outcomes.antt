-- Lines lead to one outcome.
use Rattle.std.proofs.Common.{◌≡◌, ◌∙◌, ℕ, ◌+◌, List, [], ◌∷◌, length, map, Option, Some, None, refl, sym, ap, subst, inl, inr, ◌⊎◌, arith}
use Rattle.us_schedule.specs.declared.line.Line.{Line}
use Rattle.us_schedule.specs.declared.line.Line.TheVariants as line
use Rattle.us_model.specs.Worlds.{World, WorldEvent, DeliverPacket, Flushes, least_undelivered, world_step, run, start}
use Rattle.us_world.specs.declared.fault.WorldFault.{WorldFault}
use Rattle.us_model.specs.declared.settings.Settings.{Settings}
use Rattle.us_world.specs.declared.fault.Numbered.{Numbered}
use Rattle.us_world.specs.Limits.{passed, or_else, limit_of, Performs, Begins, Delivers, IsWorldOf, IsPassedAt, OutcomesAreOne, lines_of}
use Rattle.us_world.proofs.RunsTo.{Outcome, Reaches, Passes, RunsTo, runs_to_world, runs_to_limit}

-- the least packet is one
same-least : (o : Option ℕ) (j k : ℕ) (g h : WorldEvent) → o ≡ Some j → o ≡ Some k → g ≡ DeliverPacket j → h ≡ DeliverPacket k → g ≡ h
same-least o j k g h a b c d =
    let same : j ≡ k = cc in
    c ∙ ap DeliverPacket same ∙ sym d

no-least : {A : Type 0} (o : Option ℕ) (j : ℕ) → o ≡ None → o ≡ Some j → A
no-least o j a b = absurd (cc)

flushes-one : (from to : ℕ) (w : World) (hs gs : List WorldEvent) → Flushes from to w hs → Flushes from to w gs → hs ≡ gs
flushes-one from to w [] [] f g = refl
flushes-one from to w [] (g ∷ gs) f more = no-least (least_undelivered w from to) more.0.0 f more.0.1
flushes-one from to w (h ∷ hs) [] more g = no-least (least_undelivered w from to) more.0.0 g more.0.1
flushes-one from to w (h ∷ hs) (g ∷ gs) f e =
    let same : h ≡ g = same-least (least_undelivered w from to) f.0.0 e.0.0 h g f.0.1 e.0.1 f.0.2 e.0.2 in
    let rest : Flushes from to (world_step w h) gs = subst (λ i. Flushes from to (world_step w i) gs) (sym same) e.1 in
    ap (λ i. i ∷ hs) same ∙ ap (λ is. g ∷ is) (flushes-one from to (world_step w h) hs gs f.1 rest)

pub performs-one : (l : Line) (w : World) (hs gs : List WorldEvent) → Performs l w hs → Performs l w gs → hs ≡ gs
performs-one (line.Open site coord) w hs gs f g = f ∙ sym g
performs-one (line.Bytes site coord session piece) w hs gs f g = f ∙ sym g
performs-one (line.Deliver number) w hs gs f g = f ∙ sym g
performs-one (line.Flush from to) w hs gs f g = flushes-one from to w hs gs f g
performs-one (line.Close site coord session) w hs gs f g = f ∙ sym g
performs-one (line.Tick site actor clock) w hs gs f g = absurd f
performs-one (line.Lead site) w hs gs f g = absurd f
performs-one (line.Forward site origin) w hs gs f g = absurd f
performs-one (line.Crash site) w hs gs f g = absurd f
performs-one (line.Settle clock rounds) w hs gs f g = absurd f

-- a limit that is passed is passed by more
or-some : (a b : Option WorldFault) (which : WorldFault) → or_else a b ≡ Some which → (a ≡ Some which) ⊎ ((a ≡ None) × (b ≡ Some which))
or-some None b which e = inr (refl, e)
or-some (Some x) b which e = inl e

-- THE FIRST DELIVERIES OF A FLUSH, and the whole one
front-past : (from to n : ℕ) (w : World) (hs gs : List WorldEvent) (which : WorldFault) → Delivers from to w hs → Flushes from to w gs
    → limit_of n hs w ≡ Some which → limit_of n gs w ≡ Some which
front-past from to n w [] gs which d f past = absurd (cc)
front-past from to n w (h ∷ hs) [] which d f past = no-least (least_undelivered w from to) d.0.0 f d.0.1
front-past from to n w (h ∷ hs) (g ∷ gs) which d f past =
    let same : h ≡ g = same-least (least_undelivered w from to) d.0.0 f.0.0 h g d.0.1 f.0.1 d.0.2 f.0.2 in
    let rest : Flushes from to (world_step w h) gs = subst (λ i. Flushes from to (world_step w i) gs) (sym same) f.1 in
    let here : limit_of n (h ∷ gs) w ≡ Some which =
    on (passed (n + 1) (world_step w h)) past (λ p. front-past from to (n + 1) (world_step w h) hs gs which d.1 rest p) in
    subst (λ i. limit_of n (i ∷ gs) w ≡ Some which) same here
  where
    on : (o : Option WorldFault) → or_else o (limit_of (n + 1) hs (world_step w h)) ≡ Some which
        → (limit_of (n + 1) hs (world_step w h) ≡ Some which → limit_of (n + 1) gs (world_step w h) ≡ Some which)
        → or_else o (limit_of (n + 1) gs (world_step w h)) ≡ Some which
    on None p rec = rec p
    on (Some x) p rec = p

-- two fronts pass one limit
fronts-past : (from to n : ℕ) (w : World) (hs gs : List WorldEvent) (a b : WorldFault) → Delivers from to w hs → Delivers from to w gs
    → limit_of n hs w ≡ Some a → limit_of n gs w ≡ Some b → a ≡ b
fronts-past from to n w [] gs a b d e p q = absurd (cc)
fronts-past from to n w (h ∷ hs) [] a b d e p q = absurd (cc)
fronts-past from to n w (h ∷ hs) (g ∷ gs) a b d e p q =
    let same : h ≡ g = same-least (least_undelivered w from to) d.0.0 e.0.0 h g d.0.1 e.0.1 d.0.2 e.0.2 in
    let rest : Delivers from to (world_step w h) gs = subst (λ i. Delivers from to (world_step w i) gs) (sym same) e.1 in
    let there : limit_of n (h ∷ gs) w ≡ Some b = subst (λ i. limit_of n (i ∷ gs) w ≡ Some b) (sym same) q in
    on (passed (n + 1) (world_step w h)) p there (λ x y. fronts-past from to (n + 1) (world_step w h) hs gs a b d.1 rest x y)
  where
    on : (o : Option WorldFault) → or_else o (limit_of (n + 1) hs (world_step w h)) ≡ Some a → or_else o (limit_of (n + 1) gs (world_step w h)) ≡ Some b
        → (limit_of (n + 1) hs (world_step w h) ≡ Some a → limit_of (n + 1) gs (world_step w h) ≡ Some b → a ≡ b) → a ≡ b
    on None x y rec = rec x y
    on (Some c) x y rec = cc

-- events that are determined pass one limit
determined : (n : ℕ) (w : World) (hs gs : List WorldEvent) (a b : WorldFault) → hs ≡ gs → limit_of n hs w ≡ Some a → limit_of n gs w ≡ Some b → a ≡ b
determined n w hs gs a b same p q =
    let there : limit_of n hs w ≡ Some b = ap (λ is. limit_of n is w) same ∙ q in
    cc

begins-one : (l : Line) (n : ℕ) (w : World) (hs gs : List WorldEvent) (a b : WorldFault) → Begins l w hs → Begins l w gs → limit_of n hs w ≡ Some a
    → limit_of n gs w ≡ Some b → a ≡ b
begins-one (line.Flush from to) n w hs gs a b d e p q = fronts-past from to n w hs gs a b d e p q
begins-one (line.Open site coord) n w hs gs a b d e p q = determined n w hs gs a b (d ∙ sym e) p q
begins-one (line.Bytes site coord session piece) n w hs gs a b d e p q = determined n w hs gs a b (d ∙ sym e) p q
begins-one (line.Deliver number) n w hs gs a b d e p q = determined n w hs gs a b (d ∙ sym e) p q
begins-one (line.Close site coord session) n w hs gs a b d e p q = determined n w hs gs a b (d ∙ sym e) p q
begins-one (line.Tick site actor clock) n w hs gs a b d e p q = absurd d
begins-one (line.Lead site) n w hs gs a b d e p q = absurd d
begins-one (line.Forward site origin) n w hs gs a b d e p q = absurd d
begins-one (line.Crash site) n w hs gs a b d e p q = absurd d
begins-one (line.Settle clock rounds) n w hs gs a b d e p q = absurd d

-- what passes a limit isn't performed within the limits
front-within : (l : Line) (n : ℕ) (w : World) (hs gs : List WorldEvent) (which : WorldFault) → Begins l w hs → limit_of n hs w ≡ Some which
    → Performs l w gs → limit_of n gs w ≡ Some which
front-within (line.Flush from to) n w hs gs which d p f = front-past from to n w hs gs which d f p
front-within (line.Open site coord) n w hs gs which d p f = ap (λ is. limit_of n is w) (f ∙ sym d) ∙ p
front-within (line.Bytes site coord session piece) n w hs gs which d p f = ap (λ is. limit_of n is w) (f ∙ sym d) ∙ p
front-within (line.Deliver number) n w hs gs which d p f = ap (λ is. limit_of n is w) (f ∙ sym d) ∙ p
front-within (line.Close site coord session) n w hs gs which d p f = ap (λ is. limit_of n is w) (f ∙ sym d) ∙ p
front-within (line.Tick site actor clock) n w hs gs which d p f = absurd d
front-within (line.Lead site) n w hs gs which d p f = absurd d
front-within (line.Forward site origin) n w hs gs which d p f = absurd d
front-within (line.Crash site) n w hs gs which d p f = absurd d
front-within (line.Settle clock rounds) n w hs gs which d p f = absurd d

some-none : {A X : Type 0} (o : Option X) (x : X) → o ≡ None → o ≡ Some x → A
some-none o x a b = absurd (cc)

outcomes-one : (lines : List Numbered) (events : ℕ) (w : World) (a b : Outcome) → RunsTo lines events w a → RunsTo lines events w b → a ≡ b
outcomes-one [] n w a b x y = x ∙ sym y
outcomes-one (l ∷ ls) n w a b (inl x) (inl y) =
    let same : y.0 ≡ x.0 = performs-one l.line w y.0 x.0 y.1 x.1 in
    let there : RunsTo ls (n + length x.0) (run x.0 w) b = subst (λ hs. RunsTo ls (n + length hs) (run hs w) b) same y.3 in
    outcomes-one ls (n + length x.0) (run x.0 w) a b x.3 there
outcomes-one (l ∷ ls) n w a b (inl x) (inr y) =
    some-none (limit_of n x.0 w) y.0 x.2 (front-within l.line n w y.1.0 x.0 y.0 y.1.1 y.1.2 x.1)
outcomes-one (l ∷ ls) n w a b (inr x) (inl y) =
    some-none (limit_of n y.0 w) x.0 y.2 (front-within l.line n w x.1.0 y.0 x.0 x.1.1 x.1.2 y.1)
outcomes-one (l ∷ ls) n w a b (inr x) (inr y) =
    let same : x.0 ≡ y.0 = begins-one l.line n w x.1.0 y.1.0 x.0 y.0 x.1.1 y.1.1 x.1.2 y.1.2 in
    x.2 ∙ ap (λ which. Passes l.number which) same ∙ sym y.2

reached : (settings : Settings) (lines : List Numbered) (w : World) → IsWorldOf settings (lines_of lines) w → RunsTo lines 0 (start settings) (Reaches w)
reached settings lines w h = subst (λ v. RunsTo lines 0 (start settings) (Reaches v)) (sym h.run) (runs_to_world lines 0 (start settings) h.events h.are h.within)

-- lines under some number
abbrev numbered : Line → Numbered
numbered l = record { number = 0; line = l }

numbered-lines : (lines : List Line) → lines_of (map numbered lines) ≡ lines
numbered-lines [] = refl
numbered-lines (l ∷ ls) = ap (λ ks. l ∷ ks) (numbered-lines ls)

reached_by : (settings : Settings) (lines : List Line) (w : World) → IsWorldOf settings lines w → RunsTo (map numbered lines) 0 (start settings) (Reaches w)
reached_by settings lines w h = reached settings (map numbered lines) w (subst (λ ls. IsWorldOf settings ls w) (sym (numbered-lines lines)) h)

passed_by : (settings : Settings) (lines : List Numbered) (n : ℕ) (which : WorldFault) → IsPassedAt settings lines n which
    → RunsTo lines 0 (start settings) (Passes n which)
passed_by settings lines n which h =
    let p = h.passed in
    let zero : 0 + length p.events ≡ length p.events = omega arith in
    let there =
    runs_to_limit h.before h.line h.after 0 (start settings) p.events p.own which p.are p.within p.first
    (ap (λ n. limit_of n p.own (run p.events (start settings))) zero ∙ p.passes) in
    subst (λ m. RunsTo lines 0 (start settings) (Passes m which)) h.at
    (subst (λ (ls : List Numbered). RunsTo ls 0 (start settings) (Passes h.line.number which)) (sym h.split) there)

same_world : (w v : World) → Reaches w ≡ Reaches v → w ≡ v
same_world w v e = cc

same_limit : (n m : ℕ) (a b : WorldFault) → Passes n a ≡ Passes m b → (n ≡ m) × (a ≡ b)
same_limit n m a b e = (cc, cc)

not_both : (w : World) (n : ℕ) (a : WorldFault) → Reaches w ≡ Passes n a → ⊥
not_both w n a e = absurd (cc)

pub outcomes_one : OutcomesAreOne
outcomes_one = record {
  worlds =
      λ settings lines w v x y. same_world w v (outcomes-one (map numbered lines) 0 (start settings) (Reaches w) (Reaches v) (reached_by settings lines w x)
      (reached_by settings lines v y));
  limits =
      λ settings lines n m a b x y. same_limit n m a b (outcomes-one lines 0 (start settings) (Passes n a) (Passes m b)
      (passed_by settings lines n a x) (passed_by settings lines m b y));
  apart =
      λ settings lines w n a x y. not_both w n a (outcomes-one lines 0 (start settings) (Reaches w) (Passes n a) (reached settings lines w x)
      (passed_by settings lines n a y));
}
