-- Sites, ballots and what a ballot log holds.
use Rattle.std.specs.Prelude.{ℕ, zero, suc, ◌+◌, ◌-◌, ◌*◌, ◌%◌, ◌≤◌, List, [], ◌∷◌, length, map, filter}
use Rattle.std.specs.Prelude.{Bool, true, false, not, ◌&&◌, ◌||◌, ◌==◌, if◌then◌else◌, nat_lt, nat_le, Option, Some, None, replicate, slice_get}
use Rattle.std.specs.List.{list_any}
use Rattle.us_ballot_model.specs.declared.log.PromisedLog.{PromisedLog}
use Rattle.us_ballot_model.specs.declared.log.Role.{Role}
use Rattle.us_ballot_model.specs.declared.log.Role.TheVariants.{Follower, Candidate, Leader}
use Rattle.us_ballot_model.specs.declared.log.BallotLog.{BallotLog}
use Rattle.us_ballot_model.specs.declared.message.BallotMessage.{BallotMessage}
use Rattle.us_ballot_model.specs.declared.message.BallotMessage.TheVariants.{NewBallot, Promise, NewState, Accept, Accepted, CatchUp, Learn}

-- SITES: k of them from i on
abbrev pub sites_from : ℕ → ℕ → List ℕ
sites_from i zero = []
sites_from i (suc k) = i ∷ sites_from (i + 1) k

-- the 2f + 1 sites
abbrev pub sites : ℕ → List ℕ
sites f = sites_from 1 (2 * f + 1)

abbrev pub others : {E : Type 0} → BallotLog E → List ℕ
others c = filter (λ j. not (j == c.site)) (sites c.f)

-- BALLOTS: ballot b belongs to the sites in turn
unfoldable pub owner : ℕ → ℕ → ℕ
owner f b = 1 + (b - 1) % (2 * f + 1)

-- the least ballot above b that site s owns
unfoldable pub next_ballot : ℕ → ℕ → ℕ → ℕ
next_ballot f s b = b + 1 + (2 * f + s - b % (2 * f + 1)) % (2 * f + 1)

-- the greatest ballot
abbrev pub LAST : ℕ
LAST = 4611686018427387904

-- A LOG: its chosen entries, and all that it holds
abbrev pub count : {E : Type 0} → BallotLog E → ℕ
count c = length c.chosen

abbrev pub held : {E : Type 0} → BallotLog E → ℕ
held c = length c.chosen + length c.tail

-- a tail has at most 8 entries, and so has each page of chosen ones
abbrev pub WINDOW : ℕ
WINDOW = 8

-- PROMISES: the own one
abbrev pub own_promise : {E : Type 0} → BallotLog E → PromisedLog E
own_promise c = record { site = c.site; accepted = c.accepted; base = count c; tail = c.tail }

abbrev pub has_promised : {E : Type 0} → List (PromisedLog E) → ℕ → Bool
has_promised promises j = list_any (λ v. v.site == j) promises

-- up to where the site of a promise held entries
abbrev pub reach : {E : Type 0} → PromisedLog E → ℕ
reach v = v.base + length v.tail

-- by the ballot of the tail, then by length, then by the lesser site
abbrev pub is_better : {E : Type 0} → PromisedLog E → PromisedLog E → Bool
is_better u v =
    nat_lt v.accepted u.accepted || ((v.accepted == u.accepted) && (nat_lt (reach v) (reach u) || ((reach v == reach u) && nat_lt u.site v.site)))

-- the best of a promise and more
abbrev pub best : {E : Type 0} → PromisedLog E → List (PromisedLog E) → PromisedLog E
best v [] = v
best v (u ∷ us) = best (if is_better u v then u else v) us

-- ACKNOWLEDGEMENTS: nobody's yet
abbrev pub no_acks : List (Option ℕ)
no_acks = replicate 9 None

-- each site's, of nothing
abbrev pub first_acks : List (Option ℕ)
first_acks = replicate 9 (Some 0)

abbrev pub at_least : ℕ → Option ℕ → Bool
at_least n None = false
at_least n (Some m) = nat_le n m

-- how many other sites have acknowledged n entries
abbrev pub backers : List (Option ℕ) → ℕ → ℕ
backers acks n = length (filter (at_least n) acks)

abbrev pub flat : Option (Option ℕ) → Option ℕ
flat None = None
flat (Some a) = a

-- what site j has acknowledged, if anything
abbrev pub ack_of : List (Option ℕ) → ℕ → Option ℕ
ack_of acks j = flat (slice_get acks (j - 1))

-- the greatest number up to k that passes, or 0
abbrev pub most : (ℕ → Bool) → ℕ → ℕ
most p zero = 0
most p (suc k) = if p (suc k) then suc k else most p k

abbrev pub follows : {E : Type 0} → Role E → Bool
follows Follower = true
follows (Candidate promises) = false
follows (Leader acks) = false

abbrev pub leads : {E : Type 0} → Role E → Bool
leads Follower = false
leads (Candidate promises) = false
leads (Leader acks) = true

-- MESSAGES: the ballot that one speaks of, if any
abbrev pub ballot_in : {E : Type 0} → BallotMessage E → Option ℕ
ballot_in (NewBallot b) = Some b
ballot_in (Promise b accepted base tail) = Some b
ballot_in (NewState b base tail) = Some b
ballot_in (Accept b slot entry) = Some b
ballot_in (Accepted b length) = Some b
ballot_in (CatchUp length) = None
ballot_in (Learn first entries) = None

-- it speaks of a ballot below b
abbrev pub is_below : ℕ → Option ℕ → Bool
is_below b None = false
is_below b (Some a) = nat_lt a b

-- the same message to every other site
abbrev pub to_others : {E : Type 0} → BallotLog E → BallotMessage E → List (ℕ × BallotMessage E)
to_others c m = map (λ j. (j, m)) (others c)

-- a site's log before anything happened: site 1 leads ballot 1, and each site has acknowledged nothing of it
abbrev pub opening : {E : Type 0} → ℕ → ℕ → BallotLog E
opening f s =
    record { f = f; site = s; ballot = 1; accepted = 1; chosen = []; tail = []; role = if s == 1 then Leader first_acks else Follower }

-- what a message may hold: ballots up to the last, tails and pages of at most 8 entries
abbrev pub IsMessage : {E : Type 0} → BallotMessage E → Type 0
IsMessage (NewBallot b) = b ≤ LAST
IsMessage (Promise b accepted base tail) = length tail ≤ WINDOW
IsMessage (NewState b base tail) = (b ≤ LAST) × (length tail ≤ WINDOW)
IsMessage (Accept b slot entry) = Unit {0}
IsMessage (Accepted b n) = Unit {0}
IsMessage (CatchUp n) = Unit {0}
IsMessage (Learn first es) = length es ≤ WINDOW

-- promises with tails of at most 8 entries
abbrev pub ArePromises : {E : Type 0} → List (PromisedLog E) → Type 0
ArePromises [] = Unit {0}
ArePromises (v ∷ vs) = (length v.tail ≤ WINDOW) × ArePromises vs

abbrev pub IsRole : {E : Type 0} → Role E → Type 0
IsRole Follower = Unit {0}
IsRole (Candidate promises) = ArePromises promises
IsRole (Leader acks) = Unit {0}

-- a log that the calls keep: one of 2f + 1 sites of which f may be lost, with a ballot up to the last and tails of at most 8
pub record IsLog {E : Type 0} (c : BallotLog E) : Type 0 where
  pub few_sites : c.f ≤ 4
  pub first_site : 1 ≤ c.site
  pub last_site : c.site ≤ 2 * c.f + 1
  pub ballot : c.ballot ≤ LAST
  pub tail : length c.tail ≤ WINDOW
  pub role : IsRole c.role
