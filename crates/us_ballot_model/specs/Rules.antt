-- What a site does to its ballot log: one definition a rule.
use Rattle.std.specs.Prelude.{ℕ, ◌+◌, ◌-◌, List, [], ◌∷◌, ◌++◌, length, map, filter, take, drop}
use Rattle.std.specs.Prelude.{max, Bool, false, not, ◌&&◌, ◌==◌, if◌then◌else◌, nat_lt, nat_le, Option, Some, None, slice_set}
use Rattle.std.specs.List.{flat_map, starts_with}
use Rattle.us_ballot_model.specs.declared.log.PromisedLog.{PromisedLog}
use Rattle.us_ballot_model.specs.declared.log.Role.{Role}
use Rattle.us_ballot_model.specs.declared.log.Role.TheVariants.{Follower, Candidate, Leader}
use Rattle.us_ballot_model.specs.declared.log.BallotLog.{BallotLog}
use Rattle.us_ballot_model.specs.declared.message.BallotMessage.{BallotMessage}
use Rattle.us_ballot_model.specs.declared.message.BallotMessage.TheVariants.{NewBallot, Promise, NewState, Accept, Accepted, CatchUp, Learn}
use Rattle.us_ballot_model.specs.declared.message.BallotOut.{BallotOut}
use Rattle.us_ballot_model.specs.declared.message.Appended.{Appended}
use Rattle.us_ballot_model.specs.declared.message.Appended.TheVariants.{In, NotLeader, Full}
use Rattle.us_ballot_model.specs.Ballots.{others, owner, next_ballot, LAST, count, held, WINDOW, own_promise}
use Rattle.us_ballot_model.specs.Ballots.{has_promised, best, no_acks, backers, ack_of, most, follows, leads, to_others}

-- a log after a step, and what the step gives
pub record Stepped (E : Type 0) : Type 0 where
  pub log : BallotLog E
  pub out : BallotOut E

-- these messages
abbrev pub sending : {E : Type 0} → BallotLog E → List (ℕ × BallotMessage E) → Stepped E
sending c ms = record { log = c; out = record { sends = ms; chosen = [] } }

abbrev pub dropped : {E : Type 0} → BallotLog E → Stepped E
dropped c = sending c []

-- these messages and chosen entries, and then the rest of the step
abbrev pub before : {E : Type 0} → List (ℕ × BallotMessage E) → List E → Stepped E → Stepped E
before ms es r = record { log = r.log; out = record { sends = ms ++ r.out.sends; chosen = es ++ r.out.chosen } }

-- ADVANCE: what f + 1 sites hold, the leader among them, is chosen. Of the tail these are so many entries
abbrev pub ready : {E : Type 0} → BallotLog E → List (Option ℕ) → ℕ
ready c acks = most (λ k. nat_le c.f (backers acks (count c + k))) (length c.tail)

abbrev pub advanced : {E : Type 0} → BallotLog E → ℕ → Stepped E
advanced c k =
    record {
      log = record c { chosen = c.chosen ++ take k c.tail; tail = drop k c.tail };
      out = record { sends = to_others c (Learn (count c + 1) (take k c.tail)); chosen = take k c.tail };
    }

abbrev pub advance_by : {E : Type 0} → BallotLog E → ℕ → Stepped E
advance_by c k = if nat_lt 0 k then advanced c k else dropped c

abbrev pub ready_as : {E : Type 0} → BallotLog E → Role E → ℕ
ready_as c Follower = 0
ready_as c (Candidate promises) = 0
ready_as c (Leader acks) = ready c acks

unfoldable pub advance : {E : Type 0} → BallotLog E → Stepped E
advance c = advance_by c (ready_as c c.role)

-- START, with f + 1 promises: the best one's entries behind what is chosen here are the tail of the ballot
abbrev pub led : {E : Type 0} → BallotLog E → PromisedLog E → BallotLog E
led c v = record c { tail = drop (count c - v.base) v.tail; accepted = c.ballot; role = Leader no_acks }

abbrev pub begin : {E : Type 0} → BallotLog E → Stepped E
begin c = before (to_others c (NewState c.ballot (count c) c.tail)) [] (advance c)

-- where the best promise has more chosen entries, it is asked for them first
abbrev pub start_by : {E : Type 0} → BallotLog E → PromisedLog E → Stepped E
start_by c v = if nat_lt (count c) v.base then sending c ((v.site, CatchUp (count c)) ∷ []) else begin (led c v)

abbrev pub best_of : {E : Type 0} → List (PromisedLog E) → Option (PromisedLog E)
best_of [] = None
best_of (v ∷ vs) = Some (best v vs)

-- the best promise, where a collector has f + 1
abbrev pub due : {E : Type 0} → BallotLog E → Role E → Option (PromisedLog E)
due c Follower = None
due c (Candidate promises) = if nat_lt c.f (length promises) then best_of promises else None
due c (Leader acks) = None

abbrev pub start_with : {E : Type 0} → BallotLog E → Option (PromisedLog E) → Stepped E
start_with c None = dropped c
start_with c (Some v) = start_by c v

unfoldable pub start : {E : Type 0} → BallotLog E → Stepped E
start c = start_with c (due c c.role)

-- LEAD: the next ballot of its own
abbrev pub collecting : {E : Type 0} → BallotLog E → ℕ → BallotLog E
collecting c b = record c { ballot = b; role = Candidate (own_promise c ∷ []) }

abbrev pub lead_in : {E : Type 0} → BallotLog E → ℕ → Stepped E
lead_in c b = if nat_lt LAST b then dropped c else before (to_others c (NewBallot b)) [] (start (collecting c b))

unfoldable pub lead : {E : Type 0} → BallotLog E → Stepped E
lead c = lead_in c (next_ballot c.f c.site c.ballot)

-- NEWBALLOT: the ballot is its owner's and not below the own one
abbrev pub may_follow : {E : Type 0} → BallotLog E → ℕ → ℕ → Bool
may_follow c from b = nat_le c.ballot b && (owner c.f b == from)

abbrev pub following : {E : Type 0} → BallotLog E → ℕ → BallotLog E
following c b = record c { ballot = b; role = Follower }

unfoldable pub new_ballot : {E : Type 0} → BallotLog E → ℕ → ℕ → Stepped E
new_ballot c from b =
    if may_follow c from b
    then sending (following c b) ((from, Promise b c.accepted (count c) c.tail) ∷ [])
    else dropped c

-- PROMISE: a collector takes one of each site until it has f + 1
abbrev pub may_record : {E : Type 0} → BallotLog E → List (PromisedLog E) → ℕ → ℕ → Bool
may_record c promises from b = (b == c.ballot) && (nat_le (length promises) c.f && not (has_promised promises from))

abbrev pub may_promise : {E : Type 0} → BallotLog E → ℕ → ℕ → Role E → Bool
may_promise c from b Follower = false
may_promise c from b (Candidate promises) = may_record c promises from b
may_promise c from b (Leader acks) = false

abbrev pub with_promise : {E : Type 0} → Role E → PromisedLog E → Role E
with_promise Follower v = Follower
with_promise (Candidate promises) v = Candidate (promises ++ v ∷ [])
with_promise (Leader acks) v = Leader acks

abbrev pub recorded : {E : Type 0} → BallotLog E → PromisedLog E → BallotLog E
recorded c v = record c { role = with_promise c.role v }

unfoldable pub promise : {E : Type 0} → BallotLog E → ℕ → PromisedLog E → Stepped E
promise c b v = if may_promise c v.site b c.role then start (recorded c v) else dropped c

-- NEWSTATE: the entries behind what is chosen here are the tail of the ballot, unless the tail is of it already
abbrev pub restated : {E : Type 0} → BallotLog E → ℕ → ℕ → List E → BallotLog E
restated c b base tail = if nat_lt c.accepted b then record c { tail = drop (count c - base) tail; accepted = b } else c

abbrev pub acknowledging : {E : Type 0} → BallotLog E → ℕ → ℕ → Stepped E
acknowledging c from b = sending c ((from, Accepted b (held c)) ∷ [])

-- where the leader has more chosen entries, it is asked for them first
abbrev pub state_in : {E : Type 0} → BallotLog E → ℕ → ℕ → ℕ → List E → Stepped E
state_in c from b base tail =
    if nat_lt (count c) base then sending c ((from, CatchUp (count c)) ∷ []) else acknowledging (restated c b base tail) from b

unfoldable pub new_state : {E : Type 0} → BallotLog E → ℕ → ℕ → ℕ → List E → Stepped E
new_state c from b base tail = if may_follow c from b then state_in (following c b) from b base tail else dropped c

-- ACCEPT: the next entry of the ballot's log joins the tail
abbrev pub may_accept : {E : Type 0} → BallotLog E → ℕ → ℕ → Bool
may_accept c from b = follows c.role && ((owner c.f b == from) && ((b == c.ballot) && (b == c.accepted)))

abbrev pub joined : {E : Type 0} → BallotLog E → E → BallotLog E
joined c e = record c { tail = c.tail ++ e ∷ [] }

abbrev pub accept_in : {E : Type 0} → BallotLog E → ℕ → E → BallotLog E
accept_in c slot e = if (slot == held c + 1) && nat_lt (length c.tail) WINDOW then joined c e else c

abbrev pub tell_accepted : {E : Type 0} → BallotLog E → ℕ → ℕ → ℕ → Stepped E
tell_accepted c from b slot = if nat_le slot (held c) then acknowledging c from b else dropped c

unfoldable pub accept : {E : Type 0} → BallotLog E → ℕ → ℕ → ℕ → E → Stepped E
accept c from b slot e = if may_accept c from b then tell_accepted (accept_in c slot e) from b slot else dropped c

-- ACCEPTED: the acknowledgement rises
abbrev pub risen : Option ℕ → ℕ → ℕ
risen None n = n
risen (Some m) n = max m n

abbrev pub raised : List (Option ℕ) → ℕ → ℕ → List (Option ℕ)
raised acks from n = slice_set acks (from - 1) (Some (risen (ack_of acks from) n))

abbrev pub with_ack : {E : Type 0} → Role E → ℕ → ℕ → Role E
with_ack Follower from n = Follower
with_ack (Candidate promises) from n = Candidate promises
with_ack (Leader acks) from n = Leader (raised acks from n)

abbrev pub heard : {E : Type 0} → BallotLog E → ℕ → ℕ → BallotLog E
heard c from n = record c { role = with_ack c.role from n }

abbrev pub may_hear : {E : Type 0} → BallotLog E → ℕ → ℕ → Bool
may_hear c b n = leads c.role && ((b == c.ballot) && nat_le n (held c))

unfoldable pub accepted : {E : Type 0} → BallotLog E → ℕ → ℕ → ℕ → Stepped E
accepted c from b n = if may_hear c b n then advance (heard c from n) else dropped c

-- CATCHUP: the next chosen entries
unfoldable pub catch_up : {E : Type 0} → BallotLog E → ℕ → ℕ → Stepped E
catch_up c from n = if nat_lt n (count c) then sending c ((from, Learn (n + 1) (take WINDOW (drop n c.chosen))) ∷ []) else dropped c

-- LEARN: entries behind the chosen ones join them. The tail loses, entry by entry, its head where that is equal, and else
-- all: it is left what stands behind these entries where it begins with them
abbrev pub trimmed : {E : Type 0} → (E → E → Bool) → List E → List E → List E
trimmed eq tail es = if starts_with eq tail es then drop (length es) tail else []

abbrev pub learnt : {E : Type 0} → (E → E → Bool) → BallotLog E → List E → BallotLog E
learnt eq c es = record c { chosen = c.chosen ++ es; tail = trimmed eq c.tail es }

-- of entries from slot `first` on so many are chosen already
abbrev pub known : {E : Type 0} → BallotLog E → ℕ → ℕ
known c first = count c - (first - 1)

-- they leave no gap, and some of them are new
abbrev pub may_learn : {E : Type 0} → BallotLog E → ℕ → List E → Bool
may_learn c first es = nat_le (first - 1) (count c) && nat_lt (known c first) (length es)

abbrev pub learn_from : {E : Type 0} → (E → E → Bool) → BallotLog E → List E → Stepped E
learn_from eq c es = before [] es (start (learnt eq c es))

unfoldable pub learn : {E : Type 0} → (E → E → Bool) → BallotLog E → ℕ → List E → Stepped E
learn eq c first es = if may_learn c first es then learn_from eq c (drop (known c first) es) else dropped c

-- any message
unfoldable pub take_message : {E : Type 0} → (E → E → Bool) → BallotLog E → ℕ → BallotMessage E → Stepped E
take_message eq c from (NewBallot b) = new_ballot c from b
take_message eq c from (Promise b accepted base tail) = promise c b (record { site = from; accepted = accepted; base = base; tail = tail })
take_message eq c from (NewState b base tail) = new_state c from b base tail
take_message eq c from (Accept b slot e) = accept c from b slot e
take_message eq c from (Accepted b n) = accepted c from b n
take_message eq c from (CatchUp n) = catch_up c from n
take_message eq c from (Learn first es) = learn eq c first es

-- TICK: every other site is asked for chosen entries. A collector asks again for promises, a leader repeats what a site
-- hasn't acknowledged
abbrev pub missing : {E : Type 0} → BallotLog E → List (PromisedLog E) → List ℕ
missing c promises = filter (λ j. not (has_promised promises j)) (others c)

abbrev pub accepts : {E : Type 0} → ℕ → ℕ → ℕ → List E → List (ℕ × BallotMessage E)
accepts j b slot [] = []
accepts j b slot (e ∷ es) = (j, Accept b slot e) ∷ accepts j b (slot + 1) es

abbrev pub accepts_after : {E : Type 0} → BallotLog E → ℕ → ℕ → List (ℕ × BallotMessage E)
accepts_after c j n = accepts j c.ballot (n + 1) (drop (n - count c) c.tail)

abbrev pub repeated : {E : Type 0} → BallotLog E → ℕ → Option ℕ → List (ℕ × BallotMessage E)
repeated c j None = (j, NewState c.ballot (count c) c.tail) ∷ []
repeated c j (Some n) = accepts_after c j (max n (count c))

abbrev pub repeats : {E : Type 0} → BallotLog E → Role E → List (ℕ × BallotMessage E)
repeats c Follower = []
repeats c (Candidate promises) = if nat_lt c.f (length promises) then [] else map (λ j. (j, NewBallot c.ballot)) (missing c promises)
repeats c (Leader acks) = flat_map (λ j. repeated c j (ack_of acks j)) (others c)

unfoldable pub tick : {E : Type 0} → BallotLog E → Stepped E
tick c = sending c (to_others c (CatchUp (count c)) ++ repeats c c.role)

-- APPEND: a leader puts an entry into the next slot
abbrev pub may_append : {E : Type 0} → BallotLog E → Bool
may_append c = leads c.role && nat_lt (length c.tail) WINDOW

abbrev pub put_in : {E : Type 0} → BallotLog E → E → Stepped E
put_in c e = before (to_others c (Accept c.ballot (held c + 1) e)) [] (advance (joined c e))

unfoldable pub append : {E : Type 0} → BallotLog E → E → Stepped E
append c e = if may_append c then put_in c e else dropped c

-- what is answered
unfoldable pub append_answer : {E : Type 0} → BallotLog E → E → Appended E
append_answer c e = if leads c.role then (if nat_lt (length c.tail) WINDOW then In (append c e).out else Full e) else NotLeader e
